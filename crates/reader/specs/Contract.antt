-- What a reader's calls do.
use Rattle.std.specs.Prelude.{◌≡◌, ◌≢◌, ℕ, ◌+◌, ◌<◌, ◌≤◌, Bool, true, false, cond, not, T, List, [], ◌∷◌, ◌++◌, length, take, drop, is_some, Some, Option, Result}
use Rattle.std.specs.Option as options
use Rattle.std.specs.Result as results
use Rattle.kinds.specs.Kinds.{same}
use Rattle.kinds.specs.declared.kind.SyntaxKind.{SyntaxKind}
use Rattle.kinds.specs.declared.kind.SyntaxKind.TheVariants.{IDENT, PATTERN_IDENT, PATTERN_COUNT, PATTERN_OFFSET, PATTERN_LENGTH, INTEGER_LIT, FLOAT_LIT, STRING_LIT, REGEXP, TERM}
use Rattle.syntax.specs.Events.{span_at}
use Rattle.syntax.specs.Spans.{span_of}
use Rattle.syntax.specs.declared.event.Event.{Event}
use Rattle.syntax.specs.declared.event.Event.TheVariants.{Token}
use Rattle.syntax.specs.declared.span.Span.{Span}
use Rattle.refusal.specs.declared.refusal.Refusal.{Refusal}
use Rattle.refusal.specs.declared.refusal.Refusal.TheVariants.{Damaged, BadSpan, OutOfPlace, TooDeep}
use Rattle.operators.specs.Levels.{level_of, strength, among}
use Rattle.grammar.specs.Words.{Word}
use Rattle.grammar.specs.Tests.{is_damaged, token_refusal}
use Rattle.grammar.specs.Causes.{Minus}
use Rattle.grammar.specs.Extents.{visible, entries_in, entries_before}
use Rattle.reader.specs.declared.mark.Mark.{Mark}
use Rattle.reader.specs.declared.mark.Mark.TheVariants as mark
use Rattle.reader.specs.declared.reader.Reader.{Reader}
use Rattle.reader.specs.Symbols.{Sym, spell, event, Fits, Ahead, Viable, Stuck, Short}
use Rattle.reader.specs.States.{State, misplaced, is_past_depth, step, after, Passes, Clears, Clear}

-- what is read, and what is left to read
pub record Conf : Type 0 where
  pub rest : Word
  pub state : State

abbrev pub state_of : Reader → State
state_of p = record { source = p.source.now; past = visible (take p.at p.row.now); last = p.last; opens = p.opens }

abbrev pub conf : Reader → Conf
conf p = record { rest = visible (drop p.at p.row.now); state = state_of p }

-- over the same source and row
pub record Kept (p p' : Reader) : Type 0 where
  pub row : p'.row ≡ p.row
  pub source : p'.source ≡ p.source

-- why a word of a symbol that began with u cannot go on with v: the tests are made in this order
pub data Blame {A : Type 0} (f : Sym A) (u : Word) (st : State) : Word → Refusal → Type 0 where
  damaged : {e : Event} {v : Word} → is_damaged e ≡ true → Blame f u st (e ∷ v) (Damaged (span_at e))
  bad_span : {e : Event} {v : Word} → is_damaged e ≡ false → misplaced st e ≡ true → Blame f u st (e ∷ v) (BadSpan (span_at e))
  out_of_place : {e : Event} {v : Word} → is_damaged e ≡ false → misplaced st e ≡ false → Stuck f u e → Blame f u st (e ∷ v) (OutOfPlace (span_at e))
  too_deep : {e : Event} {v : Word} → is_damaged e ≡ false → misplaced st e ≡ false → Viable f (u ++ (e ∷ [])) → is_past_depth st e ≡ true → Blame f u st (e ∷ v) (TooDeep (span_at e))
  token : {e : Event} {v : Word} {r : Refusal} → Passes st e → Viable f (u ++ (e ∷ [])) → token_refusal st.source e ≡ Some r → Blame f u st (e ∷ v) r
  minus : {e : Event} {v : Word} {r : Refusal} → Clears st e → Viable f (u ++ (e ∷ [])) → Minus st.source (st.past ++ (e ∷ [])) r → Blame f u st (e ∷ v) r
  over : Short f u → Blame f u st [] (OutOfPlace (span_of 0 0))

-- a word of the symbol is read; whether a minus sign that it may end is judged, d says
pub record Read {A : Type 0} (d : Bool) (f : Sym A) (a : A) (c c' : Conf) : Type 0 where
  pub word : Word
  pub split : c.rest ≡ word ++ c'.rest
  pub whole : (k : Word) → spell f a k ≡ word ++ k
  pub state : c'.state ≡ after c.state word
  pub clear : Clear d c.state word

-- a front of one is read, and the next event is refused, behind the events u of the row
pub record Fail {A : Type 0} (f : Sym A) (r : Refusal) (c : Conf) (u : Word) : Type 0 where
  pub before : Word
  pub others : Word
  pub split : c.rest ≡ before ++ others
  pub behind : u ≡ c.state.past ++ before
  pub viable : Viable f before
  pub clear : Clear true c.state before
  pub blame : Blame f before (after c.state before) others r

-- the Error events passed over are those in front of the event behind u
abbrev pub Stops : Reader → Word → Type 0
Stops p u = length (entries_in (take p.at p.row.now)) ≡ length (entries_before (length u) p.row.now)

-- the last event read is the last of the row that was passed
abbrev pub Fresh : Reader → Type 0
Fresh p = (u : Word) (e : Event) → (state_of p).past ≡ u ++ (e ∷ []) → Stops p u

pub record Failed {A : Type 0} (f : Sym A) (r : Refusal) (p p' : Reader) : Type 0 where
  pub place : Word
  pub fail : Fail f r (conf p) place
  pub stops : Stops p' place

pub record Done {A : Type 0} (d : Bool) (f : Sym A) (Post : A → Type 0) (p p' : Reader) : Type 0 where
  pub value : A
  pub read : Read d f value (conf p) (conf p')
  pub fresh : cond d (Unit {0}) (Fresh p')
  pub post : Post value

-- a call that reads a word of a symbol, with what holds then of its value and the answer
pub record Parses {A Y : Type 0} (d : Bool) (f : Sym A) (Post : A → Y → Type 0) (p p' : Reader) (r : Result Y Refusal) : Type 0 where
  pub kept : Kept p p'
  pub outcome : results.MatchResult r (λ y. Done d f (λ a. Post a y) p p') (λ e. Failed f e p p')

-- ---- single events

-- why the next event is not taken where one that fits is asked for: the tests are made in this order
pub data Untaken (Fit : Event → Type 0) (st : State) : Word → Refusal → Type 0 where
  damaged : {e : Event} {v : Word} → is_damaged e ≡ true → Untaken Fit st (e ∷ v) (Damaged (span_at e))
  bad_span : {e : Event} {v : Word} → is_damaged e ≡ false → misplaced st e ≡ true → Untaken Fit st (e ∷ v) (BadSpan (span_at e))
  out_of_place : {e : Event} {v : Word} → is_damaged e ≡ false → misplaced st e ≡ false → (Fit e → ⊥) → Untaken Fit st (e ∷ v) (OutOfPlace (span_at e))
  too_deep : {e : Event} {v : Word} → is_damaged e ≡ false → misplaced st e ≡ false → Fit e → is_past_depth st e ≡ true → Untaken Fit st (e ∷ v) (TooDeep (span_at e))
  over : Untaken Fit st [] (OutOfPlace (span_of 0 0))

-- nothing is read, and why; the Error events in front of the event that is refused are passed over
pub record Refused (Fit : Event → Type 0) (p p' : Reader) (r : Refusal) : Type 0 where
  pub same : conf p' ≡ conf p
  pub why : Untaken Fit (state_of p) (conf p).rest r
  pub stops : Stops p' (state_of p).past

-- an event that is shown: the next of the row
pub record Shown (p : Reader) (e : Event) : Type 0 where
  pub less : p.at < length p.row.now
  pub front : (conf p).rest ≡ e ∷ visible (drop (p.at + 1) p.row.now)
  pub past : visible (take (p.at + 1) p.row.now) ≡ (state_of p).past ++ (e ∷ [])
  pub errors : length (entries_in (take (p.at + 1) p.row.now)) ≡ length (entries_in (take p.at p.row.now))

pub record Peeked (p p' : Reader) (r : Option Event) : Type 0 where
  pub kept : Kept p p'
  pub same : conf p' ≡ conf p
  pub shown : options.MatchOption r ((conf p').rest ≡ []) (λ e. Shown p' e)
  pub stops : Stops p' (state_of p').past

pub record Saw (m : Mark) (p p' : Reader) (b : Bool) : Type 0 where
  pub kept : Kept p p'
  pub same : conf p' ≡ conf p
  pub told : cond b (Ahead (conf p).rest (Fits m)) (Ahead (conf p).rest (Fits m) → ⊥)

-- an event of the mark is taken, which passes; what it stands for is not tested
pub record Took (m : Mark) (s : Span) (p p' : Reader) : Type 0 where
  pub split : (conf p).rest ≡ event m s ∷ (conf p').rest
  pub state : state_of p' ≡ step (state_of p) (event m s)
  pub passes : Passes (state_of p) (event m s)
  pub fresh : Fresh p'

pub record Takes {Y : Type 0} (m : Mark) (At : Y → Span → Type 0) (p p' : Reader) (r : Result Y Refusal) : Type 0 where
  pub kept : Kept p p'
  pub outcome : results.MatchResult r (λ y. (s : Span) × At y s × Took m s p p') (λ e. Refused (Fits m) p p' e)

abbrev pub There : Span → Span → Type 0
There y s = y ≡ s

abbrev pub Anywhere : {Y : Type 0} → Y → Span → Type 0
Anywhere y s = Unit {0}

-- the kinds of token that are tested for what they stand for
abbrev pub tested : List SyntaxKind
tested = IDENT ∷ PATTERN_IDENT ∷ PATTERN_COUNT ∷ PATTERN_OFFSET ∷ PATTERN_LENGTH ∷ INTEGER_LIT ∷ FLOAT_LIT ∷ STRING_LIT ∷ REGEXP ∷ []

-- whether a token of a mark stands for nothing more than its kind
abbrev pub plain : Mark → Bool
plain (mark.Begin k) = true
plain (mark.End k) = true
plain (mark.Token k) = not (among k tested)

-- whether no minus sign is judged at an event of a mark
abbrev pub settles : Mark → Bool
settles (mark.Begin k) = true
settles (mark.End k) = not (same k TERM)
settles (mark.Token k) = true

-- the next event is an operator of at least some level
pub record Operates (least : ℕ) (k : SyntaxKind) (n : ℕ) (v : Word) : Type 0 where
  pub is : T (is_some (level_of k))
  pub level : n ≡ strength k
  pub least_is : least ≤ n
  pub ahead : Ahead v (Fits (mark.Token k))

-- or it is none
abbrev pub Weaker : ℕ → Word → Type 0
Weaker least v = (k : SyntaxKind) (s : Span) (w : Word) → T (is_some (level_of k)) → v ≡ Token k s ∷ w → strength k < least

pub record Compared (least : ℕ) (p p' : Reader) (r : Option (SyntaxKind × ℕ)) : Type 0 where
  pub kept : Kept p p'
  pub same : conf p' ≡ conf p
  pub told : options.MatchOption r (Weaker least (conf p).rest) (λ o. Operates least o.0 o.1 (conf p).rest)

-- nothing is left, or nothing fits
pub record Finished {Y : Type 0} (p p' : Reader) (r : Result Y Refusal) : Type 0 where
  pub kept : Kept p p'
  pub same : conf p' ≡ conf p
  pub told : results.MatchResult r (λ _. (conf p).rest ≡ []) (λ e. ((conf p).rest ≢ []) × Refused (λ _. ⊥) p p' e)
