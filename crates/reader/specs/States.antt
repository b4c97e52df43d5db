-- What is known of the events that are read, and what is tested of the next one.
use Rattle.std.specs.Prelude.{◌≡◌, ℕ, Bool, true, false, cond, ◌||◌, List, [], ◌∷◌, ◌++◌, length, None, Ok, Err, Result, nat_le, nat_lt}
use Rattle.syntax.specs.Events.{span_at}
use Rattle.syntax.specs.declared.event.Event.{Event}
use Rattle.syntax.specs.declared.event.Event.TheVariants.{Error, Begin, End, Token}
use Rattle.refusal.specs.declared.refusal.Refusal.{Refusal}
use Rattle.refusal.specs.declared.refusal.Refusal.TheVariants.{Damaged, BadSpan}
use Rattle.grammar.specs.Words.{Word}
use Rattle.grammar.specs.Tests.{is_damaged, last_end, opens as opens_from, token_refusal}
use Rattle.grammar.specs.Causes.{Minus}

-- the source, the events read, where the last token among them ends and how many nodes they leave open
pub record State : Type 0 where
  pub source : List ℕ
  pub past : Word
  pub last : ℕ
  pub opens : ℕ

abbrev pub is_error : Event → Bool
is_error (Error m s) = true
is_error (Begin k s) = false
is_error (End k s) = false
is_error (Token k s) = false

-- the grammar's tests, is_misplaced and is_too_deep, over numbers, since a reader may be made with any numbers:
-- a token that is reversed, lies outside the source, or begins before the last one ends
abbrev pub misplaced : State → Event → Bool
misplaced st (Error m s) = false
misplaced st (Begin k s) = false
misplaced st (End k s) = false
misplaced st (Token k s) = nat_lt s.end s.start || (nat_lt (length st.source) s.end || nat_lt s.start st.last)

-- a Begin where 3,000 nodes are open
abbrev pub is_past_depth : State → Event → Bool
is_past_depth st (Error m s) = false
is_past_depth st (Begin k s) = nat_le 3000 st.opens
is_past_depth st (End k s) = false
is_past_depth st (Token k s) = false

-- the refusal of an event for what it is or where it stands
abbrev pub judged : State → Event → Result (Unit {0}) Refusal
judged st e =
    cond (is_damaged e) (Err (Damaged (span_at e))) (cond (misplaced st e) (Err (BadSpan (span_at e))) (Ok tt))

-- one event more, and a word more
abbrev pub step : State → Event → State
step st e =
    record { source = st.source; past = st.past ++ (e ∷ []); last = last_end st.last (e ∷ []); opens = opens_from st.opens (e ∷ []) }

abbrev pub after : State → Word → State
after st [] = st
after st (e ∷ w) = after (step st e) w

-- an event that is not refused for what it is, where it stands or how deep
pub record Passes (st : State) (e : Event) : Type 0 where
  pub sound : is_damaged e ≡ false
  pub placed : misplaced st e ≡ false
  pub shallow : is_past_depth st e ≡ false

-- and, if it is a token, can be decoded
pub record Clears (st : State) (e : Event) : Type 0 where
  pub passes : Passes st e
  pub decodes : token_refusal st.source e ≡ None

-- no minus sign is refused at it
abbrev pub NoMinus : State → Event → Type 0
NoMinus st e = (r : Refusal) → Minus st.source (st.past ++ (e ∷ [])) r → ⊥

-- the same of the last event of a word only if it is asked for
abbrev pub Judged : Bool → State → Event → Word → Type 0
Judged d st e [] = cond d (NoMinus st e) (Unit {0})
Judged d st e (e' ∷ w) = NoMinus st e

-- no event of a word is refused; but for a minus sign that the last one ends, which is left open if d is false
abbrev pub Clear : Bool → State → Word → Type 0
Clear d st [] = Unit {0}
Clear d st (e ∷ w) = Clears st e × Judged d st e w × Clear d (step st e) w
