-- What is tested of each event of a condition, beside its place in the grammar.
use Rattle.std.specs.Prelude.{ℕ, ◌+◌, ◌-◌, Bool, false, cond, ◌||◌, List, [], ◌∷◌, Some, None, Ok, Err, Option, Result, nat_le, nat_lt}
use Rattle.kinds.specs.Kinds.{same}
use Rattle.kinds.specs.declared.kind.SyntaxKind.{SyntaxKind}
use Rattle.kinds.specs.declared.kind.SyntaxKind.TheVariants.{ERROR, IDENT, PATTERN_IDENT, PATTERN_COUNT, PATTERN_OFFSET, PATTERN_LENGTH, INTEGER_LIT, FLOAT_LIT, STRING_LIT, REGEXP}
use Rattle.syntax.specs.declared.event.Event.{Event}
use Rattle.syntax.specs.declared.event.Event.TheVariants.{Error, Begin, End, Token}
use Rattle.syntax.specs.declared.span.Span.{Span}
use Rattle.refusal.specs.declared.refusal.Refusal.{Refusal}
use Rattle.literal.specs.Floats.{float_of}
use Rattle.literal.specs.Integers.{integer_of, negated}
use Rattle.literal.specs.Regexps.{regexp_of}
use Rattle.literal.specs.Strings.{string_of}
use Rattle.literal.specs.Texts.{text_of}
use Rattle.literal.specs.declared.integer.Integer.{Integer}
use Rattle.operators.specs.Levels.{among}
use Rattle.grammar.specs.Words.{Word}
use Rattle.grammar.specs.Grammar.{T}
use Rattle.grammar.specs.Nodes.{up_to}
use Rattle.grammar.specs.Built.{tree-T, integer-T}

-- a node that the syntax parser could not read
abbrev pub is_damaged : Event → Bool
is_damaged (Error m s) = false
is_damaged (Begin k s) = same k ERROR
is_damaged (End k s) = false
is_damaged (Token k s) = false

-- where the last token of a word ends, if it is not before a place
abbrev pub last_end : ℕ → Word → ℕ
last_end n [] = n
last_end n (Error m s ∷ w) = last_end n w
last_end n (Begin k s ∷ w) = last_end n w
last_end n (End k s ∷ w) = last_end n w
last_end n (Token k s ∷ w) = last_end s.end w

-- a token behind a word that is reversed, lies outside a source of so many bytes, or begins before the one before it ends
abbrev pub is_misplaced : ℕ → Word → Event → Bool
is_misplaced len u (Error m s) = false
is_misplaced len u (Begin k s) = false
is_misplaced len u (End k s) = false
is_misplaced len u (Token k s) = nat_lt s.end s.start || (nat_lt len s.end || nat_lt s.start (last_end 0 u))

-- how many nodes are open behind a word, from a number on
abbrev pub opens : ℕ → Word → ℕ
opens n [] = n
opens n (Error m s ∷ w) = opens n w
opens n (Begin k s ∷ w) = opens (n + 1) w
opens n (End k s ∷ w) = opens (n - 1) w
opens n (Token k s ∷ w) = opens n w

-- a Begin where 3,000 nodes are open
abbrev pub is_too_deep : Word → Event → Bool
is_too_deep u (Error m s) = false
is_too_deep u (Begin k s) = nat_le 3000 (opens 0 u)
is_too_deep u (End k s) = false
is_too_deep u (Token k s) = false

abbrev pub refusal_in : {A : Type 0} → Result A Refusal → Option Refusal
refusal_in (Ok x) = None
refusal_in (Err r) = Some r

-- the kinds of token that are names
abbrev pub names : List SyntaxKind
names = IDENT ∷ PATTERN_IDENT ∷ PATTERN_COUNT ∷ PATTERN_OFFSET ∷ PATTERN_LENGTH ∷ []

-- why a token cannot be decoded
unfoldable pub token_refusal : List ℕ → Event → Option Refusal
token_refusal source (Error m s) = None
token_refusal source (Begin k s) = None
token_refusal source (End k s) = None
token_refusal source (Token k s) =
    cond (among k names) (refusal_in (text_of source s))
    (cond (same k INTEGER_LIT) (refusal_in (integer_of source s))
    (cond (same k FLOAT_LIT) (refusal_in (float_of source s))
    (cond (same k STRING_LIT) (refusal_in (string_of source s 0))
    (cond (same k REGEXP) (refusal_in (regexp_of source s)) None))))

abbrev pub sign_refusal : Option Integer → Span → Option Refusal
sign_refusal None s = None
sign_refusal (Some i) s = refusal_in (negated i s)

-- a refusal of bytes as text comes before any other
abbrev pub text_first : Result (List ℕ) Refusal → Option Refusal → Option Refusal
text_first (Ok bytes) o = o
text_first (Err r) o = Some r

-- why a minus sign before a term is refused: its bytes are no text, or no number is so small
unfoldable pub minus_refusal : List ℕ → Span → T → Option Refusal
minus_refusal source s t =
    text_first (text_of source (up_to s (tree-T source t))) (sign_refusal (integer-T source t) (up_to s (tree-T source t)))
