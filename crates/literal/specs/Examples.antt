-- Literals worked out.
use Rattle.std.specs.Prelude.{◌≡◌, ℕ, ◌+◌, ◌-◌, ◌^◌, true, false, List, [], ◌∷◌, length, ℤ, pos, negsuc, Some, None, Ok, Err, codes, Option, Result}
use Rattle.std.specs.Float.{binary64}
use Rattle.std.specs.Float.Ieee.{round}
use Rattle.syntax.specs.declared.span.Span.{Span}
use Rattle.syntax.specs.Spans.{span_of}
use Rattle.literal.specs.declared.integer.Integer.{Integer}
use Rattle.refusal.specs.declared.refusal.Refusal.{Refusal}
use Rattle.refusal.specs.declared.refusal.Refusal.TheVariants.{InvalidInteger, InvalidEscape, FloatTooLong}
use Rattle.literal.specs.Floats.{float_of}
use Rattle.literal.specs.Integers.{integer_of, negated}
use Rattle.literal.specs.Strings.{string_of, decoded_in}
use Rattle.literal.specs.Texts.{and_then}

-- a text that is a source of its own, and its span
abbrev all : List ℕ → Span
all t = span_of 0 (length t)

abbrev integer : List ℕ → Result Integer Refusal
integer t = integer_of t (all t)

-- a minus sign straight before an integer literal
abbrev minus : List ℕ → Result (Option Integer) Refusal
minus t = and_then (integer_of (45 ∷ t) (span_of 1 (1 + length t))) (λ i. negated i (all (45 ∷ t)))

abbrev signed : ℤ → ℕ → Integer
signed v len = record { value = v; unsigned = false; name = span_of 0 len }

pub record Examples : Type 0 where
  pub large : integer (codes "8796093022208MB") ≡ Ok (record { value = negsuc (2 ^ 63 - 1); unsigned = true; name = span_of 0 13 })
  pub less : integer (codes "8796093022207MB") ≡ Ok (signed (pos 9223372036853727232) 13)
  pub least : minus (codes "9223372036854775808") ≡ Ok (Some (signed (negsuc (2 ^ 63 - 1)) 20))
  pub below : minus (codes "9223372036854775809") ≡ Err (InvalidInteger (span_of 0 20))
  pub zero : minus (codes "0") ≡ Ok None
  pub hexadecimal : integer (codes "0_x1F") ≡ Ok (signed (pos 31) 5)
  pub octal : integer (codes "0_o17") ≡ Err (InvalidInteger (span_of 0 5))
  pub escape : (from : ℕ) → string_of (codes "\"\\x4g\"") (span_of 0 6) from ≡ Err (InvalidEscape (span_of 1 3))
  pub escapes : decoded_in (codes "\"\\\\\\n\\r\\t\\0\\\"\\x41\"") ≡ 92 ∷ 10 ∷ 13 ∷ 9 ∷ 0 ∷ 34 ∷ 65 ∷ []
  pub exact : float_of (codes "900719925474099.2") (span_of 0 17) ≡ Ok (round binary64 false (2 ^ 53) 10)
  pub long : float_of (codes "900719925474099.3") (span_of 0 17) ≡ Err (FloatTooLong (span_of 0 17))
