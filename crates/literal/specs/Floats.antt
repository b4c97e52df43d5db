-- Float literals.
use Rattle.std.specs.Prelude.{◌≡◌, ℕ, ◌^◌, ◌≤◌, false, cond, ◌&&◌, List, [], ◌∷◌, ◌++◌, length, pos, Ok, Err, Option, Result, ◌==◌, nat_le, Float}
use Rattle.std.specs.Float.{binary64}
use Rattle.std.specs.Float.Ieee.{div, of_int, round}
use Rattle.std.specs.Float.Ieee.Exact.{HasValue}
use Rattle.std.specs.Option.{option_map}
use Rattle.syntax.specs.declared.span.Span.{Span}
use Rattle.refusal.specs.declared.refusal.Refusal.{Refusal}
use Rattle.refusal.specs.declared.refusal.Refusal.TheVariants.{InvalidFloat, FloatTooLong}
use Rattle.literal.specs.Digits.{written, without}
use Rattle.literal.specs.Texts.{text_of, and_then, or_else}

-- what stands before the first dot of a text, and what behind it
abbrev pub whole : List ℕ → List ℕ
whole [] = []
whole (b ∷ bs) = cond (b == 46) [] (b ∷ whole bs)

abbrev pub fraction : List ℕ → List ℕ
fraction [] = []
fraction (b ∷ bs) = cond (b == 46) bs (fraction bs)

-- all digits of a text as a whole number, and how many of them stand behind the dot, where it is digits and at most one dot
abbrev pub decimal_of : List ℕ → Option (ℕ × ℕ)
decimal_of t = option_map (λ d. (d, length (fraction t))) (written 10 (whole t ++ fraction t))

-- the exact value d / 10 ^ k, rounded once to the nearest float; refused where d or 10 ^ k is no float itself
abbrev pub rounded : ℕ × ℕ → Span → Result Float Refusal
rounded p s = cond (nat_le p.0 (2 ^ 53) && nat_le p.1 15) (Ok (round binary64 false p.0 (10 ^ p.1))) (Err (FloatTooLong s))

-- what a text is as a float literal
abbrev pub as_float : List ℕ → Span → Result Float Refusal
as_float t s = or_else (decimal_of (without t)) (λ p. rounded p s) (Err (InvalidFloat s))

-- the float literal that a span covers
abbrev pub float_of : List ℕ → Span → Result Float Refusal
float_of source s = and_then (text_of source s) (λ t. as_float t s)

-- the law: both parts are floats, without any rounding, and the value is their quotient by IEEE 754
pub record Quotients : Type 0 where
  pub digits : (d : ℕ) → d ≤ 2 ^ 53 → HasValue (of_int binary64 (pos d)) false d 1
  pub power : (k : ℕ) → k ≤ 15 → HasValue (of_int binary64 (pos (10 ^ k))) false (10 ^ k) 1
  pub divided : (d k : ℕ) → d ≤ 2 ^ 53 → k ≤ 15 → div binary64 (of_int binary64 (pos d)) (of_int binary64 (pos (10 ^ k))) ≡ round binary64 false d (10 ^ k)
