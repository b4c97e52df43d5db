-- Steps of reading a number.
use Rattle.std.specs.Prelude.{ℕ, ◌+◌, ◌-◌, ◌*◌, ◌^◌, min, cond, ◌&&◌, List, [], ◌∷◌, Some, None, Option, ◌==◌, nat_lt}
use Rattle.std.specs.Option.{is_none, unwrap_or, option_map}
use Rattle.std.specs.Char.{digit_value}
use Rattle.literal.specs.declared.float.Decimal.{Decimal}

-- a number with one more digit, where the byte is a digit of the base and 64 bits hold the result
abbrev pub pushed : ℕ → ℕ → ℕ → Option ℕ
pushed base n d =
    cond (nat_lt (digit_value d) base) (cond (nat_lt (n * base + digit_value d) (2 ^ 64)) (Some (n * base + digit_value d)) None) None

-- what stands behind a letter that a text begins with
abbrev pub next : ℕ → List ℕ → Option (List ℕ)
next c [] = None
next c (b ∷ bs) = cond (b == c) (Some bs) None

-- ---- floats: digits so far, cut at the largest number of 64 bits, and how many behind the dot, if there was one

abbrev pub capped : ℕ → ℕ
capped n = min n (2 ^ 64 - 1)

-- with one digit more, and with a dot
abbrev pub with_digit : ℕ → Decimal → Decimal
with_digit v d = record { digits = Some (capped (unwrap_or d.digits 0 * 10 + v)); places = option_map (λ k. k + 1) d.places }

abbrev pub with_dot : Decimal → Decimal
with_dot d = record { digits = d.digits; places = Some 0 }

abbrev pub pushed_byte : Decimal → ℕ → Option Decimal
pushed_byte d b =
    cond (nat_lt (digit_value b) 10) (Some (with_digit (digit_value b) d)) (cond (b == 46 && is_none d.places) (Some (with_dot d)) None)

abbrev pub capped_pair : ℕ × ℕ → ℕ × ℕ
capped_pair p = (capped p.0, p.1)
