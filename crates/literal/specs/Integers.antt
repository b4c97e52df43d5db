-- Integer literals.
use Rattle.std.specs.Prelude.{ℕ, ◌-◌, ◌*◌, ◌^◌, Bool, false, cond, ◌&&◌, List, [], ◌∷◌, length, take, ℤ, pos, negsuc, ◌-ℤ◌, neg_ℤ, Some, None, Ok, Err, Option, Result, ◌==◌, int_lt, nat_le, nat_lt, slice_index}
use Rattle.std.specs.Option.{option_map, ok_or}
use Rattle.syntax.specs.declared.span.Span.{Span}
use Rattle.literal.specs.declared.integer.Integer.{Integer}
use Rattle.refusal.specs.declared.refusal.Refusal.{Refusal}
use Rattle.refusal.specs.declared.refusal.Refusal.TheVariants.{InvalidInteger}
use Rattle.literal.specs.Digits.{written, without, up_to}
use Rattle.literal.specs.Texts.{place_in, text_of, and_then, or_else}

-- whether a text ends with a letter and then `B`
abbrev pub ends : ℕ → List ℕ → Bool
ends c t = nat_le 2 (length t) && (slice_index t (length t - 2) == c && slice_index t (length t - 1) == 66)

-- what stands before the suffix `KB` or `MB`, and what the suffix multiplies by
abbrev pub before : List ℕ → List ℕ
before t = cond (ends 75 t) (take (length t - 2) t) (cond (ends 77 t) (take (length t - 2) t) t)

abbrev pub factor : List ℕ → ℕ
factor t = cond (ends 75 t) 1024 (cond (ends 77 t) 1048576 1)

-- what stands behind a zero and a letter, where a text begins with them
abbrev pub behind : ℕ → List ℕ → Option (List ℕ)
behind c [] = None
behind c (a ∷ []) = None
behind c (a ∷ b ∷ bs) = cond (a == 48 && b == c) (Some bs) None

-- the number that a text without a suffix writes: hexadecimal behind `0x`, which is looked for once underscores are gone,
-- octal behind `0o`, which is looked for before, and else decimal
abbrev pub plain_number : List ℕ → Option ℕ
plain_number t = or_else (behind 120 (without t)) (λ ds. written 16 ds) (or_else (behind 111 t) (λ ds. written 8 (without ds)) (written 10 (without t)))

-- the number that a literal writes
abbrev pub integer_number : List ℕ → Option ℕ
integer_number t = option_map (λ n. n * factor t) (plain_number (before t))

-- 64 bits read as a signed number
abbrev pub pattern : ℕ → ℤ
pattern n = cond (nat_lt n (2 ^ 63)) (pos n) (pos n -ℤ pos (2 ^ 64))

-- a number of 64 bits as a literal: its pattern, and whether it is above 2 ^ 63 − 1
abbrev pub literal : ℕ → Span → Integer
literal n name = record { value = pattern n; unsigned = nat_le (2 ^ 63) n; name = name }

-- what a text is as an integer literal
abbrev pub as_integer : List ℕ → Span → Result Integer Refusal
as_integer t s =
    ok_or (option_map (λ n. literal n (place_in s 0 (length (before t)))) (up_to (2 ^ 64 - 1) (integer_number t))) (InvalidInteger s)

-- the integer literal that a span covers
abbrev pub integer_of : List ℕ → Span → Result Integer Refusal
integer_of source s = and_then (text_of source s) (λ t. as_integer t s)

-- ---- a minus sign before an integer literal

abbrev pub is_positive : ℤ → Bool
is_positive z = int_lt (pos 0) z

-- whether a number is −2 ^ 63, the pattern of the unsigned 2 ^ 63
abbrev pub is_least : ℤ → Bool
is_least (pos n) = false
is_least (negsuc n) = n == 2 ^ 63 - 1

-- The literal that sign and literal make together, its text the bytes from the sign on: of a positive number, and of the unsigned 2 ^ 63.
-- None where the sign stays a Minus: before zero and negative numbers. Refused before any other unsigned number.
abbrev pub negated : Integer → Span → Result (Option Integer) Refusal
negated i s =
    cond i.unsigned
    (cond (is_least i.value) (Ok (Some (record { value = i.value; unsigned = false; name = s }))) (Err (InvalidInteger s)))
    (cond (is_positive i.value) (Ok (Some (record { value = neg_ℤ i.value; unsigned = false; name = s }))) (Ok None))
