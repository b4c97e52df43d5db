-- String literals.
use Rattle.std.specs.Prelude.{ℕ, ◌+◌, ◌-◌, Bool, cond, ◌&&◌, List, [], length, take, drop, Some, None, Ok, Err, Option, Result, ◌==◌, nat_le, slice_index}
use Rattle.syntax.specs.declared.span.Span.{Span}
use Rattle.refusal.specs.declared.refusal.Refusal.{Refusal}
use Rattle.refusal.specs.declared.refusal.Refusal.TheVariants.{BadToken, InvalidEscape}
use Rattle.literal.specs.declared.string.StringValue.{StringValue}
use Rattle.literal.specs.declared.string.StringValue.TheVariants.{Source, Decoded}
use Rattle.literal.specs.Escapes.{reading}
use Rattle.literal.specs.Regexps.{has}
use Rattle.literal.specs.Texts.{place_in, text_of, and_then, or_else}
use Rattle.literal.specs.Utf8.{char_bytes}

abbrev pub quote_at : List ℕ → ℕ → Bool
quote_at t i = slice_index t i == 34

-- whether a text begins with three quotes
abbrev pub opens_three : List ℕ → Bool
opens_three t = quote_at t 0 && (quote_at t 1 && quote_at t 2)

-- whether it ends with three others
abbrev pub closes_three : List ℕ → Bool
closes_three t = nat_le 6 (length t) && (quote_at t (length t - 3) && (quote_at t (length t - 2) && quote_at t (length t - 1)))

-- whether it begins with a quote and ends with another
abbrev pub quoted : List ℕ → Bool
quoted t = nat_le 2 (length t) && (quote_at t 0 && quote_at t (length t - 1))

-- how many quotes stand on each side, and what stands between: three on each side of a text that begins with three, else one
abbrev pub inner : List ℕ → Option (ℕ × List ℕ)
inner t =
    cond (opens_three t)
    (cond (closes_three t) (Some (3, take (length t - 6) (drop 3 t))) None)
    (cond (quoted t) (Some (1, take (length t - 2) (drop 1 t))) None)

-- the place of a bad escape that a rest of a text begins with: the backslash and the next character, if there is one
abbrev pub escape_place : Span → List ℕ → List ℕ → Option Span
escape_place s t rest =
    cond (nat_le (length rest) 1) None
    (Some (place_in s (length t - length rest) (length t - length rest + 1 + char_bytes (drop 1 rest))))

-- the refusal of a text of which a rest begins with a bad escape: the backslash and the next character, if there is one;
-- q quotes stand before the text
abbrev pub escape_refusal : Span → ℕ → List ℕ → List ℕ → Refusal
escape_refusal s q t rest =
    cond (nat_le (length rest) 1) (BadToken s)
    (InvalidEscape (place_in s (q + (length t - length rest)) (q + (length t - length rest) + 1 + char_bytes (drop 1 rest))))

-- the value of what stands between the quotes: itself, or with a backslash the bytes that it stands for, which go to the decoded text
abbrev pub value_of : Span → ℕ → ℕ → List ℕ → Result StringValue Refusal
value_of s from q t =
    cond (has 92 t)
    (or_else (reading t).stop (λ rest. Err (escape_refusal s q t rest)) (Ok (Decoded from (length (reading t).bytes))))
    (Ok (Source (place_in s q (q + length t))))

-- what a text is as a string literal
abbrev pub as_string : List ℕ → Span → ℕ → Result StringValue Refusal
as_string t s from = or_else (inner t) (λ p. value_of s from p.0 p.1) (Err (BadToken s))

-- the string literal that a span covers
abbrev pub string_of : List ℕ → Span → ℕ → Result StringValue Refusal
string_of source s from = and_then (text_of source s) (λ t. as_string t s from)

-- what goes to the decoded text: what a string with a backslash stands for, up to a bad escape
abbrev pub decoded_in : List ℕ → List ℕ
decoded_in t = or_else (inner t) (λ p. cond (has 92 p.1) (reading p.1).bytes []) []

abbrev pub ok_or_none : {E : Type 0} → Result (List ℕ) E → List ℕ
ok_or_none (Ok t) = t
ok_or_none (Err e) = []

abbrev pub decoded_bytes : List ℕ → Span → List ℕ
decoded_bytes source s = decoded_in (ok_or_none (text_of source s))
