-- Regular expressions.
use Rattle.std.specs.Prelude.{ℕ, suc, ◌+◌, Bool, false, cond, ◌||◌, List, [], ◌∷◌, drop, Some, None, Ok, Err, Option, Result, ◌==◌}
use Rattle.std.specs.Option.{option_map}
use Rattle.std.specs.Char.{len_utf8}
use Rattle.std.specs.Str.{chars}
use Rattle.syntax.specs.declared.span.Span.{Span}
use Rattle.refusal.specs.declared.refusal.Refusal.{Refusal}
use Rattle.refusal.specs.declared.refusal.Refusal.TheVariants.{BadToken, InvalidModifier}
use Rattle.literal.specs.declared.regexp.Regexp.{Regexp}
use Rattle.literal.specs.Texts.{place_in, text_of, and_then, or_else}

-- the place of the last slash
abbrev pub last_slash : List ℕ → Option ℕ
last_slash [] = None
last_slash (b ∷ bs) = or_else (last_slash bs) (λ n. Some (suc n)) (cond (b == 47) (Some 0) None)

-- where a regular expression ends: it begins with a slash, and ends at its last one, which is another
abbrev pub closing : List ℕ → Option ℕ
closing [] = None
closing (b ∷ bs) = cond (b == 47) (option_map suc (last_slash bs)) None

-- whether a character is among others
abbrev pub has : ℕ → List ℕ → Bool
has c [] = false
has c (d ∷ ds) = d == c || has c ds

-- the first character that is no modifier: how many bytes stand before it, and up to its end
abbrev pub no_modifier : ℕ → List ℕ → Option (ℕ × ℕ)
no_modifier at [] = None
no_modifier at (c ∷ cs) = cond (c == 105 || c == 115) (no_modifier (at + 1) cs) (Some (at, at + len_utf8 c))

-- whether the modifiers that stand some bytes behind the start of a token have an `i`, and an `s`
abbrev pub modifiers_of : Span → ℕ → List ℕ → Result (Bool × Bool) Refusal
modifiers_of s at cs =
    or_else (no_modifier at cs) (λ p. Err (InvalidModifier (place_in s p.0 p.1))) (Ok (has 105 cs, has 115 cs))

abbrev pub regexp_with : Span → Bool × Bool → Regexp
regexp_with body m = record { body = body; case_insensitive = m.0; dot_matches_new_line = m.1 }

-- what a text is as a regular expression
abbrev pub as_regexp : List ℕ → Span → Result Regexp Refusal
as_regexp t s =
    or_else (closing t)
    (λ n. and_then (modifiers_of s (n + 1) (chars (drop (n + 1) t))) (λ m. Ok (regexp_with (place_in s 1 n) m)))
    (Err (BadToken s))

-- the regular expression that a span covers
abbrev pub regexp_of : List ℕ → Span → Result Regexp Refusal
regexp_of source s = and_then (text_of source s) (λ t. as_regexp t s)
