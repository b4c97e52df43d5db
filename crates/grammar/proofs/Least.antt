-- What a name, a literal or a minus sign is refused by has a number from 3 on.
use Rattle.std.proofs.Common.{ℕ, ◌+◌, ◌-◌, ◌^◌, ◌≤◌, Bool, true, false, cond, ◌&&◌, eqb, leb, List, length, drop, neg_ℤ, Some, None, Ok, Err, Option, Result, lit≤}
use lib.Ieee.{binary64, round}
use Rattle.std.specs.Option.{ok_or, option_map}
use Rattle.std.specs.Str.{chars}
use Rattle.syntax.specs.declared.event.Event.{Event}
use Rattle.syntax.specs.declared.event.Event.TheVariants.{Error, Begin, End, Token}
use Rattle.syntax.specs.declared.span.Span.{Span}
use Rattle.refusal.specs.Refusals.{facts_of}
use Rattle.refusal.specs.declared.refusal.Refusal.{Refusal}
use Rattle.refusal.specs.declared.refusal.Refusal.TheVariants.{InvalidUTF8, InvalidInteger, InvalidFloat, InvalidEscape, InvalidModifier, BadToken, FloatTooLong}
use Rattle.literal.specs.Digits.{without, up_to as at_most}
use Rattle.literal.specs.Escapes.{reading}
use Rattle.literal.specs.Floats.{float_of, as_float, decimal_of, rounded}
use Rattle.literal.specs.Integers.{integer_of, as_integer, integer_number, literal, before, is_least, is_positive}
use Rattle.literal.specs.Regexps.{regexp_of, as_regexp, regexp_with, closing, has, no_modifier, modifiers_of}
use Rattle.literal.specs.Strings.{string_of, as_string, value_of, inner, escape_refusal}
use Rattle.literal.specs.Texts.{part_of, place_in, text_of, and_then, or_else}
use Rattle.literal.specs.Utf8.{valid_prefix, char_bytes}
use Rattle.literal.specs.declared.string.StringValue.TheVariants.{Source, Decoded}
use Rattle.literal.specs.declared.integer.Integer.{Integer}
use Rattle.grammar.specs.Grammar.{T}
use Rattle.grammar.specs.Nodes.{up_to}
use Rattle.grammar.specs.Built.{tree-T, integer-T}
use Rattle.kinds.specs.Kinds.{same}
use Rattle.kinds.specs.declared.kind.SyntaxKind.TheVariants.{INTEGER_LIT, FLOAT_LIT, STRING_LIT, REGEXP}
use Rattle.operators.specs.Levels.{among}
use Rattle.grammar.specs.Tests.{names, refusal_in, token_refusal, sign_refusal, text_first, minus_refusal}

abbrev pub Least : Option Refusal → Type 0
Least None = Unit {0}
Least (Some r) = 3 ≤ (facts_of r).number

-- of each way to make a result
by_cond : {A : Type 0} (b : Bool) (x y : Result A Refusal) → Least (refusal_in x) → Least (refusal_in y) → Least (refusal_in (cond b x y))
by_cond true x y h k = h
by_cond false x y h k = k

by_then : {A B : Type 0} (x : Result A Refusal) (f : A → Result B Refusal) → Least (refusal_in x) → ((a : A) → Least (refusal_in (f a))) → Least (refusal_in (and_then x f))
by_then (Ok a) f h k = k a
by_then (Err r) f h k = h

by_else : {A B : Type 0} (o : Option A) (f : A → Result B Refusal) (y : Result B Refusal) → ((a : A) → Least (refusal_in (f a))) → Least (refusal_in y) → Least (refusal_in (or_else o f y))
by_else None f y h k = k
by_else (Some a) f y h k = h a

by_or : {A : Type 0} (o : Option A) (r : Refusal) → 3 ≤ (facts_of r).number → Least (refusal_in (ok_or o r))
by_or None r h = h
by_or (Some a) r h = tt

-- of two refusals
either : (b : Bool) (r q : Refusal) → 3 ≤ (facts_of r).number → 3 ≤ (facts_of q).number → 3 ≤ (facts_of (cond b r q)).number
either true r q h k = h
either false r q h k = k

least_text : (source : List ℕ) (s : Span) → Least (refusal_in (text_of source s))
least_text source s =
    let bs : List ℕ = part_of source s in
    by_cond (eqb (valid_prefix bs) (length bs)) (Ok bs) (Err (InvalidUTF8 (place_in s (valid_prefix bs) (valid_prefix bs + 1)))) tt (lit≤ tt)

least_integer : (source : List ℕ) (s : Span) → Least (refusal_in (integer_of source s))
least_integer source s =
    by_then (text_of source s) (λ t. as_integer t s) (least_text source s)
    (λ t. by_or (option_map (λ n. literal n (place_in s 0 (length (before t)))) (at_most (2 ^ 64 - 1) (integer_number t))) (InvalidInteger s) (lit≤ tt))

least_float : (source : List ℕ) (s : Span) → Least (refusal_in (float_of source s))
least_float source s =
    by_then (text_of source s) (λ t. as_float t s) (least_text source s)
    (λ t. by_else (decimal_of (without t)) (λ p. rounded p s) (Err (InvalidFloat s))
    (λ p. by_cond (leb p.0 (2 ^ 53) && leb p.1 15) (Ok (round binary64 false p.0 (10 ^ p.1))) (Err (FloatTooLong s)) tt (lit≤ tt)) (lit≤ tt))

least_value : (s : Span) (q : ℕ) (t : List ℕ) → Least (refusal_in (value_of s 0 q t))
least_value s q t =
    by_cond (has 92 t)
    (or_else (reading t).stop (λ rest. Err (escape_refusal s q t rest)) (Ok (Decoded 0 (length (reading t).bytes))))
    (Ok (Source (place_in s q (q + length t))))
    (by_else (reading t).stop (λ rest. Err (escape_refusal s q t rest)) (Ok (Decoded 0 (length (reading t).bytes)))
    (λ rest. either (leb (length rest) 1) (BadToken s) (InvalidEscape (place_in s (q + (length t - length rest)) (q + (length t - length rest) + 1 + char_bytes (drop 1 rest)))) (lit≤ tt) (lit≤ tt)) tt)
    tt

least_string : (source : List ℕ) (s : Span) → Least (refusal_in (string_of source s 0))
least_string source s =
    by_then (text_of source s) (λ t. as_string t s 0) (least_text source s)
    (λ t. by_else (inner t) (λ p. value_of s 0 p.0 p.1) (Err (BadToken s)) (λ p. least_value s p.0 p.1) (lit≤ tt))

least_modifiers : (s : Span) (at : ℕ) (cs : List ℕ) → Least (refusal_in (modifiers_of s at cs))
least_modifiers s at cs =
    by_else (no_modifier at cs) (λ p. Err (InvalidModifier (place_in s p.0 p.1))) (Ok (has 105 cs, has 115 cs)) (λ p. (lit≤ tt)) tt

least_regexp : (source : List ℕ) (s : Span) → Least (refusal_in (regexp_of source s))
least_regexp source s =
    by_then (text_of source s) (λ t. as_regexp t s) (least_text source s)
    (λ t. by_else (closing t) (λ n. and_then (modifiers_of s (n + 1) (chars (drop (n + 1) t))) (λ m. Ok (regexp_with (place_in s 1 n) m))) (Err (BadToken s))
    (λ n. by_then (modifiers_of s (n + 1) (chars (drop (n + 1) t))) (λ m. Ok (regexp_with (place_in s 1 n) m)) (least_modifiers s (n + 1) (chars (drop (n + 1) t))) (λ m. tt)) (lit≤ tt))

chosen : (b : Bool) (o p : Option Refusal) → Least o → Least p → Least (cond b o p)
chosen true o p h k = h
chosen false o p h k = k

pub least_token : (source : List ℕ) (e : Event) → Least (token_refusal source e)
unfolding token_refusal
least_token source (Error m s) = tt
least_token source (Begin k s) = tt
least_token source (End k s) = tt
least_token source (Token k s) =
    chosen (among k names) (refusal_in (text_of source s)) _ (least_text source s)
    (chosen (same k INTEGER_LIT) (refusal_in (integer_of source s)) _ (least_integer source s)
    (chosen (same k FLOAT_LIT) (refusal_in (float_of source s)) _ (least_float source s)
    (chosen (same k STRING_LIT) (refusal_in (string_of source s 0)) _ (least_string source s)
    (chosen (same k REGEXP) (refusal_in (regexp_of source s)) None (least_regexp source s) tt))))

least_sign : (o : Option Integer) (s : Span) → Least (sign_refusal o s)
least_sign None s = tt
least_sign (Some i) s =
    by_cond i.unsigned
    (cond (is_least i.value) (Ok (Some (record { value = i.value; unsigned = false; name = s }))) (Err (InvalidInteger s)))
    (cond (is_positive i.value) (Ok (Some (record { value = neg_ℤ i.value; unsigned = false; name = s }))) (Ok None))
    (by_cond (is_least i.value) (Ok (Some (record { value = i.value; unsigned = false; name = s }))) (Err (InvalidInteger s)) tt (lit≤ tt))
    (by_cond (is_positive i.value) (Ok (Some (record { value = neg_ℤ i.value; unsigned = false; name = s }))) (Ok None) tt tt)

by_text : (x : Result (List ℕ) Refusal) (o : Option Refusal) → Least (refusal_in x) → Least o → Least (text_first x o)
by_text (Ok bytes) o h k = k
by_text (Err r) o h k = h

pub least_minus : (source : List ℕ) (s : Span) (t : T) → Least (minus_refusal source s t)
unfolding minus_refusal
least_minus source s t =
    let place : Span = up_to s (tree-T source t) in
    by_text (text_of source place) (sign_refusal (integer-T source t) place) (least_text source place) (least_sign (integer-T source t) place)
