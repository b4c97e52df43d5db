-- The part of the source that a span covers, and what it is as text.
use Rattle.std.specs.Prelude.{ℕ, ◌+◌, cond, List, length, take, drop, Some, None, Ok, Err, Option, Result, ◌==◌}
use Rattle.std.specs.Borrow.{Bor}
use Rattle.syntax.specs.declared.span.Span.{Span}
use Rattle.syntax.specs.Spans.{span_of, length_of}
use Rattle.refusal.specs.declared.refusal.Refusal.{Refusal}
use Rattle.refusal.specs.declared.refusal.Refusal.TheVariants.{InvalidUTF8}
use Rattle.literal.specs.Utf8.{valid_prefix}

-- the bytes that a span covers
abbrev pub part_of : List ℕ → Span → List ℕ
part_of source s = take (length_of s) (drop s.start source)

-- a place in the source, by its distance from the start of a span
abbrev pub place_in : Span → ℕ → ℕ → Span
place_in s from to = span_of (s.start + from) (s.start + to)

-- bytes where they are all well-formed; else the first that is not is refused
abbrev pub well_formed : List ℕ → Span → Result (List ℕ) Refusal
well_formed bs s =
    cond (valid_prefix bs == length bs) (Ok bs) (Err (InvalidUTF8 (place_in s (valid_prefix bs) (valid_prefix bs + 1))))

abbrev pub text_of : List ℕ → Span → Result (List ℕ) Refusal
text_of source s = well_formed (part_of source s) s

-- what borrowed text holds
abbrev pub seen : {E : Type 0} → Result (Bor (List ℕ)) E → Result (List ℕ) E
seen (Ok t) = Ok t.now
seen (Err e) = Err e

-- what is made of a value that was not refused
abbrev pub and_then : {A B E : Type 0} → Result A E → (A → Result B E) → Result B E
and_then (Ok x) f = f x
and_then (Err e) f = Err e

-- what is made of a value, and what stands in for it
abbrev pub or_else : {A B : Type 0} → Option A → (A → B) → B → B
or_else None f y = y
or_else (Some x) f y = f x
