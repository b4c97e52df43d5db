-- What the operations on spans answer.
use Rattle.std.specs.Prelude.{ℕ, suc, ◌+◌, ◌-◌, ◌^◌, Bool, cond, not, ◌&&◌, ℤ, pos, negsuc, Some, None, Option, nat_le, nat_lt, List, ◌++◌, codes, decimal}
use Rattle.std.specs.declared.ops.Range.{Range}
use Rattle.syntax.specs.declared.span.Span.{Span}

abbrev pub span_of : ℕ → ℕ → Span
span_of from to = record { start = from; end = to }

-- bytes covered: none where the span is reversed
abbrev pub length_of : Span → ℕ
length_of s = s.end - s.start

abbrev pub is_empty : Span → Bool
is_empty s = not (nat_lt s.start s.end)

abbrev pub range_of : Span → Range ℕ
range_of s = record { start = s.start; end = s.end }

-- the text of a span
abbrev pub shown : Span → List ℕ
shown s = codes "[" ++ (decimal s.start ++ (codes ".." ++ (decimal s.end ++ codes "]")))

-- from the start of the first to the end of the second
abbrev pub combined : Span → Span → Span
combined s t = span_of s.start t.end

-- whether a span covers the byte at a place
abbrev pub covers : Span → ℕ → Bool
covers s i = nat_le s.start i && nat_lt i s.end

-- whether it covers the first byte of another and its last, which is byte 0 for one that ends at 0
abbrev pub contains_of : Span → Span → Bool
contains_of s t = covers s t.start && covers s (t.end - 1)

-- the part between two places counted from its start, where both lie within it
abbrev pub subspan_of : Span → ℕ → ℕ → Option Span
subspan_of s from to =
    cond (nat_le s.start s.end && (nat_le from (length_of s) && nat_le to (length_of s)))
    (Some (span_of (s.start + from) (s.start + to))) None

-- a place moved by a distance, where it stays within 32 bits
abbrev pub moved : ℕ → ℤ → Option ℕ
moved n (pos d) = cond (nat_lt (n + d) (2 ^ 32)) (Some (n + d)) None
moved n (negsuc d) = cond (nat_lt d n) (Some (n - suc d)) None

abbrev pub between : Option ℕ → Option ℕ → Option Span
between None to = None
between (Some from) None = None
between (Some from) (Some to) = Some (span_of from to)

-- both ends moved, where both can be
abbrev pub offset_of : Span → ℤ → Option Span
offset_of s d = between (moved s.start d) (moved s.end d)
