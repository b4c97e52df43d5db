-- Parts of a list of bytes.
use Rattle.std.specs.Prelude.{ℕ, ◌-◌, cond, ◌&&◌, List, length, take, drop, Some, None, Option, nat_le}
use Rattle.syntax.specs.declared.span.Span.{Span}

-- the bytes at a place: none where it is reversed or reaches past the end
abbrev pub cut : List ℕ → Span → Option (List ℕ)
cut all p =
    cond (nat_le p.start p.end && nat_le p.end (length all)) (Some (take (p.end - p.start) (drop p.start all)))
    None
