-- What the functions of the cycle do: read a word of a symbol, and make its tree.
use Rattle.std.specs.Prelude.{ℕ, ◌+◌, ◌^◌, ◌≤◌, Bool, length, Result}
use Rattle.refusal.specs.declared.refusal.Refusal.{Refusal}
use Rattle.tree.specs.Trees.{Tree}
use Rattle.tree.specs.Memory.{memory_of, Lent, Pending}
use Rattle.tree.specs.declared.place.Placer.{Placer}
use Rattle.reader.specs.declared.reader.Reader.{Reader}
use Rattle.reader.specs.Symbols.{Sym}
use Rattle.reader.specs.Contract.{conf, Parses}

-- the counters cannot run over: a node takes an event, and text no more bytes than its token; h roots are at hand
pub record Room (h : ℕ) (p : Reader) (o : Placer) : Type 0 where
  pub count : ((o.used + h) + length (conf p).rest) + 2 ≤ 2 ^ 64
  pub place : o.written ≤ p.last

pub record Spent (h n : ℕ) (p : Reader) (o : Placer) (p' : Reader) (o' : Placer) : Type 0 where
  pub count : (o'.used + n) + length (conf p').rest ≤ (o.used + h) + length (conf p).rest
  pub place : o.written ≤ p.last → o'.written ≤ p'.last

-- a word of f is read; then one root is at hand, of which Post says more
pub record Builds {A Y : Type 0} (d : Bool) (h : ℕ) (f : Sym A) (Post : A → Y → Type 0) (p : Reader) (o : Placer) (p' : Reader) (o' : Placer) (r : Result Y Refusal) : Type 0 where
  pub lent : Lent o o'
  pub parses : Parses d f (λ a y. Spent h 1 p o p' o' × Post a y) p p' r

-- the root is that of a tree whose other nodes were placed
abbrev pub Makes : Tree → Placer → Placer → Type 0
Makes t o o' = Pending t (memory_of o) o'.root (memory_of o')
