-- Symbols of a grammar by their spelling, and what words begin with.
use Rattle.std.specs.Prelude.{◌≡◌, ◌⊎◌, ◌∷◌, ◌++◌, ◌≢◌}
use Rattle.std.proofs.Common.{inl, inr}
use Rattle.syntax.specs.declared.event.Event.{Event}
use Rattle.syntax.specs.declared.event.Event.TheVariants.{Begin, End, Token}
use Rattle.syntax.specs.declared.span.Span.{Span}
use Rattle.grammar.specs.Words.{Word}
use Rattle.reader.specs.declared.mark.Mark.{Mark}
use Rattle.reader.specs.declared.mark.Mark.TheVariants as mark

-- the event of a mark at a place
abbrev pub event : Mark → Span → Event
event (mark.Begin k) s = Begin k s
event (mark.End k) s = End k s
event (mark.Token k) s = Token k s

-- what words are made of: one event, with its place; a symbol, with its value, whose spelling puts its events before what
-- follows; one after another; one or another
pub data Sym : Type 0 → Type 1 where
  one : Mark → Sym Span
  symbol : {A : Type 0} → (A → Word → Word) → Sym A
  seq : {A B : Type 0} → Sym A → Sym B → Sym (A × B)
  alt : {A B : Type 0} → Sym A → Sym B → Sym (A ⊎ B)

abbrev pub spell : {A : Type 0} → Sym A → A → Word → Word
spell (one m) s k = event m s ∷ k
spell (symbol f) a k = f a k
spell (seq f g) p k = spell f p.0 (spell g p.1 k)
spell (alt f g) (inl a) k = spell f a k
spell (alt f g) (inr b) k = spell g b k

-- an event of a mark
abbrev pub Fits : Mark → Event → Type 0
Fits m e = (s : Span) × (e ≡ event m s)

-- a word begins with an event of which P holds
pub record Ahead (v : Word) (P : Event → Type 0) : Type 0 where
  pub first : Event
  pub others : Word
  pub front : v ≡ first ∷ others
  pub so : P first

module _ {A : Type 0} (f : Sym A) where
  -- some word of the symbol begins with u
  pub record Viable (u : Word) : Type 0 where
    pub value : A
    pub rest : Word
    pub whole : (k : Word) → spell f value k ≡ (u ++ rest) ++ k

  -- none begins with u and then e
  abbrev pub Stuck : Word → Event → Type 0
  Stuck u e = (a : A) (y k : Word) → spell f a k ≢ u ++ (e ∷ y)

  -- none is a front of u
  abbrev pub Short : Word → Type 0
  Short u = (a : A) (k : Word) → spell f a k ≢ u
