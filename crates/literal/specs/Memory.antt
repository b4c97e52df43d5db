-- Counting in lent memory.
use Rattle.std.specs.Prelude.{◌≡◌, ℕ, List, [], ◌∷◌}
use Rattle.lent.specs.declared.memory.Lent.{Lent}
use Rattle.lent.specs.Lists.{counted, overlay}

-- a counter that has counted each item of a list
abbrev pub counted_all : {A : Type 0} → ℕ → List A → ℕ
counted_all n [] = n
counted_all n (x ∷ xs) = counted_all (counted n) xs

-- what putting bytes behind what is used does to lent memory, which is the same memory then
pub record Puts (bytes : List ℕ) (old new : Lent ℕ) : Type 0 where
  pub items : new.items.now ≡ overlay old.items.now old.used bytes
  pub used : new.used ≡ counted_all old.used bytes
  pub same : new.items.ghost_name ≡ old.items.ghost_name
