-- Slots that get a sibling.
use Rattle.std.proofs.Common.{◌≡◌, ℕ, zero, suc, ◌+◌, ◌-◌, ◌<◌, ◌≤◌, List, [], ◌∷◌, ◌++◌, length, get_or, set, sym, refl, ap, ◌∙◌, le_of_suc-le-suc, arith}
use Rattle.tree.specs.declared.slot.Slot.{Slot}
use Rattle.lent.specs.Lists.{overlay}
use Rattle.lent.proofs.Overlays.{overlay-++}
use Rattle.tree.specs.Memory.{with_next, set_next, linked}

set_next_past : (m : List Slot) (i n : ℕ) → length m ≤ i → set_next m i n ≡ m
set_next_past [] i n h = refl
set_next_past (y ∷ m) zero n h = absurd (omega arith)
set_next_past (y ∷ m) (suc i) n h = ap (λ t. y ∷ t) (set_next_past m i n (le_of_suc-le-suc h))

set_next_at : (m : List Slot) (i n : ℕ) (d : Slot) → i < length m → set m i (with_next (get_or m i d) n) ≡ set_next m i n
set_next_at [] i n d h = absurd (omega arith)
set_next_at (y ∷ m) zero n d h = refl
set_next_at (y ∷ m) (suc i) n d h = ap (λ t. y ∷ t) (set_next_at m i n d (le_of_suc-le-suc h))

-- a link that leads somewhere
pub linked_at : (m : List Slot) (k n : ℕ) → 0 < k → linked m k n ≡ set_next m (k - 1) n
linked_at m zero n h = absurd (omega arith)
linked_at m (suc k) n h = ap (λ i. set_next m i n) (omega arith)

pub linked_set :
    (m : List Slot) (k n : ℕ) (d : Slot) → 0 < k → k ≤ length m → set m (k - 1) (with_next (get_or m (k - 1) d) n) ≡ linked m k n
linked_set m k n d h l = set_next_at m (k - 1) n d (omega arith) ∙ sym (linked_at m k n h)

pub linked_past : (m : List Slot) (k n : ℕ) → length m < k → linked m k n ≡ m
linked_past m k n h = linked_at m k n (omega arith) ∙ set_next_past m (k - 1) n (omega arith)

-- a slot that was just written gets its sibling
set_next_set : (m : List Slot) (i n : ℕ) (x : Slot) → set_next (set m i x) i n ≡ set m i (with_next x n)
set_next_set [] i n x = refl
set_next_set (y ∷ m) zero n x = refl
set_next_set (y ∷ m) (suc i) n x = ap (λ t. y ∷ t) (set_next_set m i n x)

-- at another index
set_next_other :
    (m : List Slot) (i j n : ℕ) (x : Slot) → i < j → set_next (set m j x) i n ≡ set (set_next m i n) j x
set_next_other [] i j n x h = refl
set_next_other (y ∷ m) i zero n x h = absurd (omega arith)
set_next_other (y ∷ m) zero (suc j) n x h = refl
set_next_other (y ∷ m) (suc i) (suc j) n x h = ap (λ t. y ∷ t) (set_next_other m i j n x (le_of_suc-le-suc h))

-- a sibling in front of what is written
pub set_next_before :
    (m : List Slot) (i b n : ℕ) (xs : List Slot) → i < b → set_next (overlay m b xs) i n ≡ overlay (set_next m i n) b xs
set_next_before m i b n [] h = refl
set_next_before m i b n (x ∷ xs) h =
    set_next_before (set m b x) i (b + 1) n xs (omega arith) ∙ ap (λ t. overlay t (b + 1) xs) (set_next_other m i b n x h)

-- the sibling of the last slot that is written
pub set_next_last :
    (m : List Slot) (b n : ℕ) (xs : List Slot) (x : Slot) →
    set_next (overlay m b (xs ++ (x ∷ []))) (b + length xs) n ≡ overlay m b (xs ++ (with_next x n ∷ []))
set_next_last m b n xs x =
    ap (λ t. set_next t (b + length xs) n) (overlay-++ m b xs (x ∷ []))
    ∙ set_next_set (overlay m b xs) (b + length xs) n x
    ∙ sym (overlay-++ m b xs (with_next x n ∷ []))
