use Rattle.std.proofs.Common.{◌≡◌, ℕ, zero, suc, ◌+◌, ◌<◌, List, [], ◌∷◌, ◌++◌, length, set, drop, replicate, refl, ap, ◌∙◌, le_of_suc-le-suc, arith}
use Rattle.lent.proofs.memory.blank_all.Goals as goal

-- one more place is filled
filled :
    {A : Type 0} (xs : List A) (n : ℕ) (v : A) → n < length xs → set (replicate n v ++ drop n xs) n v ≡ replicate (n + 1) v ++ drop (n + 1) xs
filled [] n v h = absurd (omega arith)
filled (x ∷ xs) zero v h = refl
filled (x ∷ xs) (suc n) v h =
    let e : suc (n + 1) ≡ suc n + 1 = omega arith in
    ap (λ l. v ∷ l) (filled xs n v (le_of_suc-le-suc h)) ∙ ap (λ k. replicate k v ++ drop k (x ∷ xs)) e

pub loop-item-preserved : goal.loop-item-preserved
loop-item-preserved g c =
    ap (λ l. set l c.loop-item.item-index c.args.blank) c.loop-item.invariant
    ∙ filled c.args.items.now c.loop-item.item-index c.args.blank c.loop-item-test.true
