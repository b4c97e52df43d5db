use Rattle.std.proofs.Common.{◌≡◌, ℕ, ◌<◌, ◌≤◌, Bool, true, false, cond, ltb, sym, refl, ap, ◌∙◌, subst, arith, ltb-false, ltb-true}
use Rattle.operators.specs.Groups.{Ops, Group, joined, flat, Each, Keeps, front, grouped, OneGrouping}
use Rattle.operators.specs.Groups.Ops.{lone, then}
use Rattle.operators.specs.Groups.Group.{leaf, top}
use Rattle.operators.proofs.Once.{once}

module _ {A O : Type 0} where
  pub each_map : (P Q : O → Type 0) → ((o : O) → P o → Q o) → (x : Ops A O) → Each P x → Each Q x
  each_map P Q f (lone a) h = tt
  each_map P Q f (then a o x) h = (f o h.0, each_map P Q f x h.1)

  pub each_joined : (P : O → Type 0) (x : Ops A O) (o : O) (y : Ops A O) → Each P x → P o → Each P y → Each P (joined x o y)
  each_joined P (lone a) o y h i j = (i, j)
  each_joined P (then a p x) o y h i j = (h.0, each_joined P x o y h.1 i j)

  module _ (level : O → ℕ) where
    pub flat_front : (a : A) (o : O) (g : Group A O) → flat (front level a o g) ≡ then a o (flat g)
    flat_front a o (leaf b) = refl
    flat_front a o (top l p r) = go (ltb (level o) (level p)) (flat_front a o l)
      where
        go : (weaker : Bool) → flat (front level a o l) ≡ then a o (flat l) → flat (cond weaker (top (leaf a) o (top l p r)) (top (front level a o l) p r)) ≡ then a o (joined (flat l) p (flat r))
        go true e = refl
        go false e = ap (λ x. joined x p (flat r)) e

    pub keeps_front : (a : A) (o : O) (g : Group A O) → Keeps level g → Keeps level (front level a o g)
    keeps_front a o (leaf b) k = (tt, tt, tt, tt)
    keeps_front a o (top l p r) k = go (ltb (level o) (level p)) refl (keeps_front a o l k.2)
      where
        go : (weaker : Bool) → ltb (level o) (level p) ≡ weaker → Keeps level (front level a o l) → Keeps level (cond weaker (top (leaf a) o (top l p r)) (top (front level a o l) p r))
        go true e i =
            let h : level o < level p = ltb-true (level o) (level p) e in
            let left = each_map (λ q. level p ≤ level q) (λ q. level o < level q) (λ q s. omega arith) (flat l) k.0 in
            let right = each_map (λ q. level p < level q) (λ q. level o < level q) (λ q s. omega arith) (flat r) k.1 in
            (tt, each_joined (λ q. level o < level q) (flat l) p (flat r) left h right, tt, k)
        go false e i =
            let F : Ops A O → Type 0 = λ x. Each (λ q. level p ≤ level q) x in
            let h : level p ≤ level o = ltb-false (level o) (level p) e in
            (subst F (sym (flat_front a o l)) (h, k.0), k.1, i, k.3)

    pub flat_grouped : (x : Ops A O) → flat (grouped level x) ≡ x
    unfolding grouped
    flat_grouped (lone a) = refl
    flat_grouped (then a o x) = flat_front a o (grouped level x) ∙ ap (λ y. then a o y) (flat_grouped x)

    pub keeps_grouped : (x : Ops A O) → Keeps level (grouped level x)
    unfolding grouped
    keeps_grouped (lone a) = tt
    keeps_grouped (then a o x) = keeps_front a o (grouped level x) (keeps_grouped x)

    -- a grouping that keeps the rule is the only one
    pub one : (x : Ops A O) (g : Group A O) → flat g ≡ x → Keeps level g → OneGrouping level x g
    one x g e k = record { groups = e; keeps = k; only = λ h e' k'. once level h g k' k (e' ∙ sym e) }

    pub one_grouping_lem : (x : Ops A O) → OneGrouping level x (grouped level x)
    one_grouping_lem x = one x (grouped level x) (flat_grouped x) (keeps_grouped x)

    -- a grouping that keeps the rule is the one that `grouped` gives
    pub is_grouped : (g : Group A O) (x : Ops A O) → flat g ≡ x → Keeps level g → g ≡ grouped level x
    is_grouped g x e k = once level g (grouped level x) k (keeps_grouped x) (e ∙ sym (flat_grouped x))
