-- At one level the grouping from the left keeps the rule.
use Rattle.std.proofs.Common.{◌≡◌, ℕ, ◌≤◌, refl, ap, ◌∙◌, arith}
use Rattle.operators.specs.Groups.{Ops, Group, joined, flat, Each, Keeps, from_left, left_comb, OneGrouping}
use Rattle.operators.specs.Groups.Ops.{lone, then}
use Rattle.operators.specs.Groups.Group.{leaf, top}
use Rattle.operators.proofs.Exists.{each_map, each_joined, one}

module _ {A O : Type 0} where
  joined_assoc : (x : Ops A O) (o : O) (y : Ops A O) (p : O) (z : Ops A O) → joined (joined x o y) p z ≡ joined x o (joined y p z)
  joined_assoc (lone a) o y p z = refl
  joined_assoc (then a q x) o y p z = ap (λ v. then a q v) (joined_assoc x o y p z)

  flat_left : (g : Group A O) (o : O) (x : Ops A O) → flat (from_left g o x) ≡ joined (flat g) o x
  flat_left g o (lone a) = refl
  flat_left g o (then a p x) = flat_left (top g o (leaf a)) p x ∙ joined_assoc (flat g) o (lone a) p x

  flat_comb : (x : Ops A O) → flat (left_comb x) ≡ x
  flat_comb (lone a) = refl
  flat_comb (then a o x) = flat_left (leaf a) o x

  module _ (level : O → ℕ) (n : ℕ) where
    keeps_left : (g : Group A O) (o : O) (x : Ops A O) → Keeps level g → Each (λ p. level p ≡ n) (flat g) → level o ≡ n → Each (λ p. level p ≡ n) x → Keeps level (from_left g o x)
    keeps_left g o (lone a) k e h i =
        (each_map (λ p. level p ≡ n) (λ p. level o ≤ level p) (λ p s. omega arith) (flat g) e, tt, k, tt)
    keeps_left g o (then a p x) k e h i =
        keeps_left (top g o (leaf a)) p x
        (each_map (λ p. level p ≡ n) (λ p. level o ≤ level p) (λ p s. omega arith) (flat g) e, tt, k, tt)
        (each_joined (λ p. level p ≡ n) (flat g) o (lone a) e h tt) i.0 i.1

    keeps_comb : (x : Ops A O) → Each (λ p. level p ≡ n) x → Keeps level (left_comb x)
    keeps_comb (lone a) e = tt
    keeps_comb (then a o x) e = keeps_left (leaf a) o x tt tt e.0 e.1

    pub from_left_lem : (x : Ops A O) → Each (λ o. level o ≡ n) x → OneGrouping level x (left_comb x)
    from_left_lem x e = one level x (left_comb x) (flat_comb x) (keeps_comb x e)
