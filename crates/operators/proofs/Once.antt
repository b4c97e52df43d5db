use Rattle.std.proofs.Common.{◌≡◌, ℕ, ◌<◌, ◌≤◌, sym, subst, arith}
use Rattle.operators.specs.Groups.{Ops, Group, joined, flat, Each, Keeps}
use Rattle.operators.specs.Groups.Ops.{lone, then}
use Rattle.operators.specs.Groups.Group.{leaf, top}

module _ {A O : Type 0} where
  -- where two ways to cut one list meet: at the same operator, or one operator lies within the other's side
  pub data Cut (x y : Ops A O) (o : O) (x' y' : Ops A O) (o' : O) : Type 0 where
    same : x ≡ x' → o ≡ o' → y ≡ y' → Cut x y o x' y' o'
    later : (m : Ops A O) → x' ≡ joined x o m → y ≡ joined m o' y' → Cut x y o x' y' o'
    sooner : (m : Ops A O) → x ≡ joined x' o' m → y' ≡ joined m o y → Cut x y o x' y' o'

  pub cut : (x y : Ops A O) (o : O) (x' y' : Ops A O) (o' : O) → joined x o y ≡ joined x' o' y' → Cut x y o x' y' o'
  cut (lone a) y o (lone b) y' o' e = same (cc) (cc) (cc)
  cut (lone a) y o (then b p x') y' o' e = later x' (cc) (cc)
  cut (then a p x) y o (lone b) y' o' e = sooner x (cc) (cc)
  cut (then a p x) y o (then b q x') y' o' e =
      let inner : joined x o y ≡ joined x' o' y' = cc in
      let heads : a ≡ b = cc in
      let ops : p ≡ q = cc in
      elim (cut x y o x' y' o' inner) [
        | same i j k ↦ same (cc) j k
        | later m i j ↦ later m (cc) j
        | sooner m i j ↦ sooner m (cc) j
      ]

  pub each_in : (P : O → Type 0) (x m : Ops A O) (o : O) → Each P (joined x o m) → P o
  each_in P (lone a) m o h = h.0
  each_in P (then a p x) m o h = each_in P x m o h.1

  pub never_lone : (x y : Ops A O) (o : O) (a : A) → joined x o y ≡ lone a → ⊥
  never_lone (lone b) y o a e = cc
  never_lone (then b p x) y o a e = cc

  module _ (level : O → ℕ) where
    pub once : (g h : Group A O) → Keeps level g → Keeps level h → flat g ≡ flat h → g ≡ h
    once (leaf a) (leaf b) k k' e = cc
    once (leaf a) (top l o r) k k' e = absurd (never_lone (flat l) (flat r) o a (sym e))
    once (top l o r) (leaf b) k k' e = absurd (never_lone (flat l) (flat r) o b e)
    once (top l o r) (top l' o' r') k k' e =
        elim (cut (flat l) (flat r) o (flat l') (flat r') o' e) [
          | same i j u ↦ (let left = once l l' k.2 k'.2 i in let right = once r r' k.3 k'.3 u in cc)
          | later m i u ↦ absurd (let inside = each_in (λ p. level o' ≤ level p) (flat l) m o (subst (Each (λ p. level o' ≤ level p)) i k'.0) in let behind = each_in (λ p. level o < level p) m (flat r') o' (subst (Each (λ p. level o < level p)) u k.1) in omega arith)
          | sooner m i u ↦ absurd (let inside = each_in (λ p. level o ≤ level p) (flat l') m o' (subst (Each (λ p. level o ≤ level p)) i k.0) in let behind = each_in (λ p. level o' < level p) m (flat r) o (subst (Each (λ p. level o' < level p)) u k'.1) in omega arith)
        ]
