-- Lists and tests.
use Rattle.std.proofs.Common.{◌≡◌, List, [], ◌∷◌, ◌++◌, sym, refl, ap}

pub nil_cons : {A : Type 0} {P : Type 0} {x : A} {xs : List A} → ◌≡◌ {A = List A} [] (x ∷ xs) → P
nil_cons {A} {P} {x} {xs} p = cc

pub snoc_nil : {A : Type 0} {P : Type 0} (xs : List A) (x : A) → ◌≡◌ {A = List A} [] (xs ++ (x ∷ [])) → P
snoc_nil [] x e = nil_cons e
snoc_nil (y ∷ xs) x e = nil_cons e

pub heads : {A : Type 0} {a b : A} {u v : List A} → ◌≡◌ {A = List A} (a ∷ u) (b ∷ v) → a ≡ b
heads e = cc

pub tails : {A : Type 0} {a b : A} {u v : List A} → ◌≡◌ {A = List A} (a ∷ u) (b ∷ v) → u ≡ v
tails e = cc

-- two lists with one more item each
pub snocs : {A : Type 0} (xs ys : List A) (x y : A) → xs ++ (x ∷ []) ≡ ys ++ (y ∷ []) → (xs ≡ ys) × (x ≡ y)
snocs [] [] x y e = (refl, heads e)
snocs [] (b ∷ ys) x y e = snoc_nil ys y (tails e)
snocs (a ∷ xs) [] x y e = snoc_nil xs x (sym (tails e))
snocs (a ∷ xs) (b ∷ ys) x y e =
    let h = heads e in
    let r = snocs xs ys x y (tails e) in
    let s = r.0 in
    (cc, r.1)

-- a list that is not empty has a last item
pub last_item : {A : Type 0} (x : A) (xs : List A) → (ys : List A) × (y : A) × (◌≡◌ {A = List A} (x ∷ xs) (ys ++ (y ∷ [])))
last_item x [] = ([], x, refl)
last_item x (z ∷ xs) = let r = last_item z xs in (x ∷ r.0, r.1, ap (λ l. x ∷ l) r.2)
