-- A list that fits into memory that is blank behind it.
use Rattle.std.proofs.Common.{◌≡◌, ℕ, zero, suc, ◌-◌, ◌≤◌, List, [], ◌∷◌, ◌++◌, length, replicate, refl, ap, ◌∙◌, le_of_suc-le-suc, arith}
use Rattle.lent.specs.Lists.{fit}
use Rattle.lent.proofs.Overlays.{fit_none}
use Rattle.tree.proofs.Within.{Within}

-- a list that fits stands at the front
pub fit_within : {A : Type 0} (blank : A) (n : ℕ) (xs : List A) → length xs ≤ n → Within (fit blank n xs) 0 xs
fit_within {A = A} blank n xs h = record { before = []; after = replicate (n - length xs) blank; is = all n xs h; far = refl }
  where
    all : (k : ℕ) (ys : List A) → length ys ≤ k → fit blank k ys ≡ ys ++ replicate (k - length ys) blank
    all zero [] l = refl
    all zero (y ∷ ys) l = absurd (omega arith)
    all (suc k) [] l =
        let whole : suc k ≡ suc k - 0 = omega arith in
        fit_none blank (suc k) ∙ ap (λ j. replicate j blank) whole
    all (suc k) (y ∷ ys) l =
        let less : k - length ys ≡ suc k - suc (length ys) = omega arith in
        ap (λ q. y ∷ q) (all k ys (le_of_suc-le-suc l)) ∙ ap (λ j. y ∷ (ys ++ replicate j blank)) less
