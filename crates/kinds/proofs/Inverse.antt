-- A kind and its number determine each other.
use Rattle.std.proofs.Common.{◌≡◌, slice_get, ℕ, zero, suc, ◌+◌, Bool, true, false, ◌&&◌, eqb, List, [], ◌∷◌, Option, Some, None, MatchOption, ◌≤◌, length, sym, refl, ap, ◌∙◌, add-zero, arith, rules, eqb-true}
use Rattle.kinds.specs.Kinds.{kinds, kind_of, number_of}
use Rattle.kinds.specs.declared.kind.SyntaxKind.{SyntaxKind}

pub kind_of_number : (k : SyntaxKind) → kind_of (number_of k) ≡ Some k
kind_of_number k = search rules

pub number_same : (a b : SyntaxKind) → number_of a ≡ number_of b → a ≡ b
number_same a b e =
    let same : Some a ≡ Some b = sym (kind_of_number a) ∙ ap kind_of e ∙ kind_of_number b in cc

-- the numbers of the kinds in a list count up from n
abbrev counted : ℕ → List SyntaxKind → Bool
counted n [] = true
counted n (k ∷ ks) = eqb (number_of k) n && counted (suc n) ks

pub and_both : (a b : Bool) → a && b ≡ true → (a ≡ true) × (b ≡ true)
and_both true b h = (refl, h)
and_both false b h = cc

counted_at : (ks : List SyntaxKind) (n i : ℕ) (k : SyntaxKind) → counted n ks ≡ true → slice_get ks i ≡ Some k → number_of k ≡ n + i
counted_at [] n i k h e = cc
counted_at (x ∷ ks) n zero k h e =
    let same : x ≡ k = cc in
    ap number_of (sym same) ∙ eqb-true _ _ (and_both _ (counted (suc n) ks) h).0 ∙ sym (add-zero n)
counted_at (x ∷ ks) n (suc i) k h e =
    counted_at ks (suc n) i k (and_both (eqb (number_of x) n) _ h).1 e ∙ omega arith

pub number_of_kind : (n : ℕ) (k : SyntaxKind) → kind_of n ≡ Some k → number_of k ≡ n
number_of_kind n k e = counted_at kinds 0 n k refl e ∙ omega arith

past : {A : Type 0} (xs : List A) (n : ℕ) → slice_get xs n ≡ None → length xs ≤ n
past [] n e = omega arith
past (x ∷ xs) zero e = cc
past (x ∷ xs) (suc n) e = omega (arith, past xs n e)

pub numbered : (n : ℕ) (o : Option SyntaxKind) → o ≡ kind_of n → MatchOption o (127 ≤ n) (λ k. n ≡ number_of k)
numbered n None e = past kinds n (sym e)
numbered n (Some k) e = sym (number_of_kind n k (sym e))
