-- Lists that are written over, filled from the front and blank behind.
use Rattle.std.proofs.Common.{◌≡◌, ℕ, zero, suc, ◌+◌, ◌-◌, List, [], ◌∷◌, ◌++◌, length, take, drop, set, replicate, sym, refl, ap, ◌∙◌, arith, length-set}
use Rattle.std.proofs.Math.Seq.{take-nil}
use Rattle.lent.specs.Lists.{overlay, fit, blanked_from}

module _ {A : Type 0} where
  -- what is written in two parts
  pub overlay-++ : (m : List A) (b : ℕ) (xs ys : List A) → overlay m b (xs ++ ys) ≡ overlay (overlay m b xs) (b + length xs) ys
  overlay-++ m b [] ys = ap (λ k. overlay m k ys) (omega arith)
  overlay-++ m b (x ∷ xs) ys =
      overlay-++ (set m b x) (b + 1) xs ys ∙ ap (λ k. overlay (overlay (set m b x) (b + 1) xs) k ys) (omega arith)

  pub length_overlay : (m : List A) (b : ℕ) (xs : List A) → length (overlay m b xs) ≡ length m
  length_overlay m b [] = refl
  length_overlay m b (x ∷ xs) = length_overlay (set m b x) (b + 1) xs ∙ length-set m b x

  pub overlay_none : (b : ℕ) (xs : List A) → overlay [] b xs ≡ []
  overlay_none b [] = refl
  overlay_none b (x ∷ xs) = overlay_none (b + 1) xs

  overlay_later : (y : A) (m : List A) (b c : ℕ) (xs : List A) → c ≡ suc b → overlay (y ∷ m) c xs ≡ y ∷ overlay m b xs
  overlay_later y m b c [] e = refl
  overlay_later y m b c (x ∷ xs) e =
      ap (λ k. overlay (set (y ∷ m) k x) (c + 1) xs) e ∙ overlay_later y (set m b x) (b + 1) (c + 1) xs (omega (arith, e))

  -- what is written from the start: as far as it goes in, and what was there behind it
  pub overlay_start : (m xs : List A) → overlay m 0 xs ≡ take (length m) xs ++ drop (length xs) m
  overlay_start [] [] = refl
  overlay_start [] (x ∷ xs) = overlay_none 1 xs
  overlay_start (y ∷ m) [] = refl
  overlay_start (y ∷ m) (x ∷ xs) =
      overlay_later x m 0 1 xs refl ∙ ap (λ l. x ∷ l) (overlay_start m xs)

  pub fit_none : (blank : A) (n : ℕ) → fit blank n [] ≡ replicate n blank
  fit_none blank zero = refl
  fit_none blank (suc n) = ap (λ l. blank ∷ l) (fit_none blank n)

  -- blanks behind what was written from the start
  pub blanked_fit :
      (blank : A) (m xs : List A) (n : ℕ) → n ≡ length xs → blanked_from blank n (overlay m 0 xs) ≡ fit blank (length m) xs
  blanked_fit blank [] xs n e =
      let none : 0 - n ≡ 0 = omega arith in
      ap (λ l. blanked_from blank n l) (overlay_none 0 xs) ∙ ap (λ l. l ++ replicate (0 - n) blank) (take-nil n)
      ∙ ap (λ k. replicate k blank) none
  blanked_fit blank (y ∷ m) [] n e =
      let whole : suc (length m) - 0 ≡ suc (length m) = omega arith in
      ap (λ k. blanked_from blank k (y ∷ m)) e ∙ ap (λ k. replicate k blank) whole ∙ sym (fit_none blank (suc (length m)))
  blanked_fit blank (y ∷ m) (x ∷ xs) n e =
      let l : List A = overlay m 0 xs in
      let k : ℕ = length xs in
      let less : suc (length l) - suc k ≡ length l - k = omega arith in
      ap (λ j. blanked_from blank j (overlay (x ∷ m) 1 xs)) e
      ∙ ap (λ q. blanked_from blank (suc k) q) (overlay_later x m 0 1 xs refl)
      ∙ ap (λ j. x ∷ (take k l ++ replicate j blank)) less
      ∙ ap (λ q. x ∷ q) (blanked_fit blank m xs k refl)
