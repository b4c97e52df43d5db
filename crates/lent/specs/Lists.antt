-- Lists that are written over, filled and blanked in place.
use Rattle.std.specs.Prelude.{ℕ, zero, suc, ◌+◌, ◌-◌, ◌^◌, min, List, [], ◌∷◌, ◌++◌, length, take, replicate, slice_set}

-- one more; a counter stops at its largest value, more than any memory has places
abbrev pub counted : ℕ → ℕ
counted n = min (n + 1) (2 ^ 64 - 1)

-- xs over m from index b on, cut at the end of m
abbrev pub overlay : {A : Type 0} → List A → ℕ → List A → List A
overlay m b [] = m
overlay m b (x ∷ xs) = overlay (slice_set m b x) (b + 1) xs

-- n places, filled from a list as far as it goes in, then with blanks
abbrev pub fit : {A : Type 0} → A → ℕ → List A → List A
fit blank zero xs = []
fit blank (suc n) [] = blank ∷ fit blank n []
fit blank (suc n) (x ∷ xs) = x ∷ fit blank n xs

-- m, with blanks from index n on
abbrev pub blanked_from : {A : Type 0} → A → ℕ → List A → List A
blanked_from blank n m = take n m ++ replicate (length m - n) blank
