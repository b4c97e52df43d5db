-- The table of levels: each kind stands in it once at most, and what is looked up is where it stands.
use Rattle.std.proofs.Common.{◌≡◌, ℕ, suc, ◌+◌, ◌≤◌, Bool, true, false, cond, ◌&&◌, ◌||◌, eqb, List, [], ◌∷◌, length, is_some, Some, None, Option, unwrap_or, refl, ap, ◌∙◌, subst, arith, eqb-true}
use mathlib.Core.List.{Memᴰ}
use Rattle.kinds.specs.Kinds.{number_of, same}
use Rattle.kinds.specs.declared.kind.SyntaxKind.{SyntaxKind}
use Rattle.kinds.proofs.Inverse.{number_same, and_both}
use Rattle.operators.specs.Levels.{levels, among, level_from, level_of, is_operator, strength, InRow, OfTable}
use Rattle.operators.specs.Levels.InRow.{first, further}

member : (k : SyntaxKind) (os : List SyntaxKind) → among k os ≡ true → Memᴰ k os
member k [] e = cc
member k (o ∷ os) e = go (same k o) refl e (member k os)
  where
    go : (b : Bool) → same k o ≡ b → b || among k os ≡ true → (among k os ≡ true → Memᴰ k os) → Memᴰ k (o ∷ os)
    go true h i r = Memᴰ.head (number_same k o (eqb-true (number_of k) (number_of o) h))
    go false h i r = Memᴰ.tail (r i)

-- a level that is found is a row's number, counted on from s
abbrev Found : ℕ → List (List SyntaxKind) → SyntaxKind → ℕ → Type 0
Found s rows k n = (m : ℕ) × (suc n ≡ s + m) × InRow k rows m

found : (s : ℕ) (rows : List (List SyntaxKind)) (k : SyntaxKind) (n : ℕ) → level_from s rows k ≡ Some n → Found s rows k n
found s [] k n e = cc
found s (os ∷ rows) k n e = go (among k os) refl e (found (suc s) rows k n)
  where
    go : (b : Bool) → among k os ≡ b → cond b (Some s) (level_from (suc s) rows k) ≡ Some n → (level_from (suc s) rows k ≡ Some n → Found (suc s) rows k n) → Found s (os ∷ rows) k n
    go true h i f = let here : s ≡ n = cc in (1, omega arith, first (member k os h))
    go false h i f =
        let r = f i in
        let c : suc n ≡ suc s + r.0 = r.1 in
        (suc r.0, omega arith, further r.2)

abbrev has_level : ℕ → Option ℕ → Bool
has_level n None = false
has_level n (Some m) = eqb m n

abbrev row_at : ℕ → List SyntaxKind → Bool
row_at n [] = true
row_at n (o ∷ os) = has_level n (level_of o) && row_at n os

-- every kind of the rows has its row's number as level, counted on from n
abbrev rows_from : ℕ → List (List SyntaxKind) → Bool
rows_from n [] = true
rows_from n (os ∷ rows) = row_at n os && rows_from (suc n) rows

has : (n : ℕ) (l : Option ℕ) → has_level n l ≡ true → l ≡ Some n
has n None e = cc
has n (Some m) e = ap (λ i. Some i) (eqb-true m n e)

level_in_row : (n : ℕ) (k : SyntaxKind) (os : List SyntaxKind) → row_at n os ≡ true → Memᴰ k os → level_of k ≡ Some n
level_in_row n k [] e i = elim i [ ]
level_in_row n k (o ∷ os) e (Memᴰ.head i) =
    ap level_of i ∙ has n (level_of o) (and_both (has_level n (level_of o)) (row_at n os) e).0
level_in_row n k (o ∷ os) e (Memᴰ.tail m) =
    level_in_row n k os (and_both (has_level n (level_of o)) (row_at n os) e).1 m

level_in_rows : (s : ℕ) (rows : List (List SyntaxKind)) (k : SyntaxKind) (n m : ℕ) → rows_from s rows ≡ true → InRow k rows m → suc n ≡ s + m → level_of k ≡ Some n
level_in_rows s [] k n m e i c = elim i [ ]
level_in_rows s (os ∷ rows) k n m e (first i) c =
    let here : s ≡ n = omega arith in
    level_in_row s k os (and_both (row_at s os) (rows_from (suc s) rows) e).0 i ∙ ap (λ j. Some j) here
level_in_rows s (os ∷ rows) k n m e (further {n = j} i) c =
    level_in_rows (suc s) rows k n j (and_both (row_at s os) (rows_from (suc s) rows) e).1 i (omega arith)

right : rows_from 1 levels ≡ true
unfolding level_of
right = refl

pub in_row : (k : SyntaxKind) (n : ℕ) → InRow k levels n → level_of k ≡ Some n
in_row k n i = level_in_rows 1 levels k n n right i (omega arith)

row_bound : (k : SyntaxKind) (rows : List (List SyntaxKind)) (n : ℕ) → InRow k rows n → (1 ≤ n) × (n ≤ length rows)
row_bound k [] n i = elim i [ ]
row_bound k (os ∷ rows) n (first i) = (omega arith, omega arith)
row_bound k (os ∷ rows) n (further {n = j} i) = let r = row_bound k rows j i in (omega arith, omega arith)

pub level_row : (k : SyntaxKind) (n : ℕ) → level_of k ≡ Some n → InRow k levels n
unfolding level_of
level_row k n e =
    let r = found 1 levels k n e in
    let same_number : r.0 ≡ n = omega arith in
    subst (λ (m : ℕ). InRow k levels m) same_number r.2

pub of_table : (k : SyntaxKind) (l : Option ℕ) → level_of k ≡ l → OfTable k l
unfolding OfTable
of_table k None e = λ n i. let f = in_row k n i in cc
of_table k (Some n) e =
    let row = level_row k n e in
    let within = row_bound k levels n row in
    (row, λ m i. let f = in_row k m i in cc, within.0, within.1)

counts : (l : Option ℕ) → is_some l ≡ true → l ≡ Some (unwrap_or l 0)
counts None e = cc
counts (Some n) e = refl

-- an operator's level as a plain number is its level
pub strength_level : (k : SyntaxKind) → is_operator k ≡ true → level_of k ≡ Some (strength k)
strength_level k e = counts (level_of k) e
