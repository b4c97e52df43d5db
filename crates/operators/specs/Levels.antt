-- The binary operators by level.
use Rattle.std.specs.Prelude.{◌≡◌, ℕ, suc, ◌≤◌, Bool, false, cond, ◌||◌, List, [], ◌∷◌, is_some, Some, None, Option}
use mathlib.Core.List.{Memᴰ}
use Rattle.std.specs.Option.{unwrap_or}
use Rattle.kinds.specs.Kinds.{same}
use Rattle.kinds.specs.declared.kind.SyntaxKind.{SyntaxKind}
use Rattle.kinds.specs.declared.kind.SyntaxKind.TheVariants.{OR_KW, AND_KW, EQ, NE, CONTAINS_KW, ICONTAINS_KW, STARTSWITH_KW, ISTARTSWITH_KW, ENDSWITH_KW, IENDSWITH_KW, IEQUALS_KW, MATCHES_KW, LT, LE, GT, GE, BITWISE_OR, BITWISE_XOR, BITWISE_AND, SHL, SHR, ADD, SUB, MUL, DIV, MOD, DOT}

-- the operators level by level, weakest first: the rows of binary operators in YARA's table of precedence, from its end
abbrev pub levels : List (List SyntaxKind)
levels =
    (OR_KW ∷ [])
    ∷ (AND_KW ∷ [])
    ∷ (EQ ∷ NE ∷ CONTAINS_KW ∷ ICONTAINS_KW ∷ STARTSWITH_KW ∷ ISTARTSWITH_KW ∷ ENDSWITH_KW ∷ IENDSWITH_KW ∷ IEQUALS_KW ∷ MATCHES_KW ∷ [])
    ∷ (LT ∷ LE ∷ GT ∷ GE ∷ [])
    ∷ (BITWISE_OR ∷ [])
    ∷ (BITWISE_XOR ∷ [])
    ∷ (BITWISE_AND ∷ [])
    ∷ (SHL ∷ SHR ∷ [])
    ∷ (ADD ∷ SUB ∷ [])
    ∷ (MUL ∷ DIV ∷ MOD ∷ [])
    ∷ (DOT ∷ [])
    ∷ []

-- whether a kind stands in a list
abbrev pub among : SyntaxKind → List SyntaxKind → Bool
among k [] = false
among k (o ∷ os) = same k o || among k os

-- the number of the first level that has a kind, where the first of them is n
abbrev pub level_from : ℕ → List (List SyntaxKind) → SyntaxKind → Option ℕ
level_from n [] k = None
level_from n (os ∷ rows) k = cond (among k os) (Some n) (level_from (suc n) rows k)

-- an operator's level, from 1; no other kind has one
unfoldable pub level_of : SyntaxKind → Option ℕ
level_of k = level_from 1 levels k

abbrev pub is_operator : SyntaxKind → Bool
is_operator k = is_some (level_of k)

-- an operator's level as a plain number; 0 for a kind that is no operator
abbrev pub strength : SyntaxKind → ℕ
strength k = unwrap_or (level_of k) 0

-- the n-th of some rows, from 1, has a kind
pub data InRow (k : SyntaxKind) : List (List SyntaxKind) → ℕ → Type 0 where
  first : {row : List SyntaxKind} {rows : List (List SyntaxKind)} → Memᴰ k row → InRow k (row ∷ rows) 1
  further : {row : List SyntaxKind} {rows : List (List SyntaxKind)} {n : ℕ} → InRow k rows n → InRow k (row ∷ rows) (suc n)

-- a level is the number of the one row that has the kind, from 1 to 11; a kind without a level is in no row
unfoldable pub OfTable : SyntaxKind → Option ℕ → Type 0
OfTable k None = (n : ℕ) → InRow k levels n → ⊥
OfTable k (Some n) = InRow k levels n × ((m : ℕ) → InRow k levels m → m ≡ n) × (1 ≤ n) × (n ≤ 11)
