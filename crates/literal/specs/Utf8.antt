-- Well-formed UTF-8, by the table of RFC 3629.
use Rattle.std.specs.Prelude.{◌≡◌, ℕ, zero, suc, ◌+◌, ◌≤◌, Bool, true, false, cond, ◌&&◌, ◌⊎◌, List, [], ◌∷◌, ◌++◌, length, take, nat_le}

-- the first and the last value that a byte may have
abbrev pub Range : Type 0
Range = ℕ × ℕ

-- a byte that goes on with a character
abbrev tail : Range
tail = (0x80, 0xBF)

-- The table: the bytes of a character, one row for each way to begin.
-- No form is longer than needed, none is a surrogate, none is above 10FFFF.
abbrev pub forms : List (List Range)
forms =
    ((0x00, 0x7F) ∷ [])
    ∷ ((0xC2, 0xDF) ∷ tail ∷ [])
    ∷ ((0xE0, 0xE0) ∷ (0xA0, 0xBF) ∷ tail ∷ [])
    ∷ ((0xE1, 0xEC) ∷ tail ∷ tail ∷ [])
    ∷ ((0xED, 0xED) ∷ (0x80, 0x9F) ∷ tail ∷ [])
    ∷ ((0xEE, 0xEF) ∷ tail ∷ tail ∷ [])
    ∷ ((0xF0, 0xF0) ∷ (0x90, 0xBF) ∷ tail ∷ tail ∷ [])
    ∷ ((0xF1, 0xF3) ∷ tail ∷ tail ∷ tail ∷ [])
    ∷ ((0xF4, 0xF4) ∷ (0x80, 0x8F) ∷ tail ∷ tail ∷ [])
    ∷ []

-- ---- the language: a text is a row of characters

abbrev pub OneOf : {A : Type 0} → A → List A → Type 0
OneOf x [] = ⊥
OneOf x (y ∷ ys) = (x ≡ y) ⊎ OneOf x ys

-- bytes that lie in the ranges of a form, one by one
abbrev pub Follows : List Range → List ℕ → Type 0
Follows [] [] = Unit {0}
Follows [] (b ∷ bs) = ⊥
Follows (r ∷ rs) [] = ⊥
Follows (r ∷ rs) (b ∷ bs) = (r.0 ≤ b) × (b ≤ r.1) × Follows rs bs

pub data Characters : List ℕ → Type 0 where
  none : Characters []
  more : {form : List Range} {all : List ℕ} (bs rest : List ℕ) → OneOf form forms → Follows form bs → Characters rest → all ≡ bs ++ rest → Characters all

-- ---- how far a text is well-formed

-- whether a text begins with bytes in these ranges
abbrev pub begins : List Range → List ℕ → Bool
begins [] bs = true
begins (r ∷ rs) [] = false
begins (r ∷ rs) (b ∷ bs) = (nat_le r.0 b && nat_le b r.1) && begins rs bs

-- the bytes of the first form that a text begins with, 0 if it begins with none
abbrev pub bytes_by : List (List Range) → List ℕ → ℕ
bytes_by [] bs = 0
bytes_by (f ∷ fs) bs = cond (begins f bs) (length f) (bytes_by fs bs)

-- the bytes of the character that a text begins with
abbrev pub char_bytes : List ℕ → ℕ
char_bytes bs = bytes_by forms bs

-- the longest front of whole characters, where the first k bytes go on with a character
unfoldable pub valid_from : ℕ → List ℕ → ℕ
valid_from k [] = 0
valid_from zero (b ∷ bs) = elim (char_bytes (b ∷ bs)) [ zero ↦ 0 | suc k ↦ 1 + valid_from k bs ]
valid_from (suc k) (b ∷ bs) = 1 + valid_from k bs

-- the length of the longest front of whole characters
abbrev pub valid_prefix : List ℕ → ℕ
valid_prefix bs = valid_from 0 bs

-- the law: that front is made of characters, and no longer one is
pub record Longest (bs : List ℕ) (n : ℕ) : Type 0 where
  pub within : n ≤ length bs
  pub front : Characters (take n bs)
  pub bound : (m : ℕ) → m ≤ length bs → Characters (take m bs) → m ≤ n
