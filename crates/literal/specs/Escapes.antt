-- Which bytes a string stands for.
use Rattle.std.specs.Prelude.{◌≡◌, ℕ, zero, suc, ◌+◌, ◌-◌, ◌*◌, cond, ◌&&◌, List, [], ◌∷◌, ◌++◌, Some, None, Option, MatchOption, ◌==◌, ◌≢◌, nat_le}
use Rattle.std.specs.Option.{option_map}
use Rattle.literal.specs.Texts.{or_else}

-- the byte that a backslash and a letter stand for: \\ \" \n \r \t \0
abbrev pub simple : ℕ → Option ℕ
simple b =
    cond (b == 92) (Some 92) (cond (b == 34) (Some 34) (cond (b == 110) (Some 10)
    (cond (b == 114) (Some 13) (cond (b == 116) (Some 9) (cond (b == 48) (Some 0) None)))))

-- the value of a hexadecimal digit
abbrev pub hex_of : ℕ → Option ℕ
hex_of b =
    cond (nat_le 48 b && nat_le b 57) (Some (b - 48))
    (cond (nat_le 97 b && nat_le b 102) (Some (b - 87)) (cond (nat_le 65 b && nat_le b 70) (Some (b - 55)) None))

-- ---- the language: a text, and the bytes that it stands for

pub data Stands : List ℕ → List ℕ → Type 0 where
  nothing : Stands [] []
  -- a byte that is no backslash stands for itself
  plain : {b : ℕ} {bs ds : List ℕ} → (b ≢ 92) → Stands bs ds → Stands (b ∷ bs) (b ∷ ds)
  -- a backslash and a letter
  letter : {b d : ℕ} {bs ds : List ℕ} → simple b ≡ Some d → Stands bs ds → Stands (92 ∷ b ∷ bs) (d ∷ ds)
  -- a backslash, an x and two hexadecimal digits
  hex : {h l x y : ℕ} {bs ds : List ℕ} → hex_of h ≡ Some x → hex_of l ≡ Some y → Stands bs ds → Stands (92 ∷ 120 ∷ h ∷ l ∷ bs) ((16 * x + y) ∷ ds)

-- a text that begins with a backslash, and with no escape
abbrev pub BadEscape : List ℕ → Type 0
BadEscape t =
    ((rest : List ℕ) × (t ≡ 92 ∷ rest))
    × ((b d : ℕ) (rest : List ℕ) → t ≡ 92 ∷ b ∷ rest → simple b ≢ Some d)
    × ((h l x y : ℕ) (rest : List ℕ) → t ≡ 92 ∷ 120 ∷ h ∷ l ∷ rest → hex_of h ≡ Some x → hex_of l ≢ Some y)

-- ---- the same by computing

-- what a text stands for up to its end or its first bad escape, and the text from there on
pub record Reading : Type 0 where
  pub bytes : List ℕ
  pub stop : Option (List ℕ)

-- the byte that two hexadecimal digits write, and how many bytes of the escape follow the backslash
abbrev pub hex_pair : List ℕ → Option (ℕ × ℕ)
hex_pair [] = None
hex_pair (h ∷ []) = None
hex_pair (h ∷ l ∷ bs) = or_else (hex_of h) (λ x. option_map (λ y. (16 * x + y, 3)) (hex_of l)) None

-- behind a backslash: the byte that the escape stands for, and how many bytes it has behind the backslash
abbrev pub escape : List ℕ → Option (ℕ × ℕ)
escape [] = None
escape (b ∷ bs) = or_else (simple b) (λ d. Some (d, 1)) (cond (b == 120) (hex_pair bs) None)

-- the first byte that a text stands for, and how many bytes are spent on it behind the first
abbrev pub first : ℕ → List ℕ → Option (ℕ × ℕ)
first b bs = cond (b == 92) (escape bs) (Some (b, 0))

abbrev pub put : ℕ → Reading → Reading
put d r = record { bytes = d ∷ r.bytes; stop = r.stop }

-- a text whose first k bytes belong to an escape that has begun
unfoldable pub reading_from : ℕ → List ℕ → Reading
reading_from k [] = record { bytes = []; stop = None }
reading_from zero (b ∷ bs) = or_else (first b bs) (λ p. put p.0 (reading_from p.1 bs)) (record { bytes = []; stop = Some (b ∷ bs) })
reading_from (suc k) (b ∷ bs) = reading_from k bs

abbrev pub reading : List ℕ → Reading
reading t = reading_from 0 t

-- the law: what the reading says, in the words of the language
abbrev pub Means : List ℕ → Reading → Type 0
Means t r =
    MatchOption r.stop (Stands t r.bytes)
    (λ rest. (front : List ℕ) × (t ≡ front ++ rest) × Stands front r.bytes × BadEscape rest)

-- a reading says what the language says, and there is no other that does
pub record Readings : Type 0 where
  pub means : (t : List ℕ) → Means t (reading t)
  pub once : (t : List ℕ) (r : Reading) → Means t r → r ≡ reading t
