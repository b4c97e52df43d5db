-- What reading literals comes to, in the words of writing them.
use Rattle.std.specs.Prelude.{◌≡◌, ℕ, ◌+◌, ◌*◌, ◌/◌, ◌%◌, ◌^◌, ◌<◌, ◌≤◌, true, false, cond, ◌⊎◌, List, [], ◌∷◌, ◌++◌, map, length, pos, negsuc, neg_ℤ, Some, None, Ok, Err, codes, ◌==◌, ◌≢◌}
use Rattle.std.specs.Char.{digit_value, digit_char}
use Rattle.std.specs.Int.Digits.{digits_of}
use Rattle.syntax.specs.declared.span.Span.{Span}
use Rattle.refusal.specs.declared.refusal.Refusal.TheVariants.{BadToken, InvalidInteger}
use Rattle.literal.specs.declared.string.StringValue.TheVariants.{Decoded}
use Rattle.literal.specs.Digits.{number_of, are_digits}
use Rattle.literal.specs.Floats.{as_float, rounded}
use Rattle.literal.specs.Integers.{before, factor, plain_number, integer_number, as_integer, literal, negated}
use Rattle.literal.specs.Regexps.{has, regexp_with, as_regexp}
use Rattle.literal.specs.Strings.{as_string, decoded_in}
use Rattle.literal.specs.Texts.{place_in}

-- ---- integers

-- characters that write a number in a base: one for each of its digits, letters small or capital, and a zero for 0
abbrev pub Writes : ℕ → ℕ → List ℕ → Type 0
Writes base n ds = map digit_value ds ≡ cond (n == 0) (0 ∷ []) (digits_of base n)

-- a text with underscores put in anywhere
pub data Spread : List ℕ → List ℕ → Type 0 where
  end : Spread [] []
  keep : {b : ℕ} {bs t : List ℕ} → Spread bs t → Spread (b ∷ bs) (b ∷ t)
  under : {bs t : List ℕ} → Spread bs t → Spread bs (95 ∷ t)

-- the text reads as this number
abbrev pub ReadsAs : List ℕ → ℕ → Type 0
ReadsAs t n = (s : Span) → as_integer t s ≡ Ok (literal n (place_in s 0 (length t)))

pub record IntegersReadBack : Type 0 where
  -- every number has such characters
  pub writes : (base n : ℕ) → 2 ≤ base → base ≤ 36 → (ds : List ℕ) × Writes base n ds
  pub decimal : (n : ℕ) (ds t : List ℕ) → n < 2 ^ 64 → Writes 10 n ds → Spread ds t → ReadsAs t n
  -- behind `0x`, and underscores may stand inside it too
  pub hexadecimal : (n : ℕ) (ds t : List ℕ) → n < 2 ^ 64 → Writes 16 n ds → Spread (48 ∷ 120 ∷ ds) t → ReadsAs t n
  -- behind `0o`, in which none stands
  pub octal : (n : ℕ) (ds t : List ℕ) → n < 2 ^ 64 → Writes 8 n ds → Spread ds t → ReadsAs (48 ∷ 111 ∷ t) n

-- a suffix is cut off and multiplies; any other text stays whole
pub record SizesMultiply : Type 0 where
  pub kilo : (h : List ℕ) → (before (h ++ codes "KB") ≡ h) × (factor (h ++ codes "KB") ≡ 1024)
  pub mega : (h : List ℕ) → (before (h ++ codes "MB") ≡ h) × (factor (h ++ codes "MB") ≡ 2 ^ 20)
  pub kilo_number : (h : List ℕ) (n : ℕ) → plain_number h ≡ Some n → integer_number (h ++ codes "KB") ≡ Some (n * 1024)
  pub mega_number : (h : List ℕ) (n : ℕ) → plain_number h ≡ Some n → integer_number (h ++ codes "MB") ≡ Some (n * 2 ^ 20)
  pub plain : (t : List ℕ) → ((h : List ℕ) → t ≢ h ++ codes "KB") → ((h : List ℕ) → t ≢ h ++ codes "MB") → (before t ≡ t) × (factor t ≡ 1)

-- a minus sign before the literal of a number: nothing to fold at 0 or at a negative literal, the negative literal up to
-- 2 ^ 63, and refused above
pub record NegativesFold : Type 0 where
  pub negative_stays : (k : ℕ) (name s : Span) → negated (record { value = negsuc k; unsigned = false; name = name }) s ≡ Ok None
  pub zero_stays : (name s : Span) → negated (literal 0 name) s ≡ Ok None
  pub folds : (n : ℕ) (name s : Span) → 0 < n → n ≤ 2 ^ 63 → negated (literal n name) s ≡ Ok (Some (record { value = neg_ℤ (pos n); unsigned = false; name = s }))
  pub refuses : (n : ℕ) (name s : Span) → 2 ^ 63 < n → n < 2 ^ 64 → negated (literal n name) s ≡ Err (InvalidInteger s)

-- ---- strings

-- a byte as `\x` and two hexadecimal digits
abbrev pub as_hex : ℕ → List ℕ
as_hex b = 92 ∷ 120 ∷ digit_char (b / 16) ∷ digit_char (b % 16) ∷ []

abbrev pub all_as_hex : List ℕ → List ℕ
all_as_hex [] = []
all_as_hex (b ∷ bs) = as_hex b ++ all_as_hex bs

abbrev pub Bytes : List ℕ → Type 0
Bytes [] = Unit {0}
Bytes (b ∷ bs) = (b < 256) × Bytes bs

-- a string of bytes written so, one or more, stands for those bytes
pub record EscapedBytesReadBack : Type 0 where
  pub value : (b : ℕ) (bs : List ℕ) (s : Span) (from : ℕ) → Bytes (b ∷ bs) → as_string (34 ∷ (all_as_hex (b ∷ bs) ++ 34 ∷ [])) s from ≡ Ok (Decoded from (length (b ∷ bs)))
  pub bytes : (b : ℕ) (bs : List ℕ) → Bytes (b ∷ bs) → decoded_in (34 ∷ (all_as_hex (b ∷ bs) ++ 34 ∷ [])) ≡ b ∷ bs

-- ---- regular expressions

-- modifiers: any row of `i` and `s`
abbrev pub Modifiers : List ℕ → Type 0
Modifiers [] = Unit {0}
Modifiers (c ∷ cs) = ((c ≡ 105) ⊎ (c ≡ 115)) × Modifiers cs

-- a slash, any body, a slash and modifiers are that body with those modifiers; without a slash behind the body, or before it, refused
pub record RegexpsReadBack : Type 0 where
  pub value : (body cs : List ℕ) (s : Span) → Modifiers cs → as_regexp (47 ∷ (body ++ 47 ∷ cs)) s ≡ Ok (regexp_with (place_in s 1 (1 + length body)) (has 105 cs, has 115 cs))
  pub empty : (s : Span) → as_regexp [] s ≡ Err (BadToken s)
  pub unopened : (b : ℕ) (body : List ℕ) (s : Span) → b ≢ 47 → as_regexp (b ∷ body) s ≡ Err (BadToken s)
  pub unclosed : (b : ℕ) (body : List ℕ) (s : Span) → has 47 body ≡ false → as_regexp (b ∷ body) s ≡ Err (BadToken s)

-- ---- floats

-- digits, a dot and digits, at least one of them, with underscores put in anywhere, are the whole number that they write together over a power of ten
pub record DecimalsReadBack : Type 0 where
  pub dotted : (w f t : List ℕ) (s : Span) → are_digits 10 w ≡ true → are_digits 10 f ≡ true → 0 < length (w ++ f) → Spread (w ++ 46 ∷ f) t → as_float t s ≡ rounded (number_of 10 (w ++ f), length f) s
  pub undotted : (w t : List ℕ) (s : Span) → are_digits 10 w ≡ true → 0 < length w → Spread w t → as_float t s ≡ rounded (number_of 10 w, 0) s
