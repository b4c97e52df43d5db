-- Suffixes and prefixes of integers.
use Rattle.std.proofs.Common.{◌≡◌, ℕ, ◌-◌, ◌*◌, ◌^◌, ◌<◌, ◌≤◌, Bool, leb, List, length, ℤ, pos, Some, None, Ok, Err, Option, sym, refl, ap, ◌∙◌, le-mul_of_pos_right, arith, rules}
use Rattle.std.specs.Option.{SomeIff, option_map}
use Rattle.syntax.specs.declared.span.Span.{Span}
use Rattle.refusal.specs.declared.refusal.Refusal.TheVariants.{InvalidInteger}
use Rattle.literal.specs.Texts.{place_in}
use Rattle.literal.specs.Digits.{up_to}
use Rattle.literal.specs.Integers.{before, factor, integer_number, pattern, as_integer}

pub factor_pos : (t : List ℕ) → 0 < factor t
factor_pos t = grind arith

abbrev top : ℕ
top = 2 ^ 64 - 1

-- what is too large stays so with a factor
pub scaled_none : (o : Option ℕ) (f : ℕ) → 0 < f → up_to top o ≡ None → up_to top (option_map (λ n. n * f) o) ≡ None
scaled_none None f z e = refl
scaled_none (Some n) f z e = let g = le-mul_of_pos_right n z in grind arith

same_number : (o : Option ℕ) (n : ℕ) → up_to top o ≡ Some n → o ≡ Some n
same_number None n e = grind arith
same_number (Some m) n e = grind arith

pub scaled_some : (o r : Option ℕ) (n f : ℕ) → up_to top o ≡ Some n → SomeIff r (n * f < 2 ^ 64) (n * f) → r ≡ up_to top (option_map (λ n. n * f) o)
scaled_some o r n f e h = let m = same_number o n e in go r h ∙ sym (ap (λ p. up_to top (option_map (λ m. m * f) p)) m)
  where
    go : (r : Option ℕ) → SomeIff r (n * f < 2 ^ 64) (n * f) → r ≡ up_to top (Some (n * f))
    go None h = grind arith
    go (Some m) h = grind arith

-- a smaller limit after a larger one
pub within : (t : ℕ) (o : Option ℕ) → t < 2 ^ 64 → (p : Option ℕ) → p ≡ up_to top o → (n : ℕ) → p ≡ Some n → up_to t (Some n) ≡ up_to t o
within t o h p e n f = ap (up_to t) (sym (same_number o n (sym e ∙ f)))

pub without_limit : (t : ℕ) (o : Option ℕ) → t < 2 ^ 64 → None ≡ up_to top o → None ≡ up_to t o
without_limit t None h e = refl
without_limit t (Some n) h e = grind arith

-- ---- 64 bits

-- a number that a signed integer holds
pub signed_here : (o : Option ℕ) (v : ℤ) → Some v ≡ option_map pos (up_to (2 ^ 63 - 1) o) → (n : ℕ) × (up_to top o ≡ Some n) × (v ≡ pos n) × (n < 2 ^ 63)
signed_here None v e = grind arith
signed_here (Some n) v e = (n, grind arith, grind arith, grind arith)

-- a number that only an unsigned one holds
pub unsigned_here : (o : Option ℕ) (n : ℕ) → None ≡ option_map pos (up_to (2 ^ 63 - 1) o) → option_map pos (Some n) ≡ option_map pos (up_to top o) → (up_to top o ≡ Some n) × (2 ^ 63 ≤ n)
unsigned_here None n e f = grind arith
unsigned_here (Some m) n e f = (grind arith, grind arith)

-- a literal of its parts
pub made : (t : List ℕ) (s name : Span) (n : ℕ) (v w : ℤ) (u : Bool) → up_to top (integer_number t) ≡ Some n → v ≡ w → w ≡ pattern n → u ≡ leb (2 ^ 63) n → name ≡ place_in s 0 (length (before t)) → Ok (record { value = v; unsigned = u; name = name }) ≡ as_integer t s
made t s name n v w u e z p q r = search rules

pub low_pattern : (n : ℕ) (v : ℤ) → n < 2 ^ 63 → v ≡ pos n → v ≡ pattern n
low_pattern n v h e = grind arith

pub too_large : (t : List ℕ) (s : Span) → None ≡ option_map pos (up_to top (integer_number t)) → Err (InvalidInteger s) ≡ as_integer t s
too_large t s e = let n = none (up_to top (integer_number t)) e in search rules
  where
    none : (o : Option ℕ) → None ≡ option_map pos o → o ≡ None
    none o e = grind arith
