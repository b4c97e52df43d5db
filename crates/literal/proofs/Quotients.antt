-- A whole number up to 2 ^ 53 over a power of ten up to the fifteenth is one rounding away from its exact quotient.
use Rattle.std.proofs.Common.{◌≡◌, ℕ, ◌*◌, ◌^◌, ◌<◌, ◌≤◌, true, false, eqb, ◌⊎◌, pos, sym, refl, ap, ◌∙◌, subst, inl, inr, ⊎_elim, le_trans, mul_assoc, mul_comm, eq-or-lt_of_le, mul-pos, mul-one, arith, lit<, lit≤, shl_lt, ne_eqb}
use native.Mathlib.Nat.{pow-le-pow_right}
use lib.Ieee.{Float, nan, inf, fin, Format, binary64, up, down, div, of_int, round}
use lib.Ieee.Exact.{HasValue, round_exact}
use lib.Ieee.Fits.{down_pos}
use lib.Ieee.Scale.{round_same}
use lib.Ieee.Positive.{first_pos}
use Rattle.literal.specs.Floats.{Quotients}

-- an integer up to 2 ^ 53 is itself as a float
pub whole : (n : ℕ) → n ≤ 2 ^ 53 → HasValue (of_int binary64 (pos n)) false n 1
unfolding of_int
whole n h = ⊎_elim small top (cases n h)
  where
    cases : (n : ℕ) → n ≤ 2 ^ 53 → (n < 2 ^ 53) ⊎ (n ≡ 2 ^ 53)
    cases n h = ⊎_elim (λ e. inr e) (λ l. inl l) (eq-or-lt_of_le h)

    small : n < 2 ^ 53 → HasValue (round binary64 false n 1) false n 1
    small l = round_exact binary64 false n 1 n 1074 (lit< tt) l (le_trans (shl_lt 53 1074 l) (lit≤ tt)) (sym (mul-one (n * 2 ^ 1074)))

    top : n ≡ 2 ^ 53 → HasValue (round binary64 false n 1) false n 1
    top e = let P : ℕ → Type 0 = λ m. HasValue (round binary64 false m 1) false m 1 in subst P (sym e) (round_exact binary64 false (2 ^ 53) 1 1 1127 (lit< tt) (lit< tt) (lit< tt) refl)

turn : (a b p q M N : ℕ) → M * 1 ≡ a * p → N * 1 ≡ b * q → M * q * b ≡ a * (N * p)
turn a b p q M N h k =
    ap (λ x. x * q * b) (sym (mul-one M) ∙ h)
    ∙ mul_assoc (a * p) q b ∙ mul_assoc a p (q * b)
    ∙ ap (λ x. a * x) (mul_comm p (q * b) ∙ ap (λ x. x * p) (mul_comm q b))
    ∙ ap (λ x. a * (x * p)) (sym k ∙ mul-one N)

-- the quotient of two floats that are the natural numbers a and b is a / b, rounded once
pub div_at : (f : Format) (x y : Float) (a b : ℕ) → 0 < b → HasValue x false a 1 → HasValue y false b 1 → div f x y ≡ round f false a b
unfolding div
div_at f nan y a b z h k = absurd h
div_at f (inf s) y a b z h k = absurd h
div_at f (fin s m e) nan a b z h k = absurd k
div_at f (fin s m e) (inf t) a b z h k = absurd k
div_at f (fin true m e) (fin t n d) a b z h k = absurd (let q : ◌≡◌ {A = ℕ} 0 1 = cc h.0 in omega arith)
div_at f (fin false m e) (fin true n d) a b z h k = absurd (let q : ◌≡◌ {A = ℕ} 0 1 = cc k.0 in omega arith)
div_at f (fin false m e) (fin false n d) a b z h k =
    let N : 0 < n * up d = subst (λ v. 0 < v) (sym k.1 ∙ mul-one (n * up d)) (mul-pos z (down_pos d)) in
    let w : eqb n 0 ≡ false = ne_eqb n 0 (λ o. let l = first_pos n (up d) N in omega arith) in
    rw w (round_same f false (m * up e * down d) (n * up d * down e) a b (mul-pos N (down_pos e)) z (turn a b (down e) (down d) (m * up e) (n * up d) h.1 k.1))

pub tens : (k : ℕ) → k ≤ 15 → 10 ^ k ≤ 2 ^ 53
tens k h = le_trans (pow-le-pow_right (lit< tt) h) (lit≤ tt)

pub quotient : (n k : ℕ) → n ≤ 2 ^ 53 → k ≤ 15 → div binary64 (of_int binary64 (pos n)) (of_int binary64 (pos (10 ^ k))) ≡ round binary64 false n (10 ^ k)
quotient n k h l = div_at binary64 _ _ n (10 ^ k) (pow-le-pow_right {n = 10} (lit< tt) {i = 0} (omega arith)) (whole n h) (whole (10 ^ k) (tens k l))

pub quotients : Quotients
quotients = record { digits = whole; power = λ k h. whole (10 ^ k) (tens k h); divided = quotient }
