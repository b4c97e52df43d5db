-- Reading the digits of a float one by one.
use Rattle.std.proofs.Common.{◌≡◌, ℕ, suc, ◌+◌, ◌-◌, ◌*◌, ◌^◌, ◌<◌, ◌≤◌, Bool, true, false, cond, ◌&&◌, ◌||◌, eqb, ltb, List, [], ◌∷◌, ◌++◌, length, get_or, drop, Some, None, Option, sym, refl, ap, ◌∙◌, ⊎_elim, zero-mul, arith}
use native.Mathlib.Nat.{one-le-pow}
use Rattle.std.specs.Option.{is_some, unwrap_or, option_map, option_and_then}
use Rattle.std.specs.Char.{digit_value}
use Rattle.std.proofs.lemmas.Bool.{cases_Bool, cases_lt}
use Rattle.literal.specs.declared.float.Decimal.{Decimal}
use Rattle.literal.specs.Digits.{number_of, are_digits, without}
use Rattle.literal.specs.Floats.{whole, fraction, decimal_of}
use Rattle.literal.specs.Numerals.{capped, capped_pair, pushed_byte}
use Rattle.literal.proofs.Sums.{place_pow, grown, some_more, without_keep, without_end}

-- ---- what is left to read

abbrev pub scan : Decimal → List ℕ → Option (ℕ × ℕ)
scan d [] = option_map (λ n. (n, unwrap_or d.places 0)) d.digits
scan d (b ∷ bs) = option_and_then (λ e. scan e bs) (pushed_byte d b)

abbrev pub decimal : Option ℕ → Option ℕ → Decimal
decimal o p = record { digits = o; places = p }

-- what digits ds come to behind n, where f more of them stand behind the dot
abbrev total : Bool → ℕ → ℕ → List ℕ → ℕ → Option (ℕ × ℕ)
total some n k ds f = cond (are_digits 10 ds && (some || ltb 0 (length ds))) (Some (capped (n * 10 ^ length ds + number_of 10 ds), k + f)) None

cap_cap : (m p x : ℕ) → 0 < p → capped (capped m * p + x) ≡ capped (m * p + x)
cap_cap m p x h = ⊎_elim
    (λ (l : m < 2 ^ 64). let e : capped m ≡ m = omega arith in ap (λ n. capped (n * p + x)) e)
    (λ (l : 2 ^ 64 ≤ m).
    let e : capped m ≡ 2 ^ 64 - 1 = omega arith in
    let a = grown (2 ^ 64 - 1) p h in
    let b = grown m p h in
    ap (λ n. capped (n * p + x)) e ∙ omega arith) (cases_lt m (2 ^ 64))

small : (n : ℕ) → n < 2 ^ 64 → capped n ≡ n
small n h = omega arith

pub capped_lt : (n : ℕ) → capped n < 2 ^ 64
capped_lt n = omega arith

-- nothing more
ended : (o p : Option ℕ) → unwrap_or o 0 < 2 ^ 64 → scan (decimal o p) [] ≡ total (is_some o) (unwrap_or o 0) (unwrap_or p 0) [] 0
ended (Some n) p h =
    let k = unwrap_or p 0 in
    let e : n * 10 ^ 0 + 0 ≡ n = omega arith in
    let f : k + 0 ≡ k = omega arith in
    sym (ap (λ m. Some (capped m, k + 0)) e ∙ ap (λ m. Some (m, k + 0)) (small n h) ∙ ap (λ m. Some (n, m)) f)
ended None p h = refl

-- a digit more, and what is none
digit : (some : Bool) (n k k' : ℕ) (b : ℕ) (ds : List ℕ) (f f' : ℕ) → ltb (digit_value b) 10 ≡ true → k' + f' ≡ k + f → total true (capped (n * 10 + digit_value b)) k' ds f' ≡ total some n k (b ∷ ds) f
digit some n k k' b ds f f' t e =
    let y = some_more some (length ds) in
    let c = cap_cap (n * 10 + digit_value b) (10 ^ length ds) (number_of 10 ds) (one-le-pow (length ds) 10 (omega arith)) in
    let p = place_pow n 10 (digit_value b) (length ds) (number_of 10 ds) in
    grind arith

other : (some : Bool) (n k b : ℕ) (ds : List ℕ) (f : ℕ) → ltb (digit_value b) 10 ≡ false → None ≡ total some n k (b ∷ ds) f
other some n k b ds f t = grind arith

-- ---- behind the dot

abbrev Behind : List ℕ → Type 0
Behind ds = (o : Option ℕ) (k : ℕ) → unwrap_or o 0 < 2 ^ 64 → scan (decimal o (Some k)) ds ≡ total (is_some o) (unwrap_or o 0) k ds (length ds)

behind_more : (b : ℕ) (ds : List ℕ) → Behind ds → Behind (b ∷ ds)
behind_more b ds rec o k h = ⊎_elim
    (λ t. let e : pushed_byte (decimal o (Some k)) b ≡ Some (decimal (Some (capped (unwrap_or o 0 * 10 + digit_value b))) (Some (k + 1))) = grind arith in
    ap (option_and_then (λ e. scan e ds)) e
    ∙ rec (Some (capped (unwrap_or o 0 * 10 + digit_value b))) (k + 1) (capped_lt (unwrap_or o 0 * 10 + digit_value b)) ∙ digit (is_some o) (unwrap_or o 0) k (k + 1) b ds (suc (length ds)) (length ds) t (omega arith))
    (λ t. let e : pushed_byte (decimal o (Some k)) b ≡ None = grind arith in ap (option_and_then (λ e. scan e ds)) e ∙ other (is_some o) (unwrap_or o 0) k b ds (suc (length ds)) t)
    (cases_Bool (ltb (digit_value b) 10))

behind : (ds : List ℕ) → Behind ds
behind [] = λ o k h. ended o (Some k) h
behind (b ∷ ds) = behind_more b ds (behind ds)

-- ---- before it

abbrev Before : List ℕ → Type 0
Before t = (o : Option ℕ) → unwrap_or o 0 < 2 ^ 64 → scan (decimal o None) t ≡ total (is_some o) (unwrap_or o 0) 0 (whole t ++ fraction t) (length (fraction t))

before_more : (b : ℕ) (bs : List ℕ) → Before bs → Before (b ∷ bs)
before_more b bs rec o h = ⊎_elim dot plain (cases_Bool (eqb b 46))
  where
    dot : eqb b 46 ≡ true → scan (decimal o None) (b ∷ bs) ≡ total (is_some o) (unwrap_or o 0) 0 (whole (b ∷ bs) ++ fraction (b ∷ bs)) (length (fraction (b ∷ bs)))
    dot x =
        let e : pushed_byte (decimal o None) b ≡ Some (decimal o (Some 0)) = grind arith in
        ap (option_and_then (λ e. scan e bs)) e
        ∙ behind bs o 0 h
        ∙ sym (ap (λ y. total (is_some o) (unwrap_or o 0) 0 (cond y [] (b ∷ whole bs) ++ cond y bs (fraction bs)) (length (cond y bs (fraction bs)))) x)

    plain : eqb b 46 ≡ false → scan (decimal o None) (b ∷ bs) ≡ total (is_some o) (unwrap_or o 0) 0 (whole (b ∷ bs) ++ fraction (b ∷ bs)) (length (fraction (b ∷ bs)))
    plain x = ⊎_elim
        (λ t. let e : pushed_byte (decimal o None) b ≡ Some (decimal (Some (capped (unwrap_or o 0 * 10 + digit_value b))) None) = grind arith in
        ap (option_and_then (λ e. scan e bs)) e
        ∙ rec (Some (capped (unwrap_or o 0 * 10 + digit_value b))) (capped_lt (unwrap_or o 0 * 10 + digit_value b)) ∙ digit (is_some o) (unwrap_or o 0) 0 0 b (whole bs ++ fraction bs) (length (fraction bs)) (length (fraction bs)) t refl)
        (λ t. let e : pushed_byte (decimal o None) b ≡ None = grind arith in ap (option_and_then (λ e. scan e bs)) e ∙ other (is_some o) (unwrap_or o 0) 0 b (whole bs ++ fraction bs) (length (fraction bs)) t)
        (cases_Bool (ltb (digit_value b) 10))
        ∙ sym (ap (λ y. total (is_some o) (unwrap_or o 0) 0 (cond y [] (b ∷ whole bs) ++ cond y bs (fraction bs)) (length (cond y bs (fraction bs)))) x)

before : (t : List ℕ) → Before t
before [] = λ o h. ended o None h
before (b ∷ bs) = before_more b bs (before bs)

pub scan_all : (t : List ℕ) → option_map capped_pair (decimal_of t) ≡ scan (decimal None None) t
scan_all t = sym (before t None (omega arith) ∙ ap (λ m. cond x (Some (capped m, 0 + length (fraction t))) None) z ∙ ap (λ m. cond x (Some (capped (number_of 10 ds), m)) None) w ∙ go x)
  where
    ds : List ℕ
    ds = whole t ++ fraction t

    x : Bool
    x = are_digits 10 ds && ltb 0 (length ds)

    z : 0 * 10 ^ length ds + number_of 10 ds ≡ number_of 10 ds
    z = omega (arith, zero-mul (10 ^ length ds))

    w : 0 + length (fraction t) ≡ length (fraction t)
    w = omega arith

    go : (y : Bool) → cond y (Some (capped (number_of 10 ds), length (fraction t))) None ≡ option_map capped_pair (option_map (λ d. (d, length (fraction t))) (cond y (Some (number_of 10 ds)) None))
    go true = refl
    go false = refl

-- ---- one byte of a loop

pub scan_push : (d : Decimal) (text : List ℕ) (i : ℕ) (o : Option Decimal) → i < length text → (get_or text i 0 ≡ 95 → ⊥) → o ≡ pushed_byte d (get_or text i 0) → scan d (without (drop i text)) ≡ option_and_then (λ e. scan e (without (drop (i + 1) text))) o
scan_push d text i o h e p = ap (scan d) (without_keep text i h e) ∙ ap (option_and_then (λ e. scan e (without (drop (i + 1) text)))) (sym p)

pub scan_end : (d : Decimal) (text : List ℕ) (i : ℕ) → length text ≤ i → scan d (without (drop i text)) ≡ option_map (λ n. (n, unwrap_or d.places 0)) d.digits
scan_end d text i h = ap (scan d) (without_end text i h)
