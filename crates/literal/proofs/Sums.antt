-- Reading digits one by one gives the number that they write.
use Rattle.std.proofs.Common.{◌≡◌, ℕ, suc, ◌+◌, ◌-◌, ◌*◌, ◌^◌, ◌<◌, ◌≤◌, Bool, true, false, cond, ◌&&◌, ◌||◌, eqb, ltb, List, [], ◌∷◌, length, get_or, drop, Some, None, Option, sym, refl, ap, ◌∙◌, subst, ⊎_elim, mul_assoc, mul_comm, add-mul, mul-le-mul_left, pow-suc, zero-mul, mul-one, add-one, arith, drop-cons, ltb-false, ltb-true, le-ltb, lt-ltb, ne_eqb}
use native.Mathlib.Nat.{pow-zero, one-le-pow}
use Rattle.std.specs.Char.{digit_value}
use Rattle.std.specs.Option.{is_some, unwrap_or, option_and_then}
use Rattle.std.proofs.lemmas.List.{drop_all}
use Rattle.std.proofs.lemmas.Bool.{cases_Bool}
use Rattle.literal.specs.Digits.{number_of, are_digits, written, without, up_to}
use Rattle.literal.specs.Numerals.{pushed}

-- ---- underscores

-- one byte more of a text
pub without_turn : (text : List ℕ) (i : ℕ) → i < length text → without (drop i text) ≡ cond (eqb (get_or text i 0) 95) (without (drop (i + 1) text)) (get_or text i 0 ∷ without (drop (i + 1) text))
without_turn text i h = ap without (drop-cons text i 0 h) ∙ ap (λ j. cond (eqb (get_or text i 0) 95) (without (drop j text)) (get_or text i 0 ∷ without (drop j text))) (sym (add-one i))

pub without_keep : (text : List ℕ) (i : ℕ) → i < length text → (get_or text i 0 ≡ 95 → ⊥) → without (drop i text) ≡ get_or text i 0 ∷ without (drop (i + 1) text)
without_keep text i h e = let x = ne_eqb (get_or text i 0) 95 e in without_turn text i h ∙ rw x

pub without_end : (text : List ℕ) (i : ℕ) → length text ≤ i → without (drop i text) ≡ []
without_end text i h = ap without (drop_all i text h)

-- ---- the digits that are left, behind those that wrote a number, if there was one

abbrev pub reading : ℕ → Option ℕ → List ℕ → Option ℕ
reading base o [] = o
reading base o (d ∷ ds) = option_and_then (λ m. reading base (Some m) ds) (pushed base (unwrap_or o 0) d)

-- what they come to
abbrev total : ℕ → Bool → ℕ → List ℕ → Option ℕ
total base some n ds = up_to (2 ^ 64 - 1) (cond (are_digits base ds && (some || ltb 0 (length ds))) (Some (n * base ^ length ds + number_of base ds)) None)

-- one digit more by its place, and by multiplying
place : (n base v p m : ℕ) → (n * base + v) * p + m ≡ n * (p * base) + (v * p + m)
place n base v p m =
    let e : (n * base + v) * p ≡ n * base * p + v * p = add-mul (n * base) v p in
    let f : n * base * p ≡ n * (p * base) = mul_assoc n base p ∙ ap (λ x. n * x) (mul_comm base p) in
    omega arith

pub place_pow : (n base v k m : ℕ) → (n * base + v) * base ^ k + m ≡ n * base ^ suc k + (v * base ^ k + m)
place_pow n base v k m = place n base v (base ^ k) m ∙ ap (λ x. n * x + (v * base ^ k + m)) (sym (pow-suc base k))

pub grown : (n k : ℕ) → 0 < k → n ≤ n * k
grown n k h = subst (λ x. x ≤ n * k) (mul-one n) (mul-le-mul_left n h)

pub some_more : (some : Bool) (k : ℕ) → (some || ltb 0 (suc k)) ≡ true
some_more some k = grind arith

fits : (n : ℕ) → n < 2 ^ 64 → up_to (2 ^ 64 - 1) (Some n) ≡ Some n
fits n h = grind arith

over : (x : Bool) (n : ℕ) → 2 ^ 64 ≤ n → up_to (2 ^ 64 - 1) (cond x (Some n) None) ≡ None
over x n h = grind arith

abbrev Reads : ℕ → List ℕ → Type 0
Reads base ds = (o : Option ℕ) → unwrap_or o 0 < 2 ^ 64 → reading base o ds ≡ total base (is_some o) (unwrap_or o 0) ds

ended : (base : ℕ) → Reads base []
ended base (Some n) h = let e : n * base ^ 0 + 0 ≡ n = ap (λ x. n * x + 0) (pow-zero base) ∙ omega arith in sym (ap (λ m. up_to (2 ^ 64 - 1) (Some m)) e ∙ fits n h)
ended base None h = refl

more : (base d : ℕ) (ds : List ℕ) → 0 < base → Reads base ds → Reads base (d ∷ ds)
more base d ds z rec o h = ⊎_elim digit other (cases_Bool (ltb (digit_value d) base))
  where
    other : ltb (digit_value d) base ≡ false → reading base o (d ∷ ds) ≡ total base (is_some o) (unwrap_or o 0) (d ∷ ds)
    other f = rw f

    small : ltb (digit_value d) base ≡ true → unwrap_or o 0 * base + digit_value d < 2 ^ 64 → reading base o (d ∷ ds) ≡ total base (is_some o) (unwrap_or o 0) (d ∷ ds)
    small t l =
        let x = lt-ltb (unwrap_or o 0 * base + digit_value d) (2 ^ 64) l in
        let y = some_more (is_some o) (length ds) in
        let e = place_pow (unwrap_or o 0) base (digit_value d) (length ds) (number_of base ds) in
        rw (t, x, y) (rec (Some (unwrap_or o 0 * base + digit_value d)) l ∙ ap (λ m. up_to (2 ^ 64 - 1) (cond (are_digits base ds && true) (Some m) None)) e)

    large : ltb (digit_value d) base ≡ true → 2 ^ 64 ≤ unwrap_or o 0 * base + digit_value d → reading base o (d ∷ ds) ≡ total base (is_some o) (unwrap_or o 0) (d ∷ ds)
    large t l =
        let x = le-ltb (unwrap_or o 0 * base + digit_value d) (2 ^ 64) l in
        let e = place_pow (unwrap_or o 0) base (digit_value d) (length ds) (number_of base ds) in
        let g = grown (unwrap_or o 0 * base + digit_value d) (base ^ length ds) (one-le-pow (length ds) base z) in
        let w = over (are_digits base ds && (is_some o || ltb 0 (suc (length ds)))) (unwrap_or o 0 * base ^ suc (length ds) + (digit_value d * base ^ length ds + number_of base ds)) (omega arith) in
        rw (t, x) (sym w)

    digit : ltb (digit_value d) base ≡ true → reading base o (d ∷ ds) ≡ total base (is_some o) (unwrap_or o 0) (d ∷ ds)
    digit t = ⊎_elim (λ x. small t (ltb-true _ _ x)) (λ x. large t (ltb-false _ _ x)) (cases_Bool (ltb (unwrap_or o 0 * base + digit_value d) (2 ^ 64)))

reads : (base : ℕ) → 0 < base → (ds : List ℕ) → Reads base ds
reads base z [] = ended base
reads base z (d ∷ ds) = more base d ds z (reads base z ds)

-- from the start it is the number that the digits write
pub reading_all : (base : ℕ) (ds : List ℕ) → 0 < base → up_to (2 ^ 64 - 1) (written base ds) ≡ reading base None ds
reading_all base ds z = sym (reads base z ds None (omega arith) ∙ ap (λ n. up_to (2 ^ 64 - 1) (cond (are_digits base ds && ltb 0 (length ds)) (Some n) None)) (omega (arith, zero-mul (base ^ length ds))))

-- ---- one byte of a loop

pub reading_digit : (base : ℕ) (o : Option ℕ) (text : List ℕ) (i : ℕ) (r : Option ℕ) → i < length text → (get_or text i 0 ≡ 95 → ⊥) → r ≡ pushed base (unwrap_or o 0) (get_or text i 0) → reading base o (without (drop i text)) ≡ option_and_then (λ m. reading base (Some m) (without (drop (i + 1) text))) r
reading_digit base o text i r h e p = ap (reading base o) (without_keep text i h e) ∙ ap (option_and_then (λ m. reading base (Some m) (without (drop (i + 1) text)))) (sym p)

pub reading_end : (base : ℕ) (o : Option ℕ) (text : List ℕ) (i : ℕ) → length text ≤ i → reading base o (without (drop i text)) ≡ o
reading_end base o text i h = ap (reading base o) (without_end text i h)
