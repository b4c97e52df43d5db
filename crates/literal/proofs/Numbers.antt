-- Integers read back what they write.
use Rattle.std.proofs.Common.{◌≡◌, ℕ, zero, suc, ◌+◌, ◌-◌, ◌*◌, ◌^◌, ◌<◌, ◌≤◌, true, false, cond, ltb, List, [], ◌∷◌, map, length, get_or, pos, negsuc, neg_ℤ, Some, None, Ok, Err, sym, refl, ap, ◌∙◌, subst, ⊎_elim, zero-mul, mul-one, arith, ltb-true, eq-eqb, ne_eqb}
use native.Mathlib.Nat.{pow-zero}
use Rattle.std.specs.Str.Parse.{digits_value_after}
use Rattle.std.specs.Char.{digit_value, digit_char}
use Rattle.std.specs.Int.Digits.{digits_of, number_from_digits, AllBelowBase}
use Rattle.std.proofs.lemmas.Int.Digits.{number_digits_of, all_below_base_digits_of, digits_value_is, length-digits_of_step}
use Rattle.std.proofs.lemmas.Bool.{and_parts, cases_eq}
use Rattle.std.proofs.lemmas.Str.{digit_value-digit_char}
use Rattle.syntax.specs.declared.span.Span.{Span}
use Rattle.refusal.specs.declared.refusal.Refusal.TheVariants.{InvalidInteger}
use Rattle.literal.specs.Digits.{number_of, are_digits, written, without}
use Rattle.literal.specs.Integers.{ends, before, factor, behind, plain_number, integer_number, pattern, literal, is_least, negated}
use Rattle.literal.specs.Laws.{Writes, Spread, end, keep, under, ReadsAs, IntegersReadBack, NegativesFold}
use Rattle.literal.specs.Texts.{or_else}
use Rattle.literal.proofs.Sums.{place_pow}

-- ---- digits

-- by places as by multiplying
horner : (base n : ℕ) (ds : List ℕ) → digits_value_after base n ds ≡ n * base ^ length ds + number_of base ds
horner base n [] = omega (arith, ap (λ x. n * x) (pow-zero base) ∙ mul-one n)
horner base n (d ∷ ds) = horner base (n * base + digit_value d) ds ∙ place_pow n base (digit_value d) (length ds) (number_of base ds)

number_value : (base : ℕ) (ds : List ℕ) → number_of base ds ≡ number_from_digits base (map digit_value ds)
number_value base ds = sym (horner base 0 ds ∙ omega (arith, zero-mul (base ^ length ds))) ∙ digits_value_is base ds

digits_under : (base : ℕ) (ds : List ℕ) → AllBelowBase base (map digit_value ds) → are_digits base ds ≡ true
digits_under base [] u = refl
digits_under base (d ∷ ds) u = let h = digits_under base ds u.1 in let l = u.0 in grind arith

length_map : (ds : List ℕ) → length (map digit_value ds) ≡ length ds
length_map [] = refl
length_map (d ∷ ds) = let h = length_map ds in grind arith

-- what is written of a number
record Numeral (base n : ℕ) (ds : List ℕ) : Type 0 where
  under_base : are_digits base ds ≡ true
  some : 0 < length ds
  value_of : number_of base ds ≡ n

numeral : (base n : ℕ) (ds : List ℕ) → 2 ≤ base → Writes base n ds → Numeral base n ds
numeral base n ds h w = ⊎_elim nought more (cases_eq n 0)
  where
    nought : n ≡ 0 → Numeral base n ds
    nought e =
        let x = eq-eqb n 0 e in
        let v : map digit_value ds ≡ 0 ∷ [] = w ∙ ap (λ b. cond b (0 ∷ []) (digits_of base n)) x in
        record {
          under_base = digits_under base ds (subst (AllBelowBase base) (sym v) (omega arith, tt));
          some = omega (arith, length_map ds, ap length v);
          value_of = number_value base ds ∙ ap (number_from_digits base) v ∙ omega (arith, zero-mul base);
        }

    more : (n ≡ 0 → ⊥) → Numeral base n ds
    more e =
        let x = ne_eqb n 0 e in
        let v : map digit_value ds ≡ digits_of base n = w ∙ ap (λ b. cond b (0 ∷ []) (digits_of base n)) x in
        record {
          under_base = digits_under base ds (subst (AllBelowBase base) (sym v) (all_below_base_digits_of base n h));
          some = omega (arith, length_map ds, ap length v, length-digits_of_step base n h (omega arith));
          value_of = number_value base ds ∙ ap (number_from_digits base) v ∙ number_digits_of base n h;
        }

pub numeral_written : (base n : ℕ) (ds : List ℕ) → 2 ≤ base → Writes base n ds → written base ds ≡ Some n
numeral_written base n ds h w = let m = numeral base n ds h w in let a = m.under_base in let b = m.some in let c = m.value_of in grind arith

-- ---- characters that do not occur

abbrev pub Free : ℕ → List ℕ → Type 0
Free c t = (i : ℕ) → get_or t i 0 ≡ c → ⊥

pub free_digits : (base c : ℕ) (ds : List ℕ) → are_digits base ds ≡ true → base ≤ digit_value c → 0 < c → Free c ds
free_digits base c [] a h z i e = omega arith
free_digits base c (d ∷ ds) a h z zero e =
    let l = ltb-true (digit_value d) base (and_parts (ltb (digit_value d) base) (are_digits base ds) a).0 in
    omega (arith, ap digit_value e)
free_digits base c (d ∷ ds) a h z (suc i) e = free_digits base c ds (and_parts (ltb (digit_value d) base) (are_digits base ds) a).1 h z i e

pub free_cons : (c b : ℕ) (t : List ℕ) → (b ≡ c → ⊥) → Free c t → Free c (b ∷ t)
free_cons c b t n f zero e = n e
free_cons c b t n f (suc i) e = f i e

free_tail : (c b : ℕ) (t : List ℕ) → Free c (b ∷ t) → Free c t
free_tail c b t f i e = f (suc i) e

free_spread : (c : ℕ) {ds t : List ℕ} → (c ≡ 95 → ⊥) → Spread ds t → Free c ds → Free c t
free_spread c n end f = f
free_spread c n (keep {b} {bs} {t} s) f = free_cons c b t (λ e. f 0 e) (free_spread c n s (free_tail c b bs f))
free_spread c n (under {bs} {t} s) f = free_cons c 95 t (λ e. n (sym e)) (free_spread c n s f)

pub spread_without : {ds t : List ℕ} → Free 95 ds → Spread ds t → without t ≡ ds
spread_without f end = refl
spread_without f (keep {b} {bs} {t} s) = let x = ne_eqb b 95 (λ e. f 0 e) in ap (λ c. cond c (without t) (b ∷ without t)) x ∙ ap (λ l. b ∷ l) (spread_without (free_tail 95 b bs f) s)
spread_without f (under {bs} {t} s) = spread_without f s

-- ---- prefix and suffix

unended : (c : ℕ) (t : List ℕ) → Free c t → ends c t ≡ false
unended c t f = let n = f (length t - 2) in grind arith

-- a text without the suffixes' letters is all before them
unsized : (t : List ℕ) → Free 75 t → Free 77 t → (before t ≡ t) × (factor t ≡ 1)
unsized t k m = let x = unended 75 t k in let y = unended 77 t m in (grind arith, grind arith)

not_behind : (c : ℕ) (t : List ℕ) → Free c t → behind c t ≡ None
not_behind c [] f = refl
not_behind c (a ∷ []) f = refl
not_behind c (a ∷ b ∷ bs) f = let n = f 1 in grind arith

reads : (t : List ℕ) (n : ℕ) → n < 2 ^ 64 → Free 75 t → Free 77 t → plain_number t ≡ Some n → ReadsAs t n
reads t n h k m e s =
    let u = unsized t k m in
    let f : integer_number t ≡ Some n = let z = mul-one n in grind arith in
    grind arith

decimal : (n : ℕ) (ds t : List ℕ) → n < 2 ^ 64 → Writes 10 n ds → Spread ds t → ReadsAs t n
decimal n ds t h w s =
    let a = (numeral 10 n ds (omega arith) w).under_base in
    let u = spread_without (free_digits 10 95 ds a (omega arith) (omega arith)) s in
    let x : behind 120 (without t) ≡ None = ap (behind 120) u ∙ not_behind 120 ds (free_digits 10 120 ds a (omega arith) (omega arith)) in
    let o : behind 111 t ≡ None = not_behind 111 t (free_spread 111 (λ e. omega arith) s (free_digits 10 111 ds a (omega arith) (omega arith))) in
    reads t n h (free_spread 75 (λ e. omega arith) s (free_digits 10 75 ds a (omega arith) (omega arith))) (free_spread 77 (λ e. omega arith) s (free_digits 10 77 ds a (omega arith) (omega arith)))
    (ap (λ p. or_else p (λ d. written 16 d) (or_else (behind 111 t) (λ d. written 8 (without d)) (written 10 (without t)))) x
    ∙ ap (λ p. or_else p (λ d. written 8 (without d)) (written 10 (without t))) o ∙ ap (written 10) u ∙ numeral_written 10 n ds (omega arith) w)

hexadecimal : (n : ℕ) (ds t : List ℕ) → n < 2 ^ 64 → Writes 16 n ds → Spread (48 ∷ 120 ∷ ds) t → ReadsAs t n
hexadecimal n ds t h w s =
    let a = (numeral 16 n ds (omega arith) w).under_base in
    let u = spread_without (free_cons 95 48 (120 ∷ ds) (λ e. omega arith) (free_cons 95 120 ds (λ e. omega arith) (free_digits 16 95 ds a (omega arith) (omega arith)))) s in
    reads t n h
    (free_spread 75 (λ e. omega arith) s (free_cons 75 48 (120 ∷ ds) (λ e. omega arith) (free_cons 75 120 ds (λ e. omega arith) (free_digits 16 75 ds a (omega arith) (omega arith)))))
    (free_spread 77 (λ e. omega arith) s (free_cons 77 48 (120 ∷ ds) (λ e. omega arith) (free_cons 77 120 ds (λ e. omega arith) (free_digits 16 77 ds a (omega arith) (omega arith)))))
    (ap (λ d. or_else (behind 120 d) (λ d. written 16 d) (or_else (behind 111 t) (λ d. written 8 (without d)) (written 10 (without t)))) u ∙ numeral_written 16 n ds (omega arith) w)

octal : (n : ℕ) (ds t : List ℕ) → n < 2 ^ 64 → Writes 8 n ds → Spread ds t → ReadsAs (48 ∷ 111 ∷ t) n
octal n ds t h w s =
    let a = (numeral 8 n ds (omega arith) w).under_base in
    let u = spread_without (free_digits 8 95 ds a (omega arith) (omega arith)) s in
    reads (48 ∷ 111 ∷ t) n h
    (free_cons 75 48 (111 ∷ t) (λ e. omega arith) (free_cons 75 111 t (λ e. omega arith) (free_spread 75 (λ e. omega arith) s (free_digits 8 75 ds a (omega arith) (omega arith)))))
    (free_cons 77 48 (111 ∷ t) (λ e. omega arith) (free_cons 77 111 t (λ e. omega arith) (free_spread 77 (λ e. omega arith) s (free_digits 8 77 ds a (omega arith) (omega arith)))))
    (ap (written 8) u ∙ numeral_written 8 n ds (omega arith) w)

-- characters for digits
characters : (base : ℕ) (ds : List ℕ) → base ≤ 36 → AllBelowBase base ds → map digit_value (map digit_char ds) ≡ ds
characters base [] h u = refl
characters base (d ∷ ds) h u = ap (λ c. c ∷ map digit_value (map digit_char ds)) (digit_value-digit_char d (omega (arith, u.0))) ∙ ap (λ l. d ∷ l) (characters base ds h u.1)

some_writing : (base n : ℕ) → 2 ≤ base → base ≤ 36 → (ds : List ℕ) × Writes base n ds
some_writing base n l h = ⊎_elim
    (λ e. (48 ∷ [], sym (ap (λ b. cond b (0 ∷ []) (digits_of base n)) (eq-eqb n 0 e))))
    (λ e. (map digit_char (digits_of base n), characters base (digits_of base n) h (all_below_base_digits_of base n l) ∙ sym (ap (λ b. cond b (0 ∷ []) (digits_of base n)) (ne_eqb n 0 e)))) (cases_eq n 0)

pub integers : IntegersReadBack
integers = record { writes = some_writing; decimal = decimal; hexadecimal = hexadecimal; octal = octal }

-- ---- a minus sign

folds_signed : (n : ℕ) (name s : Span) → 0 < n → n < 2 ^ 63 → negated (literal n name) s ≡ Ok (Some (record { value = neg_ℤ (pos n); unsigned = false; name = s }))
folds_signed zero name s z h = absurd (omega arith)
folds_signed (suc n) name s z h = grind arith

pub folds : (n : ℕ) (name s : Span) → 0 < n → n ≤ 2 ^ 63 → negated (literal n name) s ≡ Ok (Some (record { value = neg_ℤ (pos n); unsigned = false; name = s }))
folds n name s z h = ⊎_elim (λ (e : n ≡ 2 ^ 63). subst (λ k. negated (literal k name) s ≡ Ok (Some (record { value = neg_ℤ (pos k); unsigned = false; name = s }))) (sym e) refl) (λ e. folds_signed n name s z (omega arith)) (cases_eq n (2 ^ 63))

high_pattern : (n : ℕ) → 2 ^ 63 ≤ n → n < 2 ^ 64 → pattern n ≡ negsuc (2 ^ 64 - suc n)
high_pattern n h l = grind arith

pub refuses : (n : ℕ) (name s : Span) → 2 ^ 63 < n → n < 2 ^ 64 → negated (literal n name) s ≡ Err (InvalidInteger s)
refuses n name s h l =
    let v = high_pattern n (omega arith) l in
    let z : is_least (pattern n) ≡ false = ap is_least v ∙ ne_eqb (2 ^ 64 - suc n) (2 ^ 63 - 1) (λ e. omega arith) in
    grind arith

pub negatives : NegativesFold
negatives = record { negative_stays = λ k name s. refl; zero_stays = λ name s. refl; folds = folds; refuses = refuses }
