-- Strings and floats read back what they write.
use Rattle.std.proofs.Common.{◌≡◌, ℕ, suc, ◌+◌, ◌-◌, ◌*◌, ◌/◌, ◌%◌, ◌<◌, true, cond, List, [], ◌∷◌, ◌++◌, length, get_or, take, Some, None, Ok, Err, sym, refl, ap, ◌∙◌, subst, append-nil, arith, length-append}
use Rattle.std.specs.Char.{digit_char}
use Rattle.syntax.specs.declared.span.Span.{Span}
use Rattle.refusal.specs.declared.refusal.Refusal.TheVariants.{BadToken}
use Rattle.literal.specs.declared.string.StringValue.TheVariants.{Decoded}
use Rattle.literal.specs.Digits.{number_of, are_digits, without}
use Rattle.literal.specs.Escapes.{hex_of, Stands, nothing, hex, reading, reading_from}
use Rattle.literal.specs.Floats.{whole, fraction, rounded, as_float}
use Rattle.literal.specs.Laws.{all_as_hex, Bytes, EscapedBytesReadBack, DecimalsReadBack}
use Rattle.literal.specs.Regexps.{has}
use Rattle.literal.specs.Strings.{inner, escape_refusal, value_of}
use Rattle.literal.specs.Texts.{or_else}
use Rattle.literal.proofs.Numbers.{Free, free_digits, free_cons, spread_without}
use Rattle.literal.proofs.Standing.{complete}

-- ---- hexadecimal digits

hex_digit : (d : ℕ) → d < 16 → hex_of (digit_char d) ≡ Some d
hex_digit d h = grind arith

stands : (bs : List ℕ) → Bytes bs → Stands (all_as_hex bs) bs
stands [] u = nothing
stands (b ∷ bs) u =
    let e : 16 * (b / 16) + b % 16 ≡ b = omega arith in
    subst (λ x. Stands (all_as_hex (b ∷ bs)) (x ∷ bs)) e (hex (hex_digit (b / 16) (omega (arith, u.0))) (hex_digit (b % 16) (omega arith)) (stands bs u.1))

whole_reading : (bs : List ℕ) → Bytes bs → reading (all_as_hex bs) ≡ record { bytes = bs; stop = None }
unfolding reading_from
whole_reading bs u = ap reading (sym (append-nil (all_as_hex bs))) ∙ complete (stands bs u) [] ∙ ap (λ l. record { bytes = l; stop = None }) (append-nil bs)

-- ---- quotes

last_quote : (x : ℕ) (xs : List ℕ) → get_or (x ∷ (xs ++ (34 ∷ []))) (length (x ∷ (xs ++ (34 ∷ []))) - 1) 0 ≡ 34
last_quote x [] = refl
last_quote x (y ∷ ys) = let h = last_quote y ys in grind arith

take_whole : (xs : List ℕ) → take (length xs) (xs ++ (34 ∷ [])) ≡ xs
take_whole [] = refl
take_whole (x ∷ xs) = let h = take_whole xs in grind arith

-- a text whose first byte is no quote, between two quotes
bounded : (x : ℕ) (xs : List ℕ) → (x ≡ 34 → ⊥) → inner (34 ∷ ((x ∷ xs) ++ (34 ∷ []))) ≡ Some (1, x ∷ xs)
bounded x xs n =
    let t = 34 ∷ ((x ∷ xs) ++ (34 ∷ [])) in
    let l : length t ≡ suc (suc (suc (length xs))) = omega (arith, length-append (x ∷ xs) (34 ∷ [])) in
    let z = last_quote 34 (x ∷ xs) in
    let m : length t - 2 ≡ length (x ∷ xs) = omega arith in
    let k : take (length t - 2) ((x ∷ xs) ++ (34 ∷ [])) ≡ x ∷ xs = ap (λ j. take j ((x ∷ xs) ++ (34 ∷ []))) m ∙ take_whole (x ∷ xs) in
    grind arith

hexed : (b : ℕ) (bs : List ℕ) → inner (34 ∷ (all_as_hex (b ∷ bs) ++ 34 ∷ [])) ≡ Some (1, all_as_hex (b ∷ bs))
hexed b bs = bounded 92 (120 ∷ digit_char (b / 16) ∷ digit_char (b % 16) ∷ all_as_hex bs) (λ e. omega arith)

pub escaped : EscapedBytesReadBack
escaped = record {
  value = λ b bs s from u.
      let r = whole_reading (b ∷ bs) u in
      ap (λ o. or_else o (λ p. value_of s from p.0 p.1) (Err (BadToken s))) (hexed b bs)
      ∙ ap (λ v. or_else v.stop (λ rest. Err (escape_refusal s 1 (all_as_hex (b ∷ bs)) rest)) (Ok (Decoded from (length v.bytes)))) r;
  bytes = λ b bs u.
      ap (λ o. or_else o (λ p. cond (has 92 p.1) (reading p.1).bytes []) []) (hexed b bs) ∙ ap (λ v. v.bytes) (whole_reading (b ∷ bs) u);
}

-- ---- floats

no_dot : (ds : List ℕ) → are_digits 10 ds ≡ true → Free 46 ds
no_dot ds a = free_digits 10 46 ds a (omega arith) (omega arith)

whole_front : (w r : List ℕ) → Free 46 w → (whole (w ++ 46 ∷ r) ≡ w) × (fraction (w ++ 46 ∷ r) ≡ r)
whole_front [] r f = (refl, refl)
whole_front (d ∷ w) r f = let n = f 0 in let h = whole_front w r (λ i e. f (suc i) e) in (grind arith, grind arith)

whole_all : (w : List ℕ) → Free 46 w → (whole w ≡ w) × (fraction w ≡ [])
whole_all [] f = (refl, refl)
whole_all (d ∷ w) f = let n = f 0 in let h = whole_all w (λ i e. f (suc i) e) in (grind arith, grind arith)

digits_append : (u v : List ℕ) → are_digits 10 u ≡ true → are_digits 10 v ≡ true → are_digits 10 (u ++ v) ≡ true
digits_append [] v a b = b
digits_append (d ∷ u) v a b = grind (arith, digits_append u v)

free_append : (c : ℕ) (u v : List ℕ) → Free c u → Free c v → Free c (u ++ v)
free_append c [] v f g = g
free_append c (d ∷ u) v f g = free_cons c d (u ++ v) (λ e. f 0 e) (free_append c u v (λ i e. f (suc i) e) g)

-- the digits of a text are known
known : (t w f : List ℕ) (s : Span) → whole (without t) ≡ w → fraction (without t) ≡ f → are_digits 10 (w ++ f) ≡ true → 0 < length (w ++ f) → as_float t s ≡ rounded (number_of 10 (w ++ f), length f) s
known t w f s p q a h = grind arith

pub decimals : DecimalsReadBack
decimals = record {
  dotted = λ w f t s a b h sp.
      let u : without t ≡ w ++ 46 ∷ f = spread_without (free_append 95 w (46 ∷ f) (free_digits 10 95 w a (omega arith) (omega arith)) (free_cons 95 46 f (λ e. omega arith) (free_digits 10 95 f b (omega arith) (omega arith)))) sp in
      let p = whole_front w f (no_dot w a) in
      known t w f s (ap whole u ∙ p.0) (ap fraction u ∙ p.1) (digits_append w f a b) h;
  undotted = λ w t s a h sp.
      let u : without t ≡ w = spread_without (free_digits 10 95 w a (omega arith) (omega arith)) sp in
      let p = whole_all w (no_dot w a) in
      let n = append-nil w in
      known t w [] s (ap whole u ∙ p.0) (ap fraction u ∙ p.1) (digits_append w [] a refl) (omega (arith, ap length n)) ∙ ap (λ l. rounded (number_of 10 l, 0) s) n;
}
