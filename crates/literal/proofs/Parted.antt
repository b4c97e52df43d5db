-- Suffixes of integers, and the parts of regular expressions.
use Rattle.std.proofs.Common.{◌≡◌, ℕ, zero, suc, ◌+◌, ◌-◌, ◌*◌, ◌^◌, Bool, true, false, eqb, leb, List, [], ◌∷◌, ◌++◌, length, get_or, take, drop, Some, None, Ok, Err, IsAscii, Result, sym, refl, ap, ◌∙◌, ⊎_elim, arith, length-append, take-append-drop, drop-cons, eqb-true, leb-true}
use Rattle.std.specs.Option.{option_map}
use Rattle.std.specs.Str.{chars}
use Rattle.std.proofs.lemmas.List.{drop_all}
use Rattle.std.proofs.lemmas.Bool.{and_parts, cases_Bool}
use Rattle.std.proofs.lemmas.Str.{chars-IsAscii}
use Rattle.syntax.specs.declared.span.Span.{Span}
use Rattle.refusal.specs.declared.refusal.Refusal.{Refusal}
use Rattle.refusal.specs.declared.refusal.Refusal.TheVariants.{BadToken, InvalidModifier}
use Rattle.literal.specs.Integers.{ends, before, factor, plain_number, integer_number}
use Rattle.literal.specs.Laws.{SizesMultiply, Modifiers, RegexpsReadBack}
use Rattle.literal.specs.Regexps.{last_slash, closing, has, no_modifier, modifiers_of, regexp_with, as_regexp}
use Rattle.literal.specs.Texts.{place_in, or_else, and_then}
use Rattle.literal.proofs.Marks.{modifiers_in}
use Rattle.literal.proofs.Slashes.{no_slash}

-- ---- suffixes

abbrev suffix : ℕ → List ℕ
suffix c = c ∷ 66 ∷ []

last_two : (h : List ℕ) (c : ℕ) → (get_or (h ++ suffix c) (length h) 0 ≡ c) × (get_or (h ++ suffix c) (length h + 1) 0 ≡ 66)
last_two [] c = (refl, refl)
last_two (x ∷ h) c = let e = last_two h c in (grind arith, grind arith)

take_front : (h : List ℕ) (r : List ℕ) → take (length h) (h ++ r) ≡ h
take_front [] r = refl
take_front (x ∷ h) r = let e = take_front h r in grind arith

long : (h : List ℕ) (c : ℕ) → length (h ++ suffix c) ≡ length h + 2
long h c = length-append h (suffix c)

ended : (h : List ℕ) (c : ℕ) → ends c (h ++ suffix c) ≡ true
ended h c =
    let t = h ++ suffix c in
    let l = long h c in
    let a : length t - 2 ≡ length h = omega arith in
    let b : length t - 1 ≡ length h + 1 = omega arith in
    let e = last_two h c in
    grind arith

cut : (h : List ℕ) (c : ℕ) → take (length (h ++ suffix c) - 2) (h ++ suffix c) ≡ h
cut h c = let l = long h c in let a : length (h ++ suffix c) - 2 ≡ length h = omega arith in ap (λ n. take n (h ++ suffix c)) a ∙ take_front h (suffix c)

kilo : (h : List ℕ) → (before (h ++ suffix 75) ≡ h) × (factor (h ++ suffix 75) ≡ 1024)
kilo h = let x = ended h 75 in let c = cut h 75 in (grind arith, grind arith)

not_kilo : (h : List ℕ) → ends 75 (h ++ suffix 77) ≡ false
not_kilo h =
    let t = h ++ suffix 77 in
    let l = long h 77 in
    let a : length t - 2 ≡ length h = omega arith in
    let e = last_two h 77 in
    grind arith

mega : (h : List ℕ) → (before (h ++ suffix 77) ≡ h) × (factor (h ++ suffix 77) ≡ 2 ^ 20)
mega h = let x = not_kilo h in let y = ended h 77 in let c = cut h 77 in (grind arith, grind arith)

-- a text that ends so is such a text
rest_two : (t : List ℕ) (c : ℕ) → ends c t ≡ true → t ≡ take (length t - 2) t ++ suffix c
rest_two t c e =
    let p = and_parts (leb 2 (length t)) _ e in
    let q = and_parts (eqb (get_or t (length t - 2) 0) c) (eqb (get_or t (length t - 1) 0) 66) p.1 in
    let l = leb-true 2 (length t) p.0 in
    let n = length t - 2 in
    let s : suc n ≡ length t - 1 = omega arith in
    let d : drop n t ≡ suffix c =
    drop-cons t n 0 (omega arith) ∙ ap (λ x. x ∷ drop (suc n) t) (eqb-true _ c q.0)
    ∙ ap (λ r. c ∷ r) (drop-cons t (suc n) 0 (omega arith) ∙ ap (λ x. x ∷ drop (suc (suc n)) t) (ap (λ k. get_or t k 0) s ∙ eqb-true _ 66 q.1) ∙ ap (λ r. 66 ∷ r) (drop_all (suc (suc n)) t (omega arith))) in
    sym (take-append-drop n t) ∙ ap (λ r. take n t ++ r) d

plain : (t : List ℕ) → ((h : List ℕ) → t ≡ h ++ suffix 75 → ⊥) → ((h : List ℕ) → t ≡ h ++ suffix 77 → ⊥) → (before t ≡ t) × (factor t ≡ 1)
plain t k m = let x = no 75 k in let y = no 77 m in (grind arith, grind arith)
  where
    no : (c : ℕ) → ((h : List ℕ) → t ≡ h ++ suffix c → ⊥) → ends c t ≡ false
    no c f = ⊎_elim (λ e. absurd (f (take (length t - 2) t) (rest_two t c e))) (λ e. e) (cases_Bool (ends c t))

-- what stands before a suffix is multiplied by its factor
multiplied : (t h : List ℕ) (f n : ℕ) → before t ≡ h → factor t ≡ f → plain_number h ≡ Some n → integer_number t ≡ Some (n * f)
multiplied t h f n b m e = grind arith

pub sizes : SizesMultiply
sizes =
    record {
      kilo = kilo;
      mega = mega;
      kilo_number = λ h n e. multiplied (h ++ suffix 75) h 1024 n (kilo h).0 (kilo h).1 e;
      mega_number = λ h n e. multiplied (h ++ suffix 77) h (2 ^ 20) n (mega h).0 (mega h).1 e;
      plain = plain;
    }

-- ---- regular expressions

last_at : (body cs : List ℕ) → has 47 cs ≡ false → last_slash (body ++ 47 ∷ cs) ≡ Some (length body)
last_at [] cs e = let h = no_slash cs e in grind arith
last_at (x ∷ body) cs e = let h = last_at body cs e in grind arith

all_allowed : (at : ℕ) (cs : List ℕ) → Modifiers cs → no_modifier at cs ≡ None
all_allowed at [] m = refl
all_allowed at (c ∷ cs) m = let h = all_allowed (at + 1) cs m.1 in let e = m.0 in grind arith

modifiers_ascii : (cs : List ℕ) → Modifiers cs → IsAscii cs
modifiers_ascii [] m i = omega arith
modifiers_ascii (c ∷ cs) m zero = ⊎_elim (λ e. omega arith) (λ e. omega arith) m.0
modifiers_ascii (c ∷ cs) m (suc i) = modifiers_ascii cs m.1 i

modifiers_slash : (cs : List ℕ) → Modifiers cs → has 47 cs ≡ false
modifiers_slash [] m = refl
modifiers_slash (c ∷ cs) m = let h = modifiers_slash cs m.1 in let e = m.0 in grind arith

-- a text of these parts, whatever stands behind the last slash
pub as_parts : (body cs : List ℕ) (s : Span) → has 47 cs ≡ false → as_regexp (47 ∷ (body ++ 47 ∷ cs)) s ≡ and_then (modifiers_of s (1 + length body + 1) (chars cs)) (λ m. Ok (regexp_with (place_in s 1 (1 + length body)) m))
as_parts body cs s h =
    let t = 47 ∷ (body ++ 47 ∷ cs) in
    let k : suc (length body) ≡ 1 + length body = omega arith in
    let e : closing t ≡ Some (1 + length body) = ap (option_map suc) (last_at body cs h) ∙ ap Some k in
    let n = 1 + length body in
    let j : n + 1 ≡ suc (suc (length body)) = omega arith in
    let d : drop (n + 1) t ≡ cs = ap (λ i. drop i t) j ∙ behind body cs in
    ap (λ o. or_else o (λ n. and_then (modifiers_of s (n + 1) (chars (drop (n + 1) t))) (λ m. Ok (regexp_with (place_in s 1 n) m))) (Err (BadToken s))) e
    ∙ ap (λ l. and_then (modifiers_of s (n + 1) (chars l)) (λ m. Ok (regexp_with (place_in s 1 n) m))) d
  where
    behind : (body cs : List ℕ) → drop (suc (length body)) (body ++ 47 ∷ cs) ≡ cs
    behind [] cs = refl
    behind (x ∷ body) cs = behind body cs

pub regexp_from : (t body tail : List ℕ) (s p : Span) (b : ℕ) (r : Result (Bool × Bool) Refusal) → t ≡ 47 ∷ (body ++ 47 ∷ tail) → has 47 tail ≡ false → p ≡ place_in s (1 + length body + 1) b → r ≡ modifiers_of p 0 (chars tail)
    → as_regexp t s ≡ and_then r (λ m. Ok (regexp_with (place_in s 1 (1 + length body)) m))
regexp_from t body tail s p b r e h q m =
    ap (λ x. as_regexp x s) e ∙ as_parts body tail s h
    ∙ ap (λ x. and_then x (λ m. Ok (regexp_with (place_in s 1 (1 + length body)) m)))
    (sym (m ∙ ap (λ x. modifiers_of x 0 (chars tail)) q ∙ modifiers_in s (1 + length body + 1) b (chars tail)))

value : (body cs : List ℕ) (s : Span) → Modifiers cs → as_regexp (47 ∷ (body ++ 47 ∷ cs)) s ≡ Ok (regexp_with (place_in s 1 (1 + length body)) (has 105 cs, has 115 cs))
value body cs s m =
    let n = 1 + length body in
    as_parts body cs s (modifiers_slash cs m)
    ∙ ap (λ l. and_then (modifiers_of s (n + 1) l) (λ m. Ok (regexp_with (place_in s 1 n) m))) (chars-IsAscii cs (modifiers_ascii cs m))
    ∙ ap (λ o. and_then (or_else o (λ p. Err (InvalidModifier (place_in s p.0 p.1))) (Ok (has 105 cs, has 115 cs))) (λ m. Ok (regexp_with (place_in s 1 n) m))) (all_allowed (n + 1) cs m)

unclosed : (b : ℕ) (body : List ℕ) (s : Span) → has 47 body ≡ false → as_regexp (b ∷ body) s ≡ Err (BadToken s)
unclosed b body s e = let h = no_slash body e in grind arith

unopened : (b : ℕ) (body : List ℕ) (s : Span) → (b ≡ 47 → ⊥) → as_regexp (b ∷ body) s ≡ Err (BadToken s)
unopened b body s n = grind arith

pub regexps : RegexpsReadBack
regexps = record { value = value; empty = λ s. refl; unopened = unopened; unclosed = unclosed }
