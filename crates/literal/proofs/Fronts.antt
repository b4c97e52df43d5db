-- The front that `valid_prefix` measures is made of whole characters, and is the longest that is.
use Rattle.std.proofs.Common.{◌≡◌, ℕ, zero, suc, ◌+◌, ◌<◌, ◌≤◌, Bool, true, false, cond, ◌&&◌, leb, List, [], ◌∷◌, ◌++◌, length, take, drop, sym, refl, ap, ◌∙◌, subst, inl, inr, ⊎_elim, append_assoc, zero-add, arith, length-append, length-drop, take-append-drop, length-take, leb-true}
use lib.Seq.{drop-append_seam}
use Rattle.std.proofs.lemmas.Bool.{and_parts, cases_Bool}
use Rattle.literal.specs.Utf8.{Range, forms, OneOf, Follows, Characters, none, more, begins, bytes_by, char_bytes, valid_from, valid_prefix, Longest}

-- ---- the rows begin with different bytes, in rising order

abbrev above : ℕ → List (List Range) → Bool
above n [] = true
above n ([] ∷ fs) = false
above n ((r ∷ rs) ∷ fs) = leb n r.0 && above n fs

abbrev rising : List (List Range) → Bool
rising [] = true
rising ([] ∷ fs) = false
rising ((r ∷ rs) ∷ fs) = above (suc r.1) fs && rising fs

no : {P : Type 0} → false ≡ true → P
no e = absurd (let z : ◌≡◌ {A = ℕ} 0 1 = cc in omega arith)

first_above : (n : ℕ) (fs : List (List Range)) (form : List Range) (bs : List ℕ) → above n fs ≡ true → OneOf form fs → Follows form bs → (b : ℕ) × (rest : List ℕ) × (bs ≡ b ∷ rest) × (n ≤ b)
first_above n [] form bs a o f = absurd o
first_above n ([] ∷ fs) form bs a o f = no a
first_above n ((r ∷ rs) ∷ fs) form [] a (inl e) f = absurd (rw e at f)
first_above n ((r ∷ rs) ∷ fs) form (b ∷ bs) a (inl e) f = let g : Follows (r ∷ rs) (b ∷ bs) = rw e at f in (b, bs, refl, omega (arith, leb-true n r.0 (and_parts _ _ a).0, g.0))
first_above n ((r ∷ rs) ∷ fs) form bs a (inr o) f = first_above n fs form bs (and_parts (leb n r.0) (above n fs) a).1 o f

follows_begins : (form : List Range) (bs ys : List ℕ) → Follows form bs → begins form (bs ++ ys) ≡ true
follows_begins [] bs ys f = refl
follows_begins (r ∷ rs) [] ys f = absurd f
follows_begins (r ∷ rs) (b ∷ bs) ys f = let x = f.0 in let y = f.1 in let z = follows_begins rs bs ys f.2 in grind arith

follows_length : (form : List Range) (bs : List ℕ) → Follows form bs → length form ≡ length bs
follows_length [] [] f = refl
follows_length [] (b ∷ bs) f = absurd f
follows_length (r ∷ rs) [] f = absurd f
follows_length (r ∷ rs) (b ∷ bs) f = let h = follows_length rs bs f.2 in grind arith

passed : (r : Range) (rs : List Range) (b : ℕ) (bs : List ℕ) → r.1 < b → begins (r ∷ rs) (b ∷ bs) ≡ false
passed r rs b bs h = grind arith

-- the row that bytes follow is the one that is found
found : (fs : List (List Range)) (form : List Range) (bs ys : List ℕ) → rising fs ≡ true → OneOf form fs → Follows form bs → bytes_by fs (bs ++ ys) ≡ length bs
found [] form bs ys s o f = absurd o
found ([] ∷ fs) form bs ys s o f = no s
found ((r ∷ rs) ∷ fs) form bs ys s (inl e) f =
    let g : Follows (r ∷ rs) bs = rw e at f in
    let x = follows_begins (r ∷ rs) bs ys g in
    ap (λ t. cond t (length (r ∷ rs)) (bytes_by fs (bs ++ ys))) x ∙ follows_length (r ∷ rs) bs g
found ((r ∷ rs) ∷ fs) form bs ys s (inr o) f =
    let p = and_parts (above (suc r.1) fs) (rising fs) s in
    let q = first_above (suc r.1) fs form bs p.0 o f in
    let x : begins (r ∷ rs) (bs ++ ys) ≡ false = subst (λ l. begins (r ∷ rs) (l ++ ys) ≡ false) (sym q.2) (passed r rs q.0 (q.1 ++ ys) (omega (arith, q.3))) in
    ap (λ t. cond t (length (r ∷ rs)) (bytes_by fs (bs ++ ys))) x ∙ found fs form bs ys p.1 o f

pub char_found : (form : List Range) (bs ys : List ℕ) → OneOf form forms → Follows form bs → char_bytes (bs ++ ys) ≡ length bs
char_found form bs ys o f = found forms form bs ys refl o f

-- ---- what is found is a row that the bytes follow

begins_follows : (form : List Range) (bs : List ℕ) → begins form bs ≡ true → Follows form (take (length form) bs) × (length form ≤ length bs)
begins_follows [] bs e = (tt, omega arith)
begins_follows (r ∷ rs) [] e = no e
begins_follows (r ∷ rs) (b ∷ bs) e = let p : begins rs bs ≡ true = grind arith in let s = begins_follows rs bs p in ((grind arith, grind arith, s.0), omega (arith, s.1))

abbrev Found : List (List Range) → List ℕ → ℕ → Type 0
Found fs bs n = (form : List Range) × OneOf form fs × Follows form (take n bs) × (n ≤ length bs)

-- the first of the rows, or a later one
finds_here : (f : List Range) (fs : List (List Range)) (bs : List ℕ) (n : ℕ) → bytes_by (f ∷ fs) bs ≡ n → begins f bs ≡ true → Found (f ∷ fs) bs n
finds_here f fs bs n e t =
    let g = begins_follows f bs t in
    let w : length f ≡ n = sym (ap (λ x. cond x (length f) (bytes_by fs bs)) t) ∙ e in
    (f, inl refl, subst (λ m. Follows f (take m bs)) w g.0, omega (arith, g.1))

finds_later : (f : List Range) (fs : List (List Range)) (bs : List ℕ) (n : ℕ) → (bytes_by fs bs ≡ n → Found fs bs n) → bytes_by (f ∷ fs) bs ≡ n → begins f bs ≡ false → Found (f ∷ fs) bs n
finds_later f fs bs n rec e t = let g = rec (sym (ap (λ x. cond x (length f) (bytes_by fs bs)) t) ∙ e) in (g.0, inr g.1, g.2, g.3)

finds : (fs : List (List Range)) (bs : List ℕ) (n : ℕ) → 0 < n → bytes_by fs bs ≡ n → Found fs bs n
finds [] bs n h e = absurd (omega arith)
finds (f ∷ fs) bs n h e = ⊎_elim (finds_here f fs bs n e) (finds_later f fs bs n (finds fs bs n h) e) (cases_Bool (begins f bs))

-- ---- the front

skip : (k : ℕ) (bs : List ℕ) → k ≤ length bs → valid_from k bs ≡ k + valid_from 0 (drop k bs)
unfolding valid_from
skip zero bs h = sym (zero-add (valid_from 0 bs))
skip (suc k) [] h = absurd (omega arith)
skip (suc k) (b ∷ bs) h = ap (λ n. 1 + n) (skip k bs (omega arith)) ∙ omega arith

-- one character, and the rest
step : (bs ys : List ℕ) (k : ℕ) → length bs ≡ suc k → char_bytes (bs ++ ys) ≡ suc k → valid_from 0 (bs ++ ys) ≡ length bs + valid_from 0 ys
unfolding valid_from
step [] ys k l e = absurd (omega arith)
step (b ∷ bs) ys k l e =
    let j : k ≡ length bs = omega arith in
    let d : drop k (bs ++ ys) ≡ ys = ap (λ n. drop n (bs ++ ys)) j ∙ drop-append_seam bs ys in
    ap (λ n. elim n [ zero ↦ 0 | suc m ↦ 1 + valid_from m (bs ++ ys) ]) e
    ∙ ap (λ n. 1 + n) (skip k (bs ++ ys) (omega (arith, length-append bs ys)) ∙ ap (λ l'. k + valid_from 0 l') d)
    ∙ omega arith

-- where no character begins, the front ends
stop : (bs : List ℕ) → char_bytes bs ≡ 0 → valid_from 0 bs ≡ 0
unfolding valid_from
stop [] e = refl
stop (b ∷ bs) e = ap (λ n. elim n [ zero ↦ 0 | suc m ↦ 1 + valid_from m bs ]) e

-- a row is not empty
some : (fs : List (List Range)) (form : List Range) (bs : List ℕ) → rising fs ≡ true → OneOf form fs → Follows form bs → 0 < length bs
some [] form bs s o f = absurd o
some ([] ∷ fs) form bs s o f = no s
some ((r ∷ rs) ∷ fs) form [] s (inl e) f = absurd (rw e at f)
some ((r ∷ rs) ∷ fs) form (b ∷ bs) s (inl e) f = omega arith
some ((r ∷ rs) ∷ fs) form bs s (inr o) f = some fs form bs (and_parts (above (suc r.1) fs) (rising fs) s).1 o f

by_step : (form : List Range) (bs ys : List ℕ) (n : ℕ) → OneOf form forms → Follows form bs → length bs ≡ n → 0 < n → valid_prefix (bs ++ ys) ≡ length bs + valid_prefix ys
by_step form bs ys zero o f e h = absurd (omega arith)
by_step form bs ys (suc k) o f e h = step bs ys k e (char_found form bs ys o f ∙ e)

-- characters in front are measured whole
pub front_more : {xs : List ℕ} → Characters xs → (ys : List ℕ) → valid_prefix (xs ++ ys) ≡ length xs + valid_prefix ys
front_more none ys = sym (zero-add (valid_prefix ys))
front_more (more {form} bs rest o f c e) ys =
    ap (λ l. valid_prefix (l ++ ys)) e
    ∙ ap valid_prefix (append_assoc bs rest ys)
    ∙ by_step form bs (rest ++ ys) (length bs) o f refl (some forms form bs refl o f)
    ∙ ap (λ n. length bs + n) (front_more c ys)
    ∙ omega (arith, ap length e, length-append bs rest)

-- ---- the law

abbrev Whole : List ℕ → Type 0
Whole bs = Characters (take (valid_prefix bs) bs) × (valid_prefix bs ≤ length bs)

nothing_more : (bs : List ℕ) → char_bytes bs ≡ 0 → Whole bs
nothing_more bs e = let z = stop bs e in rw z (none, omega arith)

take_seam : (xs ys : List ℕ) (n : ℕ) → take (length xs + n) (xs ++ ys) ≡ xs ++ take n ys
take_seam [] ys n = ap (λ m. take m ys) (zero-add n)
take_seam (x ∷ xs) ys n = let e : suc (length xs) + n ≡ suc (length xs + n) = omega arith in ap (λ m. take m (x ∷ (xs ++ ys))) e ∙ ap (λ l. x ∷ l) (take_seam xs ys n)

-- a character found in front of what is whole
one_more : (bs : List ℕ) (n : ℕ) → 0 < n → char_bytes bs ≡ n → Whole (drop n bs) → Whole bs
one_more bs n h e w =
    let g = finds forms bs n h e in
    let t = take n bs in
    let d = drop n bs in
    let l : length t ≡ n = omega (arith, length-take n bs, g.3) in
    let v : valid_prefix (t ++ d) ≡ length t + valid_prefix d = by_step g.0 t d (length t) g.1 g.2 refl (omega arith) in
    subst Whole (take-append-drop n bs)
    (rw v (subst Characters (sym (take_seam t d (valid_prefix d))) (more t (take (valid_prefix d) d) g.1 g.2 w.0 refl), omega (arith, w.1, length-append t d)))

fronts : (m : ℕ) (bs : List ℕ) → length bs ≤ m → Whole bs
fronts zero [] h = nothing_more [] refl
fronts zero (b ∷ bs) h = absurd (omega arith)
fronts (suc m) bs h = elim (char_bytes bs) as (λ n. char_bytes bs ≡ n → Whole bs) [
  | zero ↦ nothing_more bs
  | suc n ↦ (λ e. one_more bs (suc n) (omega arith) e (fronts m (drop (suc n) bs) (omega (arith, length-drop (suc n) bs))))
] refl

pub longest : (bs : List ℕ) → Longest bs (valid_prefix bs)
longest bs = let w = fronts (length bs) bs (omega arith) in record {
  within = w.1;
  front = w.0;
  bound = λ m h c.
      let e = front_more c (drop m bs) in
      let l : length (take m bs) ≡ m = omega (arith, length-take m bs) in
      let v : valid_prefix bs ≡ length (take m bs) + valid_prefix (drop m bs) = ap valid_prefix (sym (take-append-drop m bs)) ∙ e in
      omega arith;
}

-- two longest fronts are the same
pub longest_same : (bs : List ℕ) (m n : ℕ) → Longest bs m → Longest bs n → m ≡ n
longest_same bs m n p q = let x = p.bound n q.within q.front in let y = q.bound m p.within p.front in omega arith
