-- The rows of the table are the encodings of Unicode's characters, and the front that `valid_prefix` measures is the longest.
use Rattle.std.proofs.Common.{◌≡◌, ℕ, ◌+◌, ◌-◌, ◌*◌, ◌/◌, ◌<◌, ◌≤◌, true, List, [], ◌∷◌, IsUtf8, sym, refl, subst, inl, inr, ⊎_elim, arith, le-ltb, lt-ltb}
use lib.Utf8.{scalar, scalars, encode, encodes, next, low_scalar, scalar_cases}
use Rattle.std.proofs.lemmas.Str.{IsUtf8-append, IsUtf8-encode, IsUtf8-nil}
use Rattle.std.proofs.lemmas.Bool.{and_parts, cases_lt}
use Rattle.literal.specs.Utf8.{Range, forms, OneOf, Follows, Characters, none, more}

-- ---- a row's bytes encode a character

high : (c : ℕ) → 57344 ≤ c → c < 1114112 → scalar c ≡ true
high c l u = grind arith

one : (a : ℕ) → a ≤ 127 → IsUtf8 (a ∷ [])
unfolding encode
one a h = let e : encode a ≡ a ∷ [] = (let x = lt-ltb a 128 (omega arith) in rw x) in subst IsUtf8 e (IsUtf8-encode a (low_scalar a (omega arith)))

abbrev Tail : ℕ → Type 0
Tail b = (128 ≤ b) × (b ≤ 191)

two : (a b : ℕ) → 194 ≤ a → a ≤ 223 → Tail b → IsUtf8 (a ∷ b ∷ [])
unfolding encode
two a b l h t =
    let c = (a - 192) * 64 + (b - 128) in
    let x = le-ltb c 128 (omega arith) in
    let y = lt-ltb c 2048 (omega arith) in
    let p : 192 + c / 64 ≡ a = omega arith in
    let q : next c ≡ b = omega arith in
    let e : encode c ≡ a ∷ b ∷ [] = rw (x, y) (cc) in
    subst IsUtf8 e (IsUtf8-encode c (low_scalar c (omega arith)))

three : (a b d : ℕ) → 224 ≤ a → a ≤ 239 → Tail b → Tail d → (a ≡ 224 → 160 ≤ b) → (a ≡ 237 → b ≤ 159) → IsUtf8 (a ∷ b ∷ d ∷ [])
unfolding encode
three a b d l h t u lo hi =
    let c = (a - 224) * 4096 + (b - 128) * 64 + (d - 128) in
    let least : 2048 ≤ c = ⊎_elim (λ (k : a < 225). let m = lo (omega arith) in omega arith) (λ (k : 225 ≤ a). omega arith) (cases_lt a 225) in
    let x = le-ltb c 128 (omega arith) in
    let y = le-ltb c 2048 least in
    let z = lt-ltb c 65536 (omega arith) in
    let p : 224 + c / 4096 ≡ a = omega arith in
    let q : next (c / 64) ≡ b = omega arith in
    let r : next c ≡ d = omega arith in
    let e : encode c ≡ a ∷ b ∷ d ∷ [] = rw (x, y, z) (cc) in
    let s : scalar c ≡ true =
    ⊎_elim (λ (k : a < 237). low_scalar c (omega arith))
    (λ (k : 237 ≤ a). ⊎_elim (λ (j : a < 238). let m = hi (omega arith) in low_scalar c (omega arith)) (λ (j : 238 ≤ a). high c (omega arith) (omega arith)) (cases_lt a 238)) (cases_lt a 237) in
    subst IsUtf8 e (IsUtf8-encode c s)

four : (a b d f : ℕ) → 240 ≤ a → a ≤ 244 → Tail b → Tail d → Tail f → (a ≡ 240 → 144 ≤ b) → (a ≡ 244 → b ≤ 143) → IsUtf8 (a ∷ b ∷ d ∷ f ∷ [])
unfolding encode
four a b d f l h t u v lo hi =
    let c = (a - 240) * 262144 + (b - 128) * 4096 + (d - 128) * 64 + (f - 128) in
    let least : 65536 ≤ c = ⊎_elim (λ (k : a < 241). let m = lo (omega arith) in omega arith) (λ (k : 241 ≤ a). omega arith) (cases_lt a 241) in
    let most : c < 1114112 = ⊎_elim (λ (k : a < 244). omega arith) (λ (k : 244 ≤ a). let m = hi (omega arith) in omega arith) (cases_lt a 244) in
    let x = le-ltb c 128 (omega arith) in
    let y = le-ltb c 2048 (omega arith) in
    let z = le-ltb c 65536 least in
    let p : 240 + c / 262144 ≡ a = omega arith in
    let q : next (c / 4096) ≡ b = omega arith in
    let g : c / 64 ≡ (a - 240) * 4096 + (b - 128) * 64 + (d - 128) = omega arith in
    let r : next (c / 64) ≡ d = subst (λ (m : ℕ). next m ≡ d) (sym g) (omega arith) in
    let s : next c ≡ f = omega arith in
    let e : encode c ≡ a ∷ b ∷ d ∷ f ∷ [] = rw (x, y, z) (cc) in
    subst IsUtf8 e (IsUtf8-encode c (high c (omega arith) most))

pair : (P : List ℕ → Type 0) (r s : Range) (bs : List ℕ) → Follows (r ∷ s ∷ []) bs → ((a b : ℕ) → r.0 ≤ a → a ≤ r.1 → (s.0 ≤ b) × (b ≤ s.1) → P (a ∷ b ∷ [])) → P bs
pair P r s [] h f = absurd h
pair P r s (a ∷ []) h f = absurd h.2
pair P r s (a ∷ b ∷ []) h f = f a b h.0 h.1 (h.2.0, h.2.1)
pair P r s (a ∷ b ∷ c ∷ bs) h f = absurd h.2.2

triple : (P : List ℕ → Type 0) (r s t : Range) (bs : List ℕ) → Follows (r ∷ s ∷ t ∷ []) bs → ((a b c : ℕ) → r.0 ≤ a → a ≤ r.1 → (s.0 ≤ b) × (b ≤ s.1) → (t.0 ≤ c) × (c ≤ t.1) → P (a ∷ b ∷ c ∷ [])) → P bs
triple P r s t [] h f = absurd h
triple P r s t (a ∷ bs) h f = pair (λ l. P (a ∷ l)) s t bs h.2 (λ b c l m n. f a b c h.0 h.1 (l, m) n)

quad : (P : List ℕ → Type 0) (r s t u : Range) (bs : List ℕ) → Follows (r ∷ s ∷ t ∷ u ∷ []) bs → ((a b c d : ℕ) → r.0 ≤ a → a ≤ r.1 → (s.0 ≤ b) × (b ≤ s.1) → (t.0 ≤ c) × (c ≤ t.1) → (u.0 ≤ d) × (d ≤ u.1) → P (a ∷ b ∷ c ∷ d ∷ [])) → P bs
quad P r s t u [] h f = absurd h
quad P r s t u (a ∷ bs) h f = triple (λ l. P (a ∷ l)) s t u bs h.2 (λ b c d l m n o. f a b c d h.0 h.1 (l, m) n o)

single : (r : Range) (bs : List ℕ) → r.1 ≤ 127 → Follows (r ∷ []) bs → IsUtf8 bs
single r [] l h = absurd h
single r (a ∷ []) l h = one a (omega (arith, h.1))
single r (a ∷ b ∷ bs) l h = absurd h.2

-- the bytes of a row are UTF-8
form_utf8 : (form : List Range) (bs : List ℕ) → OneOf form forms → Follows form bs → IsUtf8 bs
form_utf8 form bs (inl e) h = single _ bs (omega arith) (rw e at h)
form_utf8 form bs (inr (inl e)) h = pair IsUtf8 _ _ bs (rw e at h) (λ a b l m t. two a b l m t)
form_utf8 form bs (inr (inr (inl e))) h = triple IsUtf8 _ _ _ bs (rw e at h) (λ a b c l m t u. three a b c (omega arith) (omega arith) (omega arith, t.1) u (λ x. t.0) (λ x. omega arith))
form_utf8 form bs (inr (inr (inr (inl e)))) h = triple IsUtf8 _ _ _ bs (rw e at h) (λ a b c l m t u. three a b c (omega arith) (omega arith) t u (λ x. omega arith) (λ x. omega arith))
form_utf8 form bs (inr (inr (inr (inr (inl e))))) h = triple IsUtf8 _ _ _ bs (rw e at h) (λ a b c l m t u. three a b c (omega arith) (omega arith) (t.0, omega arith) u (λ x. omega arith) (λ x. t.1))
form_utf8 form bs (inr (inr (inr (inr (inr (inl e)))))) h = triple IsUtf8 _ _ _ bs (rw e at h) (λ a b c l m t u. three a b c (omega arith) (omega arith) t u (λ x. omega arith) (λ x. omega arith))
form_utf8 form bs (inr (inr (inr (inr (inr (inr (inl e))))))) h = quad IsUtf8 _ _ _ _ bs (rw e at h) (λ a b c d l m t u v. four a b c d (omega arith) (omega arith) (omega arith, t.1) u v (λ x. t.0) (λ x. omega arith))
form_utf8 form bs (inr (inr (inr (inr (inr (inr (inr (inl e)))))))) h = quad IsUtf8 _ _ _ _ bs (rw e at h) (λ a b c d l m t u v. four a b c d (omega arith) (omega arith) t u v (λ x. omega arith) (λ x. omega arith))
form_utf8 form bs (inr (inr (inr (inr (inr (inr (inr (inr (inl e))))))))) h = quad IsUtf8 _ _ _ _ bs (rw e at h) (λ a b c d l m t u v. four a b c d (omega arith) (omega arith) (t.0, omega arith) u v (λ x. omega arith) (λ x. t.1))
form_utf8 form bs (inr (inr (inr (inr (inr (inr (inr (inr (inr o))))))))) h = absurd o

pub chars_utf8 : {bs : List ℕ} → Characters bs → IsUtf8 bs
chars_utf8 none = IsUtf8-nil
chars_utf8 (more {form} bs rest o f c e) = subst IsUtf8 (sym e) (IsUtf8-append bs rest (form_utf8 form bs o f) (chars_utf8 c))

-- ---- a character's encoding is a row's

-- bytes of some row
abbrev pub Shaped : List ℕ → Type 0
Shaped bs = (form : List Range) × OneOf form forms × Follows form bs

pub encode_shaped : (c : ℕ) → scalar c ≡ true → Shaped (encode c)
unfolding encode
encode_shaped c s = ⊎_elim less128 (λ (l : 128 ≤ c). ⊎_elim (less2048 l) (λ (l : 2048 ≤ c). ⊎_elim (less65536 l) more65536 (cases_lt c 65536)) (cases_lt c 2048)) (cases_lt c 128)
  where
    less128 : c < 128 → Shaped (encode c)
    less128 h = let x = lt-ltb c 128 h in rw x (_, inl refl, (omega arith, omega arith, tt))

    less2048 : 128 ≤ c → c < 2048 → Shaped (encode c)
    less2048 l h = let x = le-ltb c 128 l in let y = lt-ltb c 2048 h in rw (x, y) (_, inr (inl refl), (omega arith, omega arith, (omega arith, omega arith, tt)))

    of3 : 2048 ≤ c → c < 65536 → {form : List Range} → OneOf form forms → Follows form ((224 + c / 4096) ∷ next (c / 64) ∷ next c ∷ []) → Shaped (encode c)
    of3 l h o f = let x = le-ltb c 128 (omega arith) in let y = le-ltb c 2048 l in let z = lt-ltb c 65536 h in rw (x, y, z) (_, o, f)

    less65536 : 2048 ≤ c → c < 65536 → Shaped (encode c)
    less65536 l h =
        ⊎_elim (λ (u : c < 4096). of3 l h (inr (inr (inl refl))) (omega arith, omega arith, (omega arith, omega arith, (omega arith, omega arith, tt))))
        (λ (v : 4096 ≤ c). ⊎_elim (λ (u : c < 53248). of3 l h (inr (inr (inr (inl refl)))) (omega arith, omega arith, (omega arith, omega arith, (omega arith, omega arith, tt))))
        (λ (v : 53248 ≤ c). ⊎_elim (λ (u : c < 55296). of3 l h (inr (inr (inr (inr (inl refl))))) (omega arith, omega arith, (omega arith, omega arith, (omega arith, omega arith, tt))))
        (λ (q : (57344 ≤ c) × (c < 1114112)). of3 l h (inr (inr (inr (inr (inr (inl refl)))))) (omega arith, omega arith, (omega arith, omega arith, (omega arith, omega arith, tt)))) (scalar_cases c s)) (cases_lt c 53248)) (cases_lt c 4096)

    of4 : 65536 ≤ c → {form : List Range} → OneOf form forms → Follows form ((240 + c / 262144) ∷ next (c / 4096) ∷ next (c / 64) ∷ next c ∷ []) → Shaped (encode c)
    of4 l o f = let x = le-ltb c 128 (omega arith) in let y = le-ltb c 2048 (omega arith) in let z = le-ltb c 65536 l in rw (x, y, z) (_, o, f)

    below : c < 1114112
    below = ⊎_elim (λ (u : c < 55296). omega arith) (λ (q : (57344 ≤ c) × (c < 1114112)). q.1) (scalar_cases c s)

    more65536 : 65536 ≤ c → Shaped (encode c)
    more65536 l =
        let b = below in
        ⊎_elim (λ (u : c < 262144). of4 l (inr (inr (inr (inr (inr (inr (inl refl))))))) (omega arith, omega arith, (omega arith, omega arith, (omega arith, omega arith, (omega arith, omega arith, tt)))))
        (λ (v : 262144 ≤ c). ⊎_elim (λ (u : c < 1048576). of4 l (inr (inr (inr (inr (inr (inr (inr (inl refl)))))))) (omega arith, omega arith, (omega arith, omega arith, (omega arith, omega arith, (omega arith, omega arith, tt)))))
        (λ (v : 1048576 ≤ c). of4 l (inr (inr (inr (inr (inr (inr (inr (inr (inl refl))))))))) (omega arith, omega arith, (omega arith, omega arith, (omega arith, omega arith, (omega arith, omega arith, tt))))) (cases_lt c 1048576)) (cases_lt c 262144)

encodeds : (cs : List ℕ) → scalars cs ≡ true → Characters (encodes cs)
encodeds [] s = none
encodeds (c ∷ cs) s = let p = and_parts (scalar c) (scalars cs) s in let h = encode_shaped c p.0 in more (encode c) (encodes cs) h.1 h.2 (encodeds cs p.1) refl

pub utf8_chars : {bs : List ℕ} → IsUtf8 bs → Characters bs
utf8_chars u = subst Characters u.1.1 (encodeds u.0 u.1.0)
