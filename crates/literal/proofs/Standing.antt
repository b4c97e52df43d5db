-- The reading of a text is what the language of escapes says, and nothing else is.
use Rattle.std.proofs.Common.{◌≡◌, ℕ, zero, suc, ◌+◌, ◌-◌, ◌*◌, ◌<◌, Bool, true, false, cond, eqb, List, [], ◌∷◌, ◌++◌, length, get_or, drop, Some, None, Ok, Err, Option, sym, refl, ap, ◌∙◌, subst, ⊎_elim, append-nil, arith, length-append, eqb-true, MatchOption}
use lib.Seq.{drop-append_seam}
use borrow.Author.Tests.{eqb-false}
use Rattle.std.proofs.lemmas.Bool.{cases_Bool}
use Rattle.std.specs.Option.{option_map}
use Rattle.literal.specs.Escapes.{simple, hex_of, hex_pair, escape, Stands, nothing, plain, letter, hex, BadEscape, Reading, put, reading_from, reading, Means, Readings}
use Rattle.literal.specs.Machine.{count_of}
use Rattle.literal.specs.Texts.{or_else}
use Rattle.literal.proofs.Escaping.{read_none, read_plain, read_letter, read_hex}

abbrev after : List ℕ → Reading → Reading
after ds r = record { bytes = ds ++ r.bytes; stop = r.stop }

abbrev stopped : List ℕ → Reading
stopped t = record { bytes = []; stop = Some t }

none_some : {P : Type 0} {X : Type 0} {x : X} → ◌≡◌ {A = Option X} None (Some x) → P
none_some e = absurd (let z : ◌≡◌ {A = ℕ} 0 1 = cc in omega arith)

-- ---- what stands for bytes is read as them

pub complete : {t ds : List ℕ} → Stands t ds → (rest : List ℕ) → reading (t ++ rest) ≡ after ds (reading rest)
complete nothing rest = refl
complete (plain {b} {bs} {ds} n u) rest = read_plain b (bs ++ rest) n ∙ ap (put b) (complete u rest)
complete (letter {b} {d} {bs} {ds} s u) rest = read_letter b d (bs ++ rest) s ∙ ap (put d) (complete u rest)
complete (hex {h} {l} {x} {y} {bs} {ds} p q u) rest = read_hex h l x y (bs ++ rest) p q ∙ ap (put (16 * x + y)) (complete u rest)

-- ---- what is found behind a backslash is an escape

data Found : List ℕ → ℕ × ℕ → Type 0 where
  by_letter : {rest : List ℕ} {p : ℕ × ℕ} (c d : ℕ) (cs : List ℕ) → rest ≡ c ∷ cs → simple c ≡ Some d → p ≡ (d, 1) → Found rest p
  by_hex : {rest : List ℕ} {p : ℕ × ℕ} (h l x y : ℕ) (cs : List ℕ) → rest ≡ 120 ∷ h ∷ l ∷ cs → hex_of h ≡ Some x → hex_of l ≡ Some y → p ≡ (16 * x + y, 3) → Found rest p

some_same : {X : Type 0} {x y : X} → ◌≡◌ {A = Option X} (Some x) (Some y) → x ≡ y
some_same e = cc

on_pair : (cs : List ℕ) (p : ℕ × ℕ) → hex_pair cs ≡ Some p → Found (120 ∷ cs) p
on_pair [] p e = none_some e
on_pair (h ∷ []) p e = none_some e
on_pair (h ∷ l ∷ cs) p e = go (hex_of h) (hex_of l) refl refl e
  where
    go : (a b : Option ℕ) → hex_of h ≡ a → hex_of l ≡ b → or_else {B = Option (ℕ × ℕ)} a (λ x. option_map (λ y. (16 * x + y, 3)) b) None ≡ Some p → Found (120 ∷ h ∷ l ∷ cs) p
    go None b u v f = none_some f
    go (Some x) None u v f = none_some f
    go (Some x) (Some y) u v f = by_hex h l x y cs refl u v (sym (some_same f))

found : (rest : List ℕ) (p : ℕ × ℕ) → escape rest ≡ Some p → Found rest p
found [] p e = none_some e
found (c ∷ cs) p e = go (simple c) refl e
  where
    other : (t : Bool) → eqb c 120 ≡ t → cond {A = Option (ℕ × ℕ)} t (hex_pair cs) None ≡ Some p → Found (c ∷ cs) p
    other true x f = subst (λ k. Found (k ∷ cs) p) (sym (eqb-true c 120 x)) (on_pair cs p f)
    other false x f = none_some f

    go : (o : Option ℕ) → simple c ≡ o → or_else {B = Option (ℕ × ℕ)} o (λ d. Some (d, 1)) (cond (eqb c 120) (hex_pair cs) None) ≡ Some p → Found (c ∷ cs) p
    go (Some d) u f = by_letter c d cs refl u (sym (some_same f))
    go None u f = other (eqb c 120) refl f

tails : {a b : ℕ} {xs ys : List ℕ} → ◌≡◌ {A = List ℕ} (a ∷ xs) (b ∷ ys) → xs ≡ ys
tails e = cc

-- no escape is the same as a bad one
bad : (rest : List ℕ) → escape rest ≡ None → BadEscape (92 ∷ rest)
bad rest e = (
  (rest, refl),
  (λ b d cs f u. let t = tails f in grind arith),
  (λ h l x y cs f u v. let t = tails f in grind arith),
)

not_found : (rest : List ℕ) (p : ℕ × ℕ) → BadEscape (92 ∷ rest) → Found rest p → ⊥
not_found rest p b (by_letter c d cs e u f) = b.1 c d cs (ap (λ l. 92 ∷ l) e) u
not_found rest p b (by_hex h l x y cs e u v f) = b.2 h l x y cs (ap (λ l. 92 ∷ l) e) u v

bad_none : (rest : List ℕ) → BadEscape (92 ∷ rest) → escape rest ≡ None
bad_none rest b = go (escape rest) refl
  where
    go : (o : Option (ℕ × ℕ)) → escape rest ≡ o → o ≡ None
    go None e = refl
    go (Some p) e = absurd (not_found rest p b (found rest p e))

pub bad_read : (t : List ℕ) → BadEscape t → reading t ≡ stopped t
bad_read t b = let r = b.0.0 in let e = b.0.1 in subst (λ l. reading l ≡ stopped l) (sym e) (read_none 92 r (bad_none r (subst BadEscape e b)))

-- ---- the law

-- a byte more in front
further : (t u : List ℕ) (d : ℕ) (r : Reading) → ((front ds : List ℕ) (rest : List ℕ) → t ≡ front ++ rest → Stands front ds → (more : List ℕ) × (u ≡ more ++ rest) × Stands more (d ∷ ds)) → ((ds : List ℕ) → Stands t ds → Stands u (d ∷ ds)) → Means t r → Means u (put d r)
further t u d r f g m = go r.stop m
  where
    go : (o : Option (List ℕ)) → MatchOption o (Stands t r.bytes) (λ rest. (front : List ℕ) × (t ≡ front ++ rest) × Stands front r.bytes × BadEscape rest) → MatchOption o (Stands u (d ∷ r.bytes)) (λ rest. (front : List ℕ) × (u ≡ front ++ rest) × Stands front (d ∷ r.bytes) × BadEscape rest)
    go None k = g r.bytes k
    go (Some rest) k = let q = f k.0 r.bytes rest k.1 k.2 in (q.0, q.1, q.2, k.3)

means_plain : (b : ℕ) (bs : List ℕ) → (b ≡ 92 → ⊥) → Means bs (reading bs) → Means (b ∷ bs) (reading (b ∷ bs))
means_plain b bs n m = subst (Means (b ∷ bs)) (sym (read_plain b bs n))
    (further bs (b ∷ bs) b (reading bs) (λ front ds rest e s. (b ∷ front, ap (λ l. b ∷ l) e, plain n s)) (λ ds s. plain n s) m)

means_found : (rest : List ℕ) (p : ℕ × ℕ) → ((t : List ℕ) → length t < length rest → Means t (reading t)) → Found rest p → Means (92 ∷ rest) (reading (92 ∷ rest))
means_found rest p rec (by_letter c d cs e u f) = subst (λ l. Means (92 ∷ l) (reading (92 ∷ l))) (sym e)
    (subst (Means (92 ∷ c ∷ cs)) (sym (read_letter c d cs u))
    (further cs (92 ∷ c ∷ cs) d (reading cs) (λ front ds r w s. (92 ∷ c ∷ front, ap (λ l. 92 ∷ c ∷ l) w, letter u s)) (λ ds s. letter u s) (rec cs (omega (arith, ap length e)))))
means_found rest p rec (by_hex h l x y cs e u v f) = subst (λ k. Means (92 ∷ k) (reading (92 ∷ k))) (sym e)
    (subst (Means (92 ∷ 120 ∷ h ∷ l ∷ cs)) (sym (read_hex h l x y cs u v))
    (further cs (92 ∷ 120 ∷ h ∷ l ∷ cs) (16 * x + y) (reading cs) (λ front ds r w s. (92 ∷ 120 ∷ h ∷ l ∷ front, ap (λ k. 92 ∷ 120 ∷ h ∷ l ∷ k) w, hex u v s)) (λ ds s. hex u v s) (rec cs (omega (arith, ap length e)))))

means_escape : (rest : List ℕ) → ((t : List ℕ) → length t < length (92 ∷ rest) → Means t (reading t)) → Means (92 ∷ rest) (reading (92 ∷ rest))
means_escape rest rec = go (escape rest) refl
  where
    go : (o : Option (ℕ × ℕ)) → escape rest ≡ o → Means (92 ∷ rest) (reading (92 ∷ rest))
    go None e = subst (Means (92 ∷ rest)) (sym (read_none 92 rest e)) ([], refl, nothing, bad rest e)
    go (Some p) e = means_found rest p (λ t h. rec t (omega arith)) (found rest p e)

by_length : (n : ℕ) (t : List ℕ) → length t < n → Means t (reading t)
unfolding reading_from
by_length zero t h = absurd (omega arith)
by_length (suc n) [] h = nothing
by_length (suc n) (b ∷ bs) h = ⊎_elim
    (λ x. subst (λ k. Means (k ∷ bs) (reading (k ∷ bs))) (sym (eqb-true b 92 x)) (means_escape bs (λ t l. by_length n t (omega arith))))
    (λ x. means_plain b bs (eqb-false b 92 x) (by_length n bs (omega arith))) (cases_Bool (eqb b 92))

pub means : (t : List ℕ) → Means t (reading t)
means t = by_length (suc (length t)) t (omega arith)

once : (t : List ℕ) (r : Reading) → Means t r → r ≡ reading t
unfolding reading_from
once t r m = go r.bytes r.stop m
  where
    go : (ds : List ℕ) (o : Option (List ℕ)) → MatchOption o (Stands t ds) (λ rest. (front : List ℕ) × (t ≡ front ++ rest) × Stands front ds × BadEscape rest) → record { bytes = ds; stop = o } ≡ reading t
    go ds None k = sym (ap reading (sym (append-nil t)) ∙ complete k [] ∙ ap (λ l. record { bytes = l; stop = None }) (append-nil ds))
    go ds (Some rest) k = sym (ap reading k.1 ∙ complete k.2 rest ∙ ap (after ds) (bad_read rest k.3) ∙ ap (λ l. record { bytes = l; stop = Some rest }) (append-nil ds))

pub readings : Readings
readings = record { means = means; once = once }

-- ---- where a bad escape stands

abbrev At : List ℕ → ℕ → List ℕ → Type 0
At t at rest = (rest ≡ drop at t) × (at < length t) × (get_or t at 0 ≡ 92)

bad_behind : (front rest : List ℕ) → BadEscape rest → At (front ++ rest) (length front) rest
bad_behind front rest b =
    let e = b.0.1 in
    (sym (drop-append_seam front rest), omega (arith, length-append front rest, ap length e), slice_index_or_append_at front rest ∙ ap (λ l. get_or l 0 0) e)
  where
    slice_index_or_append_at : (front rest : List ℕ) → get_or (front ++ rest) (length front) 0 ≡ get_or rest 0 0
    slice_index_or_append_at [] rest = refl
    slice_index_or_append_at (x ∷ xs) rest = slice_index_or_append_at xs rest

stop_at : (t rest : List ℕ) → (reading t).stop ≡ Some rest → At t (length t - length rest) rest
stop_at t rest e =
    let ds = (reading t).bytes in
    let m = subst (λ o. MatchOption o (Stands t ds) (λ rest. (front : List ℕ) × (t ≡ front ++ rest) × Stands front ds × BadEscape rest)) e (means t) in
    let n : length m.0 ≡ length t - length rest = omega (arith, ap length m.1, length-append m.0 rest) in
    subst (λ k. At t k rest) n (subst (λ l. At l (length m.0) rest) (sym m.1) (bad_behind m.0 rest m.3))

-- what an unescaper's error says
pub refused_at : (t : List ℕ) (at : ℕ) → Err at ≡ count_of t → ((reading t).stop ≡ Some (drop at t)) × (at < length t) × (get_or t at 0 ≡ 92)
refused_at t at e = go (reading t).stop refl e
  where
    go : (o : Option (List ℕ)) → (reading t).stop ≡ o → Err at ≡ or_else o (λ rest. Err (length t - length rest)) (Ok (length (reading t).bytes)) → ((reading t).stop ≡ Some (drop at t)) × (at < length t) × (get_or t at 0 ≡ 92)
    go None s f = absurd (let z : ◌≡◌ {A = ℕ} 0 1 = cc in omega arith)
    go (Some rest) s f =
        let n : at ≡ length t - length rest = cc in
        let h = stop_at t rest s in
        (s ∙ ap Some h.0 ∙ ap (λ k. Some (drop k t)) (sym n), omega (arith, h.1), ap (λ k. get_or t k 0) n ∙ h.2)
