-- The unescaper's loop reads what the text stands for.
use Rattle.std.proofs.Common.{◌≡◌, ℕ, ◌+◌, ◌-◌, ◌*◌, ◌^◌, ◌<◌, ◌≤◌, min, List, [], ◌∷◌, ◌++◌, length, get_or, drop, set, Some, None, Ok, Err, Option, Result, sym, refl, ap, ◌∙◌, subst, ⊎_elim, append_assoc, append-nil, add-one, arith, length-append, length-drop, drop-cons}
use Rattle.std.proofs.lemmas.List.{drop_all}
use Rattle.std.proofs.lemmas.Bool.{cases_lt}
use Rattle.literal.specs.declared.unescape.State.{State}
use Rattle.literal.specs.declared.unescape.State.TheVariants.{Plain, AfterBackslash, AfterX, AfterDigit}
use Rattle.literal.specs.declared.unescape.Step.TheVariants.{Emit, Go}
use Rattle.literal.specs.Escapes.{simple, hex_of, first, Reading, put, reading_from, reading}
use Rattle.literal.specs.Machine.{step_of, held_by, Small, count_of}
use Rattle.lent.specs.Lists.{counted, overlay}
use Rattle.lent.proofs.Overlays.{overlay-++}
use Rattle.std.specs.Option.{option_map}
use Rattle.literal.specs.Memory.{counted_all}
use Rattle.literal.specs.Texts.{or_else}

-- ---- what a state has read of an escape

abbrev pub Held : State → List ℕ → Type 0
Held Plain h = h ≡ []
Held AfterBackslash h = h ≡ 92 ∷ []
Held AfterX h = h ≡ 92 ∷ 120 ∷ []
Held (AfterDigit v) h = (d : ℕ) × (hex_of d ≡ Some v) × (h ≡ 92 ∷ 120 ∷ d ∷ [])

held_length : (s : State) (h : List ℕ) → Held s h → length h ≡ held_by s
held_length Plain h e = ap length e
held_length AfterBackslash h e = ap length e
held_length AfterX h e = ap length e
held_length (AfterDigit v) h e = ap length e.2

-- a step that goes on: the byte joins what is held
goes : (s t : State) (b : ℕ) (h : List ℕ) → Held s h → Some (Go t) ≡ step_of s b → Held t (h ++ (b ∷ []))
goes Plain t b h e g = grind arith
goes AfterBackslash t b h e g = grind arith
goes AfterX t b h e g = on_hex (hex_of b) refl g
  where
    on_hex : (o : Option ℕ) → hex_of b ≡ o → Some (Go t) ≡ option_map (λ v. Go (AfterDigit v)) o → Held t (h ++ (b ∷ []))
    on_hex (Some v) x k = let p : t ≡ AfterDigit v = cc in subst (λ u. Held u (h ++ (b ∷ []))) (sym p) (b, x, ap (λ l. l ++ (b ∷ [])) e)
    on_hex None x k = grind arith
goes (AfterDigit v) t b h e g = on_hex (hex_of b) g
  where
    on_hex : (o : Option ℕ) → Some (Go t) ≡ option_map (λ y. Emit (16 * v + y)) o → Held t (h ++ (b ∷ []))
    on_hex (Some y) k = grind arith
    on_hex None k = grind arith

-- ---- the reading, one byte of the answer at a time

abbrev stopped : List ℕ → Reading
stopped t = record { bytes = []; stop = Some t }

pub read_none : (b : ℕ) (bs : List ℕ) → first b bs ≡ None → reading_from 0 (b ∷ bs) ≡ stopped (b ∷ bs)
unfolding reading_from
read_none b bs e = grind arith

-- a byte that is no backslash
pub read_plain : (b : ℕ) (bs : List ℕ) → (b ≡ 92 → ⊥) → reading_from 0 (b ∷ bs) ≡ put b (reading_from 0 bs)
unfolding reading_from
read_plain b bs n = grind arith

-- a backslash and a letter
pub read_letter : (b d : ℕ) (bs : List ℕ) → simple b ≡ Some d → reading_from 0 (92 ∷ b ∷ bs) ≡ put d (reading_from 0 bs)
unfolding reading_from
read_letter b d bs e = grind arith

-- a backslash, an x and two digits
pub read_hex : (h l x y : ℕ) (bs : List ℕ) → hex_of h ≡ Some x → hex_of l ≡ Some y → reading_from 0 (92 ∷ 120 ∷ h ∷ l ∷ bs) ≡ put (16 * x + y) (reading_from 0 bs)
unfolding reading_from
read_hex h l x y bs p q = grind arith

emits : (s : State) (b d : ℕ) (h rest : List ℕ) → Held s h → Some (Emit d) ≡ step_of s b → reading_from 0 (h ++ (b ∷ rest)) ≡ put d (reading_from 0 rest)
unfolding reading_from
emits Plain b d h rest e g = grind arith
emits AfterBackslash b d h rest e g = grind arith
emits AfterX b d h rest e g = grind arith
emits (AfterDigit v) b d h rest e g = let x = e.1 in let y = e.2 in grind arith

bads : (s : State) (b : ℕ) (h rest : List ℕ) → Held s h → None ≡ step_of s b → reading_from 0 (h ++ (b ∷ rest)) ≡ stopped (h ++ (b ∷ rest))
unfolding reading_from
bads Plain b h rest e g = grind arith
bads AfterBackslash b h rest e g = grind arith
bads AfterX b h [] e g = grind arith
bads AfterX b h (l ∷ rest) e g = grind arith
bads (AfterDigit v) b h rest e g = let x = e.1 in let y = e.2 in grind arith

unended : (s : State) (h : List ℕ) → Held s h → (s ≡ Plain → ⊥) → reading_from 0 h ≡ stopped h
unfolding reading_from
unended Plain h e n = absurd (n refl)
unended AfterBackslash h e n = grind arith
unended AfterX h e n = grind arith
unended (AfterDigit v) h e n = let x = e.2 in grind arith

-- ---- the loop

-- a reading behind bytes that were read before
abbrev after : List ℕ → Reading → Reading
after ds r = record { bytes = ds ++ r.bytes; stop = r.stop }

-- what was read of a text, and what is left
pub record Progress (text start : List ℕ) (from : ℕ) (state : State) (n : ℕ) (out : List ℕ) (i : ℕ) : Type 0 where
  pub ds : List ℕ
  pub held : List ℕ
  pub holds : Held state held
  pub small : Small state
  pub count : n ≡ length ds
  pub few : n + length held ≤ i
  pub memory : out ≡ overlay start from ds
  pub left : reading text ≡ after ds (reading_from 0 (held ++ drop i text))

-- what is left, with its first byte
turn : (text : List ℕ) (i : ℕ) → i < length text → drop i text ≡ get_or text i 0 ∷ drop (i + 1) text
turn text i h = drop-cons text i 0 h ∙ ap (λ j. get_or text i 0 ∷ drop j text) (sym (add-one i))

pub went : (text start : List ℕ) (from : ℕ) (s t : State) (n : ℕ) (out : List ℕ) (i : ℕ) → i < length text → Progress text start from s n out i → Some (Go t) ≡ step_of s (get_or text i 0) → Small t → Progress text start from t n out (i + 1)
went text start from s t n out i h p g z =
    let b = get_or text i 0 in
    record {
      ds = p.ds;
      held = p.held ++ (b ∷ []);
      holds = goes s t b p.held p.holds g;
      small = z;
      count = p.count;
      few = omega (arith, p.few, length-append p.held (b ∷ []));
      memory = p.memory;
      left = p.left ∙ ap (λ l. after p.ds (reading_from 0 (p.held ++ l))) (turn text i h) ∙ ap (λ l. after p.ds (reading_from 0 l)) (sym (append_assoc p.held (b ∷ []) (drop (i + 1) text)));
    }

-- a counter that has counted each item is the sum, up to its largest value
counted_top : (n : ℕ) (ds : List ℕ) → 2 ^ 64 - 1 ≤ n → n < 2 ^ 64 → counted_all n ds ≡ 2 ^ 64 - 1
counted_top n [] h l = omega (arith, h, l)
counted_top n (x ∷ ds) h l = counted_top (counted n) ds (omega (arith, h)) (omega (arith, l))

pub counted_sum : (n : ℕ) (ds : List ℕ) → n < 2 ^ 64 → counted_all n ds ≡ min (n + length ds) (2 ^ 64 - 1)
counted_sum n [] h = omega (arith, h)
counted_sum n (x ∷ ds) h = ⊎_elim
    (λ (l : n < 2 ^ 64 - 1). let e : counted n ≡ n + 1 = omega arith in ap (λ k. counted_all k ds) e ∙ counted_sum (n + 1) ds (omega (arith, l)) ∙ ap (λ k. min k (2 ^ 64 - 1)) (omega arith))
    (λ (l : 2 ^ 64 - 1 ≤ n). counted_top n (x ∷ ds) l h ∙ omega (arith, l)) (cases_lt n (2 ^ 64 - 1))

pub emitted : (text start : List ℕ) (from : ℕ) (s : State) (n d : ℕ) (out out' : List ℕ) (i : ℕ) → i < length text → Progress text start from s n out i → Some (Emit d) ≡ step_of s (get_or text i 0) → out' ≡ set out (from + n) d → Progress text start from Plain (n + 1) out' (i + 1)
emitted text start from s n d out out' i h p g m =
    let b = get_or text i 0 in
    let r = reading_from 0 (drop (i + 1) text) in
    record {
      ds = p.ds ++ (d ∷ []);
      held = [];
      holds = refl;
      small = tt;
      count = omega (arith, p.count, length-append p.ds (d ∷ []));
      few = omega (arith, p.few);
      memory = m ∙ ap (λ k. set out (from + k) d) p.count ∙ ap (λ x. set x (from + length p.ds) d) p.memory ∙ sym (overlay-++ start from p.ds (d ∷ []));
      left = p.left ∙ ap (λ l. after p.ds (reading_from 0 (p.held ++ l))) (turn text i h) ∙ ap (after p.ds) (emits s b d p.held (drop (i + 1) text) p.holds g)
          ∙ ap (λ l. record { bytes = l; stop = r.stop }) (sym (append_assoc p.ds (d ∷ []) r.bytes));
    }

-- ---- how it ends

pub record Ended (text start : List ℕ) (from : ℕ) (out : List ℕ) (n : ℕ) (r : Result ℕ ℕ) : Type 0 where
  pub value : r ≡ count_of text
  pub memory : out ≡ overlay start from (reading text).bytes
  pub count : n ≡ length (reading text).bytes

-- the reading is known
known : (text start : List ℕ) (from : ℕ) (out : List ℕ) (n : ℕ) (ds : List ℕ) (stop : Option (List ℕ)) → reading text ≡ record { bytes = ds; stop = stop } → out ≡ overlay start from ds → n ≡ length ds → Ended text start from out n (or_else stop (λ rest. Err (length text - length rest)) (Ok (length ds)))
known text start from out n ds stop e m k = record {
  value = sym (ap (λ (r : Reading). or_else r.stop (λ rest. Err (length text - length rest)) (Ok (length r.bytes))) e);
  memory = m ∙ sym (ap (λ (r : Reading). overlay start from r.bytes) e);
  count = k ∙ sym (ap (λ (r : Reading). length r.bytes) e);
}

behind_none : (ds h : List ℕ) → after ds (stopped h) ≡ record { bytes = ds; stop = Some h }
behind_none ds h = ap (λ l. record { bytes = l; stop = Some h }) (append-nil ds)

stopped_at : (text start : List ℕ) (from n : ℕ) (out : List ℕ) (s : State) (i at : ℕ) (p : Progress text start from s n out i) → i ≤ length text → at ≡ i - held_by s → reading_from 0 (p.held ++ drop i text) ≡ stopped (p.held ++ drop i text) → Ended text start from out n (Err at)
stopped_at text start from n out s i at p h e w =
    let rest = p.held ++ drop i text in
    let l : length text - length rest ≡ at = omega (arith, length-append p.held (drop i text), length-drop i text, held_length s p.held p.holds, p.few) in
    subst (λ k. Ended text start from out n (Err k)) l (known text start from out n p.ds (Some rest) (p.left ∙ ap (after p.ds) w ∙ behind_none p.ds rest) p.memory p.count)

pub bad_at : (text start : List ℕ) (from n : ℕ) (out : List ℕ) (s : State) (i at : ℕ) → i < length text → Progress text start from s n out i → at ≡ i - held_by s → None ≡ step_of s (get_or text i 0) → Ended text start from out n (Err at)
bad_at text start from n out s i at h p e g =
    stopped_at text start from n out s i at p (omega arith) e
    (subst (λ l. reading_from 0 (p.held ++ l) ≡ stopped (p.held ++ l)) (sym (turn text i h)) (bads s (get_or text i 0) p.held (drop (i + 1) text) p.holds g))

pub cut_at : (text start : List ℕ) (from n : ℕ) (out : List ℕ) (s : State) (i at : ℕ) → length text ≡ i → Progress text start from s n out i → at ≡ i - held_by s → (s ≡ Plain → ⊥) → Ended text start from out n (Err at)
cut_at text start from n out s i at h p e g =
    let d = drop_all i text (omega arith) in
    stopped_at text start from n out s i at p (omega arith) e
    (subst (λ l. reading_from 0 (p.held ++ l) ≡ stopped (p.held ++ l)) (sym d) (subst (λ l. reading_from 0 l ≡ stopped l) (sym (append-nil p.held)) (unended s p.held p.holds g)))

pub whole : (text start : List ℕ) (from n : ℕ) (out : List ℕ) (s : State) (i : ℕ) → length text ≤ i → Progress text start from s n out i → s ≡ Plain → Ended text start from out n (Ok n)
unfolding reading_from
whole text start from n out s i h p e =
    let d = drop_all i text h in
    let q : p.held ≡ [] = subst (λ t. Held t p.held) e p.holds in
    let w : reading text ≡ record { bytes = p.ds; stop = None } =
    p.left ∙ ap (λ l. after p.ds (reading_from 0 (p.held ++ l))) d ∙ ap (λ l. after p.ds (reading_from 0 (l ++ []))) q ∙ ap (λ l. record { bytes = l; stop = None }) (append-nil p.ds) in
    subst (λ k. Ended text start from out n (Ok k)) (sym p.count) (known text start from out n p.ds None w p.memory p.count)
