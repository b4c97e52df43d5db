-- The modifiers of regular expressions.
use Rattle.std.proofs.Common.{◌≡◌, ℕ, ◌+◌, ◌≤◌, Bool, true, false, ◌||◌, List, [], ◌∷◌, ◌++◌, length, Some, None, Ok, Err, IsUtf8, Option, Result, sym, refl, ap, ◌∙◌, arith, rules, length-append, ne_eqb}
use lib.Utf8.{encode}
use Rattle.std.specs.Option.{option_map}
use Rattle.std.specs.Char.{len_utf8}
use Rattle.std.specs.Str.{chars}
use Rattle.std.proofs.lemmas.Str.{chars_past_char, IsUtf8-past_char, length-encode}
use Rattle.syntax.specs.declared.span.Span.{Span}
use Rattle.refusal.specs.declared.refusal.Refusal.{Refusal}
use Rattle.refusal.specs.declared.refusal.Refusal.TheVariants.{InvalidModifier}
use Rattle.literal.specs.Regexps.{has, no_modifier, modifiers_of}
use Rattle.literal.specs.Texts.{place_in, or_else}
use Rattle.literal.proofs.Refusing.{place_place}

-- what a loop over the modifiers has seen, with `rest` to come
pub record Left (tail : List ℕ) (at : ℕ) (i s : Bool) (rest : List ℕ) : Type 0 where
  pub text : IsUtf8 rest
  pub bound : at + length rest ≤ length tail
  pub bad : no_modifier 0 (chars tail) ≡ no_modifier at (chars rest)
  pub has_i : has 105 (chars tail) ≡ (i || has 105 (chars rest))
  pub has_s : has 115 (chars tail) ≡ (s || has 115 (chars rest))

encoded : (bs rest : List ℕ) (c : ℕ) → bs ≡ encode c ++ rest → length bs ≡ len_utf8 c + length rest
encoded bs rest c e = omega (arith, ap length e, length-append (encode c) rest, length-encode c)

or_true : (b : Bool) → (b || true) ≡ true
or_true true = refl
or_true false = refl

pub left_i : (tail : List ℕ) (at to : ℕ) (i s : Bool) (bs rest : List ℕ) (c : ℕ) → Left tail at i s bs → bs ≡ encode c ++ rest → to ≡ at + length (encode c) → c ≡ 105 → Left tail to true s rest
left_i tail at to i s bs rest c l e n f =
    let d = chars_past_char bs rest c l.text e in
    let t = or_true i in
    let k : to ≡ at + 1 = n ∙ ap (λ k. at + k) (length-encode c ∙ ap len_utf8 f) in
    record {
      text = IsUtf8-past_char bs rest c l.text e;
      bound = omega (arith, l.bound, k, encoded bs rest c e, ap len_utf8 f);
      bad = l.bad ∙ ap (no_modifier at) d ∙ rw f (ap (λ k. no_modifier k (chars rest)) (sym k));
      has_i = l.has_i ∙ ap (λ cs. i || has 105 cs) d ∙ rw (f, t);
      has_s = l.has_s ∙ ap (λ cs. s || has 115 cs) d ∙ rw f;
    }

pub left_s : (tail : List ℕ) (at to : ℕ) (i s : Bool) (bs rest : List ℕ) (c : ℕ) → Left tail at i s bs → bs ≡ encode c ++ rest → to ≡ at + length (encode c) → c ≡ 115 → Left tail to i true rest
left_s tail at to i s bs rest c l e n f =
    let d = chars_past_char bs rest c l.text e in
    let t = or_true s in
    let k : to ≡ at + 1 = n ∙ ap (λ k. at + k) (length-encode c ∙ ap len_utf8 f) in
    record {
      text = IsUtf8-past_char bs rest c l.text e;
      bound = omega (arith, l.bound, k, encoded bs rest c e, ap len_utf8 f);
      bad = l.bad ∙ ap (no_modifier at) d ∙ rw f (ap (λ k. no_modifier k (chars rest)) (sym k));
      has_i = l.has_i ∙ ap (λ cs. i || has 105 cs) d ∙ rw f;
      has_s = l.has_s ∙ ap (λ cs. s || has 115 cs) d ∙ rw (f, t);
    }

pub left_bad : (tail : List ℕ) (at : ℕ) (i s : Bool) (bs rest : List ℕ) (c : ℕ) → Left tail at i s bs → bs ≡ encode c ++ rest → (c ≡ 105 → ⊥) → (c ≡ 115 → ⊥) → (no_modifier 0 (chars tail) ≡ Some (at, at + len_utf8 c)) × (at + len_utf8 c ≤ length tail)
left_bad tail at i s bs rest c l e f g =
    let d = chars_past_char bs rest c l.text e in
    let x = ne_eqb c 105 f in
    let y = ne_eqb c 115 g in
    (l.bad ∙ ap (no_modifier at) d ∙ rw (x, y), omega (arith, l.bound, encoded bs rest c e))

nothing : (bs : List ℕ) → length bs ≡ 0 → bs ≡ []
nothing [] e = refl
nothing (b ∷ bs) e = absurd (omega arith)

or_false : (b : Bool) → (b || false) ≡ b
or_false true = refl
or_false false = refl

pub left_end : (tail : List ℕ) (at : ℕ) (i s : Bool) (bs : List ℕ) → Left tail at i s bs → length bs ≡ 0 → (no_modifier 0 (chars tail) ≡ None) × (has 105 (chars tail) ≡ i) × (has 115 (chars tail) ≡ s)
unfolding chars
left_end tail at i s bs l e =
    let n = nothing bs e in
    (l.bad ∙ ap (λ b. no_modifier at (chars b)) n, l.has_i ∙ ap (λ b. i || has 105 (chars b)) n ∙ or_false i, l.has_s ∙ ap (λ b. s || has 115 (chars b)) n ∙ or_false s)

-- ---- what the characters come to

pub refused : (s : Span) (at : ℕ) (cs : List ℕ) (from to : ℕ) → no_modifier at cs ≡ Some (from, to) → Err (InvalidModifier (place_in s from to)) ≡ modifiers_of s at cs
refused s at cs from to e = search rules

pub allowed : (s : Span) (at : ℕ) (cs : List ℕ) (i d : Bool) → (no_modifier at cs ≡ None) × (has 105 cs ≡ i) × (has 115 cs ≡ d) → Ok (i, d) ≡ modifiers_of s at cs
allowed s at cs i d h = search rules

-- counted from the tail's own start, and from the token's
shifted : (a k m : ℕ) (cs : List ℕ) → m ≡ a + k → no_modifier m cs ≡ option_map (λ p. (a + p.0, a + p.1)) (no_modifier k cs)
shifted a k m [] e = refl
shifted a k m (c ∷ cs) e = let h = shifted a (k + 1) (m + 1) cs (omega (arith, e)) in grind arith

abbrev judged : Span → List ℕ → Option (ℕ × ℕ) → Result (Bool × Bool) Refusal
judged s cs o = or_else o (λ p. Err (InvalidModifier (place_in s p.0 p.1))) (Ok (has 105 cs, has 115 cs))

pub modifiers_in : (s : Span) (a b : ℕ) (cs : List ℕ) → modifiers_of (place_in s a b) 0 cs ≡ modifiers_of s a cs
modifiers_in s a b cs = go (no_modifier 0 cs) ∙ sym (ap (judged s cs) (shifted a 0 a cs (omega arith)))
  where
    go : (o : Option (ℕ × ℕ)) → judged (place_in s a b) cs o ≡ judged s cs (option_map (λ p. (a + p.0, a + p.1)) o)
    go None = refl
    go (Some p) = ap (λ q. Err (InvalidModifier q)) (place_place s a b p.0 p.1)

-- what follows a character
pub kept : (bs rest : List ℕ) (c at to : ℕ) → bs ≡ encode c ++ rest → to ≡ at + length (encode c) → to + length rest ≡ at + length bs
kept bs rest c at to e n = omega (arith, n, encoded bs rest c e, length-encode c)
