-- The place of a bad escape, and the value of a string.
use Rattle.std.proofs.Common.{◌≡◌, ℕ, ◌+◌, ◌-◌, ◌<◌, Bool, true, false, cond, ◌||◌, eqb, leb, List, [], ◌∷◌, ◌++◌, length, drop, Some, None, Err, IsUtf8, Option, sym, refl, ap, ◌∙◌, arith, length-drop, drop-drop}
use lib.Utf8.{encode}
use borrow.Author.Tests.{lt-leb}
use Rattle.std.specs.List.{list_any}
use Rattle.std.specs.Char.{len_utf8}
use Rattle.std.specs.Option.{MatchOption, option_map}
use Rattle.std.proofs.lemmas.Str.{len_utf8_bounds}
use Rattle.syntax.specs.declared.span.Span.{Span}
use Rattle.refusal.specs.declared.refusal.Refusal.{Refusal}
use Rattle.refusal.specs.declared.refusal.Refusal.TheVariants.{BadToken, InvalidEscape}
use Rattle.literal.specs.Escapes.{reading}
use Rattle.literal.specs.Regexps.{has}
use Rattle.literal.specs.Strings.{inner, escape_place, escape_refusal, value_of, as_string, decoded_in}
use Rattle.literal.specs.Texts.{place_in, or_else}
use Rattle.literal.specs.Utf8.{char_bytes}
use Rattle.literal.proofs.Cuts.{first_char}

-- a character behind the backslash
pub escape_here : (s : Span) (at : ℕ) (t rest : List ℕ) (c : ℕ) → at < length t → IsUtf8 (drop (at + 1) t) → drop (at + 1) t ≡ encode c ++ rest → Some (place_in s at (at + 1 + len_utf8 c)) ≡ escape_place s t (drop at t)
escape_here s at t rest c h u e =
    let f = first_char (drop (at + 1) t) rest c u e in
    let w = len_utf8_bounds c in
    let l = length-drop at t in
    let m = length-drop (at + 1) t in
    let x = lt-leb (length (drop at t)) 1 (omega (arith, f.1)) in
    let n : length t - length (drop at t) ≡ at = omega arith in
    let d : drop 1 (drop at t) ≡ drop (at + 1) t = drop-drop 1 at t in
    sym (ap (λ b. cond b None (Some (place_in s (length t - length (drop at t)) (length t - length (drop at t) + 1 + char_bytes (drop 1 (drop at t)))))) x
    ∙ ap (λ k. Some (place_in s k (k + 1 + char_bytes (drop 1 (drop at t))))) n
    ∙ ap (λ k. Some (place_in s at (at + 1 + k))) (ap char_bytes d ∙ f.0))

-- a place in a part of a token
pub place_place : (s : Span) (a b i j : ℕ) → place_in (place_in s a b) i j ≡ place_in s (a + i) (a + j)
place_place s a b i j = grind arith

-- the refusal, by the place in what stands between the quotes
pub refusal_by : (s : Span) (q : ℕ) (t rest : List ℕ) → or_else (escape_place (place_in s q (q + length t)) t rest) (λ p. InvalidEscape p) (BadToken s) ≡ escape_refusal s q t rest
refusal_by s q t rest = go (leb (length rest) 1)
  where
    n : ℕ
    n = length t - length rest

    k : ℕ
    k = char_bytes (drop 1 rest)

    e : place_in (place_in s q (q + length t)) n (n + 1 + k) ≡ place_in s (q + n) (q + n + 1 + k)
    e = place_place s q (q + length t) n (n + 1 + k) ∙ ap (λ x. place_in s (q + n) x) (omega arith)

    go : (b : Bool) → or_else (cond b None (Some (place_in (place_in s q (q + length t)) n (n + 1 + k)))) (λ p. InvalidEscape p) (BadToken s) ≡ cond b (BadToken s) (InvalidEscape (place_in s (q + n) (q + n + 1 + k)))
    go true = refl
    go false = ap (λ p. InvalidEscape p) e

-- ---- a string with a backslash

-- what stands between the quotes, and its place
abbrev pub Unquoted : List ℕ → Span → Span → List ℕ → Type 0
Unquoted t s place i = Some (place, i) ≡ option_map {U = Span × List ℕ} (λ p. (place_in s p.0 (p.0 + length p.1), p.1)) (inner t)

unquoted : (s place : Span) (i : List ℕ) (o : Option (ℕ × List ℕ)) → Some (place, i) ≡ option_map {U = Span × List ℕ} (λ p. (place_in s p.0 (p.0 + length p.1), p.1)) o → (q : ℕ) × (o ≡ Some (q, i)) × (place ≡ place_in s q (q + length i))
unquoted s place i None e = absurd (let z : ◌≡◌ {A = ℕ} 0 1 = cc in omega arith)
unquoted s place i (Some p) e =
    let g : ◌≡◌ {A = Span × List ℕ} (place, i) (place_in s p.0 (p.0 + length p.1), p.1) = cc in
    let f : i ≡ p.1 = ap (λ (x : Span × List ℕ). x.1) g in
    (p.0, ap (λ x. Some (p.0, x)) (sym f), ap (λ (x : Span × List ℕ). x.0) g ∙ ap (λ x. place_in s p.0 (p.0 + length x)) (sym f))

has_any : (c : ℕ) (ds : List ℕ) → has c ds ≡ list_any (λ d. eqb d c) ds
has_any c [] = refl
has_any c (d ∷ ds) = ap (λ b. eqb d c || b) (has_any c ds)

-- a backslash was found
pub found : (ds bs : List ℕ) (b : Bool) → b ≡ list_any (λ d. eqb d 92) ds → ds ≡ bs → b ≡ true → has 92 bs ≡ true
found ds bs b e f h = has_any 92 bs ∙ ap (list_any (λ d. eqb d 92)) (sym f) ∙ sym e ∙ h

-- what is between the quotes decides
between : (t : List ℕ) (s : Span) (from q : ℕ) (i : List ℕ) → inner t ≡ Some (q, i) → as_string t s from ≡ value_of s from q i
between t s from q i e = grind arith

written : (t : List ℕ) (q : ℕ) (i : List ℕ) → inner t ≡ Some (q, i) → has 92 i ≡ true → decoded_in t ≡ (reading i).bytes
written t q i e h = grind arith

refused_value : (t : List ℕ) (s : Span) (from q : ℕ) (i : List ℕ) (rest : List ℕ) → inner t ≡ Some (q, i) → has 92 i ≡ true → (reading i).stop ≡ Some rest → Err (escape_refusal s q i rest) ≡ as_string t s from
refused_value t s from q i rest e h r = grind arith

-- by what the calls answered
pub refused_by : (t : List ℕ) (s place : Span) (from : ℕ) (i rest : List ℕ) (o : Option Span) → Unquoted t s place i → has 92 i ≡ true → (reading i).stop ≡ Some rest → o ≡ escape_place place i rest → Err (or_else o (λ p. InvalidEscape p) (BadToken s)) ≡ as_string t s from
refused_by t s place from i rest o u h r e =
    let q = unquoted s place i (inner t) u in
    ap (λ x. Err (or_else x (λ p. InvalidEscape p) (BadToken s))) (e ∙ ap (λ p. escape_place p i rest) q.2)
    ∙ ap Err (refusal_by s q.0 i rest) ∙ refused_value t s from q.0 i rest q.1 h r

-- by the call that chose between them
pub chosen : (s : Span) (o : Option Span) (r : Refusal) → MatchOption o (r ≡ BadToken s) (λ p. r ≡ InvalidEscape p) → r ≡ or_else o (λ p. InvalidEscape p) (BadToken s)
chosen s None r h = h
chosen s (Some p) r h = h

pub decoded : (t : List ℕ) (s place : Span) (i bs : List ℕ) → Unquoted t s place i → has 92 i ≡ true → bs ≡ i → (reading bs).bytes ≡ decoded_in t
decoded t s place i bs u h e = let q = unquoted s place i (inner t) u in ap (λ l. (reading l).bytes) e ∙ sym (written t q.0 i q.1 h)
