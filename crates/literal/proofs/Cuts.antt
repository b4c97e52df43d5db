-- Parts of the source, and text among them.
use Rattle.std.proofs.Common.{◌≡◌, ℕ, ◌+◌, ◌≤◌, true, List, ◌++◌, length, Ok, Err, IsUtf8, Result, sym, ap, ◌∙◌, subst, ⊎_elim, arith, length-append}
use lib.Utf8.{scalar, scalars, encode}
use Rattle.std.specs.Str.{IsValidUpTo}
use Rattle.std.specs.Char.{len_utf8}
use Rattle.std.proofs.lemmas.Str.{cons_from_encodes, length-encode}
use Rattle.std.proofs.lemmas.List.{take_all}
use Rattle.std.proofs.lemmas.Bool.{cases_lt, and_parts}
use Rattle.syntax.specs.declared.span.Span.{Span}
use Rattle.std.specs.Result.{MatchResult, IsErrAnd}
use Rattle.std.specs.Borrow.{Bor}
use Rattle.refusal.specs.declared.refusal.Refusal.{Refusal}
use Rattle.refusal.specs.declared.refusal.Refusal.TheVariants.{InvalidUTF8}
use Rattle.literal.specs.Texts.{place_in, seen, well_formed}
use Rattle.literal.specs.Utf8.{Characters, Longest, char_bytes, valid_prefix}
use Rattle.literal.proofs.Fronts.{char_found, longest, longest_same}
use Rattle.literal.proofs.Wellformed.{chars_utf8, encode_shaped, utf8_chars}

pub whole_longest : (bs : List ℕ) → IsUtf8 bs → Longest bs (length bs)
whole_longest bs u = record {
  within = omega arith;
  front = subst Characters (sym (take_all (length bs) bs (omega arith))) (utf8_chars u);
  bound = λ m h c. h;
}

pub short_longest : (bs : List ℕ) (n : ℕ) → IsValidUpTo bs n → Longest bs n
short_longest bs n v = record {
  within = omega (arith, v.short);
  front = utf8_chars v.front;
  bound = λ m h c. ⊎_elim (λ l. absurd (v.longest m l (chars_utf8 c))) (λ l. l) (cases_lt n m);
}

pub is_prefix : (bs : List ℕ) (n : ℕ) → Longest bs n → n ≡ valid_prefix bs
is_prefix bs n l = longest_same bs n (valid_prefix bs) l (longest bs)

pub as_text : (bs : List ℕ) (s : Span) → IsUtf8 bs → Ok bs ≡ well_formed bs s
as_text bs s u = let e = is_prefix bs (length bs) (whole_longest bs u) in grind arith

pub no_text : (bs : List ℕ) (s : Span) (n : ℕ) → IsValidUpTo bs n → Err (InvalidUTF8 (place_in s n (n + 1))) ≡ well_formed bs s
no_text bs s n v = let p = is_prefix bs n (short_longest bs n v) in let h = v.short in grind arith

-- the character that a text begins with has as many bytes as the table says
pub first_char : (bs rest : List ℕ) (c : ℕ) → IsUtf8 bs → bs ≡ encode c ++ rest → (char_bytes bs ≡ len_utf8 c) × (len_utf8 c ≤ length bs)
first_char bs rest c u e =
    let p = cons_from_encodes u.0 rest c (u.1.1 ∙ e) in
    let s = (and_parts (scalar c) (scalars p.0) (subst (λ cs. scalars cs ≡ true) p.1 u.1.0)).0 in
    let h = encode_shaped c s in
    (ap char_bytes e ∙ char_found h.0 (encode c) rest h.1 h.2 ∙ length-encode c, omega (arith, ap length e, length-append (encode c) rest, length-encode c))

-- bytes read as text, where `up` says how far they are and F what becomes of the error
pub read_as : {E : Type 0} (up : E → ℕ) (F : E → Refusal → Type 0) (bs : List ℕ) (s : Span) (u : Result (Bor (List ℕ)) E) (r : Result (Bor (List ℕ)) Refusal) → MatchResult u (λ t. (t.now ≡ bs) × IsUtf8 bs) (λ e. (IsUtf8 bs → ⊥) × IsValidUpTo bs (up e))
    → MatchResult u (λ x. r ≡ Ok x) (λ e. IsErrAnd r (F e)) → ((e : E) (x : Refusal) → F e x → x ≡ InvalidUTF8 (place_in s (up e) (up e + 1))) → seen r ≡ well_formed bs s
read_as up F bs s (Ok t) r h g k = ap seen g ∙ ap Ok h.0 ∙ as_text bs s h.1
read_as up F bs s (Err e) (Err x) h g k = ap Err (k e x g) ∙ no_text bs s (up e) h.1
read_as up F bs s (Err e) (Ok t) h g k = absurd g
