-- Bytes that are escaped a part at a time.
use Rattle.std.proofs.Common.{◌≡◌, ℕ, suc, ◌+◌, ◌-◌, ◌<◌, true, false, List, [], ◌∷◌, ◌++◌, length, get_or, take, drop, refl, ap, sym, ◌∙◌, append_assoc, append-nil, encode_utf8, arith, length-drop, inl, inr}
use Rattle.std.specs.List.{prefix_len}
use Rattle.std.specs.Str.{IsUtf8}
use Rattle.std.proofs.lemmas.Bool.{cases_Bool}
use Rattle.std.proofs.lemmas.Bool.Decides.{nat_tests}
use Rattle.std.proofs.lemmas.Grind.{flat_map-append}
use Rattle.std.proofs.lemmas.List.{get_or-take, take-append-drop, take_all}
use Rattle.std.proofs.lemmas.List.Folds.{length-prefix_len}
use Rattle.std.proofs.lemmas.List.Sums.{prefix_len_passes}
use Rattle.std.proofs.lemmas.Str.{encode_ascii, IsUtf8-from_ascii}
use Rattle.std.proofs.lemmas.Str.Ascii.{IsAscii-from_reads}
use Rattle.outline.specs.Shown.{is_plain, hexadecimal_text, byte_text, bytes_text}

-- the plain bytes in front
abbrev pub plain_part : List ℕ → List ℕ
plain_part bytes = take (prefix_len is_plain bytes) bytes

plain_low : (b : ℕ) → is_plain b ≡ true → b < 128
plain_low b e = grind (arith, nat_tests)

pub plain_utf8 : (bytes : List ℕ) → IsUtf8 (plain_part bytes)
plain_utf8 bytes =
    let n = prefix_len is_plain bytes in
    IsUtf8-from_ascii (plain_part bytes)
    (IsAscii-from_reads (plain_part bytes) n (omega (arith, length-prefix_len is_plain bytes))
    (λ k h. rw (get_or-take n bytes k 0 h) (plain_low (get_or bytes k 0) (prefix_len_passes is_plain bytes k 0 h))))

plain_more : (b : ℕ) (bytes : List ℕ) → is_plain b ≡ true → plain_part (b ∷ bytes) ≡ b ∷ plain_part bytes
plain_more b bytes e =
    let k : 1 + prefix_len is_plain bytes ≡ suc (prefix_len is_plain bytes) = omega arith in rw (e, k) refl

-- plain bytes stand for themselves
plain_same : (bytes : List ℕ) → bytes_text (plain_part bytes) ≡ plain_part bytes
plain_same [] = refl
plain_same (b ∷ bytes) =
    elim (cases_Bool (is_plain b)) [
      | inl e ↦ rw (plain_more b bytes e, e, plain_same bytes) refl
      | inr e ↦ rw e refl
    ]

-- one more part is written
part_on :
    (part rest bytes text done all : List ℕ) → part ++ rest ≡ bytes → bytes_text part ≡ text →
    done ++ bytes_text bytes ≡ all → (done ++ text) ++ bytes_text rest ≡ all
part_on part rest bytes text done all e f whole =
    append_assoc done text (bytes_text rest)
    ∙ ap (λ x. done ++ x) (rw (← f) (sym (flat_map-append byte_text part rest)) ∙ ap bytes_text e)
    ∙ whole

-- one byte more, which is not plain
pub byte_on :
    (b : ℕ) (rest bytes text done all : List ℕ) → bytes ≡ b ∷ rest → is_plain b ≡ false → text ≡ hexadecimal_text b →
    done ++ bytes_text bytes ≡ all → (done ++ text) ++ bytes_text rest ≡ all
byte_on b rest bytes text done all e p t whole =
    let same : bytes_text (b ∷ []) ≡ text = rw p (sym t) in part_on (b ∷ []) rest bytes text done all (sym e) same whole

-- one byte more, which is plain, as a character
pub character_on :
    (b : ℕ) (rest bytes : List ℕ) (character : ℕ) (done all : List ℕ) → bytes ≡ b ∷ rest → is_plain b ≡ true → character ≡ b →
    done ++ bytes_text bytes ≡ all → (done ++ encode_utf8 character) ++ bytes_text rest ≡ all
character_on b rest bytes character done all e p t whole =
    let same : bytes_text (b ∷ []) ≡ encode_utf8 character = rw (p, t) (sym (encode_ascii b (plain_low b p))) in
    part_on (b ∷ []) rest bytes (encode_utf8 character) done all (sym e) same whole

-- nothing is left
pub all_written : (rest done all : List ℕ) → length rest ≡ 0 → done ++ bytes_text rest ≡ all → done ≡ all
all_written [] done all e whole = sym (append-nil done) ∙ whole
all_written (b ∷ rest) done all e whole = absurd (omega arith)

-- what is behind the plain bytes
abbrev pub behind : List ℕ → List ℕ → List ℕ
behind plain bytes = take (length bytes - length plain) (drop (length plain) bytes)

behind_is : (plain bytes : List ℕ) → behind plain bytes ≡ drop (length plain) bytes
behind_is plain bytes =
    take_all (length bytes - length plain) (drop (length plain) bytes) (omega (arith, length-drop (length plain) bytes))

pub plain_on :
    (plain bytes done all : List ℕ) → plain ≡ plain_part bytes → done ++ bytes_text bytes ≡ all →
    (done ++ plain) ++ bytes_text (behind plain bytes) ≡ all
plain_on plain bytes done all e whole =
    let n : length plain ≡ prefix_len is_plain bytes = ap length e ∙ length-prefix_len is_plain bytes in
    let joined : plain ++ behind plain bytes ≡ bytes =
    rw (behind_is plain bytes, n, e) (take-append-drop (prefix_len is_plain bytes) bytes) in
    let same : bytes_text plain ≡ plain = rw e (plain_same bytes) in
    part_on plain (behind plain bytes) bytes plain done all joined same whole

-- a plain byte in front is left behind
pub plain_shorter :
    (plain bytes rest : List ℕ) (b : ℕ) → plain ≡ plain_part bytes → bytes ≡ b ∷ rest → is_plain b ≡ true →
    length (behind plain bytes) < length bytes
plain_shorter plain bytes rest b e f p =
    let front : plain_part bytes ≡ b ∷ plain_part rest = rw f (plain_more b rest p) in
    let some : length plain ≡ suc (length (plain_part rest)) = ap length (e ∙ front) in
    let whole : length bytes ≡ suc (length rest) = ap length f in
    rw (behind_is plain bytes) (omega (arith, length-drop (length plain) bytes))
