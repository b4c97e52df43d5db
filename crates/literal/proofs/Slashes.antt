-- What the searches in text find, in the words of the definitions.
use Rattle.std.proofs.Common.{◌≡◌, ℕ, suc, ◌<◌, false, eqb, List, [], ◌∷◌, ◌++◌, length, get_or, take, drop, IfSome, MatchOption, Some, None, Option, Bor, sym, refl, ap, ◌∙◌, arith, take-append-drop, ne_eqb}
use Rattle.std.specs.Option.{option_map, option_and_then}
use Rattle.std.specs.Str.{NoCharPasses}
use Rattle.std.specs.Str.Pattern.{FindsCharPrefix, RFindsChar, CutsPrefixes, IsFullyTrimmed, StripsPrefix, SplitsAroundMatch}
use Rattle.std.proofs.lemmas.Str.Pattern.{NoCharPasses-char, drop_at_char, strip_prefix_char}
use Rattle.literal.specs.Digits.{without}
use Rattle.literal.specs.Integers.{behind}
use Rattle.literal.specs.Numerals.{next}
use Rattle.literal.specs.Regexps.{last_slash, closing, has}

-- ---- underscores in front

trimmed : (s r ns : List ℕ) → CutsPrefixes (FindsCharPrefix 95) s ns r → without s ≡ without r
trimmed s r [] e = sym (ap without e)
trimmed s r (n ∷ ns) h = trimmed s h.0 ns h.1 ∙ ap without (drop_at_char 95 h.0 0 n h.2 (omega arith)) ∙ sym (ap without h.3)

no_front : (r : List ℕ) (o : Option ℕ) → FindsCharPrefix 95 r o → IfSome o (λ n. n ≡ 0) → (rest : List ℕ) → r ≡ 95 ∷ rest → ⊥
no_front r None h z rest e = strip_prefix_char 95 r None h (omega arith) rest e
no_front r (Some n) h z rest e = omega (arith, h.ends)

next_is : (letter : ℕ) (r : List ℕ) (x : Option (Bor (List ℕ))) → ((rest : List ℕ) → r ≡ 95 ∷ rest → ⊥) → MatchOption x ((rest : List ℕ) → r ≡ letter ∷ rest → ⊥) (λ x. r ≡ letter ∷ x.now) → option_map (λ x. without x.now) x ≡ next letter (without r)
next_is letter r (Some x) n e = let z = n x.now in grind arith
next_is letter [] None n h = refl
next_is letter (b ∷ bs) None n h = let y = n bs in let z = h bs in grind arith

pub letter_behind : (letter : ℕ) (text r : List ℕ) (x : Option (Bor (List ℕ))) → letter < 128 → ((ns : List ℕ) × CutsPrefixes (FindsCharPrefix 95) text ns r) × IsFullyTrimmed (FindsCharPrefix 95) r → MatchOption x (FindsCharPrefix letter r None) (λ x. StripsPrefix (FindsCharPrefix letter) r x.now) → option_map (λ x. without x.now) x ≡ next letter (without text)
letter_behind letter text r x l h m =
    next_is letter r x (no_front r h.1.0 h.1.1 h.1.2) (strip_prefix_char letter r x m l) ∙ ap (next letter) (sym (trimmed text r h.0.0 h.0.1))

-- behind a zero and a letter, one after the other
pub both : (c : ℕ) (w : List ℕ) → option_and_then (next c) (next 48 w) ≡ behind c w
both c [] = refl
both c (a ∷ []) = grind arith
both c (a ∷ b ∷ bs) = grind arith

-- ---- the last slash

pub no_slash : (xs : List ℕ) → has 47 xs ≡ false → last_slash xs ≡ None
no_slash [] e = refl
no_slash (x ∷ xs) e = grind (arith, no_slash xs)

free : (c : ℕ) (bs : List ℕ) → ((i : ℕ) → i < length bs → get_or bs i 0 ≡ c → ⊥) → has c bs ≡ false
free c [] h = refl
free c (b ∷ bs) h =
    let u = ne_eqb b c (h 0 (omega arith)) in
    rw u (free c bs (λ i l. h (suc i) (omega arith)))

lacks : (c : ℕ) (bs : List ℕ) → NoCharPasses (λ d. eqb d c) bs → c < 128 → has c bs ≡ false
lacks c bs h l = free c bs (λ i. NoCharPasses-char c bs i h l)

pub unopened : (re : List ℕ) → ((rest : List ℕ) → re ≡ 47 ∷ rest → ⊥) → closing re ≡ None
unopened [] h = refl
unopened (b ∷ bs) h = let z = h bs in grind arith

-- a slash, what stands before the last one behind it, that one, and what stands behind
abbrev pub Parts : List ℕ → Option (Bor (List ℕ) × Bor (List ℕ)) → Type 0
Parts re x = MatchOption x (closing re ≡ None) (λ p. (re ≡ 47 ∷ (p.0.now ++ 47 ∷ p.1.now)) × (has 47 p.1.now ≡ false))

pub parts : (re rest : List ℕ) (x : Option (Bor (List ℕ) × Bor (List ℕ))) → re ≡ 47 ∷ rest → MatchOption x (RFindsChar 47 rest None) (λ p. SplitsAroundMatch (RFindsChar 47) rest p.0.now p.1.now) → Parts re x
parts re rest None e h = ap closing e ∙ ap (option_map suc) (no_slash rest (lacks 47 rest h (omega arith)))
parts re rest (Some p) e h =
    let d = drop_at_char 47 rest h.0 h.1 h.2.1 (omega arith) in
    let w : rest ≡ p.0.now ++ 47 ∷ p.1.now = sym (take-append-drop h.0 rest) ∙ ap (λ l. take h.0 rest ++ l) d ∙ ap (λ l. l ++ 47 ∷ drop h.1 rest) (sym h.3) ∙ ap (λ l. p.0.now ++ 47 ∷ l) (sym h.4) in
    (e ∙ ap (λ l. 47 ∷ l) w, ap (has 47) h.4 ∙ lacks 47 (drop h.1 rest) h.2.0 (omega arith))
