use Rattle.std.proofs.Common.{◌≡◌, ℕ, zero, suc, ◌+◌, ◌-◌, ◌*◌, ◌<◌, ◌≤◌, true, nat_lt, get_or, List, take, drop, refl, ap, ◌∙◌, arith}
use Rattle.std.specs.List.{flat_map, range_with_len}
use Rattle.std.specs.Str.{IsAscii, IsCharBoundary}
use Rattle.std.proofs.lemmas.Bool.Decides.{nat_tests}
use Rattle.std.proofs.lemmas.List.Sums.{AllPass-from_list_all}
use Rattle.std.proofs.lemmas.Str.{IsCharBoundary-from_ascii}
use Rattle.std.proofs.lemmas.Str.Ascii.{IsAscii-from_all}
use Rattle.outline.specs.Shown.{hexadecimal_text}
use Rattle.outline.proofs.leaf.hexadecimal.Goals as goal

-- the texts of the n bytes from a on
abbrev texts : ℕ → ℕ → List ℕ
texts a n = flat_map hexadecimal_text (range_with_len a n)

four_at : (a n k : ℕ) → k < n → take 4 (drop (4 * k) (texts a n)) ≡ hexadecimal_text (a + k)
four_at a zero k h = absurd (omega arith)
four_at a (suc n) zero h = let e : a + 0 ≡ a = omega arith in rw e refl
four_at a (suc n) (suc k) h =
    let e : 4 * suc k ≡ suc (suc (suc (suc (4 * k)))) = omega arith in
    let f : (a + 1) + k ≡ a + suc k = omega arith in rw e (four_at (a + 1) n k (omega arith) ∙ ap hexadecimal_text f)

below : (b : ℕ) → nat_lt b 128 ≡ true → b < 128
below b e = grind (arith, nat_tests)

low : IsAscii (texts 0 256)
low = IsAscii-from_all (texts 0 256) (λ k d h. below (get_or (texts 0 256) k d) (AllPass-from_list_all (λ b. nat_lt b 128) (texts 0 256) refl k d h))

boundary : (i : ℕ) → i ≤ 1024 → IsCharBoundary (texts 0 256) i
boundary i h = IsCharBoundary-from_ascii (texts 0 256) i low h

pub range-requires-clause-start_boundary : goal.range-requires-clause-start_boundary
range-requires-clause-start_boundary c = λ h. boundary (4 * c.from-start.result) (omega arith)

pub range-requires-clause-end_boundary : goal.range-requires-clause-end_boundary
range-requires-clause-end_boundary c = boundary (4 * c.from-start.result + 4) (omega arith)

pub returns : goal.returns
returns c =
    let start : ℕ = 4 * c.from-start.result in
    let h : c.range.result.now ≡ take ((start + 4) - start) (drop start (texts 0 256)) = c.range.ensures.value in
    let four : (start + 4) - start ≡ 4 = omega arith in
    let number : 0 + c.from-start.result ≡ c.args.byte = omega arith in
    h ∙ rw four (four_at 0 256 c.from-start.result (omega arith) ∙ ap hexadecimal_text number)
