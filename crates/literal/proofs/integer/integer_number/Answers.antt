use Rattle.std.proofs.Common.{◌≡◌, ℕ, ◌-◌, ◌*◌, ◌^◌, ◌<◌, List, Some, None, Option, sym, ap, ◌∙◌, subst}
use Rattle.std.specs.Option.{SomeIff}
use Rattle.literal.specs.Digits.{up_to, written, without}
use Rattle.literal.specs.Integers.{before, factor, plain_number}
use Rattle.literal.proofs.Factors.{factor_pos, scaled_none, scaled_some}
use Rattle.literal.proofs.integer.integer_number.Goals as goal

-- the number before the suffix, as the calls found it
plain : (literal text digits : List ℕ) (radix : ℕ) (r : Option ℕ) → text ≡ before literal → plain_number text ≡ written radix (without digits) → r ≡ up_to (2 ^ 64 - 1) (written radix (without digits)) → up_to (2 ^ 64 - 1) (plain_number (before literal)) ≡ r
plain literal text digits radix r e p w = ap (λ t. up_to (2 ^ 64 - 1) (plain_number t)) (sym e) ∙ ap (up_to (2 ^ 64 - 1)) p ∙ sym w

pub returns-in_err-written : goal.returns-in_err-written
returns-in_err-written c =
    c.from_residual.ensures
    ∙ sym (scaled_none (plain_number (before c.args.literal.now)) (factor c.args.literal.now) (factor_pos c.args.literal.now)
    (plain c.args.literal.now c.strip_size_suffix-factor.result.0.now c.as_bytes.result.now c.split_base.result.1.radix None c.strip_size_suffix-factor.ensures.value.0 (c.split_base.ensures ∙ ap (λ (l : List ℕ). written c.split_base.result.1.radix (without l)) (sym c.as_bytes.ensures.value)) c.in_err-written.ensures))

pub returns : goal.returns
returns c =
    let f = c.strip_size_suffix-factor.ensures.value.1 in
    let n = c.in_ok-written.field-0 in
    scaled_some (plain_number (before c.args.literal.now)) c.checked_mul.result n (factor c.args.literal.now)
    (plain c.args.literal.now c.strip_size_suffix-factor.result.0.now c.as_bytes.result.now c.split_base.result.1.radix (Some n) c.strip_size_suffix-factor.ensures.value.0 (c.split_base.ensures ∙ ap (λ (l : List ℕ). written c.split_base.result.1.radix (without l)) (sym c.as_bytes.ensures.value)) c.in_ok-written.ensures)
    (subst (λ k. SomeIff c.checked_mul.result (n * k < 2 ^ 64) (n * k)) f c.checked_mul.ensures)
