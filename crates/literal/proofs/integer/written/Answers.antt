use Rattle.std.proofs.Common.{get_or, None, sym, ap, ◌∙◌, arith}
use Rattle.literal.specs.Digits.{without}
use Rattle.literal.specs.Numerals.{pushed}
use Rattle.literal.proofs.Sums.{reading_all, reading_digit, reading_end}
use Rattle.literal.proofs.integer.written.Goals as goal

pub returns-in_err-push_digit : goal.returns-in_err-push_digit
returns-in_err-push_digit c =
    let text = c.args.text.now in
    let i = c.loop-b.b-index in
    c.from_residual.ensures
    ∙ sym (reading_all c.args.base.radix (without text) (omega arith) ∙ c.loop-b.invariant
    ∙ reading_digit c.args.base.radix c.loop-b.number text i None c.loop-b-test.true c.if-b-ne95.true
    (c.in_err-push_digit.ensures ∙ ap (λ n. pushed c.args.base.radix n (get_or text i 0)) c.unwrap_or.ensures))

pub returns : goal.returns
returns c = sym (reading_all c.args.base.radix (without c.args.text.now) (omega arith) ∙ c.loop-b.invariant ∙ reading_end c.args.base.radix c.loop-b.number c.args.text.now c.loop-b.b-index c.loop-b-test.false)
