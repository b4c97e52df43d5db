use Rattle.std.proofs.Common.{◌≡◌, ℕ, ◌≤◌, List, length, drop, Some, None, sym, ap, ◌∙◌}
use Rattle.std.specs.Option.{unwrap_or, option_map}
use Rattle.literal.specs.Digits.{without}
use Rattle.literal.specs.Floats.{decimal_of}
use Rattle.literal.specs.Numerals.{capped_pair}
use Rattle.literal.specs.declared.float.Decimal.{Decimal}
use Rattle.literal.proofs.Points.{decimal, scan, scan_all, scan_push, scan_end}
use Rattle.literal.proofs.float.read_decimal.Goals as goal

pub returns-in_err-decimal : goal.returns-in_err-decimal
returns-in_err-decimal c =
    c.from_residual.ensures
    ∙ sym (scan_all (without c.args.text.now) ∙ c.loop-b.invariant.0
    ∙ scan_push c.loop-b.decimal c.args.text.now c.loop-b.b-index None c.loop-b-test.true c.if-b-ne95.true c.in_err-decimal.ensures)

-- what the loop ends with
ended : (text : List ℕ) (d : Decimal) (i : ℕ) → length text ≤ i → scan (decimal None None) (without text) ≡ scan d (without (drop i text)) → option_map capped_pair (decimal_of (without text)) ≡ option_map (λ n. (n, unwrap_or d.places 0)) d.digits
ended text d i h e = scan_all (without text) ∙ e ∙ scan_end d text i h

pub returns-in_err-decimal-2 : goal.returns-in_err-decimal-2
returns-in_err-decimal-2 c =
    let h = ended c.args.text.now c.loop-b.decimal c.loop-b.b-index c.loop-b-test.false c.loop-b.invariant.0 in
    c.from_residual-in_err-decimal-2.ensures ∙ sym (h ∙ ap (option_map (λ n. (n, unwrap_or c.loop-b.decimal.places 0))) c.in_err-decimal-2.was)

pub returns : goal.returns
returns c =
    let h = ended c.args.text.now c.loop-b.decimal c.loop-b.b-index c.loop-b-test.false c.loop-b.invariant.0 in
    ap (λ k. Some (c.in_ok-decimal-2.field-0, k)) c.unwrap_or.ensures ∙ sym (h ∙ ap (option_map (λ n. (n, unwrap_or c.loop-b.decimal.places 0))) c.in_ok-decimal-2.was)
