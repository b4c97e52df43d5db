use Rattle.std.proofs.Common.{◌≡◌, ◌≤◌, drop, IfSome, None}
use Rattle.literal.specs.Digits.{without}
use Rattle.literal.proofs.Points.{scan, decimal}
use Rattle.literal.proofs.float.read_decimal.Given as goal

abbrev pub invariant-loop-b : goal.invariant-loop-b
invariant-loop-b l = (scan (decimal None None) (without l.text) ≡ scan l.decimal (without (drop l.b-index l.text))) × IfSome l.decimal.places (λ k. k ≤ l.b-index)
