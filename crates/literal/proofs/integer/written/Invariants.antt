use Rattle.std.proofs.Common.{◌≡◌, drop, None}
use Rattle.literal.specs.Digits.{without}
use Rattle.literal.proofs.Sums.{reading}
use Rattle.literal.proofs.integer.written.Given as goal

abbrev pub invariant-loop-b : goal.invariant-loop-b
invariant-loop-b l = reading l.base.radix None (without l.text) ≡ reading l.base.radix l.number (without (drop l.b-index l.text))
