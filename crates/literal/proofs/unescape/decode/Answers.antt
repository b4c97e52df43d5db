use Rattle.std.proofs.Common.{◌≡◌, ◌-◌, length, get_or, Some, sym, ap, ◌∙◌, subst, arith}
use Rattle.literal.specs.declared.unescape.Step.TheVariants.{Emit, Go}
use Rattle.literal.specs.Machine.{step_of, Small, SmallStep}
use Rattle.literal.proofs.Escaping.{went, emitted, bad_at, cut_at, whole}
use Rattle.literal.proofs.unescape.decode.Goals as goal
use Rattle.literal.proofs.unescape.decode.Goals.{in-Go, in-Emit}

pub loop-i-preserved : goal.loop-i-preserved
loop-i-preserved c = elim c.match-step-2.branch [
  | in-Go w ↦ let e : Some (Go w.in-Go.next) ≡ step_of c.loop-i.state (get_or c.args.text.now c.loop-i.i 0) = ap Some (sym w.in-Go.is) ∙ c.in-Some.ensures.value in
      let z : Small w.in-Go.next = subst SmallStep w.in-Go.is c.in-Some.ensures.small in
      rw (w.state-is, w.n-is, w.items-is) (went _ _ _ _ w.in-Go.next _ _ c.loop-i.i c.loop-i-test.true c.loop-i.invariant e z)
  | in-Emit w ↦ let e : Some (Emit w.in-Emit.byte) ≡ step_of c.loop-i.state (get_or c.args.text.now c.loop-i.i 0) = ap Some (sym w.in-Emit.is) ∙ c.in-Some.ensures.value in
      rw (w.state-is, w.n-is, w.items-is) (emitted _ _ _ _ _ _ _ _ c.loop-i.i c.loop-i-test.true c.loop-i.invariant e w.write.ensures)
]

pub returns-in_default-state : goal.returns-in_default-state
returns-in_default-state c =
    let l : length c.args.text.now ≡ c.loop-i.i = omega arith in
    let e = cut_at _ _ _ _ _ c.loop-i.state c.loop-i.i (length c.args.text.now - c.held-in_default-state.result) l c.loop-i.invariant (omega (arith, l, c.held-in_default-state.ensures)) c.in_default-state.not-Plain in
    record { value = e.value; items = e.memory; count = e.count }

pub returns-in_default : goal.returns-in_default
returns-in_default c =
    let e = bad_at _ _ _ _ _ c.loop-i.state c.loop-i.i (c.loop-i.i - c.held.result) c.loop-i-test.true c.loop-i.invariant (ap (λ k. c.loop-i.i - k) c.held.ensures) (sym c.in_default.is ∙ c.step.ensures.value) in
    record { value = e.value; items = e.memory; count = e.count }

pub returns-in-Plain : goal.returns-in-Plain
returns-in-Plain c =
    let e = whole _ _ _ _ _ c.loop-i.state c.loop-i.i c.loop-i-test.false c.loop-i.invariant c.in-Plain.is in
    record { value = e.value; items = e.memory; count = e.count }
