use Rattle.refusal.specs.declared.refusal.Refusal.TheVariants.{OutOfPlace}
use Rattle.reader.specs.Contract.{state_of, Finished, Untaken}
use Rattle.reader.proofs.Takes.{finished, sound, unsound, at_place, handed_on}
use Rattle.reader.proofs.reader.Reader.finish.Goals as goal

pub returns-in_err-judge : goal.returns-in_err-judge
returns-in_err-judge c =
    handed_on (λ r. Finished {Y = Unit {0}} c.args.self.now c.peek.new.self r) _
    (finished _ _ _ _ c.in-Some.ensures (unsound (λ _. ⊥) (state_of c.peek.new.self) c.in-Some.event _ _ c.in_err-judge.ensures))
    c.from_residual.result c.from_residual.ensures.1

pub returns : goal.returns
returns c =
    let s = sound (state_of c.peek.new.self) c.in-Some.event _ c.in_ok-judge.ensures in
    finished _ _ _ _ c.in-Some.ensures (at_place OutOfPlace c.in-Some.event c.span.ensures (Untaken.out_of_place s.0 s.1 (λ x. x)))
