use Rattle.std.proofs.Common.{◌≡◌, sym, ◌∙◌, rules}
use Rattle.syntax.specs.Spans.{span_of}
use Rattle.syntax.specs.declared.span.Span.{Span}
use Rattle.refusal.specs.declared.refusal.Refusal.TheVariants.{OutOfPlace, TooDeep}
use Rattle.reader.specs.Symbols.{Fits}
use Rattle.reader.specs.Contract.{state_of, Takes, There, Untaken}
use Rattle.reader.proofs.Takes.{kept_trans, over, not_taken, sound, unsound, at_place, handed_on, fit_span, took}
use Rattle.reader.proofs.reader.Reader.take.Goals as goal

pub returns-in_default : goal.returns-in_default
returns-in_default c =
    let e : c.default.result ≡ span_of 0 0 = search rules in
    rw e (over c.args.mark There c.args.self.now c.peek.new.self c.in_default.ensures)

pub returns-in_err-judge : goal.returns-in_err-judge
returns-in_err-judge c =
    handed_on (λ r. Takes {Y = Span} c.args.mark There c.args.self.now c.peek.new.self r) _
    (not_taken c.args.mark There _ _ _ _ c.in-Some.ensures (unsound (Fits c.args.mark) (state_of c.peek.new.self) c.in-Some.event _ _ c.in_err-judge.ensures))
    c.from_residual.result c.from_residual.ensures.1

pub returns-then-not-fits : goal.returns-then-not-fits
returns-then-not-fits c =
    let s = sound (state_of c.peek.new.self) c.in-Some.event _ c.in_ok-judge.ensures in
    not_taken c.args.mark There _ _ _ _ c.in-Some.ensures (at_place OutOfPlace c.in-Some.event c.span-span.ensures (Untaken.out_of_place s.0 s.1 c.if-not-fits.ensures))

pub returns-then-is_too_deep : goal.returns-then-is_too_deep
returns-then-is_too_deep c =
    let s = sound (state_of c.peek.new.self) c.in-Some.event _ c.in_ok-judge.ensures in
    not_taken c.args.mark There _ _ _ _ c.in-Some.ensures (at_place TooDeep c.in-Some.event c.span-span.ensures (Untaken.too_deep s.0 s.1 c.if-not-fits.ensures (sym c.if-is_too_deep.ensures)))

pub returns : goal.returns
returns c =
    let f = c.if-not-fits.ensures in
    let s = sound (state_of c.peek.new.self) c.in-Some.event _ c.in_ok-judge.ensures in
    record {
      kept = kept_trans c.peek.ensures.kept c.count.ensures.kept;
      outcome = (
        f.0,
        c.span-span.ensures ∙ fit_span c.args.mark c.in-Some.event f,
        took c.args.mark c.args.self.now c.peek.new.self c.count.new.self c.in-Some.event f c.in-Some.ensures c.count.ensures.kept c.count.ensures.place c.count.ensures.last c.count.ensures.opens
            (record { sound = s.0; placed = s.1; shallow = sym c.if-is_too_deep.ensures }),
      );
    }
