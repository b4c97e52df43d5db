use Rattle.std.proofs.Common.{true, ◌≡◌, ap}
use Rattle.syntax.specs.declared.span.Span.{Span}
use Rattle.reader.specs.declared.mark.Mark.TheVariants.{Token}
use Rattle.reader.specs.Symbols.Sym.{one}
use Rattle.reader.specs.Contract.{Parses}
use Rattle.reader.proofs.Takes.{name_refusal, token_read, token_refused, failed, handed_on}
use Rattle.reader.proofs.reader.Reader.identifier.Goals as goal

pub returns-in_err-span : goal.returns-in_err-span
returns-in_err-span c =
    handed_on (λ r. Parses {Y = Span} true (one (Token c.args.kind)) (λ s y. y ≡ s) c.args.self.now c.expect.new.self r) _
    (record { kept = c.expect.ensures.kept; outcome = failed (Token c.args.kind) _ _ _ c.in_err-span.ensures.outcome })
    c.from_residual.result c.from_residual.ensures.1

pub returns-in_err-get_source_str : goal.returns-in_err-get_source_str
returns-in_err-get_source_str c =
    let t = c.in_ok-span.ensures.outcome in
    let why = name_refusal c.args.self.now.source.now _ c.args.kind t.0 _ _ c.requires (ap (λ r. r.now) c.expect.ensures.kept.source) t.1 c.in_err-get_source_str.ensures.value in
    handed_on (λ r. Parses {Y = Span} true (one (Token c.args.kind)) (λ s y. y ≡ s) c.args.self.now c.expect.new.self r) _
    (record { kept = c.expect.ensures.kept; outcome = token_refused c.args.kind t.0 _ c.args.self.now c.expect.new.self why t.2 })
    c.from_residual-in_err-get_source_str.result c.from_residual-in_err-get_source_str.ensures.1

pub returns : goal.returns
returns c =
    let t = c.in_ok-span.ensures.outcome in
    let fine = name_refusal c.args.self.now.source.now _ c.args.kind t.0 _ _ c.requires (ap (λ r. r.now) c.expect.ensures.kept.source) t.1 c.in_ok-get_source_str.ensures.value in
    record {
      kept = c.expect.ensures.kept;
      outcome =
          record {
            value = t.0;
            read = token_read c.args.kind t.0 c.args.self.now c.expect.new.self fine t.2;
            fresh = tt;
            post = t.1;
          };
    }
