use Rattle.std.proofs.Common.{◌+◌, ◌-◌, ◌^◌, min, refl, sym, ap, ◌∙◌, arith}
use Rattle.literal.specs.Escapes.{reading}
use Rattle.literal.proofs.Escaping.{counted_sum}
use Rattle.literal.proofs.unescape.unescape.Goals as goal

pub returns-clause-memory : goal.returns-clause-memory
returns-clause-memory c =
    let u = c.args.out.now.used in
    let bytes = (reading c.args.text.now).bytes in
    record {
      items = c.decode-result.ensures.items;
      used = c.saturating_add-out.ensures ∙ ap (λ k. min (u + k) (2 ^ 64 - 1)) c.decode-result.ensures.count ∙ sym (counted_sum u bytes (omega (arith, c.well_formed)));
      same = refl;
    }
