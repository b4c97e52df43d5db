use Rattle.std.proofs.Common.{◌≡◌, string_bytes}
use Rattle.std.proofs.lemmas.Result.{IfOk-weaker}
use Rattle.outline.specs.declared.print.Shown.{Shown}
use Rattle.outline.specs.Shown.{show_text}
use Rattle.outline.specs.Whole.{Whole}
use Rattle.outline.proofs.Wholly.{whole_from}
use Rattle.outline.proofs.print.show.Goals as goal

pub returns-clause-whole : goal.returns-clause-whole
returns-clause-whole c =
    let v : Shown = record { form = c.args.form; tree = c.args.tree; number = c.args.number } in
    IfOk-weaker c.to_string.result (λ s. string_bytes s ≡ show_text v) (λ s. Whole v (string_bytes s))
    (λ s. whole_from v (string_bytes s))
    c.to_string.ensures.ok
