use Rattle.std.proofs.Common.{ap, ◌∙◌, rules, tests}
use Rattle.std.specs.Str.{valid_up_to}
use Rattle.literal.specs.Texts.{well_formed}
use Rattle.literal.proofs.Cuts.{read_as}
use Rattle.literal.proofs.text.get_source_str.Goals as goal

pub returns-clause-value : goal.returns-clause-value
returns-clause-value c =
    read_as valid_up_to _ c.get_source.result.now c.args.span c.from_utf8.result c.map_err.result c.from_utf8.ensures.cases c.map_err.ensures.cases (λ e x k. search (rules, tests))
    ∙ ap (λ bs. well_formed bs c.args.span) c.get_source.ensures
