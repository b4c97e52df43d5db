use Rattle.std.proofs.Common.{pos, ap, ◌∙◌}
use Rattle.std.specs.Option.{option_map}
use Rattle.literal.specs.Integers.{integer_number}
use Rattle.literal.proofs.Factors.{within, without_limit}
use Rattle.literal.proofs.integer.parse_integer.Goals as goal

pub returns-in_err-integer_number : goal.returns-in_err-integer_number
returns-in_err-integer_number g c =
    ap (option_map g.N.Number.value) c.from_residual.ensures
    ∙ ap (option_map pos) (without_limit g.N.Number.TOP (integer_number c.args.literal.now) g.met.N.Number.small c.in_err-integer_number.ensures)

pub returns : goal.returns
returns g c =
    c.from_u64.ensures
    ∙ ap (option_map pos) (within g.N.Number.TOP (integer_number c.args.literal.now) g.met.N.Number.small c.integer_number.result c.integer_number.ensures c.in_ok-integer_number.field-0 c.in_ok-integer_number.was)
