use Rattle.std.proofs.Common.{◌≡◌, true, Some}
use Rattle.operators.specs.Levels.{level_of, is_operator, strength}
use Rattle.operators.proofs.Exists.{each_map, one_grouping_lem}
use Rattle.operators.proofs.Table.{strength_level}
use Rattle.operators.proofs.laws.one_grouping_by_table.Goals as goal

pub returns : goal.returns
returns g c =
    λ x e. record {
      levels = each_map (λ o. is_operator o ≡ true) (λ o. level_of o ≡ Some (strength o)) strength_level x e;
      one = one_grouping_lem strength x;
    }
