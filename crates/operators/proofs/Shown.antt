use Rattle.std.proofs.Common.{ℕ, refl}
use Rattle.operators.specs.Levels.{level_of}
use Rattle.operators.specs.Nodes.{node_of, merging_of}
use Rattle.operators.specs.Groups.{grouped}
use Rattle.operators.specs.Merges.{tree_of}
use Rattle.operators.specs.Shapes.{Shown, name}

pub shown : (a b c : ℕ) → Shown (name a) (name b) (name c)
unfolding level_of node_of merging_of grouped tree_of
shown a b c =
    record {
      plain = refl;
      left = refl;
      right = refl;
      other = λ e. cc;
      dotted = refl;
      compared = refl;
      stronger = refl;
      weaker = refl;
      inner = refl;
      outer = refl;
    }
