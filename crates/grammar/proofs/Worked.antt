use Rattle.std.proofs.Common.{refl}
use Rattle.literal.specs.Escapes.{reading_from}
use Rattle.literal.specs.Utf8.{valid_from}
use Rattle.operators.specs.Groups.{grouped}
use Rattle.operators.specs.Levels.{level_of}
use Rattle.operators.specs.Merges.{tree_of}
use Rattle.operators.specs.Nodes.{node_of, merging_of}
use Rattle.grammar.specs.Built.{tree-BE}
use Rattle.grammar.specs.Tests.{token_refusal, minus_refusal}
use Rattle.grammar.specs.Examples.{Examples}

pub examples : Examples
unfolding tree-BE token_refusal minus_refusal level_of node_of merging_of grouped tree_of valid_from reading_from
examples =
    record {
      from_the_right = refl;
      from_the_left = refl;
      in_parentheses = refl;
      chain = refl;
      unsigned = refl;
      signed = refl;
      least = refl;
      too_small = refl;
      zero = refl;
      hexadecimal = refl;
      octal = refl;
      escape = refl;
      exact = refl;
      long = refl;
    }
