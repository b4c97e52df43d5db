-- The labels of literals.
use Rattle.std.specs.Prelude.{pos, Float}
use Rattle.syntax.specs.declared.span.Span.{Span}
use Rattle.literal.specs.declared.regexp.Regexp.{Regexp}
use Rattle.tree.specs.Labels.{Label, no_flags, no_name, zero_float}
use Rattle.tree.specs.Labels.Name.{in_source}
use Rattle.tree.specs.declared.node.NodeKind.TheVariants as kind
use Rattle.grammar.specs.Nodes.{regexp_flags}

abbrev pub float_label : Float → Span → Label
float_label x s =
    record { kind = kind.LiteralFloat; span = s; name = no_name; value = pos 0; flags = no_flags; float = x }

abbrev pub regexp_label : Regexp → Span → Label
regexp_label r s =
    record { kind = kind.Regexp; span = s; name = in_source r.body; value = pos 0; flags = regexp_flags r; float = zero_float }
