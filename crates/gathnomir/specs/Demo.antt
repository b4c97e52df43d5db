-- The tree of b - c.
use Rattle.std.specs.Prelude.{pos}
use Rattle.syntax.specs.declared.span.Span.{Span}
use Rattle.syntax.specs.Spans.{span_of}
use Rattle.tree.specs.declared.node.NodeKind.{NodeKind}
use Rattle.tree.specs.declared.node.NodeKind.TheVariants.{Ident, Sub}
use Rattle.tree.specs.Labels.{Label, plain, no_flags, zero_float}
use Rattle.tree.specs.Labels.Name.{in_source}
use Rattle.tree.specs.Trees.{Tree}
use Rattle.tree.specs.Trees.Tree.{node}
use Rattle.tree.specs.Trees.Trees.{none, more}

-- a node whose name is all of its text
abbrev pub with_name : NodeKind → Span → Label
with_name k s = record { kind = k; span = s; name = in_source s; value = pos 0; flags = no_flags; float = zero_float }

abbrev pub inner_tree : Tree
inner_tree =
    node (plain Sub (span_of 5 10))
    (more (node (with_name Ident (span_of 5 6)) none) (more (node (with_name Ident (span_of 9 10)) none) none))
