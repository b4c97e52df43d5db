-- The nodes of a condition's tree.
use Rattle.std.specs.Prelude.{ℕ, Bool, false, List, pos, Ok, Err, Result, Float}
use Rattle.std.specs.Option.{unwrap_or}
use Rattle.syntax.specs.Spans.{combined}
use Rattle.syntax.specs.declared.span.Span.{Span}
use Rattle.refusal.specs.declared.refusal.Refusal.{Refusal}
use Rattle.literal.specs.declared.integer.Integer.{Integer}
use Rattle.literal.specs.declared.regexp.Regexp.{Regexp}
use Rattle.literal.specs.declared.string.StringValue.{StringValue}
use Rattle.literal.specs.declared.string.StringValue.TheVariants.{Source, Decoded}
use Rattle.tree.specs.Labels.{Label, Flags, Name, plain, no_flags, no_name, zero_float}
use Rattle.tree.specs.Labels.Name.{in_source, decoded}
use Rattle.tree.specs.Trees.{Tree, Trees, label_at, behind}
use Rattle.tree.specs.Trees.Tree.{node}
use Rattle.tree.specs.Trees.Trees.{none, more}
use Rattle.tree.specs.declared.node.NodeKind.{NodeKind}
use Rattle.tree.specs.declared.node.NodeKind.TheVariants.{Blank, LiteralString, LiteralInteger, LiteralFloat, FieldAccess}
use Rattle.tree.specs.declared.node.NodeKind.TheVariants as kind
use Rattle.operators.specs.Levels.{strength}
use Rattle.operators.specs.Nodes.{node_of, merging_of}
use Rattle.operators.specs.Merges.{Making}
use Rattle.grammar.specs.Words.{Operator}

abbrev pub span_of_tree : Tree → Span
span_of_tree t = (label_at t).span

-- from a place to the end of a tree, and from a tree's start to a place
abbrev pub up_to : Span → Tree → Span
up_to s t = combined s (span_of_tree t)

-- a node with no name, and one with nothing below it
abbrev pub leaf : NodeKind → Span → Tree
leaf k s = node (plain k s) none

-- a label with a name in the source
abbrev pub named : NodeKind → Span → Span → Label
named k s name =
    record { kind = k; span = s; name = in_source name; value = pos 0; flags = no_flags; float = zero_float }

-- a node named by its token
abbrev pub name_leaf : NodeKind → Span → Tree
name_leaf k s = node (named k s s) none

abbrev pub alone : Tree → Trees
alone t = more t none

-- an operator in front of an operand
abbrev pub unary : NodeKind → Span → Tree → Tree
unary k s t = node (plain k (up_to s t)) (alone t)

-- a label up to the end of another
abbrev pub longer : Label → Label → Label
longer l r = record { kind = l.kind; span = combined l.span r.span; name = l.name; value = l.value; flags = l.flags; float = l.float }

-- a further operand behind the others, up to whose end the node reaches
abbrev pub further : Tree → Tree → Tree
further (node l ts) t = node (longer l (label_at t)) (behind ts t)

-- how operators make and merge nodes
abbrev pub making : Making Tree Operator
making =
    record {
      kind_at = λ t. (label_at t).kind;
      merging = λ o. merging_of o.kind;
      above = λ o t. node (plain (unwrap_or (node_of o.kind) Blank) (span_of_tree t)) (alone t);
      behind = further;
    }

abbrev pub level_in : Operator → ℕ
level_in o = strength o.kind

-- ---- literals: where one is refused, there is no condition, and the blank stands for it

abbrev pub unsigned_flag : Bool → Flags
unsigned_flag u =
    record { unsigned = u; case_insensitive = false; dot_matches_new_line = false; wildcard = false; object = false }

abbrev pub integer_label : Integer → Span → Label
integer_label i s =
    record { kind = LiteralInteger; span = s; name = in_source i.name; value = i.value; flags = unsigned_flag i.unsigned; float = zero_float }

abbrev pub integer_tree : Result Integer Refusal → Span → Tree
integer_tree (Ok i) s = node (integer_label i s) none
integer_tree (Err e) s = leaf Blank s

abbrev pub float_tree : Result Float Refusal → Span → Tree
float_tree (Ok x) s =
    node (record { kind = LiteralFloat; span = s; name = no_name; value = pos 0; flags = no_flags; float = x }) none
float_tree (Err e) s = leaf Blank s

-- a string's value: a part of the source, or what its escapes stand for
abbrev pub string_name : StringValue → List ℕ → Name
string_name (Source part) bytes = in_source part
string_name (Decoded start len) bytes = decoded bytes

abbrev pub string_tree : Result StringValue Refusal → List ℕ → Span → Tree
string_tree (Ok v) bytes s =
    node (record { kind = LiteralString; span = s; name = string_name v bytes; value = pos 0; flags = no_flags; float = zero_float }) none
string_tree (Err e) bytes s = leaf Blank s

abbrev pub regexp_flags : Regexp → Flags
regexp_flags r =
    record { unsigned = false; case_insensitive = r.case_insensitive; dot_matches_new_line = r.dot_matches_new_line; wildcard = false; object = false }

abbrev pub regexp_tree : Result Regexp Refusal → Span → Tree
regexp_tree (Ok r) s =
    node (record { kind = kind.Regexp; span = s; name = in_source r.body; value = pos 0; flags = regexp_flags r; float = zero_float }) none
regexp_tree (Err e) s = leaf Blank s

abbrev pub wildcard_flag : Bool → Flags
wildcard_flag w =
    record { unsigned = false; case_insensitive = false; dot_matches_new_line = false; wildcard = w; object = false }

abbrev pub object_flag : Bool → Flags
object_flag o =
    record { unsigned = false; case_insensitive = false; dot_matches_new_line = false; wildcard = false; object = o }
