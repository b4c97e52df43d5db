-- What is written of a tree that slots hold.
use Rattle.std.specs.Prelude.{ℕ, zero, suc, ◌+◌, ◌-◌, ◌/◌, ◌%◌, ◌^◌, min, Bool, false, cond, not, ◌&&◌, List, [], ◌∷◌, ◌++◌, ℤ, Some, None, codes, decimal, Option, ◌==◌, nat_le}
use Rattle.std.proofs.Common.{of_z}
use Rattle.std.specs.Int.{w64}
use Rattle.std.specs.List.{flat_map, repeat}
use Rattle.std.specs.Fmt.{digit_glyph, signed_decimal}
use Rattle.std.specs.List.{slice_get}
use Rattle.syntax.specs.declared.span.Span.{Span}
use Rattle.tree.specs.declared.node.NodeKind.TheVariants.{LiteralFloat}
use Rattle.outline.specs.declared.print.Form.{Form}
use Rattle.outline.specs.declared.print.Form.TheVariants.{Outline, Line}
use Rattle.outline.specs.declared.print.Shown.{Shown}
use Rattle.tree.specs.declared.slot.Slot.{Slot}
use Rattle.tree.specs.Kinds.{name_of, same}
use Rattle.tree.specs.Parts.{cut}
use Rattle.tree.specs.Reads.{Leaf, has, leaf_in, reading_of}
use Rattle.tree.specs.Reads.Leaf.{name, string, regexp, number}

-- a character that stands for itself: ASCII from the blank to the tilde, but no quote and no backslash
abbrev pub is_plain : ℕ → Bool
is_plain b = nat_le 32 b && (nat_le b 126 && (not (b == 34) && not (b == 92)))

-- a byte as \x and two digits
abbrev pub hexadecimal_text : ℕ → List ℕ
hexadecimal_text b = 92 ∷ 120 ∷ digit_glyph false (b / 16) ∷ digit_glyph false (b % 16) ∷ []

-- a byte as it is, or in hexadecimal
abbrev pub byte_text : ℕ → List ℕ
byte_text b = cond (is_plain b) (b ∷ []) (hexadecimal_text b)

abbrev pub bytes_text : List ℕ → List ℕ
bytes_text bytes = flat_map byte_text bytes

-- a text, or nothing where a flag is not set
abbrev pub flagged : Bool → List ℕ → List ℕ
flagged flag text = cond flag text []

-- a number in decimal, with its sign or as its 64 bits without one
abbrev pub number_text : ℤ → Bool → List ℕ
number_text v unsigned = codes " " ++ cond unsigned (decimal (of_z w64 v)) (signed_decimal v)

abbrev pub place_text : Span → List ℕ
place_text p = codes " " ++ (decimal p.start ++ (codes ".." ++ decimal p.end))

-- what a slot says by bytes
abbrev pub content_text : Leaf → List ℕ
content_text (name bytes) = codes " " ++ bytes_text bytes
content_text (string origin bytes place) = codes " \"" ++ (bytes_text bytes ++ codes "\"")
content_text (regexp bytes i s) =
    codes " /" ++ (bytes_text bytes ++ (codes "/" ++ (flagged i (codes "i") ++ flagged s (codes "s"))))
content_text (number value unsigned bytes) = number_text value unsigned

-- a wildcard, and that a call has an object
abbrev pub flag_text : Slot → List ℕ
flag_text s = flagged (has 8 s) (codes "*") ++ flagged (has 16 s) (codes " method")

abbrev pub part_text : Option (List ℕ) → List ℕ
part_text None = []
part_text (Some bytes) = codes " " ++ bytes_text bytes

-- a float as the source has it
abbrev pub float_text : Slot → List ℕ → List ℕ
float_text s source = cond (same s.kind LiteralFloat) (part_text (cut source s.span)) []

abbrev pub said_in : Option Leaf → List ℕ → List ℕ
said_in (Some l) other = content_text l
said_in None other = other

abbrev pub said_text : Slot → List ℕ → List ℕ → List ℕ
said_text s source decoded = said_in (leaf_in (reading_of s.kind) s source decoded) (float_text s source)

-- an outline has places
abbrev pub place_in : Form → Slot → List ℕ
place_in Outline s = place_text s.span
place_in Line s = []

-- all of a slot but its links
abbrev pub label_text : Shown → Slot → List ℕ
label_text v s =
    name_of s.kind ++ (place_in v.form s ++ (said_text s v.tree.source.now v.tree.text.now ++ flag_text s))

abbrev pub spaces : ℕ → List ℕ
spaces n = repeat n (codes "  ")

-- an outline is indented by depth
abbrev pub indent_text : Form → ℕ → List ℕ
indent_text Outline depth = spaces depth
indent_text Line depth = []

abbrev pub node_text : Shown → ℕ → Slot → List ℕ
node_text v depth s = indent_text v.form depth ++ label_text v s

-- a link that does not lead where it has to
abbrev pub broken_text : Shown → ℕ → ℕ → List ℕ
broken_text v depth link = indent_text v.form depth ++ (codes "<broken link " ++ (decimal link ++ codes ">"))

-- before the trees below a node, behind them, and between two
abbrev pub enter_text : Form → List ℕ
enter_text Outline = codes "\n"
enter_text Line = codes "("

abbrev pub leave_text : Form → List ℕ
leave_text Outline = codes ""
leave_text Line = codes ")"

abbrev pub separator : Form → List ℕ
separator Outline = codes "\n"
separator Line = codes ", "

abbrev pub between_text : Shown → ℕ → List ℕ
between_text v zero = []
between_text v (suc next) = separator v.form

abbrev pub wrapped : Shown → ℕ → List ℕ → List ℕ
wrapped v zero trees = []
wrapped v (suc first) trees = enter_text v.form ++ (trees ++ leave_text v.form)

-- a tree and the others behind it, or a link that is broken
abbrev pub trees_at : Shown → ℕ → ℕ → Option Slot → (Slot → List ℕ) → (Slot → List ℕ) → List ℕ
trees_at v depth link None children siblings = broken_text v depth link
trees_at v depth link (Some s) children siblings =
    node_text v depth s ++ (wrapped v s.first (children s) ++ (between_text v s.next ++ siblings s))

-- the trees that a link leads to. It has to lead to one of the slots that links above `low` and up to `top` lead to:
-- children come before their parent and behind the siblings before them, so that no slot is shown twice.
-- `room` is how many links can follow one another there.
abbrev pub trees_text : Shown → ℕ → ℕ → ℕ → ℕ → ℕ → List ℕ
trees_text v room depth low top zero = []
trees_text v zero depth low top (suc n) = broken_text v depth (suc n)
trees_text v (suc room) depth low top (suc n) =
    trees_at v depth (suc n) (cond (nat_le low n && nat_le (suc n) top) (slice_get v.tree.slots.now n) None)
    (λ s. trees_text v room (depth + 1) low n s.first)
    (λ s. trees_text v room depth (suc n) top s.next)

-- the trees below a node whose slot is the one behind link `top`
abbrev pub below_text : Shown → ℕ → ℕ → ℕ → ℕ → List ℕ
below_text v depth low top first = wrapped v first (trees_text v (top - low) (depth + 1) low top first)

-- a node whose slot is the one behind link `top`, and the trees below it
abbrev pub tree_text : Shown → ℕ → ℕ → ℕ → Slot → List ℕ
tree_text v depth low top s = node_text v depth s ++ below_text v depth low top s.first

abbrev pub show_at : Shown → Option Slot → List ℕ
show_at v None = broken_text v 0 (min (v.number + 1) (2 ^ 64 - 1))
show_at v (Some s) = tree_text v 0 0 v.number s

-- the tree that the slot of that number holds
abbrev pub show_text : Shown → List ℕ
show_text v = show_at v (slice_get v.tree.slots.now v.number)
