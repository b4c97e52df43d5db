-- A node without its links, and the slot that holds it.
use Rattle.std.specs.Prelude.{ℕ, ◌+◌, Bool, true, false, cond, List, [], length, ℤ, pos, from_bits, Float}
use Rattle.std.specs.Float.{binary64}
use Rattle.syntax.specs.declared.span.Span.{Span}
use Rattle.syntax.specs.Spans.{span_of}
use Rattle.tree.specs.declared.node.NodeKind.{NodeKind}
use Rattle.tree.specs.declared.node.NodeKind.TheVariants.{Blank}
use Rattle.tree.specs.declared.slot.Slot.{Slot}

-- what a node says beside its kind: an unsigned number; a regexp's modifiers i and s; a wildcard behind a set item; a call
-- on an object
pub record Flags : Type 0 where
  pub unsigned : Bool
  pub case_insensitive : Bool
  pub dot_matches_new_line : Bool
  pub wildcard : Bool
  pub object : Bool

abbrev pub no_flags : Flags
no_flags =
    record { unsigned = false; case_insensitive = false; dot_matches_new_line = false; wildcard = false; object = false }

-- a name, a number's text, a regexp's body or a string's value: a part of the source, or the bytes that escapes stand for
pub data Name : Type 0 where
  in_source : Span → Name
  decoded : List ℕ → Name

-- a node with nothing of the kind
abbrev pub no_name : Name
no_name = in_source (span_of 0 0)

-- all of a node but its links
pub record Label : Type 0 where
  pub kind : NodeKind
  pub span : Span
  pub name : Name
  pub value : ℤ
  pub flags : Flags
  pub float : Float

-- the float of which all bits are zero
abbrev pub zero_float : Float
zero_float = from_bits binary64 0

-- a node of which only kind and place are told
abbrev pub plain : NodeKind → Span → Label
plain k s =
    record { kind = k; span = s; name = no_name; value = pos 0; flags = no_flags; float = zero_float }

-- the bytes that a name adds to the decoded text
abbrev pub own_text : Name → List ℕ
own_text (in_source s) = []
own_text (decoded bytes) = bytes

abbrev pub is_decoded : Name → Bool
is_decoded (in_source s) = false
is_decoded (decoded bytes) = true

-- where a name stands, if the decoded text goes on from c
abbrev pub place_of : Name → ℕ → Span
place_of (in_source s) c = s
place_of (decoded bytes) c = span_of c (c + length bytes)

abbrev pub bit : ℕ → Bool → ℕ
bit n b = cond b n 0

-- flags as a number; the last says that the name is in the decoded text
abbrev pub flag_number : Flags → Bool → ℕ
flag_number f in_text =
    bit 1 f.unsigned + bit 2 f.case_insensitive + bit 4 f.dot_matches_new_line + bit 8 f.wildcard
    + bit 16 f.object
    + bit 32 in_text

-- the slot of a node whose own text starts at c, with its links
abbrev pub slot_of : Label → ℕ → ℕ → ℕ → Slot
slot_of l c child sibling =
    record {
      span = l.span;
      name = place_of l.name c;
      first = child;
      next = sibling;
      value = l.value;
      float = l.float;
      kind = l.kind;
      flags = flag_number l.flags (is_decoded l.name);
    }

-- what an unused slot holds
abbrev pub blank_slot : Slot
blank_slot = slot_of (plain Blank (span_of 0 0)) 0 0 0
