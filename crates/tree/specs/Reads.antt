-- What can be read from a slot, whatever the slots hold.
use Rattle.std.specs.Prelude.{◌≡◌, ℕ, zero, suc, ◌+◌, ◌≤◌, Bool, true, false, cond, not, List, length, ℤ, Some, None, Option, ◌==◌, bit_and, Float}
use Rattle.std.specs.Option.{option_map}
use Rattle.std.specs.List.{slice_get}
use Rattle.tree.specs.declared.node.NodeKind.{NodeKind}
use Rattle.tree.specs.declared.node.NodeKind.TheVariants as kind
use Rattle.tree.specs.declared.read.Content.{Content}
use Rattle.tree.specs.declared.read.Content.TheVariants as content
use Rattle.tree.specs.declared.read.Origin.{Origin}
use Rattle.tree.specs.declared.read.Origin.TheVariants.{Source, Decoded}
use Rattle.tree.specs.declared.slot.Slot.{Slot}
use Rattle.tree.specs.Kinds.{same}
use Rattle.tree.specs.Parts.{cut}

-- a content with the bytes of its part
pub data Leaf : Type 0 where
  name : List ℕ → Leaf
  string : Origin → List ℕ → ℕ → Leaf
  regexp : List ℕ → Bool → Bool → Leaf
  number : ℤ → Bool → List ℕ → Leaf

abbrev pub seen : Content → Leaf
seen (content.Name p) = name p.now
seen (content.String o p place) = string o p.now place
seen (content.Regexp p i s) = regexp p.now i s
seen (content.Number v u p) = number v u p.now

-- whether a flag is set
abbrev pub has : ℕ → Slot → Bool
has flag s = not (bit_and s.flags flag == 0)

-- where a string's value stands
abbrev pub origin_of : Slot → Origin
origin_of s = cond (has 32 s) Decoded Source

abbrev pub bytes_of : Origin → List ℕ → List ℕ → List ℕ
bytes_of Source source decoded = source
bytes_of Decoded source decoded = decoded

-- how a kind's name span is read
pub data Reading : Type 0 where
  as_name : Reading
  as_string : Reading
  as_regexp : Reading
  as_number : Reading
  not_read : Reading

abbrev pub reading_of : NodeKind → Reading
reading_of kind.Blank = not_read
reading_of kind.True = not_read
reading_of kind.False = not_read
reading_of kind.Filesize = not_read
reading_of kind.Entrypoint = not_read
reading_of kind.LiteralString = as_string
reading_of kind.LiteralInteger = as_number
reading_of kind.LiteralFloat = not_read
reading_of kind.Regexp = as_regexp
reading_of kind.Ident = as_name
reading_of kind.PatternMatch = as_name
reading_of kind.PatternCount = as_name
reading_of kind.PatternOffset = as_name
reading_of kind.PatternLength = as_name
reading_of kind.Lookup = not_read
reading_of kind.FieldAccess = not_read
reading_of kind.FuncCall = as_name
reading_of kind.Defined = not_read
reading_of kind.Not = not_read
reading_of kind.And = not_read
reading_of kind.Or = not_read
reading_of kind.Minus = not_read
reading_of kind.Add = not_read
reading_of kind.Sub = not_read
reading_of kind.Mul = not_read
reading_of kind.Div = not_read
reading_of kind.Mod = not_read
reading_of kind.BitwiseNot = not_read
reading_of kind.Shl = not_read
reading_of kind.Shr = not_read
reading_of kind.BitwiseAnd = not_read
reading_of kind.BitwiseOr = not_read
reading_of kind.BitwiseXor = not_read
reading_of kind.Eq = not_read
reading_of kind.Ne = not_read
reading_of kind.Lt = not_read
reading_of kind.Gt = not_read
reading_of kind.Le = not_read
reading_of kind.Ge = not_read
reading_of kind.Contains = not_read
reading_of kind.IContains = not_read
reading_of kind.StartsWith = not_read
reading_of kind.IStartsWith = not_read
reading_of kind.EndsWith = not_read
reading_of kind.IEndsWith = not_read
reading_of kind.IEquals = not_read
reading_of kind.Matches = not_read
reading_of kind.Of = not_read
reading_of kind.ForOf = not_read
reading_of kind.ForIn = not_read
reading_of kind.With = not_read
reading_of kind.Range = not_read
reading_of kind.At = not_read
reading_of kind.In = not_read
reading_of kind.QuantifierNone = not_read
reading_of kind.QuantifierAll = not_read
reading_of kind.QuantifierAny = not_read
reading_of kind.QuantifierPercentage = not_read
reading_of kind.QuantifierExpr = not_read
reading_of kind.Them = not_read
reading_of kind.Set = not_read
reading_of kind.SetItem = as_name
reading_of kind.BoolTuple = not_read
reading_of kind.ExprTuple = not_read
reading_of kind.WithDeclaration = as_name

-- the content of a slot: the part of the source or of the decoded text at its name span, if there is such a part
abbrev pub leaf_in : Reading → Slot → List ℕ → List ℕ → Option Leaf
leaf_in as_name s source decoded = option_map name (cut source s.name)
leaf_in as_string s source decoded =
    option_map (λ p. string (origin_of s) p s.name.start) (cut (bytes_of (origin_of s) source decoded) s.name)
leaf_in as_regexp s source decoded = option_map (λ p. regexp p (has 2 s) (has 4 s)) (cut source s.name)
leaf_in as_number s source decoded = option_map (λ p. number s.value (has 1 s) p) (cut source s.name)
leaf_in not_read s source decoded = None

abbrev pub leaf_at : Option Slot → List ℕ → List ℕ → Option Leaf
leaf_at None source decoded = None
leaf_at (Some s) source decoded = leaf_in (reading_of s.kind) s source decoded

-- the content of slot n, if there is such a slot
abbrev pub leaf_of : List Slot → ℕ → List ℕ → List ℕ → Option Leaf
leaf_of slots n source decoded = leaf_at (slice_get slots n) source decoded

-- the float of slot n, if it holds one
abbrev pub float_in : Bool → Slot → Option Float
float_in true s = Some s.float
float_in false s = None

abbrev pub float_at : Option Slot → Option Float
float_at None = None
float_at (Some s) = float_in (same s.kind kind.LiteralFloat) s

abbrev pub float_of : List Slot → ℕ → Option Float
float_of slots n = float_at (slice_get slots n)

abbrev pub one_more : Option ℕ → Option ℕ
one_more r = option_map (λ n. n + 1) r

-- how many a sibling's link leads on to, given that of every link
abbrev pub count_at : (ℕ → Option ℕ) → Option Slot → Option ℕ
count_at go None = None
count_at go (Some s) = one_more (go s.next)

-- how many slots a link leads to, one sibling after another: `room` at most, and none where a link leaves the slots or there are more
abbrev pub count_from : List Slot → ℕ → ℕ → Option ℕ
count_from slots room zero = Some 0
count_from slots zero (suc n) = None
count_from slots (suc room) (suc n) = count_at (count_from slots room) (slice_get slots n)

abbrev pub operands_at : List Slot → Option Slot → Option ℕ
operands_at slots None = None
operands_at slots (Some s) = count_from slots (length slots) s.first

-- how many children slot n has
abbrev pub operands_of : List Slot → ℕ → Option ℕ
operands_of slots n = operands_at slots (slice_get slots n)

-- a link and the number of siblings from there on: each link leads to a slot, the last leads nowhere
pub data Siblings (slots : List Slot) : ℕ → ℕ → Type 0 where
  stop : Siblings slots zero zero
  onward : {k n : ℕ} {s : Slot} → slice_get slots k ≡ Some s → Siblings slots s.next n → Siblings slots (suc k) (suc n)

-- slot n has this many children, and no more than there are slots
pub record Children (slots : List Slot) (n count : ℕ) : Type 0 where
  pub slot : Slot
  pub there : slice_get slots n ≡ Some slot
  pub siblings : Siblings slots slot.first count
  pub few : count ≤ length slots
