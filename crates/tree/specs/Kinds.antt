-- The kinds of node, by number and by name.
use Rattle.std.specs.Prelude.{ℕ, Bool, List, [], ◌∷◌, codes, Option, ◌==◌}
use Rattle.std.specs.Cmp.{IsPartialEquivalence, partial_equiv_from_equiv, on_equiv, nat_eq_equiv}
use Rattle.std.specs.List.{slice_get}
use Rattle.tree.specs.declared.node.NodeKind.{NodeKind}
use Rattle.tree.specs.declared.node.NodeKind.TheVariants.{Blank, True, False, Filesize, Entrypoint, LiteralString, LiteralInteger, LiteralFloat, Regexp, Ident, PatternMatch, PatternCount, PatternOffset, PatternLength, Lookup, FieldAccess, FuncCall, Defined, Not, And, Or, Minus, Add, Sub, Mul, Div, Mod, BitwiseNot, Shl, Shr, BitwiseAnd, BitwiseOr, BitwiseXor, Eq, Ne, Lt, Gt, Le, Ge, Contains, IContains, StartsWith, IStartsWith, EndsWith, IEndsWith, IEquals, Matches, Of, ForOf, ForIn, With, Range, At, In, QuantifierNone, QuantifierAll, QuantifierAny, QuantifierPercentage, QuantifierExpr, Them, Set, SetItem, BoolTuple, ExprTuple, WithDeclaration}

-- the kinds in their order
abbrev pub kinds : List NodeKind
kinds = Blank ∷ True ∷ False ∷ Filesize ∷ Entrypoint ∷ LiteralString ∷ LiteralInteger ∷ LiteralFloat ∷ Regexp ∷ Ident ∷ PatternMatch ∷ PatternCount ∷ PatternOffset ∷ PatternLength ∷ Lookup ∷ FieldAccess ∷ FuncCall ∷ Defined ∷ Not ∷ And ∷ Or ∷ Minus ∷ Add ∷ Sub ∷ Mul ∷ Div ∷ Mod ∷ BitwiseNot ∷ Shl ∷ Shr ∷ BitwiseAnd ∷ BitwiseOr ∷ BitwiseXor ∷ Eq ∷ Ne ∷ Lt ∷ Gt ∷ Le ∷ Ge ∷ Contains ∷ IContains ∷ StartsWith ∷ IStartsWith ∷ EndsWith ∷ IEndsWith ∷ IEquals ∷ Matches ∷ Of ∷ ForOf ∷ ForIn ∷ With ∷ Range ∷ At ∷ In ∷ QuantifierNone ∷ QuantifierAll ∷ QuantifierAny ∷ QuantifierPercentage ∷ QuantifierExpr ∷ Them ∷ Set ∷ SetItem ∷ BoolTuple ∷ ExprTuple ∷ WithDeclaration ∷ []

-- the kind of a number is the one at that place, if any
abbrev pub kind_of : ℕ → Option NodeKind
kind_of n = slice_get kinds n

-- a kind's number: its place, from 0
abbrev pub number_of : NodeKind → ℕ
number_of Blank = 0
number_of True = 1
number_of False = 2
number_of Filesize = 3
number_of Entrypoint = 4
number_of LiteralString = 5
number_of LiteralInteger = 6
number_of LiteralFloat = 7
number_of Regexp = 8
number_of Ident = 9
number_of PatternMatch = 10
number_of PatternCount = 11
number_of PatternOffset = 12
number_of PatternLength = 13
number_of Lookup = 14
number_of FieldAccess = 15
number_of FuncCall = 16
number_of Defined = 17
number_of Not = 18
number_of And = 19
number_of Or = 20
number_of Minus = 21
number_of Add = 22
number_of Sub = 23
number_of Mul = 24
number_of Div = 25
number_of Mod = 26
number_of BitwiseNot = 27
number_of Shl = 28
number_of Shr = 29
number_of BitwiseAnd = 30
number_of BitwiseOr = 31
number_of BitwiseXor = 32
number_of Eq = 33
number_of Ne = 34
number_of Lt = 35
number_of Gt = 36
number_of Le = 37
number_of Ge = 38
number_of Contains = 39
number_of IContains = 40
number_of StartsWith = 41
number_of IStartsWith = 42
number_of EndsWith = 43
number_of IEndsWith = 44
number_of IEquals = 45
number_of Matches = 46
number_of Of = 47
number_of ForOf = 48
number_of ForIn = 49
number_of With = 50
number_of Range = 51
number_of At = 52
number_of In = 53
number_of QuantifierNone = 54
number_of QuantifierAll = 55
number_of QuantifierAny = 56
number_of QuantifierPercentage = 57
number_of QuantifierExpr = 58
number_of Them = 59
number_of Set = 60
number_of SetItem = 61
number_of BoolTuple = 62
number_of ExprTuple = 63
number_of WithDeclaration = 64

-- whether two kinds are the same, by their numbers
abbrev pub same : NodeKind → NodeKind → Bool
same a b = number_of a == number_of b

-- that is symmetric, and holds along a chain
pub same_laws : IsPartialEquivalence same
same_laws = partial_equiv_from_equiv (on_equiv number_of nat_eq_equiv)

-- a kind's name, as people write it
abbrev pub name_of : NodeKind → List ℕ
name_of Blank = codes "Blank"
name_of True = codes "True"
name_of False = codes "False"
name_of Filesize = codes "Filesize"
name_of Entrypoint = codes "Entrypoint"
name_of LiteralString = codes "LiteralString"
name_of LiteralInteger = codes "LiteralInteger"
name_of LiteralFloat = codes "LiteralFloat"
name_of Regexp = codes "Regexp"
name_of Ident = codes "Ident"
name_of PatternMatch = codes "PatternMatch"
name_of PatternCount = codes "PatternCount"
name_of PatternOffset = codes "PatternOffset"
name_of PatternLength = codes "PatternLength"
name_of Lookup = codes "Lookup"
name_of FieldAccess = codes "FieldAccess"
name_of FuncCall = codes "FuncCall"
name_of Defined = codes "Defined"
name_of Not = codes "Not"
name_of And = codes "And"
name_of Or = codes "Or"
name_of Minus = codes "Minus"
name_of Add = codes "Add"
name_of Sub = codes "Sub"
name_of Mul = codes "Mul"
name_of Div = codes "Div"
name_of Mod = codes "Mod"
name_of BitwiseNot = codes "BitwiseNot"
name_of Shl = codes "Shl"
name_of Shr = codes "Shr"
name_of BitwiseAnd = codes "BitwiseAnd"
name_of BitwiseOr = codes "BitwiseOr"
name_of BitwiseXor = codes "BitwiseXor"
name_of Eq = codes "Eq"
name_of Ne = codes "Ne"
name_of Lt = codes "Lt"
name_of Gt = codes "Gt"
name_of Le = codes "Le"
name_of Ge = codes "Ge"
name_of Contains = codes "Contains"
name_of IContains = codes "IContains"
name_of StartsWith = codes "StartsWith"
name_of IStartsWith = codes "IStartsWith"
name_of EndsWith = codes "EndsWith"
name_of IEndsWith = codes "IEndsWith"
name_of IEquals = codes "IEquals"
name_of Matches = codes "Matches"
name_of Of = codes "Of"
name_of ForOf = codes "ForOf"
name_of ForIn = codes "ForIn"
name_of With = codes "With"
name_of Range = codes "Range"
name_of At = codes "At"
name_of In = codes "In"
name_of QuantifierNone = codes "QuantifierNone"
name_of QuantifierAll = codes "QuantifierAll"
name_of QuantifierAny = codes "QuantifierAny"
name_of QuantifierPercentage = codes "QuantifierPercentage"
name_of QuantifierExpr = codes "QuantifierExpr"
name_of Them = codes "Them"
name_of Set = codes "Set"
name_of SetItem = codes "SetItem"
name_of BoolTuple = codes "BoolTuple"
name_of ExprTuple = codes "ExprTuple"
name_of WithDeclaration = codes "WithDeclaration"
