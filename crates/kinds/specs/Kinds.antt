-- The kinds of node and token of a syntax tree, by number.
use Rattle.std.specs.Prelude.{ℕ, Bool, List, [], ◌∷◌, Option, ◌==◌, slice_get}
use Rattle.std.specs.Cmp.{IsPartialEquivalence, partial_equiv_from_equiv, on_equiv, nat_eq_equiv}
use Rattle.kinds.specs.declared.kind.SyntaxKind.{SyntaxKind}
use Rattle.kinds.specs.declared.kind.SyntaxKind.TheVariants.{ALL_KW, AND_KW, ANY_KW, ASCII_KW, AT_KW, BASE64_KW, BASE64WIDE_KW, CONDITION_KW, CONTAINS_KW, DEFINED_KW, ENDSWITH_KW, ENTRYPOINT_KW, FALSE_KW, FILESIZE_KW, FOR_KW, FULLWORD_KW, GLOBAL_KW, ICONTAINS_KW, IENDSWITH_KW, IEQUALS_KW, IMPORT_KW, IN_KW, INCLUDE_KW, ISTARTSWITH_KW, MATCHES_KW, META_KW, NOCASE_KW, NONE_KW, NOT_KW, OF_KW, OR_KW, PRIVATE_KW, RULE_KW, STARTSWITH_KW, STRINGS_KW, THEM_KW, TRUE_KW, WIDE_KW, XOR_KW, WITH_KW, ADD, SUB, MUL, DIV, MOD, MINUS, SHL, SHR, BITWISE_AND, BITWISE_OR, BITWISE_XOR, BITWISE_NOT, EQ, NE, LT, LE, GT, GE, AMPERSAND, ASTERISK, CARET, COLON, COMMA, BACKSLASH, DOT, EQUAL, HYPHEN, PERCENT, PIPE, PLUS, TILDE, L_BRACE, R_BRACE, L_BRACKET, R_BRACKET, L_PAREN, R_PAREN, FLOAT_LIT, STRING_LIT, INTEGER_LIT, COMMENT, WHITESPACE, NEWLINE, IDENT, PATTERN_IDENT, PATTERN_LENGTH, PATTERN_OFFSET, PATTERN_COUNT, IMPORT_STMT, INCLUDE_STMT, RULE_DECL, RULE_MODS, RULE_TAGS, CONDITION_BLK, PATTERN_DEF, PATTERNS_BLK, PATTERN_MODS, PATTERN_MOD, RANGE, REGEXP, EXPR, PRIMARY_EXPR, TERM, FUNC_CALL, META_DEF, META_BLK, SOURCE_FILE, BOOLEAN_EXPR, BOOLEAN_TERM, FOR_EXPR, OF_EXPR, WITH_EXPR, WITH_DECLS, WITH_DECL, ITERABLE, QUANTIFIER, EXPR_TUPLE, BOOLEAN_EXPR_TUPLE, PATTERN_IDENT_TUPLE, HEX_ALTERNATIVE, HEX_JUMP, HEX_BYTE, HEX_PATTERN, HEX_SUB_PATTERN, ERROR, UNKNOWN, INVALID_UTF8}

-- the kinds in their order
abbrev pub kinds : List SyntaxKind
kinds = ALL_KW ∷ AND_KW ∷ ANY_KW ∷ ASCII_KW ∷ AT_KW ∷ BASE64_KW ∷ BASE64WIDE_KW ∷ CONDITION_KW ∷ CONTAINS_KW ∷ DEFINED_KW ∷ ENDSWITH_KW ∷ ENTRYPOINT_KW ∷ FALSE_KW ∷ FILESIZE_KW ∷ FOR_KW ∷ FULLWORD_KW ∷ GLOBAL_KW ∷ ICONTAINS_KW ∷ IENDSWITH_KW ∷ IEQUALS_KW ∷ IMPORT_KW ∷ IN_KW ∷ INCLUDE_KW ∷ ISTARTSWITH_KW ∷ MATCHES_KW ∷ META_KW ∷ NOCASE_KW ∷ NONE_KW ∷ NOT_KW ∷ OF_KW ∷ OR_KW ∷ PRIVATE_KW ∷ RULE_KW ∷ STARTSWITH_KW ∷ STRINGS_KW ∷ THEM_KW ∷ TRUE_KW ∷ WIDE_KW ∷ XOR_KW ∷ WITH_KW ∷ ADD ∷ SUB ∷ MUL ∷ DIV ∷ MOD ∷ MINUS ∷ SHL ∷ SHR ∷ BITWISE_AND ∷ BITWISE_OR ∷ BITWISE_XOR ∷ BITWISE_NOT ∷ EQ ∷ NE ∷ LT ∷ LE ∷ GT ∷ GE ∷ AMPERSAND ∷ ASTERISK ∷ CARET ∷ COLON ∷ COMMA ∷ BACKSLASH ∷ DOT ∷ EQUAL ∷ HYPHEN ∷ PERCENT ∷ PIPE ∷ PLUS ∷ TILDE ∷ L_BRACE ∷ R_BRACE ∷ L_BRACKET ∷ R_BRACKET ∷ L_PAREN ∷ R_PAREN ∷ FLOAT_LIT ∷ STRING_LIT ∷ INTEGER_LIT ∷ COMMENT ∷ WHITESPACE ∷ NEWLINE ∷ IDENT ∷ PATTERN_IDENT ∷ PATTERN_LENGTH ∷ PATTERN_OFFSET ∷ PATTERN_COUNT ∷ IMPORT_STMT ∷ INCLUDE_STMT ∷ RULE_DECL ∷ RULE_MODS ∷ RULE_TAGS ∷ CONDITION_BLK ∷ PATTERN_DEF ∷ PATTERNS_BLK ∷ PATTERN_MODS ∷ PATTERN_MOD ∷ RANGE ∷ REGEXP ∷ EXPR ∷ PRIMARY_EXPR ∷ TERM ∷ FUNC_CALL ∷ META_DEF ∷ META_BLK ∷ SOURCE_FILE ∷ BOOLEAN_EXPR ∷ BOOLEAN_TERM ∷ FOR_EXPR ∷ OF_EXPR ∷ WITH_EXPR ∷ WITH_DECLS ∷ WITH_DECL ∷ ITERABLE ∷ QUANTIFIER ∷ EXPR_TUPLE ∷ BOOLEAN_EXPR_TUPLE ∷ PATTERN_IDENT_TUPLE ∷ HEX_ALTERNATIVE ∷ HEX_JUMP ∷ HEX_BYTE ∷ HEX_PATTERN ∷ HEX_SUB_PATTERN ∷ ERROR ∷ UNKNOWN ∷ INVALID_UTF8 ∷ []

-- the kind of a number is the one at that place, if any
abbrev pub kind_of : ℕ → Option SyntaxKind
kind_of n = slice_get kinds n

-- a kind's number: its place, from 0
abbrev pub number_of : SyntaxKind → ℕ
number_of ALL_KW = 0
number_of AND_KW = 1
number_of ANY_KW = 2
number_of ASCII_KW = 3
number_of AT_KW = 4
number_of BASE64_KW = 5
number_of BASE64WIDE_KW = 6
number_of CONDITION_KW = 7
number_of CONTAINS_KW = 8
number_of DEFINED_KW = 9
number_of ENDSWITH_KW = 10
number_of ENTRYPOINT_KW = 11
number_of FALSE_KW = 12
number_of FILESIZE_KW = 13
number_of FOR_KW = 14
number_of FULLWORD_KW = 15
number_of GLOBAL_KW = 16
number_of ICONTAINS_KW = 17
number_of IENDSWITH_KW = 18
number_of IEQUALS_KW = 19
number_of IMPORT_KW = 20
number_of IN_KW = 21
number_of INCLUDE_KW = 22
number_of ISTARTSWITH_KW = 23
number_of MATCHES_KW = 24
number_of META_KW = 25
number_of NOCASE_KW = 26
number_of NONE_KW = 27
number_of NOT_KW = 28
number_of OF_KW = 29
number_of OR_KW = 30
number_of PRIVATE_KW = 31
number_of RULE_KW = 32
number_of STARTSWITH_KW = 33
number_of STRINGS_KW = 34
number_of THEM_KW = 35
number_of TRUE_KW = 36
number_of WIDE_KW = 37
number_of XOR_KW = 38
number_of WITH_KW = 39
number_of ADD = 40
number_of SUB = 41
number_of MUL = 42
number_of DIV = 43
number_of MOD = 44
number_of MINUS = 45
number_of SHL = 46
number_of SHR = 47
number_of BITWISE_AND = 48
number_of BITWISE_OR = 49
number_of BITWISE_XOR = 50
number_of BITWISE_NOT = 51
number_of EQ = 52
number_of NE = 53
number_of LT = 54
number_of LE = 55
number_of GT = 56
number_of GE = 57
number_of AMPERSAND = 58
number_of ASTERISK = 59
number_of CARET = 60
number_of COLON = 61
number_of COMMA = 62
number_of BACKSLASH = 63
number_of DOT = 64
number_of EQUAL = 65
number_of HYPHEN = 66
number_of PERCENT = 67
number_of PIPE = 68
number_of PLUS = 69
number_of TILDE = 70
number_of L_BRACE = 71
number_of R_BRACE = 72
number_of L_BRACKET = 73
number_of R_BRACKET = 74
number_of L_PAREN = 75
number_of R_PAREN = 76
number_of FLOAT_LIT = 77
number_of STRING_LIT = 78
number_of INTEGER_LIT = 79
number_of COMMENT = 80
number_of WHITESPACE = 81
number_of NEWLINE = 82
number_of IDENT = 83
number_of PATTERN_IDENT = 84
number_of PATTERN_LENGTH = 85
number_of PATTERN_OFFSET = 86
number_of PATTERN_COUNT = 87
number_of IMPORT_STMT = 88
number_of INCLUDE_STMT = 89
number_of RULE_DECL = 90
number_of RULE_MODS = 91
number_of RULE_TAGS = 92
number_of CONDITION_BLK = 93
number_of PATTERN_DEF = 94
number_of PATTERNS_BLK = 95
number_of PATTERN_MODS = 96
number_of PATTERN_MOD = 97
number_of RANGE = 98
number_of REGEXP = 99
number_of EXPR = 100
number_of PRIMARY_EXPR = 101
number_of TERM = 102
number_of FUNC_CALL = 103
number_of META_DEF = 104
number_of META_BLK = 105
number_of SOURCE_FILE = 106
number_of BOOLEAN_EXPR = 107
number_of BOOLEAN_TERM = 108
number_of FOR_EXPR = 109
number_of OF_EXPR = 110
number_of WITH_EXPR = 111
number_of WITH_DECLS = 112
number_of WITH_DECL = 113
number_of ITERABLE = 114
number_of QUANTIFIER = 115
number_of EXPR_TUPLE = 116
number_of BOOLEAN_EXPR_TUPLE = 117
number_of PATTERN_IDENT_TUPLE = 118
number_of HEX_ALTERNATIVE = 119
number_of HEX_JUMP = 120
number_of HEX_BYTE = 121
number_of HEX_PATTERN = 122
number_of HEX_SUB_PATTERN = 123
number_of ERROR = 124
number_of UNKNOWN = 125
number_of INVALID_UTF8 = 126

-- whether two kinds are the same, by their numbers
abbrev pub same : SyntaxKind → SyntaxKind → Bool
same a b = number_of a == number_of b

-- that is symmetric, and holds along a chain
pub same_laws : IsPartialEquivalence same
same_laws = partial_equiv_from_equiv (on_equiv number_of nat_eq_equiv)
