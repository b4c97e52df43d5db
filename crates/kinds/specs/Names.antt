-- The kinds by their names.
use Rattle.std.specs.Prelude.{ℕ, List, [], ◌∷◌, codes, Option, bytes_eq, slice_index_or}
use Rattle.std.specs.List.{position_or_len}
use Rattle.kinds.specs.Kinds.{number_of, kind_of}
use Rattle.kinds.specs.declared.kind.SyntaxKind.{SyntaxKind}

-- the names in the order of the kinds
abbrev pub names : List (List ℕ)
names = codes "ALL_KW" ∷ codes "AND_KW" ∷ codes "ANY_KW" ∷ codes "ASCII_KW" ∷ codes "AT_KW" ∷ codes "BASE64_KW" ∷ codes "BASE64WIDE_KW" ∷ codes "CONDITION_KW" ∷ codes "CONTAINS_KW" ∷ codes "DEFINED_KW" ∷ codes "ENDSWITH_KW" ∷ codes "ENTRYPOINT_KW" ∷ codes "FALSE_KW" ∷ codes "FILESIZE_KW" ∷ codes "FOR_KW" ∷ codes "FULLWORD_KW" ∷ codes "GLOBAL_KW" ∷ codes "ICONTAINS_KW" ∷ codes "IENDSWITH_KW" ∷ codes "IEQUALS_KW" ∷ codes "IMPORT_KW" ∷ codes "IN_KW" ∷ codes "INCLUDE_KW" ∷ codes "ISTARTSWITH_KW" ∷ codes "MATCHES_KW" ∷ codes "META_KW" ∷ codes "NOCASE_KW" ∷ codes "NONE_KW" ∷ codes "NOT_KW" ∷ codes "OF_KW" ∷ codes "OR_KW" ∷ codes "PRIVATE_KW" ∷ codes "RULE_KW" ∷ codes "STARTSWITH_KW" ∷ codes "STRINGS_KW" ∷ codes "THEM_KW" ∷ codes "TRUE_KW" ∷ codes "WIDE_KW" ∷ codes "XOR_KW" ∷ codes "WITH_KW" ∷ codes "ADD" ∷ codes "SUB" ∷ codes "MUL" ∷ codes "DIV" ∷ codes "MOD" ∷ codes "MINUS" ∷ codes "SHL" ∷ codes "SHR" ∷ codes "BITWISE_AND" ∷ codes "BITWISE_OR" ∷ codes "BITWISE_XOR" ∷ codes "BITWISE_NOT" ∷ codes "EQ" ∷ codes "NE" ∷ codes "LT" ∷ codes "LE" ∷ codes "GT" ∷ codes "GE" ∷ codes "AMPERSAND" ∷ codes "ASTERISK" ∷ codes "CARET" ∷ codes "COLON" ∷ codes "COMMA" ∷ codes "BACKSLASH" ∷ codes "DOT" ∷ codes "EQUAL" ∷ codes "HYPHEN" ∷ codes "PERCENT" ∷ codes "PIPE" ∷ codes "PLUS" ∷ codes "TILDE" ∷ codes "L_BRACE" ∷ codes "R_BRACE" ∷ codes "L_BRACKET" ∷ codes "R_BRACKET" ∷ codes "L_PAREN" ∷ codes "R_PAREN" ∷ codes "FLOAT_LIT" ∷ codes "STRING_LIT" ∷ codes "INTEGER_LIT" ∷ codes "COMMENT" ∷ codes "WHITESPACE" ∷ codes "NEWLINE" ∷ codes "IDENT" ∷ codes "PATTERN_IDENT" ∷ codes "PATTERN_LENGTH" ∷ codes "PATTERN_OFFSET" ∷ codes "PATTERN_COUNT" ∷ codes "IMPORT_STMT" ∷ codes "INCLUDE_STMT" ∷ codes "RULE_DECL" ∷ codes "RULE_MODS" ∷ codes "RULE_TAGS" ∷ codes "CONDITION_BLK" ∷ codes "PATTERN_DEF" ∷ codes "PATTERNS_BLK" ∷ codes "PATTERN_MODS" ∷ codes "PATTERN_MOD" ∷ codes "RANGE" ∷ codes "REGEXP" ∷ codes "EXPR" ∷ codes "PRIMARY_EXPR" ∷ codes "TERM" ∷ codes "FUNC_CALL" ∷ codes "META_DEF" ∷ codes "META_BLK" ∷ codes "SOURCE_FILE" ∷ codes "BOOLEAN_EXPR" ∷ codes "BOOLEAN_TERM" ∷ codes "FOR_EXPR" ∷ codes "OF_EXPR" ∷ codes "WITH_EXPR" ∷ codes "WITH_DECLS" ∷ codes "WITH_DECL" ∷ codes "ITERABLE" ∷ codes "QUANTIFIER" ∷ codes "EXPR_TUPLE" ∷ codes "BOOLEAN_EXPR_TUPLE" ∷ codes "PATTERN_IDENT_TUPLE" ∷ codes "HEX_ALTERNATIVE" ∷ codes "HEX_JUMP" ∷ codes "HEX_BYTE" ∷ codes "HEX_PATTERN" ∷ codes "HEX_SUB_PATTERN" ∷ codes "ERROR" ∷ codes "UNKNOWN" ∷ codes "INVALID_UTF8" ∷ []

abbrev pub name_of : SyntaxKind → List ℕ
name_of k = slice_index_or names (number_of k) []

-- where a text first stands in a list; the list's length where it does not
unfoldable pub place_of : List ℕ → List (List ℕ) → ℕ
place_of t ss = position_or_len (λ s. bytes_eq s t) ss

-- the kind with a name, if any
abbrev pub kind_named : List ℕ → Option SyntaxKind
kind_named t = kind_of (place_of t names)
