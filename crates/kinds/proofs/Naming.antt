-- A kind and its name determine each other.
use Rattle.std.proofs.Common.{◌≡◌, ℕ, suc, ◌+◌, ◌∙◌, ap, arith, Bool, true, false, cond, not, List, [], ◌∷◌, map, Option, Some, None, option_map, find, slice_get, sym, bytes_eq, Bor, refl}
use Rattle.std.specs.List.{position_or_len}
use Rattle.std.specs.Slice.{IsItemAt}
use Rattle.std.proofs.lemmas.Option.{slice_get_past, slice_get_read}
use Rattle.kinds.specs.Kinds.{number_of}
use Rattle.kinds.specs.Names.{names, name_of, place_of}
use Rattle.kinds.specs.declared.kind.SyntaxKind.{SyntaxKind}
use Rattle.kinds.specs.declared.kind.SyntaxKind.TheVariants.{ALL_KW, AND_KW, ANY_KW, ASCII_KW, AT_KW, BASE64_KW, BASE64WIDE_KW, CONDITION_KW, CONTAINS_KW, DEFINED_KW, ENDSWITH_KW, ENTRYPOINT_KW, FALSE_KW, FILESIZE_KW, FOR_KW, FULLWORD_KW, GLOBAL_KW, ICONTAINS_KW, IENDSWITH_KW, IEQUALS_KW, IMPORT_KW, IN_KW, INCLUDE_KW, ISTARTSWITH_KW, MATCHES_KW, META_KW, NOCASE_KW, NONE_KW, NOT_KW, OF_KW, OR_KW, PRIVATE_KW, RULE_KW, STARTSWITH_KW, STRINGS_KW, THEM_KW, TRUE_KW, WIDE_KW, XOR_KW, WITH_KW, ADD, SUB, MUL, DIV, MOD, MINUS, SHL, SHR, BITWISE_AND, BITWISE_OR, BITWISE_XOR, BITWISE_NOT, EQ, NE, LT, LE, GT, GE, AMPERSAND, ASTERISK, CARET, COLON, COMMA, BACKSLASH, DOT, EQUAL, HYPHEN, PERCENT, PIPE, PLUS, TILDE, L_BRACE, R_BRACE, L_BRACKET, R_BRACKET, L_PAREN, R_PAREN, FLOAT_LIT, STRING_LIT, INTEGER_LIT, COMMENT, WHITESPACE, NEWLINE, IDENT, PATTERN_IDENT, PATTERN_LENGTH, PATTERN_OFFSET, PATTERN_COUNT, IMPORT_STMT, INCLUDE_STMT, RULE_DECL, RULE_MODS, RULE_TAGS, CONDITION_BLK, PATTERN_DEF, PATTERNS_BLK, PATTERN_MODS, PATTERN_MOD, RANGE, REGEXP, EXPR, PRIMARY_EXPR, TERM, FUNC_CALL, META_DEF, META_BLK, SOURCE_FILE, BOOLEAN_EXPR, BOOLEAN_TERM, FOR_EXPR, OF_EXPR, WITH_EXPR, WITH_DECLS, WITH_DECL, ITERABLE, QUANTIFIER, EXPR_TUPLE, BOOLEAN_EXPR_TUPLE, PATTERN_IDENT_TUPLE, HEX_ALTERNATIVE, HEX_JUMP, HEX_BYTE, HEX_PATTERN, HEX_SUB_PATTERN, ERROR, UNKNOWN, INVALID_UTF8}

-- kind by kind: `search` gives up at the whole
pub name_place : (k : SyntaxKind) → place_of (name_of k) names ≡ number_of k
unfolding place_of
name_place ALL_KW = refl
name_place AND_KW = refl
name_place ANY_KW = refl
name_place ASCII_KW = refl
name_place AT_KW = refl
name_place BASE64_KW = refl
name_place BASE64WIDE_KW = refl
name_place CONDITION_KW = refl
name_place CONTAINS_KW = refl
name_place DEFINED_KW = refl
name_place ENDSWITH_KW = refl
name_place ENTRYPOINT_KW = refl
name_place FALSE_KW = refl
name_place FILESIZE_KW = refl
name_place FOR_KW = refl
name_place FULLWORD_KW = refl
name_place GLOBAL_KW = refl
name_place ICONTAINS_KW = refl
name_place IENDSWITH_KW = refl
name_place IEQUALS_KW = refl
name_place IMPORT_KW = refl
name_place IN_KW = refl
name_place INCLUDE_KW = refl
name_place ISTARTSWITH_KW = refl
name_place MATCHES_KW = refl
name_place META_KW = refl
name_place NOCASE_KW = refl
name_place NONE_KW = refl
name_place NOT_KW = refl
name_place OF_KW = refl
name_place OR_KW = refl
name_place PRIVATE_KW = refl
name_place RULE_KW = refl
name_place STARTSWITH_KW = refl
name_place STRINGS_KW = refl
name_place THEM_KW = refl
name_place TRUE_KW = refl
name_place WIDE_KW = refl
name_place XOR_KW = refl
name_place WITH_KW = refl
name_place ADD = refl
name_place SUB = refl
name_place MUL = refl
name_place DIV = refl
name_place MOD = refl
name_place MINUS = refl
name_place SHL = refl
name_place SHR = refl
name_place BITWISE_AND = refl
name_place BITWISE_OR = refl
name_place BITWISE_XOR = refl
name_place BITWISE_NOT = refl
name_place EQ = refl
name_place NE = refl
name_place LT = refl
name_place LE = refl
name_place GT = refl
name_place GE = refl
name_place AMPERSAND = refl
name_place ASTERISK = refl
name_place CARET = refl
name_place COLON = refl
name_place COMMA = refl
name_place BACKSLASH = refl
name_place DOT = refl
name_place EQUAL = refl
name_place HYPHEN = refl
name_place PERCENT = refl
name_place PIPE = refl
name_place PLUS = refl
name_place TILDE = refl
name_place L_BRACE = refl
name_place R_BRACE = refl
name_place L_BRACKET = refl
name_place R_BRACKET = refl
name_place L_PAREN = refl
name_place R_PAREN = refl
name_place FLOAT_LIT = refl
name_place STRING_LIT = refl
name_place INTEGER_LIT = refl
name_place COMMENT = refl
name_place WHITESPACE = refl
name_place NEWLINE = refl
name_place IDENT = refl
name_place PATTERN_IDENT = refl
name_place PATTERN_LENGTH = refl
name_place PATTERN_OFFSET = refl
name_place PATTERN_COUNT = refl
name_place IMPORT_STMT = refl
name_place INCLUDE_STMT = refl
name_place RULE_DECL = refl
name_place RULE_MODS = refl
name_place RULE_TAGS = refl
name_place CONDITION_BLK = refl
name_place PATTERN_DEF = refl
name_place PATTERNS_BLK = refl
name_place PATTERN_MODS = refl
name_place PATTERN_MOD = refl
name_place RANGE = refl
name_place REGEXP = refl
name_place EXPR = refl
name_place PRIMARY_EXPR = refl
name_place TERM = refl
name_place FUNC_CALL = refl
name_place META_DEF = refl
name_place META_BLK = refl
name_place SOURCE_FILE = refl
name_place BOOLEAN_EXPR = refl
name_place BOOLEAN_TERM = refl
name_place FOR_EXPR = refl
name_place OF_EXPR = refl
name_place WITH_EXPR = refl
name_place WITH_DECLS = refl
name_place WITH_DECL = refl
name_place ITERABLE = refl
name_place QUANTIFIER = refl
name_place EXPR_TUPLE = refl
name_place BOOLEAN_EXPR_TUPLE = refl
name_place PATTERN_IDENT_TUPLE = refl
name_place HEX_ALTERNATIVE = refl
name_place HEX_JUMP = refl
name_place HEX_BYTE = refl
name_place HEX_PATTERN = refl
name_place HEX_SUB_PATTERN = refl
name_place ERROR = refl
name_place UNKNOWN = refl
name_place INVALID_UTF8 = refl

first : (p : SyntaxKind × Bor (List ℕ)) (b : Bool) (o : Option (SyntaxKind × Bor (List ℕ))) (ks : List SyntaxKind) (n : ℕ) → option_map (λ p. p.0) o ≡ slice_get ks n → option_map (λ p. p.0) (cond b (Some p) o) ≡ slice_get (p.0 ∷ ks) (cond (not b) (1 + n) 0)
first p true o ks n h = refl
first p false o ks n h = let next : suc n ≡ 1 + n = omega arith in h ∙ ap (slice_get (p.0 ∷ ks)) next

-- the first of a table's rows whose text is t holds the kind at the text's place
pub row_named : (t : List ℕ) (rows : List (SyntaxKind × Bor (List ℕ))) → option_map (λ p. p.0) (find (λ p. bytes_eq p.1.now t) rows) ≡ slice_get (map (λ p. p.0) rows) (place_of t (map (λ p. p.1.now) rows))
unfolding place_of
row_named t [] = refl
row_named t (p ∷ rows) = first p (bytes_eq p.1.now t) _ (map (λ p. p.0) rows) (position_or_len (λ s. bytes_eq s t) (map (λ p. p.1.now) rows)) (row_named t rows)

pub mapped : {A B : Type 0} (o : Option (Bor (A × B))) → option_map (λ r. r.now.0) o ≡ option_map (λ p. p.0) (option_map (λ r. r.now) o)
mapped None = refl
mapped (Some r) = refl

-- a reference to the row at a place, or none where there is no such row
pub row_at : {A : Type 0} (rows : List A) (i : ℕ) (o : Option (Bor A)) → IsItemAt rows i o → option_map (λ r. r.now) o ≡ slice_get rows i
row_at rows i None h = sym (slice_get_past rows i h.3)
row_at rows i (Some r) h = sym (slice_get_read rows _ i r.now refl h.3.0 (h.3.1 r.now))
