use Rattle.std.proofs.Common.{◌≡◌, ℕ, ◌+◌, ◌<◌, ◌≤◌, List, length, get_or, IsUtf8, subst, arith, rules}
use Rattle.std.specs.Str.{IsCharBoundary}
use Rattle.std.proofs.lemmas.Str.{IsCharBoundary-after_ascii}
use Rattle.literal.proofs.token.Token.unquoted.Goals as goal

-- a text may be cut behind a quote
behind : (bytes text : List ℕ) (i : ℕ) → bytes ≡ text → IsUtf8 bytes → i < length bytes → get_or bytes i 0 ≡ 34 → IsCharBoundary text (i + 1)
behind bytes text i e u h q = subst (λ l. IsCharBoundary l (i + 1)) e (IsCharBoundary-after_ascii bytes i u h (omega arith))

pub part-requires-clause-start : goal.part-requires-clause-start
part-requires-clause-start c =
    let bytes = c.as_bytes-bytes.result.now in
    let h : 6 ≤ length bytes = search rules in
    let a : get_or bytes 2 0 ≡ 34 = search rules in
    behind bytes _ 2 c.as_bytes-bytes.ensures.value c.as_bytes-bytes.ensures.utf8 (omega arith) a

pub part-requires-in-34-3-clause-start : goal.part-requires-in-34-3-clause-start
part-requires-in-34-3-clause-start c =
    let bytes = c.as_bytes-bytes.result.now in
    let h : 2 ≤ length bytes = search rules in
    let a : get_or bytes 0 0 ≡ 34 = search rules in
    behind bytes _ 0 c.as_bytes-bytes.ensures.value c.as_bytes-bytes.ensures.utf8 (omega arith) a
