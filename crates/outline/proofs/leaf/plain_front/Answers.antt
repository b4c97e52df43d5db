use Rattle.std.proofs.Common.{◌≡◌, ℕ, List, take, rules, tests, ap, ◌∙◌, Ok, Err, Result, Bor}
use Rattle.std.specs.List.{prefix_len}
use Rattle.std.specs.Result.{MatchResult, result_unwrap_or}
use Rattle.std.specs.Str.{IsUtf8}
use Rattle.std.proofs.lemmas.Iterator.{YieldsList-from_slice}
use Rattle.std.proofs.lemmas.Iterator.Consumers.{count_from_yields_List}
use Rattle.std.proofs.lemmas.Iterator.Search.{YieldsList-from_take_while}
use Rattle.std.proofs.lemmas.List.Folds.{length-prefix_len}
use Rattle.outline.specs.Shown.{is_plain}
use Rattle.outline.proofs.Escaping.{plain_utf8}
use Rattle.outline.proofs.leaf.plain_front.Goals as goal

-- text that is UTF-8 is read
read_as :
    {E : Type 0} (Q : E → Type 0) (bytes : List ℕ) (r : Result (Bor (List ℕ)) E) (d : Bor (List ℕ)) → IsUtf8 bytes →
    MatchResult r (λ s. (s.now ≡ bytes) × IsUtf8 bytes) (λ e. (IsUtf8 bytes → ⊥) × Q e) → (result_unwrap_or r d).now ≡ bytes
read_as Q bytes (Ok s) d u m = m.0
read_as Q bytes (Err e) d u m = absurd (m.0 u)

pub returns : goal.returns
returns c =
    let bytes = c.args.bytes.now in
    let length_is : c.count-length.result ≡ prefix_len is_plain bytes =
    count_from_yields_List c.take_while.result c.count-length.result c.count-length.ensures.ran (YieldsList-from_take_while _ is_plain (YieldsList-from_slice bytes (cc)) c.take_while.ensures.closure c.take_while.ensures.done (λ x b q k. search (rules, tests)))
    ∙ length-prefix_len is_plain bytes in
    ap (λ r. r.now) c.unwrap_or.ensures
    ∙ read_as _ (take (prefix_len is_plain bytes) bytes) c.from_utf8.result _ (plain_utf8 bytes) (rw length_is at c.from_utf8.ensures.cases)
