use Rattle.std.proofs.Common.{ℕ, List, Some, None, ap, ◌∙◌, arith}
use Rattle.std.specs.Borrow.{Bor}
use Rattle.std.specs.Option.{option_map, option_and_then}
use Rattle.literal.specs.Digits.{without}
use Rattle.literal.specs.Numerals.{next}
use Rattle.literal.proofs.Slashes.{letter_behind, both}
use Rattle.literal.proofs.integer.behind_hex.Goals as goal

pub returns-in_err-rest : goal.returns-in_err-rest
returns-in_err-rest c = let h = letter_behind 48 c.args.text.now c.trim_start_matches.result.now None (omega arith) c.trim_start_matches.ensures.matches c.in_err-rest.ensures.cases in
    ap (option_map (λ (x : Bor (List ℕ)). without x.now)) c.from_residual.ensures ∙ ap (option_and_then (next 120)) h ∙ both 120 (without c.args.text.now)

pub returns : goal.returns
returns c =
    let r = c.in_ok-rest.rest in
    let h = letter_behind 48 c.args.text.now c.trim_start_matches.result.now (Some r) (omega arith) c.trim_start_matches.ensures.matches c.in_ok-rest.ensures.cases in
    letter_behind 120 r.now c.trim_start_matches-2.result.now c.strip_prefix-2.result (omega arith) c.trim_start_matches-2.ensures.matches c.strip_prefix-2.ensures.cases
    ∙ ap (option_and_then (next 120)) h ∙ both 120 (without c.args.text.now)
