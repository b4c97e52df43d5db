use Rattle.std.proofs.Common.{length, Ok, Err, sym, ap, ◌∙◌, rules}
use Rattle.literal.proofs.Parted.{regexp_from}
use Rattle.literal.proofs.token.Token.as_regexp.Goals as goal

pub returns-in_err-case_insensitive : goal.returns-in_err-case_insensitive
returns-in_err-case_insensitive c =
    let t = c.args.self.now.text.now in
    let s = c.args.self.now.span in
    let h = c.in-Some.ensures in
    let w = regexp_from t c.in-Some.body.now c.in-Some.tail.now s c.place.result (length t) (Err c.in_err-case_insensitive.field-0.0) h.0 h.1 c.place.ensures c.in_err-case_insensitive.ensures in search rules

pub returns : goal.returns
returns c =
    let t = c.args.self.now.text.now in
    let s = c.args.self.now.span in
    let h = c.in-Some.ensures in
    ap (λ b. Ok (record { body = b; case_insensitive = c.in_ok-case_insensitive.case_insensitive; dot_matches_new_line = c.in_ok-case_insensitive.dot_matches_new_line })) c.place-2.ensures
    ∙ sym (regexp_from t c.in-Some.body.now c.in-Some.tail.now s c.place.result (length t) (Ok (c.in_ok-case_insensitive.case_insensitive, c.in_ok-case_insensitive.dot_matches_new_line)) h.0 h.1 c.place.ensures c.in_ok-case_insensitive.ensures)
