use Rattle.std.proofs.Common.{◌≡◌, ◌^◌, true, false, length, ap, ◌∙◌, w64, to_z, of_z, rules}
use borrow.Author.Tests.{lt-false, le-true}
use Rattle.literal.specs.Integers.{integer_number, pattern}
use Rattle.literal.specs.Texts.{place_in}
use Rattle.literal.proofs.Factors.{made, signed_here, unsigned_here, low_pattern, too_large}
use Rattle.literal.proofs.token.Token.as_integer.Goals as goal

pub returns-in-Some : goal.returns-in-Some
returns-in-Some c =
    let t = c.args.self.now.text.now in
    let h = signed_here (integer_number t) c.in-Some.value c.in-Some.ensures in
    let z : to_z w64 (of_z w64 c.in-Some.value) ≡ c.in-Some.value = search rules in
    made t c.args.self.now.span c.place-name.result h.0 _ c.in-Some.value false h.1 z (low_pattern h.0 c.in-Some.value h.3 h.2) (lt-false (2 ^ 63) h.0 h.3)
    (c.place-name.ensures ∙ ap (λ b. place_in c.args.self.now.span 0 (length b)) c.strip_size_suffix.ensures.value.0)

pub returns : goal.returns
returns c =
    let t = c.args.self.now.text.now in
    let h = unsigned_here (integer_number t) c.in-Some-parse_integer.bits c.in_default.ensures c.in-Some-parse_integer.ensures in
    let p : c.cast_signed.result ≡ pattern c.in-Some-parse_integer.bits = search rules in
    let z : to_z w64 (of_z w64 c.cast_signed.result) ≡ c.cast_signed.result = search rules in
    made t c.args.self.now.span c.place-name.result c.in-Some-parse_integer.bits _ c.cast_signed.result true h.0 z p (le-true (2 ^ 63) c.in-Some-parse_integer.bits h.1)
    (c.place-name.ensures ∙ ap (λ b. place_in c.args.self.now.span 0 (length b)) c.strip_size_suffix.ensures.value.0)

pub returns-in_default-parse_integer : goal.returns-in_default-parse_integer
returns-in_default-parse_integer c = too_large c.args.self.now.text.now c.args.self.now.span c.in_default-parse_integer.ensures
