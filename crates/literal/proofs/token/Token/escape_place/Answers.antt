use Rattle.std.proofs.Common.{◌≡◌, ◌+◌, ◌++◌, drop, IsUtf8, Some, sym, ap, ◌∙◌, subst, rules}
use lib.Utf8.{encode}
use Rattle.std.proofs.lemmas.Str.{IsCharBoundary-after_ascii}
use Rattle.literal.specs.Texts.{place_in}
use Rattle.literal.proofs.Refusing.{escape_here}
use Rattle.literal.proofs.token.Token.escape_place.Goals as goal

pub range_from-requires : goal.range_from-requires
range_from-requires c = λ _. search (rules, IsCharBoundary-after_ascii)

pub returns : goal.returns
returns c =
    let t = c.args.self.now.text.now in
    let e : drop (c.args.at + 1) t ≡ encode c.in_ok-next.next ++ _ = sym (c.chars.ensures.rest ∙ c.range_from.ensures.value) ∙ c.in_ok-next.ensures.steps.0 in
    ap Some c.place.ensures ∙ ap (λ n. Some (place_in c.args.self.now.span c.args.at (c.args.at + 1 + n))) c.len_utf8.ensures.value
    ∙ escape_here c.args.self.now.span c.args.at t _ c.in_ok-next.next c.requires.0 (subst IsUtf8 c.range_from.ensures.value c.range_from.utf8) e
