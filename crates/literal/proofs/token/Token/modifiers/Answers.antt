use Rattle.std.proofs.Common.{◌+◌, Err, ap, ◌∙◌, arith, rules}
use Rattle.std.specs.Str.{chars}
use Rattle.refusal.specs.declared.refusal.Refusal.TheVariants.{InvalidModifier}
use Rattle.literal.specs.Texts.{place_in}
use Rattle.literal.proofs.Marks.{left_i, left_s, left_bad, left_end, kept, refused, allowed}
use Rattle.literal.proofs.token.Token.modifiers.Goals as goal

pub returns-in_default : goal.returns-in_default
returns-in_default c =
    let h = c.in-Some.ensures.steps in
    let s = c.args.self.now.span in
    let b = left_bad _ _ _ _ _ _ c.in-Some.c c.loop-at.invariant.2 h.1 (search rules) (search rules) in
    ap (λ p. Err (InvalidModifier p)) c.place.ensures
    ∙ ap (λ k. Err (InvalidModifier (place_in s k (k + c.len_utf8.result)))) h.0
    ∙ ap (λ n. Err (InvalidModifier (place_in s c.loop-at.at-iterator.at (c.loop-at.at-iterator.at + n)))) c.len_utf8.ensures.value
    ∙ refused s 0 (chars c.args.self.now.text.now) _ _ b.0

pub loop-at-preserved-in-i : goal.loop-at-preserved-in-i
loop-at-preserved-in-i c =
    let h = c.in-Some.ensures.steps in
    (omega (arith, c.loop-at.invariant.0, kept _ _ c.in-Some.c _ _ h.1 h.2), tt, left_i _ _ _ _ _ _ _ c.in-Some.c c.loop-at.invariant.2 h.1 h.2 c.in-i.is)

pub loop-at-preserved : goal.loop-at-preserved
loop-at-preserved c =
    let h = c.in-Some.ensures.steps in
    (omega (arith, c.loop-at.invariant.0, kept _ _ c.in-Some.c _ _ h.1 h.2), tt, left_s _ _ _ _ _ _ _ c.in-Some.c c.loop-at.invariant.2 h.1 h.2 c.in-s.is)

pub returns : goal.returns
returns c = allowed c.args.self.now.span 0 (chars c.args.self.now.text.now) _ _ (left_end _ _ _ _ _ c.loop-at.invariant.2 c.in-None.ensures.steps.0)
