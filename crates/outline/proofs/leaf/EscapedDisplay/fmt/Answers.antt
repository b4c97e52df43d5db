use Rattle.std.proofs.Common.{ap, ◌∙◌, rules}
use Rattle.std.proofs.Output.{has_written_append, has_written_of_eq}
use Rattle.outline.proofs.Escaping.{byte_on, character_on, plain_on}
use Rattle.outline.proofs.leaf.EscapedDisplay.fmt.Goals as goal

pub loop-first-preserved-then-not-is_plain : goal.loop-first-preserved-then-not-is_plain
loop-first-preserved-then-not-is_plain g c = λ plain.
    let (done, wrote, whole) = c.loop-first.invariant plain in
    let (is, _) = c.in-Some.ensures.cases in (
      _,
      has_written_append _ _ _ _ _ _ wrote (c.write_str.ensures.writes wrote.plain (search rules)),
      byte_on c.in-Some.first.now c.in-Some.behind.now c.loop-first.rest.now c.hexadecimal.result.now done _ is (search rules) c.hexadecimal.ensures whole,
    )

pub loop-first-preserved-then-is_some_and : goal.loop-first-preserved-then-is_some_and
loop-first-preserved-then-is_some_and g c = λ plain.
    let (done, wrote, whole) = c.loop-first.invariant plain in (
      _,
      has_written_append _ _ _ _ _ _ wrote (c.write_str-then-is_some_and.ensures.writes wrote.plain (search rules)),
      plain_on c.plain_front-plain.result.now c.loop-first.rest.now done _ c.plain_front-plain.ensures whole,
    )

pub loop-first-preserved : goal.loop-first-preserved
loop-first-preserved g c = λ plain.
    let (done, wrote, whole) = c.loop-first.invariant plain in
    let (is, _) = c.in-Some.ensures.cases in (
      _,
      has_written_append _ _ _ _ _ _ wrote (c.write_char.ensures.writes wrote.plain (search rules)),
      character_on c.in-Some.first.now c.in-Some.behind.now c.loop-first.rest.now c.from.result done _ is (search rules) c.from.ensures whole,
    )
