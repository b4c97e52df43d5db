use Rattle.std.proofs.Common.{◌≡◌, ℕ, suc, ◌-◌, ◌<◌, ◌≤◌, ◌++◌, sym, ap, ◌∙◌, arith, rules}
use Rattle.std.proofs.lemmas.Bool.Decides.{nat_tests}
use Rattle.std.proofs.Output.{has_written_append, has_written_of_eq}
use Rattle.std.proofs.lemmas.Option.{slice_get-get_or}
use Rattle.outline.proofs.Printed.{between_some, broken, row_on}
use Rattle.outline.proofs.print.Shown.+trees.Goals.{row-then-slot-ne0+in_ok-write_str, row-else-slot-ne0}
use Rattle.outline.proofs.print.Shown.+trees.Goals as goal

pub row-returns-then-not-contains : goal.row-returns-then-not-contains
row-returns-then-not-contains g t c plain ok =
    let v = c.args.self.now in
    let low : ℕ = c.loop-number.within.start in
    let top : ℕ = c.loop-number.within.end in
    let link : ℕ = c.loop-number.link in
    let n : ℕ = c.in-Some.number in
    let is : link ≡ suc n = omega arith in
    let no : low ≤ n → n < top → ⊥ = λ h k. grind (arith, nat_tests) in
    let (done, wrote, whole) = c.loop-number.invariant.written plain in
    has_written_of_eq _ _ _ _ _
    (ap (λ l. done ++ l) (sym (broken v (top - low) c.args.depth low top link n is no)) ∙ whole)
    (has_written_append _ _ _ _ _ _ wrote (c.broken.ensures wrote.plain ok))

pub row-loop-number-preserved : goal.row-loop-number-preserved
row-loop-number-preserved g t c =
    let v = c.args.self.now in
    let low : ℕ = c.loop-number.within.start in
    let top : ℕ = c.loop-number.within.end in
    let link : ℕ = c.loop-number.link in
    let n : ℕ = c.in-Some.number in
    let is : link ≡ suc n = omega arith in
    let above : low ≤ n = grind (arith, nat_tests) in
    let below : n < top = grind (arith, nat_tests) in record {
      above = omega arith;
      same_end = c.loop-number.invariant.same_end;
      written =
          λ plain.
          let (done, wrote, whole) = c.loop-number.invariant.written plain in
          let one = c.in_ok-tree.ensures wrote.plain (search rules) in (
            _,
            has_written_append _ _ _ _ _ _ (has_written_append _ _ _ _ _ _ wrote one)
                (elim c.if-slot-ne0.branch [
                  | row-then-slot-ne0+in_ok-write_str w ↦ search (rules, between_some)
                  | row-else-slot-ne0 w ↦ search rules
                ]),
            row_on v c.args.depth low top link n _ done _ is above below
                (slice_get-get_or v.tree.slots.now n _ (omega arith))
                whole,
          );
    }
