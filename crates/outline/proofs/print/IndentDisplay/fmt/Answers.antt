use Rattle.std.proofs.Common.{◌≡◌, ℕ, zero, suc, ◌+◌, List, ◌++◌, codes, sym, ap, ◌∙◌, append_assoc, append-nil, add-one, rules}
use Rattle.std.proofs.Output.{has_written_append, has_written_of_eq}
use Rattle.std.specs.List.{repeat}
use Rattle.outline.specs.Shown.{spaces}
use Rattle.outline.proofs.print.IndentDisplay.fmt.Goals as goal

repeat_more : (n : ℕ) (text : List ℕ) → repeat n text ++ text ≡ repeat (suc n) text
repeat_more zero text = sym (append-nil text)
repeat_more (suc n) text = append_assoc text (repeat n text) text ∙ ap (λ l. text ++ l) (repeat_more n text)

pub loop-i-preserved : goal.loop-i-preserved
loop-i-preserved g c =
    λ plain.
    let one_more : spaces c.loop-i._i ++ codes "  " ≡ spaces (c.loop-i._i + 1) =
    rw add-one (repeat_more c.loop-i._i (codes "  ")) in
    has_written_of_eq _ _ _ _ _ one_more (has_written_append _ _ _ _ _ _ (c.loop-i.invariant plain) (search rules))
