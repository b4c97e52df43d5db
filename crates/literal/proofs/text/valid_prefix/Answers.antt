use Rattle.std.proofs.Common.{sym, subst}
use Rattle.std.specs.Str.{IsValidUpTo}
use Rattle.literal.proofs.Cuts.{whole_longest, short_longest, is_prefix}
use Rattle.literal.proofs.text.valid_prefix.Goals as goal

pub returns-in-Ok : goal.returns-in-Ok
returns-in-Ok c = let l = whole_longest _ c.in-Ok.ensures.cases.1 in record { value = is_prefix _ _ l; longest = l }

pub returns-in-Err : goal.returns-in-Err
returns-in-Err c =
    let v = subst (IsValidUpTo c.args.bytes.now) (sym c.valid_up_to.ensures) c.in-Err.ensures.cases.1 in
    let l = short_longest _ _ v in record { value = is_prefix _ _ l; longest = l }
