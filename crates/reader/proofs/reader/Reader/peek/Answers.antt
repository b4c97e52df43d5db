use Rattle.std.proofs.Common.{◌≡◌, ◌+◌, false, Some, slice_get, drop, refl, sym, ap, ◌∙◌, arith, length-drop}
use Rattle.std.proofs.slice.Searches.{copied_from_item}
use Rattle.std.proofs.lemmas.List.Sums.{prefix_len-le-length}
use Rattle.std.proofs.lemmas.Option.{slice_get_read}
use Rattle.reader.specs.States.{is_error}
use Rattle.reader.proofs.Readers.{peeked}
use Rattle.reader.proofs.Rows.{none_ahead}
use Rattle.reader.proofs.reader.Reader.peek.Goals as goal

pub overflow_add-self : goal.overflow_add-self
overflow_add-self c =
    let p = c.args.self.now in
    omega (arith, c.errors_ahead.ensures, prefix_len-le-length is_error (drop p.at p.row.now), length-drop p.at p.row.now)

pub returns-in-Some : goal.returns-in-Some
returns-in-Some c =
    let p = c.args.self.now in
    let e = c.in-Some.event.now in
    let here = c.in-Some.ensures.lookup in
    let shown : slice_get p.row.now p.at ≡ Some e = slice_get_read p.row.now _ p.at e refl here.3.0 (here.3.1 e) in
    let seen : is_error e ≡ false = grind (arith, c.is_error.ensures) in
    peeked p p (Some e) (record { row = refl; source = refl }) (omega (arith, none_ahead p.row.now p.at e shown seen)) refl refl (sym shown)

pub returns-in_default : goal.returns-in_default
returns-in_default c =
    let p = c.args.self.now in
    peeked p _ _ (record { row = refl; source = refl }) (ap (λ n. p.at + n) c.errors_ahead.ensures) refl refl
    (c.copied.ensures ∙ copied_from_item _ _ _ _ (λ h. h) (λ h. h) c.get-in_default.ensures.lookup)
