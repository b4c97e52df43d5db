use Rattle.std.proofs.Common.{◌≡◌, ℕ, ◌+◌, ◌<◌, List, [], ◌∷◌, get_or, length, take, refl, sym, ap, ◌∙◌, arith, length-take}
use mir.Val.{bool_byte}
use Rattle.syntax.specs.declared.event.Event.{Event}
use Rattle.syntax.specs.declared.event.Event.TheVariants.{Error, Begin, End, Token}
use Rattle.grammar.specs.Extents.{entries_in}
use Rattle.reader.specs.States.{is_error}
use Rattle.reader.proofs.Rows.{entries_more, entries_few}
use Rattle.reader.proofs.reader.count_errors.Goals as goal

-- an event is one Error event, or none
one : (e : Event) → length (entries_in (e ∷ [])) ≡ bool_byte (is_error e)
one (Error m s) = refl
one (Begin k s) = refl
one (End k s) = refl
one (Token k s) = refl

-- with one event more
more : (row : List Event) (i n k : ℕ) (d : Event) → i < length row → n ≡ length (entries_in (take i row)) → k ≡ bool_byte (is_error (get_or row i d)) → n + k ≡ length (entries_in (take (i + 1) row))
more row i n k d h e f =
    ap (λ x. x + k) e ∙ ap (λ x. length (entries_in (take i row)) + x) (f ∙ sym (one (get_or row i d))) ∙ sym (entries_more row i d h)

pub overflow_add-count : goal.overflow_add-count
overflow_add-count c =
    let row = c.args.events.now in
    let i = c.loop-event.event-index in
    let sum : c.loop-event.count + c.from-count.result ≡ length (entries_in (take (i + 1) row)) =
    more row i _ _ _ c.loop-event-test.true c.loop-event.invariant (c.from-count.ensures ∙ ap bool_byte c.is_error.ensures) in
    omega (arith, sum, entries_few (take (i + 1) row), length-take (i + 1) row, c.well_formed)

pub loop-event-preserved : goal.loop-event-preserved
loop-event-preserved c =
    more c.args.events.now c.loop-event.event-index _ _ _ c.loop-event-test.true c.loop-event.invariant (c.from-count.ensures ∙ ap bool_byte c.is_error.ensures)
