-- What was written, then the end, means the events written.
use Rattle.std.proofs.Common.{◌≡◌, ℕ, ◌/◌, ◌%◌, Bool, true, cond, List, [], ◌∷◌, ◌++◌, Some, None, sym, refl, ap, ◌∙◌, subst, arith}
use Rattle.syntax.specs.declared.event.Event.{Event}
use Rattle.syntax.specs.declared.event.Event.TheVariants.{Error, Begin, End, Token}
use Rattle.syntax.specs.Events.{span_at}
use Rattle.syntax.specs.Spans.{span_of}
use Rattle.kinds.proofs.Inverse.{kind_of_number}
use Rattle.source.specs.Means.{Means, ended, given}
use Rattle.source.specs.Records.{two, four, kinded, event_of, tag_of, number_in, record_of, written, end_record}

two_back : (n : ℕ) → two (n / 256) (n % 256) ≡ n
two_back n = omega arith

four_back : (n : ℕ) → four (n / 16777216) (n / 65536 % 256) (n / 256 % 256) (n % 256) ≡ n
four_back n = omega arith

event_back : (e : Event) → event_of (tag_of e) (number_in e) (span_at e) ≡ Some e
event_back (Error m s) = refl
event_back (Begin k s) = ap (λ o. kinded o (λ k. Begin k s)) (kind_of_number k)
event_back (End k s) = ap (λ o. kinded o (λ k. End k s)) (kind_of_number k)
event_back (Token k s) = ap (λ o. kinded o (λ k. Token k s)) (kind_of_number k)

record_back : (e : Event) → event_of (tag_of e) (two (number_in e / 256) (number_in e % 256)) (span_of (four ((span_at e).start / 16777216) ((span_at e).start / 65536 % 256) ((span_at e).start / 256 % 256) ((span_at e).start % 256)) (four ((span_at e).end / 16777216) ((span_at e).end / 65536 % 256) ((span_at e).end / 256 % 256) ((span_at e).end % 256))) ≡ Some e
record_back e = rw (two_back (number_in e), four_back (span_at e).start, four_back (span_at e).end) (event_back e)

pub round_trip : (es : List Event) (behind : List ℕ) → Means (written es ++ (end_record ++ behind)) es None
round_trip [] behind = ended
round_trip (e ∷ es) behind = given (record_back e) (round_trip es behind)

pub written_more : (es : List Event) (e : Event) → written es ++ record_of e ≡ written (es ++ e ∷ [])
written_more [] e = refl
written_more (x ∷ es) e = ap (λ bs. record_of x ++ bs) (written_more es e)

-- what `append` and `append_end` leave, where they succeed
pub append_more : (old new : List ℕ) (e : Event) (b : Bool) → new ≡ cond b (old ++ record_of e) old → (es : List Event) → old ≡ written es → b ≡ true → new ≡ written (es ++ e ∷ [])
append_more old new e b h es w t =
    h ∙ ap (λ b. cond b (old ++ record_of e) old) t ∙ ap (λ bs. bs ++ record_of e) w ∙ written_more es e

pub append_means : (old new : List ℕ) (b : Bool) → new ≡ cond b (old ++ end_record) old → (es : List Event) → old ≡ written es → b ≡ true → Means new es None
append_means old new b h es w t =
    let whole : new ≡ written es ++ end_record = h ∙ ap (λ b. cond b (old ++ end_record) old) t ∙ ap (λ bs. bs ++ end_record) w in
    subst (λ bs. Means bs es None) (sym whole) (round_trip es [])
