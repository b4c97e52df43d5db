-- Packed bytes read record by record: the meaning as a function.
use Rattle.std.specs.Prelude.{◌≡◌, ℕ, zero, suc, ◌+◌, cond, not, List, [], ◌∷◌, length, Some, None, Option, Ok, Err, Result, ◌==◌, nat_lt, slice_index}
use Rattle.syntax.specs.declared.event.Event.{Event}
use Rattle.syntax.specs.Spans.{span_of}
use Rattle.source.specs.declared.close.Fault.{Fault}
use Rattle.source.specs.Meaning.{Close, Next}
use Rattle.source.specs.Records.{two, four, size_of, event_of}
use Rattle.source.specs.Means.{Means}

abbrev pub two_at : List ℕ → ℕ → ℕ
two_at bs i = two (slice_index bs i) (slice_index bs (i + 1))

abbrev pub four_at : List ℕ → ℕ → ℕ
four_at bs i = four (slice_index bs i) (slice_index bs (i + 1)) (slice_index bs (i + 2)) (slice_index bs (i + 3))

abbrev pub known : Option Event → Next
known None = Err Fault.UnknownKind
known (Some e) = Ok (Some e)

-- what a record's event, or a fault in it, gives
abbrev pub given : Result Event Fault → Next
given (Ok e) = Ok (Some e)
given (Err f) = Err f

-- what the ten bytes behind a tag and a length give
abbrev pub content_of : ℕ → List ℕ → Next
content_of tag bs = known (event_of tag (two_at bs 3) (span_of (four_at bs 5) (four_at bs 9)))

-- what stands first in the bytes, the faults tested in their order
abbrev pub front_of : List ℕ → Next
front_of bs =
    cond (nat_lt (length bs) 3) (Err Fault.Cut)
    (cond (nat_lt 4 (slice_index bs 0)) (Err Fault.UnknownTag)
    (cond (not (two_at bs 1 == size_of (slice_index bs 0))) (Err Fault.WrongLength)
    (cond (nat_lt (length bs) (3 + size_of (slice_index bs 0))) (Err Fault.Cut)
    (cond (slice_index bs 0 == 0) (Ok None) (content_of (slice_index bs 0) bs)))))

abbrev pub events_from : Next → List Event → List Event
events_from (Ok None) es = []
events_from (Ok (Some e)) es = e ∷ es
events_from (Err f) es = []

abbrev pub close_from : Next → Close → Close
close_from (Ok None) c = None
close_from (Ok (Some e)) c = c
close_from (Err f) c = Some f

-- the events in the bytes behind the first k: a record of an event is 13 bytes long
abbrev pub events_in : List ℕ → ℕ → List Event
events_in [] k = []
events_in (b ∷ bs) zero = events_from (front_of (b ∷ bs)) (events_in bs 12)
events_in (b ∷ bs) (suc k) = events_in bs k

-- and what comes after them
abbrev pub close_in : List ℕ → ℕ → Close
close_in [] k = Some Fault.Cut
close_in (b ∷ bs) zero = close_from (front_of (b ∷ bs)) (close_in bs 12)
close_in (b ∷ bs) (suc k) = close_in bs k

-- bytes mean what is read from them, and nothing else
abbrev pub ReadOneWay : Type 0
ReadOneWay =
    (bs : List ℕ) → Means bs (events_in bs 0) (close_in bs 0) × ((es : List Event) (c : Close) → Means bs es c → (es ≡ events_in bs 0) × (c ≡ close_in bs 0))
