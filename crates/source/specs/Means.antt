-- What packed bytes mean: a list of events, and then the end or a fault.
use Rattle.std.specs.Prelude.{◌≡◌, ℕ, ◌<◌, ◌≤◌, List, [], ◌∷◌, length, Some, None, ◌≢◌}
use Rattle.syntax.specs.declared.event.Event.{Event}
use Rattle.syntax.specs.Spans.{span_of}
use Rattle.source.specs.declared.close.Fault.{Fault}
use Rattle.source.specs.Meaning.{Close}
use Rattle.source.specs.Records.{two, four, size_of, event_of}

pub data Means : List ℕ → List Event → Close → Type 0 where
  -- tag 0 with length 0 is the end, whatever stands behind it
  ended : {behind : List ℕ} → Means (0 ∷ 0 ∷ 0 ∷ behind) [] None
  -- a tag, the length 10, a number of two bytes, a start and an end of four: an event, and what the bytes behind it mean
  given : {tag m n s t u v w x y z : ℕ} {behind : List ℕ} {e : Event} {es : List Event} {c : Close} → event_of tag (two m n) (span_of (four s t u v) (four w x y z)) ≡ Some e → Means behind es c → Means (tag ∷ 0 ∷ 10 ∷ m ∷ n ∷ s ∷ t ∷ u ∷ v ∷ w ∷ x ∷ y ∷ z ∷ behind) (e ∷ es) c
  -- fewer than three bytes left
  head_cut : {bytes : List ℕ} → length bytes < 3 → Means bytes [] (Some Fault.Cut)
  unknown_tag : {tag h l : ℕ} {behind : List ℕ} → 4 < tag → Means (tag ∷ h ∷ l ∷ behind) [] (Some Fault.UnknownTag)
  wrong_length : {tag h l : ℕ} {behind : List ℕ} → tag ≤ 4 → (two h l ≢ size_of tag) → Means (tag ∷ h ∷ l ∷ behind) [] (Some Fault.WrongLength)
  -- the length is right, and fewer bytes are left than it says
  payload_cut : {tag h l : ℕ} {behind : List ℕ} → tag ≤ 4 → two h l ≡ size_of tag → length behind < size_of tag → Means (tag ∷ h ∷ l ∷ behind) [] (Some Fault.Cut)
  unknown_kind : {tag m n s t u v w x y z : ℕ} {behind : List ℕ} → 0 < tag → tag ≤ 4 → event_of tag (two m n) (span_of (four s t u v) (four w x y z)) ≡ None → Means (tag ∷ 0 ∷ 10 ∷ m ∷ n ∷ s ∷ t ∷ u ∷ v ∷ w ∷ x ∷ y ∷ z ∷ behind) [] (Some Fault.UnknownKind)
