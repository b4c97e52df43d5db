-- What the bytes mean, by what stands first in them.
use Rattle.std.proofs.Common.{◌≡◌, ℕ, zero, suc, ◌≤◌, List, [], ◌∷◌, length, drop, Some, None, Ok, Err, sym, refl, ap, ◌∙◌, arith}
use Rattle.syntax.specs.declared.event.Event.{Event}
use Rattle.source.specs.Meaning.{Close, Next, next_of}
use Rattle.source.specs.Reading.{front_of, events_in, close_in, events_from, close_from}

events_skip : (bs : List ℕ) (k : ℕ) → events_in bs k ≡ events_in (drop k bs) 0
events_skip [] zero = refl
events_skip [] (suc k) = refl
events_skip (b ∷ bs) zero = refl
events_skip (b ∷ bs) (suc k) = events_skip bs k

close_skip : (bs : List ℕ) (k : ℕ) → close_in bs k ≡ close_in (drop k bs) 0
close_skip [] zero = refl
close_skip [] (suc k) = refl
close_skip (b ∷ bs) zero = refl
close_skip (b ∷ bs) (suc k) = close_skip bs k

-- a record that gives an event is taken with its 13 bytes
pub event_events : (bs : List ℕ) (e : Event) → Ok (Some e) ≡ front_of bs → events_in bs 0 ≡ e ∷ events_in (drop 13 bs) 0
event_events [] e h = let z : ◌≡◌ {A = ℕ} 0 1 = cc in absurd (omega arith)
event_events (b ∷ bs) e h = ap (λ f. events_from f (events_in bs 12)) (sym h) ∙ ap (λ es. e ∷ es) (events_skip bs 12)

pub event_close : (bs : List ℕ) (e : Event) → Ok (Some e) ≡ front_of bs → close_in bs 0 ≡ close_in (drop 13 bs) 0
event_close [] e h = let z : ◌≡◌ {A = ℕ} 0 1 = cc in absurd (omega arith)
event_close (b ∷ bs) e h = ap (λ f. close_from f (close_in bs 12)) (sym h) ∙ close_skip bs 12

-- and where the front closes the source, there is no event
pub closed_events : (bs : List ℕ) (c : Close) → next_of [] c ≡ front_of bs → events_in bs 0 ≡ []
closed_events [] c h = refl
closed_events (b ∷ bs) None h = ap (λ f. events_from f (events_in bs 12)) (sym h)
closed_events (b ∷ bs) (Some f) h = ap (λ f. events_from f (events_in bs 12)) (sym h)

pub closed_close : (bs : List ℕ) (c : Close) → next_of [] c ≡ front_of bs → close_in bs 0 ≡ c
closed_close [] None h = cc
closed_close [] (Some f) h = cc
closed_close (b ∷ bs) None h = ap (λ f. close_from f (close_in bs 12)) (sym h)
closed_close (b ∷ bs) (Some f) h = ap (λ f. close_from f (close_in bs 12)) (sym h)

from_few : (f : Next) (es : List Event) (n : ℕ) → length es ≤ n → length (events_from f es) ≤ suc n
from_few (Ok None) es n h = omega arith
from_few (Ok (Some e)) es n h = omega arith
from_few (Err f) es n h = omega arith

pub events_few : (bs : List ℕ) (k : ℕ) → length (events_in bs k) ≤ length bs
events_few [] k = omega arith
events_few (b ∷ bs) zero = from_few (front_of (b ∷ bs)) (events_in bs 12) (length bs) (events_few bs 12)
events_few (b ∷ bs) (suc k) = omega (arith, events_few bs k)
