-- Packed events: each a record of a tag, a length and ten bytes. Numbers stand with their highest byte first.
use Rattle.std.specs.Prelude.{ℕ, zero, suc, ◌+◌, ◌*◌, ◌/◌, ◌%◌, List, [], ◌∷◌, ◌++◌, Some, None, Option}
use Rattle.syntax.specs.declared.event.Event.{Event}
use Rattle.syntax.specs.declared.event.Event.TheVariants.{Error, Begin, End, Token}
use Rattle.kinds.specs.declared.kind.SyntaxKind.{SyntaxKind}
use Rattle.syntax.specs.declared.span.Span.{Span}
use Rattle.kinds.specs.Kinds.{kind_of, number_of}
use Rattle.syntax.specs.Events.{span_at}

-- the number of two bytes, and of four
abbrev pub two : ℕ → ℕ → ℕ
two a b = a * 256 + b

abbrev pub four : ℕ → ℕ → ℕ → ℕ → ℕ
four a b c d = two a b * 65536 + two c d

abbrev pub two_of : ℕ → List ℕ
two_of n = n / 256 ∷ n % 256 ∷ []

abbrev pub four_of : ℕ → List ℕ
four_of n = n / 16777216 ∷ n / 65536 % 256 ∷ n / 256 % 256 ∷ n % 256 ∷ []

-- how many bytes follow the tag and the length: none behind the end's tag, ten behind an event's
abbrev pub size_of : ℕ → ℕ
size_of zero = 0
size_of (suc tag) = 10

abbrev pub kinded : Option SyntaxKind → (SyntaxKind → Event) → Option Event
kinded None f = None
kinded (Some k) f = Some (f k)

-- the event of a tag from 1 to 4, a number (a kind's, or a message) and a span; none where the number is no kind's
abbrev pub event_of : ℕ → ℕ → Span → Option Event
event_of zero n s = None
event_of (suc zero) n s = kinded (kind_of n) (λ k. Begin k s)
event_of (suc (suc zero)) n s = kinded (kind_of n) (λ k. End k s)
event_of (suc (suc (suc zero))) n s = kinded (kind_of n) (λ k. Token k s)
event_of (suc (suc (suc (suc zero)))) n s = Some (Error n s)
event_of (suc (suc (suc (suc (suc tag))))) n s = None

abbrev pub tag_of : Event → ℕ
tag_of (Error m s) = 4
tag_of (Begin k s) = 1
tag_of (End k s) = 2
tag_of (Token k s) = 3

abbrev pub number_in : Event → ℕ
number_in (Error m s) = m
number_in (Begin k s) = number_of k
number_in (End k s) = number_of k
number_in (Token k s) = number_of k

-- an event's record
abbrev pub record_of : Event → List ℕ
record_of e = tag_of e ∷ 0 ∷ 10 ∷ (two_of (number_in e) ++ (four_of (span_at e).start ++ four_of (span_at e).end))

-- the records of events, one behind the other
abbrev pub written : List Event → List ℕ
written [] = []
written (e ∷ es) = record_of e ++ written es

abbrev pub end_record : List ℕ
end_record = 0 ∷ 0 ∷ 0 ∷ []
