-- What a source answers, by what it means.
use Rattle.std.specs.Prelude.{List, [], ◌∷◌, Option, Some, None, Result, Ok, Err}
use Rattle.syntax.specs.declared.event.Event.{Event}
use Rattle.source.specs.declared.close.Fault.{Fault}

-- how a source closes: at its end, or at a fault
abbrev pub Close : Type 0
Close = Option Fault

-- what it answers: its next event, nothing at the end, or a fault
abbrev pub Next : Type 0
Next = Result (Option Event) Fault

-- the first event, or the close where there is none
abbrev pub next_of : List Event → Close → Next
next_of [] None = Ok None
next_of [] (Some f) = Err f
next_of (e ∷ es) close = Ok (Some e)

-- the events behind the first
abbrev pub rest_of : List Event → List Event
rest_of [] = []
rest_of (e ∷ es) = es
