-- Every refusal with its number, word, layer and place.
use Rattle.std.specs.Prelude.{ℕ, List, codes}
use Rattle.syntax.specs.declared.span.Span.{Span}
use Rattle.syntax.specs.Spans.{span_of}
use Rattle.refusal.specs.declared.refusal.Layer.{Layer}
use Rattle.refusal.specs.declared.refusal.Layer.TheVariants.{Grammar, Literal, Space, Source}
use Rattle.refusal.specs.declared.refusal.Refusal.{Refusal}
use Rattle.refusal.specs.declared.refusal.Refusal.TheVariants.{Damaged, OutOfPlace, TooDeep, BadSpan, InvalidUTF8, InvalidInteger, InvalidFloat, InvalidEscape, InvalidModifier, BadToken, TooLong, Full, SourceTooLarge, SourceFault, FloatTooLong}

-- what is said of a refusal
pub record Facts : Type 0 where
  pub number : ℕ
  pub word : List ℕ
  pub layer : Layer
  pub place : Span

-- where there is no place to give
abbrev nowhere : Span
nowhere = span_of 0 0

abbrev pub facts_of : Refusal → Facts
facts_of (Damaged s) = record { number = 1; word = codes "Damaged"; layer = Grammar; place = s }
facts_of (OutOfPlace s) = record { number = 2; word = codes "OutOfPlace"; layer = Grammar; place = s }
facts_of (TooDeep s) = record { number = 3; word = codes "TooDeep"; layer = Grammar; place = s }
facts_of (BadSpan s) = record { number = 4; word = codes "BadSpan"; layer = Grammar; place = s }
facts_of (InvalidUTF8 s) = record { number = 5; word = codes "InvalidUTF8"; layer = Literal; place = s }
facts_of (InvalidInteger s) = record { number = 6; word = codes "InvalidInteger"; layer = Literal; place = s }
facts_of (InvalidFloat s) = record { number = 7; word = codes "InvalidFloat"; layer = Literal; place = s }
facts_of (InvalidEscape s) = record { number = 8; word = codes "InvalidEscape"; layer = Literal; place = s }
facts_of (InvalidModifier s) = record { number = 9; word = codes "InvalidModifier"; layer = Literal; place = s }
facts_of (BadToken s) = record { number = 10; word = codes "BadToken"; layer = Literal; place = s }
facts_of TooLong = record { number = 11; word = codes "TooLong"; layer = Space; place = nowhere }
facts_of (Full slots text) = record { number = 12; word = codes "Full"; layer = Space; place = nowhere }
facts_of SourceTooLarge = record { number = 13; word = codes "SourceTooLarge"; layer = Space; place = nowhere }
facts_of (SourceFault f) = record { number = 14; word = codes "SourceFault"; layer = Source; place = nowhere }
facts_of (FloatTooLong s) = record { number = 15; word = codes "FloatTooLong"; layer = Literal; place = s }
