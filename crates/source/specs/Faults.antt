-- The faults of packed bytes, by number and word.
use Rattle.std.specs.Prelude.{ℕ, List, codes}
use Rattle.source.specs.declared.close.Fault.{Fault}
use Rattle.source.specs.declared.close.Fault.TheVariants.{Cut, UnknownTag, WrongLength, UnknownKind}

abbrev pub number_of : Fault → ℕ
number_of Cut = 1
number_of UnknownTag = 2
number_of WrongLength = 3
number_of UnknownKind = 4

abbrev pub word_of : Fault → List ℕ
word_of Cut = codes "Cut"
word_of UnknownTag = codes "UnknownTag"
word_of WrongLength = codes "WrongLength"
word_of UnknownKind = codes "UnknownKind"
