-- The worked examples hold by computing.
use Rattle.std.proofs.Common.{refl}
use Rattle.literal.specs.Escapes.{reading_from}
use Rattle.literal.specs.Examples.{Examples}
use Rattle.literal.specs.Utf8.{valid_from}

pub examples : Examples
unfolding valid_from reading_from
examples = record { large = refl; less = refl; least = refl; below = refl; zero = refl; hexadecimal = refl; octal = refl; escape = λ from. refl; escapes = refl; exact = refl; long = refl }
