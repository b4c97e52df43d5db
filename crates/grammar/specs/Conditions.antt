-- Which events are a condition, and what may begin one.
use Rattle.std.specs.Prelude.{◌≡◌, [], ◌++◌}
use Rattle.grammar.specs.Words.{Word}
use Rattle.grammar.specs.Grammar.{BE, spell-BE}

-- a word that is a condition
pub record Spelled (v : Word) : Type 0 where
  pub value : BE
  pub spelled : v ≡ spell-BE value []

-- some condition begins so
pub record Begins (u : Word) : Type 0 where
  pub value : BE
  pub more : Word
  pub spelled : spell-BE value [] ≡ u ++ more
