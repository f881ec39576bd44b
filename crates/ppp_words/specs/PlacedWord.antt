-- A word and its line.
use Rattle.std.specs.Prelude.{ℕ, List}

-- what a word stands for, and the line on which it begins, from 1
pub record PlacedWord : Type 0 where
  pub octets : List ℕ
  pub line : ℕ
