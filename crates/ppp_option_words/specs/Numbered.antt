-- A number behind its word.
use Rattle.std.specs.Prelude.{ℕ}
use Rattle.ppp_option_words.specs.declared.number.Number.{Number}

pub record NumberSaid : Type 0 where
  pub word : Number
  pub number : ℕ
