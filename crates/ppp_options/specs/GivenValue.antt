-- What the words so far have said, as the private calls keep it.
use Rattle.std.specs.Prelude.{ℕ, List}
use Rattle.ppp_option_words.specs.declared.item.Item.{Item}
use Rattle.ppp_options.specs.declared.given.Awaits.{Awaits}

pub record GivenValue : Type 0 where
  pub items : List Item
  pub awaits : Awaits
  pub links : ℕ
