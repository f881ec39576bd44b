-- The abort strings that the steps of a script set, kept while it is read.
use Rattle.std.specs.Prelude.{◌≡◌, ◌≤◌, List, length}
use Rattle.ppp_chat.specs.Settings.{settings_after}
use Rattle.ppp_chat.specs.Steps.{directives_in}
use Rattle.ppp_chat.specs.Texts.{AreBelow, AreShort, kept_settings}
use Rattle.ppp_chat.specs.Room.{AreFew}
use Rattle.ppp_chat.specs.declared.directives.Directives.{Directives}
use Rattle.ppp_chat.specs.declared.step.Step.{Step}

-- The steps have short strings and set few abort strings, and what is kept is what they set.
pub record AreObeyed (steps : List Step) (d : Directives) : Type 0 where
  pub short : AreShort steps
  pub few : AreFew steps
  pub below : AreBelow (length steps) d.aborts.items
  pub room : length d.aborts.items ≤ 50
  pub set : kept_settings steps d ≡ settings_after 0 (directives_in steps)
