-- What the scripts of a link go by: its log says of them what the machine of scripts has, and an opening of authentication stands exactly where a peer has proved itself.
use Rattle.std.specs.Prelude.{◌≡◌, is_some}
use Rattle.ppp_hooks.specs.HookFacts.{StandsFor}
use Rattle.ppp_mark.specs.Scripts.{AreUpOrDown, said_in}
use Rattle.ppp_link_rules.specs.Facts.{peer_of}
use Rattle.ppp_link_rules.specs.LinkState.{LinkState, control}

pub record ScriptsStand (s : LinkState) : Type 0 where
  pub stands : StandsFor s.scripts (said_in s.log.past)
  pub directions : AreUpOrDown s.log.past
  pub named : is_some (control s).auth_open ≡ is_some (peer_of s.auth)
