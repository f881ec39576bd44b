-- What is so of a link between two calls. Where no session lasts, where something has ended it, or where it still dials, LCP isn't wanted and no chat
-- is heard. Each dial that failed was of a session of its own.
use Rattle.std.specs.Prelude.{ℕ, ◌≡◌, ◌≤◌, ◌+◌, ◌&&◌, Bool, true, false}
use Rattle.ppp_fsm.specs.Moving.{is_shut}
use Rattle.ppp_link_rules.specs.declared.errand.Errand.{Errand}
use Rattle.ppp_link_rules.specs.declared.errand.Errand.TheVariants.{Absent, Waiting, Out}
use Rattle.ppp_link_rules.specs.LinkState.{LinkState, Listener, Nobody, Chatting, Framing, control, is_absent, is_busy, lcp_state}
use Rattle.ppp_link_core.specs.declared.link_core.LinkCore.{LinkCore}
use Rattle.ppp_link_core.specs.Standing.{StandsFor}

-- a session lasts that nothing has ended, and its dial has come back
abbrev pub may_talk : LinkState → Bool
may_talk s = is_busy s && is_absent s.dial

abbrev pub is_chatting : Listener → Bool
is_chatting Nobody = false
is_chatting (Chatting calls) = true
is_chatting Framing = false

-- LCP isn't wanted (RFC 1661, section 4.2), and no chat is heard.
pub record IsStill (s : LinkState) : Type 0 where
  pub shut : is_shut (lcp_state s) ≡ true
  pub hushed : is_chatting s.listener ≡ false

-- a dial that hasn't come back may still fail
abbrev pub pending : Errand → ℕ
pending Absent = 0
pending Waiting = 1
pending Out = 1

pub record IsCalm (s : LinkState) : Type 0 where
  pub still : may_talk s ≡ false → IsStill s
  pub few : s.failed_dials + pending s.dial ≤ (control s).session

-- The machine stands for a state that is so.
pub record Calm {S : Type 0} (c : LinkCore S) : Type 0 where
  pub state : LinkState
  pub stands : StandsFor c state
  pub calm : IsCalm state
