-- Which plain states a link's machine stands for: of its chat, its LCP, its phase of authentication it keeps no calls.
use Rattle.std.specs.Prelude.{◌≡◌, ◌≤◌, ◌^◌, ◌==◌, Bool, true, false, Option, None, Some, is_none, is_some, ⊤}
use Rattle.ppp_hooks.specs.HookPast.{open_in}
use Rattle.ppp_lcp.specs.Session.{StandsFor as IsLcp}
use Rattle.ppp_lcp.specs.declared.lcp.Lcp.{Lcp}
use Rattle.ppp_lcp.specs.declared.wish.LcpWish.{LcpWish}
use Rattle.ppp_auth.specs.Phase.{StandsFor as IsPhase, setting_of}
use Rattle.ppp_auth.specs.declared.phase.AuthPhase.{AuthPhase}
use Rattle.ppp_mark.specs.Scripts.{said_in}
use Rattle.ppp_link_parts.specs.Records.{DialStands}
use Rattle.ppp_link_parts.specs.Talk.{Listens}
use Rattle.ppp_link_parts.specs.UpRing.{has_leave, ring_of}
use Rattle.ppp_link_rules.specs.declared.cause.Cause.{Cause}
use Rattle.ppp_link_rules.specs.Facts.{peer_of}
use Rattle.ppp_link_rules.specs.LinkState.{AuthPart, LcpPart, LinkState, Listener, control}
use Rattle.ppp_link_rules.specs.Wishes.{IsWish, dial_policy}
use Rattle.ppp_link_core.specs.declared.link_core.LinkCore.{LinkCore}

-- what the machine doesn't keep: what LCP was asked for, and the calls
pub record Histories : Type 0 where
  pub wish : LcpWish
  pub listener : Listener
  pub lcp : Option LcpPart
  pub auth : Option AuthPart

abbrev pub histories_of : LinkState → Histories
histories_of s = record { wish = s.wish; listener = s.listener; lcp = s.lcp; auth = s.auth }

abbrev pub state_of : {S : Type 0} → LinkCore S → Histories → LinkState
state_of c h = record {
  id = c.id;
  config = c.config;
  wish = h.wish;
  secrets = c.secrets;
  time = c.time;
  words = c.words;
  log = c.records.scripts.log;
  scripts = c.records.scripts.machine.facts;
  job_out = is_none c.records.scripts.machine.spawner;
  dial = c.dial;
  failed_dials = c.failed_dials;
  reading = c.reading;
  writing = c.writing;
  line_ended = c.line_ended;
  taken = c.taken;
  listener = h.listener;
  deframer = c.deframer;
  counts = c.counts;
  lcp = h.lcp;
  auth = h.auth;
  out = c.out;
  up = ring_of c.up;
}

-- LCP stands for its calls, where there is one.
abbrev pub LcpStands : LcpWish → Option Lcp → Option LcpPart → Type 0
LcpStands wish None None = ⊤
LcpStands wish (Some l) (Some part) = IsLcp wish part.words l part.calls
LcpStands wish None (Some part) = ⊥
LcpStands wish (Some l) None = ⊥

-- And so does the phase of authentication.
abbrev pub AuthStands : Option AuthPhase → Option AuthPart → Type 0
AuthStands None None = ⊤
AuthStands (Some phase) (Some part) = IsPhase phase part.calls × (setting_of phase ≡ part.setting)
AuthStands None (Some part) = ⊥
AuthStands (Some phase) None = ⊥

-- The machine stands for a state. In a stay no Leave waits, and what is open of authentication the peer has opened.
pub record StandsFor {S : Type 0} (c : LinkCore S) (s : LinkState) : Type 0 where
  pub is : state_of c (histories_of s) ≡ s
  pub id : c.records.id ≡ c.id
  pub moment : c.time ≤ 2 ^ 56
  pub asks : IsWish c.config s.wish
  pub listens : Listens c.config.script c.talk s.listener
  pub negotiates : LcpStands s.wish c.lcp s.lcp
  pub proves : AuthStands c.auth s.auth
  pub dials : DialStands c.config.line c.records
  pub policy : c.records.dial.policy ≡ dial_policy c.config
  pub fits : is_some (control s).stay ≡ true → has_leave s.up.waiting ≡ false
  pub passes : is_some (open_in (said_in s.log.past)) ≡ true → is_some (peer_of s.auth) ≡ true

-- It stands for some state.
pub record Lives {S : Type 0} (c : LinkCore S) : Type 0 where
  pub state : LinkState
  pub stands : StandsFor c state

-- What a call does: it makes of each state that the machine stands for the one that the rule says.
pub record Does {S : Type 0} (rule : LinkState → LinkState) (old new : LinkCore S) : Type 0 where
  pub stands : (s : LinkState) → StandsFor old s → StandsFor new (rule s)

-- The phase of authentication has told a peer's name.
pub record Named (phase : Option AuthPhase) : Type 0 where
  pub part : Option AuthPart
  pub proves : AuthStands phase part
  pub named : is_some (peer_of part) ≡ true

-- whether LCP is in Opened
abbrev pub opened : Option Lcp → Bool
opened None = false
opened (Some l) = l.core.fsm.state == 9

-- Where LCP wasn't in Opened, there is no phase of authentication.
pub record Sits {S : Type 0} (was_open : Bool) (c : LinkCore S) : Type 0 where
  pub none : was_open ≡ false → is_some c.auth ≡ false

-- A cause of the table.
pub record IsCause (c : Cause) : Type 0 where
  pub least : 1 ≤ c.number
  pub most : c.number ≤ 16
