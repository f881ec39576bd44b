-- One link, as plain values. What its control part is stands in its log alone and is read off it.
-- Of its chat, its LCP, its phase of authentication the state has the calls that each of them was asked.
use Rattle.std.specs.Prelude.{ℕ, ◌==◌, ◌&&◌, ◌||◌, not, Bool, true, false, Option, None, Some, is_none, List}
use Rattle.ppp_packet.specs.declared.agreed.Agreed.{Agreed}
use Rattle.ppp_chat.specs.declared.event.Event.{Event}
use Rattle.ppp_control.specs.Past.{automaton_after}
use Rattle.ppp_control.specs.Rules.{happened_in}
use Rattle.ppp_hdlc.specs.Deframing.{Deframing}
use Rattle.ppp_secrets.specs.declared.secrets.SecretsPair.{SecretsPair}
use Rattle.ppp_lcp.specs.declared.wish.LcpWish.{LcpWish}
use Rattle.ppp_lcp.specs.Session.{LcpCall, agreed_after}
use Rattle.ppp_auth.specs.Outcome.{outcome_in}
use Rattle.ppp_auth.specs.Setting.{Setting, PhaseAt}
use Rattle.ppp_auth.specs.declared.outcome.AuthNow.{AuthNow}
use Rattle.ppp_auth.specs.declared.outcome.AuthNow.TheVariants.{Going, Passed, PeerFailed, WeFailed}
use Rattle.ppp_hooks.specs.declared.facts.HookFacts.{HookFacts}
use Rattle.ppp_mark.specs.Log.{LogState}
use Rattle.ppp_option_words.specs.LinkValues.{LinkValues}
use Rattle.ppp_link_rules.specs.declared.counts.FrameCounts.{FrameCounts}
use Rattle.ppp_link_rules.specs.declared.errand.Errand.{Errand}
use Rattle.ppp_link_rules.specs.declared.errand.Errand.TheVariants.{Absent, Waiting, Out}
use Rattle.ppp_link_rules.specs.Before.{nothing_before}
use Rattle.ppp_link_rules.specs.Marks.{is_session}
use Rattle.ppp_link_rules.specs.Replay.{Control, Replay}
use Rattle.ppp_base.specs.RingAfter.{Ring}
use Rattle.ppp_link_rules.specs.UpValue.{UpValue}

-- who hears the octets of the line: nobody, the chat script after these calls, the oldest first, or the deframer
pub data Listener : Type 0 where
  Nobody : Listener
  Chatting : (calls : List Event) → Listener
  Framing : Listener

-- LCP: the state of its generator as it was made, and its calls, the newest first
pub record LcpPart : Type 0 where
  pub words : ℕ
  pub calls : List LcpCall

-- a phase of authentication: what it is about, and its calls, the newest first
pub record AuthPart : Type 0 where
  pub setting : Setting
  pub calls : List PhaseAt

pub record LinkState : Type 0 where
  -- what stays: the link's number, its options, what they ask of LCP, and the secrets
  pub id : ℕ
  pub config : LinkValues
  pub wish : LcpWish
  pub secrets : SecretsPair
  -- the greatest tick so far, in milliseconds, and the state of the generator of random words
  pub time : ℕ
  pub words : ℕ
  -- the log, the newest mark first; the scripts, and whether the running job was taken
  pub log : LogState
  pub scripts : HookFacts
  pub job_out : Bool
  -- the dial, and how many dials failed so far; the two halves of the line, whether it has ended, and how many octets of it were taken
  pub dial : Errand
  pub failed_dials : ℕ
  pub reading : Errand
  pub writing : Errand
  pub line_ended : Bool
  pub taken : ℕ
  -- who hears its octets; what the deframer keeps; what was heard over all sessions
  pub listener : Listener
  pub deframer : Deframing
  pub counts : FrameCounts
  -- the parts of the session
  pub lcp : Option LcpPart
  pub auth : Option AuthPart
  -- what waits for the line, and for the table
  pub out : Ring ℕ
  pub up : Ring UpValue

-- the control part
abbrev pub control : LinkState → Control
control s = Replay nothing_before s.log.past

-- a session lasts
abbrev pub is_lasting : LinkState → Bool
is_lasting s = is_session (control s).doing

-- a session lasts that nothing has ended
abbrev pub is_busy : LinkState → Bool
is_busy s = is_lasting s && is_none (control s).cause

-- the state of LCP, 0 where there is no LCP part (RFC 1661, section 4.2)
abbrev pub state_in : LcpWish → Option LcpPart → ℕ
state_in wish None = 0
state_in wish (Some part) = (automaton_after wish.limits (happened_in part.calls)).state

abbrev pub lcp_state : LinkState → ℕ
lcp_state s = state_in s.wish s.lcp

abbrev pub is_open : LinkState → Bool
is_open s = lcp_state s == 9

-- what both ends agreed on, in Opened alone
abbrev pub agreed_by : LcpWish → Option LcpPart → Option Agreed
agreed_by wish None = None
agreed_by wish (Some part) = agreed_after wish part.calls

abbrev pub agreed : LinkState → Option Agreed
agreed s = agreed_by s.wish s.lcp

-- how the phase of authentication stands, which goes on where there is none
abbrev pub outcome_of : Option AuthPart → AuthNow
outcome_of None = Going
outcome_of (Some part) = outcome_in part.setting part.calls

abbrev pub has_passed : AuthNow → Bool
has_passed Going = false
has_passed (Passed peer allow) = true
has_passed PeerFailed = false
has_passed WeFailed = false

-- The network phase (RFC 1661, section 3.6): LCP is in Opened, and who must has proved itself.
abbrev pub is_network : LinkState → Bool
is_network s = is_open s && has_passed (outcome_of s.auth)

abbrev pub is_absent : Errand → Bool
is_absent Absent = true
is_absent Waiting = false
is_absent Out = false

abbrev pub is_waiting : Errand → Bool
is_waiting Absent = false
is_waiting Waiting = true
is_waiting Out = false

abbrev pub is_out : Errand → Bool
is_out Absent = false
is_out Waiting = false
is_out Out = true

-- LCP still has to say goodbye: not Initial, Closed or Stopped
abbrev pub is_leaving : ℕ → Bool
is_leaving state = not (state == 0 || (state == 2 || state == 3))

-- The line is wanted while the session has one that hasn't ended, and there is no cause or LCP is still leaving.
abbrev pub wants_line : LinkState → Bool
wants_line s =
    is_lasting s && (not (is_absent s.reading) && (not s.line_ended && (is_none (control s).cause || is_leaving (lcp_state s))))
