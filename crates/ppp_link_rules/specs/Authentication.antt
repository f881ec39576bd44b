-- The phase of authentication (RFC 1661, section 3.5): it begins as LCP enters Opened, and tells when the peer has passed, and who failed.
use Rattle.std.specs.Prelude.{ℕ, ◌+◌, Bool, true, false, Option, None, Some, List, [], ◌∷◌}
use Rattle.ppp_base.specs.declared.allow.Allow.{Allow}
use Rattle.ppp_base.specs.declared.hook_target.HookTarget.TheVariants.{Link}
use Rattle.ppp_base.specs.RandomWords.{challenge_of, state_after}
use Rattle.ppp_packet.specs.declared.agreed.Agreed.{Agreed}
use Rattle.ppp_packet.specs.declared.packet.Packet.{Packet}
use Rattle.ppp_auth.specs.declared.out.PhaseOut.{PhaseOut}
use Rattle.ppp_auth.specs.declared.outcome.AuthNow.{AuthNow}
use Rattle.ppp_auth.specs.declared.outcome.AuthNow.TheVariants.{Going, Passed, PeerFailed, WeFailed}
use Rattle.ppp_auth.specs.Phase.{told_at}
use Rattle.ppp_auth.specs.Setting.{Setting, PhaseAt, PhaseCall, starts, takes}
use Rattle.ppp_hooks.specs.HookFacts.{settled, with_open}
use Rattle.ppp_mark.specs.Marks.{asked_mark}
use Rattle.ppp_mark.specs.ScriptLog.{log_opened, next_opening}
use Rattle.ppp_link_rules.specs.CauseStatus.{peer_failed, we_failed}
use Rattle.ppp_link_rules.specs.Ending.{ended_by}
use Rattle.ppp_link_rules.specs.LinkState.{LinkState, AuthPart, agreed, control, has_passed, is_open, outcome_of}
use Rattle.ppp_link_rules.specs.Marking.{marked}
use Rattle.ppp_link_rules.specs.Phase.{may_ask, phase_by}
use Rattle.ppp_link_rules.specs.Rings.{has_control, put_control}
use Rattle.ppp_link_rules.specs.Sending.{phase_sent}
use Rattle.ppp_link_rules.specs.UpValue.{JoinValue, Asks}
use Rattle.ppp_link_rules.specs.Wishes.{auth_config, script_args}

-- The peer has passed, under this name: authentication opens under the next number, and the script that is due then is started.
abbrev pub auth_opened : List ℕ → LinkState → LinkState
auth_opened peer s = record s {
  log = log_opened (Link s.id) s.time s.log;
  scripts = settled (with_open s.scripts (next_opening s.log) (script_args s.id s.config peer));
}

abbrev pub opened_for : Option (List ℕ) → LinkState → LinkState
opened_for None s = s
opened_for (Some peer) s = auth_opened peer s

-- who failed ends the session
abbrev pub ended_by_outcome : AuthNow → LinkState → LinkState
ended_by_outcome Going s = s
ended_by_outcome (Passed peer allow) s = s
ended_by_outcome PeerFailed s = ended_by peer_failed s
ended_by_outcome WeFailed s = ended_by we_failed s

-- What an answer leads to: its packets go out, the peer's passing opens authentication, and who failed ends the session.
abbrev pub phase_told : PhaseOut → AuthNow → LinkState → LinkState
phase_told out now s = ended_by_outcome now (opened_for out.peer_passed (phase_sent out.packets s))

-- the phase with one more call
abbrev pub with_phase : PhaseAt → AuthPart → LinkState → LinkState
with_phase c part s = record s { auth = Some (record part { calls = c ∷ part.calls }) }

abbrev pub answering : PhaseAt → AuthPart → LinkState → LinkState
answering c part s = phase_told (told_at part.setting c part.calls) (outcome_of (Some (record part { calls = c ∷ part.calls }))) (with_phase c part s)

abbrev pub called_part : PhaseCall → Option AuthPart → LinkState → LinkState
called_part call None s = s
called_part call (Some part) s = answering (record { now = s.time; call = call }) part s

-- A call of the phase at the link's time, where there is one.
unfoldable pub phase_called : PhaseCall → LinkState → LinkState
phase_called call s = called_part call s.auth s

-- LCP has entered Opened: the phase begins, by what was agreed on. Whatever the method, the next four words are a challenge.
abbrev pub setting_by : LinkState → Agreed → Setting
setting_by s terms = record {
  peer_proves = terms.peer_proves;
  we_prove = terms.we_prove;
  config = auth_config s.config;
  challenge = challenge_of s.words;
}

abbrev pub new_phase : Agreed → LinkState → LinkState
new_phase terms s = record s { auth = Some (record { setting = setting_by s terms; calls = [] }); words = state_after 4 s.words }

abbrev pub phase_begun_by : Option Agreed → LinkState → LinkState
phase_begun_by None s = s
phase_begun_by (Some terms) s = phase_called (starts s.secrets) (new_phase terms s)

unfoldable pub phase_begun : LinkState → LinkState
phase_begun s = phase_begun_by (agreed s) s

-- A packet of authentication was heard; a malformed one is discarded.
abbrev pub phase_heard : ℕ → Option Packet → LinkState → LinkState
phase_heard protocol None s = s
phase_heard protocol (Some packet) s = phase_called (takes protocol packet s.secrets) s

-- THE STAY

-- Who the peer is and which addresses it may have, with what LCP agreed on (RFC 1990, section 5.1).
abbrev pub join_of : ℕ → Agreed → Option (List ℕ) → Allow → JoinValue
join_of stay terms peer allow = record { stay = stay; peer = peer; disc = terms.disc; mrru = terms.mrru; mru = terms.peer_mru; allow = allow }

abbrev pub asked_for : ℕ → JoinValue → LinkState → LinkState
asked_for stay join s = record (marked (λ time. asked_mark time stay) s) { up = put_control (Asks join) s.up }

abbrev pub asked_by : AuthNow → Option Agreed → LinkState → LinkState
asked_by (Passed peer allow) (Some terms) s = asked_for ((control s).stays + 1) (join_of ((control s).stays + 1) terms peer allow) s
asked_by _ _ s = s

abbrev pub asked_if : Bool → LinkState → LinkState
asked_if true s = asked_by (outcome_of s.auth) (agreed s) s
asked_if false s = s

-- A Join is posted, with the next stay, as soon as one may be.
unfoldable pub join_tried : LinkState → LinkState
join_tried s = asked_if (may_ask (phase_by (is_open s) (has_passed (outcome_of s.auth))) (control s).stay (has_control s.up.waiting)) s
