-- What LCP and the phase of authentication tell at a call, and what that leads to: the rules, cut at the answer.
use Rattle.std.specs.Prelude.{ℕ, ◌+◌, ◌==◌, Bool, Option, None, Some, List}
use Rattle.ppp_auth.specs.Phase.{told_at}
use Rattle.ppp_auth.specs.Setting.{PhaseCall}
use Rattle.ppp_auth.specs.declared.out.PhaseOut.{PhaseOut}
use Rattle.ppp_control.specs.Rules.{Call, by_itself, closes, comes_up, goes_down, opens, ticks}
use Rattle.ppp_lcp.specs.declared.out.LcpOut.{LcpOut}
use Rattle.ppp_link_core.specs.declared.asks.LcpAsk.{LcpAsk}
use Rattle.ppp_link_core.specs.declared.asks.LcpAsk.TheVariants.{Open, Close, Up, Down, Tick}
use Rattle.ppp_base.specs.declared.allow.Allow.{Allow}
use Rattle.ppp_base.specs.declared.posts.CloseCause.{CloseCause}
use Rattle.ppp_base.specs.declared.posts.Refusal.{Refusal}
use Rattle.ppp_mark.specs.Marks.{refused_mark}
use Rattle.ppp_packet.specs.declared.agreed.Agreed.{Agreed}
use Rattle.ppp_link_rules.specs.CauseStatus.{closed_by, join_refused}
use Rattle.ppp_link_rules.specs.Marking.{marked}
use Rattle.ppp_link_rules.specs.Posts.{made_member}
use Rattle.ppp_link_rules.specs.Authentication.{asked_for, join_of, phase_told, with_phase}
use Rattle.ppp_link_rules.specs.Ending.{ended_by, left_if, with_call}
use Rattle.ppp_link_rules.specs.LcpAnswer.{lcp_answer}
use Rattle.ppp_link_rules.specs.LcpCalls.{answered, cause_of}
use Rattle.ppp_link_rules.specs.LinkState.{AuthPart, Framing, LcpPart, LinkState, control, outcome_of}
use Rattle.ppp_link_rules.specs.Sending.{packets_sent}

-- which call an asking is
abbrev pub call_of : LcpAsk → Call (Unit {0})
call_of Open = by_itself opens
call_of Close = by_itself closes
call_of Up = by_itself comes_up
call_of Down = by_itself goes_down
call_of Tick = ticks

-- LCP's answer, where there is an LCP part, and the state with the call
abbrev pub lcp_told_by : Call (Unit {0}) → ℕ → LinkState → Option LcpPart → Option LcpOut
lcp_told_by call now s None = None
lcp_told_by call now s (Some part) = Some (lcp_answer s.wish part.words part.calls call now)

abbrev pub lcp_told : Call (Unit {0}) → ℕ → LinkState → Option LcpOut
lcp_told call now s = lcp_told_by call now s s.lcp

abbrev pub lcp_asked_by : Call (Unit {0}) → ℕ → LinkState → Option LcpPart → LinkState
lcp_asked_by call now s None = s
lcp_asked_by call now s (Some part) = with_call call now (lcp_answer s.wish part.words part.calls call now) part s

abbrev pub lcp_asked : Call (Unit {0}) → ℕ → LinkState → LinkState
lcp_asked call now s = lcp_asked_by call now s s.lcp

-- at the link's time
abbrev pub lcp_asked_now : Call (Unit {0}) → LinkState → LinkState
lcp_asked_now call s = lcp_asked call s.time s

-- what the answer to Close leads to, and to any other call, by the state before it
abbrev pub closed_told : Bool → Option LcpOut → LinkState → LinkState
closed_told was_open None s = s
closed_told was_open (Some out) s = left_if was_open (packets_sent out.packets s)

abbrev pub answered_told : ℕ → Option LcpOut → LinkState → LinkState
answered_told state None s = s
answered_told state (Some out) s = answered (state == 9) (cause_of state out) out s

-- the answer of the phase, where there is one, the state with the call, and what the answer leads to
abbrev pub phase_answer_by : PhaseCall → LinkState → Option AuthPart → Option PhaseOut
phase_answer_by call s None = None
phase_answer_by call s (Some part) = Some (told_at part.setting (record { now = s.time; call = call }) part.calls)

abbrev pub phase_answer : PhaseCall → LinkState → Option PhaseOut
phase_answer call s = phase_answer_by call s s.auth

abbrev pub phase_asked_by : PhaseCall → LinkState → Option AuthPart → LinkState
phase_asked_by call s None = s
phase_asked_by call s (Some part) = with_phase (record { now = s.time; call = call }) part s

abbrev pub phase_asked : PhaseCall → LinkState → LinkState
phase_asked call s = phase_asked_by call s s.auth

abbrev pub phase_followed : Option PhaseOut → LinkState → LinkState
phase_followed None s = s
phase_followed (Some out) s = phase_told out (outcome_of s.auth) s

-- a Join is posted, with the next stay
abbrev pub asked_with : Agreed → Option (List ℕ) → Allow → LinkState → LinkState
asked_with terms peer allow s = asked_for ((control s).stays + 1) (join_of ((control s).stays + 1) terms peer allow) s

-- the mark of a Join that was refused, and what a refusal and the end of the bundle do
abbrev pub refusal_marked : ℕ → Refusal → LinkState → LinkState
refusal_marked stay reason s = marked (λ time. refused_mark time reason stay) s

abbrev pub refused_stay : ℕ → Refusal → LinkState → LinkState
refused_stay stay reason s = ended_by (join_refused reason) (refusal_marked stay reason s)

abbrev pub closed_stay : ℕ → ℕ → CloseCause → Bool → LinkState → LinkState
closed_stay stay unit why live s = ended_by (closed_by why) (made_member stay unit live s)

-- from the next octet on frames are heard
abbrev pub frames_heard : LinkState → LinkState
frames_heard s = record s { listener = Framing }
