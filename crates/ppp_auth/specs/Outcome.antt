-- How a phase of authentication stands, from its two sides and the time since it began (RFC 1661, section 3.5).
use Rattle.std.specs.Prelude.{Option, Some, None, is_some, List, [], ◌∷◌, if◌then◌else◌}
use Rattle.ppp_base.specs.declared.allow.Allow.TheVariants as allow
use Rattle.ppp_packet.specs.declared.agreed.Method.{Method}
use Rattle.ppp_packet.specs.declared.agreed.Method.TheVariants.{Pap, Chap}
use Rattle.ppp_packet.specs.declared.auth_out.AuthOutcome.{AuthOutcome}
use Rattle.ppp_packet.specs.declared.auth_out.AuthOutcome.TheVariants.{Waiting, Passed, Refused, Unanswered}
use Rattle.ppp_auth.specs.declared.outcome.AuthNow.{AuthNow}
use Rattle.ppp_auth.specs.declared.outcome.AuthNow.TheVariants as stands
use Rattle.ppp_auth.specs.declared.outcome.Side.{Side}
use Rattle.ppp_auth.specs.declared.outcome.Side.TheVariants.{Done as done, Going as going, Lost as lost}
use Rattle.ppp_auth.specs.Setting.{Setting, PhaseAt, begun_at}
use Rattle.ppp_auth.specs.Judged.{judge_outcome, judged_in, judge_lost, peer_side}
use Rattle.ppp_auth.specs.Proved.{our_side}

-- Who the peer is, and the line by which it may have an address: what it means that both sides are done.
abbrev pub passed_by : Method → AuthOutcome → AuthNow
passed_by method Waiting = stands.Going
passed_by Pap (Passed name line) = stands.Passed (Some name) (allow.Pap line)
passed_by Chap (Passed name line) = stands.Passed (Some name) (allow.Chap line)
passed_by method (Refused name) = stands.Going
passed_by method (Unanswered times) = stands.Going

abbrev pub peer_passed : Option Method → Setting → List PhaseAt → AuthNow
peer_passed None s past = stands.Passed None allow.Any
peer_passed (Some method) s past =
    if judge_lost (Some method) s past then stands.Going else passed_by method (judge_outcome method s (judged_in method s past))

-- The peer's side is looked at first.
abbrev pub whole : AuthNow → Side → Side → AuthNow
whole passed lost ours = stands.PeerFailed
whole passed done lost = stands.WeFailed
whole passed going lost = stands.WeFailed
whole passed done done = passed
whole passed done going = stands.Going
whole passed going done = stands.Going
whole passed going going = stands.Going

-- A failure stays. A pass stays until we fail.
abbrev pub unless_lost : AuthNow → AuthNow → AuthNow
unless_lost passed stands.WeFailed = stands.WeFailed
unless_lost passed stands.Going = passed
unless_lost passed (stands.Passed peer allowed) = passed
unless_lost passed stands.PeerFailed = passed

abbrev pub later : AuthNow → AuthNow → AuthNow
later stands.Going now = now
later (stands.Passed peer allowed) now = unless_lost (stands.Passed peer allowed) now
later stands.PeerFailed now = stands.PeerFailed
later stands.WeFailed now = stands.WeFailed

-- what these calls say of the phase, which goes on until it has begun
abbrev pub says : Setting → List PhaseAt → AuthNow
says s past =
    if is_some (begun_at past)
    then whole (peer_passed s.peer_proves s past) (peer_side s.peer_proves s past) (our_side s.we_prove s past)
    else stands.Going

abbrev pub outcome_in : Setting → List PhaseAt → AuthNow
outcome_in s [] = stands.Going
outcome_in s (c ∷ past) = later (outcome_in s past) (says s (c ∷ past))
