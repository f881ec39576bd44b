-- What our judge of the peer has seen and answered in a phase.
use Rattle.std.specs.Prelude.{ℕ, ◌≡◌, Bool, true, false, Option, Some, None, List, [], ◌∷◌, if◌then◌else◌}
use Rattle.ppp_packet.specs.declared.packet.Packet.{Packet}
use Rattle.ppp_packet.specs.declared.agreed.Method.{Method}
use Rattle.ppp_packet.specs.declared.agreed.Method.TheVariants.{Pap, Chap}
use Rattle.ppp_packet.specs.declared.auth_out.AuthOutcome.{AuthOutcome}
use Rattle.ppp_proving.specs.Calls.{AuthCall, Answered, first_of, sent_at, is_waiting}
use Rattle.ppp_pap.specs.Judge.{said_by as pap_says, outcome_in as pap_outcome, sends as pap_sends, StandsFor as PapStandsFor}
use Rattle.ppp_chap.specs.Judge.{said_by as chap_says, outcome_in as chap_outcome, sends as chap_sends, StandsFor as ChapStandsFor}
use Rattle.ppp_auth.specs.declared.judging.JudgePart.{JudgePart}
use Rattle.ppp_auth.specs.declared.judging.JudgePart.TheVariants as part
use Rattle.ppp_auth.specs.declared.outcome.Side.{Side}
use Rattle.ppp_auth.specs.declared.outcome.Side.TheVariants.{Done as done, Lost as lost}
use Rattle.ppp_auth.specs.Sides.{side_of}
use Rattle.ppp_auth.specs.Setting.{Setting, PhaseAt, begun_at, reaching, is_lost}

-- how a judge of this method stands after these calls
abbrev pub judge_outcome : Method → Setting → List Answered → AuthOutcome
judge_outcome Pap s past = pap_outcome past
judge_outcome Chap s past = chap_outcome s.challenge past

-- what it answers to one more
abbrev pub outcome_then : Method → Setting → List Answered → ℕ → AuthCall → AuthOutcome
outcome_then Pap s past now call = first_of (pap_outcome past) (pap_says call)
outcome_then Chap s past now call = first_of (chap_outcome s.challenge past) (chap_says s.challenge (sent_at past) now call)

abbrev pub packet_then : Method → Setting → List Answered → ℕ → AuthCall → Option Packet
packet_then Pap s past now call = pap_sends call (first_of (pap_outcome past) (pap_says call))
packet_then Chap s past now call = chap_sends s.config.name s.challenge past now call

abbrev pub judge_answers : Method → Setting → List Answered → ℕ → AuthCall → Answered
judge_answers method s past now call =
    record { now = now; call = call; packet = packet_then method s past now call; outcome = outcome_then method s past now call }

-- the list after a call, where it reaches the judge
abbrev pub judged_onto : Method → Setting → ℕ → Option AuthCall → List Answered → List Answered
judged_onto method s now None past = past
judged_onto method s now (Some call) past = judge_answers method s past now call ∷ past

abbrev pub judged_in : Method → Setting → List PhaseAt → List Answered
judged_in method s [] = []
judged_in method s (c ∷ past) = judged_onto method s c.now (reaching method s.config.name (begun_at past) c.call) (judged_in method s past)

-- the packet that the judge sends at a call
abbrev pub packet_onto : Method → Setting → ℕ → Option AuthCall → List Answered → Option Packet
packet_onto method s now None past = None
packet_onto method s now (Some call) past = packet_then method s past now call

-- whether it still waits, and whether it was lost while it waited
abbrev pub judge_waits : Method → Setting → List PhaseAt → Bool
judge_waits method s past = is_waiting (judge_outcome method s (judged_in method s past))

abbrev pub judge_lost : Option Method → Setting → List PhaseAt → Bool
judge_lost None s past = false
judge_lost (Some method) s past = is_lost (judge_waits method s) past

-- the peer's side
abbrev pub peer_side : Option Method → Setting → List PhaseAt → Side
peer_side None s past = done
peer_side (Some method) s past = if judge_lost (Some method) s past then lost else side_of (judge_outcome method s (judged_in method s past))

-- The judge stands for these calls. None is needed where the peer need not prove itself.
abbrev pub JudgeStands : Setting → JudgePart → List PhaseAt → Type 0
JudgeStands s part.NotNeeded past = s.peer_proves ≡ None
JudgeStands s part.Lost past = judge_lost s.peer_proves s past ≡ true
JudgeStands s (part.Pap judge) past = (s.peer_proves ≡ Some Pap) × (judge_lost (Some Pap) s past ≡ false) × PapStandsFor judge (judged_in Pap s past)
JudgeStands s (part.Chap judge) past =
    (s.peer_proves ≡ Some Chap) × (judge_lost (Some Chap) s past ≡ false) × (judge.name ≡ s.config.name) × (judge.challenge ≡ s.challenge)
    × ChapStandsFor judge (judged_in Chap s past)

-- The packet that is sent at a call: none once the judge is lost.
abbrev pub judge_sends : Option Method → Setting → PhaseAt → List PhaseAt → Option Packet
judge_sends None s c past = None
judge_sends (Some method) s c past =
    if judge_lost (Some method) s (c ∷ past)
    then None
    else packet_onto method s c.now (reaching method s.config.name (begun_at past) c.call) (judged_in method s past)

-- After this call the judge stands for it too, and this packet was sent.
pub record JudgeAnswers (s : Setting) (judge : JudgePart) (c : PhaseAt) (past : List PhaseAt) (sent : Option Packet) : Type 0 where
  pub stands : JudgeStands s judge (c ∷ past)
  pub sends : sent ≡ judge_sends s.peer_proves s c past
