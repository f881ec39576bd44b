-- What a phase of authentication answers to each call, and for which calls it stands.
use Rattle.std.specs.Prelude.{ℕ, ◌≡◌, Option, Some, None, option_map, option_to_list, List, [], ◌∷◌, ◌++◌}
use Rattle.ppp_packet.specs.declared.packet.Packet.{Packet}
use Rattle.ppp_packet.specs.declared.agreed.Method.{Method}
use Rattle.ppp_auth.specs.declared.out.PhasePacket.{PhasePacket}
use Rattle.ppp_auth.specs.declared.out.PhaseOut.{PhaseOut}
use Rattle.ppp_auth.specs.declared.outcome.AuthNow.{AuthNow}
use Rattle.ppp_auth.specs.declared.outcome.AuthNow.TheVariants as stands
use Rattle.ppp_auth.specs.declared.outcome.Side.{Side}
use Rattle.ppp_auth.specs.declared.outcome.Side.TheVariants.{Done as done, Going as going, Lost as lost}
use Rattle.ppp_auth.specs.declared.phase.AuthPhase.{AuthPhase}
use Rattle.ppp_auth.specs.Setting.{Setting, PhaseAt, protocol_of, begun_at}
use Rattle.ppp_auth.specs.Judged.{judge_sends, peer_side, JudgeStands}
use Rattle.ppp_auth.specs.Proved.{prover_sends, ProverStands}
use Rattle.ppp_auth.specs.Outcome.{peer_passed, outcome_in}

-- with its protocol
abbrev pub sent_by : Option Method → Option Packet → List PhasePacket
sent_by None packet = []
sent_by (Some method) packet = option_to_list (option_map (λ p. record { protocol = protocol_of method; packet = p }) packet)

-- the peer's name, where it has passed
abbrev pub name_of : AuthNow → Option (List ℕ)
name_of stands.Going = None
name_of (stands.Passed peer allowed) = peer
name_of stands.PeerFailed = None
name_of stands.WeFailed = None

-- It is told at the call at which the peer has passed: before it the peer's side still went on.
abbrev pub newly : Side → AuthNow → Option (List ℕ)
newly done now = None
newly going now = name_of now
newly lost now = None

-- What is answered to a call: the judge's packet comes first.
abbrev pub told_at : Setting → PhaseAt → List PhaseAt → PhaseOut
told_at s c past = record {
  packets = sent_by s.peer_proves (judge_sends s.peer_proves s c past) ++ sent_by s.we_prove (prover_sends s.we_prove s c past);
  peer_passed = newly (peer_side s.peer_proves s past) (peer_passed s.peer_proves s (c ∷ past));
}

-- the answer that tells nothing
abbrev pub nothing : PhaseOut
nothing = record { packets = []; peer_passed = None }

abbrev pub setting_of : AuthPhase → Setting
setting_of phase = record { peer_proves = phase.peer_proves; we_prove = phase.we_prove; config = phase.config; challenge = phase.challenge }

-- The phase stands for these calls.
pub record StandsFor (phase : AuthPhase) (past : List PhaseAt) : Type 0 where
  pub judge : JudgeStands (setting_of phase) phase.judge past
  pub prover : ProverStands (setting_of phase) phase.prover past
  pub began : phase.began ≡ begun_at past
  pub outcome : phase.outcome ≡ outcome_in (setting_of phase) past

-- the names that were told as passed, the last one first
abbrev pub names_told : Setting → List PhaseAt → List (List ℕ)
names_told s [] = []
names_told s (c ∷ past) = option_to_list (told_at s c past).peer_passed ++ names_told s past
