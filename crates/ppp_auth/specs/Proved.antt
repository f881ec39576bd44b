-- What we, who prove ourselves, have seen and answered in a phase.
use Rattle.std.specs.Prelude.{ℕ, ◌≡◌, Bool, true, false, Option, Some, None, is_some, option_map, List, [], ◌∷◌, if◌then◌else◌}
use Rattle.std.specs.Option.{option_and_then}
use Rattle.ppp_packet.specs.declared.packet.Packet.{Packet}
use Rattle.ppp_packet.specs.declared.agreed.Method.{Method}
use Rattle.ppp_packet.specs.declared.agreed.Method.TheVariants.{Pap, Chap}
use Rattle.ppp_packet.specs.declared.auth_out.AuthOutcome.{AuthOutcome}
use Rattle.ppp_packet.specs.declared.auth_out.AuthOutcome.TheVariants.{Waiting, Refused}
use Rattle.ppp_secrets.specs.SecretLine.{SecretLine}
use Rattle.ppp_secrets.specs.Lookup.{line_for}
use Rattle.ppp_secrets.specs.declared.secrets.SecretsPair.{SecretsPair}
use Rattle.ppp_proving.specs.Calls.{AuthCall, Answered, turned, sent_at, is_waiting}
use Rattle.ppp_pap.specs.Peer.{said_by as pap_says, outcome_in as pap_outcome, sends as pap_sends, StandsFor as PapStandsFor}
use Rattle.ppp_chap.specs.Peer.{said_by as chap_says, outcome_in as chap_outcome, sends as chap_sends, last_answered, StandsFor as ChapStandsFor}
use Rattle.ppp_auth.specs.declared.proving.ProverPart.{ProverPart}
use Rattle.ppp_auth.specs.declared.proving.ProverPart.TheVariants as part
use Rattle.ppp_auth.specs.declared.outcome.Side.{Side}
use Rattle.ppp_auth.specs.declared.outcome.Side.TheVariants.{Done as done, Lost as lost}
use Rattle.ppp_auth.specs.Sides.{side_of}
use Rattle.ppp_auth.specs.Setting.{Setting, PhaseAt, reaching, first_pair, begun_at, is_lost, name_or_empty}

-- our secret for PAP, known as the phase begins: that of the option `password`, or else that of the line for our user and the server
abbrev pub secret_in : Option (List ℕ) → Setting → SecretsPair → Option (List ℕ)
secret_in (Some password) s pair = Some password
secret_in None s pair =
    option_map (λ (line : SecretLine). line.secret) (line_for pair.pap s.config.user (name_or_empty s.config.remotename))

abbrev pub pap_secret : Setting → List PhaseAt → Option (List ℕ)
pap_secret s past = option_and_then (λ (pair : SecretsPair). secret_in s.config.password s pair) (first_pair past)

-- what we answer by PAP, with this secret, and by CHAP
abbrev pub pap_answers : Setting → List ℕ → List Answered → ℕ → AuthCall → Answered
pap_answers s secret past now call = record {
  now = now;
  call = call;
  packet = pap_sends s.config.user secret past now call;
  outcome = turned (pap_outcome s.config.user past) (pap_says s.config.user (sent_at past) now call);
}

abbrev pub chap_answers : Setting → List Answered → ℕ → AuthCall → Answered
chap_answers s past now call = record {
  now = now;
  call = call;
  packet = chap_sends s.config.user s.config.password call;
  outcome = turned (chap_outcome s.config.user s.config.password past) (chap_says s.config.user s.config.password (last_answered past) call);
}

abbrev pub onto : (List Answered → ℕ → AuthCall → Answered) → ℕ → Option AuthCall → List Answered → List Answered
onto answers now None past = past
onto answers now (Some call) past = answers past now call ∷ past

-- By PAP nothing is heard or sent without a secret.
abbrev pub pap_onto : Setting → Option (List ℕ) → ℕ → Option AuthCall → List Answered → List Answered
pap_onto s None now call past = []
pap_onto s (Some secret) now call past = onto (pap_answers s secret) now call past

abbrev pub pap_in : Setting → List PhaseAt → List Answered
pap_in s [] = []
pap_in s (c ∷ past) = pap_onto s (pap_secret s (c ∷ past)) c.now (reaching Pap [] (begun_at past) c.call) (pap_in s past)

abbrev pub chap_in : Setting → List PhaseAt → List Answered
chap_in s [] = []
chap_in s (c ∷ past) = onto (chap_answers s) c.now (reaching Chap (name_or_empty s.config.remotename) (begun_at past) c.call) (chap_in s past)

-- How we stand: by PAP we have failed where we began without a secret.
abbrev pub pap_outcome_by : Setting → Option (List ℕ) → List PhaseAt → AuthOutcome
pap_outcome_by s None past = Refused s.config.user
pap_outcome_by s (Some secret) past = pap_outcome s.config.user (pap_in s past)

abbrev pub prover_outcome : Method → Setting → List PhaseAt → AuthOutcome
prover_outcome Pap s past = if is_some (first_pair past) then pap_outcome_by s (pap_secret s past) past else Waiting
prover_outcome Chap s past = chap_outcome s.config.user s.config.password (chap_in s past)

-- whether we still wait, and whether we were lost while we waited
abbrev pub prover_waits : Method → Setting → List PhaseAt → Bool
prover_waits method s past = is_waiting (prover_outcome method s past)

abbrev pub prover_lost : Option Method → Setting → List PhaseAt → Bool
prover_lost None s past = false
prover_lost (Some method) s past = is_lost (prover_waits method s) past

-- our side
abbrev pub our_side : Option Method → Setting → List PhaseAt → Side
our_side None s past = done
our_side (Some method) s past = if prover_lost (Some method) s past then lost else side_of (prover_outcome method s past)

-- The prover stands for these calls. None is needed where we need not prove ourselves. By PAP our secret is known from the beginning on.
abbrev pub ProverStands : Setting → ProverPart → List PhaseAt → Type 0
ProverStands s part.NotNeeded past = s.we_prove ≡ None
ProverStands s part.Lost past = prover_lost s.we_prove s past ≡ true
ProverStands s part.Unbegun past = (s.we_prove ≡ Some Pap) × (prover_lost (Some Pap) s past ≡ false) × (first_pair past ≡ None)
ProverStands s part.NoSecret past =
    (s.we_prove ≡ Some Pap) × (prover_lost (Some Pap) s past ≡ false) × (is_some (first_pair past) ≡ true) × (pap_secret s past ≡ None)
ProverStands s (part.Pap peer) past =
    (s.we_prove ≡ Some Pap) × (prover_lost (Some Pap) s past ≡ false) × (is_some (first_pair past) ≡ true) × (pap_secret s past ≡ Some peer.password)
    × (peer.name ≡ s.config.user) × PapStandsFor peer (pap_in s past)
ProverStands s (part.Chap peer) past =
    (s.we_prove ≡ Some Chap) × (prover_lost (Some Chap) s past ≡ false) × (peer.name ≡ s.config.user) × (peer.password ≡ s.config.password)
    × ChapStandsFor peer (chap_in s past)

-- the packet that is sent at a call
abbrev pub pap_packet : Setting → Option (List ℕ) → ℕ → Option AuthCall → List Answered → Option Packet
pap_packet s None now call past = None
pap_packet s (Some secret) now None past = None
pap_packet s (Some secret) now (Some call) past = pap_sends s.config.user secret past now call

abbrev pub chap_packet : Setting → Option AuthCall → Option Packet
chap_packet s None = None
chap_packet s (Some call) = chap_sends s.config.user s.config.password call

abbrev pub packet_by : Method → Setting → PhaseAt → List PhaseAt → Option Packet
packet_by Pap s c past = pap_packet s (pap_secret s (c ∷ past)) c.now (reaching Pap [] (begun_at past) c.call) (pap_in s past)
packet_by Chap s c past = chap_packet s (reaching Chap (name_or_empty s.config.remotename) (begun_at past) c.call)

-- none once we are lost
abbrev pub prover_sends : Option Method → Setting → PhaseAt → List PhaseAt → Option Packet
prover_sends None s c past = None
prover_sends (Some method) s c past = if prover_lost (Some method) s (c ∷ past) then None else packet_by method s c past

-- After this call the prover stands for it too, and this packet was sent.
pub record ProverAnswers (s : Setting) (prover : ProverPart) (c : PhaseAt) (past : List PhaseAt) (sent : Option Packet) : Type 0 where
  pub stands : ProverStands s prover (c ∷ past)
  pub sends : sent ≡ prover_sends s.we_prove s c past
