-- Runs of one who proves himself by PAP.
use Rattle.std.proofs.Common.{◌≡◌, ℕ, List, [], ◌∷◌, None, Some, refl}
use Rattle.ppp_packet.specs.declared.auth_out.AuthOutcome.{AuthOutcome}
use Rattle.ppp_packet.specs.declared.auth_out.AuthOutcome.TheVariants.{Waiting, Passed, Refused, Unanswered}
use Rattle.ppp_proving.specs.Calls.{Against, begins, hears, ticks, Answered}
use Rattle.ppp_pap.specs.Packets.{request_packet}
use Rattle.ppp_pap.specs.Peer.{AreLawful, outcome_in}

-- some runs
abbrev nobody : Against
nobody = record { lines = []; server = [] }

abbrev begun : List ℕ → List ℕ → Answered
begun name password = record { now = 0; call = begins; packet = Some (request_packet name password); outcome = Waiting }

abbrev sent_again : List ℕ → List ℕ → ℕ → Answered
sent_again name password now = record { now = now; call = ticks; packet = Some (request_packet name password); outcome = Waiting }

abbrev answered_with : ℕ → AuthOutcome → Answered
answered_with code outcome = record { now = 1; call = hears (record { code = code; id = 1; body = 0 ∷ [] }) nobody; packet = None; outcome = outcome }

pub passing_run : (name password : List ℕ) → (past : List Answered) × AreLawful name password past × (outcome_in name past ≡ Passed name 0)
passing_run name password = (
  answered_with 2 (Passed name 0) ∷ begun name password ∷ [],
  (record { outcome = refl; packet = refl }, (record { outcome = refl; packet = refl }, tt)),
  refl,
)

pub refusing_run : (name password : List ℕ) → (past : List Answered) × AreLawful name password past × (outcome_in name past ≡ Refused name)
refusing_run name password = (
  answered_with 3 (Refused name) ∷ begun name password ∷ [],
  (record { outcome = refl; packet = refl }, (record { outcome = refl; packet = refl }, tt)),
  refl,
)

pub turning_run : (name password : List ℕ) → (h : Answered) × (past : List Answered) × AreLawful name password (h ∷ past)
    × (outcome_in name past ≡ Passed name 0) × (outcome_in name (h ∷ past) ≡ Refused name)
turning_run name password = (
  answered_with 3 (Refused name),
  answered_with 2 (Passed name 0) ∷ begun name password ∷ [],
  (record { outcome = refl; packet = refl }, (record { outcome = refl; packet = refl }, (record { outcome = refl; packet = refl }, tt))),
  refl,
  refl,
)

pub unanswered_run : (name password : List ℕ) → (past : List Answered) × AreLawful name password past × (outcome_in name past ≡ Unanswered 10)
unanswered_run name password = (
  record { now = 30000; call = ticks; packet = None; outcome = Unanswered 10 }
      ∷ sent_again name password 27000
      ∷ sent_again name password 24000
      ∷ sent_again name password 21000
      ∷ sent_again name password 18000
      ∷ sent_again name password 15000
      ∷ sent_again name password 12000
      ∷ sent_again name password 9000
      ∷ sent_again name password 6000
      ∷ sent_again name password 3000
      ∷ begun name password ∷ [],
  (record { outcome = refl; packet = refl }, (record { outcome = refl; packet = refl }, (record { outcome = refl; packet = refl }, (record { outcome = refl; packet = refl }, (record { outcome = refl; packet = refl }, (record { outcome = refl; packet = refl }, (record { outcome = refl; packet = refl }, (record { outcome = refl; packet = refl }, (record { outcome = refl; packet = refl }, (record { outcome = refl; packet = refl }, (record { outcome = refl; packet = refl }, tt))))))))))),
  refl,
)
