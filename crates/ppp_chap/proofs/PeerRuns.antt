-- Runs of one who proves himself by CHAP.
use Rattle.std.proofs.Common.{◌≡◌, ℕ, List, [], ◌∷◌, None, Some, refl}
use Rattle.std.specs.Prelude.{Option}
use Rattle.ppp_packet.specs.declared.packet.Packet.{Packet}
use Rattle.ppp_packet.specs.declared.auth_out.AuthOutcome.{AuthOutcome}
use Rattle.ppp_packet.specs.declared.auth_out.AuthOutcome.TheVariants.{Waiting, Passed, Refused}
use Rattle.ppp_secrets.specs.Lookup.{line_for}
use Rattle.ppp_proving.specs.Calls.{Against, hears, Answered}
use Rattle.ppp_chap.specs.Packets.{response_packet}
use Rattle.ppp_chap.specs.Passes.{value_of}
use Rattle.ppp_chap.specs.Peer.{AreLawful, outcome_in}

abbrev nobody : Against
nobody = record { lines = []; server = [] }

-- a challenge of one octet and an empty name, and its answer
abbrev challenged : Option Packet → AuthOutcome → Answered
challenged answer outcome = record { now = 0; call = hears (record { code = 1; id = 7; body = 1 ∷ 9 ∷ [] }) nobody; packet = answer; outcome = outcome }

abbrev responded : List ℕ → List ℕ → Answered
responded name secret = challenged (Some (response_packet 7 (value_of 7 secret (9 ∷ [])) name)) Waiting

-- its result
abbrev told : ℕ → AuthOutcome → Answered
told code outcome = record { now = 1; call = hears (record { code = code; id = 7; body = [] }) nobody; packet = None; outcome = outcome }

pub passing_run : (name secret : List ℕ) → (past : List Answered) × AreLawful name (Some secret) past × (outcome_in name (Some secret) past ≡ Passed name 0)
passing_run name secret = (
  told 3 (Passed name 0) ∷ responded name secret ∷ [],
  (record { outcome = refl; packet = refl }, (record { outcome = refl; packet = refl }, tt)),
  refl,
)

pub refusing_run : (name secret : List ℕ) → (past : List Answered) × AreLawful name (Some secret) past × (outcome_in name (Some secret) past ≡ Refused name)
refusing_run name secret = (
  told 4 (Refused name) ∷ responded name secret ∷ [],
  (record { outcome = refl; packet = refl }, (record { outcome = refl; packet = refl }, tt)),
  refl,
)

pub turning_run : (name secret : List ℕ) → (h : Answered) × (past : List Answered) × AreLawful name (Some secret) (h ∷ past)
    × (outcome_in name (Some secret) past ≡ Passed name 0) × (outcome_in name (Some secret) (h ∷ past) ≡ Refused name)
turning_run name secret = (
  told 4 (Refused name),
  told 3 (Passed name 0) ∷ responded name secret ∷ [],
  (record { outcome = refl; packet = refl }, (record { outcome = refl; packet = refl }, (record { outcome = refl; packet = refl }, tt))),
  refl,
  refl,
)

pub secretless_run : (name : List ℕ) → (past : List Answered) × AreLawful name None past × (outcome_in name None past ≡ Refused name)
unfolding line_for
secretless_run name = (challenged None (Refused name) ∷ [], (record { outcome = refl; packet = refl }, tt), refl)
