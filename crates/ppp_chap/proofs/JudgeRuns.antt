-- Runs of a judge of CHAP.
use Rattle.std.proofs.Common.{◌≡◌, ℕ, ◌≤◌, List, [], ◌∷◌, length, None, Some, refl, sym, ap, ◌∙◌, arith}
use Rattle.std.specs.Prelude.{codes, is_some, Option, if◌then◌else◌}
use Rattle.ppp_packet.specs.declared.auth_out.AuthOutcome.{AuthOutcome}
use Rattle.ppp_packet.specs.declared.auth_out.AuthOutcome.TheVariants.{Waiting, Passed, Refused, Unanswered}
use Rattle.ppp_secrets.specs.SecretLine.{SecretLine}
use Rattle.ppp_secrets.specs.Lookup.{line_for}
use Rattle.ppp_proving.specs.Calls.{Against, begins, hears, ticks, Answered}
use Rattle.ppp_chap.specs.Packets.{challenge_packet, response_packet}
use Rattle.ppp_chap.specs.Passes.{Passes, passing_line, value_of}
use Rattle.ppp_chap.specs.Judge.{AreLawful, judged, judged_by, outcome_in, verdict_packet}
use Rattle.ppp_chap.proofs.PacketLemmas.{body_is_valued}
use Rattle.ppp_chap.proofs.PassesLemmas.{passes_told, passes_none}

abbrev begun : List ℕ → List ℕ → Answered
begun our_name challenge = record { now = 0; call = begins; packet = Some (challenge_packet challenge our_name); outcome = Waiting }

abbrev sent_again : List ℕ → List ℕ → ℕ → Answered
sent_again our_name challenge now = record { now = now; call = ticks; packet = Some (challenge_packet challenge our_name); outcome = Waiting }

-- a run in which the challenge is answered once
abbrev one_response : List ℕ → List ℕ → Against → List ℕ → List ℕ → AuthOutcome → List Answered
one_response our_name challenge a name value outcome =
    record { now = 1; call = hears (response_packet 1 value name) a; packet = verdict_packet outcome; outcome = outcome } ∷ begun our_name challenge ∷ []

one_response_runs : (our_name challenge : List ℕ) (a : Against) (name value : List ℕ) (outcome : AuthOutcome) → length name ≤ 255
    → judged_by name (passing_line a challenge name value) ≡ outcome
    → AreLawful our_name challenge (one_response our_name challenge a name value outcome) × (outcome_in challenge (one_response our_name challenge a name value outcome) ≡ outcome)
one_response_runs our_name challenge a name value outcome fits e =
    let read = body_is_valued value name fits in
    let is : outcome_in challenge (one_response our_name challenge a name value outcome) ≡ outcome = ap (judged challenge a) read ∙ e in (
      (
        record {
          outcome = sym is;
          packet = ap verdict_packet (sym is)
              ∙ sym (ap (λ (found : Option (List ℕ × List ℕ)). if is_some found then verdict_packet (outcome_in challenge (one_response our_name challenge a name value outcome)) else None) read);
        },
        (record { outcome = refl; packet = refl }, tt),
      ),
      is,
    )

pub passing_run : (our_name challenge : List ℕ) (a : Against) (name value : List ℕ) (number : ℕ) → length name ≤ 255 → Passes a challenge name value number
    → (past : List Answered) × AreLawful our_name challenge past × (outcome_in challenge past ≡ Passed name number)
passing_run our_name challenge a name value number fits p =
    let r = one_response_runs our_name challenge a name value (Passed name number) fits (ap (judged_by name) (passes_told a challenge name value number p)) in
    (one_response our_name challenge a name value (Passed name number), r.0, r.1)

pub refusing_run : (our_name challenge : List ℕ) (a : Against) (name value : List ℕ) → length name ≤ 255 → ((number : ℕ) → Passes a challenge name value number → ⊥)
    → (past : List Answered) × AreLawful our_name challenge past × (outcome_in challenge past ≡ Refused name)
refusing_run our_name challenge a name value fits never =
    let r = one_response_runs our_name challenge a name value (Refused name) fits (ap (judged_by name) (passes_none a challenge name value never)) in
    (one_response our_name challenge a name value (Refused name), r.0, r.1)

pub unanswered_run : (our_name challenge : List ℕ) → (past : List Answered) × AreLawful our_name challenge past × (outcome_in challenge past ≡ Unanswered 10)
unanswered_run our_name challenge = (
  record { now = 30000; call = ticks; packet = None; outcome = Unanswered 10 }
      ∷ sent_again our_name challenge 27000
      ∷ sent_again our_name challenge 24000
      ∷ sent_again our_name challenge 21000
      ∷ sent_again our_name challenge 18000
      ∷ sent_again our_name challenge 15000
      ∷ sent_again our_name challenge 12000
      ∷ sent_again our_name challenge 9000
      ∷ sent_again our_name challenge 6000
      ∷ sent_again our_name challenge 3000
      ∷ begun our_name challenge ∷ [],
  (record { outcome = refl; packet = refl }, (record { outcome = refl; packet = refl }, (record { outcome = refl; packet = refl }, (record { outcome = refl; packet = refl }, (record { outcome = refl; packet = refl }, (record { outcome = refl; packet = refl }, (record { outcome = refl; packet = refl }, (record { outcome = refl; packet = refl }, (record { outcome = refl; packet = refl }, (record { outcome = refl; packet = refl }, (record { outcome = refl; packet = refl }, tt))))))))))),
  refl,
)

row_line : SecretLine
row_line = record { number = 2; client = codes "bob"; server = codes "srv"; secret = codes "two"; addresses = [] }

row_against : Against
row_against = record { lines = row_line ∷ []; server = codes "srv" }

no_line_no_pass : (a : Against) (challenge name value : List ℕ) → line_for a.lines name a.server ≡ None → (number : ℕ) → Passes a challenge name value number → ⊥
no_line_no_pass a challenge name value e number p = let f = p.found in absurd (cc (e, f))

pub one_passes : (challenge : List ℕ) → (a : Against) × (name : List ℕ) × (value : List ℕ) × (length name ≤ 255) × Passes a challenge name value 2
unfolding row_line row_against line_for
one_passes challenge =
    (row_against, codes "bob", value_of 1 (codes "two") challenge, omega arith, record { line = row_line; found = refl; right = refl; numbered = refl })

pub one_fails : (challenge : List ℕ) → (a : Against) × (name : List ℕ) × (value : List ℕ) × (length name ≤ 255) × ((number : ℕ) → Passes a challenge name value number → ⊥)
unfolding row_line row_against line_for
one_fails challenge = (row_against, codes "eve", [], omega arith, no_line_no_pass row_against challenge (codes "eve") [] refl)
