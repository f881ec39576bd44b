-- What a judge of PAP answers to each request.
use Rattle.std.proofs.Common.{◌≡◌, ℕ, List, [], ◌∷◌, Option, None, Some, refl, ap, ◌∙◌}
use Rattle.std.specs.Prelude.{is_some, if◌then◌else◌}
use Rattle.ppp_packet.specs.declared.auth_out.AuthOutcome.{AuthOutcome}
use Rattle.ppp_packet.specs.declared.auth_out.AuthOutcome.TheVariants.{Passed, Refused}
use Rattle.ppp_proving.specs.Calls.{Against, AuthCall, begins, hears, ticks, Answered}
use Rattle.ppp_pap.specs.Judge.{AreLawful, outcome_in, request_in, sends, verdict_packet}
use Rattle.ppp_pap.specs.Passes.{Passes}
use Rattle.ppp_pap.specs.Requests.{Asks, FirstAsks, IsRequest}
use Rattle.ppp_pap.proofs.JudgeLemmas.{Requested, first_passed, first_refused, read_requested}
use Rattle.ppp_pap.proofs.PacketLemmas.{body_is_read}

answered_by : (h : Answered) (past : List Answered) (a : Against) (name password : List ℕ) (outcome : AuthOutcome) → AreLawful (h ∷ past)
    → (asks : Asks h.call a name password) → outcome_in (h ∷ past) ≡ outcome → h.packet ≡ verdict_packet outcome asks.id
answered_by h past a name password outcome lawful asks e =
    lawful.0.packet
    ∙ ap (λ call. sends call (outcome_in (h ∷ past))) asks.heard
    ∙ ap (λ found. if is_some found then verdict_packet (outcome_in (h ∷ past)) asks.id else None) (body_is_read name password)
    ∙ ap (λ o. verdict_packet o asks.id) e

pub acknowledged : (h : Answered) (past : List Answered) (a b : Against) (name password asked word : List ℕ) (number : ℕ) → AreLawful (h ∷ past)
    → (asks : Asks h.call a name password) → FirstAsks (h ∷ past) b asked word → Passes b asked word number
    → h.packet ≡ Some (record { code = 2; id = asks.id; body = 0 ∷ [] })
acknowledged h past a b name password asked word number lawful asks f p =
    answered_by h past a name password (Passed asked number) lawful asks (first_passed (h ∷ past) asked number b word f p)

pub refused : (h : Answered) (past : List Answered) (a b : Against) (name password asked word : List ℕ) → AreLawful (h ∷ past)
    → (asks : Asks h.call a name password) → FirstAsks (h ∷ past) b asked word → ((number : ℕ) → Passes b asked word number → ⊥)
    → h.packet ≡ Some (record { code = 3; id = asks.id; body = 0 ∷ [] })
refused h past a b name password asked word lawful asks f never =
    answered_by h past a name password (Refused asked) lawful asks (first_refused (h ∷ past) asked b word f never)

-- A call that hears no request sends nothing.
unanswered : (call : AuthCall) (outcome : AuthOutcome) → (Requested call → ⊥) → sends call outcome ≡ None
unanswered begins outcome none = refl
unanswered ticks outcome none = refl
unanswered (hears p a) outcome none = go (request_in p) refl
  where
    go : (found : Option (List ℕ × List ℕ)) → request_in p ≡ found → sends (hears p a) outcome ≡ None
    go None f = ap (λ found. if is_some found then verdict_packet outcome p.id else None) f
    go (Some request) f = absurd (none (read_requested p a request f))

pub silent : (h : Answered) (past : List Answered) → AreLawful (h ∷ past) → (IsRequest h past → ⊥) → h.packet ≡ None
silent h past lawful none =
    lawful.0.packet ∙ unanswered h.call (outcome_in (h ∷ past)) (λ r. none (record { against = r.against; name = r.name; password = r.password; asks = r.asks }))
