-- What a judge of CHAP answers to each response.
use Rattle.std.proofs.Common.{◌≡◌, ℕ, inl, inr, Bool, true, false, List, [], ◌∷◌, Option, None, Some, refl, sym, ap, subst, ◌∙◌}
use Rattle.std.specs.Prelude.{is_some, if◌then◌else◌}
use Rattle.ppp_packet.specs.declared.packet.Packet.{Packet}
use Rattle.ppp_packet.specs.declared.auth_out.AuthOutcome.{AuthOutcome}
use Rattle.ppp_packet.specs.declared.auth_out.AuthOutcome.TheVariants.{Waiting, Passed, Refused, Unanswered}
use Rattle.ppp_proving.specs.Calls.{Against, AuthCall, hears, Answered, sent_at, first_of}
use Rattle.ppp_chap.specs.Passes.{Passes}
use Rattle.ppp_chap.specs.Judge.{AreLawful, outcome_in, response_in, said_by, sends, verdict_packet}
use Rattle.ppp_chap.specs.Responses.{FirstResponds, GoesUnanswered, Responds}
use Rattle.ppp_chap.proofs.JudgeLemmas.{first_passed, first_refused, first_tired, none_waits, read_responds, response_read}

-- A packet is answered by the outcome, where it is read as a response.
by_reading : (name challenge : List ℕ) (past : List Answered) (now : ℕ) (call : AuthCall) (p : Packet) (a : Against) → call ≡ hears p a
    → sends name challenge past now call
    ≡ (if is_some (response_in p) then verdict_packet (first_of (outcome_in challenge past) (said_by challenge (sent_at past) now call)) else None)
by_reading name challenge past now call p a e =
    subst
    (λ (c : AuthCall). sends name challenge past now c
    ≡ (if is_some (response_in p) then verdict_packet (first_of (outcome_in challenge past) (said_by challenge (sent_at past) now c)) else None))
    (sym e)
    refl

heard : (our_name challenge : List ℕ) (h : Answered) (past : List Answered) (p : Packet) (a : Against) → AreLawful our_name challenge (h ∷ past) → h.call ≡ hears p a
    → h.packet ≡ (if is_some (response_in p) then verdict_packet (outcome_in challenge (h ∷ past)) else None)
heard our_name challenge h past p a lawful e = lawful.0.packet ∙ by_reading our_name challenge past h.now h.call p a e

answered_by : (our_name challenge : List ℕ) (h : Answered) (past : List Answered) (a : Against) (name value : List ℕ) (outcome : AuthOutcome)
    → AreLawful our_name challenge (h ∷ past) → Responds h.call a name value → outcome_in challenge (h ∷ past) ≡ outcome → h.packet ≡ verdict_packet outcome
answered_by our_name challenge h past a name value outcome lawful r e =
    heard our_name challenge h past _ a lawful r.heard
    ∙ ap (λ found. if is_some found then verdict_packet (outcome_in challenge (h ∷ past)) else None) (response_read _ a name value (record { heard = refl; fits = r.fits }))
    ∙ ap verdict_packet e

pub succeeds : (our_name challenge : List ℕ) (h : Answered) (past : List Answered) (a b : Against) (name value asked word : List ℕ) (number : ℕ)
    → AreLawful our_name challenge (h ∷ past) → Responds h.call a name value → FirstResponds (h ∷ past) b asked word
    → Passes b challenge asked word number → h.packet ≡ Some (record { code = 3; id = 1; body = [] })
succeeds our_name challenge h past a b name value asked word number lawful r f p =
    answered_by our_name challenge h past a name value (Passed asked number) lawful r (first_passed challenge (h ∷ past) asked number b word f p)

pub fails : (our_name challenge : List ℕ) (h : Answered) (past : List Answered) (a b : Against) (name value asked word : List ℕ)
    → AreLawful our_name challenge (h ∷ past) → Responds h.call a name value → FirstResponds (h ∷ past) b asked word
    → ((number : ℕ) → Passes b challenge asked word number → ⊥) → h.packet ≡ Some (record { code = 4; id = 1; body = [] })
fails our_name challenge h past a b name value asked word lawful r f never =
    answered_by our_name challenge h past a name value (Refused asked) lawful r (first_refused challenge (h ∷ past) asked b word f never)

by_outcome : (our_name challenge : List ℕ) (h : Answered) (past : List Answered) (p : Packet) (a : Against) (outcome : AuthOutcome)
    → AreLawful our_name challenge (h ∷ past) → h.call ≡ hears p a → outcome_in challenge (h ∷ past) ≡ outcome → verdict_packet outcome ≡ None → h.packet ≡ None
by_outcome our_name challenge h past p a outcome lawful e is none =
    heard our_name challenge h past p a lawful e
    ∙ ap (λ o. if is_some (response_in p) then verdict_packet o else None) is
    ∙ ap (λ v. if is_some (response_in p) then v else None) none
    ∙ either (is_some (response_in p)) None
  where
    either : (test : Bool) (packet : Option Packet) → (if test then packet else packet) ≡ packet
    either true packet = refl
    either false packet = refl

pub silent : (our_name challenge : List ℕ) (h : Answered) (past : List Answered) (p : Packet) (a : Against)
    → AreLawful our_name challenge (h ∷ past) → h.call ≡ hears p a → GoesUnanswered h past → h.packet ≡ None
silent our_name challenge h past p a lawful e (inl none) = go (response_in p) refl
  where
    go : (found : Option (List ℕ × List ℕ)) → response_in p ≡ found → h.packet ≡ None
    go None f =
        heard our_name challenge h past p a lawful e ∙ ap (λ found. if is_some found then verdict_packet (outcome_in challenge (h ∷ past)) else None) f
    go (Some response) f =
        let r = read_responds p a response f in
        absurd (none a response.1 response.0 (record { heard = e ∙ r.heard; fits = r.fits }))
silent our_name challenge h past p a lawful e (inr (inl early)) =
    by_outcome our_name challenge h past p a Waiting lawful e (none_waits challenge (h ∷ past) early) refl
silent our_name challenge h past p a lawful e (inr (inr late)) =
    by_outcome our_name challenge h past p a (Unanswered 10) lawful e (first_tired challenge (h ∷ past) 10 refl late) refl
