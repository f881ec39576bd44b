-- How a side goes on from one call to the next.
use Rattle.std.proofs.Common.{◌≡◌, ◌≢◌, ◌⊎◌, inl, inr, ℕ, Bool, true, false, ◌&&◌, ◌||◌, List, [], ◌∷◌, ◌++◌, Option, Some, None, is_some, refl, ap, ap₂, sym, ◌∙◌, cond}
use Rattle.std.specs.Option.{option_and_then}
use Rattle.ppp_packet.specs.declared.agreed.Method.{Method}
use Rattle.ppp_packet.specs.declared.agreed.Method.TheVariants.{Pap, Chap}
use Rattle.ppp_packet.specs.declared.auth_out.AuthOutcome.{AuthOutcome}
use Rattle.ppp_packet.specs.declared.auth_out.AuthOutcome.TheVariants.{Waiting, Passed, Refused, Unanswered}
use Rattle.ppp_secrets.specs.declared.secrets.SecretsPair.{SecretsPair}
use Rattle.ppp_proving.specs.Calls.{AuthCall, Answered, first_of, turned, is_waiting, sent_at}
use Rattle.ppp_pap.specs.Judge.{said_by as pap_judge_says}
use Rattle.ppp_pap.specs.Peer.{said_by as pap_says, outcome_in as pap_outcome}
use Rattle.ppp_chap.specs.Judge.{said_by as chap_judge_says}
use Rattle.ppp_chap.specs.Peer.{said_by as chap_says, outcome_in as chap_outcome, last_answered}
use Rattle.ppp_auth.specs.declared.outcome.Side.{Side}
use Rattle.ppp_auth.specs.declared.outcome.Side.TheVariants.{Done, Going, Lost}
use Rattle.ppp_auth.specs.Setting.{Setting, PhaseAt, begun_at, first_pair, pair_by, earlier, is_late, reaching, name_or_empty}
use Rattle.ppp_auth.specs.Sides.{side_of}
use Rattle.ppp_auth.specs.Judged.{judge_outcome, judged_onto, judged_in, judge_lost, peer_side}
use Rattle.ppp_auth.specs.Proved.{secret_in, pap_secret, pap_answers, chap_answers, onto, pap_onto, pap_in, chap_in, pap_outcome_by, prover_outcome, prover_lost, our_side}

-- a side that was lost by the 60 seconds or not, with this outcome
abbrev standing : Bool → AuthOutcome → Side
standing was o = cond was Lost (side_of o)

abbrev lost_then : Bool → Bool → AuthOutcome → Bool
lost_then was late o = was || (late && is_waiting o)

first_waiting : (o : AuthOutcome) → first_of o Waiting ≡ o
first_waiting Waiting = refl
first_waiting (Passed name line) = refl
first_waiting (Refused name) = refl
first_waiting (Unanswered times) = refl

turned_waiting : (o : AuthOutcome) → turned o Waiting ≡ o
turned_waiting Waiting = refl
turned_waiting (Passed name line) = refl
turned_waiting (Refused name) = refl
turned_waiting (Unanswered times) = refl

-- the judge
lost_first : (was late : Bool) (o said : AuthOutcome) → standing was o ≡ Lost → standing (lost_then was late o) (first_of o said) ≡ Lost
lost_first true late o said e = refl
lost_first false late Waiting said e = absurd cc
lost_first false late (Passed name line) said e = absurd cc
lost_first false true (Refused name) said e = refl
lost_first false false (Refused name) said e = refl
lost_first false true (Unanswered times) said e = refl
lost_first false false (Unanswered times) said e = refl

-- once done, nothing changes
done_first : (was late : Bool) (o said : AuthOutcome) → standing was o ≡ Done → (lost_then was late o ≡ false) × (was ≡ false) × (first_of o said ≡ o)
done_first true late o said e = absurd cc
done_first false late Waiting said e = absurd cc
done_first false true (Passed name line) said e = (refl, refl, refl)
done_first false false (Passed name line) said e = (refl, refl, refl)
done_first false late (Refused name) said e = absurd cc
done_first false late (Unanswered times) said e = absurd cc

late_first : (was : Bool) (o said : AuthOutcome) → standing (lost_then was true o) (first_of o said) ≢ Going
late_first true o said = λ e. absurd cc
late_first false Waiting said = λ e. absurd cc
late_first false (Passed name line) said = λ e. absurd cc
late_first false (Refused name) said = λ e. absurd cc
late_first false (Unanswered times) said = λ e. absurd cc

-- the prover
lost_turned : (was late : Bool) (o said : AuthOutcome) → standing was o ≡ Lost → standing (lost_then was late o) (turned o said) ≡ Lost
lost_turned true late o said e = refl
lost_turned false late Waiting said e = absurd cc
lost_turned false late (Passed name line) said e = absurd cc
lost_turned false true (Refused name) said e = refl
lost_turned false false (Refused name) said e = refl
lost_turned false true (Unanswered times) said e = refl
lost_turned false false (Unanswered times) said e = refl

passed_turned : (name : List ℕ) (line : ℕ) (said : AuthOutcome) → (side_of (turned (Passed name line) said) ≡ Done) ⊎ (side_of (turned (Passed name line) said) ≡ Lost)
passed_turned name line Waiting = inl refl
passed_turned name line (Passed other number) = inl refl
passed_turned name line (Refused other) = inr refl
passed_turned name line (Unanswered times) = inl refl

done_turned : (was late : Bool) (o said : AuthOutcome) → standing was o ≡ Done → (standing (lost_then was late o) (turned o said) ≡ Done) ⊎ (standing (lost_then was late o) (turned o said) ≡ Lost)
done_turned true late o said e = absurd cc
done_turned false late Waiting said e = absurd cc
done_turned false true (Passed name line) said e = passed_turned name line said
done_turned false false (Passed name line) said e = passed_turned name line said
done_turned false late (Refused name) said e = absurd cc
done_turned false late (Unanswered times) said e = absurd cc

passed_over : (name : List ℕ) (line : ℕ) (said : AuthOutcome) → side_of (turned (Passed name line) said) ≢ Going
passed_over name line Waiting = λ e. absurd cc
passed_over name line (Passed other number) = λ e. absurd cc
passed_over name line (Refused other) = λ e. absurd cc
passed_over name line (Unanswered times) = λ e. absurd cc

late_turned : (was : Bool) (o said : AuthOutcome) → standing (lost_then was true o) (turned o said) ≢ Going
late_turned true o said = λ e. absurd cc
late_turned false Waiting said = λ e. absurd cc
late_turned false (Passed name line) said = passed_over name line said
late_turned false (Refused name) said = λ e. absurd cc
late_turned false (Unanswered times) said = λ e. absurd cc

-- what a call adds to the judge's outcome
judge_onto : (method : Method) (s : Setting) (now : ℕ) (call : Option AuthCall) (past : List Answered)
    → (said : AuthOutcome) × (judge_outcome method s (judged_onto method s now call past) ≡ first_of (judge_outcome method s past) said)
judge_onto method s now None past = (Waiting, sym (first_waiting (judge_outcome method s past)))
judge_onto Pap s now (Some call) past = (pap_judge_says call, refl)
judge_onto Chap s now (Some call) past = (chap_judge_says s.challenge (sent_at past) now call, refl)

pub judge_step : (method : Method) (s : Setting) (c : PhaseAt) (past : List PhaseAt)
    → (said : AuthOutcome) × (judge_outcome method s (judged_in method s (c ∷ past)) ≡ first_of (judge_outcome method s (judged_in method s past)) said)
judge_step method s c past = judge_onto method s c.now (reaching method s.config.name (begun_at past) c.call) (judged_in method s past)

-- and to ours
chap_onto : (s : Setting) (now : ℕ) (call : Option AuthCall) (past : List Answered)
    → (said : AuthOutcome) × (chap_outcome s.config.user s.config.password (onto (chap_answers s) now call past) ≡ turned (chap_outcome s.config.user s.config.password past) said)
chap_onto s now None past = (Waiting, sym (turned_waiting (chap_outcome s.config.user s.config.password past)))
chap_onto s now (Some call) past = (chap_says s.config.user s.config.password (last_answered past) call, refl)

pap_onto_step : (s : Setting) (secret : List ℕ) (now : ℕ) (call : Option AuthCall) (past : List Answered)
    → (said : AuthOutcome) × (pap_outcome s.config.user (onto (pap_answers s secret) now call past) ≡ turned (pap_outcome s.config.user past) said)
pap_onto_step s secret now None past = (Waiting, sym (turned_waiting (pap_outcome s.config.user past)))
pap_onto_step s secret now (Some call) past = (pap_says s.config.user (sent_at past) now call, refl)

abbrev pap_by : Setting → Option SecretsPair → List PhaseAt → AuthOutcome
pap_by s found past = cond (is_some found) (pap_outcome_by s (option_and_then (λ (pair : SecretsPair). secret_in s.config.password s pair) found) past) Waiting

pap_secret_step : (s : Setting) (c : PhaseAt) (past : List PhaseAt) (secret : Option (List ℕ)) → pap_secret s (c ∷ past) ≡ secret
    → (said : AuthOutcome) × (pap_outcome_by s secret (c ∷ past) ≡ turned (pap_outcome_by s secret past) said)
pap_secret_step s c past None e = (Waiting, refl)
pap_secret_step s c past (Some secret) e =
    let step = pap_onto_step s secret c.now (reaching Pap [] (begun_at past) c.call) (pap_in s past) in
    (step.0, ap (λ x. pap_outcome s.config.user (pap_onto s x c.now (reaching Pap [] (begun_at past) c.call) (pap_in s past))) e ∙ step.1)

pap_step : (s : Setting) (c : PhaseAt) (past : List PhaseAt) (found : Option SecretsPair) → first_pair past ≡ found
    → (said : AuthOutcome) × (prover_outcome Pap s (c ∷ past) ≡ turned (prover_outcome Pap s past) said)
pap_step s c past None e = (prover_outcome Pap s (c ∷ past), sym (ap (λ f. turned (pap_by s f past) (prover_outcome Pap s (c ∷ past))) e))
pap_step s c past (Some pair) e =
    let first : first_pair (c ∷ past) ≡ Some pair = ap (λ f. earlier f (pair_by c.call)) e in
    let step = pap_secret_step s c past (secret_in s.config.password s pair) (ap (λ f. option_and_then (λ (q : SecretsPair). secret_in s.config.password s q) f) first) in
    (step.0, ap (λ f. pap_by s f (c ∷ past)) first ∙ step.1 ∙ sym (ap (λ f. turned (pap_by s f past) step.0) e))

pub prover_step : (method : Method) (s : Setting) (c : PhaseAt) (past : List PhaseAt)
    → (said : AuthOutcome) × (prover_outcome method s (c ∷ past) ≡ turned (prover_outcome method s past) said)
prover_step Pap s c past = pap_step s c past (first_pair past) refl
prover_step Chap s c past = chap_onto s c.now (reaching Chap (name_or_empty s.config.remotename) (begun_at past) c.call) (chap_in s past)

-- The peer's side: a loss stays, and so does a pass.
pub peer_lost_stays : (method : Option Method) (s : Setting) (c : PhaseAt) (past : List PhaseAt) → peer_side method s past ≡ Lost → peer_side method s (c ∷ past) ≡ Lost
peer_lost_stays None s c past e = absurd cc
peer_lost_stays (Some method) s c past e =
    let step = judge_step method s c past in
    ap (λ o. standing (judge_lost (Some method) s (c ∷ past)) o) step.1
    ∙ lost_first (judge_lost (Some method) s past) (is_late c.call (begun_at past) c.now) (judge_outcome method s (judged_in method s past)) step.0 e

pub peer_done_stays : (method : Method) (s : Setting) (c : PhaseAt) (past : List PhaseAt) → peer_side (Some method) s past ≡ Done
    → (judge_lost (Some method) s (c ∷ past) ≡ false) × (judge_lost (Some method) s past ≡ false)
    × (judge_outcome method s (judged_in method s (c ∷ past)) ≡ judge_outcome method s (judged_in method s past))
peer_done_stays method s c past e =
    let step = judge_step method s c past in
    let still = done_first (judge_lost (Some method) s past) (is_late c.call (begun_at past) c.now) (judge_outcome method s (judged_in method s past)) step.0 e in
    (still.0, still.1, step.1 ∙ still.2)

pub peer_late_ends : (method : Option Method) (s : Setting) (c : PhaseAt) (past : List PhaseAt) → is_late c.call (begun_at past) c.now ≡ true → peer_side method s (c ∷ past) ≢ Going
peer_late_ends None s c past late = λ e. absurd cc
peer_late_ends (Some method) s c past late = λ e.
    let step = judge_step method s c past in
    late_first (judge_lost (Some method) s past) (judge_outcome method s (judged_in method s past)) step.0
    (sym (ap₂ (λ b o. standing (lost_then (judge_lost (Some method) s past) b (judge_outcome method s (judged_in method s past))) o) late step.1) ∙ e)

-- Our side: a loss stays, and a pass stays or is lost.
pub our_lost_stays : (method : Option Method) (s : Setting) (c : PhaseAt) (past : List PhaseAt) → our_side method s past ≡ Lost → our_side method s (c ∷ past) ≡ Lost
our_lost_stays None s c past e = absurd cc
our_lost_stays (Some method) s c past e =
    let step = prover_step method s c past in
    ap (λ o. standing (prover_lost (Some method) s (c ∷ past)) o) step.1
    ∙ lost_turned (prover_lost (Some method) s past) (is_late c.call (begun_at past) c.now) (prover_outcome method s past) step.0 e

pub our_done_stays : (method : Option Method) (s : Setting) (c : PhaseAt) (past : List PhaseAt) → our_side method s past ≡ Done
    → (our_side method s (c ∷ past) ≡ Done) ⊎ (our_side method s (c ∷ past) ≡ Lost)
our_done_stays None s c past e = inl refl
our_done_stays (Some method) s c past e =
    let step = prover_step method s c past in
    let new = ap (λ o. standing (prover_lost (Some method) s (c ∷ past)) o) step.1 in
    elim (done_turned (prover_lost (Some method) s past) (is_late c.call (begun_at past) c.now) (prover_outcome method s past) step.0 e) [
      | inl d ↦ inl (new ∙ d)
      | inr l ↦ inr (new ∙ l)
    ]

pub our_late_ends : (method : Option Method) (s : Setting) (c : PhaseAt) (past : List PhaseAt) → is_late c.call (begun_at past) c.now ≡ true → our_side method s (c ∷ past) ≢ Going
our_late_ends None s c past late = λ e. absurd cc
our_late_ends (Some method) s c past late = λ e.
    let step = prover_step method s c past in
    late_turned (prover_lost (Some method) s past) (prover_outcome method s past) step.0
    (sym (ap₂ (λ b o. standing (lost_then (prover_lost (Some method) s past) b (prover_outcome method s past)) o) late step.1) ∙ e)

-- More calls later.
pub peer_lost_on : (method : Option Method) (s : Setting) (later past : List PhaseAt) → peer_side method s past ≡ Lost → peer_side method s (later ++ past) ≡ Lost
peer_lost_on method s [] past e = e
peer_lost_on method s (c ∷ later) past e = peer_lost_stays method s c (later ++ past) (peer_lost_on method s later past e)

pub our_lost_on : (method : Option Method) (s : Setting) (later past : List PhaseAt) → our_side method s past ≡ Lost → our_side method s (later ++ past) ≡ Lost
our_lost_on method s [] past e = e
our_lost_on method s (c ∷ later) past e = our_lost_stays method s c (later ++ past) (our_lost_on method s later past e)
