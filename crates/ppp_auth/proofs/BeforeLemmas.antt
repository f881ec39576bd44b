-- Before a phase begins nothing happens.
use Rattle.std.proofs.Common.{◌≡◌, ◌≢◌, ℕ, Bool, false, ◌&&◌, ◌||◌, cond, List, [], ◌∷◌, ◌++◌, Option, Some, None, is_some, refl, ap, ap₂, ◌∙◌}
use Rattle.std.specs.Option.{option_and_then}
use Rattle.ppp_packet.specs.declared.agreed.Method.{Method}
use Rattle.ppp_packet.specs.declared.agreed.Method.TheVariants.{Pap, Chap}
use Rattle.ppp_packet.specs.declared.auth_out.AuthOutcome.TheVariants as auth
use Rattle.ppp_chap.specs.Peer.{outcome_in as chap_outcome}
use Rattle.ppp_secrets.specs.declared.secrets.SecretsPair.{SecretsPair}
use Rattle.ppp_proving.specs.Calls.{Answered}
use Rattle.ppp_auth.specs.declared.out.PhaseOut.{PhaseOut}
use Rattle.ppp_auth.specs.declared.out.PhasePacket.{PhasePacket}
use Rattle.ppp_auth.specs.declared.outcome.AuthNow.TheVariants.{Going}
use Rattle.ppp_auth.specs.declared.outcome.Side.{Side}
use Rattle.ppp_auth.specs.declared.outcome.Side.TheVariants as side
use Rattle.ppp_auth.specs.Setting.{Setting, PhaseAt, PhaseCall, starts, takes, waits, begun_at, moment_by, earlier, first_pair, pair_by, is_late, is_lost, reaching, name_or_empty}
use Rattle.ppp_auth.specs.Sides.{side_of}
use Rattle.ppp_auth.specs.Judged.{judge_outcome, judged_onto, judged_in, judge_waits, judge_sends, packet_onto, peer_side}
use Rattle.ppp_auth.specs.Proved.{chap_answers, onto, chap_in, pap_in, pap_secret, secret_in, pap_packet, chap_packet, pap_outcome_by, prover_outcome, prover_waits, prover_sends, our_side}
use Rattle.ppp_auth.specs.Outcome.{passed_by, peer_passed, later, whole, outcome_in}
use Rattle.ppp_auth.specs.Phase.{sent_by, newly, told_at, nothing}

abbrev call_at : ℕ → PhaseCall → PhaseAt
call_at now call = record { now = now; call = call }

unbegun_by : (began moment : Option ℕ) → earlier began moment ≡ None → (began ≡ None) × (moment ≡ None)
unbegun_by None moment e = (refl, e)
unbegun_by (Some began) moment e = absurd cc

pub still_unbegun : (c : PhaseAt) (past : List PhaseAt) → begun_at (c ∷ past) ≡ None → begun_at past ≡ None
still_unbegun c past e = (unbegun_by (begun_at past) (moment_by c) e).0

no_moment : (c : PhaseAt) (past : List PhaseAt) → begun_at (c ∷ past) ≡ None → moment_by c ≡ None
no_moment c past e = (unbegun_by (begun_at past) (moment_by c) e).1

quiet_by : (method : Method) (server : List ℕ) (now : ℕ) (call : PhaseCall) → moment_by (call_at now call) ≡ None → reaching method server None call ≡ None
quiet_by method server now (starts pair) e = absurd cc
quiet_by method server now (takes protocol p pair) e = refl
quiet_by method server now waits e = refl

quiet : (method : Method) (server : List ℕ) (c : PhaseAt) (past : List PhaseAt) → begun_at (c ∷ past) ≡ None → reaching method server (begun_at past) c.call ≡ None
quiet method server c past e =
    ap (λ b. reaching method server b c.call) (still_unbegun c past e) ∙ quiet_by method server c.now c.call (no_moment c past e)

not_late : (call : PhaseCall) (now : ℕ) → is_late call None now ≡ false
not_late (starts pair) now = refl
not_late (takes protocol p pair) now = refl
not_late waits now = refl

not_lost : (waiting : List PhaseAt → Bool) (past : List PhaseAt) → begun_at past ≡ None → is_lost waiting past ≡ false
not_lost waiting [] e = refl
not_lost waiting (c ∷ past) e =
    ap₂ (λ a b. a || (b && waiting past)) (not_lost waiting past (still_unbegun c past e)) (ap (λ b. is_late c.call b c.now) (still_unbegun c past e) ∙ not_late c.call c.now)

-- Nothing reaches the judge.
judged_none : (method : Method) (s : Setting) (past : List PhaseAt) → begun_at past ≡ None → judged_in method s past ≡ []
judged_none method s [] e = refl
judged_none method s (c ∷ past) e =
    ap (λ r. judged_onto method s c.now r (judged_in method s past)) (quiet method s.config.name c past e) ∙ judged_none method s past (still_unbegun c past e)

peer_going : (method : Method) (s : Setting) (past : List PhaseAt) → begun_at past ≡ None → peer_side (Some method) s past ≡ side.Going
peer_going Pap s past e = ap₂ (λ b h. cond b side.Lost (side_of (judge_outcome Pap s h))) (not_lost (judge_waits Pap s) past e) (judged_none Pap s past e)
peer_going Chap s past e = ap₂ (λ b h. cond b side.Lost (side_of (judge_outcome Chap s h))) (not_lost (judge_waits Chap s) past e) (judged_none Chap s past e)

pub peer_unbegun : (method : Option Method) (s : Setting) (past : List PhaseAt) → begun_at past ≡ None → peer_side method s past ≢ side.Lost
peer_unbegun None s past e = λ l. absurd cc
peer_unbegun (Some method) s past e = λ l. let g = peer_going method s past e in absurd cc

-- nor us
pair_none : (now : ℕ) (call : PhaseCall) → moment_by (call_at now call) ≡ None → pair_by call ≡ None
pair_none now (starts pair) e = absurd cc
pair_none now (takes protocol p pair) e = refl
pair_none now waits e = refl

first_none : (past : List PhaseAt) → begun_at past ≡ None → first_pair past ≡ None
first_none [] e = refl
first_none (c ∷ past) e = ap₂ earlier (first_none past (still_unbegun c past e)) (pair_none c.now c.call (no_moment c past e))

chap_none : (s : Setting) (past : List PhaseAt) → begun_at past ≡ None → chap_in s past ≡ []
chap_none s [] e = refl
chap_none s (c ∷ past) e =
    ap (λ r. onto (chap_answers s) c.now r (chap_in s past)) (quiet Chap (name_or_empty s.config.remotename) c past e) ∙ chap_none s past (still_unbegun c past e)

pap_waits : (s : Setting) (past : List PhaseAt) → begun_at past ≡ None → side_of (prover_outcome Pap s past) ≡ side.Going
pap_waits s past e = ap (λ f. side_of (cond (is_some f) (pap_outcome_by s (option_and_then (λ (pair : SecretsPair). secret_in s.config.password s pair) f) past) auth.Waiting)) (first_none past e)

ours_going : (method : Method) (s : Setting) (past : List PhaseAt) → begun_at past ≡ None → our_side (Some method) s past ≡ side.Going
ours_going Pap s past e = ap₂ (λ b x. cond b side.Lost x) (not_lost (prover_waits Pap s) past e) (pap_waits s past e)
ours_going Chap s past e =
    ap₂ (λ b h. cond b side.Lost (side_of (chap_outcome s.config.user s.config.password h))) (not_lost (prover_waits Chap s) past e) (chap_none s past e)

pub ours_unbegun : (method : Option Method) (s : Setting) (past : List PhaseAt) → begun_at past ≡ None → our_side method s past ≢ side.Lost
ours_unbegun None s past e = λ l. absurd cc
ours_unbegun (Some method) s past e = λ l. let g = ours_going method s past e in absurd cc

pub unbegun_goes : (s : Setting) (past : List PhaseAt) → begun_at past ≡ None → outcome_in s past ≡ Going
unbegun_goes s [] e = refl
unbegun_goes s (c ∷ past) e =
    ap₂ later
    (unbegun_goes s past (still_unbegun c past e))
    (ap (λ b. cond (is_some b) (whole (peer_passed s.peer_proves s (c ∷ past)) (peer_side s.peer_proves s (c ∷ past)) (our_side s.we_prove s (c ∷ past))) Going) e)

-- Nothing is told.
judge_quiet : (method : Option Method) (s : Setting) (c : PhaseAt) (past : List PhaseAt) → begun_at (c ∷ past) ≡ None → judge_sends method s c past ≡ None
judge_quiet None s c past e = refl
judge_quiet (Some method) s c past e =
    ap₂ (λ b r. cond b None (packet_onto method s c.now r (judged_in method s past))) (not_lost (judge_waits method s) (c ∷ past) e) (quiet method s.config.name c past e)

pap_quiet : (s : Setting) (secret : Option (List ℕ)) (now : ℕ) (past : List Answered) → pap_packet s secret now None past ≡ None
pap_quiet s None now past = refl
pap_quiet s (Some secret) now past = refl

prover_quiet : (method : Option Method) (s : Setting) (c : PhaseAt) (past : List PhaseAt) → begun_at (c ∷ past) ≡ None → prover_sends method s c past ≡ None
prover_quiet None s c past e = refl
prover_quiet (Some Pap) s c past e =
    ap₂ (λ b r. cond b None (pap_packet s (pap_secret s (c ∷ past)) c.now r (pap_in s past))) (not_lost (prover_waits Pap s) (c ∷ past) e) (quiet Pap [] c past e)
    ∙ pap_quiet s (pap_secret s (c ∷ past)) c.now (pap_in s past)
prover_quiet (Some Chap) s c past e =
    ap₂ (λ b r. cond b None (chap_packet s r)) (not_lost (prover_waits Chap s) (c ∷ past) e) (quiet Chap (name_or_empty s.config.remotename) c past e)

newly_going : (before : Side) → newly before Going ≡ None
newly_going side.Done = refl
newly_going side.Going = refl
newly_going side.Lost = refl

not_passed : (method : Method) (s : Setting) (past : List PhaseAt) → begun_at past ≡ None → peer_passed (Some method) s past ≡ Going
not_passed Pap s past e = ap₂ (λ b h. cond b Going (passed_by Pap (judge_outcome Pap s h))) (not_lost (judge_waits Pap s) past e) (judged_none Pap s past e)
not_passed Chap s past e = ap₂ (λ b h. cond b Going (passed_by Chap (judge_outcome Chap s h))) (not_lost (judge_waits Chap s) past e) (judged_none Chap s past e)

newly_quiet : (method : Option Method) (s : Setting) (c : PhaseAt) (past : List PhaseAt) → begun_at (c ∷ past) ≡ None → newly (peer_side method s past) (peer_passed method s (c ∷ past)) ≡ None
newly_quiet None s c past e = refl
newly_quiet (Some method) s c past e = ap (λ n. newly (peer_side (Some method) s past) n) (not_passed method s (c ∷ past) e) ∙ newly_going (peer_side (Some method) s past)

none_sent : (method : Option Method) → sent_by method None ≡ []
none_sent None = refl
none_sent (Some method) = refl

abbrev out_of : List PhasePacket → Option (List ℕ) → PhaseOut
out_of packets passed = record { packets = packets; peer_passed = passed }

pub nothing_told : (s : Setting) (c : PhaseAt) (past : List PhaseAt) → begun_at (c ∷ past) ≡ None → told_at s c past ≡ nothing
nothing_told s c past e =
    ap₂ out_of
    (ap₂ (λ x y. sent_by s.peer_proves x ++ sent_by s.we_prove y) (judge_quiet s.peer_proves s c past e) (prover_quiet s.we_prove s c past e)
    ∙ ap₂ (λ x y. x ++ y) (none_sent s.peer_proves) (none_sent s.we_prove))
    (newly_quiet s.peer_proves s c past e)
