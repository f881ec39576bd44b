-- How a phase ends, over the whole list of its calls.
use Rattle.std.proofs.Common.{◌≡◌, ◌≢◌, ◌⊎◌, inl, inr, ℕ, ◌+◌, ◌≤◌, Bool, true, false, cond, List, [], ◌∷◌, ◌++◌, Option, Some, None, is_some, option_to_list, refl, ap, ap₂, sym, subst, ◌∙◌, arith}
use Rattle.std.proofs.lemmas.Bool.Decides.{nat_tests}
use Rattle.ppp_base.specs.declared.allow.Allow.{Allow}
use Rattle.ppp_base.specs.declared.allow.Allow.TheVariants as allow
use Rattle.ppp_packet.specs.declared.agreed.Method.{Method}
use Rattle.ppp_packet.specs.declared.agreed.Method.TheVariants.{Pap, Chap}
use Rattle.ppp_packet.specs.declared.auth_out.AuthOutcome.{AuthOutcome}
use Rattle.ppp_packet.specs.declared.auth_out.AuthOutcome.TheVariants as auth
use Rattle.ppp_auth.specs.declared.outcome.AuthNow.{AuthNow}
use Rattle.ppp_auth.specs.declared.outcome.AuthNow.TheVariants.{Going, Passed, PeerFailed, WeFailed}
use Rattle.ppp_auth.specs.declared.outcome.Side.{Side}
use Rattle.ppp_auth.specs.declared.outcome.Side.TheVariants as side
use Rattle.ppp_auth.specs.Setting.{Setting, PhaseAt, waits, begun_at, earlier, is_late, is_over}
use Rattle.ppp_auth.specs.Judged.{judge_outcome, judged_in, judge_lost, peer_side}
use Rattle.ppp_auth.specs.Proved.{our_side}
use Rattle.ppp_auth.specs.Outcome.{later, unless_lost, whole, passed_by, peer_passed, says, outcome_in}
use Rattle.ppp_auth.specs.Sides.{side_of}
use Rattle.ppp_auth.specs.Phase.{names_told, name_of, newly}
use Rattle.ppp_auth.specs.Ends.{HasPassed, IsPeer, BothDone, GoesOn, PeerFirst, WeFirst}
use Rattle.ppp_auth.proofs.SideLemmas.{peer_lost_stays, peer_done_stays, peer_lost_on, our_done_stays, our_lost_on, peer_late_ends, our_late_ends}
use Rattle.ppp_auth.proofs.BeforeLemmas.{peer_unbegun, ours_unbegun, unbegun_goes}

pub stays_peer : (s : Setting) (c : PhaseAt) (past : List PhaseAt) → outcome_in s past ≡ PeerFailed → outcome_in s (c ∷ past) ≡ PeerFailed
stays_peer s c past e = ap (λ o. later o (says s (c ∷ past))) e

pub stays_ours : (s : Setting) (c : PhaseAt) (past : List PhaseAt) → outcome_in s past ≡ WeFailed → outcome_in s (c ∷ past) ≡ WeFailed
stays_ours s c past e = ap (λ o. later o (says s (c ∷ past))) e

unless : (peer : Option (List ℕ)) (allow : Allow) (now : AuthNow) → (unless_lost (Passed peer allow) now ≡ Passed peer allow) ⊎ (unless_lost (Passed peer allow) now ≡ WeFailed)
unless peer allow Going = inl refl
unless peer allow (Passed other allowed) = inl refl
unless peer allow PeerFailed = inl refl
unless peer allow WeFailed = inr refl

pub stays_passed : (s : Setting) (c : PhaseAt) (past : List PhaseAt) (peer : Option (List ℕ)) (allow : Allow) → outcome_in s past ≡ Passed peer allow
    → (outcome_in s (c ∷ past) ≡ Passed peer allow) ⊎ (outcome_in s (c ∷ past) ≡ WeFailed)
stays_passed s c past peer allow e =
    let now : outcome_in s (c ∷ past) ≡ unless_lost (Passed peer allow) (says s (c ∷ past)) = ap (λ o. later o (says s (c ∷ past))) e in
    elim (unless peer allow (says s (c ∷ past))) [ inl p ↦ inl (now ∙ p) | inr p ↦ inr (now ∙ p) ]

-- Where the peer's side is done, that says who it is; once done this stays.
abbrev Who : Option Method → Setting → List PhaseAt → Type 0
Who method s past = (peer : Option (List ℕ)) × (allowed : Allow) × (peer_passed method s past ≡ Passed peer allowed)

who_by : (method : Method) (was : Bool) (o : AuthOutcome) → cond was side.Lost (side_of o) ≡ side.Done
    → (peer : Option (List ℕ)) × (allowed : Allow) × (cond was Going (passed_by method o) ≡ Passed peer allowed)
who_by method true o e = absurd cc
who_by method false auth.Waiting e = absurd cc
who_by Pap false (auth.Passed name line) e = (Some name, allow.Pap line, refl)
who_by Chap false (auth.Passed name line) e = (Some name, allow.Chap line, refl)
who_by method false (auth.Refused name) e = absurd cc
who_by method false (auth.Unanswered times) e = absurd cc

who : (method : Option Method) (s : Setting) (past : List PhaseAt) → peer_side method s past ≡ side.Done → Who method s past
who None s past e = (None, allow.Any, refl)
who (Some method) s past e = who_by method (judge_lost (Some method) s past) (judge_outcome method s (judged_in method s past)) e

who_stays : (method : Option Method) (s : Setting) (c : PhaseAt) (past : List PhaseAt) → peer_side method s past ≡ side.Done
    → (peer_side method s (c ∷ past) ≡ side.Done) × (peer_passed method s (c ∷ past) ≡ peer_passed method s past)
who_stays None s c past e = (refl, refl)
who_stays (Some method) s c past e =
    let still = peer_done_stays method s c past e in (
      ap₂ (λ b o. cond b side.Lost (side_of o)) (still.0 ∙ sym still.1) still.2 ∙ e,
      ap₂ (λ b o. cond b Going (passed_by method o)) (still.0 ∙ sym still.1) still.2,
    )

unnamed_by : (method : Method) (was : Bool) (o : AuthOutcome) → cond was side.Lost (side_of o) ≢ side.Done → name_of (cond was Going (passed_by method o)) ≡ None
unnamed_by method true o e = refl
unnamed_by method false auth.Waiting e = refl
unnamed_by method false (auth.Passed name line) e = absurd (e refl)
unnamed_by method false (auth.Refused name) e = refl
unnamed_by method false (auth.Unanswered times) e = refl

unnamed : (method : Option Method) (s : Setting) (past : List PhaseAt) → peer_side method s past ≢ side.Done → name_of (peer_passed method s past) ≡ None
unnamed None s past e = absurd (e refl)
unnamed (Some method) s past e = unnamed_by method (judge_lost (Some method) s past) (judge_outcome method s (judged_in method s past)) e

-- what each outcome says of the sides
record Finished (s : Setting) (past : List PhaseAt) (peer : Option (List ℕ)) (allowed : Allow) : Type 0 where
  begun : is_some (begun_at past) ≡ true
  peers : peer_side s.peer_proves s past ≡ side.Done
  ours : our_side s.we_prove s past ≡ side.Done
  is : peer_passed s.peer_proves s past ≡ Passed peer allowed

Holds : AuthNow → Setting → List PhaseAt → Type 0
Holds Going s past = (begun_at past ≡ None) ⊎ GoesOn s past
Holds (Passed peer allowed) s past = Finished s past peer allowed
Holds PeerFailed s past = PeerFirst s past
Holds WeFailed s past = WeFirst s past

holds_first : (s : Setting) (c : PhaseAt) (past : List PhaseAt) → is_some (begun_at (c ∷ past)) ≡ true → our_side s.we_prove s past ≢ side.Lost
    → (p o : Side) → peer_side s.peer_proves s (c ∷ past) ≡ p → our_side s.we_prove s (c ∷ past) ≡ o → Holds (whole (peer_passed s.peer_proves s (c ∷ past)) p o) s (c ∷ past)
unfolding Holds
holds_first s c past b before side.Lost o ep eo = record { later = []; call = c; earlier = past; split = refl; peers = ep; ours = before }
holds_first s c past b before side.Done side.Lost ep eo = record { later = []; call = c; earlier = past; split = refl; ours = eo; peers = λ e. absurd cc }
holds_first s c past b before side.Going side.Lost ep eo = record { later = []; call = c; earlier = past; split = refl; ours = eo; peers = λ e. absurd cc }
holds_first s c past b before side.Done side.Done ep eo =
    let w = who s.peer_proves s (c ∷ past) ep in
    subst (λ n. Holds n s (c ∷ past)) (sym w.2) (record { begun = b; peers = ep; ours = eo; is = w.2 })
holds_first s c past b before side.Done side.Going ep eo = inr (record { peers = λ e. absurd cc; ours = λ e. absurd cc; one = inr eo })
holds_first s c past b before side.Going side.Done ep eo = inr (record { peers = λ e. absurd cc; ours = λ e. absurd cc; one = inl ep })
holds_first s c past b before side.Going side.Going ep eo = inr (record { peers = λ e. absurd cc; ours = λ e. absurd cc; one = inl ep })

said : (s : Setting) (past : List PhaseAt) → is_some (begun_at past) ≡ true → says s past ≡ whole (peer_passed s.peer_proves s past) (peer_side s.peer_proves s past) (our_side s.we_prove s past)
said s past b = ap (λ t. cond t (whole (peer_passed s.peer_proves s past) (peer_side s.peer_proves s past) (our_side s.we_prove s past)) Going) b

ours_before : (s : Setting) (past : List PhaseAt) → (begun_at past ≡ None) ⊎ GoesOn s past → our_side s.we_prove s past ≢ side.Lost
ours_before s past (inl none) = ours_unbegun s.we_prove s past none
ours_before s past (inr goes) = goes.ours

holds_step : (o : AuthNow) (s : Setting) (c : PhaseAt) (past : List PhaseAt) → Holds o s past → is_some (begun_at (c ∷ past)) ≡ true → Holds (later o (says s (c ∷ past))) s (c ∷ past)
unfolding Holds
holds_step Going s c past h b =
    subst (λ n. Holds n s (c ∷ past)) (sym (said s (c ∷ past) b)) (holds_first s c past b (ours_before s past h) (peer_side s.peer_proves s (c ∷ past)) (our_side s.we_prove s (c ∷ past)) refl refl)
holds_step (Passed peer allowed) s c past h b =
    let still = who_stays s.peer_proves s c past h.peers in
    let is : peer_passed s.peer_proves s (c ∷ past) ≡ Passed peer allowed = still.1 ∙ h.is in
    elim (our_done_stays s.we_prove s c past h.ours) [
      | inl d ↦
          let now : says s (c ∷ past) ≡ Passed peer allowed = said s (c ∷ past) b ∙ ap₂ (λ x y. whole (peer_passed s.peer_proves s (c ∷ past)) x y) still.0 d ∙ is in
          subst (λ n. Holds (later (Passed peer allowed) n) s (c ∷ past)) (sym now) (record { begun = b; peers = still.0; ours = d; is = is })
      | inr l ↦
          let now : says s (c ∷ past) ≡ WeFailed = said s (c ∷ past) b ∙ ap₂ (λ x y. whole (peer_passed s.peer_proves s (c ∷ past)) x y) still.0 l in
          let peers : peer_side s.peer_proves s (c ∷ past) ≡ side.Done = still.0 in
          subst (λ n. Holds (later (Passed peer allowed) n) s (c ∷ past)) (sym now) (record { later = []; call = c; earlier = past; split = refl; ours = l; peers = λ e. absurd (cc (peers, e)) })
    ]
holds_step PeerFailed s c past h b = record { later = c ∷ h.later; call = h.call; earlier = h.earlier; split = ap (λ l. c ∷ l) h.split; peers = h.peers; ours = h.ours }
holds_step WeFailed s c past h b = record { later = c ∷ h.later; call = h.call; earlier = h.earlier; split = ap (λ l. c ∷ l) h.split; ours = h.ours; peers = h.peers }

holds_by : (s : Setting) (c : PhaseAt) (past : List PhaseAt) → Holds (outcome_in s past) s past → (began : Option ℕ) → begun_at (c ∷ past) ≡ began → Holds (outcome_in s (c ∷ past)) s (c ∷ past)
unfolding Holds
holds_by s c past h None e = subst (λ n. Holds n s (c ∷ past)) (sym (unbegun_goes s (c ∷ past) e)) (inl e)
holds_by s c past h (Some moment) e = holds_step (outcome_in s past) s c past h (ap (λ x. is_some x) e)

holds : (s : Setting) (past : List PhaseAt) → Holds (outcome_in s past) s past
unfolding Holds
holds s [] = inl refl
holds s (c ∷ past) = holds_by s c past (holds s past) (begun_at (c ∷ past)) refl

holds_at : (s : Setting) (past : List PhaseAt) (o : AuthNow) → outcome_in s past ≡ o → Holds o s past
holds_at s past o e = subst (λ n. Holds n s past) e (holds s past)

-- The sides that were lost at first are lost in the end.
peer_lost : (s : Setting) (past : List PhaseAt) → PeerFirst s past → peer_side s.peer_proves s past ≡ side.Lost
peer_lost s past f = ap (λ l. peer_side s.peer_proves s l) f.split ∙ peer_lost_on s.peer_proves s f.later (f.call ∷ f.earlier) f.peers

ours_lost : (s : Setting) (past : List PhaseAt) → WeFirst s past → our_side s.we_prove s past ≡ side.Lost
ours_lost s past f = ap (λ l. our_side s.we_prove s l) f.split ∙ our_lost_on s.we_prove s f.later (f.call ∷ f.earlier) f.ours

-- Of two ends of one list one is an end of the other.
tail_of : List PhaseAt → List PhaseAt
tail_of [] = []
tail_of (c ∷ past) = past

ends_meet : (l m x y : List PhaseAt) → l ++ x ≡ m ++ y → ((k : List PhaseAt) × (x ≡ k ++ y)) ⊎ ((k : List PhaseAt) × (y ≡ k ++ x))
unfolding tail_of
ends_meet [] m x y e = inl (m, e)
ends_meet (c ∷ l) [] x y e = inr (c ∷ l, sym e)
ends_meet (c ∷ l) (d ∷ m) x y e = ends_meet l m x y (ap tail_of e)

not_both_by : (s : Setting) (c d : PhaseAt) (past rest : List PhaseAt) → peer_side s.peer_proves s (c ∷ past) ≡ side.Lost → our_side s.we_prove s past ≢ side.Lost
    → our_side s.we_prove s (d ∷ rest) ≡ side.Lost → peer_side s.peer_proves s (d ∷ rest) ≢ side.Lost → (k : List PhaseAt) → c ∷ past ≡ k ++ d ∷ rest → ⊥
unfolding tail_of
not_both_by s c d past rest p yet o np [] e = np (sym (ap (λ l. peer_side s.peer_proves s l) e) ∙ p)
not_both_by s c d past rest p yet o np (x ∷ k) e = yet (ap (λ l. our_side s.we_prove s (tail_of l)) e ∙ our_lost_on s.we_prove s k (d ∷ rest) o)

not_both : (s : Setting) (past : List PhaseAt) → PeerFirst s past → WeFirst s past → ⊥
not_both s past p w =
    elim (ends_meet p.later w.later (p.call ∷ p.earlier) (w.call ∷ w.earlier) (sym p.split ∙ w.split)) [
      | inl m ↦ not_both_by s p.call w.call p.earlier w.earlier p.peers p.ours w.ours w.peers m.0 m.1
      | inr m ↦ w.peers (ap (λ l. peer_side s.peer_proves s l) m.1 ∙ peer_lost_on s.peer_proves s m.0 (p.call ∷ p.earlier) p.peers)
    ]

-- who the peer is
is_pap : (s : Setting) (past : List PhaseAt) (peer : Option (List ℕ)) (allowed : Allow) (was : Bool) (o : AuthOutcome) → judge_outcome Pap s (judged_in Pap s past) ≡ o
    → cond was Going (passed_by Pap o) ≡ Passed peer allowed → HasPassed Pap s past peer allowed (λ line. allow.Pap line)
is_pap s past peer allowed true o eo e = absurd cc
is_pap s past peer allowed false auth.Waiting eo e = absurd cc
is_pap s past peer allowed false (auth.Passed name line) eo e = record { name = name; line = line; passed = eo; named = cc; lined = cc }
is_pap s past peer allowed false (auth.Refused name) eo e = absurd cc
is_pap s past peer allowed false (auth.Unanswered times) eo e = absurd cc

is_chap : (s : Setting) (past : List PhaseAt) (peer : Option (List ℕ)) (allowed : Allow) (was : Bool) (o : AuthOutcome) → judge_outcome Chap s (judged_in Chap s past) ≡ o
    → cond was Going (passed_by Chap o) ≡ Passed peer allowed → HasPassed Chap s past peer allowed (λ line. allow.Chap line)
is_chap s past peer allowed true o eo e = absurd cc
is_chap s past peer allowed false auth.Waiting eo e = absurd cc
is_chap s past peer allowed false (auth.Passed name line) eo e = record { name = name; line = line; passed = eo; named = cc; lined = cc }
is_chap s past peer allowed false (auth.Refused name) eo e = absurd cc
is_chap s past peer allowed false (auth.Unanswered times) eo e = absurd cc

is_peer : (method : Option Method) (s : Setting) (past : List PhaseAt) (peer : Option (List ℕ)) (allowed : Allow) → peer_passed method s past ≡ Passed peer allowed → IsPeer method s past peer allowed
is_peer None s past peer allowed e = (cc, cc)
is_peer (Some Pap) s past peer allowed e = is_pap s past peer allowed (judge_lost (Some Pap) s past) (judge_outcome Pap s (judged_in Pap s past)) refl e
is_peer (Some Chap) s past peer allowed e = is_chap s past peer allowed (judge_lost (Some Chap) s past) (judge_outcome Chap s (judged_in Chap s past)) refl e

in_time : (was : Bool) (o : AuthOutcome) → cond was side.Lost (side_of o) ≡ side.Done → was ≡ false
in_time true o e = absurd cc
in_time false o e = refl

peer_is : (method : Option Method) (s : Setting) (past : List PhaseAt) (peer : Option (List ℕ)) (allowed : Allow) → peer_side method s past ≡ side.Done → IsPeer method s past peer allowed
    → peer_passed method s past ≡ Passed peer allowed
peer_is None s past peer allowed e (named, lined) = sym (ap₂ (λ n a. Passed n a) named lined)
peer_is (Some Pap) s past peer allowed e p =
    ap₂ (λ b o. cond b Going (passed_by Pap o)) (in_time (judge_lost (Some Pap) s past) (judge_outcome Pap s (judged_in Pap s past)) e) p.passed ∙ sym (ap₂ (λ n a. Passed n a) p.named p.lined)
peer_is (Some Chap) s past peer allowed e p =
    ap₂ (λ b o. cond b Going (passed_by Chap o)) (in_time (judge_lost (Some Chap) s past) (judge_outcome Chap s (judged_in Chap s past)) e) p.passed ∙ sym (ap₂ (λ n a. Passed n a) p.named p.lined)

-- The four outcomes, exactly.
pub passed_done : (s : Setting) (past : List PhaseAt) (peer : Option (List ℕ)) (allowed : Allow) → outcome_in s past ≡ Passed peer allowed → BothDone s past peer allowed
unfolding Holds
passed_done s past peer allowed e =
    let h : Finished s past peer allowed = holds_at s past (Passed peer allowed) e in
    record { begun = h.begun; peers = h.peers; ours = h.ours; is_peer = is_peer s.peer_proves s past peer allowed h.is }

not_going : (s : Setting) (past : List PhaseAt) → (begun_at past ≡ None) ⊎ GoesOn s past → is_some (begun_at past) ≡ true
    → (peer_side s.peer_proves s past ≡ side.Done) × (our_side s.we_prove s past ≡ side.Done) → ⊥
not_going s past (inl none) b d = absurd cc
not_going s past (inr goes) b (p, o) = elim goes.one [ inl g ↦ absurd (cc (p, g)) | inr g ↦ absurd (cc (o, g)) ]

pub done_passed : (s : Setting) (past : List PhaseAt) (peer : Option (List ℕ)) (allowed : Allow) → BothDone s past peer allowed → outcome_in s past ≡ Passed peer allowed
unfolding Holds
done_passed s past peer allowed d = by (outcome_in s past) refl
  where
    by : (o : AuthNow) → outcome_in s past ≡ o → outcome_in s past ≡ Passed peer allowed
    by Going e = absurd (not_going s past (holds_at s past Going e) d.begun (d.peers, d.ours))
    by (Passed other allow) e =
        let h : Finished s past other allow = holds_at s past (Passed other allow) e in
        e ∙ sym h.is ∙ peer_is s.peer_proves s past peer allowed d.peers d.is_peer
    by PeerFailed e = let l = peer_lost s past (holds_at s past PeerFailed e) in absurd (cc (l, d.peers))
    by WeFailed e = let l = ours_lost s past (holds_at s past WeFailed e) in absurd (cc (l, d.ours))

pub peer_failed : (s : Setting) (past : List PhaseAt) → outcome_in s past ≡ PeerFailed → PeerFirst s past
unfolding Holds
peer_failed s past e = holds_at s past PeerFailed e

pub failed_peer : (s : Setting) (past : List PhaseAt) → PeerFirst s past → outcome_in s past ≡ PeerFailed
unfolding Holds
failed_peer s past f = by (outcome_in s past) refl
  where
    goes : (begun_at past ≡ None) ⊎ GoesOn s past → ⊥
    goes (inl none) = peer_unbegun s.peer_proves s past none (peer_lost s past f)
    goes (inr g) = g.peers (peer_lost s past f)

    by : (o : AuthNow) → outcome_in s past ≡ o → outcome_in s past ≡ PeerFailed
    by Going e = absurd (goes (holds_at s past Going e))
    by (Passed other allow) e =
        let h : Finished s past other allow = holds_at s past (Passed other allow) e in
        let l = peer_lost s past f in
        absurd (cc (l, h.peers))
    by PeerFailed e = e
    by WeFailed e = absurd (not_both s past f (holds_at s past WeFailed e))

pub we_failed : (s : Setting) (past : List PhaseAt) → outcome_in s past ≡ WeFailed → WeFirst s past
unfolding Holds
we_failed s past e = holds_at s past WeFailed e

pub failed_we : (s : Setting) (past : List PhaseAt) → WeFirst s past → outcome_in s past ≡ WeFailed
unfolding Holds
failed_we s past f = by (outcome_in s past) refl
  where
    by : (o : AuthNow) → outcome_in s past ≡ o → outcome_in s past ≡ WeFailed
    by Going e = absurd (ours_before s past (holds_at s past Going e) (ours_lost s past f))
    by (Passed other allow) e =
        let h : Finished s past other allow = holds_at s past (Passed other allow) e in
        let l = ours_lost s past f in
        absurd (cc (l, h.ours))
    by PeerFailed e = absurd (not_both s past (holds_at s past PeerFailed e) f)
    by WeFailed e = e

pub going_on : (s : Setting) (past : List PhaseAt) → outcome_in s past ≡ Going → (begun_at past ≡ None) ⊎ GoesOn s past
unfolding Holds
going_on s past e = holds_at s past Going e

pub on_going : (s : Setting) (past : List PhaseAt) → (begun_at past ≡ None) ⊎ GoesOn s past → outcome_in s past ≡ Going
unfolding Holds
on_going s past (inl none) = unbegun_goes s past none
on_going s past (inr g) = by (outcome_in s past) refl
  where
    by : (o : AuthNow) → outcome_in s past ≡ o → outcome_in s past ≡ Going
    by Going e = e
    by (Passed other allow) e =
        let h : Finished s past other allow = holds_at s past (Passed other allow) e in
        elim g.one [ inl x ↦ absurd (cc (x, h.peers)) | inr x ↦ absurd (cc (x, h.ours)) ]
    by PeerFailed e = absurd (g.peers (peer_lost s past (holds_at s past PeerFailed e)))
    by WeFailed e = absurd (g.ours (ours_lost s past (holds_at s past WeFailed e)))

-- Late, no phase goes on.
pub over_at_sixty : (s : Setting) (past : List PhaseAt) (began now : ℕ) → begun_at past ≡ Some began → began + 60000 ≤ now → outcome_in s (record { now = now; call = waits } ∷ past) ≢ Going
over_at_sixty s past began now since long = λ e. by (going_on s (c ∷ past) e)
  where
    c : PhaseAt
    c = record { now = now; call = waits }

    over : is_over (Some began) now ≡ true
    over = grind (arith, nat_tests)

    late : is_late waits (begun_at past) now ≡ true
    late = ap (λ b. is_over b now) since ∙ over

    by : (begun_at (c ∷ past) ≡ None) ⊎ GoesOn s (c ∷ past) → ⊥
    by (inl none) = let some : begun_at (c ∷ past) ≡ Some began = ap (λ b. earlier b None) since in absurd (cc (none, some))
    by (inr g) = elim g.one [ inl x ↦ absurd (peer_late_ends s.peer_proves s c past late x) | inr x ↦ absurd (our_late_ends s.we_prove s c past late x) ]

-- The names that were told.
none_more : (name : Option (List ℕ)) → option_to_list name ++ [] ≡ option_to_list name
none_more None = refl
none_more (Some name) = refl

told_by_side : (s : Setting) (c : PhaseAt) (past : List PhaseAt) (before : Side) → peer_side s.peer_proves s past ≡ before
    → option_to_list (newly before (peer_passed s.peer_proves s (c ∷ past))) ++ option_to_list (name_of (peer_passed s.peer_proves s past)) ≡ option_to_list (name_of (peer_passed s.peer_proves s (c ∷ past)))
told_by_side s c past side.Done e = ap (λ n. option_to_list (name_of n)) (sym (who_stays s.peer_proves s c past e).1)
told_by_side s c past side.Going e =
    ap (λ n. option_to_list (name_of (peer_passed s.peer_proves s (c ∷ past))) ++ option_to_list n) (unnamed s.peer_proves s past (λ d. absurd (cc (d, e))))
    ∙ none_more (name_of (peer_passed s.peer_proves s (c ∷ past)))
told_by_side s c past side.Lost e =
    let l = peer_lost_stays s.peer_proves s c past e in
    ap (λ n. option_to_list n) (unnamed s.peer_proves s past (λ d. absurd (cc (d, e)))) ∙ sym (ap (λ n. option_to_list n) (unnamed s.peer_proves s (c ∷ past) (λ d. absurd (cc (d, l)))))

none_at_first : (method : Option Method) (s : Setting) → [] ≡ option_to_list (name_of (peer_passed method s []))
none_at_first None s = refl
none_at_first (Some Pap) s = refl
none_at_first (Some Chap) s = refl

pub names_are : (s : Setting) (past : List PhaseAt) → names_told s past ≡ option_to_list (name_of (peer_passed s.peer_proves s past))
names_are s [] = none_at_first s.peer_proves s
names_are s (c ∷ past) =
    ap (λ names. option_to_list (newly (peer_side s.peer_proves s past) (peer_passed s.peer_proves s (c ∷ past))) ++ names) (names_are s past)
    ∙ told_by_side s c past (peer_side s.peer_proves s past) refl

pub none_named : (s : Setting) (past : List PhaseAt) → outcome_in s past ≡ PeerFailed → names_told s past ≡ []
none_named s past e =
    let l = peer_lost s past (peer_failed s past e) in
    names_are s past ∙ ap (λ n. option_to_list n) (unnamed s.peer_proves s past (λ d. absurd (cc (d, l))))

pub peer_named : (s : Setting) (past : List PhaseAt) (peer : Option (List ℕ)) (allowed : Allow) → outcome_in s past ≡ Passed peer allowed → names_told s past ≡ option_to_list peer
unfolding Holds
peer_named s past peer allowed e =
    let h : Finished s past peer allowed = holds_at s past (Passed peer allowed) e in
    names_are s past ∙ ap (λ n. option_to_list (name_of n)) h.is
