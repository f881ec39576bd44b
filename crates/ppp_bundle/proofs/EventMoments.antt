-- What each event adds to what has happened to a bundle.
use Rattle.std.proofs.Common.{◌≡◌, ◌⊎◌, inl, inr, ℕ, ◌-◌, Bool, true, false, Option, None, Some, List, [], ◌∷◌, ◌++◌, refl, ap, sym, subst, subst₂, ◌∙◌, arith}
use Rattle.std.proofs.lemmas.Bool.Decides.{nat_tests}
use Rattle.std.specs.Prelude.{min, nat_le, if◌then◌else◌}
use Rattle.ppp_base.specs.declared.hook_target.HookTarget.TheVariants.{Unit as OfUnit}
use Rattle.ppp_base.specs.declared.posts.CloseCause.{CloseCause}
use Rattle.ppp_base.specs.declared.posts.CloseCause.TheVariants.{Idle, ConnectTime, IpcpFailed, EndedByPeer, TooManyChanges}
use Rattle.ppp_control.specs.Rules.{Call}
use Rattle.ppp_ipcp.specs.Around.{Around}
use Rattle.ppp_ipcp.specs.Session.{session_after}
use Rattle.ppp_secrets.specs.declared.secrets.SecretsPair.{SecretsPair}
use Rattle.ppp_unit_parts.specs.declared.live.IpCall.{IpCall}
use Rattle.ppp_unit_parts.specs.declared.live.Live.{Live}
use Rattle.ppp_unit_parts.specs.declared.outbox.BundleEnd.{BundleEnd}
use Rattle.ppp_unit_parts.specs.declared.outbox.Ending.{Ending}
use Rattle.ppp_unit_parts.specs.declared.outbox.UnitCounts.{UnitCounts}
use Rattle.ppp_unit_parts.specs.declared.wish.UnitWish.{UnitWish}
use Rattle.ppp_bundle.specs.Closing.{closed, closed_if, closed_of, connect_end, crowded_end, idle_end, looked}
use Rattle.ppp_unit_parts.specs.Live.{ending, most_elapsed, is_up}
use Rattle.ppp_bundle.specs.History.{Moment, Calls, Terms, HasReason, by_peer_after, calls_in, entered_in, has_finished_after, is_up_in, opened_in, passed_in, asked_in}
use Rattle.ppp_bundle.specs.IpCalls.{called}
use Rattle.ppp_unit_parts.specs.Calls.{around_of, call_of, has_finished, ip_left, live_tells}
use Rattle.ppp_bundle.specs.Lives.{Lives, LivesOrEnds, Reached}
use Rattle.ppp_bundle.specs.Replay.{since_made}
use Rattle.ppp_bundle.specs.State.{UnitState}
use Rattle.ppp_bundle.proofs.CallMoments.{call_made, up_is}
use Rattle.ppp_bundle.proofs.CloseMoments.{Over, closed_over}
use Rattle.ppp_bundle.proofs.MidMoments.{Calm, Flows, Keeps, Mid, call_calm, call_flows, call_mid, is_past, keeps_closed, limit_end, limit_reason, not_past, closed_calm}
use Rattle.ppp_mp.specs.StandsFor.{GatherNow}
use Rattle.ppp_bundle.specs.ScriptParts.{over}

-- THE END OF A STEP

-- No bundle lives any more.
pub record Dead {S : Type 0} (terms : Terms) (past : List Moment) (left : List (List ℕ)) (u : UnitState S) : Type 0 where
  pub live : u.live ≡ None
  pub how : LivesOrEnds terms past left u None u.ended

pub dead_of : {S : Type 0} (terms : Terms) (past : List Moment) (left : List (List ℕ)) (u : UnitState S) → Over terms past left u → Dead terms past left u
dead_of terms past left u over = record { live = over.live; how = subst (λ (e : Option BundleEnd). LivesOrEnds terms past left u None e) (sym over.ended) over.ends }

pub either_of : {S : Type 0} (terms : Terms) (past : List Moment) (asked : List (Call Around)) (left : List (List ℕ)) (u : UnitState S) → Mid terms past asked left u ⊎ Over terms past left u → Mid terms past asked left u ⊎ Dead terms past left u
either_of terms past asked left u (inl m) = inl m
either_of terms past asked left u (inr o) = inr (dead_of terms past left u o)

pub dead_stays : {S : Type 0} (terms : Terms) (past : List Moment) (left : List (List ℕ)) (found : Option Ending) (u : UnitState S) → Dead terms past left u → Dead terms past left (closed_if found u)
dead_stays terms past left None u dead = dead
dead_stays terms past left (Some end) u dead = subst (λ (o : Option Live). Dead terms past left (closed_of o end u)) (sym dead.live) dead

pub keeps_if : {S : Type 0} (found : Option Ending) (u : UnitState S) → Keeps u (closed_if found u)
keeps_if None u = record { sent = refl; given = refl; counts = refl; time = refl }
keeps_if (Some end) u = keeps_closed u.live end u

pub flows_keep : {S : Type 0} (terms : Terms) (since past : List Moment) (left : List (List ℕ)) (counts : UnitCounts) (old new : UnitState S) → Keeps old new → Flows terms since past left counts old → Flows terms since past left counts new
flows_keep terms since past left counts old new k f = record {
  sends = rw k.sent f.sends;
  gives = rw k.given f.gives;
  counts_are = k.counts ∙ f.counts_are;
}

-- the two limits
pub idle_over : {S : Type 0} (terms : Terms) (past : List Moment) (left : List (List ℕ)) (end : Ending) (u : UnitState S) → idle_end u.time u.live ≡ Some end → Mid terms past [] left u → Over terms past left (closed end u)
idle_over {S = S} terms past left end u e m =
    let p = is_past (is_up m.l) Idle m.l.wish.idle_s u.time m.l.passed_at end (ap (λ (o : Option Live). idle_end u.time o) (sym m.live) ∙ e) in
    subst (λ (x : Ending). Over terms past left (closed x u)) p.end_is
    (closed_over terms past left u m.l (ending Idle (min (u.time - m.l.passed_at) most_elapsed)) m.live m.target m.reached m.asked_is
    (limit_reason terms past u.time m.l.wish.idle_s terms.wish.idle_s m.l.passed_at (passed_in terms past) (is_up m.l) Idle end m.reached.time_is
    (up_is terms m.l.ipcp (calls_in past) m.reached.ipcp) (ap (λ (w : UnitWish). w.idle_s) m.reached.wish) m.reached.passed_at p))

pub connect_over : {S : Type 0} (terms : Terms) (past : List Moment) (left : List (List ℕ)) (end : Ending) (u : UnitState S) → connect_end u.time u.live ≡ Some end → Mid terms past [] left u → Over terms past left (closed end u)
connect_over {S = S} terms past left end u e m =
    let p = is_past (is_up m.l) ConnectTime m.l.wish.maxconnect_s u.time m.l.opened_at end (ap (λ (o : Option Live). connect_end u.time o) (sym m.live) ∙ e) in
    subst (λ (x : Ending). Over terms past left (closed x u)) p.end_is
    (closed_over terms past left u m.l (ending ConnectTime (min (u.time - m.l.opened_at) most_elapsed)) m.live m.target m.reached m.asked_is
    (limit_reason terms past u.time m.l.wish.maxconnect_s terms.wish.maxconnect_s m.l.opened_at (opened_in terms past) (is_up m.l) ConnectTime end m.reached.time_is
    (up_is terms m.l.ipcp (calls_in past) m.reached.ipcp) (ap (λ (w : UnitWish). w.maxconnect_s) m.reached.wish) m.reached.opened_at p))

-- the marks are counted
crowd_look : {S : Type 0} (terms : Terms) (past : List Moment) (left : List (List ℕ)) (b : Bool) (u : UnitState S) → nat_le 900 (since_made u.scripts.log.past) ≡ b → Mid terms past [] left u
    → let v = closed_if (if b then Some (ending TooManyChanges 0) else None) u in Mid terms past [] left v ⊎ Dead terms past left v
crowd_look {S = S} terms past left true u e m =
    inr (dead_of terms past left (closed (ending TooManyChanges 0) u) (closed_over terms past left u m.l (ending TooManyChanges 0) m.live m.target m.reached m.asked_is (grind (arith, nat_tests))))
crowd_look {S = S} terms past left false u e m = inl m

pub looked_either : {S : Type 0} (terms : Terms) (past : List Moment) (left : List (List ℕ)) (u : UnitState S) → Mid terms past [] left u ⊎ Dead terms past left u → Mid terms past [] left (looked u) ⊎ Dead terms past left (looked u)
looked_either terms past left u (inl m) = crowd_look terms past left (nat_le 900 (since_made u.scripts.log.past)) u refl m
looked_either terms past left u (inr dead) = inr (dead_stays terms past left (crowded_end u.scripts.log.past) u dead)

pub looked_calm : {S : Type 0} (u : UnitState S) → Calm u → Calm (looked u)
looked_calm {S = S} u calm = by_found (crowded_end u.scripts.log.past)
  where
    by_found : (found : Option Ending) → Calm (closed_if found u)
    by_found None = calm
    by_found (Some end) = closed_calm u.live end u refl calm

crowd_by : {S : Type 0} (terms : Terms) (past : List Moment) (b : Bool) (u : UnitState S) → nat_le 900 (since_made u.scripts.log.past) ≡ b → Mid terms past [] [] u → Calm u
    → let v = closed_if (if b then Some (ending TooManyChanges 0) else None) u in LivesOrEnds terms past [] v v.live v.ended
crowd_by {S = S} terms past true u e m calm =
    let o = closed_over terms past [] u m.l (ending TooManyChanges 0) m.live m.target m.reached m.asked_is (grind (arith, nat_tests)) in
    subst₂ (λ (x : Option Live) (y : Option BundleEnd). LivesOrEnds terms past [] (closed (ending TooManyChanges 0) u) x y) (sym o.live) (sym o.ended) o.ends
crowd_by {S = S} terms past false u e m calm =
    subst₂ (λ (x : Option Live) (y : Option BundleEnd). LivesOrEnds terms past [] u x y) (sym m.live) (sym m.ended)
    (record { reached = m.reached; done = m.asked_is; no_reason = none_for }, refl)
  where
    up : is_up m.l ≡ is_up_in terms past
    up = up_is terms m.l.ipcp (calls_in past) m.reached.ipcp

    none_for : (cause : CloseCause) (elapsed : ℕ) → HasReason terms past (since_made u.scripts.log.past) cause elapsed → ⊥
    none_for Idle elapsed over =
        not_past (is_up m.l) Idle m.l.wish.idle_s u.time m.l.passed_at (ap (λ (o : Option Live). idle_end u.time o) (sym m.live) ∙ calm.idle)
        (up ∙ over.up) (rw m.reached.wish over.some) (rw (m.reached.wish, m.reached.time_is, m.reached.passed_at) over.long)
    none_for ConnectTime elapsed over =
        not_past (is_up m.l) ConnectTime m.l.wish.maxconnect_s u.time m.l.opened_at (ap (λ (o : Option Live). connect_end u.time o) (sym m.live) ∙ calm.connect)
        (up ∙ over.up) (rw m.reached.wish over.some) (rw (m.reached.wish, m.reached.time_is, m.reached.opened_at) over.long)
    none_for IpcpFailed elapsed why = absurd (let f : true ≡ false = sym why.0 ∙ m.going in cc)
    none_for EndedByPeer elapsed why = absurd (let f : true ≡ false = sym why.0 ∙ m.going in cc)
    none_for TooManyChanges elapsed why = grind (arith, nat_tests)

-- A bundle lives with nothing left, or none lives any more.
abbrev pub Stands : {S : Type 0} → Terms → List Moment → (left : List (List ℕ)) → UnitState S → Type 0
Stands terms past left u = (Mid terms past [] [] u × (left ≡ [])) ⊎ Dead terms past left u

pub stands_of : {S : Type 0} (terms : Terms) (past : List Moment) (u : UnitState S) → Mid terms past [] [] u ⊎ Dead terms past [] u → Stands terms past [] u
stands_of terms past u (inl m) = inl (m, refl)
stands_of terms past u (inr d) = inr d

pub step_ends : {S : Type 0} (terms : Terms) (past : List Moment) (left : List (List ℕ)) (u : UnitState S) → Stands terms past left u → Calm u
    → LivesOrEnds terms past left (looked u) (looked u).live (looked u).ended
step_ends {S = S} terms past left u (inl m) calm =
    subst (λ (x : List (List ℕ)). LivesOrEnds terms past x (looked u) (looked u).live (looked u).ended) (sym m.1) (crowd_by terms past (nat_le 900 (since_made u.scripts.log.past)) u refl m.0 calm)
step_ends {S = S} terms past left u (inr dead) calm =
    let d = dead_stays terms past left (crowded_end u.scripts.log.past) u dead in
    subst (λ (o : Option Live). LivesOrEnds terms past left (looked u) o (looked u).ended) (sym d.live) d.how

-- A CALL BY WHATEVER UNIT

pub record Did {S : Type 0} (terms : Terms) (since past : List Moment) (asked : List (Call Around)) (left : List (List ℕ)) (counts : UnitCounts) (u : UnitState S) : Type 0 where
  pub stands : Mid terms (since ++ past) asked left u ⊎ Over terms (since ++ past) left u
  pub flows : Flows terms since past [] counts u

pub call_on : {S : Type 0} (terms : Terms) (since past : List Moment) (counts : UnitCounts) (secrets : SecretsPair) (call : IpCall) (asked rest : List (Call Around)) (left : List (List ℕ)) (u : UnitState S)
    → (m : Mid terms (since ++ past) asked left u) → asked ≡ call_of (around_of secrets m.l) call ∷ rest
    → (entered_in (since ++ past) ≡ None → ip_left (around_of secrets m.l) u.time call m.l.ipcp ≡ session_after terms.wish.ip [])
    → (has_finished (live_tells secrets u.time call m.l).acts ≡ true → rest ≡ []) → Flows terms since past [] counts u
    → Did terms (Calls (call_made secrets u.time call m.l) ∷ since) past rest left counts (called secrets call u)
call_on {S = S} terms since past counts secrets call asked rest left u m e quiet none flows =
    let l : Live = m.l in
    let now : List Moment = Calls (call_made secrets u.time call l) ∷ since in
    let same : u ≡ record u { live = Some l } = ap (λ (o : Option Live). record u { live = o }) m.live in
    let did = call_mid terms (since ++ past) secrets call rest left l u m.target m.ended m.reached (m.asked_is ∙ e) quiet none in
    subst (λ (v : UnitState S). Did terms now past rest left counts (called secrets call v)) (sym same)
    (record {
      stands = did;
      flows = call_flows terms since past counts secrets call left l u m.reached (subst (λ (v : UnitState S). Flows terms since past [] counts v) same flows);
    })

pub calm_on : {S : Type 0} (secrets : SecretsPair) (call : IpCall) (l : Live) (u : UnitState S) → u.live ≡ Some l → Calm u → Calm (called secrets call u)
calm_on {S = S} secrets call l u live calm =
    let same : u ≡ record u { live = Some l } = ap (λ (o : Option Live). record u { live = o }) live in
    subst (λ (v : UnitState S). Calm (called secrets call v)) (sym same) (call_calm secrets call l u (subst (λ (v : UnitState S). Calm v) same calm))

-- Where a step begins: the bundle lives, with what its gatherer was before.
pub record Begins {S : Type 0} (terms : Terms) (past : List Moment) (gather : GatherNow) (u : UnitState S) : Type 0 where
  pub l : Live
  pub live : u.live ≡ Some l
  pub reached : Reached terms u.time gather l past []
  pub done : asked_in terms past ≡ []
  pub going : has_finished_after (calls_in past) ≡ false
  pub ended : u.ended ≡ None
  pub target : u.scripts.machine.target ≡ OfUnit u.unit

pub begins_step : {S : Type 0} (terms : Terms) (past : List Moment) (marks : ℕ) (gather : GatherNow) (l : Live) (u : UnitState S) → u.live ≡ Some l → u.ended ≡ None → u.scripts.machine.target ≡ OfUnit u.unit
    → Lives terms marks u.time gather l past → Begins terms past gather u
begins_step terms past marks gather l u live ended target lives = record {
  l = l;
  live = live;
  reached = lives.reached;
  done = lives.done;
  going = going_by (has_finished_after (calls_in past)) (by_peer_after terms.wish (calls_in past)) refl refl;
  ended = ended;
  target = target;
}
  where
    going_by : (has by : Bool) → has_finished_after (calls_in past) ≡ has → by_peer_after terms.wish (calls_in past) ≡ by → has_finished_after (calls_in past) ≡ false
    going_by false by e f = e
    going_by true true e f = absurd (lives.no_reason EndedByPeer 0 (e, f))
    going_by true false e f = absurd (lives.no_reason IpcpFailed 0 (e, f))

pub begins_calm : {S : Type 0} (terms : Terms) (past : List Moment) (marks : ℕ) (gather : GatherNow) (l : Live) (u : UnitState S) → u.live ≡ Some l → Lives terms marks u.time gather l past → Calm u
begins_calm terms past marks gather l u live lives =
    record {
      idle = ap (λ (o : Option Live). idle_end u.time o) live ∙ idle_none (limit_end (is_up l) Idle l.wish.idle_s u.time l.passed_at) refl;
      connect = ap (λ (o : Option Live). connect_end u.time o) live ∙ connect_none (limit_end (is_up l) ConnectTime l.wish.maxconnect_s u.time l.opened_at) refl;
    }
  where
    r : Reached terms u.time gather l past []
    r = lives.reached

    up : is_up l ≡ is_up_in terms past
    up = up_is terms l.ipcp (calls_in past) r.ipcp

    idle_none : (found : Option Ending) → limit_end (is_up l) Idle l.wish.idle_s u.time l.passed_at ≡ found → found ≡ None
    idle_none None e = refl
    idle_none (Some end) e = absurd (lives.no_reason Idle _ (limit_reason terms past u.time l.wish.idle_s terms.wish.idle_s l.passed_at (passed_in terms past) (is_up l) Idle end r.time_is up
        (ap (λ (w : UnitWish). w.idle_s) r.wish) r.passed_at (is_past (is_up l) Idle l.wish.idle_s u.time l.passed_at end e)))

    connect_none : (found : Option Ending) → limit_end (is_up l) ConnectTime l.wish.maxconnect_s u.time l.opened_at ≡ found → found ≡ None
    connect_none None e = refl
    connect_none (Some end) e = absurd (lives.no_reason ConnectTime _ (limit_reason terms past u.time l.wish.maxconnect_s terms.wish.maxconnect_s l.opened_at (opened_in terms past) (is_up l) ConnectTime end r.time_is up
        (ap (λ (w : UnitWish). w.maxconnect_s) r.wish) r.opened_at (is_past (is_up l) ConnectTime l.wish.maxconnect_s u.time l.opened_at end e)))
