-- A bundle in the midst of a step: what has happened to it so far, and what its IPCP is still asked.
use Rattle.std.proofs.Common.{◌≡◌, ◌⊎◌, inl, inr, ℕ, zero, suc, ◌*◌, ◌-◌, ◌<◌, ◌≤◌, Bool, true, false, Option, None, Some, List, [], ◌∷◌, ◌++◌, refl, ap, sym, subst, ◌∙◌, append_assoc, append-nil, arith}
use Rattle.std.proofs.lemmas.Bool.Decides.{nat_tests}
use Rattle.std.specs.Prelude.{◌==◌, ◌&&◌, min, nat_le, not, if◌then◌else◌}
use Rattle.ppp_base.specs.declared.hook_target.HookTarget.TheVariants.{Unit as OfUnit}
use Rattle.ppp_base.specs.declared.posts.CloseCause.{CloseCause}
use Rattle.ppp_base.specs.declared.posts.CloseCause.TheVariants.{Idle, ConnectTime, IpcpFailed, EndedByPeer}
use Rattle.ppp_control.specs.Rules.{Call}
use Rattle.ppp_control.specs.declared.negotiation.StepOut.{StepOut}
use Rattle.ppp_ipcp.specs.Around.{Around}
use Rattle.ppp_ipcp.specs.Session.{IpcpCall, session_after}
use Rattle.ppp_secrets.specs.declared.secrets.SecretsPair.{SecretsPair}
use Rattle.ppp_unit_parts.specs.declared.live.IpCall.{IpCall}
use Rattle.ppp_unit_parts.specs.declared.live.Live.{Live}
use Rattle.ppp_unit_parts.specs.declared.outbox.Ending.{Ending}
use Rattle.ppp_unit_parts.specs.declared.outbox.Sending.{Sending}
use Rattle.ppp_unit_parts.specs.declared.outbox.UnitCounts.{UnitCounts}
use Rattle.ppp_bundle.specs.Closing.{closed_of, connect_end, idle_end}
use Rattle.ppp_unit_parts.specs.Live.{ending, most_elapsed, is_up}
use Rattle.ppp_bundle.specs.History.{Moment, Calls, Terms, IsOver, asked_in, by_peer_after, calls_in, counts_in, entered_in, given_in, has_finished_after, is_up_in, time_in, counted, drops_by, given_by, left_out, rejects_by, sends_by}
use Rattle.ppp_bundle.specs.IpCalls.{called, finish_of, finished}
use Rattle.ppp_unit_parts.specs.Calls.{around_of, call_of, has_finished, ip_left, live_left, live_tells}
use Rattle.ppp_bundle.specs.Lives.{Reached, SendsSince}
use Rattle.ppp_bundle.specs.State.{UnitState}
use Rattle.ppp_bundle.proofs.CallMoments.{args_then, at_turn, call_made, followed_is, reached_call, target_turned, turned_unit, reached_sends, sends_left}
use Rattle.ppp_bundle.proofs.CloseMoments.{Over, closed_over}
use Rattle.ppp_mp.specs.StandsFor.{GatherNow}
use Rattle.ppp_bundle.specs.Frames.{Inner}
use Rattle.ppp_bundle.proofs.PieceMoments.{all_out, out_is, sends_start, sends_then}

-- The bundle lives, this is still asked, and these packets are left of what was gathered.
pub record Mid {S : Type 0} (terms : Terms) (past : List Moment) (asked : List (Call Around)) (left : List (List ℕ)) (u : UnitState S) : Type 0 where
  pub l : Live
  pub live : u.live ≡ Some l
  pub reached : Reached terms u.time u.gather l past left
  pub asked_is : asked_in terms past ≡ asked
  pub going : has_finished_after (calls_in past) ≡ false
  pub ended : u.ended ≡ None
  pub target : u.scripts.machine.target ≡ OfUnit u.unit

-- What is sent, given and counted is what these moments say, and what is left is dropped.
pub record Flows {S : Type 0} (terms : Terms) (since past : List Moment) (left : List (List ℕ)) (counts : UnitCounts) (u : UnitState S) : Type 0 where
  pub sends : SendsSince terms terms.mrru since past u.sent
  pub gives : given_in terms past ++ u.given ≡ given_in terms (since ++ past)
  pub counts_are : u.counts ≡ left_out left (counts_in terms since past counts)

-- where a step begins
pub flows_start : {S : Type 0} (terms : Terms) (past : List Moment) (time : ℕ) (gather : GatherNow) (left : List (List ℕ)) (l : Live) (u : UnitState S) → Reached terms time gather l past left → u.sent ≡ [] → u.given ≡ [] → Flows terms [] past [] u.counts u
flows_start terms past time gather left l u r sent given = record {
  sends = subst (λ (x : List Sending). SendsSince terms terms.mrru [] past x) (sym sent) (sends_start terms past terms.mrru l.pieces r.cuts);
  gives = ap (λ (x : List (List ℕ)). given_in terms past ++ x) given ∙ append-nil (given_in terms past);
  counts_are = refl;
}

-- One moment more, at which nothing is rejected.
pub flows_then : {S : Type 0} (terms : Terms) (since past : List Moment) (moment : Moment) (counts : UnitCounts) (time : ℕ) (gather : GatherNow) (left : List (List ℕ)) (l : Live) (u v : UnitState S)
    → Reached terms time gather l (since ++ past) left → rejects_by terms moment (since ++ past) ≡ []
    → v.sent ≡ u.sent ++ all_out l (sends_by terms moment (since ++ past)) → v.given ≡ u.given ++ given_by terms moment (since ++ past)
    → v.counts ≡ counted (drops_by terms moment (since ++ past)) u.counts → Flows terms since past [] counts u → Flows terms (moment ∷ since) past [] counts v
flows_then terms since past moment counts time gather left l u v r none sent given drops flows = record {
  sends = subst (λ (x : List Sending). SendsSince terms terms.mrru (moment ∷ since) past x) (sym sent)
      (sends_then terms since past terms.mrru moment l u.sent (reached_sends terms (since ++ past) time gather left l r) r.cuts none flows.sends);
  gives = ap (λ (x : List (List ℕ)). given_in terms past ++ x) given ∙ sym (append_assoc (given_in terms past) u.given (given_by terms moment (since ++ past)))
      ∙ ap (λ (x : List (List ℕ)). x ++ given_by terms moment (since ++ past)) flows.gives;
  counts_are = drops ∙ ap (λ (c : UnitCounts). counted (drops_by terms moment (since ++ past)) c) flows.counts_are;
}

abbrev pub no_datagram : List (List ℕ)
no_datagram = []

pub nothing_of : (up : Bool) → no_datagram ≡ (if up then no_datagram else no_datagram)
nothing_of true = refl
nothing_of false = refl

-- One moment more, at which nothing is sent.
pub flows_quiet : {S : Type 0} (terms : Terms) (since past : List Moment) (moment : Moment) (counts : UnitCounts) (time : ℕ) (gather : GatherNow) (left : List (List ℕ)) (l : Live) (u v : UnitState S)
    → Reached terms time gather l (since ++ past) left → sends_by terms moment (since ++ past) ≡ [] → rejects_by terms moment (since ++ past) ≡ []
    → v.sent ≡ u.sent → v.given ≡ u.given ++ given_by terms moment (since ++ past)
    → v.counts ≡ counted (drops_by terms moment (since ++ past)) u.counts → Flows terms since past [] counts u → Flows terms (moment ∷ since) past [] counts v
flows_quiet terms since past moment counts time gather left l u v r quiet none sent given drops flows =
    flows_then terms since past moment counts time gather left l u v r none
    (sent ∙ sym (append-nil u.sent) ∙ ap (λ (packets : List Inner). u.sent ++ all_out l packets) (sym quiet)) given drops flows

-- No limit has passed.
pub record Calm {S : Type 0} (u : UnitState S) : Type 0 where
  pub idle : idle_end u.time u.live ≡ None
  pub connect : connect_end u.time u.live ≡ None

-- LIMITS

abbrev pub limit_end : Bool → CloseCause → (seconds now since : ℕ) → Option Ending
limit_end up cause seconds now since = if up && not (seconds == 0) && nat_le (seconds * 1000) (now - since) then Some (ending cause (min (now - since) most_elapsed)) else None

fresh : (seconds passed : ℕ) → passed ≡ 0 → (true && not (seconds == 0) && nat_le (seconds * 1000) passed) ≡ false
fresh zero passed e = refl
fresh (suc n) passed e = grind (arith, nat_tests)

pub fresh_calm : (up : Bool) (cause : CloseCause) (seconds now : ℕ) → limit_end up cause seconds now now ≡ None
fresh_calm false cause seconds now = refl
fresh_calm true cause seconds now = ap (λ (b : Bool). if b then Some (ending cause (min (now - now) most_elapsed)) else None) (fresh seconds (now - now) (omega arith))

pub turned_calm : (was is : Bool) (cause : CloseCause) (seconds now old : ℕ) → limit_end was cause seconds now old ≡ None → limit_end is cause seconds now (at_turn was is now old) ≡ None
turned_calm false false cause seconds now old e = refl
turned_calm false true cause seconds now old e = fresh_calm true cause seconds now
turned_calm true false cause seconds now old e = refl
turned_calm true true cause seconds now old e = e

-- what a limit that has passed says, by its tests
pub record IsPast (up : Bool) (cause : CloseCause) (seconds now since : ℕ) (end : Ending) : Type 0 where
  pub is_up : up ≡ true
  pub some : 0 < seconds
  pub long : seconds * 1000 ≤ now - since
  pub end_is : ending cause (min (now - since) most_elapsed) ≡ end

past_by : (up : Bool) (some long : Bool) (cause : CloseCause) (seconds now since : ℕ) (end : Ending) → not (seconds == 0) ≡ some → nat_le (seconds * 1000) (now - since) ≡ long
    → (if up && some && long then Some (ending cause (min (now - since) most_elapsed)) else None) ≡ Some end → IsPast up cause seconds now since end
past_by true true true cause seconds now since end f g e = record { is_up = refl; some = grind (arith, nat_tests); long = grind (arith, nat_tests); end_is = cc }
past_by true true false cause seconds now since end f g e = absurd (let h : None ≡ Some end = e in cc)
past_by true false true cause seconds now since end f g e = absurd (let h : None ≡ Some end = e in cc)
past_by true false false cause seconds now since end f g e = absurd (let h : None ≡ Some end = e in cc)
past_by false some long cause seconds now since end f g e = absurd (let h : None ≡ Some end = e in cc)

pub is_past : (up : Bool) (cause : CloseCause) (seconds now since : ℕ) (end : Ending) → limit_end up cause seconds now since ≡ Some end → IsPast up cause seconds now since end
is_past up cause seconds now since end e = past_by up (not (seconds == 0)) (nat_le (seconds * 1000) (now - since)) cause seconds now since end refl refl e

none_by : (some long : Bool) (end : Ending) → some ≡ true → long ≡ true → (if true && some && long then Some end else None) ≡ None → ⊥
none_by true true end f g e = absurd (let h : Some end ≡ None = e in cc)
none_by true false end f g e = absurd (let h : false ≡ true = g in cc)
none_by false long end f g e = absurd (let h : false ≡ true = f in cc)

pub not_past : (up : Bool) (cause : CloseCause) (seconds now since : ℕ) → limit_end up cause seconds now since ≡ None → up ≡ true → 0 < seconds → seconds * 1000 ≤ now - since → ⊥
not_past true cause seconds now since e u s l =
    none_by (not (seconds == 0)) (nat_le (seconds * 1000) (now - since)) (ending cause (min (now - since) most_elapsed)) (grind (arith, nat_tests)) (grind (arith, nat_tests)) e
not_past false cause seconds now since e u s l = absurd (let h : false ≡ true = u in cc)

-- A CALL

-- what an end leaves as it was
pub record Keeps {S : Type 0} (old new : UnitState S) : Type 0 where
  pub sent : new.sent ≡ old.sent
  pub given : new.given ≡ old.given
  pub counts : new.counts ≡ old.counts
  pub time : new.time ≡ old.time

pub keeps_closed : {S : Type 0} (o : Option Live) (end : Ending) (u : UnitState S) → Keeps u (closed_of o end u)
keeps_closed None end u = record { sent = refl; given = refl; counts = refl; time = refl }
keeps_closed (Some l) end u = record { sent = refl; given = refl; counts = refl; time = refl }

keeps_finished : {S : Type 0} (has by : Bool) (u : UnitState S) → Keeps u (finished has by u)
keeps_finished false by u = record { sent = refl; given = refl; counts = refl; time = refl }
keeps_finished true by u = keeps_closed u.live (finish_of by) u

pub closed_calm : {S : Type 0} (o : Option Live) (end : Ending) (u : UnitState S) → u.live ≡ o → Calm u → Calm (closed_of o end u)
closed_calm None end u e calm = calm
closed_calm (Some l) end u e calm = record { idle = refl; connect = refl }

finished_calm : {S : Type 0} (has by : Bool) (u : UnitState S) → Calm u → Calm (finished has by u)
finished_calm false by u calm = calm
finished_calm true by u calm = closed_calm u.live (finish_of by) u refl calm

finishes : {S : Type 0} (terms : Terms) (past : List Moment) (rest : List (Call Around)) (left : List (List ℕ)) (v : UnitState S) (l : Live) (has by : Bool)
    → v.live ≡ Some l → v.scripts.machine.target ≡ OfUnit v.unit → v.ended ≡ None → Reached terms v.time v.gather l past left → asked_in terms past ≡ rest
    → has_finished_after (calls_in past) ≡ has → by_peer_after terms.wish (calls_in past) ≡ by → (has ≡ true → rest ≡ [])
    → Mid terms past rest left (finished has by v) ⊎ Over terms past left (finished has by v)
finishes terms past rest left v l false by live target ended r asked is peer none =
    inl (record { l = l; live = live; reached = r; asked_is = asked; going = is; ended = ended; target = target })
finishes terms past rest left v l true true live target ended r asked is peer none =
    inr (closed_over terms past left v l (ending EndedByPeer 0) live target r (asked ∙ none refl) (is, peer))
finishes terms past rest left v l true false live target ended r asked is peer none =
    inr (closed_over terms past left v l (ending IpcpFailed 0) live target r (asked ∙ none refl) (is, peer))

-- what a unit whose live bundle is l comes to by a call
abbrev pub after_call : {S : Type 0} → SecretsPair → IpCall → Live → UnitState S → UnitState S
after_call secrets call l u = turned_unit (is_up l) (live_left secrets u.time call l) (live_tells secrets u.time call l) u

pub call_is : {S : Type 0} (secrets : SecretsPair) (call : IpCall) (l : Live) (u : UnitState S)
    → called secrets call (record u { live = Some l }) ≡ finished (has_finished (live_tells secrets u.time call l).acts) (live_left secrets u.time call l).by_peer (after_call secrets call l u)
call_is secrets call l u = followed_is (is_up l) (live_left secrets u.time call l) (live_tells secrets u.time call l) (record u { live = Some l })

-- a call by a unit whose live bundle is l
pub call_mid : {S : Type 0} (terms : Terms) (past : List Moment) (secrets : SecretsPair) (call : IpCall) (rest : List (Call Around)) (left : List (List ℕ)) (l : Live) (u : UnitState S)
    → u.scripts.machine.target ≡ OfUnit u.unit → u.ended ≡ None → Reached terms u.time u.gather l past left
    → asked_in terms past ≡ call_of (around_of secrets l) call ∷ rest
    → (entered_in past ≡ None → ip_left (around_of secrets l) u.time call l.ipcp ≡ session_after terms.wish.ip [])
    → (has_finished (live_tells secrets u.time call l).acts ≡ true → rest ≡ [])
    → Mid terms (Calls (call_made secrets u.time call l) ∷ past) rest left (called secrets call (record u { live = Some l }))
    ⊎ Over terms (Calls (call_made secrets u.time call l) ∷ past) left (called secrets call (record u { live = Some l }))
call_mid {S = S} terms past secrets call rest left l u target ended r asked quiet none =
    let c : IpcpCall = call_made secrets u.time call l in
    let r2 = reached_call terms past secrets call rest u.time u.gather left l r asked quiet in
    let v : UnitState S = after_call secrets call l u in
    subst (λ (x : UnitState S). Mid terms (Calls c ∷ past) rest left x ⊎ Over terms (Calls c ∷ past) left x) (sym (call_is secrets call l u))
    (finishes terms (Calls c ∷ past) rest left v _ (has_finished (live_tells secrets u.time call l).acts) (live_left secrets u.time call l).by_peer
    refl (target_turned (is_up l) (is_up (live_left secrets u.time call l)) (args_then u.unit (live_left secrets u.time call l)) u.time u.scripts ∙ target) ended r2
    (ap rest_only asked) refl (sym r2.by_peer) none)
  where
    rest_only : List (Call Around) → List (Call Around)
    rest_only [] = []
    rest_only (x ∷ xs) = xs

pub call_calm : {S : Type 0} (secrets : SecretsPair) (call : IpCall) (l : Live) (u : UnitState S) → Calm (record u { live = Some l }) → Calm (called secrets call (record u { live = Some l }))
call_calm {S = S} secrets call l u calm =
    let l1 : Live = live_left secrets u.time call l in
    subst (λ (x : UnitState S). Calm x) (sym (call_is secrets call l u))
    (finished_calm (has_finished (live_tells secrets u.time call l).acts) l1.by_peer (after_call secrets call l u)
    (record {
      idle = turned_calm (is_up l) (is_up l1) Idle l.wish.idle_s u.time l.passed_at calm.idle;
      connect = turned_calm (is_up l) (is_up l1) ConnectTime l.wish.maxconnect_s u.time l.opened_at calm.connect;
    }))

pub call_flows : {S : Type 0} (terms : Terms) (since past : List Moment) (counts : UnitCounts) (secrets : SecretsPair) (call : IpCall) (left : List (List ℕ)) (l : Live) (u : UnitState S)
    → Reached terms u.time u.gather l (since ++ past) left → Flows terms since past [] counts (record u { live = Some l })
    → Flows terms (Calls (call_made secrets u.time call l) ∷ since) past [] counts (called secrets call (record u { live = Some l }))
call_flows {S = S} terms since past counts secrets call left l u r flows =
    let k = keeps_finished (has_finished (live_tells secrets u.time call l).acts) (live_left secrets u.time call l).by_peer (after_call secrets call l u) in
    let out : StepOut = live_tells secrets u.time call l in
    let now : List Moment = since ++ past in
    let c : IpcpCall = call_made secrets u.time call l in
    let l1 : Live = live_left secrets u.time call l in
    subst (λ (x : UnitState S). Flows terms (Calls c ∷ since) past [] counts x) (sym (call_is secrets call l u))
    (record {
      sends = subst (λ (x : List Sending). SendsSince terms terms.mrru (Calls c ∷ since) past x) (sym (k.sent ∙ out_is out.packets l1 u.sent))
          (sends_then terms since past terms.mrru (Calls c) l1 u.sent (sends_left terms now secrets u.time call l (reached_sends terms now u.time u.gather left l r)) r.cuts refl flows.sends);
      gives = ap (λ (x : List (List ℕ)). given_in terms past ++ x) k.given ∙ flows.gives ∙ sym (nothing_given (is_up_in terms now) (given_in terms now));
      counts_are = k.counts ∙ flows.counts_are;
    })
  where
    nothing_given : (up : Bool) (given : List (List ℕ)) → given ++ (if up then [] else []) ≡ given
    nothing_given true given = append-nil given
    nothing_given false given = append-nil given

-- AT THE END OF A STEP

pub limit_reason : (terms : Terms) (past : List Moment) (time seconds seconds' since since' : ℕ) (up : Bool) (cause : CloseCause) (end : Ending)
    → time ≡ time_in terms past → up ≡ is_up_in terms past → seconds ≡ seconds' → since ≡ since'
    → IsPast up cause seconds time since end → IsOver terms past seconds' since' (min (time - since) most_elapsed)
limit_reason terms past time seconds seconds' since since' up cause end t i s m p = record {
  up = sym i ∙ p.is_up;
  some = subst (λ (n : ℕ). 0 < n) s p.some;
  long = rw (← t, ← s, ← m) p.long;
  elapsed_is = rw (← t, ← m) refl;
}
