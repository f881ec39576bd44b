-- A step of a bundle, by its event: what has happened goes on with it.
use Rattle.std.proofs.Common.{◌≡◌, ◌⊎◌, inl, inr, ℕ, true, false, Option, None, Some, List, [], ◌∷◌, ◌++◌, refl, ap, sym, subst, ◌∙◌, append-nil, ◌<◌, ◌≤◌}
use Rattle.std.specs.Prelude.{◌==◌, option_to_list, if◌then◌else◌}
use Rattle.ppp_base.specs.Mrru.{MrruPair}
use Rattle.ppp_control.specs.Rules.{by_itself, opens, comes_up, ticks}
use Rattle.ppp_fsm.specs.Fsm.{acts_of}
use Rattle.ppp_hooks.specs.HookState.{DoneState}
use Rattle.ppp_ipcp.specs.declared.ipcp.Ipcp.{Ipcp}
use Rattle.ppp_ipcp.specs.declared.wish.IpWish.{IpWish}
use Rattle.ppp_ipcp.specs.Around.{Around}
use Rattle.ppp_ipcp.specs.Session.{IpcpCall, session_after}
use Rattle.ppp_mark.specs.Marks.{in_mark}
use Rattle.ppp_mp.specs.StandsFor.{GatherNow}
use Rattle.ppp_mp.specs.declared.members.MemberView.{MemberView}
use Rattle.ppp_secrets.specs.declared.secrets.SecretsPair.{SecretsPair}
use Rattle.ppp_unit_parts.specs.declared.live.IpCall.TheVariants.{Opens, ComesUp, Ticks}
use Rattle.ppp_unit_parts.specs.declared.live.Live.{Live}
use Rattle.ppp_unit_parts.specs.declared.member.Member.{Member}
use Rattle.ppp_unit_parts.specs.declared.outbox.Ending.{Ending}
use Rattle.ppp_unit_parts.specs.declared.outbox.UnitCounts.{UnitCounts}
use Rattle.ppp_bundle.specs.Closing.{closed, closed_if, connect_end, connected_long, idle_end, idled}
use Rattle.ppp_bundle.specs.History.{Moment, Enters, Passes, Calls, Terms, asked_in, entered_in, is_up_in, rest_of, to_begin, entries_in}
use Rattle.ppp_bundle.specs.IpCalls.{called}
use Rattle.ppp_unit_parts.specs.Calls.{has_finished, ip_left, ip_tells, around_of}
use Rattle.ppp_bundle.specs.Lives.{HearsWith, GathersAll, HasMember, Reached, own_in}
use Rattle.ppp_unit_parts.specs.Member.{member, views_of, with_member, has_link}
use Rattle.ppp_bundle.specs.ScriptParts.{marked}
use Rattle.ppp_bundle.specs.State.{UnitState}
use Rattle.ppp_bundle.specs.UnitPart.{begun, entered, entered_of, script_over, ticked_unit, timed, if_multilink}
use Rattle.ppp_bundle.proofs.CallMoments.{call_made, reached_sends}
use Rattle.ppp_bundle.proofs.CloseMoments.{Over}
use Rattle.ppp_bundle.proofs.EventMoments.{Dead, Did, call_on, calm_on, connect_over, dead_of, dead_stays, either_of, flows_keep, idle_over, keeps_if, Stands, stands_of, Begins}
use Rattle.ppp_bundle.proofs.MidMoments.{Calm, Flows, Mid, flows_quiet, flows_start, nothing_of}
use Rattle.ppp_bundle.specs.Gathers.{Gathered, Gathers, link_joins}
use Rattle.ppp_bundle.proofs.PieceMoments.{cuts_then}
use Rattle.ppp_bundle.proofs.ViewMoments.{mru_with}
use Rattle.ppp_unit_parts.proofs.MemberFacts.{order_with}

-- What an event does, before the marks are counted.
pub record Does {S : Type 0} (terms : Terms) (past : List Moment) (secrets : SecretsPair) (own : List Moment) (counts : UnitCounts) (u : UnitState S) : Type 0 where
  pub since : List Moment
  pub left : List (List ℕ)
  pub own_is : own_in since ≡ own
  pub hears : HearsWith secrets since
  pub stands : Stands terms (since ++ past) left u
  pub calm : Calm u
  pub flows : Flows terms since past left counts u

-- where nothing is left of what was gathered
pub does_of : {S : Type 0} (terms : Terms) (since past : List Moment) (secrets : SecretsPair) (own : List Moment) (counts : UnitCounts) (u : UnitState S) → own_in since ≡ own → HearsWith secrets since → Mid terms (since ++ past) [] [] u ⊎ Dead terms (since ++ past) [] u → Calm u
    → Flows terms since past [] counts u → Does terms past secrets own counts u
does_of terms since past secrets own counts u is hears stands calm flows = record { since = since; left = []; own_is = is; hears = hears; stands = stands_of terms (since ++ past) u stands; calm = calm; flows = flows }

-- A step at which the gatherer isn't asked begins with what it is.
pub begins_mid : {S : Type 0} (terms : Terms) (past : List Moment) (gather : GatherNow) (u : UnitState S) → gather ≡ u.gather → Begins terms past gather u → Mid terms past [] [] u
begins_mid terms past gather u e b = record {
  l = b.l;
  live = b.live;
  reached = subst (λ (n : GatherNow). Reached terms u.time n b.l past []) e b.reached;
  asked_is = b.done;
  going = b.going;
  ended = b.ended;
  target = b.target;
}

-- MEMBERS

none_of_list : (o : Option MemberView) → [] ≡ option_to_list o → o ≡ None
none_of_list None e = refl
none_of_list (Some m) e = absurd (let f : [] ≡ m ∷ [] = e in cc)

pub nobody_came : (m : Option MrruPair) (members : List Member) (past : List Moment) → HasMember m members past → members ≡ [] → entered_in past ≡ None
nobody_came None members past h e = none_of_list (entered_in past) (sym (ap views_of e) ∙ h)
nobody_came (Some mrru) members past h e = h.0 e

no_views : (first : Member) (members : List Member) (o : Option MemberView) → views_of (first ∷ members) ≡ option_to_list o → o ≡ None → ⊥
no_views first members None e f = absurd (let g : record { link = first.link; mru = first.mru } ∷ views_of members ≡ [] = e in cc)
no_views first members (Some v) e f = absurd (let g : Some v ≡ None = f in cc)

pub somebody_came : (m : Option MrruPair) (first : Member) (members : List Member) (past : List Moment) → HasMember m (first ∷ members) past → entered_in past ≡ None → ⊥
somebody_came None first members past h e = no_views first members (entered_in past) h e
somebody_came (Some mrru) first members past h e = absurd (let f : first ∷ members ≡ [] = h.1 e in cc)

-- A LINK COMES IN

gathers_enters : (m other : Option MrruPair) (link mru : ℕ) (past : List Moment) (old : GatherNow) (g : Gathered) → other ≡ m → Gathers (if_multilink other (link_joins link)) old g → GathersAll m old past []
    → GathersAll m g.gather (Enters link mru ∷ past) []
gathers_enters None None link mru past old g e asked h = h
gathers_enters None (Some x) link mru past old g e asked h = absurd (let f : Some x ≡ None = e in cc)
gathers_enters (Some mrru) None link mru past old g e asked h = absurd (let f : None ≡ Some mrru = e in cc)
gathers_enters (Some mrru) (Some x) link mru past old g e asked h =
    let added = asked.0.stands (entries_in past) h.0 h.1 in
    (added.0, added.1, added.2 ∙ ap (λ (ps : List (List ℕ)). h.0.given ++ ps) asked.1 ∙ append-nil h.0.given ∙ h.2, asked.0.ours ∙ h.3)

not_empty : (front : List Member) (m : Member) (back : List Member) → front ++ m ∷ back ≡ [] → ⊥
not_empty [] m back e = absurd (let f : m ∷ back ≡ [] = e in cc)
not_empty (x ∷ front) m back e = absurd (let f : x ∷ (front ++ m ∷ back) ≡ [] = e in cc)

some_enters : (m : Option MrruPair) (link stay mru : ℕ) (members : List Member) (past : List Moment) → (m ≡ None → members ≡ []) → HasMember m (with_member (member link stay mru) members) (Enters link mru ∷ past)
some_enters None link stay mru members past e = rw (e refl) refl
some_enters (Some mrru) link stay mru' members past e =
    (λ f. absurd (not_empty _ (member link stay mru') _ f), λ f. absurd (let g : Some (record { link = link; mru = mru' }) ≡ None = f in cc))

-- when a link may come in
pub record Comes (l : Live) (link mru : ℕ) : Type 0 where
  pub more : l.mrru ≡ None → l.members ≡ []
  pub other : has_link link l.members ≡ false
  pub some : 0 < link
  pub few : link ≤ 16
  pub least : 128 ≤ mru
  pub most : mru ≤ 1500

reached_enters : (terms : Terms) (past : List Moment) (time : ℕ) (old gather : GatherNow) (l : Live) (link stay mru : ℕ) → Reached terms time old l past [] → Comes l link mru
    → asked_in terms past ≡ [] → GathersAll terms.mrru gather (Enters link mru ∷ past) [] → Reached terms time gather (record l { members = with_member (member link stay mru) l.members }) (Enters link mru ∷ past) []
reached_enters terms past time old gather l link stay mru r may done gathers = record {
  order = (done, r.order);
  ipcp = r.ipcp;
  gathers = gathers;
  cuts = cuts_then terms past terms.mrru (Enters link mru) l (reached_sends terms past time old [] l r) r.cuts;
  members = λ x. mru_with (member link stay mru) x l.members r.in_order may.other ∙ ap (λ (o : Option ℕ). if link == x then Some mru else o) (r.members x);
  in_order = order_with 0 (member link stay mru) l.members r.in_order may.other may.some may.few may.least may.most;
  some = some_enters terms.mrru link stay mru l.members past (λ e. may.more (r.mrru ∙ e));
  initial = λ f. absurd (let h : Some (record { link = link; mru = mru }) ≡ None = f in cc);
  time_is = r.time_is;
  wish = r.wish;
  allow = r.allow;
  mrru = r.mrru;
  was_open = r.was_open;
  by_peer = r.by_peer;
  opened_at = r.opened_at;
  passed_at = r.passed_at;
}

opens_quietly : (wish : IpWish) (i : Ipcp) (a : Around) (now : ℕ) → i ≡ session_after wish [] → has_finished (ip_tells a now Opens i).acts ≡ false
unfolding acts_of
opens_quietly wish i a now e = rw e refl

-- the unit as the link is in
abbrev pub with_link : {S : Type 0} → ℕ → ℕ → ℕ → Live → UnitState S → UnitState S
with_link link stay mru l u = record u { scripts = marked (in_mark u.time link stay) u.scripts; live = Some (record l { members = with_member (member link stay mru) l.members }) }

pub entered_is : {S : Type 0} (secrets : SecretsPair) (link stay mru : ℕ) (l : Live) (u : UnitState S) (members : List Member) → u.live ≡ Some l → l.members ≡ members
    → entered secrets link stay mru u ≡ begun members secrets (with_link link stay mru l u)
entered_is {S = S} secrets link stay mru l u members live e =
    ap (λ (o : Option Live). entered_of o secrets link stay mru u) live ∙ ap (λ (ms : List Member). begun ms secrets (with_link link stay mru l u)) e

second : {S : Type 0} (terms : Terms) (past : List Moment) (counts : UnitCounts) (secrets : SecretsPair) (link mru : ℕ) (c : IpcpCall) (u : UnitState S) → entered_in past ≡ None
    → Did terms (Calls c ∷ Enters link mru ∷ []) past (by_itself comes_up ∷ []) [] counts u → Calm u → Does terms past secrets (Enters link mru ∷ []) counts (called secrets ComesUp u)
second {S = S} terms past counts secrets link mru c u none did calm = by_case did.stands
  where
    by_case : Mid terms (Calls c ∷ Enters link mru ∷ past) (by_itself comes_up ∷ []) [] u ⊎ Over terms (Calls c ∷ Enters link mru ∷ past) [] u → Does terms past secrets (Enters link mru ∷ []) counts (called secrets ComesUp u)
    by_case (inl m) =
        let d = call_on terms (Calls c ∷ Enters link mru ∷ []) past counts secrets ComesUp (by_itself comes_up ∷ []) [] [] u m refl
        (λ f. absurd (let h : Some (record { link = link; mru = mru }) ≡ None = f in cc)) (λ h. refl) did.flows in
        let since : List Moment = Calls (call_made secrets u.time ComesUp m.l) ∷ Calls c ∷ Enters link mru ∷ [] in
        does_of terms since past secrets (Enters link mru ∷ []) counts (called secrets ComesUp u) refl tt
        (either_of terms (since ++ past) [] [] (called secrets ComesUp u) d.stands) (calm_on secrets ComesUp m.l u m.live calm) d.flows
    by_case (inr o) = absurd (let h : by_itself comes_up ∷ [] ≡ [] = sym (ap (λ (e : Option MemberView). rest_of (to_begin e)) none) ∙ o.ends.done in cc)

begun_before : (o : Option MemberView) → (o ≡ None → ⊥) → to_begin o ≡ []
begun_before None some = absurd (some refl)
begun_before (Some v) some = refl

pub does_enter : {S : Type 0} (terms : Terms) (past : List Moment) (secrets : SecretsPair) (link stay mru : ℕ) (old : GatherNow) (g : Gathered) (u : UnitState S) → (b : Begins terms past old u) → Comes b.l link mru
    → u.gather ≡ g.gather → Gathers (if_multilink b.l.mrru (link_joins link)) old g → Calm u
    → u.sent ≡ [] → u.given ≡ [] → Does terms past secrets (Enters link mru ∷ []) u.counts (entered secrets link stay mru u)
does_enter {S = S} terms past secrets link stay mru old g u b may kept asked calm sent given = by_members b.l.members refl
  where
    u1 : UnitState S
    u1 = with_link link stay mru b.l u

    reached1 : Reached terms u.time u.gather (record b.l { members = with_member (member link stay mru) b.l.members }) (Enters link mru ∷ past) []
    reached1 = reached_enters terms past u.time old u.gather b.l link stay mru b.reached may b.done
        (subst (λ (n : GatherNow). GathersAll terms.mrru n (Enters link mru ∷ past) []) (sym kept) (gathers_enters terms.mrru b.l.mrru link mru past old g b.reached.mrru asked b.reached.gathers))

    flows : Flows terms (Enters link mru ∷ []) past [] u.counts u1
    flows = flows_quiet terms [] past (Enters link mru) u.counts u.time old [] b.l u u1 b.reached refl refl refl (sym (append-nil u.given) ∙ ap (λ (x : List (List ℕ)). u.given ++ x) (nothing_of (is_up_in terms past))) refl
        (flows_start terms past u.time old [] b.l u b.reached sent given)

    calm1 : Calm u1
    calm1 = record {
      idle = sym (ap (λ (o : Option Live). idle_end u.time o) b.live) ∙ calm.idle;
      connect = sym (ap (λ (o : Option Live). connect_end u.time o) b.live) ∙ calm.connect;
    }

    by_members : (members : List Member) → b.l.members ≡ members → Does terms past secrets (Enters link mru ∷ []) u.counts (entered secrets link stay mru u)
    by_members [] e =
        let none : entered_in past ≡ None = nobody_came terms.mrru b.l.members past b.reached.some e in
        let m1 : Mid terms (Enters link mru ∷ past) (by_itself opens ∷ by_itself comes_up ∷ []) [] u1 =
        record { l = record b.l { members = with_member (member link stay mru) b.l.members }; live = refl; reached = reached1; asked_is = ap to_begin none; going = b.going; ended = b.ended; target = b.target } in
        let d = call_on terms (Enters link mru ∷ []) past u.counts secrets Opens (by_itself opens ∷ by_itself comes_up ∷ []) (by_itself comes_up ∷ []) [] u1 m1 refl
        (λ f. absurd (let h : Some (record { link = link; mru = mru }) ≡ None = f in cc))
        (λ h. absurd (let q : true ≡ false = sym h ∙ opens_quietly terms.wish.ip b.l.ipcp (around_of secrets m1.l) u.time (b.reached.initial none) in cc)) flows in
        subst (λ (v : UnitState S). Does terms past secrets (Enters link mru ∷ []) u.counts v) (sym (entered_is secrets link stay mru b.l u [] b.live e))
        (second terms past u.counts secrets link mru (call_made secrets u1.time Opens m1.l) (called secrets Opens u1) none d (calm_on secrets Opens m1.l u1 refl calm1))
    by_members (x ∷ members) e =
        let came : entered_in past ≡ None → ⊥ = λ f. somebody_came terms.mrru x members past (subst (λ (ms : List Member). HasMember terms.mrru ms past) e b.reached.some) f in
        subst (λ (v : UnitState S). Does terms past secrets (Enters link mru ∷ []) u.counts v) (sym (entered_is secrets link stay mru b.l u (x ∷ members) b.live e))
        (does_of terms (Enters link mru ∷ []) past secrets (Enters link mru ∷ []) u.counts u1 refl tt
        (inl (record { l = record b.l { members = with_member (member link stay mru) b.l.members }; live = refl; reached = reached1; asked_is = begun_before (entered_in past) came; going = b.going; ended = b.ended; target = b.target }))
        calm1 flows)

-- A TIME

gathers_passes : (m : Option MrruPair) (gather : GatherNow) (now : ℕ) (past : List Moment) (left : List (List ℕ)) → GathersAll m gather past left → GathersAll m gather (Passes now ∷ past) left
gathers_passes None gather now past left g = g
gathers_passes (Some mrru) gather now past left g = g

some_passes : (m : Option MrruPair) (members : List Member) (now : ℕ) (past : List Moment) → HasMember m members past → HasMember m members (Passes now ∷ past)
some_passes None members now past h = h
some_passes (Some mrru) members now past h = h

reached_passes : (terms : Terms) (past : List Moment) (time now : ℕ) (gather : GatherNow) (l : Live) → Reached terms time gather l past [] → asked_in terms past ≡ []
    → Reached terms now gather l (Passes now ∷ past) []
reached_passes terms past time now gather l r done = record {
  order = (done, r.order);
  ipcp = r.ipcp;
  gathers = gathers_passes terms.mrru gather now past [] r.gathers;
  cuts = cuts_then terms past terms.mrru (Passes now) l (reached_sends terms past time gather [] l r) r.cuts;
  members = r.members;
  in_order = r.in_order;
  some = some_passes terms.mrru l.members now past r.some;
  initial = r.initial;
  time_is = refl;
  wish = r.wish;
  allow = r.allow;
  mrru = r.mrru;
  was_open = r.was_open;
  by_peer = r.by_peer;
  opened_at = r.opened_at;
  passed_at = r.passed_at;
}

ticks_quietly : (wish : IpWish) (i : Ipcp) (a : Around) (now : ℕ) → i ≡ session_after wish [] → ip_left a now Ticks i ≡ session_after wish []
ticks_quietly wish i a now e = rw e refl

-- the two limits are looked at
calm_dead : {S : Type 0} (terms : Terms) (past : List Moment) (u : UnitState S) → Dead terms past [] u → Calm u
calm_dead terms past u dead = record { idle = ap (λ (o : Option Live). idle_end u.time o) dead.live; connect = ap (λ (o : Option Live). connect_end u.time o) dead.live }

pub record Looks {S : Type 0} (terms : Terms) (past : List Moment) (u : UnitState S) : Type 0 where
  pub stands : Mid terms past [] [] u ⊎ Dead terms past [] u
  pub calm : Calm u

over_looks : {S : Type 0} (terms : Terms) (past : List Moment) (u : UnitState S) → Dead terms past [] u → Looks terms past u
over_looks terms past u dead = record { stands = inr dead; calm = calm_dead terms past u dead }

connects_by : {S : Type 0} (terms : Terms) (past : List Moment) (found : Option Ending) (u : UnitState S) → idle_end u.time u.live ≡ None → connect_end u.time u.live ≡ found
    → Mid terms past [] [] u → Looks terms past (closed_if found u)
connects_by terms past None u idle e m = record { stands = inl m; calm = record { idle = idle; connect = e } }
connects_by terms past (Some end) u idle e m = over_looks terms past (closed end u) (dead_of terms past [] (closed end u) (connect_over terms past [] end u e m))

idles_by : {S : Type 0} (terms : Terms) (past : List Moment) (found : Option Ending) (u : UnitState S) → idle_end u.time u.live ≡ found
    → Mid terms past [] [] u → Looks terms past (connected_long (closed_if found u))
idles_by terms past None u e m = connects_by terms past (connect_end u.time u.live) u e refl m
idles_by {S = S} terms past (Some end) u e m =
    let v : UnitState S = closed end u in
    over_looks terms past (connected_long v) (dead_stays terms past [] (connect_end v.time v.live) v (dead_of terms past [] v (idle_over terms past [] end u e m)))

limits_look : {S : Type 0} (terms : Terms) (past : List Moment) (u : UnitState S) → Mid terms past [] [] u ⊎ Dead terms past [] u → Looks terms past (connected_long (idled u))
limits_look terms past u (inl m) = idles_by terms past (idle_end u.time u.live) u refl m
limits_look {S = S} terms past u (inr dead) =
    let v : UnitState S = idled u in
    over_looks terms past (connected_long v) (dead_stays terms past [] (connect_end v.time v.live) v (dead_stays terms past [] (idle_end u.time u.live) u dead))

limits_flow : {S : Type 0} (terms : Terms) (since past : List Moment) (counts : UnitCounts) (u : UnitState S) → Flows terms since past [] counts u → Flows terms since past [] counts (connected_long (idled u))
limits_flow {S = S} terms since past counts u flows =
    let v : UnitState S = idled u in
    flows_keep terms since past [] counts v (connected_long v) (keeps_if (connect_end v.time v.live) v) (flows_keep terms since past [] counts u v (keeps_if (idle_end u.time u.live) u) flows)

pub does_tick : {S : Type 0} (terms : Terms) (past : List Moment) (secrets : SecretsPair) (now : ℕ) (u : UnitState S) → (m : Mid terms past [] [] u)
    → u.sent ≡ [] → u.given ≡ [] → Does terms past secrets (Passes (timed now u).time ∷ []) u.counts (ticked_unit secrets now u)
does_tick {S = S} terms past secrets now u m sent given =
    let u1 : UnitState S = timed now u in
    let m1 : Mid terms (Passes u1.time ∷ past) (ticks ∷ []) [] u1 = record {
      l = m.l;
      live = m.live;
      reached = reached_passes terms past u.time u1.time u.gather m.l m.reached m.asked_is;
      asked_is = refl;
      going = m.going;
      ended = m.ended;
      target = m.target;
    } in
    let flows : Flows terms (Passes u1.time ∷ []) past [] u.counts u1 =
    flows_quiet terms [] past (Passes u1.time) u.counts u.time u.gather [] m.l u u1 m.reached refl refl refl (sym (append-nil u.given) ∙ ap (λ (x : List (List ℕ)). u.given ++ x) (nothing_of (is_up_in terms past))) refl
    (flows_start terms past u.time u.gather [] m.l u m.reached sent given) in
    let d = call_on terms (Passes u1.time ∷ []) past u.counts secrets Ticks (ticks ∷ []) [] [] u1 m1 refl
    (λ f. ticks_quietly terms.wish.ip m.l.ipcp (around_of secrets m.l) u1.time (m.reached.initial f)) (λ h. refl) flows in
    let v : UnitState S = called secrets Ticks u1 in
    let since : List Moment = Calls (call_made secrets u1.time Ticks m.l) ∷ Passes u1.time ∷ [] in
    let looks = limits_look terms (since ++ past) v (either_of terms (since ++ past) [] [] v d.stands) in
    does_of terms since past secrets (Passes u1.time ∷ []) u.counts (ticked_unit secrets now u) refl tt looks.stands looks.calm (limits_flow terms since past u.counts v d.flows)

-- A SCRIPT'S END

pub does_over : {S : Type 0} (terms : Terms) (past : List Moment) (secrets : SecretsPair) (done : DoneState S) (u : UnitState S) → (m : Mid terms past [] [] u) → Calm u
    → u.sent ≡ [] → u.given ≡ [] → Does terms past secrets [] u.counts (script_over done u)
does_over {S = S} terms past secrets done u m calm sent given =
    let flows = flows_start terms past u.time u.gather [] m.l u m.reached sent given in
    does_of terms [] past secrets [] u.counts (script_over done u) refl tt
    (inl (record { l = m.l; live = m.live; reached = m.reached; asked_is = m.asked_is; going = m.going; ended = m.ended; target = m.target }))
    (record { idle = calm.idle; connect = calm.connect })
    (record { sends = flows.sends; gives = flows.gives; counts_are = flows.counts_are })
