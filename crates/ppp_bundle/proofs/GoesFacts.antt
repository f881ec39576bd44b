-- A bundle goes on with its history by each step, and begins with none.
use Rattle.std.proofs.Common.{◌≡◌, inl, ℕ, Option, None, Some, List, [], ◌++◌, length, refl, ap, sym, subst, ◌∙◌, arith}
use Rattle.std.specs.Prelude.{IfSome}
use Rattle.ppp_base.specs.declared.hook_target.HookTarget.TheVariants.{Unit as OfUnit}
use Rattle.ppp_base.specs.Mrru.{MrruPair}
use Rattle.ppp_ipcp.specs.declared.wish.IpWish.{IpWish}
use Rattle.ppp_ipcp.specs.Session.{StandsFor as IpcpStandsFor, session_after}
use Rattle.ppp_mp.specs.StandsFor.{GatherNow}
use Rattle.ppp_secrets.specs.declared.secrets.SecretsPair.{SecretsPair}
use Rattle.ppp_bundle.specs.declared.event.BundleEvent.{BundleEvent}
use Rattle.ppp_bundle.specs.declared.event.BundleEvent.TheVariants.{Make, In, Out, Frame, Datagram, Tick, HookOver}
use Rattle.ppp_unit_parts.specs.declared.live.Live.{Live}
use Rattle.ppp_unit_parts.specs.declared.outbox.BundleEnd.{BundleEnd}
use Rattle.ppp_unit_parts.specs.declared.outbox.Ending.{Ending}
use Rattle.ppp_bundle.specs.Closing.{closed_if, closed_of, crowded_end, looked}
use Rattle.ppp_bundle.specs.History.{Moment, Terms}
use Rattle.ppp_bundle.specs.Lives.{CutsAll, GathersAll, GoesOn, HasBegun, HasHistory, HasMember, Lives, LivesOrEnds, own_of, terms_of}
use Rattle.ppp_unit_parts.specs.Member.{stay_of}
use Rattle.ppp_bundle.specs.Replay.{since_made}
use Rattle.ppp_bundle.specs.State.{UnitState, members_of}
use Rattle.ppp_bundle.specs.UnitPart.{MayCome, MayEnter, after_event, after_step, IsLinkNumber, asked_of, begins_with}
use Rattle.ppp_unit_parts.specs.Live.{new_live}
use Rattle.ppp_bundle.proofs.BringMoments.{does_frame}
use Rattle.ppp_bundle.proofs.EventMoments.{begins_calm, flows_keep, keeps_if, step_ends, Begins, begins_step}
use Rattle.ppp_bundle.proofs.LeaveMoments.{does_leave}
use Rattle.ppp_bundle.proofs.MidMoments.{Calm}
use Rattle.ppp_bundle.proofs.PassMoments.{does_carry}
use Rattle.ppp_bundle.proofs.StepMoments.{Does, does_enter, does_over, does_tick, begins_mid}
use Rattle.ppp_bundle.specs.Gathers.{Gathered, Gathers}
use Rattle.ppp_mp.specs.Header.{long_space}
use Rattle.ppp_mp.specs.Delivered.{nothing}

-- one event of a unit whose bundle lives, at which the gatherer was what it was, and is now what it answered
event_by : {S : Type 0} (terms : Terms) (past : List Moment) (secrets : SecretsPair) (event : BundleEvent S) (old : GatherNow) (g : Gathered) (u : UnitState S) → (b : Begins terms past old u) → Calm u
    → u.gather ≡ g.gather → Gathers (asked_of (Some b.l) event) old g → u.sent ≡ [] → u.given ≡ [] → MayCome event u → IsLinkNumber event
    → Does terms past secrets (own_of secrets event u) u.counts (after_event secrets event g.packets u)
event_by terms past secrets (Make number maker wish mrru allow) old g u b calm kept asked sent given may is = absurd (let f : Some b.l ≡ None = sym b.live ∙ may.0 in cc)
event_by terms past secrets (In link stay mru) old g u b calm kept asked sent given may is =
    let enters : MayEnter (Some b.l) link mru = subst (λ (o : Option Live). MayEnter o link mru) b.live may in
    does_enter terms past secrets link stay mru old g u b
    (record { more = enters.0; other = enters.1; some = omega (arith, is.0); few = is.1; least = enters.2; most = enters.3 }) kept asked calm sent given
event_by terms past secrets (Out link stay) old g u b calm kept asked sent given may is =
    let there : stay_of link b.l.members ≡ Some stay = sym (ap (λ (o : Option Live). stay_of link (members_of o)) b.live) ∙ may in
    does_leave terms past secrets link stay old g u b kept asked there calm sent given
event_by terms past secrets (Frame link protocol information) old g u b calm kept asked sent given may is = does_frame terms past secrets link protocol information old g u b kept asked calm sent given
event_by terms past secrets (Datagram datagram) old g u b calm kept asked sent given may is =
    does_carry terms past secrets datagram u (begins_mid terms past old u (sym (kept ∙ asked.gather)) b) calm sent given
event_by terms past secrets (Tick now) old g u b calm kept asked sent given may is =
    does_tick terms past secrets now u (begins_mid terms past old u (sym (kept ∙ asked.gather)) b) sent given
event_by terms past secrets (HookOver done) old g u b calm kept asked sent given may is =
    does_over terms past secrets done u (begins_mid terms past old u (sym (kept ∙ asked.gather)) b) calm sent given

does_event : {S : Type 0} (terms : Terms) (past : List Moment) (secrets : SecretsPair) (event : BundleEvent S) (old : GatherNow) (g : Gathered) (u : UnitState S) → Begins terms past old u → Calm u
    → u.gather ≡ g.gather → Gathers (asked_of u.live event) old g → u.sent ≡ [] → u.given ≡ [] → MayCome event u → IsLinkNumber event
    → Does terms past secrets (own_of secrets event u) u.counts (after_event secrets event g.packets u)
does_event {S = S} terms past secrets event old g u b calm kept asked sent given may is =
    event_by terms past secrets event old g u b calm kept (subst (λ (o : Option Live). Gathers (asked_of {S = S} o event) old g) b.live asked) sent given may is

-- what the gatherer is, and that no end is told from before, changes neither what may come nor the event's own moment
abbrev asked_unit : {S : Type 0} → Gathered → UnitState S → UnitState S
asked_unit g u = record u { gather = g.gather; ended = None }

pub may_same : {S : Type 0} (event : BundleEvent S) (g : Gathered) (u : UnitState S) → MayCome event u → MayCome event (asked_unit g u)
may_same (Make number maker wish mrru allow) g u may = may
may_same (In link stay mru) g u may = may
may_same (Out link stay) g u may = may
may_same (Frame link protocol information) g u may = may
may_same (Datagram datagram) g u may = may
may_same (Tick now) g u may = may
may_same (HookOver done) g u may = may

own_same : {S : Type 0} (secrets : SecretsPair) (event : BundleEvent S) (g : Gathered) (u : UnitState S) → own_of secrets event (asked_unit g u) ≡ own_of secrets event u
own_same secrets (Make number maker wish mrru allow) g u = refl
own_same secrets (In link stay mru) g u = refl
own_same secrets (Out link stay) g u = refl
own_same secrets (Frame link protocol information) g u = refl
own_same secrets (Datagram datagram) g u = refl
own_same secrets (Tick now) g u = refl
own_same secrets (HookOver done) g u = refl

pub goes_on : {S : Type 0} (terms : Terms) (past : List Moment) (secrets : SecretsPair) (event : BundleEvent S) (g : Gathered) (u : UnitState S) (l : Live) → u.live ≡ Some l → u.scripts.machine.target ≡ OfUnit u.unit
    → Lives terms (since_made u.scripts.log.past) u.time u.gather l past → Gathers (asked_of u.live event) u.gather g → u.sent ≡ [] → u.given ≡ [] → MayCome event u → IsLinkNumber event
    → GoesOn terms past secrets event u (after_step secrets event g u)
goes_on {S = S} terms past secrets event g u l live target lives gathers sent given may is =
    let w : UnitState S = asked_unit g u in
    let b = begins_step terms past (since_made u.scripts.log.past) u.gather l w live refl target lives in
    let d = does_event terms past secrets event u.gather g w b (begins_calm terms past (since_made u.scripts.log.past) u.gather l w live lives) refl gathers sent given (may_same event g u may) is in
    let v : UnitState S = after_event secrets event g.packets w in
    let flows = flows_keep terms d.since past d.left u.counts v (looked v) (keeps_if (crowded_end v.scripts.log.past) v) d.flows in
    record {
      since = d.since;
      left = d.left;
      own = d.own_is ∙ own_same secrets event g u;
      hears = d.hears;
      goes = step_ends terms (d.since ++ past) d.left v d.stands d.calm;
      sends = flows.sends;
      gives = flows.gives;
      counts = flows.counts_are;
    }

-- A BUNDLE IS MADE

new_stands : (wish : IpWish) → IpcpStandsFor wish (session_after wish []) []
new_stands wish = record { negotiates = record { state = refl; acked = record { last = λ e. refl }; lawful = tt }; session = refl }

gathers_new : (m : Option MrruPair) (old : GatherNow) (g : Gathered) → Gathers (begins_with m) old g → GathersAll m g.gather [] []
gathers_new None old g asked = (refl, refl)
gathers_new (Some mrru) old g asked = (nothing long_space, asked.stands, refl, asked.ours)

cuts_new : (terms : Terms) (m : Option MrruPair) → CutsAll terms m (record { number = 0; turn = 0 }) []
cuts_new terms None = refl
cuts_new terms (Some mrru) = ([], (refl, refl))

some_new : (m : Option MrruPair) → HasMember m [] []
some_new None = refl
some_new (Some mrru) = (λ e. refl, λ e. refl)

pub has_begun : {S : Type 0} (secrets : SecretsPair) (event : BundleEvent S) (g : Gathered) (u : UnitState S) → Gathers (asked_of u.live event) u.gather g → MayCome event u → u.scripts.machine.target ≡ OfUnit u.unit
    → HasBegun event u (after_step secrets event g u)
has_begun {S = S} secrets (Make number maker wish mrru allow) g u gathers may target =
    let terms : Terms = record { wish = wish; allow = allow; mrru = mrru; made_at = u.time } in
    let v : UnitState S = after_event secrets (Make number maker wish mrru allow) g.packets (asked_unit g u) in
    let asked : Gathers (begins_with mrru) u.gather g = subst (λ (o : Option Live). Gathers (asked_of {S = S} o (Make number maker wish mrru allow)) u.gather g) may.0 gathers in
    step_ends terms [] [] v
    (inl (
      record {
        l = new_live number (length u.scripts.log.past) wish mrru allow;
        live = refl;
        reached = record {
          order = tt;
          ipcp = new_stands wish.ip;
          gathers = gathers_new mrru u.gather g asked;
          cuts = cuts_new terms mrru;
          members = λ x. refl;
          in_order = tt;
          some = some_new mrru;
          initial = λ e. refl;
          time_is = refl;
          wish = refl;
          allow = refl;
          mrru = refl;
          was_open = refl;
          by_peer = refl;
          opened_at = refl;
          passed_at = refl;
        };
        asked_is = refl;
        going = refl;
        ended = refl;
        target = target;
      },
      refl,
    ))
    (record { idle = refl; connect = refl })
has_begun secrets (In link stay mru) g u gathers may target = tt
has_begun secrets (Out link stay) g u gathers may target = tt
has_begun secrets (Frame link protocol information) g u gathers may target = tt
has_begun secrets (Datagram datagram) g u gathers may target = tt
has_begun secrets (Tick now) g u gathers may target = tt
has_begun secrets (HookOver done) g u gathers may target = tt

-- WITHOUT A BUNDLE

none_if : {S : Type 0} (found : Option Ending) (u : UnitState S) → u.live ≡ None → (closed_if found u).live ≡ None
none_if None u e = e
none_if (Some end) u e = ap (λ (o : Option Live). (closed_of o end u).live) e ∙ e

-- Where no bundle lives, none lives after any event but Make.
none_then : {S : Type 0} (secrets : SecretsPair) (event : BundleEvent S) (packets : List (List ℕ)) (u : UnitState S) → terms_of event u ≡ None → (after_event secrets event packets (record u { live = None })).live ≡ None
none_then secrets (Make number maker wish mrru allow) packets u e = absurd (let f : Some (record { wish = wish; allow = allow; mrru = mrru; made_at = u.time }) ≡ None = e in cc)
none_then secrets (In link stay mru) packets u e = refl
none_then secrets (Out link stay) packets u e = refl
none_then secrets (Frame link protocol information) packets u e = refl
none_then secrets (Datagram datagram) packets u e = refl
none_then secrets (Tick now) packets u e = refl
none_then secrets (HookOver done) packets u e = refl

terms_same : {S : Type 0} (event : BundleEvent S) (g : Gathered) (u : UnitState S) → terms_of event u ≡ None → terms_of event (asked_unit g u) ≡ None
terms_same (Make number maker wish mrru allow) g u e = e
terms_same (In link stay mru) g u e = e
terms_same (Out link stay) g u e = e
terms_same (Frame link protocol information) g u e = e
terms_same (Datagram datagram) g u e = e
terms_same (Tick now) g u e = e
terms_same (HookOver done) g u e = e

-- HISTORIES FROM STEP TO STEP

history_of : {S : Type 0} (terms : Terms) (past : List Moment) (left : List (List ℕ)) (u : UnitState S) (o : Option Live) (e : Option BundleEnd) → LivesOrEnds terms past left u o e
    → IfSome o (HasHistory (since_made u.scripts.log.past) u.time u.gather)
history_of terms past left u (Some l) None lives = record { terms = terms; past = past; lives = lives.0 }
history_of terms past left u (Some l) (Some e) lives = absurd lives
history_of terms past left u None e lives = tt

by_none : {T : Type 0} (o : Option T) (P : T → Type 0) → o ≡ None → IfSome o P
by_none None P e = tt
by_none (Some x) P e = absurd (let f : Some x ≡ None = e in cc)

at_some : {T : Type 0} (o : Option T) (x : T) (P : T → Type 0) → o ≡ Some x → IfSome o P → P x
at_some {T = T} o x P e h = subst (λ (y : Option T). IfSome y P) e h

without_bundle : {S : Type 0} (secrets : SecretsPair) (event : BundleEvent S) (g : Gathered) (u : UnitState S) (begins : Option Terms) → terms_of event u ≡ begins → u.live ≡ None → Gathers (asked_of u.live event) u.gather g → MayCome event u
    → u.scripts.machine.target ≡ OfUnit u.unit → let v = after_step secrets event g u in IfSome v.live (HasHistory (since_made v.scripts.log.past) v.time v.gather)
without_bundle {S = S} secrets event g u (Some terms) e live gathers may target =
    let v : UnitState S = after_step secrets event g u in
    history_of terms [] [] v v.live v.ended (at_some (terms_of event u) terms (λ t. LivesOrEnds t [] [] v v.live v.ended) e (has_begun secrets event g u gathers may target))
without_bundle {S = S} secrets event g u None e live gathers may target =
    let w : UnitState S = asked_unit g u in
    let same : record w { live = None } ≡ w = ap (λ (o : Option Live). record w { live = o }) (sym live) in
    let after : (after_event secrets event g.packets w).live ≡ None = subst (λ (x : UnitState S). (after_event secrets event g.packets x).live ≡ None) same (none_then secrets event g.packets w (terms_same event g u e)) in
    by_none (after_step secrets event g u).live _ (none_if (crowded_end (after_event secrets event g.packets w).scripts.log.past) (after_event secrets event g.packets w) after)

with_bundle : {S : Type 0} (secrets : SecretsPair) (event : BundleEvent S) (g : Gathered) (u : UnitState S) (l : Live) → u.live ≡ Some l → HasHistory (since_made u.scripts.log.past) u.time u.gather l
    → u.scripts.machine.target ≡ OfUnit u.unit → Gathers (asked_of u.live event) u.gather g → MayCome event u → IsLinkNumber event → u.sent ≡ [] → u.given ≡ []
    → let v = after_step secrets event g u in IfSome v.live (HasHistory (since_made v.scripts.log.past) v.time v.gather)
with_bundle {S = S} secrets event g u l live h target gathers may is sent given =
    let v : UnitState S = after_step secrets event g u in
    let goes = goes_on h.terms h.past secrets event g u l live target h.lives gathers sent given may is in
    history_of h.terms (goes.since ++ h.past) goes.left v v.live v.ended goes.goes

pub history_step : {S : Type 0} (secrets : SecretsPair) (event : BundleEvent S) (g : Gathered) (u : UnitState S) (o : Option Live) → u.live ≡ o → IfSome o (HasHistory (since_made u.scripts.log.past) u.time u.gather)
    → u.scripts.machine.target ≡ OfUnit u.unit → Gathers (asked_of u.live event) u.gather g → MayCome event u → IsLinkNumber event → u.sent ≡ [] → u.given ≡ []
    → let v = after_step secrets event g u in IfSome v.live (HasHistory (since_made v.scripts.log.past) v.time v.gather)
history_step secrets event g u None live h target gathers may is sent given = without_bundle secrets event g u (terms_of event u) refl live gathers may target
history_step secrets event g u (Some l) live h target gathers may is sent given = with_bundle secrets event g u l live h target gathers may is sent given

pub goes_all : {S : Type 0} (secrets : SecretsPair) (event : BundleEvent S) (g : Gathered) (u : UnitState S) (o : Option Live) → u.live ≡ o → u.scripts.machine.target ≡ OfUnit u.unit → Gathers (asked_of u.live event) u.gather g → MayCome event u → IsLinkNumber event → u.sent ≡ [] → u.given ≡ []
    → (terms : Terms) (past : List Moment) → IfSome o (λ l. Lives terms (since_made u.scripts.log.past) u.time u.gather l past → GoesOn terms past secrets event u (after_step secrets event g u))
goes_all secrets event g u None live target gathers may is sent given terms past = tt
goes_all secrets event g u (Some l) live target gathers may is sent given terms past = λ lives.
    goes_on terms past secrets event g u l live target lives gathers sent given may is
