-- Each step leaves the marks of its unit where they may stand.
use Rattle.std.proofs.Common.{◌≡◌, ◌≢◌, ◌⊎◌, inl, inr, ℕ, ◌≤◌, Bool, true, false, Option, None, Some, List, [], ◌∷◌, refl, ap, sym, subst, ◌∙◌, arith}
use Rattle.std.proofs.lemmas.Bool.Decides.{nat_tests}
use Rattle.std.specs.Prelude.{◌==◌, IfSome, if◌then◌else◌}
use Rattle.ppp_base.specs.declared.protocol.TheConstants.{MULTILINK}
use Rattle.ppp_base.specs.declared.allow.Allow.{Allow}
use Rattle.ppp_base.specs.Mrru.{MrruPair}
use Rattle.ppp_hooks.specs.HookPast.{open_in}
use Rattle.ppp_mark.specs.declared.mark.Mark.{Mark}
use Rattle.ppp_mark.specs.declared.kind.TheConstants.{CLOSE, IN, IP_OPEN, MADE, OUT, UNMADE}
use Rattle.ppp_mark.specs.Marks.{out_mark}
use Rattle.ppp_mark.specs.Scripts.{said_in}
use Rattle.ppp_mp.specs.StandsFor.{GatherNow}
use Rattle.ppp_secrets.specs.declared.secrets.SecretsPair.{SecretsPair}
use Rattle.ppp_bundle.specs.declared.event.BundleEvent.{BundleEvent}
use Rattle.ppp_bundle.specs.declared.event.BundleEvent.TheVariants.{Make, In, Out, Frame, Datagram, Tick, HookOver}
use Rattle.ppp_unit_parts.specs.declared.live.IpCall.TheVariants.{ComesUp, Opens, Ticks}
use Rattle.ppp_unit_parts.specs.declared.live.Live.{Live}
use Rattle.ppp_unit_parts.specs.declared.member.Member.{Member}
use Rattle.ppp_unit_parts.specs.declared.wish.UnitWish.{UnitWish}
use Rattle.ppp_bundle.specs.Closing.{connect_end, crowded_end, idle_end, idled}
use Rattle.ppp_bundle.specs.Frames.{stranger, used_all}
use Rattle.ppp_bundle.specs.Gathers.{Gathered}
use Rattle.ppp_bundle.specs.IpCalls.{called}
use Rattle.ppp_unit_parts.specs.Member.{AreInOrder, has_link, member, stay_of, with_member, without}
use Rattle.ppp_bundle.specs.MayStand.{IsKind, IsLast, Kind, Stands, UnitStands, is_closing_in, number_of}
use Rattle.ppp_bundle.specs.Replay.{stay_in}
use Rattle.ppp_bundle.specs.ScriptParts.{marked, shut}
use Rattle.ppp_bundle.specs.State.{UnitState, members_of}
use Rattle.ppp_bundle.specs.UnitPart.{IsLinkNumber, MayCome, MayEnter, after_event, after_step, begun, entered, entered_of, framed, left_by, left_of, timed, ticked_unit}
use Rattle.ppp_unit_parts.proofs.MemberFacts.{no_stay, order_with, order_without, stay_with, stay_without}
use Rattle.ppp_bundle.proofs.MemberSteps.{with_link}
use Rattle.ppp_bundle.proofs.StandFacts.{in_stands, made_stands, not_kind}
use Rattle.ppp_bundle.proofs.StandMoments.{all_used_stand, brought_stands, called_stands, carried_stands, closed_if_stands, counted_stands, either_stands, outs_target, over_stands, same_number, same_stands, unmade_stand}

-- what the bundle that an event makes is, and what it makes of the bundle that there is
abbrev pub kind_after : {S : Type 0} → BundleEvent S → Kind → Kind
kind_after (Make number maker wish mrru allow) m = record m { mrru = mrru; members = [] }
kind_after (In link stay mru) m = record m { members = with_member (member link stay mru) m.members }
kind_after (Out link stay) m = record m { members = without link m.members }
kind_after (Frame link protocol information) m = m
kind_after (Datagram datagram) m = m
kind_after (Tick now) m = m
kind_after (HookOver done) m = m

made_stand : {S : Type 0} {m : Kind} (secrets : SecretsPair) (number maker : ℕ) (wish : UnitWish) (mrru : Option MrruPair) (allow : Allow) (packets : List (List ℕ)) (u : UnitState S) → MayCome (Make number maker wish mrru allow) u → UnitStands m u
    → UnitStands (record m { mrru = mrru; members = [] }) (after_event secrets (Make number maker wish mrru allow) packets u)
made_stand secrets number maker wish mrru allow packets u may h = record {
  stands = made_stands (λ x. None) u.scripts.log.past u.time maker number (subst (λ (o : Option Live). Stands u.bundles (number_of o) (λ x. stay_of x (members_of o)) false u.scripts.log.past) may.0 h.stands) may.2;
  order = tt;
  target = h.target;
  kind = (refl, refl);
  gather_is = h.gather_is;
}

-- what is known of a unit whose bundle lives
before : {S : Type 0} {m : Kind} (l : Live) (u : UnitState S) → u.live ≡ Some l → UnitStands m u → Stands u.bundles (Some l.number) (λ x. stay_of x l.members) false u.scripts.log.past
before l u live h = subst (λ (o : Option Live). Stands u.bundles (number_of o) (λ x. stay_of x (members_of o)) false u.scripts.log.past) live h.stands

order_of : {S : Type 0} {m : Kind} (l : Live) (u : UnitState S) → u.live ≡ Some l → UnitStands m u → AreInOrder 0 l.members
order_of l u live h = subst (λ (o : Option Live). AreInOrder 0 (members_of o)) live h.order

kind_of : {S : Type 0} {m : Kind} (l : Live) (u : UnitState S) → u.live ≡ Some l → UnitStands m u → IsKind m l
kind_of {m = m} l u live h = subst (λ (o : Option Live). IfSome o (IsKind m)) live h.kind

stays_same : {bundles : ℕ} (number : Option ℕ) (stays stays' : ℕ → Option ℕ) (closing : Bool) (past : List Mark) → ((x : ℕ) → stays x ≡ stays' x) → Stands bundles number stays closing past → Stands bundles number stays' closing past
stays_same number stays stays' closing past e s =
    record { all = s.all; made_are = s.made_are; bundle = s.bundle; stays_are = λ x. s.stays_are x ∙ e x; closing_is = s.closing_is; openings = s.openings }

-- A LINK COMES IN

comes_stand : {S : Type 0} {m : Kind} (link stay mru : ℕ) (l : Live) (u : UnitState S) → u.live ≡ Some l → MayEnter (Some l) link mru → 1 ≤ link → link ≤ 16 → UnitStands m u
    → UnitStands (record m { members = with_member (member link stay mru) m.members }) (with_link link stay mru l u)
comes_stand link stay mru l u live may some most h = record {
  stands = stays_same (Some l.number) (λ x. if link == x then Some stay else stay_of x l.members) (λ x. stay_of x (with_member (member link stay mru) l.members)) false _
      (λ x. sym (stay_with (member link stay mru) x l.members (order_of l u live h) may.1))
      (in_stands l.number (λ x. stay_of x l.members) u.scripts.log.past u.time link stay (before l u live h) (no_stay link l.members may.1));
  order = order_with 0 (member link stay mru) l.members (order_of l u live h) may.1 some most may.2 may.3;
  target = h.target;
  kind = (let k = kind_of l u live h in (k.0, ap (λ (ms : List Member). with_member (member link stay mru) ms) k.1));
  gather_is = h.gather_is;
}

begun_stand : {S : Type 0} {m : Kind} (secrets : SecretsPair) (members : List Member) (u : UnitState S) → UnitStands m u → UnitStands m (begun members secrets u)
begun_stand {S = S} secrets [] u h =
    let w : UnitState S = called secrets Opens u in
    called_stands secrets ComesUp w.live w refl (called_stands secrets Opens u.live u refl h)
begun_stand secrets (x ∷ members) u h = h

enters_stand : {S : Type 0} {m : Kind} (secrets : SecretsPair) (link stay mru : ℕ) (l : Live) (u : UnitState S) → u.live ≡ Some l → MayEnter (Some l) link mru → 1 ≤ link → link ≤ 16 → UnitStands m u
    → UnitStands (record m { members = with_member (member link stay mru) m.members }) (entered secrets link stay mru u)
enters_stand {S = S} {m = m} secrets link stay mru l u live may some most h =
    subst (λ (o : Option Live). UnitStands (record m { members = with_member (member link stay mru) m.members }) (entered_of o secrets link stay mru u)) (sym live)
    (begun_stand secrets l.members (with_link link stay mru l u) (comes_stand link stay mru l u live may some most h))

-- A LINK GOES OUT

other_stays : (b : Bool) (stay : ℕ) (rest : Option ℕ) → Some stay ≡ (if b then None else rest) → (b ≡ false) × (rest ≡ Some stay)
other_stays true stay rest e = absurd (let f : Some stay ≡ None = e in cc)
other_stays false stay rest e = (refl, sym e)

-- another member, where one is left
not_last : (link stay : ℕ) (members : List Member) (x : Member) (left : List Member) (past : List Mark) → without link members ≡ x ∷ left → ((k : ℕ) → stay_in k past ≡ stay_of k members) → IsLast link past → ⊥
not_last link stay members x left past e stays last =
    let head : stay_of x.link (x ∷ left) ≡ Some x.stay = ap (λ (b : Bool). if b then Some x.stay else stay_of x.link left) (same_number x.link) in
    let there = other_stays (link == x.link) x.stay (stay_of x.link members) (sym head ∙ ap (λ (ms : List Member). stay_of x.link ms) (sym e) ∙ stay_without link x.link members) in
    let other : x.link ≢ link = λ f. not_same x.link link f there.0 in
    absurd (let f : None ≡ Some x.stay = sym (last x.link other) ∙ stays x.link ∙ there.1 in cc)
  where
    not_same : (a b : ℕ) → a ≡ b → (b == a) ≡ false → ⊥
    not_same a b f g = absurd (grind (arith, nat_tests))

goes_stands : {bundles : ℕ} (number : Option ℕ) (stays : ℕ → Option ℕ) (past : List Mark) (time link stay : ℕ) → Stands bundles number stays false past → stays link ≡ Some stay → (IsLast link past → ⊥)
    → Stands bundles number (λ x. if link == x then None else stays x) false (out_mark time link stay ∷ past)
goes_stands number stays past time link stay s there others = record {
  all = (
    record {
      made = not_kind OUT MADE refl;
      comes = not_kind OUT IN refl;
      opens = not_kind OUT IP_OPEN refl;
      closes = not_kind OUT CLOSE refl;
      goes = λ f. (s.stays_are link ∙ there, λ why. by_case why);
      unmade = not_kind OUT UNMADE refl;
    },
    s.all,
  );
  made_are = s.made_are;
  bundle = s.bundle;
  stays_are = λ x. ap (λ (o : Option ℕ). if link == x then None else o) (s.stays_are x);
  closing_is = s.closing_is;
  openings = s.openings;
}
  where
    by_case : ((is_closing_in past ≡ true) ⊎ IsLast link past) → open_in (said_in past) ≡ None
    by_case (inl closing) = absurd (let f : true ≡ false = sym closing ∙ s.closing_is in cc)
    by_case (inr last) = absurd (others last)

left_stands : {S : Type 0} {m : Kind} (secrets : SecretsPair) (link stay : ℕ) (packets : List (List ℕ)) (left : List Member) (l : Live) (u : UnitState S) → u.live ≡ Some l → without link l.members ≡ left → stay_of link l.members ≡ Some stay → UnitStands m u
    → UnitStands (record m { members = without link m.members }) (left_by left secrets l link stay packets u)
left_stands secrets link stay packets [] l u live e there h = record {
  stands = unmade_stand l false u.unit u.time u.scripts h.target (order_of l u live h) (before l u live h);
  order = tt;
  target = outs_target l.members u.time (shut u.time u.scripts) ∙ h.target;
  kind = tt;
  gather_is = h.gather_is;
}
left_stands {S = S} secrets link stay packets (x ∷ left) l u live e there h =
    let v : UnitState S = record u { scripts = marked (out_mark u.time link stay) u.scripts; live = Some (record l { members = x ∷ left }) } in
    all_used_stand secrets packets v
    (record {
      stands = stays_same (Some l.number) (λ k. if link == k then None else stay_of k l.members) (λ k. stay_of k (x ∷ left)) false _
          (λ k. sym (stay_without link k l.members) ∙ ap (λ (ms : List Member). stay_of k ms) e)
          (goes_stands (Some l.number) (λ k. stay_of k l.members) u.scripts.log.past u.time link stay (before l u live h) there
          (not_last link stay l.members x left u.scripts.log.past e (before l u live h).stays_are));
      order = subst (λ (ms : List Member). AreInOrder 0 ms) e (order_without 0 link l.members (order_of l u live h));
      target = h.target;
      kind = (let k = kind_of l u live h in (k.0, sym e ∙ ap (λ (ms : List Member). without link ms) k.1));
      gather_is = h.gather_is;
    })

leaves_stand : {S : Type 0} {m : Kind} (secrets : SecretsPair) (link stay : ℕ) (packets : List (List ℕ)) (l : Live) (u : UnitState S) → u.live ≡ Some l → stay_of link l.members ≡ Some stay → UnitStands m u
    → UnitStands (record m { members = without link m.members }) (left_of u.live secrets link stay packets u)
leaves_stand {S = S} {m = m} secrets link stay packets l u live there h =
    subst (λ (o : Option Live). UnitStands (record m { members = without link m.members }) (left_of o secrets link stay packets u)) (sym live) (left_stands secrets link stay packets (without link l.members) l u live refl there h)

frames_stand : {S : Type 0} {m : Kind} (secrets : SecretsPair) (link protocol : ℕ) (information : List ℕ) (packets : List (List ℕ)) (u : UnitState S) → UnitStands m u → UnitStands m (framed secrets link protocol information packets u)
frames_stand secrets link protocol information packets u h =
    either_stands (has_link link (members_of u.live)) _ (stranger u)
    (either_stands (protocol == MULTILINK) (used_all secrets packets u) _ (all_used_stand secrets packets u h) (brought_stands secrets protocol information u h))
    (counted_stands u (stranger u).counts h)

ticks_stand : {S : Type 0} {m : Kind} (secrets : SecretsPair) (now : ℕ) (u : UnitState S) → UnitStands m u → UnitStands m (ticked_unit secrets now u)
ticks_stand {S = S} secrets now u h =
    let v : UnitState S = called secrets Ticks (timed now u) in
    let w : UnitState S = idled v in
    closed_if_stands (connect_end w.time w.live) w (closed_if_stands (idle_end v.time v.live) v
    (called_stands secrets Ticks u.live (timed now u) refl (same_stands u (timed now u) h refl refl refl refl refl refl h.kind)))

event_stands : {S : Type 0} {m : Kind} (secrets : SecretsPair) (event : BundleEvent S) (packets : List (List ℕ)) (u : UnitState S) (o : Option Live) → u.live ≡ o → IsLinkNumber event → MayCome event u → UnitStands m u
    → UnitStands (kind_after event m) (after_event secrets event packets u)
event_stands secrets (Make number maker wish mrru allow) packets u o e is may h = made_stand secrets number maker wish mrru allow packets u may h
event_stands secrets (In link stay mru) packets u None e is may h = absurd (subst (λ (x : Option Live). MayEnter x link mru) e may)
event_stands secrets (In link stay mru) packets u (Some l) e is may h =
    enters_stand secrets link stay mru l u e (subst (λ (x : Option Live). MayEnter x link mru) e may) is.0 is.1 h
event_stands secrets (Out link stay) packets u None e is may h = absurd (let f : None ≡ Some stay = sym (ap (λ (x : Option Live). stay_of link (members_of x)) e) ∙ may in cc)
event_stands secrets (Out link stay) packets u (Some l) e is may h =
    leaves_stand secrets link stay packets l u e (sym (ap (λ (x : Option Live). stay_of link (members_of x)) e) ∙ may) h
event_stands secrets (Frame link protocol information) packets u o e is may h = frames_stand secrets link protocol information packets u h
event_stands secrets (Datagram datagram) packets u o e is may h = carried_stands datagram u.live u refl h
event_stands secrets (Tick now) packets u o e is may h = ticks_stand secrets now u h
event_stands secrets (HookOver done) packets u o e is may h = over_stands done u h

may_then : {S : Type 0} (event : BundleEvent S) (u : UnitState S) (gather : GatherNow) → MayCome event u → MayCome event (record u { gather = gather; ended = None })
may_then (Make number maker wish mrru allow) u gather may = may
may_then (In link stay mru) u gather may = may
may_then (Out link stay) u gather may = may
may_then (Frame link protocol information) u gather may = may
may_then (Datagram datagram) u gather may = may
may_then (Tick now) u gather may = may
may_then (HookOver done) u gather may = may

gathered_stands : {S : Type 0} {m : Kind} (u : UnitState S) (gather : GatherNow) → UnitStands m u → UnitStands (record m { gather = gather }) (record u { gather = gather; ended = None })
gathered_stands u gather h = record { stands = h.stands; order = h.order; target = h.target; kind = h.kind; gather_is = refl }

pub step_stands : {S : Type 0} {m : Kind} (secrets : SecretsPair) (event : BundleEvent S) (g : Gathered) (u : UnitState S) → IsLinkNumber event → MayCome event u → UnitStands m u
    → UnitStands (kind_after event (record m { gather = g.gather })) (after_step secrets event g u)
step_stands {S = S} secrets event g u is may h =
    let w : UnitState S = record u { gather = g.gather; ended = None } in
    let v : UnitState S = after_event secrets event g.packets w in
    closed_if_stands (crowded_end v.scripts.log.past) v (event_stands secrets event g.packets w u.live refl is (may_then event u g.gather may) (gathered_stands u g.gather h))
