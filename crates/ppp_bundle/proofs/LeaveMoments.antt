-- A step at which a member goes out.
use Rattle.std.proofs.Common.{◌≡◌, inr, ℕ, false, Option, None, Some, is_some, List, [], ◌∷◌, refl, ap, sym, subst, ◌∙◌, arith, length, append-nil, ◌≤◌, ◌++◌}
use Rattle.std.specs.Prelude.{◌==◌, option_to_list, if◌then◌else◌}
use Rattle.ppp_mp.specs.declared.members.MemberView.{MemberView}
use Rattle.ppp_secrets.specs.declared.secrets.SecretsPair.{SecretsPair}
use Rattle.ppp_unit_parts.specs.declared.live.Live.{Live}
use Rattle.ppp_unit_parts.specs.declared.member.Member.{Member}
use Rattle.ppp_unit_parts.specs.declared.outbox.BundleEnd.{BundleEnd}
use Rattle.ppp_bundle.specs.Closing.{unmade, connect_end, idle_end}
use Rattle.ppp_bundle.specs.History.{Moment, Goes, Terms, entered_in, is_up_in, is_member_in, asked_in, entries_in, gathered_in}
use Rattle.ppp_bundle.specs.Lives.{LivesOrEnds, mru_of, GathersAll, HasMember, Reached}
use Rattle.ppp_unit_parts.specs.Member.{stay_of, views_of, without, AreInOrder}
use Rattle.ppp_bundle.specs.State.{UnitState}
use Rattle.ppp_bundle.specs.UnitPart.{left_by, left_of, if_multilink, unless_last}
use Rattle.ppp_bundle.proofs.MidMoments.{Mid, Calm, flows_quiet, flows_start, nothing_of}
use Rattle.ppp_bundle.proofs.StepMoments.{Does, does_of, somebody_came}
use Rattle.ppp_base.specs.Mrru.{MrruPair}
use Rattle.ppp_mp.specs.StandsFor.{GatherNow}
use Rattle.ppp_bundle.proofs.EventMoments.{Begins}
use Rattle.ppp_bundle.specs.Gathers.{Gathered, Gathers, link_leaves}
use Rattle.ppp_bundle.proofs.PlainFacts.{alone}
use Rattle.ppp_bundle.proofs.PieceMoments.{cuts_then}
use Rattle.ppp_bundle.specs.ScriptParts.{marked}
use Rattle.ppp_bundle.proofs.ViewMoments.{mru_without}
use Rattle.ppp_unit_parts.proofs.MemberFacts.{order_without}
use Rattle.ppp_mark.specs.Marks.{out_mark}
use Rattle.ppp_bundle.proofs.CallMoments.{reached_sends}
use Rattle.ppp_bundle.proofs.UseMoments.{uses_all}

-- WHAT IS GATHERED

gathers_goes : (m other : Option MrruPair) (link : ℕ) (first : Member) (others : List Member) (past : List Moment) (old : GatherNow) (g : Gathered) → other ≡ m → Gathers (if_multilink other (unless_last (first ∷ others) (link_leaves link))) old g → GathersAll m old past []
    → GathersAll m g.gather (Goes link ∷ past) g.packets
gathers_goes None None link first others past old g e asked h = (h.0, asked.none)
gathers_goes None (Some x) link first others past old g e asked h = absurd (let f : Some x ≡ None = e in cc)
gathers_goes (Some mrru) None link first others past old g e asked h = absurd (let f : None ≡ Some mrru = e in cc)
gathers_goes (Some mrru) (Some x) link first others past old g e asked h =
    let added = asked.stands (entries_in past) h.0 h.1 in
    (added.0, added.1, added.2 ∙ ap (λ (x : List (List ℕ)). x ++ g.packets) (h.2 ∙ append-nil (gathered_in past)), asked.ours ∙ h.3)

-- MEMBERS

few_of_views : (members : List Member) (entered : Option MemberView) → views_of members ≡ option_to_list entered → length members ≤ 1
few_of_views [] entered e = omega arith
few_of_views (m ∷ []) entered e = omega arith
few_of_views (m ∷ n ∷ members) None e = absurd (let g : record { link = m.link; mru = m.mru } ∷ views_of (n ∷ members) ≡ [] = e in cc)
few_of_views (m ∷ n ∷ members) (Some v) e = absurd (let g : record { link = m.link; mru = m.mru } ∷ record { link = n.link; mru = n.mru } ∷ views_of members ≡ v ∷ [] = e in cc)

-- in a plain bundle nobody stays
some_goes : (m : Option MrruPair) (link stay : ℕ) (members : List Member) (first : Member) (others : List Member) (past : List Moment) → HasMember m members past → stay_of link members ≡ Some stay → without link members ≡ first ∷ others
    → (entered_in past ≡ None → ⊥) → HasMember m (first ∷ others) (Goes link ∷ past)
some_goes None link stay members first others past h there left came =
    absurd (let f : first ∷ others ≡ [] = sym left ∙ alone members link stay (few_of_views members (entered_in past) h) there in cc)
some_goes (Some mrru) link stay members first others past h there left came =
    (λ e. absurd (let f : first ∷ others ≡ [] = e in cc), λ e. absurd (came e))

stay_came : (m : Option MrruPair) (link stay : ℕ) (members : List Member) (past : List Moment) → HasMember m members past → stay_of link members ≡ Some stay → entered_in past ≡ None → ⊥
stay_came m link stay [] past h there none = absurd (let f : None ≡ Some stay = there in cc)
stay_came m link stay (first ∷ members) past h there none = somebody_came m first members past h none

pub left_is : {S : Type 0} (secrets : SecretsPair) (link stay : ℕ) (packets : List (List ℕ)) (l : Live) (u : UnitState S) (left : List Member) → u.live ≡ Some l → without link l.members ≡ left
    → left_of u.live secrets link stay packets u ≡ left_by left secrets l link stay packets u
left_is secrets link stay packets l u left live e =
    ap (λ (o : Option Live). left_of o secrets link stay packets u) live ∙ ap (λ (ms : List Member). left_by ms secrets l link stay packets u) e

-- A MEMBER GOES OUT

reached_goes : (terms : Terms) (past : List Moment) (link : ℕ) (first : Member) (others : List Member) (left : List (List ℕ)) (time : ℕ) (old gather : GatherNow) (l : Live) → Reached terms time old l past [] → asked_in terms past ≡ []
    → without link l.members ≡ first ∷ others → GathersAll terms.mrru gather (Goes link ∷ past) left → HasMember terms.mrru (first ∷ others) (Goes link ∷ past)
    → Reached terms time gather (record l { members = first ∷ others }) (Goes link ∷ past) left
reached_goes terms past link first others left time old gather l r done is gathers some = record {
  order = (done, r.order);
  ipcp = r.ipcp;
  gathers = gathers;
  cuts = cuts_then terms past terms.mrru (Goes link) l (reached_sends terms past time old [] l r) r.cuts;
  members = λ x. sym (ap (λ (ms : List Member). mru_of x ms) is) ∙ mru_without link x l.members ∙ ap (λ (o : Option ℕ). if link == x then None else o) (r.members x);
  in_order = subst (λ (ms : List Member). AreInOrder 0 ms) is (order_without 0 link l.members r.in_order);
  some = some;
  initial = r.initial;
  time_is = r.time_is;
  wish = r.wish;
  allow = r.allow;
  mrru = r.mrru;
  was_open = r.was_open;
  by_peer = r.by_peer;
  opened_at = r.opened_at;
  passed_at = r.passed_at;
}

pub does_leave : {S : Type 0} (terms : Terms) (past : List Moment) (secrets : SecretsPair) (link stay : ℕ) (old : GatherNow) (g : Gathered) (u : UnitState S) → (b : Begins terms past old u)
    → u.gather ≡ g.gather → Gathers (if_multilink b.l.mrru (unless_last (without link b.l.members) (link_leaves link))) old g → stay_of link b.l.members ≡ Some stay → Calm u → u.sent ≡ [] → u.given ≡ []
    → Does terms past secrets (Goes link ∷ []) u.counts (left_of u.live secrets link stay g.packets u)
does_leave {S = S} terms past secrets link stay old g u b kept asked there calm sent given = by_left (without link b.l.members) refl
  where
    nothing : u.given ≡ u.given ++ (if is_up_in terms past then [] else [])
    nothing = sym (append-nil u.given) ∙ ap (λ (x : List (List ℕ)). u.given ++ x) (nothing_of (is_up_in terms past))

    by_left : (left : List Member) → without link b.l.members ≡ left → Does terms past secrets (Goes link ∷ []) u.counts (left_of u.live secrets link stay g.packets u)
    by_left [] e =
        let v : UnitState S = record u { scripts = unmade b.l u.time u.scripts; live = None } in
        let none : (x : ℕ) → is_member_in x (Goes link ∷ past) ≡ false = λ x.
        ap (λ (o : Option ℕ). is_some (if link == x then None else o)) (sym (b.reached.members x)) ∙ ap is_some (sym (mru_without link x b.l.members) ∙ ap (λ (ms : List Member). mru_of x ms) e) in
        subst (λ (x : UnitState S). Does terms past secrets (Goes link ∷ []) u.counts x) (sym (left_is secrets link stay g.packets b.l u [] b.live e))
        (does_of terms (Goes link ∷ []) past secrets (Goes link ∷ []) u.counts v refl tt
        (inr (record {
          live = refl;
          how = subst (λ (x : Option BundleEnd). LivesOrEnds terms (Goes link ∷ past) [] v None x) (sym b.ended) (record { order = (b.done, b.reached.order); none = none; last = tt }, refl);
        }))
        (record { idle = refl; connect = refl })
        (flows_quiet terms [] past (Goes link) u.counts u.time old [] b.l u v b.reached refl refl refl nothing refl (flows_start terms past u.time old [] b.l u b.reached sent given)))
    by_left (first ∷ others) e =
        let w : UnitState S = record u { scripts = marked (out_mark u.time link stay) u.scripts; live = Some (record b.l { members = first ∷ others }) } in
        let came : entered_in past ≡ None → ⊥ = stay_came terms.mrru link stay b.l.members past b.reached.some there in
        let gathers : GathersAll terms.mrru g.gather (Goes link ∷ past) g.packets =
        gathers_goes terms.mrru b.l.mrru link first others past old g b.reached.mrru (subst (λ (ms : List Member). Gathers (if_multilink b.l.mrru (unless_last ms (link_leaves link))) old g) e asked) b.reached.gathers in
        let m : Mid terms (Goes link ∷ past) [] g.packets w = record {
          l = record b.l { members = first ∷ others };
          live = refl;
          reached = reached_goes terms past link first others g.packets u.time old u.gather b.l b.reached b.done e
              (subst (λ (n : GatherNow). GathersAll terms.mrru n (Goes link ∷ past) g.packets) (sym kept) gathers) (some_goes terms.mrru link stay b.l.members first others past b.reached.some there e came);
          asked_is = refl;
          going = b.going;
          ended = b.ended;
          target = b.target;
        } in
        let calm1 : Calm w = record {
          idle = sym (ap (λ (o : Option Live). idle_end u.time o) b.live) ∙ calm.idle;
          connect = sym (ap (λ (o : Option Live). connect_end u.time o) b.live) ∙ calm.connect;
        } in
        subst (λ (x : UnitState S). Does terms past secrets (Goes link ∷ []) u.counts x) (sym (left_is secrets link stay g.packets b.l u (first ∷ others) b.live e))
        (uses_all terms past secrets g.packets (Goes link ∷ []) (Goes link ∷ []) u.counts w refl tt m came calm1
        (flows_quiet terms [] past (Goes link) u.counts u.time old [] b.l u w b.reached refl refl refl nothing refl (flows_start terms past u.time old [] b.l u b.reached sent given)))
