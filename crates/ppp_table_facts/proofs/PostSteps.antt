-- A table that stands goes on to stand by each post of a link.
use Rattle.std.proofs.Common.{◌≡◌, ◌≤◌, ◌<◌, ◌-◌, ◌==◌, ℕ, Bool, true, false, is_some, Option, None, Some, IfSome, List, length, slice_get, refl, ap, sym, subst, ◌∙◌, arith}
use Rattle.std.specs.Prelude.{nat_le, if◌then◌else◌}
use Rattle.ppp_base.specs.RingAfter.{one_more}
use Rattle.ppp_base.specs.declared.allow.Allow.{Allow}
use Rattle.ppp_base.specs.declared.posts.Post.TheVariants as post
use Rattle.ppp_base.specs.declared.posts.UpPost.{UpPost}
use Rattle.ppp_base.specs.declared.posts.UpPost.TheVariants as up
use Rattle.ppp_unit_parts.specs.declared.wish.UnitWish.{UnitWish}
use Rattle.ppp_bundle.specs.declared.event.BundleEvent.TheVariants.{Make, In, Out, Frame}
use Rattle.ppp_bundle.specs.State.{UnitState}
use Rattle.ppp_bundle.specs.UnitPart.{MayCome}
use Rattle.ppp_table_parts.specs.Key.{Terms}
use Rattle.ppp_table_parts.specs.Side.{SideState, with_control, with_terms}
use Rattle.ppp_table_parts.specs.Sides.{at_link}
use Rattle.ppp_table_parts.proofs.TermLemmas.{kept_at}
use Rattle.ppp_table.specs.declared.stays.Stay.{Stay}
use Rattle.ppp_table.specs.declared.verdict.Verdict.{Verdict}
use Rattle.ppp_table.specs.declared.verdict.Verdict.TheVariants.{Joins, Makes, Refuses}
use Rattle.ppp_table.specs.PostPart.{Enters, FramePart, GoesOut, MakesBy, PostPart, Posts, PostsOf, next_number, same_stay, terms_of, with_terms_at}
use Rattle.ppp_table.specs.TableState.{TableState, stay_in}
use Rattle.ppp_table.specs.UnitStep.{UnitStep}
use Rattle.ppp_table.specs.Verdicts.{has_bundle, room_in, verdict}
use Rattle.ppp_table.proofs.Apart.{gone_after, nowhere}
use Rattle.ppp_table.proofs.Comings.{whole_join, whole_make}
use Rattle.ppp_table.proofs.Joins.{IsFree, joins_multilink, makes_where_free, may_enter_made, may_join}
use Rattle.ppp_table.proofs.Places.{length_set}
use Rattle.ppp_table.proofs.Wholes.{may_go, whole_out}
use Rattle.ppp_table_facts.specs.TableStands.{IsPost, TableStands}
use Rattle.ppp_table_facts.proofs.TableSteps.{Goes, MayAt, always, quiet_stands, rest_stands, sides_stand, step_goes}

-- A MEMBER GOES OUT

out_stands : {S : Type 0} (o : Option Stay) (link : ℕ) (old new : TableState S) → IfSome o (λ s. stay_in link old ≡ Some s) → GoesOut o link old new → TableStands old → TableStands new
out_stands {S = S} None link old new there g h = subst (λ (t : TableState S). TableStands t) (sym g) h
out_stands (Some s) link old new there g h =
    let goes : Goes old new = step_goes s.unit (Out link s.stay) old new g tt (may_go s link old there) (always (slice_get old.units s.unit)) h.whole.drained h.units in
    record { whole = whole_out s link old new g h.whole (goes.sixteen ∙ h.whole.sixteen) goes.drained; units = goes.units; sides = goes.sides ∙ h.sides }

itself_there : {S : Type 0} (o : Option Stay) (link : ℕ) (t : TableState S) → stay_in link t ≡ o → IfSome o (λ s. stay_in link t ≡ Some s)
itself_there None link t e = tt
itself_there (Some s) link t e = e

gone_then : {S : Type 0} (o : Option Stay) (link : ℕ) (old new : TableState S) → stay_in link old ≡ o → GoesOut o link old new → TableStands old → stay_in link new ≡ None
gone_then {S = S} None link old new e g h = ap (λ (t : TableState S). stay_in link t) g ∙ e
gone_then (Some s) link old new e g h = gone_after s link old new e g h.whole.apart

leaves_if : {S : Type 0} (b : Bool) (s : Stay) (link : ℕ) (t : TableState S) → stay_in link t ≡ Some s → IfSome (if b then Some s else None) (λ x. stay_in link t ≡ Some x)
leaves_if true s link t e = e
leaves_if false s link t e = tt

leaves : {S : Type 0} (o : Option Stay) (stay link : ℕ) (t : TableState S) → stay_in link t ≡ o → IfSome (same_stay stay o) (λ s. stay_in link t ≡ Some s)
leaves None stay link t e = tt
leaves (Some s) stay link t e = leaves_if (s.stay == stay) s link t e

-- A FRAME

frame_stands : {S : Type 0} (o : Option Stay) (link protocol : ℕ) (information : List ℕ) (old new : TableState S) → FramePart o link protocol information old new → TableStands old → TableStands new
frame_stands {S = S} None link protocol information old new f h =
    subst (λ (t : TableState S). TableStands t) (sym f) (rest_stands old old.deliveries (one_more old.stranger) old.packets old.taken h)
frame_stands (Some s) link protocol information old new f h =
    quiet_stands s.unit (Frame link protocol information) old new f tt tt (always (slice_get old.units s.unit)) (always (slice_get old.units s.unit)) h

-- A LINK COMES IN

place_there : (link : ℕ) (sides : List SideState) → 1 ≤ link → link ≤ 16 → length sides ≡ 16 → link - 1 < length sides
place_there link sides low high e = omega (arith, low, high, e)

join_stands : {S : Type 0} (unit link stay mru : ℕ) (terms : Terms) (old new : TableState S) → UnitStep unit (In link stay mru) (with_terms_at link terms old) new → 1 ≤ link → link ≤ 16 → 128 ≤ mru → mru ≤ 1500
    → stay_in link old ≡ None → verdict link terms old ≡ Joins unit → TableStands old → TableStands new
join_stands {S = S} unit link stay mru terms old new step low high least most none told h =
    let may : _ = may_join (slice_get old.units unit) link mru (joins_multilink (Joins unit) link unit terms old (sym told) refl) (nowhere 0 link old.units none unit) least most in
    let goes : Goes (with_terms_at link terms old) new = step_goes unit (In link stay mru) (with_terms_at link terms old) new step (low, high) may (always (slice_get old.units unit)) h.whole.drained h.units in
    record {
      whole = whole_join unit link stay mru terms old old new (at_link link (with_terms terms) old.sides) refl refl (low, place_there link old.sides low high h.sides) step
          (goes.sixteen ∙ h.whole.sixteen) goes.drained h.whole none told;
      units = goes.units;
      sides = goes.sides ∙ length_set old.sides (link - 1) _ ∙ h.sides;
    }

may_make : {S : Type 0} (o : Option (UnitState S)) (link : ℕ) (wish : UnitWish) (terms : Terms) (allow : Allow) → has_bundle o ≡ false → 1024 ≤ room_in o
    → IfSome o (MayCome (Make (next_number o) link wish terms.mrru allow))
may_make None link wish terms allow free room = tt
may_make {S = S} (Some u) link wish terms allow free room = (no_bundle u.live free, room, refl)
  where
    no_bundle : {A : Type 0} (o : Option A) → is_some o ≡ false → o ≡ None
    no_bundle None e = refl
    no_bundle (Some a) e = absurd (let f : true ≡ false = e in cc)

make_stands : {S : Type 0} (unit link : ℕ) (terms : Terms) (stay mru : ℕ) (allow : Allow) (old new : TableState S) → MakesBy unit link terms stay mru allow old new → 1 ≤ link → link ≤ 16 → 128 ≤ mru → mru ≤ 1500
    → stay_in link old ≡ None → verdict link terms old ≡ Makes unit → TableStands old → TableStands new
make_stands {S = S} unit link terms stay mru allow old new m low high least most none told h =
    let number : ℕ = next_number (slice_get old.units unit) in
    let mid : TableState S = m.one.mid in
    let free : IsFree unit old = makes_where_free (Makes unit) link unit terms old (sym told) refl in
    let first : Goes (with_terms_at link terms old) mid =
    step_goes unit (Make number link m.wish terms.mrru allow) (with_terms_at link terms old) mid m.one.makes tt (may_make (slice_get old.units unit) link m.wish terms allow free.0 free.1) (always (slice_get old.units unit))
    h.whole.drained h.units in
    let may : MayAt unit (In link stay mru) mid = may_enter_made unit number link link mru m.wish terms.mrru allow (with_terms_at link terms old) mid m.one.makes least most in
    let goes : Goes mid new = step_goes unit (In link stay mru) mid new m.one.comes (low, high) may (always (slice_get mid.units unit)) first.drained first.units in
    record {
      whole = whole_make unit number link link stay mru m.wish terms.mrru terms allow old old mid new (at_link link (with_terms terms) old.sides) refl refl refl (low, place_there link old.sides low high h.sides) m.one.makes m.one.comes
          (goes.sixteen ∙ first.sixteen ∙ h.whole.sixteen) goes.drained h.whole none told;
      units = goes.units;
      sides = goes.sides ∙ first.sides ∙ length_set old.sides (link - 1) _ ∙ h.sides;
    }

enters_stand : {S : Type 0} (v : Verdict) (link : ℕ) (terms : Terms) (stay mru : ℕ) (allow : Allow) (old new : TableState S) → verdict link terms old ≡ v → Enters v link terms stay mru allow old new → 1 ≤ link → link ≤ 16
    → 128 ≤ mru → mru ≤ 1500 → stay_in link old ≡ None → TableStands old → TableStands new
enters_stand (Joins unit) link terms stay mru allow old new told e low high least most none h = join_stands unit link stay mru terms old new e low high least most none told h
enters_stand (Makes unit) link terms stay mru allow old new told e low high least most none h = make_stands unit link terms stay mru allow old new e low high least most none told h
enters_stand {S = S} (Refuses reason) link terms stay mru allow old new told e low high least most none h =
    subst (λ (t : TableState S). TableStands t) (sym e)
    (sides_stand old (at_link link (with_control (post.Refused stay reason)) old.sides) (length_set old.sides (link - 1) _) (kept_at link (with_control (post.Refused stay reason)) old.sides (λ side. refl)) h)

-- EACH POST

posts_stand : {S : Type 0} (link : ℕ) (p : UpPost) (old new : TableState S) → Posts link p old new → 1 ≤ link → link ≤ 16 → IsPost p → TableStands old → TableStands new
posts_stand link (up.Join j) old new f low high is h =
    let out : TableStands f.mid = out_stands (stay_in link old) link old f.mid (itself_there (stay_in link old) link old refl) f.out h in
    enters_stand (verdict link (terms_of j) f.mid) link (terms_of j) j.stay j.mru j.allow f.mid new refl f.enters low high is.0 is.1 (gone_then (stay_in link old) link old f.mid refl f.out h) out
posts_stand link (up.Frame protocol information) old new f low high is h = frame_stands (stay_in link old) link protocol information old new f h
posts_stand link (up.Leave stay) old new f low high is h = out_stands (same_stay stay (stay_in link old)) link old new (leaves (stay_in link old) stay link old refl) f h

by_there : {S : Type 0} (b : Bool) (link : ℕ) (p : UpPost) (old new : TableState S) → PostsOf b link p old new → 1 ≤ link → link ≤ 16 → IsPost p → TableStands old → TableStands new
by_there {S = S} false link p old new f low high is h = subst (λ (t : TableState S). TableStands t) (sym f) h
by_there true link p old new f low high is h = posts_stand link p old new f low high is h

pub post_stands : {S : Type 0} (link : ℕ) (p : UpPost) (old new : TableState S) → PostPart link p old new → 1 ≤ link → link ≤ 16 → IsPost p → TableStands old → TableStands new
post_stands link p old new f low high is h = by_there (nat_le link (length old.links)) link p old new f low high is h
