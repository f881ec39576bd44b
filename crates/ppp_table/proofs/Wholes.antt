-- What stays so of a table from step to step of a unit.
use Rattle.std.proofs.Common.{◌≡◌, ◌⊎◌, ℕ, true, Option, None, Some, IfSome, List, [], ◌∷◌, length, slice_get, slice_set, inl, inr, refl, ap, sym, subst, ◌∙◌, arith}
use Rattle.ppp_base.specs.Stepped.{IfStale, OnTaken}
use Rattle.ppp_base.specs.declared.stepped.Stepped.{Stepped}
use Rattle.ppp_base.specs.declared.stepped.Stepped.TheVariants.{Taken, Stale}
use Rattle.ppp_hooks.specs.HookState.{DoneState}
use Rattle.ppp_base.specs.Mrru.{MrruPair}
use Rattle.ppp_base.specs.declared.allow.Allow.{Allow}
use Rattle.ppp_unit_parts.specs.declared.wish.UnitWish.{UnitWish}
use Rattle.ppp_unit_parts.specs.Member.{has_link, member, stay_of}
use Rattle.ppp_bundle.specs.declared.event.BundleEvent.{BundleEvent}
use Rattle.ppp_bundle.specs.declared.event.BundleEvent.TheVariants.{Make, In, Out, Frame, Datagram, Tick, HookOver}
use Rattle.ppp_bundle.specs.State.{UnitState, members_of}
use Rattle.ppp_table.specs.declared.stays.Stay.{Stay}
use Rattle.ppp_table_parts.proofs.TermLemmas.{SameTerms, kept_at, kept_taken}
use Rattle.ppp_option_words.specs.LinkValues.{LinkValues}
use Rattle.ppp_table.specs.Asking.{woken_one}
use Rattle.ppp_table.specs.Fits.{AllFit, AreApart, AreTogether, Fits, IsThere, IsWhole, members_in}
use Rattle.ppp_table_parts.specs.Key.{Terms}
use Rattle.ppp_table_parts.specs.Side.{SideState, after_first}
use Rattle.ppp_table_parts.specs.Sides.{at_link, each_link, side_of}
use Rattle.ppp_table.proofs.Together.{together_kept, together_sides}
use Rattle.ppp_table.specs.TableState.{AreDrained, TableState, stay_in}
use Rattle.ppp_table.specs.UnitStep.{IsQuiet, UnitStep}
use Rattle.ppp_unit_parts.specs.declared.live.Live.{Live}
use Rattle.ppp_table.proofs.Places.{drained_at, drained_set, length_set}
use Rattle.ppp_table.proofs.Fitting.{fits_sides, if_map, out_all, quiet_all, woken_terms}
use Rattle.ppp_table.proofs.Apart.{Comes, ComesApart, IsIn, IsNowhere, apart_after, found_there, set_get}

pub whole_after : {S : Type 0} (n : ℕ) (event : BundleEvent S) (old new : TableState S) → UnitStep n event old new → AreApart old.units → ComesApart event old
    → length new.units ≡ 16 → AreDrained new.units → AllFit new.sides new.units → AreTogether new.sides new.units → IsWhole new
whole_after n event old new step apart comes sixteen drained fits together = record { sixteen = sixteen; drained = drained; apart = apart_after n event old new step apart comes; fits = fits; together = together }

pub whole_out : {S : Type 0} (s : Stay) (link : ℕ) (old new : TableState S) → UnitStep s.unit (Out link s.stay) old new → IsWhole old → length new.units ≡ 16 → AreDrained new.units → IsWhole new
whole_out s link old new step w sixteen drained = whole_after s.unit (Out link s.stay) old new step w.apart (λ x a c i. absurd c) sixteen drained (out_all s.unit link s.stay old new step w.fits)
    (together_kept s.unit (Out link s.stay) old new step (λ x c. c) w.together)

-- What waits for links is changed without their terms.
pub whole_sides : {S : Type 0} (old new : TableState S) → new.units ≡ old.units → SameTerms old.sides new.sides → IsWhole old → IsWhole new
whole_sides {S = S} old new units same w = record {
  sixteen = rw units w.sixteen;
  drained = rw units w.drained;
  apart = rw units w.apart;
  fits = λ a. subst (λ (us : List (UnitState S)). IfSome (slice_get us a) (λ u. Fits new.sides u.live)) (sym units) (if_map (slice_get old.units a) (λ u f. fits_sides old.sides new.sides same u.live f) (w.fits a));
  together = subst (λ (us : List (UnitState S)). AreTogether new.sides us) (sym units) (together_sides old.sides new.sides old.units same w.together);
}

pub whole_at : {S : Type 0} (link : ℕ) (change : SideState → SideState) (seen old : TableState S) (sides : List SideState) → seen ≡ old → sides ≡ at_link link change seen.sides
    → ((side : SideState) → (change side).terms ≡ side.terms) → IsWhole old → IsWhole (record seen { sides = sides })
whole_at {S = S} link change seen old sides is e same w =
    whole_sides seen (record seen { sides = sides }) refl (λ other. ap (λ (ss : List SideState). (side_of other ss).terms) e ∙ kept_at link change seen.sides same other) (subst (λ (t : TableState S). IsWhole t) (sym is) w)

pub whole_taken : {S : Type 0} (link : ℕ) (seen old : TableState S) (sides : List SideState) → seen ≡ old → sides ≡ at_link link after_first seen.sides → IsWhole old → IsWhole (record seen { sides = sides })
whole_taken {S = S} link seen old sides is e w =
    whole_sides seen (record seen { sides = sides }) refl (λ other. ap (λ (ss : List SideState). (side_of other ss).terms) e ∙ kept_taken link seen.sides other) (subst (λ (t : TableState S). IsWhole t) (sym is) w)

pub whole_woken : {S : Type 0} (unit : ℕ) (links : List LinkValues) (seen old : TableState S) (sides : List SideState) → seen ≡ old → sides ≡ each_link (woken_one unit links) 1 seen.sides → IsWhole old
    → IsWhole (record seen { sides = sides })
whole_woken {S = S} unit links seen old sides is e w =
    whole_sides seen (record seen { sides = sides }) refl (λ other. ap (λ (ss : List SideState). (side_of other ss).terms) e ∙ woken_terms unit links seen.sides other) (subst (λ (t : TableState S). IsWhole t) (sym is) w)

-- Who goes out is where it was found.
pub may_go : {S : Type 0} (s : Stay) (link : ℕ) (t : TableState S) → stay_in link t ≡ Some s → IfSome (slice_get t.units s.unit) (λ u. stay_of link (members_of u.live) ≡ Some s.stay)
may_go s link t e = (found_there s link t e).0

-- One that was nowhere comes in.
pub whole_in : {S : Type 0} (unit link stay mru : ℕ) (old new : TableState S) → UnitStep unit (In link stay mru) old new → AreApart old.units → IsNowhere link old.units → length new.units ≡ 16 → AreDrained new.units
    → AllFit new.sides new.units → AreTogether new.sides new.units → IsWhole new
whole_in {S = S} unit link stay mru old new step apart none sixteen drained fits together =
    whole_after unit (In link stay mru) old new step apart (λ x a c i. none a (subst (λ (k : ℕ). IsIn k a old.units) c i)) sixteen drained fits together

pub apart_made : {S : Type 0} (unit number maker : ℕ) (wish : UnitWish) (mrru : Option MrruPair) (allow : Allow) (old mid : TableState S)
    → UnitStep unit (Make number maker wish mrru allow) old mid → AreApart old.units → AreApart mid.units
apart_made unit number maker wish mrru allow old mid step apart = apart_after unit (Make number maker wish mrru allow) old mid step apart (λ x a c i. absurd c)

pub same_links : {S : Type 0} (n : ℕ) (event : BundleEvent S) (old new : TableState S) → UnitStep n event old new → new.links ≡ old.links
same_links n event old new s = ap (λ t. t.links) s.after

-- Where no bundle is made, and no link comes in or goes out, a table stays whole.
none_comes : {S : Type 0} (event : BundleEvent S) (x : ℕ) → IsQuiet event → Comes event x → ⊥
none_comes (In link stay mru) x q c = q
none_comes (Make number maker wish mrru allow) x q c = c
none_comes (Out link stay) x q c = c
none_comes (Frame link protocol information) x q c = c
none_comes (Datagram datagram) x q c = c
none_comes (Tick now) x q c = c
none_comes (HookOver done) x q c = c

pub whole_keeps : {S : Type 0} (n : ℕ) (event : BundleEvent S) (old new : TableState S) → UnitStep n event old new → IsWhole old → IsQuiet event → length new.units ≡ 16 → AreDrained new.units → IsWhole new
whole_keeps n event old new step w quiet sixteen drained = whole_after n event old new step w.apart (λ x a c i. none_comes event x quiet c) sixteen drained (quiet_all n event old new step quiet w.fits)
    (together_kept n event old new step (λ x c. none_comes event x quiet c) w.together)

-- where a script's end is taken, and where it isn't
pub whole_over : {S : Type 0} {E : Type 0} {F : E → Type 0} (r : Stepped E) (n : ℕ) (done : DoneState S) (old new : TableState S) → OnTaken r (UnitStep n (HookOver done) old new) → IfStale r F → ((e : E) → F e → new ≡ old)
    → IsWhole old → length new.units ≡ 16 → AreDrained new.units → IsWhole new
whole_over Taken n done old new step stale same w sixteen drained = whole_keeps n (HookOver done) old new step w tt sixteen drained
whole_over (Stale e) n done old new step stale same w sixteen drained = rw (same e stale) w

-- Where a unit's bundle and what waits stay as they are, a table stays whole.
pub whole_set : {S : Type 0} (n : ℕ) (was now : UnitState S) (old new : TableState S) → slice_get old.units n ≡ Some was → now.live ≡ was.live → now.sent ≡ was.sent → now.given ≡ was.given
    → new.units ≡ slice_set old.units n now → new.sides ≡ old.sides → IsWhole old → IsWhole new
whole_set {S = S} n was now old new there live sent given e sides w =
    let d : (was.sent ≡ []) × (was.given ≡ []) = drained_at old.units n was w.drained there in
    record {
      sixteen = rw e (length_set old.units n now ∙ w.sixteen);
      drained = rw e (drained_set old.units n now w.drained (sent ∙ d.0) (given ∙ d.1));
      apart = λ a b x f g. w.apart a b x (before a x f) (before b x g);
      fits = λ a. rw sides (subst (λ (us : List (UnitState S)). IfSome (slice_get us a) (λ u. Fits old.sides u.live)) (sym e) (fits_at a (set_get old.units n a now was there)));
      together = λ a b x y s t f g p q i. w.together a b x y s t (there_at a x s f) (there_at b y t g) p q i;
    }
  where
    by_place : (a x : ℕ) → ((a ≡ n) × (slice_get (slice_set old.units n now) a ≡ Some now)) ⊎ ((a ≡ n → ⊥) × (slice_get (slice_set old.units n now) a ≡ slice_get old.units a))
        → IsIn x a (slice_set old.units n now) → IsIn x a old.units
    by_place a x (inl f) g =
        let here : has_link x (members_of now.live) ≡ true = subst (λ (o : Option (UnitState S)). has_link x (members_in o) ≡ true) f.1 g in
        let was_here : has_link x (members_of was.live) ≡ true = subst (λ (o : Option Live). has_link x (members_of o) ≡ true) live here in
        rw f.0 (subst (λ (o : Option (UnitState S)). has_link x (members_in o) ≡ true) (sym there) was_here)
    by_place a x (inr f) g = subst (λ (o : Option (UnitState S)). has_link x (members_in o) ≡ true) f.1 g

    before : (a x : ℕ) → IsIn x a new.units → IsIn x a old.units
    before a x f = by_place a x (set_get old.units n a now was there) (subst (λ (units : List (UnitState S)). IsIn x a units) e f)

    fits_at : (a : ℕ) → ((a ≡ n) × (slice_get (slice_set old.units n now) a ≡ Some now)) ⊎ ((a ≡ n → ⊥) × (slice_get (slice_set old.units n now) a ≡ slice_get old.units a))
        → IfSome (slice_get (slice_set old.units n now) a) (λ u. Fits old.sides u.live)
    fits_at a (inl f) =
        let was_fits : Fits old.sides was.live = subst (λ (o : Option (UnitState S)). IfSome o (λ u. Fits old.sides u.live)) there (w.fits n) in
        subst (λ (o : Option (UnitState S)). IfSome o (λ u. Fits old.sides u.live)) (sym f.1) (rw live was_fits)
    fits_at a (inr f) = subst (λ (o : Option (UnitState S)). IfSome o (λ u. Fits old.sides u.live)) (sym f.1) (w.fits a)

    there_at : (a x : ℕ) (s : Terms) → IsThere new.sides new.units a x s → IsThere old.sides old.units a x s
    there_at a x s f = (f.0, before x a f.1, subst (λ (ss : List SideState). (side_of a ss).terms ≡ Some s) sides f.2)
