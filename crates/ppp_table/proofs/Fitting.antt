-- Each member fits its bundle, after a step as before.
use Rattle.std.proofs.Common.{◌≡◌, ◌⊎◌, ◌≤◌, ◌<◌, ◌-◌, ◌==◌, ◌||◌, ℕ, zero, suc, Bool, true, false, Option, None, Some, IfSome, is_some, List, [], ◌∷◌, ◌++◌, length, slice_get, slice_set, inl, inr, refl, ap, sym, subst, ◌∙◌, arith}
use Rattle.std.proofs.lemmas.Bool.Decides.{nat_tests}
use Rattle.std.specs.List.{AllByRecursion, filter}
use Rattle.std.specs.Prelude.{⊤, if◌then◌else◌, nat_lt, not}
use Rattle.ppp_base.specs.Mrru.{MrruPair}
use Rattle.ppp_secrets.specs.declared.secrets.SecretsPair.{SecretsPair}
use Rattle.ppp_unit_parts.specs.declared.live.Live.{Live}
use Rattle.ppp_unit_parts.specs.declared.member.Member.{Member}
use Rattle.ppp_unit_parts.specs.declared.outbox.BundleEnd.{BundleEnd}
use Rattle.ppp_unit_parts.specs.declared.outbox.Sending.{Sending}
use Rattle.ppp_unit_parts.specs.Member.{has_link, is_link, member, stay_of, with_member, without}
use Rattle.ppp_unit_parts.proofs.MemberFacts.{or_parts}
use Rattle.ppp_bundle.specs.Closing.{crowded_end, looked}
use Rattle.ppp_bundle.specs.declared.event.BundleEvent.{BundleEvent}
use Rattle.ppp_bundle.specs.declared.event.BundleEvent.TheVariants.{Make, In, Out, Frame, Datagram, Tick, HookOver}
use Rattle.ppp_bundle.specs.State.{UnitState, members_of}
use Rattle.ppp_bundle.specs.UnitPart.{UnitPart, after_event, left_of}
use Rattle.ppp_table_parts.specs.Key.{Terms}
use Rattle.ppp_table_parts.specs.Side.{SideState, with_frame, with_terms}
use Rattle.ppp_option_words.specs.LinkValues.{LinkValues}
use Rattle.ppp_table_parts.specs.Sides.{at_link, each_link, side_of}
use Rattle.ppp_table_parts.proofs.TermLemmas.{SameTerms, kept_at, kept_each, same_terms, terms_else, terms_there, then_same}
use Rattle.ppp_table.specs.Asking.{is_woken, woken_one}
use Rattle.ppp_table.specs.Fits.{AllFit, CameWith, Fits, FitsBy, HasSome, members_in}
use Rattle.ppp_table.specs.TableState.{TableState}
use Rattle.ppp_table.specs.Told.{News, before, end_for, is_new, news_of, posted, told, told_all, told_by, told_end, told_member}
use Rattle.ppp_table.specs.UnitStep.{IsQuiet, UnitStep}
use Rattle.ppp_table.proofs.Apart.{IsIn, IsNowhere, set_get}
use Rattle.ppp_table.proofs.Members.{From, ended_from, goes_by, joined, live_from, parted}

-- WITH WHICH TERMS LINKS CAME IN

told_end_same : (n : News) (stay : ℕ) (ended : Option BundleEnd) (side : SideState) → (told_end n stay ended side).terms ≡ side.terms
told_end_same n stay None side = refl
told_end_same n stay (Some e) side = refl

told_if : (b : Bool) (side other : SideState) → other.terms ≡ side.terms → (if b then other else side).terms ≡ side.terms
told_if true side other e = e
told_if false side other e = refl

told_same : (n : News) (link : ℕ) (after before : Option ℕ) (side : SideState) → (told_by n link after before side).terms ≡ side.terms
told_same n link (Some stay) before side = told_if (n.opened || is_new (stay_of link n.comes)) side _ refl
told_same n link None (Some stay) side = told_end_same n stay (end_for (is_new (stay_of link n.goes)) n.ended) _
told_same n link None None side = refl

told_terms : (n : News) (sides : List SideState) → SameTerms sides (told_all n sides)
told_terms n sides = kept_each (told n) sides (λ link side. told_same n link (stay_of link n.after) (stay_of link n.before) side)

posted_terms : (sent : List Sending) (sides : List SideState) → SameTerms sides (posted sent sides)
posted_terms [] sides = same_terms sides
posted_terms (s ∷ sent) sides =
    let next : List SideState = at_link s.link (with_frame (record { protocol = s.protocol; rejected = s.rejected }) s.information) sides in
    then_same sides next (posted sent next) (kept_at s.link (with_frame (record { protocol = s.protocol; rejected = s.rejected }) s.information) sides (λ side. refl)) (posted_terms sent next)

pub step_terms : {S : Type 0} (n : ℕ) (event : BundleEvent S) (old new : TableState S) → UnitStep n event old new → SameTerms old.sides new.sides
step_terms n event old new s link =
    ap (λ (sides : List SideState). (side_of link sides).terms) s.goes.told
    ∙ then_same old.sides (posted s.goes.is.sent old.sides) (told_all (news_of n (before s.was event) s.goes.is) (posted s.goes.is.sent old.sides)) (posted_terms s.goes.is.sent old.sides)
    (told_terms (news_of n (before s.was event) s.goes.is) (posted s.goes.is.sent old.sides)) link

pub woken_terms : (unit : ℕ) (links : List LinkValues) (sides : List SideState) → SameTerms sides (each_link (woken_one unit links) 1 sides)
woken_terms unit links sides = kept_each (woken_one unit links) sides (λ link side. told_if (is_woken unit link (slice_get links (link - 1))) side _ refl)

-- AMONG MEMBERS

all_map : {A : Type 0} {P Q : A → Type 0} → ((x : A) → P x → Q x) → (xs : List A) → AllByRecursion P xs → AllByRecursion Q xs
all_map f [] all = tt
all_map f (x ∷ xs) all = (f x all.0, all_map f xs all.1)

one_if : (P : Member → Type 0) (b : Bool) (m : Member) (left : List Member) → P m → AllByRecursion P left → AllByRecursion P (if b then m ∷ left else left)
one_if P true m left p all = (p, all)
one_if P false m left p all = all

all_filter : (P : Member → Type 0) (p : Member → Bool) (members : List Member) → AllByRecursion P members → AllByRecursion P (filter p members)
all_filter P p [] all = tt
all_filter P p (m ∷ members) all = one_if P (p m) m (filter p members) all.0 (all_filter P p members all.1)

all_both : (P : Member → Type 0) (a b : List Member) → AllByRecursion P a → AllByRecursion P b → AllByRecursion P (a ++ b)
all_both P [] b all rest = rest
all_both P (m ∷ a) b all rest = (all.0, all_both P a b all.1 rest)

all_with : (P : Member → Type 0) (m : Member) (members : List Member) → P m → AllByRecursion P members → AllByRecursion P (with_member m members)
all_with P m members p all =
    let lower : Member → Bool = λ (other : Member). nat_lt other.link m.link in
    let upper : Member → Bool = λ (other : Member). nat_lt m.link other.link in
    all_both P (filter lower members) (m ∷ filter upper members) (all_filter P lower members all) (p, all_filter P upper members all)

behind_some : (a b : List Member) (m : Member) → 1 ≤ length (a ++ m ∷ b)
behind_some [] b m = let f : 1 ≤ suc (length b) = grind arith in f
behind_some (x ∷ a) b m = let f : 1 ≤ suc (length (a ++ m ∷ b)) = grind arith in f

shorter_if : (b : Bool) (m : Member) (left members : List Member) → length left ≤ length members → length (if b then m ∷ left else left) ≤ length (m ∷ members)
shorter_if true m left members e = let f : suc (length left) ≤ suc (length members) = grind (arith, e) in f
shorter_if false m left members e = let f : length left ≤ suc (length members) = grind (arith, e) in f

shorter : (p : Member → Bool) (members : List Member) → length (filter p members) ≤ length members
shorter p [] = grind arith
shorter p (m ∷ members) = shorter_if (p m) m (filter p members) members (shorter p members)

-- OF ONE BUNDLE

moved : (old new : List SideState) (terms : Terms) → SameTerms old new → (m : Member) → CameWith old terms m → CameWith new terms m
moved old new terms f m c = (c.0, f m.link ∙ c.1)

by_sides : (old new : List SideState) → SameTerms old new → (o : Option MrruPair) (members : List Member) → FitsBy o old members → FitsBy o new members
by_sides old new f o members e = (e.0, e.1, all_map (moved old new (record { key = e.1; mrru = o }) f) members e.2)

pub fits_sides : (old new : List SideState) → SameTerms old new → (o : Option Live) → Fits old o → Fits new o
fits_sides old new f None fits = tt
fits_sides old new f (Some l) fits = by_sides old new f l.mrru l.members fits

pub fits_from : (sides : List SideState) (a b : Option Live) → From a b → Fits sides a → Fits sides b
fits_from sides a None f fits = tt
fits_from sides None (Some l) f fits = absurd f
fits_from sides (Some k) (Some l) f fits = rw (f.0, f.1) fits

-- where no link comes in or goes out
pub quiet_fits : {S : Type 0} (secrets : SecretsPair) (event : BundleEvent S) (was is : UnitState S) → UnitPart secrets event was is → IsQuiet event → (sides : List SideState) → Fits sides was.live → Fits sides is.live
quiet_fits {S = S} secrets event was is part quiet sides fits = fits_from sides was.live is.live (by_event event quiet (live_from secrets event was is part)) fits
  where
    by_event : (event : BundleEvent S) → IsQuiet event → From (goes_by event was.live) is.live → From was.live is.live
    by_event (Make number maker wish mrru allow) q f = absurd q
    by_event (In link stay mru) q f = absurd q
    by_event (Out link stay) q f = absurd q
    by_event (Frame link protocol information) q f = f
    by_event (Datagram datagram) q f = f
    by_event (Tick now) q f = f
    by_event (HookOver done) q f = f

-- where a member goes out: with the last one the bundle is unmade
count_left : (o : Option MrruPair) (link : ℕ) (members left : List Member) → without link members ≡ left → 1 ≤ length left → HasSome o members → HasSome o (without link members)
count_left None link members left e some one =
    let few : length (without link members) ≤ length members = shorter (λ m. not (is_link link m)) members in
    let more : 1 ≤ length (without link members) = rw e some in
    omega (arith, few, more, one)
count_left (Some mrru) link members left e some one = rw e some

parted_by : (sides : List SideState) (link : ℕ) (o : Option MrruPair) (members left : List Member) → without link members ≡ left → 1 ≤ length left → FitsBy o sides members → FitsBy o sides (without link members)
parted_by sides link o members left e some fits =
    (count_left o link members left e some fits.0, fits.1, all_filter (CameWith sides (record { key = fits.1; mrru = o })) (λ m. not (is_link link m)) members fits.2)

last_out : {S : Type 0} (l : Live) (secrets : SecretsPair) (link stay : ℕ) (packets : List (List ℕ)) (u : UnitState S) → without link l.members ≡ [] → (left_of (Some l) secrets link stay packets u).live ≡ None
last_out l secrets link stay packets u e = rw e refl

pub out_fits : {S : Type 0} (secrets : SecretsPair) (link stay : ℕ) (was is : UnitState S) → UnitPart secrets (Out link stay) was is → (sides : List SideState) → Fits sides was.live → Fits sides is.live
out_fits {S = S} secrets link stay was is part sides fits = by_live was.live refl
  where
    from : From (parted link was.live) is.live
    from = live_from secrets (Out link stay) was is part

    gone : (l : Live) → was.live ≡ Some l → without link l.members ≡ [] → From None is.live
    gone l e f =
        let u : UnitState S = record was { gather = part.gathered.gather; ended = None } in
        let v : UnitState S = after_event secrets (Out link stay) part.gathered.packets u in
        let none : v.live ≡ None = ap (λ (o : Option Live). (left_of o secrets link stay part.gathered.packets u).live) e ∙ last_out l secrets link stay part.gathered.packets u f in
        subst (λ (x : UnitState S). From None x.live) (sym part.after) (subst (λ (o : Option Live). From o (looked v).live) none (ended_from (crowded_end v.scripts.log.past) v))

    by_left : (l : Live) → was.live ≡ Some l → (left : List Member) → without link l.members ≡ left → Fits sides is.live
    by_left l e [] f = fits_from sides None is.live (gone l e f) tt
    by_left l e (m ∷ left) f =
        fits_from sides (parted link (Some l)) is.live (subst (λ (o : Option Live). From (parted link o) is.live) e from)
        (parted_by sides link l.mrru l.members (m ∷ left) f (let g : 1 ≤ suc (length left) = grind arith in g) (subst (λ (o : Option Live). Fits sides o) e fits))

    by_live : (o : Option Live) → was.live ≡ o → Fits sides is.live
    by_live None e = fits_from sides None is.live (subst (λ (o : Option Live). From (parted link o) is.live) e from) tt
    by_live (Some l) e = by_left l e (without link l.members) refl

-- where a link comes in: as a plain bundle's first, or with the terms of the others
abbrev pub Admits : Terms → List SideState → List Member → Type 0
Admits terms sides members = (terms.mrru ≡ None → members ≡ []) × AllByRecursion (CameWith sides terms) members

count_with : (o : Option MrruPair) (m : Member) (members : List Member) → (o ≡ None → members ≡ []) → HasSome o (with_member m members)
count_with None m members first = rw (first refl) refl
count_with (Some mrru) m members first = behind_some (filter (λ (other : Member). nat_lt other.link m.link) members) (filter (λ (other : Member). nat_lt m.link other.link) members) m

joined_by : (o : Option MrruPair) (terms : Terms) (sides : List SideState) (m : Member) (members : List Member) → terms.mrru ≡ o → Admits terms sides members → CameWith sides terms m → FitsBy o sides (with_member m members)
joined_by o terms sides m members e a c = (
  count_with o m members (λ f. a.0 (e ∙ f)),
  terms.key,
  subst (λ (o : Option MrruPair). AllByRecursion (CameWith sides (record { key = terms.key; mrru = o })) (with_member m members)) e (all_with (CameWith sides terms) m members c a.1),
)

pub in_fits : {S : Type 0} (secrets : SecretsPair) (link stay mru : ℕ) (was is : UnitState S) (l : Live) (terms : Terms) (sides : List SideState) → UnitPart secrets (In link stay mru) was is → was.live ≡ Some l
    → l.mrru ≡ terms.mrru → Admits terms sides l.members → CameWith sides terms (member link stay mru) → Fits sides is.live
in_fits {S = S} secrets link stay mru was is l terms sides part e same admits c =
    fits_from sides (joined link stay mru (Some l)) is.live (subst (λ (o : Option Live). From (joined link stay mru o) is.live) e (live_from secrets (In link stay mru) was is part))
    (joined_by l.mrru terms sides (member link stay mru) l.members (sym same) admits c)

-- OF ALL UNITS

pub if_map : {A : Type 0} {P Q : A → Type 0} (o : Option A) → ((x : A) → P x → Q x) → IfSome o P → IfSome o Q
if_map None f p = tt
if_map (Some x) f p = f x p

-- but for one of them
abbrev pub OthersFit : {S : Type 0} → ℕ → List SideState → List (UnitState S) → Type 0
OthersFit n sides units = (a : ℕ) → (a ≡ n → ⊥) → IfSome (slice_get units a) (λ u. Fits sides u.live)

units_of : {S : Type 0} (n : ℕ) (event : BundleEvent S) (old new : TableState S) → (s : UnitStep n event old new) → new.units ≡ slice_set old.units n s.now
units_of n event old new s = ap (λ t. t.units) s.after

pub fits_after : {S : Type 0} (n : ℕ) (event : BundleEvent S) (old new : TableState S) → (s : UnitStep n event old new) → OthersFit n old.sides old.units → Fits new.sides s.goes.is.live → AllFit new.sides new.units
fits_after {S = S} n event old new s others fits a = subst (λ (units : List (UnitState S)). IfSome (slice_get units a) (λ u. Fits new.sides u.live)) (sym (units_of n event old new s)) (by_place (set_get old.units n a s.now s.was s.there))
  where
    by_place : ((a ≡ n) × (slice_get (slice_set old.units n s.now) a ≡ Some s.now)) ⊎ ((a ≡ n → ⊥) × (slice_get (slice_set old.units n s.now) a ≡ slice_get old.units a))
        → IfSome (slice_get (slice_set old.units n s.now) a) (λ u. Fits new.sides u.live)
    by_place (inl f) = subst (λ (o : Option (UnitState S)). IfSome o (λ u. Fits new.sides u.live)) (sym f.1) (subst (λ (u : UnitState S). Fits new.sides u.live) (sym s.goes.emptied) fits)
    by_place (inr f) = subst (λ (o : Option (UnitState S)). IfSome o (λ u. Fits new.sides u.live)) (sym f.1)
        (if_map (slice_get old.units a) (λ u g. fits_sides old.sides new.sides (step_terms n event old new s) u.live g) (others a f.0))

pub others_after : {S : Type 0} (n : ℕ) (event : BundleEvent S) (old new : TableState S) → UnitStep n event old new → OthersFit n old.sides old.units → OthersFit n new.sides new.units
others_after {S = S} n event old new s others a apart = subst (λ (units : List (UnitState S)). IfSome (slice_get units a) (λ u. Fits new.sides u.live)) (sym (units_of n event old new s)) (by_place (set_get old.units n a s.now s.was s.there))
  where
    by_place : ((a ≡ n) × (slice_get (slice_set old.units n s.now) a ≡ Some s.now)) ⊎ ((a ≡ n → ⊥) × (slice_get (slice_set old.units n s.now) a ≡ slice_get old.units a))
        → IfSome (slice_get (slice_set old.units n s.now) a) (λ u. Fits new.sides u.live)
    by_place (inl f) = absurd (apart f.0)
    by_place (inr f) = subst (λ (o : Option (UnitState S)). IfSome o (λ u. Fits new.sides u.live)) (sym f.1)
        (if_map (slice_get old.units a) (λ u g. fits_sides old.sides new.sides (step_terms n event old new s) u.live g) (others a apart))

pub others_of : {S : Type 0} (n : ℕ) (sides : List SideState) (units : List (UnitState S)) → AllFit sides units → OthersFit n sides units
others_of n sides units all a apart = all a

was_fits : {S : Type 0} (n : ℕ) (event : BundleEvent S) (old new : TableState S) → (s : UnitStep n event old new) → AllFit old.sides old.units → Fits old.sides s.was.live
was_fits {S = S} n event old new s all = subst (λ (o : Option (UnitState S)). IfSome o (λ u. Fits old.sides u.live)) s.there (all n)

pub quiet_all : {S : Type 0} (n : ℕ) (event : BundleEvent S) (old new : TableState S) → UnitStep n event old new → IsQuiet event → AllFit old.sides old.units → AllFit new.sides new.units
quiet_all n event old new s quiet all =
    fits_after n event old new s (others_of n old.sides old.units all)
    (fits_sides old.sides new.sides (step_terms n event old new s) s.goes.is.live (quiet_fits old.secrets event s.was s.goes.is s.goes.part quiet old.sides (was_fits n event old new s all)))

pub out_all : {S : Type 0} (n link stay : ℕ) (old new : TableState S) → UnitStep n (Out link stay) old new → AllFit old.sides old.units → AllFit new.sides new.units
out_all n link stay old new s all =
    fits_after n (Out link stay) old new s (others_of n old.sides old.units all)
    (fits_sides old.sides new.sides (step_terms n (Out link stay) old new s) s.goes.is.live (out_fits old.secrets link stay s.was s.goes.is s.goes.part old.sides (was_fits n (Out link stay) old new s all)))

-- THE TERMS OF A LINK THAT IS NOWHERE

other_link : (m : Member) (link : ℕ) → is_link link m ≡ false → m.link ≡ link → ⊥
other_link m link e f = absurd (let g : (m.link == link) ≡ false = e in grind (arith, nat_tests))

pub else_all : (link : ℕ) (terms all : Terms) (sides : List SideState) → 1 ≤ link → (members : List Member) → has_link link members ≡ false
    → AllByRecursion (CameWith sides all) members → AllByRecursion (CameWith (at_link link (with_terms terms) sides) all) members
else_all link terms all sides low [] e came = tt
else_all link terms all sides low (m ∷ members) e came =
    let p : (is_link link m ≡ false) × (has_link link members ≡ false) = or_parts (is_link link m) (has_link link members) e in
    ((came.0.0, terms_else link m.link terms sides low came.0.0 (other_link m link p.0) ∙ came.0.1), else_all link terms all sides low members p.1 came.1)

pub not_true : (b : Bool) → (b ≡ true → ⊥) → b ≡ false
not_true true f = absurd (f refl)
not_true false f = refl

else_by : (link : ℕ) (terms : Terms) (sides : List SideState) → 1 ≤ link → (o : Option MrruPair) (members : List Member) → has_link link members ≡ false → FitsBy o sides members → FitsBy o (at_link link (with_terms terms) sides) members
else_by link terms sides low o members e fits = (fits.0, fits.1, else_all link terms (record { key = fits.1; mrru = o }) sides low members e fits.2)

else_live : (link : ℕ) (terms : Terms) (sides : List SideState) → 1 ≤ link → (o : Option Live) → has_link link (members_of o) ≡ false → Fits sides o → Fits (at_link link (with_terms terms) sides) o
else_live link terms sides low None e fits = tt
else_live link terms sides low (Some l) e fits = else_by link terms sides low l.mrru l.members e fits

pub with_terms_fit : {S : Type 0} (link : ℕ) (terms : Terms) (sides : List SideState) (units : List (UnitState S)) → 1 ≤ link → IsNowhere link units → AllFit sides units → AllFit (at_link link (with_terms terms) sides) units
with_terms_fit {S = S} link terms sides units low none all a = by_unit (slice_get units a) (none a) (all a)
  where
    by_unit : (o : Option (UnitState S)) → (has_link link (members_in o) ≡ true → ⊥) → IfSome o (λ u. Fits sides u.live) → IfSome o (λ u. Fits (at_link link (with_terms terms) sides) u.live)
    by_unit None f fits = tt
    by_unit (Some u) f fits = else_live link terms sides low u.live (not_true (has_link link (members_of u.live)) f) fits
