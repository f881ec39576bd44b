-- No link is in two bundles, and who has gone out is in none.
use Rattle.std.proofs.Common.{◌≡◌, ◌⊎◌, ◌≤◌, ◌<◌, ◌+◌, ◌-◌, ◌==◌, ◌||◌, ℕ, zero, suc, Bool, true, false, Option, None, Some, IfSome, is_some, List, [], ◌∷◌, ◌++◌, length, slice_get, slice_set, inl, inr, refl, ap, sym, subst, ◌∙◌, arith}
use Rattle.std.proofs.lemmas.Bool.Decides.{nat_tests}
use Rattle.std.specs.List.{filter}
use Rattle.std.specs.Prelude.{⊤, if◌then◌else◌, nat_lt, not}
use Rattle.ppp_unit_parts.specs.declared.live.Live.{Live}
use Rattle.ppp_unit_parts.specs.declared.member.Member.{Member}
use Rattle.ppp_unit_parts.specs.Member.{has_link, is_link, member, stay_of, with_member, without}
use Rattle.ppp_unit_parts.proofs.MemberFacts.{has_is_some, no_stay, stay_without}
use Rattle.ppp_bundle.specs.declared.event.BundleEvent.{BundleEvent}
use Rattle.ppp_bundle.specs.declared.event.BundleEvent.TheVariants.{Make, In, Out, Frame, Datagram, Tick, HookOver}
use Rattle.ppp_bundle.specs.State.{UnitState, members_of}
use Rattle.ppp_table.specs.declared.stays.Stay.{Stay}
use Rattle.ppp_table.specs.Fits.{AreApart, members_in}
use Rattle.ppp_table.specs.TableState.{TableState, some_stay, stay_from, stay_in, stay_or}
use Rattle.ppp_table.specs.UnitStep.{UnitGoes, UnitStep}
use Rattle.ppp_table.proofs.Members.{From, goes_by, joined, live_from, parted}

-- WHO IS AMONG MEMBERS

or_more : (a b c : Bool) → (b ≡ true → c ≡ true) → (a || b) ≡ true → (a || c) ≡ true
or_more true b c f e = refl
or_more false b c f e = f e

or_right : (a c : Bool) → c ≡ true → (a || c) ≡ true
or_right true c e = refl
or_right false c e = e

or_case : (a b : Bool) → (a || b) ≡ true → (a ≡ true) ⊎ (b ≡ true)
or_case true b e = inl refl
or_case false b e = inr e

one_kept : (b : Bool) (x : ℕ) (m : Member) (left members : List Member) → (has_link x left ≡ true → has_link x members ≡ true)
    → has_link x (if b then m ∷ left else left) ≡ true → has_link x (m ∷ members) ≡ true
one_kept true x m left members f e = or_more (is_link x m) (has_link x left) (has_link x members) f e
one_kept false x m left members f e = or_right (is_link x m) (has_link x members) (f e)

kept_has : (p : Member → Bool) (x : ℕ) (members : List Member) → has_link x (filter p members) ≡ true → has_link x members ≡ true
kept_has p x [] e = e
kept_has p x (m ∷ members) e = one_kept (p m) x m (filter p members) members (kept_has p x members) e

both_has : (x : ℕ) (a b : List Member) → has_link x (a ++ b) ≡ true → (has_link x a ≡ true) ⊎ (has_link x b ≡ true)
both_has x [] b e = inr e
both_has x (m ∷ a) b e = by_first (both_has x a b) (or_case (is_link x m) (has_link x (a ++ b)) e)
  where
    by_rest : (has_link x a ≡ true) ⊎ (has_link x b ≡ true) → (has_link x (m ∷ a) ≡ true) ⊎ (has_link x b ≡ true)
    by_rest (inl g) = inl (or_right (is_link x m) (has_link x a) g)
    by_rest (inr g) = inr g

    by_first : (has_link x (a ++ b) ≡ true → (has_link x a ≡ true) ⊎ (has_link x b ≡ true)) → (is_link x m ≡ true) ⊎ (has_link x (a ++ b) ≡ true)
        → (has_link x (m ∷ a) ≡ true) ⊎ (has_link x b ≡ true)
    by_first rest (inl f) = inl (rw f refl)
    by_first rest (inr f) = by_rest (rest f)

same_link : (a b : ℕ) → (a == b) ≡ true → b ≡ a
same_link a b e = grind (arith, nat_tests)

with_has : (m : Member) (x : ℕ) (members : List Member) → has_link x (with_member m members) ≡ true → (x ≡ m.link) ⊎ (has_link x members ≡ true)
with_has m x members e = by_part (both_has x lower (m ∷ upper) e)
  where
    lower : List Member
    lower = filter (λ (other : Member). nat_lt other.link m.link) members

    upper : List Member
    upper = filter (λ (other : Member). nat_lt m.link other.link) members

    by_part : (has_link x lower ≡ true) ⊎ (has_link x (m ∷ upper) ≡ true) → (x ≡ m.link) ⊎ (has_link x members ≡ true)
    by_part (inl f) = inr (kept_has (λ (other : Member). nat_lt other.link m.link) x members f)
    by_part (inr f) = by_upper (or_case (is_link x m) (has_link x upper) f)
      where
        by_upper : (is_link x m ≡ true) ⊎ (has_link x upper ≡ true) → (x ≡ m.link) ⊎ (has_link x members ≡ true)
        by_upper (inl g) = inl (same_link m.link x g)
        by_upper (inr g) = inr (kept_has (λ (other : Member). nat_lt m.link other.link) x members g)

gone_from : (b : Bool) (o : Option ℕ) → b ≡ true → is_some (if b then None else o) ≡ false
gone_from true o e = refl
gone_from false o e = absurd (let f : false ≡ true = e in cc)

self_gone : (link : ℕ) (members : List Member) → has_link link (without link members) ≡ false
self_gone link members = has_is_some link (without link members) ∙ ap (λ (o : Option ℕ). is_some o) (stay_without link link members) ∙ gone_from (link == link) (stay_of link members) (grind (arith, nat_tests))

-- WHO IS AMONG THOSE OF A UNIT AFTER AN EVENT

-- the link that comes in
abbrev pub Comes : {S : Type 0} → BundleEvent S → ℕ → Type 0
Comes (In link stay mru) x = x ≡ link
Comes (Make number maker wish mrru allow) x = ⊥
Comes (Out link stay) x = ⊥
Comes (Frame link protocol information) x = ⊥
Comes (Datagram datagram) x = ⊥
Comes (Tick now) x = ⊥
Comes (HookOver done) x = ⊥

none_there : {A : Type 0} → false ≡ true → A
none_there e = absurd (let f : false ≡ true = e in cc)

from_has : (a b : Option Live) (x : ℕ) → From a b → has_link x (members_of b) ≡ true → has_link x (members_of a) ≡ true
from_has a None x f e = none_there e
from_has None (Some l) x f e = absurd f
from_has (Some k) (Some l) x f e = rw f.0 at e

joined_has : (link stay mru x : ℕ) (o : Option Live) → has_link x (members_of (joined link stay mru o)) ≡ true → (has_link x (members_of o) ≡ true) ⊎ (x ≡ link)
joined_has link stay mru x None e = none_there e
joined_has link stay mru x (Some l) e = flip (with_has (member link stay mru) x l.members e)
  where
    flip : (x ≡ link) ⊎ (has_link x l.members ≡ true) → (has_link x l.members ≡ true) ⊎ (x ≡ link)
    flip (inl f) = inr f
    flip (inr f) = inl f

parted_has : (link x : ℕ) (o : Option Live) → has_link x (members_of (parted link o)) ≡ true → has_link x (members_of o) ≡ true
parted_has link x None e = e
parted_has link x (Some l) e = kept_has (λ m. not (is_link link m)) x l.members e

parted_self : (link : ℕ) (o : Option Live) → has_link link (members_of (parted link o)) ≡ true → ⊥
parted_self link None e = none_there e
parted_self link (Some l) e = none_there (sym (self_gone link l.members) ∙ e)

event_has : {S : Type 0} (event : BundleEvent S) (x : ℕ) (o : Option Live) → has_link x (members_of (goes_by event o)) ≡ true → (has_link x (members_of o) ≡ true) ⊎ Comes event x
event_has (Make number maker wish mrru allow) x o e = none_there e
event_has (In link stay mru) x o e = joined_has link stay mru x o e
event_has (Out link stay) x o e = inl (parted_has link x o e)
event_has (Frame link protocol information) x o e = inl e
event_has (Datagram datagram) x o e = inl e
event_has (Tick now) x o e = inl e
event_has (HookOver done) x o e = inl e

-- WHO IS IN WHICH UNIT AFTER A STEP

pub set_get : {A : Type 0} (xs : List A) (n a : ℕ) (y z : A) → slice_get xs n ≡ Some z
    → ((a ≡ n) × (slice_get (slice_set xs n y) a ≡ Some y)) ⊎ ((a ≡ n → ⊥) × (slice_get (slice_set xs n y) a ≡ slice_get xs a))
set_get [] n a y z e = absurd (let f : None ≡ Some z = e in cc)
set_get (x ∷ xs) zero zero y z e = inl (refl, refl)
set_get (x ∷ xs) zero (suc a) y z e = inr ((λ f. absurd (grind (arith, f))), refl)
set_get (x ∷ xs) (suc n) zero y z e = inr ((λ f. absurd (grind (arith, f))), refl)
set_get (x ∷ xs) (suc n) (suc a) y z e = up (set_get xs n a y z e)
  where
    up : ((a ≡ n) × (slice_get (slice_set xs n y) a ≡ Some y)) ⊎ ((a ≡ n → ⊥) × (slice_get (slice_set xs n y) a ≡ slice_get xs a))
        → ((suc a ≡ suc n) × (slice_get (slice_set xs n y) a ≡ Some y)) ⊎ ((suc a ≡ suc n → ⊥) × (slice_get (slice_set xs n y) a ≡ slice_get xs a))
    up (inl f) = inl (ap suc f.0, f.1)
    up (inr f) = inr ((λ g. f.0 (let h : suc a ≡ suc n = g in grind (arith, h))), f.1)

abbrev pub IsIn : {S : Type 0} → (link unit : ℕ) → List (UnitState S) → Type 0
IsIn link unit units = has_link link (members_in (slice_get units unit)) ≡ true

-- who is in the unit of the step, and who is in another
step_has : {S : Type 0} (n : ℕ) (event : BundleEvent S) (old new : TableState S) → (s : UnitStep n event old new) → (x a : ℕ) → IsIn x a new.units
    → ((a ≡ n) × (has_link x (members_of (goes_by event s.was.live)) ≡ true)) ⊎ ((a ≡ n → ⊥) × IsIn x a old.units)
step_has {S = S} n event old new s x a e =
    by_place (set_get old.units n a s.now s.was s.there) (subst (λ (units : List (UnitState S)). IsIn x a units) (ap (λ (t : TableState S). t.units) s.after) e)
  where
    by_place : ((a ≡ n) × (slice_get (slice_set old.units n s.now) a ≡ Some s.now)) ⊎ ((a ≡ n → ⊥) × (slice_get (slice_set old.units n s.now) a ≡ slice_get old.units a))
        → IsIn x a (slice_set old.units n s.now) → ((a ≡ n) × (has_link x (members_of (goes_by event s.was.live)) ≡ true)) ⊎ ((a ≡ n → ⊥) × IsIn x a old.units)
    by_place (inl f) g =
        let here : has_link x (members_of s.now.live) ≡ true = subst (λ (o : Option (UnitState S)). has_link x (members_in o) ≡ true) f.1 g in
        let is : has_link x (members_of s.goes.is.live) ≡ true = subst (λ (u : UnitState S). has_link x (members_of u.live) ≡ true) s.goes.emptied here in
        inl (f.0, from_has (goes_by event s.was.live) s.goes.is.live x (live_from old.secrets event s.was s.goes.is s.goes.part) is)
    by_place (inr f) g = inr (f.0, subst (λ (o : Option (UnitState S)). has_link x (members_in o) ≡ true) f.1 g)

was_in : {S : Type 0} (n : ℕ) (event : BundleEvent S) (old new : TableState S) → (s : UnitStep n event old new) → (x a : ℕ) → a ≡ n → has_link x (members_of s.was.live) ≡ true → IsIn x a old.units
was_in {S = S} n event old new s x a e f = rw e (subst (λ (o : Option (UnitState S)). has_link x (members_in o) ≡ true) (sym s.there) f)

-- Who is in a unit after a step was there before, or comes in there.
pub after_has : {S : Type 0} (n : ℕ) (event : BundleEvent S) (old new : TableState S) → UnitStep n event old new → (x a : ℕ) → IsIn x a new.units → IsIn x a old.units ⊎ ((a ≡ n) × Comes event x)
after_has {S = S} n event old new s x a e = by_part (step_has n event old new s x a e)
  where
    by_part : ((a ≡ n) × (has_link x (members_of (goes_by event s.was.live)) ≡ true)) ⊎ ((a ≡ n → ⊥) × IsIn x a old.units) → IsIn x a old.units ⊎ ((a ≡ n) × Comes event x)
    by_part (inr f) = inl f.1
    by_part (inl f) = by_event (event_has event x s.was.live f.1)
      where
        by_event : (has_link x (members_of s.was.live) ≡ true) ⊎ Comes event x → IsIn x a old.units ⊎ ((a ≡ n) × Comes event x)
        by_event (inl g) = inl (was_in n event old new s x a f.0 g)
        by_event (inr g) = inr (f.0, g)

-- A link that comes in is nowhere before.
abbrev pub ComesApart : {S : Type 0} → BundleEvent S → TableState S → Type 0
ComesApart event t = (x a : ℕ) → Comes event x → IsIn x a t.units → ⊥

pub apart_after : {S : Type 0} (n : ℕ) (event : BundleEvent S) (old new : TableState S) → UnitStep n event old new → AreApart old.units → ComesApart event old → AreApart new.units
apart_after n event old new s apart comes a b x e f = by_parts (after_has n event old new s x a e) (after_has n event old new s x b f)
  where
    by_parts : IsIn x a old.units ⊎ ((a ≡ n) × Comes event x) → IsIn x b old.units ⊎ ((b ≡ n) × Comes event x) → a ≡ b
    by_parts (inl g) (inl h) = apart a b x g h
    by_parts (inl g) (inr h) = absurd (comes x a h.1 g)
    by_parts (inr g) (inl h) = absurd (comes x b g.1 h)
    by_parts (inr g) (inr h) = g.0 ∙ sym h.0

-- WHERE A LINK IS

-- it is nowhere
abbrev pub IsNowhere : {S : Type 0} → ℕ → List (UnitState S) → Type 0
IsNowhere link units = (a : ℕ) → IsIn link a units → ⊥

not_true : (b : Bool) → (b ≡ true → ⊥) → b ≡ false
not_true true f = absurd (f refl)
not_true false f = refl

pub no_stay_in : {S : Type 0} (unit link : ℕ) (units : List (UnitState S)) → IsNowhere link units → stay_from unit link units ≡ None
no_stay_in unit link [] none = refl
no_stay_in unit link (u ∷ units) none =
    rw (no_stay link (members_of u.live) (not_true (has_link link (members_of u.live)) (none 0))) (no_stay_in (unit + 1) link units (λ a. none (suc a)))

-- what is found
abbrev pub IsAt : {S : Type 0} → (unit link : ℕ) → Stay → List (UnitState S) → Type 0
IsAt unit link s units = (unit ≤ s.unit) × IfSome (slice_get units (s.unit - unit)) (λ u. stay_of link (members_of u.live) ≡ Some s.stay) × IsIn link (s.unit - unit) units

stay_at : {S : Type 0} (o : Option ℕ) (unit link : ℕ) (s : Stay) (u : UnitState S) (units : List (UnitState S)) → stay_of link (members_of u.live) ≡ o
    → stay_or o unit (stay_from (unit + 1) link units) ≡ Some s → (stay_from (unit + 1) link units ≡ Some s → IsAt (unit + 1) link s units) → IsAt unit link s (u ∷ units)
stay_at (Some stay) unit link s u units e f rest =
    let is : some_stay unit stay ≡ s = (let g : Some (some_stay unit stay) ≡ Some s = f in cc) in
    let none : unit - unit ≡ 0 = omega arith in
    rw (← is) (rw none (omega arith, e, has_is_some link (members_of u.live) ∙ ap (λ (o : Option ℕ). is_some o) e))
stay_at None unit link s u units e f rest =
    let r : IsAt (unit + 1) link s units = rest f in
    let le : unit + 1 ≤ s.unit = r.0 in
    let place : s.unit - unit ≡ suc (s.unit - (unit + 1)) = omega (arith, le) in
    (omega (arith, le), rw place r.1, rw place r.2)

pub found_at : {S : Type 0} (unit link : ℕ) (s : Stay) (units : List (UnitState S)) → stay_from unit link units ≡ Some s → IsAt unit link s units
found_at unit link s [] e = absurd (let f : None ≡ Some s = e in cc)
found_at unit link s (u ∷ units) e = stay_at (stay_of link (members_of u.live)) unit link s u units refl e (found_at (unit + 1) link s units)

nowhere_by : {S : Type 0} (o : Option ℕ) (unit link : ℕ) (u : UnitState S) (units : List (UnitState S)) → stay_of link (members_of u.live) ≡ o → stay_or o unit (stay_from (unit + 1) link units) ≡ None
    → (has_link link (members_of u.live) ≡ true → ⊥) × (stay_from (unit + 1) link units ≡ None)
nowhere_by (Some stay) unit link u units e f = absurd (let g : Some (some_stay unit stay) ≡ None = f in cc)
nowhere_by None unit link u units e f = ((λ g. none_there (sym (has_is_some link (members_of u.live) ∙ ap (λ (o : Option ℕ). is_some o) e) ∙ g)), f)

pub nowhere : {S : Type 0} (unit link : ℕ) (units : List (UnitState S)) → stay_from unit link units ≡ None → IsNowhere link units
nowhere unit link [] e a f = none_there f
nowhere unit link (u ∷ units) e zero f = (nowhere_by (stay_of link (members_of u.live)) unit link u units refl e).0 f
nowhere unit link (u ∷ units) e (suc a) f = nowhere (unit + 1) link units (nowhere_by (stay_of link (members_of u.live)) unit link u units refl e).1 a f

pub found_there : {S : Type 0} (s : Stay) (link : ℕ) (t : TableState S) → stay_in link t ≡ Some s
    → IfSome (slice_get t.units s.unit) (λ u. stay_of link (members_of u.live) ≡ Some s.stay) × IsIn link s.unit t.units
found_there s link t e =
    let at : IsAt 0 link s t.units = found_at 0 link s t.units e in
    let none : s.unit ≡ s.unit - 0 = omega arith in
    (subst (λ (k : ℕ). IfSome (slice_get t.units k) (λ u. stay_of link (members_of u.live) ≡ Some s.stay)) (sym none) at.1, subst (λ (k : ℕ). IsIn link k t.units) (sym none) at.2)

-- Who goes out is in no unit then.
pub gone_after : {S : Type 0} (s : Stay) (link : ℕ) (old new : TableState S) → stay_in link old ≡ Some s → UnitStep s.unit (Out link s.stay) old new → AreApart old.units → stay_in link new ≡ None
gone_after {S = S} s link old new e step apart = no_stay_in 0 link new.units none
  where
    there : IsIn link s.unit old.units
    there = (found_there s link old e).1

    none : IsNowhere link new.units
    none a f = by_part (step_has s.unit (Out link s.stay) old new step link a f)
      where
        by_part : ((a ≡ s.unit) × (has_link link (members_of (parted link step.was.live)) ≡ true)) ⊎ ((a ≡ s.unit → ⊥) × IsIn link a old.units) → ⊥
        by_part (inl g) = parted_self link step.was.live g.1
        by_part (inr g) = g.0 (apart a s.unit link g.1 there)
