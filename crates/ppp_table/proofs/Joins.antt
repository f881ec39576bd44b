-- What a verdict says of its unit, and that the link may then come in.
use Rattle.std.proofs.Common.{◌≡◌, ◌⊎◌, ◌≤◌, ◌<◌, ◌+◌, ◌-◌, ℕ, zero, suc, Bool, true, false, Option, None, Some, IfSome, is_some, List, [], ◌∷◌, length, slice_get, slice_set, inl, inr, refl, ap, sym, subst, ◌∙◌, arith}
use Rattle.std.proofs.lemmas.Bool.Decides.{nat_tests}
use Rattle.std.specs.Prelude.{if◌then◌else◌, nat_lt}
use Rattle.ppp_base.specs.Mrru.{MrruPair}
use Rattle.ppp_base.specs.declared.allow.Allow.{Allow}
use Rattle.ppp_base.specs.declared.posts.Refusal.TheVariants.{Unlike, UnitTaken, NoRoom}
use Rattle.ppp_unit_parts.specs.declared.live.Live.{Live}
use Rattle.ppp_unit_parts.specs.declared.wish.UnitWish.{UnitWish}
use Rattle.ppp_unit_parts.specs.Live.{new_live}
use Rattle.ppp_unit_parts.specs.Member.{has_link}
use Rattle.ppp_bundle.specs.declared.event.BundleEvent.TheVariants.{Make, In}
use Rattle.ppp_bundle.specs.MayStand.{mrru_of}
use Rattle.ppp_bundle.specs.State.{UnitState, members_of}
use Rattle.ppp_bundle.specs.UnitPart.{MayEnter}
use Rattle.ppp_table_parts.specs.Key.{Key, Terms}
use Rattle.ppp_table.specs.declared.verdict.Verdict.{Verdict}
use Rattle.ppp_table.specs.declared.verdict.Verdict.TheVariants.{Joins, Makes, Refuses}
use Rattle.ppp_table.specs.Fits.{members_in}
use Rattle.ppp_table.specs.TableState.{TableState, stay_in}
use Rattle.ppp_table.specs.UnitStep.{UnitStep}
use Rattle.ppp_table.specs.Asking.{asked_by}
use Rattle.ppp_table.specs.Verdicts.{alike_from, asked, by_alike, by_asked, by_mrru, free_from, has_bundle, has_mrru, makes, makes_in, mrru_in, room_in, verdict}
use Rattle.ppp_table.proofs.Apart.{IsIn, IsNowhere, after_has, nowhere}
use Rattle.ppp_table.proofs.Members.{made_lives}

-- WHAT A VERDICT SAYS

makes_no_join : (b : Bool) (unit other : ℕ) → (if b then Refuses NoRoom else Makes unit) ≡ Joins other → ⊥
makes_no_join true unit other e = absurd (let f : Refuses NoRoom ≡ Joins other = e in cc)
makes_no_join false unit other e = absurd (let f : Makes unit ≡ Joins other = e in cc)

makes_in_no_join : {S : Type 0} (o : Option ℕ) (t : TableState S) (other : ℕ) → makes_in o t ≡ Joins other → ⊥
makes_in_no_join None t other e = absurd (let f : Refuses NoRoom ≡ Joins other = e in cc)
makes_in_no_join (Some unit) t other e = makes_no_join (nat_lt (room_in (slice_get t.units unit)) 1024) unit other e

pub asked_no_join : {S : Type 0} (o : Option ℕ) (t : TableState S) (other : ℕ) → by_asked o t ≡ Joins other → ⊥
asked_no_join None t other e = makes_in_no_join (free_from 0 t.units) t other e
asked_no_join (Some unit) t other e = by_has (has_bundle (slice_get t.units unit)) e
  where
    by_has : (b : Bool) → (if b then Refuses UnitTaken else makes unit t) ≡ Joins other → ⊥
    by_has true f = absurd (let g : Refuses UnitTaken ≡ Joins other = f in cc)
    by_has false f = makes_no_join (nat_lt (room_in (slice_get t.units unit)) 1024) unit other f

has_some : (mrru : MrruPair) (o : Option MrruPair) → has_mrru mrru o ≡ true → is_some o ≡ true
has_some mrru None e = e
has_some mrru (Some m) e = refl

alike_joins : {S : Type 0} (mrru : MrruPair) (o : Option ℕ) (link : ℕ) (t : TableState S) (unit : ℕ) → by_alike mrru o link t ≡ Joins unit → is_some (mrru_in (slice_get t.units unit)) ≡ true
alike_joins mrru None link t unit e = absurd (asked_no_join (asked link (slice_get t.links (link - 1))) t unit e)
alike_joins mrru (Some other) link t unit e = by_has (has_mrru mrru (mrru_in (slice_get t.units other))) refl e
  where
    by_has : (b : Bool) → has_mrru mrru (mrru_in (slice_get t.units other)) ≡ b → (if b then Joins other else Refuses Unlike) ≡ Joins unit → is_some (mrru_in (slice_get t.units unit)) ≡ true
    by_has true f g = let same : other ≡ unit = (let h : Joins other ≡ Joins unit = g in cc) in rw (← same) (has_some mrru (mrru_in (slice_get t.units other)) f)
    by_has false f g = absurd (let h : Refuses Unlike ≡ Joins unit = g in cc)

mrru_joins : {S : Type 0} (o : Option MrruPair) (key : Key) (link : ℕ) (t : TableState S) (unit : ℕ) → by_mrru o key link t ≡ Joins unit → is_some (mrru_in (slice_get t.units unit)) ≡ true
mrru_joins None key link t unit e = absurd (asked_no_join (asked link (slice_get t.links (link - 1))) t unit e)
mrru_joins (Some mrru) key link t unit e = alike_joins mrru (alike_from 0 key t.sides t.units) link t unit e

pub joins_multilink : {S : Type 0} (told : Verdict) (link unit : ℕ) (terms : Terms) (t : TableState S) → told ≡ verdict link terms t → told ≡ Joins unit → is_some (mrru_in (slice_get t.units unit)) ≡ true
joins_multilink told link unit terms t e f = mrru_joins terms.mrru terms.key link t unit (sym e ∙ f)

-- it is made in a unit without a bundle whose log has room
abbrev pub IsFree : {S : Type 0} → ℕ → TableState S → Type 0
IsFree unit t = (has_bundle (slice_get t.units unit) ≡ false) × (1024 ≤ room_in (slice_get t.units unit))

room_by : (b : Bool) (n unit other : ℕ) → nat_lt n 1024 ≡ b → (if b then Refuses NoRoom else Makes unit) ≡ Makes other → (unit ≡ other) × (1024 ≤ n)
room_by true n unit other e f = absurd (let g : Refuses NoRoom ≡ Makes other = f in cc)
room_by false n unit other e f = ((let g : Makes unit ≡ Makes other = f in cc), grind (arith, nat_tests))

makes_free : {S : Type 0} (unit other : ℕ) (t : TableState S) → has_bundle (slice_get t.units unit) ≡ false → makes unit t ≡ Makes other → IsFree other t
makes_free {S = S} unit other t free e =
    let r : (unit ≡ other) × (1024 ≤ room_in (slice_get t.units unit)) = room_by (nat_lt (room_in (slice_get t.units unit)) 1024) (room_in (slice_get t.units unit)) unit other refl e in
    subst (λ (k : ℕ). IsFree k t) r.0 (free, r.1)

free_is : {S : Type 0} (unit n : ℕ) (units : List (UnitState S)) → free_from unit units ≡ Some n → (unit ≤ n) × (has_bundle (slice_get units (n - unit)) ≡ false)
free_is unit n [] e = absurd (let f : None ≡ Some n = e in cc)
free_is {S = S} unit n (u ∷ units) e = by_live (is_some u.live) refl e (free_is (unit + 1) n units)
  where
    by_live : (b : Bool) → is_some u.live ≡ b → (if b then free_from (unit + 1) units else Some unit) ≡ Some n
        → (free_from (unit + 1) units ≡ Some n → (unit + 1 ≤ n) × (has_bundle (slice_get units (n - (unit + 1))) ≡ false)) → (unit ≤ n) × (has_bundle (slice_get (u ∷ units) (n - unit)) ≡ false)
    by_live true f g rest =
        let r : (unit + 1 ≤ n) × (has_bundle (slice_get units (n - (unit + 1))) ≡ false) = rest g in
        let le : unit + 1 ≤ n = r.0 in
        let place : n - unit ≡ suc (n - (unit + 1)) = omega (arith, le) in
        (omega (arith, le), rw place r.1)
    by_live false f g rest =
        let same : unit ≡ n = (let h : Some unit ≡ Some n = g in cc) in
        let place : n - unit ≡ 0 = omega (arith, same) in
        (omega (arith, same), rw place f)

asked_makes : {S : Type 0} (o : Option ℕ) (t : TableState S) (other : ℕ) → by_asked o t ≡ Makes other → IsFree other t
asked_makes {S = S} None t other e = by_free (free_from 0 t.units) refl e
  where
    by_free : (o : Option ℕ) → free_from 0 t.units ≡ o → makes_in o t ≡ Makes other → IsFree other t
    by_free None f g = absurd (let h : Refuses NoRoom ≡ Makes other = g in cc)
    by_free (Some n) f g =
        let r : (0 ≤ n) × (has_bundle (slice_get t.units (n - 0)) ≡ false) = free_is 0 n t.units f in
        let place : n - 0 ≡ n = omega arith in
        makes_free n other t (subst (λ (k : ℕ). has_bundle (slice_get t.units k) ≡ false) place r.1) g
asked_makes {S = S} (Some unit) t other e = by_has (has_bundle (slice_get t.units unit)) refl e
  where
    by_has : (b : Bool) → has_bundle (slice_get t.units unit) ≡ b → (if b then Refuses UnitTaken else makes unit t) ≡ Makes other → IsFree other t
    by_has true f g = absurd (let h : Refuses UnitTaken ≡ Makes other = g in cc)
    by_has false f g = makes_free unit other t f g

alike_makes : {S : Type 0} (mrru : MrruPair) (o : Option ℕ) (link : ℕ) (t : TableState S) (unit : ℕ) → by_alike mrru o link t ≡ Makes unit → IsFree unit t
alike_makes mrru None link t unit e = asked_makes (asked link (slice_get t.links (link - 1))) t unit e
alike_makes {S = S} mrru (Some other) link t unit e = by_has (has_mrru mrru (mrru_in (slice_get t.units other))) e
  where
    by_has : (b : Bool) → (if b then Joins other else Refuses Unlike) ≡ Makes unit → IsFree unit t
    by_has true g = absurd (let h : Joins other ≡ Makes unit = g in cc)
    by_has false g = absurd (let h : Refuses Unlike ≡ Makes unit = g in cc)

mrru_makes : {S : Type 0} (o : Option MrruPair) (key : Key) (link : ℕ) (t : TableState S) (unit : ℕ) → by_mrru o key link t ≡ Makes unit → IsFree unit t
mrru_makes None key link t unit e = asked_makes (asked link (slice_get t.links (link - 1))) t unit e
mrru_makes (Some mrru) key link t unit e = alike_makes mrru (alike_from 0 key t.sides t.units) link t unit e

pub makes_where_free : {S : Type 0} (told : Verdict) (link unit : ℕ) (terms : Terms) (t : TableState S) → told ≡ verdict link terms t → told ≡ Makes unit → IsFree unit t
makes_where_free told link unit terms t e f = mrru_makes terms.mrru terms.key link t unit (sym e ∙ f)

-- THE LINK MAY COME IN

no_none : {A : Type 0} (o : Option A) → is_some o ≡ true → o ≡ None → ⊥
no_none None e f = absurd (let g : false ≡ true = e in cc)
no_none (Some a) e f = absurd (let g : Some a ≡ None = f in cc)

no_true : (b : Bool) → (b ≡ true → ⊥) → b ≡ false
no_true true f = absurd (f refl)
no_true false f = refl

may_by : (o : Option Live) (link mru : ℕ) → is_some (mrru_of o) ≡ true → (has_link link (members_of o) ≡ true → ⊥) → 128 ≤ mru → mru ≤ 1500 → MayEnter o link mru
may_by None link mru e f low high = absurd (let g : false ≡ true = e in cc)
may_by (Some l) link mru e f low high = ((λ g. absurd (no_none l.mrru e g)), no_true (has_link link l.members) f, low, high)

pub may_join : {S : Type 0} (o : Option (UnitState S)) (link mru : ℕ) → is_some (mrru_in o) ≡ true → (has_link link (members_in o) ≡ true → ⊥) → 128 ≤ mru → mru ≤ 1500
    → IfSome o (λ u. MayEnter u.live link mru)
may_join None link mru e f low high = tt
may_join (Some u) link mru e f low high = may_by u.live link mru e f low high

pub set_there : {A : Type 0} (xs : List A) (n : ℕ) (y z : A) → slice_get xs n ≡ Some z → slice_get (slice_set xs n y) n ≡ Some y
set_there [] n y z e = absurd (let f : None ≡ Some z = e in cc)
set_there (x ∷ xs) zero y z e = refl
set_there (x ∷ xs) (suc n) y z e = set_there xs n y z e

pub may_enter_made : {S : Type 0} (unit number maker link mru : ℕ) (wish : UnitWish) (mrru : Option MrruPair) (allow : Allow) (old mid : TableState S)
    → UnitStep unit (Make number maker wish mrru allow) old mid → 128 ≤ mru → mru ≤ 1500 → IfSome (slice_get mid.units unit) (λ u. MayEnter u.live link mru)
may_enter_made {S = S} unit number maker link mru wish mrru allow old mid s low high =
    let here : slice_get mid.units unit ≡ Some s.now = ap (λ (t : TableState S). slice_get t.units unit) s.after ∙ set_there old.units unit s.now s.was s.there in
    let lives : s.now.live ≡ Some (new_live number (length s.was.scripts.log.past) wish mrru allow)
    = ap (λ (u : UnitState S). u.live) s.goes.emptied ∙ made_lives old.secrets number maker wish mrru allow s.was s.goes.is s.goes.part in
    subst (λ (o : Option (UnitState S)). IfSome o (λ u. MayEnter u.live link mru)) (sym here)
    (subst (λ (o : Option Live). MayEnter o link mru) (sym lives) ((λ g. refl), refl, low, high))

-- a link that is nowhere is nowhere once a bundle is made
pub nowhere_made : {S : Type 0} (unit number maker link : ℕ) (wish : UnitWish) (mrru : Option MrruPair) (allow : Allow) (old mid : TableState S)
    → UnitStep unit (Make number maker wish mrru allow) old mid → stay_in link old ≡ None → IsNowhere link mid.units
nowhere_made {S = S} unit number maker link wish mrru allow old mid s none a e = by_part (after_has unit (Make number maker wish mrru allow) old mid s link a e)
  where
    by_part : IsIn link a old.units ⊎ ((a ≡ unit) × ⊥) → ⊥
    by_part (inl f) = nowhere 0 link old.units none a f
    by_part (inr f) = f.1
