-- Members that came in with multilink and one key are in one bundle.
use Rattle.std.proofs.Common.{◌≡◌, ◌⊎◌, ◌↔◌, ◌≤◌, ◌<◌, ◌+◌, ◌-◌, ◌==◌, ◌||◌, ℕ, zero, suc, Bool, true, false, Option, None, Some, IfSome, is_some, List, [], ◌∷◌, length, slice_get, slice_set, inl, inr, refl, ap, sym, subst, ◌∙◌, arith}
use Rattle.std.proofs.lemmas.Bool.Decides.{nat_tests}
use Rattle.std.specs.List.{AllByRecursion}
use Rattle.std.specs.Prelude.{if◌then◌else◌}
use Rattle.ppp_base.specs.Mrru.{MrruPair}
use Rattle.ppp_base.specs.declared.allow.Allow.{Allow}
use Rattle.ppp_unit_parts.specs.declared.wish.UnitWish.{UnitWish}
use Rattle.ppp_base.specs.declared.posts.Refusal.TheVariants.{Unlike}
use Rattle.ppp_unit_parts.specs.declared.live.Live.{Live}
use Rattle.ppp_unit_parts.specs.declared.member.Member.{Member}
use Rattle.ppp_unit_parts.specs.Member.{has_link, is_link}
use Rattle.ppp_bundle.specs.declared.event.BundleEvent.{BundleEvent}
use Rattle.ppp_bundle.specs.declared.event.BundleEvent.TheVariants.{Make, In}
use Rattle.ppp_bundle.specs.MayStand.{mrru_of}
use Rattle.ppp_bundle.specs.State.{UnitState, members_of}
use Rattle.ppp_table_parts.specs.Key.{Key, Terms}
use Rattle.ppp_table_parts.specs.Side.{SideState, with_terms}
use Rattle.ppp_table_parts.specs.Sides.{at_link, side_of}
use Rattle.ppp_table_parts.proofs.TermLemmas.{SameTerms, key_same, terms_else, terms_there}
use Rattle.ppp_table.specs.declared.verdict.Verdict.TheVariants.{Joins, Makes, Refuses}
use Rattle.ppp_table.specs.Fits.{AllFit, AreTogether, CameWith, Fits, HasSome, IsThere, IsWhole, members_in}
use Rattle.ppp_table.specs.PostPart.{with_terms_at}
use Rattle.ppp_table.specs.TableState.{TableState}
use Rattle.ppp_table.specs.UnitStep.{UnitStep}
use Rattle.ppp_table.specs.Verdicts.{alike_from, by_alike, by_mrru, first_has, has_mrru, has_terms, is_of, mrru_in, verdict}
use Rattle.ppp_table.proofs.Apart.{Comes, IsIn, IsNowhere, after_has}
use Rattle.ppp_table.proofs.Entering.{JoinsBy, same_terms_of}
use Rattle.ppp_table.proofs.Fitting.{step_terms}

-- WHO WAS THERE BEFORE

there_before : {S : Type 0} (n : ℕ) (event : BundleEvent S) (old new : TableState S) → UnitStep n event old new → ((x : ℕ) → Comes event x → ⊥) → (a x : ℕ) (s : Terms)
    → IsThere new.sides new.units a x s → IsThere old.sides old.units a x s
there_before n event old new step none a x s f = (f.0, by_part (after_has n event old new step a x f.1), sym (step_terms n event old new step a) ∙ f.2)
  where
    by_part : IsIn a x old.units ⊎ ((x ≡ n) × Comes event a) → IsIn a x old.units
    by_part (inl g) = g
    by_part (inr g) = absurd (none a g.1)

there_else : {S : Type 0} (link : ℕ) (terms : Terms) (sides : List SideState) (units : List (UnitState S)) → 1 ≤ link → IsNowhere link units → (a x : ℕ) (s : Terms)
    → IsThere (at_link link (with_terms terms) sides) units a x s → IsThere sides units a x s
there_else link terms sides units low none a x s f =
    (f.0, f.1, sym (terms_else link a terms sides low f.0 (λ e. none x (subst (λ (k : ℕ). IsIn k x units) e f.1))) ∙ f.2)

pub together_kept : {S : Type 0} (n : ℕ) (event : BundleEvent S) (old new : TableState S) → UnitStep n event old new → ((x : ℕ) → Comes event x → ⊥) → AreTogether old.sides old.units → AreTogether new.sides new.units
together_kept n event old new step none all a b x y s t f g p q e =
    all a b x y s t (there_before n event old new step none a x s f) (there_before n event old new step none b y t g) p q e

pub together_else : {S : Type 0} (link : ℕ) (terms : Terms) (sides : List SideState) (units : List (UnitState S)) → 1 ≤ link → IsNowhere link units → AreTogether sides units → AreTogether (at_link link (with_terms terms) sides) units
together_else link terms sides units low none all a b x y s t f g p q e = all a b x y s t (there_else link terms sides units low none a x s f) (there_else link terms sides units low none b y t g) p q e

pub together_sides : {S : Type 0} (old new : List SideState) (units : List (UnitState S)) → SameTerms old new → AreTogether old units → AreTogether new units
together_sides old new units same all a b x y s t f g p q e = all a b x y s t (f.0, f.1, sym (same a) ∙ f.2) (g.0, g.1, sym (same b) ∙ g.2) p q e

-- ONE MORE COMES IN

-- who came in with this key is in this unit
abbrev pub IsFound : {S : Type 0} → ℕ → Terms → List SideState → List (UnitState S) → Type 0
IsFound n terms sides units = (a x : ℕ) (s : Terms) → IsThere sides units a x s → is_some terms.mrru ≡ true → is_some s.mrru ≡ true → s.key ≡ terms.key → x ≡ n

pub found_before : {S : Type 0} (n m : ℕ) (event : BundleEvent S) (terms : Terms) (old new : TableState S) → UnitStep n event old new → ((x : ℕ) → Comes event x → ⊥) → IsFound m terms old.sides old.units → IsFound m terms new.sides new.units
found_before n m event terms old new step none found a x s f = found a x s (there_before n event old new step none a x s f)

pub found_else : {S : Type 0} (n link : ℕ) (terms : Terms) (sides : List SideState) (units : List (UnitState S)) → 1 ≤ link → IsNowhere link units → IsFound n terms sides units → IsFound n terms (at_link link (with_terms terms) sides) units
found_else n link terms sides units low none found a x s f = found a x s (there_else link terms sides units low none a x s f)

-- it was there, or comes in with these terms
abbrev pub WasOrComes : {S : Type 0} → ℕ → Terms → TableState S → (a x : ℕ) → Terms → Type 0
WasOrComes n terms old a x s = IsThere old.sides old.units a x s ⊎ ((x ≡ n) × (s ≡ terms))

pub together_comes : {S : Type 0} (n link stay mru : ℕ) (terms : Terms) (old new : TableState S) → UnitStep n (In link stay mru) old new → AreTogether old.sides old.units
    → (side_of link old.sides).terms ≡ Some terms → IsFound n terms old.sides old.units → AreTogether new.sides new.units
together_comes {S = S} n link stay mru terms old new step all came found a b x y s t f g p q e =
    by_parts (part a x s f) (part b y t g)
  where
    is_terms : (a : ℕ) (s : Terms) → a ≡ link → (side_of a new.sides).terms ≡ Some s → s ≡ terms
    is_terms a s e f =
        let g : Some s ≡ Some terms = sym f ∙ ap (λ (k : ℕ). (side_of k new.sides).terms) e ∙ step_terms n (In link stay mru) old new step link ∙ came in
        cc

    part : (a x : ℕ) (s : Terms) → IsThere new.sides new.units a x s → WasOrComes n terms old a x s
    part a x s f = by_has (after_has n (In link stay mru) old new step a x f.1)
      where
        by_has : IsIn a x old.units ⊎ ((x ≡ n) × (a ≡ link)) → WasOrComes n terms old a x s
        by_has (inl h) = inl (f.0, h, sym (step_terms n (In link stay mru) old new step a) ∙ f.2)
        by_has (inr h) = inr (h.0, is_terms a s h.1 f.2)

    by_parts : WasOrComes n terms old a x s → WasOrComes n terms old b y t → x ≡ y
    by_parts (inl h) (inl k) = all a b x y s t h k p q e
    by_parts (inl h) (inr k) = found a x s h (rw (← k.1) q) p (e ∙ ap (λ (v : Terms). v.key) k.1) ∙ sym k.0
    by_parts (inr h) (inl k) = h.0 ∙ sym (found b y t k (rw (← h.1) p) q (sym e ∙ ap (λ (v : Terms). v.key) h.1))
    by_parts (inr h) (inr k) = h.0 ∙ sym k.0

-- WHERE IT JOINS

no_member : {A : Type 0} → false ≡ true → A
no_member e = absurd (let f : false ≡ true = e in cc)

first_is : (m : Member) (members : List Member) → has_link m.link (m ∷ members) ≡ true
first_is m members = by_self (m.link == m.link) (grind (arith, nat_tests))
  where
    by_self : (b : Bool) → b ≡ true → (b || has_link m.link members) ≡ true
    by_self true e = refl
    by_self false e = no_member e

first_of_all : (sides : List SideState) (terms : Terms) (o : Option MrruPair) (members : List Member) → HasSome o members → AllByRecursion (CameWith sides terms) members
    → (c : ℕ) × (1 ≤ c) × (has_link c members ≡ true) × ((side_of c sides).terms ≡ Some terms)
first_of_all sides terms None [] some all = absurd (let f : 0 ≡ 1 = some in grind (arith, f))
first_of_all sides terms (Some mrru) [] some all = absurd (let f : 1 ≤ 0 = some in grind (arith, f))
first_of_all sides terms o (m ∷ members) some all = (m.link, all.0.0, first_is m members, all.0.1)

-- one that is there
pub record SomeThere {S : Type 0} (unit : ℕ) (terms : Terms) (t : TableState S) : Type 0 where
  pub link : ℕ
  pub there : IsThere t.sides t.units link unit terms

first_there : {S : Type 0} (unit : ℕ) (terms : Terms) (t : TableState S) → JoinsBy unit terms t → AllFit t.sides t.units → SomeThere unit terms t
first_there {S = S} unit terms t j fits = by_unit (slice_get t.units unit) refl
  where
    by_live : (u : UnitState S) → slice_get t.units unit ≡ Some u → (o : Option Live) → u.live ≡ o → (c : ℕ) × (1 ≤ c) × (has_link c (members_of o) ≡ true) × ((side_of c t.sides).terms ≡ Some terms)
    by_live u e None f =
        no_member (subst (λ (o : Option Live). has_mrru j.mrru (mrru_of o) ≡ true) f (subst (λ (o : Option (UnitState S)). has_mrru j.mrru (mrru_in o) ≡ true) e j.same))
    by_live u e (Some l) f =
        let fit : Fits t.sides (Some l) = subst (λ (o : Option Live). Fits t.sides o) f (subst (λ (o : Option (UnitState S)). IfSome o (λ v. Fits t.sides v.live)) e (fits unit)) in
        let same : has_mrru j.mrru l.mrru ≡ true = subst (λ (o : Option Live). has_mrru j.mrru (mrru_of o) ≡ true) f (subst (λ (o : Option (UnitState S)). has_mrru j.mrru (mrru_in o) ≡ true) e j.same) in
        let alike : (if is_some l.mrru then first_has terms.key t.sides l.members else false) ≡ true =
        subst (λ (o : Option Live). (if is_some (mrru_of o) then first_has terms.key t.sides (members_of o) else false) ≡ true) f (subst (λ (o : Option (UnitState S)). IfSome o (λ v. is_of terms.key t.sides v ≡ true)) e j.alike) in
        first_of_all t.sides terms l.mrru l.members fit.0 (same_terms_of t.sides terms j.mrru l.mrru l.members j.asks same alike fit).1

    by_unit : (o : Option (UnitState S)) → slice_get t.units unit ≡ o → SomeThere unit terms t
    by_unit None e = no_member (subst (λ (o : Option (UnitState S)). has_mrru j.mrru (mrru_in o) ≡ true) e j.same)
    by_unit (Some u) e =
        let c : (c : ℕ) × (1 ≤ c) × (has_link c (members_of u.live) ≡ true) × ((side_of c t.sides).terms ≡ Some terms) = by_live u e u.live refl in
        record { link = c.0; there = (c.1, subst (λ (o : Option (UnitState S)). has_link c.0 (members_in o) ≡ true) (sym e) c.2, c.3) }

pub found_join : {S : Type 0} (unit : ℕ) (terms : Terms) (t : TableState S) → JoinsBy unit terms t → AllFit t.sides t.units → AreTogether t.sides t.units → IsFound unit terms t.sides t.units
found_join unit terms t j fits together a x s f p q e = let c : SomeThere unit terms t = first_there unit terms t j fits in together a c.link x unit s terms f c.there q p e

-- WHERE IT MAKES A BUNDLE

by_if : (b : Bool) (other unit : ℕ) → (if b then Joins other else Refuses Unlike) ≡ Makes unit → ⊥
by_if true other unit e = absurd (let f : Joins other ≡ Makes unit = e in cc)
by_if false other unit e = absurd (let f : Refuses Unlike ≡ Makes unit = e in cc)

none_by : {S : Type 0} (mrru : MrruPair) (o : Option ℕ) (link unit : ℕ) (t : TableState S) → by_alike mrru o link t ≡ Makes unit → o ≡ None
none_by mrru None link unit t e = refl
none_by mrru (Some other) link unit t e = absurd (by_if (has_mrru mrru (mrru_in (slice_get t.units other))) other unit e)

makes_alone : {S : Type 0} (o : Option MrruPair) (link unit : ℕ) (key : Key) (t : TableState S) → is_some o ≡ true → by_mrru o key link t ≡ Makes unit → alike_from 0 key t.sides t.units ≡ None
makes_alone None link unit key t some e = no_member some
makes_alone (Some mrru) link unit key t some e = none_by mrru (alike_from 0 key t.sides t.units) link unit t e

none_alike : {S : Type 0} (unit : ℕ) (key : Key) (sides : List SideState) (units : List (UnitState S)) → alike_from unit key sides units ≡ None → (x : ℕ) → IfSome (slice_get units x) (λ u. is_of key sides u ≡ false)
none_alike unit key sides [] e x = tt
none_alike {S = S} unit key sides (u ∷ units) e x = by_is (is_of key sides u) refl e (none_alike (unit + 1) key sides units) x
  where
    by_is : (b : Bool) → is_of key sides u ≡ b → (if b then Some unit else alike_from (unit + 1) key sides units) ≡ None
        → (alike_from (unit + 1) key sides units ≡ None → (x : ℕ) → IfSome (slice_get units x) (λ v. is_of key sides v ≡ false)) → (x : ℕ) → IfSome (slice_get (u ∷ units) x) (λ v. is_of key sides v ≡ false)
    by_is true f g rest x = absurd (let h : Some unit ≡ None = g in cc)
    by_is false f g rest zero = f
    by_is false f g rest (suc x) = rest g x

or_case : (a b : Bool) → (a || b) ≡ true → (a ≡ true) ⊎ (b ≡ true)
or_case true b e = inl refl
or_case false b e = inr e

terms_of_member : (sides : List SideState) (terms : Terms) (a : ℕ) (members : List Member) → has_link a members ≡ true → AllByRecursion (CameWith sides terms) members → (side_of a sides).terms ≡ Some terms
terms_of_member sides terms a [] e all = no_member e
terms_of_member sides terms a (m ∷ members) e all = by_first (or_case (is_link a m) (has_link a members) e) (terms_of_member sides terms a members)
  where
    by_first : (is_link a m ≡ true) ⊎ (has_link a members ≡ true) → (has_link a members ≡ true → AllByRecursion (CameWith sides terms) members → (side_of a sides).terms ≡ Some terms) → (side_of a sides).terms ≡ Some terms
    by_first (inl f) rest = let same : m.link ≡ a = (let g : (m.link == a) ≡ true = f in grind (arith, nat_tests)) in subst (λ (k : ℕ). (side_of k sides).terms ≡ Some terms) same all.0.1
    by_first (inr f) rest = rest f all.1

first_has_key : (sides : List SideState) (key : Key) (o : Option MrruPair) (a : ℕ) (members : List Member) → has_link a members ≡ true → AllByRecursion (CameWith sides (record { key = key; mrru = o })) members → first_has key sides members ≡ true
first_has_key sides key o a [] e all = no_member e
first_has_key sides key o a (m ∷ members) e all = rw all.0.1 (key_same key)

has_its_key : (sides : List SideState) (o : Option Live) (a : ℕ) (s : Terms) → has_link a (members_of o) ≡ true → (side_of a sides).terms ≡ Some s → Fits sides o → is_some s.mrru ≡ true
    → (if is_some (mrru_of o) then first_has s.key sides (members_of o) else false) ≡ true
has_its_key sides None a s e f fits some = no_member e
has_its_key sides (Some l) a s e f fits some =
    let is : Some s ≡ Some (record { key = fits.1; mrru = l.mrru }) = sym f ∙ terms_of_member sides (record { key = fits.1; mrru = l.mrru }) a l.members e fits.2 in
    let same : s ≡ record { key = fits.1; mrru = l.mrru } = (let g : Some s ≡ Some (record { key = fits.1; mrru = l.mrru }) = is in cc) in
    by_some l.mrru (ap (λ (t : Terms). t.mrru) same)
    (rw (ap (λ (t : Terms). t.key) same) (first_has_key sides fits.1 l.mrru a l.members e fits.2))
  where
    by_some : (m : Option MrruPair) → s.mrru ≡ m → first_has s.key sides l.members ≡ true → (if is_some m then first_has s.key sides l.members else false) ≡ true
    by_some None g h = no_member (subst (λ (o : Option MrruPair). is_some o ≡ true) g some)
    by_some (Some mrru) g h = h

pub found_make : {S : Type 0} (link unit : ℕ) (terms : Terms) (t : TableState S) → verdict link terms t ≡ Makes unit → AllFit t.sides t.units → IsFound unit terms t.sides t.units
found_make {S = S} link unit terms t e fits a x s f p q k = absurd (by_unit (slice_get t.units x) (fits x) f.1 (none_alike 0 terms.key t.sides t.units (makes_alone terms.mrru link unit terms.key t p e) x))
  where
    clash : (b : Bool) → b ≡ true → b ≡ false → ⊥
    clash b g h = absurd (let i : true ≡ false = sym g ∙ h in cc)

    by_unit : (o : Option (UnitState S)) → IfSome o (λ u. Fits t.sides u.live) → has_link a (members_in o) ≡ true → IfSome o (λ u. is_of terms.key t.sides u ≡ false) → ⊥
    by_unit None fit has none = absurd (let i : false ≡ true = has in cc)
    by_unit (Some u) fit has none =
        clash (is_of terms.key t.sides u) (subst (λ (key : Key). (if is_some (mrru_of u.live) then first_has key t.sides (members_of u.live) else false) ≡ true) k (has_its_key t.sides u.live a s has f.2 fit q)) none

pub made_together : {S : Type 0} (unit number maker link stay mru : ℕ) (wish : UnitWish) (terms : Terms) (allow : Allow) (old mid new : TableState S)
    → UnitStep unit (Make number maker wish terms.mrru allow) (with_terms_at link terms old) mid → UnitStep unit (In link stay mru) mid new
    → IsWhole old → verdict link terms old ≡ Makes unit → IsNowhere link old.units → 1 ≤ link → link - 1 < length old.sides → AreTogether new.sides new.units
made_together {S = S} unit number maker link stay mru wish terms allow old mid new a b w told none low there =
    together_comes unit link stay mru terms mid new b
    (together_kept unit make (with_terms_at link terms old) mid a (λ x c. c) (together_else link terms old.sides old.units low none w.together))
    (step_terms unit make (with_terms_at link terms old) mid a link ∙ terms_there link terms old.sides there)
    (found_before unit unit make terms (with_terms_at link terms old) mid a (λ x c. c) (found_else unit link terms old.sides old.units low none (found_make link unit terms old told w.fits)))
  where
    make : BundleEvent S
    make = Make number maker wish terms.mrru allow

-- WHO IS IN ONE BUNDLE HAS ONE KEY

pub one_key : {S : Type 0} (t : TableState S) → AllFit t.sides t.units → (a b x : ℕ) (s r : Terms) → IsThere t.sides t.units a x s → IsThere t.sides t.units b x r → s.key ≡ r.key
one_key {S = S} t fits a b x s r f g = by_unit (slice_get t.units x) (fits x) f.1 g.1
  where
    by_live : (o : Option Live) → Fits t.sides o → has_link a (members_of o) ≡ true → has_link b (members_of o) ≡ true → s.key ≡ r.key
    by_live None fit h k = no_member h
    by_live (Some l) fit h k =
        let all : Terms = record { key = fit.1; mrru = l.mrru } in
        let first : Some s ≡ Some all = sym f.2 ∙ terms_of_member t.sides all a l.members h fit.2 in
        let second : Some r ≡ Some all = sym g.2 ∙ terms_of_member t.sides all b l.members k fit.2 in
        let p : s ≡ all = cc in
        let q : r ≡ all = cc in
        ap (λ (v : Terms). v.key) p ∙ sym (ap (λ (v : Terms). v.key) q)

    by_unit : (o : Option (UnitState S)) → IfSome o (λ u. Fits t.sides u.live) → has_link a (members_in o) ≡ true → has_link b (members_in o) ≡ true → s.key ≡ r.key
    by_unit None fit h k = no_member h
    by_unit (Some u) fit h k = by_live u.live fit h k

pub by_key : {S : Type 0} (t : TableState S) → IsWhole t → (a b x y : ℕ) (s r : Terms) → IsThere t.sides t.units a x s → IsThere t.sides t.units b y r → is_some s.mrru ≡ true → is_some r.mrru ≡ true
    → (x ≡ y) ↔ (s.key ≡ r.key)
by_key {S = S} t w a b x y s r f g p q = (
  (λ e. one_key t w.fits a b x s r f (subst (λ (k : ℕ). IsThere t.sides t.units b k r) (sym e) g)),
  (λ e. w.together a b x y s r f g p q e),
)
