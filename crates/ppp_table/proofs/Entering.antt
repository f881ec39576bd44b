-- A link that comes in fits its bundle: it joins one with its key and its MRRU pair, or is the first of one that was made.
use Rattle.std.proofs.Common.{◌≡◌, ◌≤◌, ◌<◌, ◌+◌, ◌-◌, ℕ, suc, Bool, true, false, Option, None, Some, IfSome, is_some, List, [], ◌∷◌, length, slice_get, refl, ap, sym, subst, ◌∙◌, arith}
use Rattle.std.specs.List.{AllByRecursion}
use Rattle.std.specs.Prelude.{if◌then◌else◌}
use Rattle.ppp_base.specs.Mrru.{MrruPair}
use Rattle.ppp_base.specs.declared.allow.Allow.{Allow}
use Rattle.ppp_base.specs.declared.posts.Refusal.TheVariants.{Unlike}
use Rattle.ppp_unit_parts.specs.declared.live.Live.{Live}
use Rattle.ppp_unit_parts.specs.declared.member.Member.{Member}
use Rattle.ppp_unit_parts.specs.declared.wish.UnitWish.{UnitWish}
use Rattle.ppp_unit_parts.specs.Live.{new_live}
use Rattle.ppp_unit_parts.specs.Member.{has_link, member}
use Rattle.ppp_bundle.specs.declared.event.BundleEvent.TheVariants.{Make, In}
use Rattle.ppp_bundle.specs.MayStand.{mrru_of}
use Rattle.ppp_bundle.specs.State.{UnitState, members_of}
use Rattle.ppp_table_parts.specs.Key.{Key, Terms}
use Rattle.ppp_table_parts.specs.Side.{SideState, with_terms}
use Rattle.ppp_table_parts.specs.Sides.{at_link, side_of}
use Rattle.ppp_table_parts.proofs.TermLemmas.{keys_equal, pairs_equal, terms_there}
use Rattle.ppp_table.specs.declared.verdict.Verdict.TheVariants.{Joins, Refuses}
use Rattle.ppp_table.specs.Fits.{AllFit, CameWith, Fits, FitsBy, members_in}
use Rattle.ppp_table.specs.PostPart.{with_terms_at}
use Rattle.ppp_table.specs.TableState.{TableState}
use Rattle.ppp_table.specs.UnitStep.{UnitStep}
use Rattle.ppp_table.specs.Verdicts.{alike_from, asked, by_alike, by_mrru, first_has, has_mrru, has_terms, is_of, mrru_in, verdict}
use Rattle.ppp_table.proofs.Apart.{IsNowhere}
use Rattle.ppp_table.proofs.Fitting.{OthersFit, else_all, fits_after, fits_from, fits_sides, in_fits, not_true, others_after, others_of, step_terms, with_terms_fit}
use Rattle.ppp_table.proofs.Joins.{asked_no_join, set_there}
use Rattle.ppp_table.proofs.Members.{From, joined, live_from, made_lives}

-- WHAT IS SAID WHERE A LINK JOINS

pub record JoinsBy {S : Type 0} (unit : ℕ) (terms : Terms) (t : TableState S) : Type 0 where
  pub mrru : MrruPair
  pub asks : terms.mrru ≡ Some mrru
  pub same : has_mrru mrru (mrru_in (slice_get t.units unit)) ≡ true
  pub alike : IfSome (slice_get t.units unit) (λ u. is_of terms.key t.sides u ≡ true)

alike_is : {S : Type 0} (unit n : ℕ) (key : Key) (sides : List SideState) (units : List (UnitState S)) → alike_from unit key sides units ≡ Some n
    → (unit ≤ n) × IfSome (slice_get units (n - unit)) (λ u. is_of key sides u ≡ true)
alike_is unit n key sides [] e = absurd (let f : None ≡ Some n = e in cc)
alike_is {S = S} unit n key sides (u ∷ units) e = by_is (is_of key sides u) refl e (alike_is (unit + 1) n key sides units)
  where
    by_is : (b : Bool) → is_of key sides u ≡ b → (if b then Some unit else alike_from (unit + 1) key sides units) ≡ Some n
        → (alike_from (unit + 1) key sides units ≡ Some n → (unit + 1 ≤ n) × IfSome (slice_get units (n - (unit + 1))) (λ u. is_of key sides u ≡ true))
        → (unit ≤ n) × IfSome (slice_get (u ∷ units) (n - unit)) (λ u. is_of key sides u ≡ true)
    by_is true f g rest =
        let same : unit ≡ n = (let h : Some unit ≡ Some n = g in cc) in
        let place : n - unit ≡ 0 = omega (arith, same) in
        (omega (arith, same), rw place f)
    by_is false f g rest =
        let r : (unit + 1 ≤ n) × IfSome (slice_get units (n - (unit + 1))) (λ u. is_of key sides u ≡ true) = rest g in
        let le : unit + 1 ≤ n = r.0 in
        let place : n - unit ≡ suc (n - (unit + 1)) = omega (arith, le) in
        (omega (arith, le), rw place r.1)

alike_at : {S : Type 0} (n : ℕ) (key : Key) (t : TableState S) → alike_from 0 key t.sides t.units ≡ Some n → IfSome (slice_get t.units n) (λ u. is_of key t.sides u ≡ true)
alike_at n key t e = let none : n - 0 ≡ n = omega arith in subst (λ (k : ℕ). IfSome (slice_get t.units k) (λ u. is_of key t.sides u ≡ true)) none (alike_is 0 n key t.sides t.units e).1

by_pair : {S : Type 0} (b : Bool) (mrru : MrruPair) (other unit : ℕ) (terms : Terms) (t : TableState S) → terms.mrru ≡ Some mrru → has_mrru mrru (mrru_in (slice_get t.units other)) ≡ b
    → alike_from 0 terms.key t.sides t.units ≡ Some other → (if b then Joins other else Refuses Unlike) ≡ Joins unit → JoinsBy unit terms t
by_pair true mrru other unit terms t asks same alike e =
    let is : other ≡ unit = (let h : Joins other ≡ Joins unit = e in cc) in
    subst (λ (k : ℕ). JoinsBy k terms t) is (record { mrru = mrru; asks = asks; same = same; alike = alike_at other terms.key t alike })
by_pair false mrru other unit terms t asks same alike e = absurd (let h : Refuses Unlike ≡ Joins unit = e in cc)

by_found : {S : Type 0} (o : Option ℕ) (mrru : MrruPair) (link unit : ℕ) (terms : Terms) (t : TableState S) → terms.mrru ≡ Some mrru → alike_from 0 terms.key t.sides t.units ≡ o
    → by_alike mrru o link t ≡ Joins unit → JoinsBy unit terms t
by_found None mrru link unit terms t asks found e = absurd (asked_no_join (asked link (slice_get t.links (link - 1))) t unit e)
by_found (Some other) mrru link unit terms t asks found e = by_pair (has_mrru mrru (mrru_in (slice_get t.units other))) mrru other unit terms t asks refl found e

by_terms : {S : Type 0} (o : Option MrruPair) (link unit : ℕ) (terms : Terms) (t : TableState S) → terms.mrru ≡ o → by_mrru o terms.key link t ≡ Joins unit → JoinsBy unit terms t
by_terms None link unit terms t asks e = absurd (asked_no_join (asked link (slice_get t.links (link - 1))) t unit e)
by_terms (Some mrru) link unit terms t asks e = by_found (alike_from 0 terms.key t.sides t.units) mrru link unit terms t asks refl e

pub joins_says : {S : Type 0} (link unit : ℕ) (terms : Terms) (t : TableState S) → verdict link terms t ≡ Joins unit → JoinsBy unit terms t
joins_says link unit terms t e = by_terms terms.mrru link unit terms t refl e

-- IT HAS THE TERMS OF THE OTHERS

first_key : (key other : Key) (o : Option MrruPair) (sides : List SideState) (members : List Member) → first_has key sides members ≡ true
    → AllByRecursion (CameWith sides (record { key = other; mrru = o })) members → key ≡ other
first_key key other o sides [] e came = absurd (let f : false ≡ true = e in cc)
first_key key other o sides (m ∷ members) e came = keys_equal key other (subst (λ (t : Option Terms). has_terms key t ≡ true) came.0.1 e)

pub same_terms_of : (sides : List SideState) (terms : Terms) (mrru : MrruPair) (o : Option MrruPair) (members : List Member) → terms.mrru ≡ Some mrru → has_mrru mrru o ≡ true
    → (if is_some o then first_has terms.key sides members else false) ≡ true → FitsBy o sides members → (o ≡ terms.mrru) × AllByRecursion (CameWith sides terms) members
same_terms_of sides terms mrru None members e f g fits = absurd (let h : false ≡ true = f in cc)
same_terms_of sides terms mrru (Some m) members e f g fits =
    let pair : Some m ≡ terms.mrru = ap (λ (x : MrruPair). Some x) (sym (pairs_equal mrru m f)) ∙ sym e in
    let key : fits.1 ≡ terms.key = sym (first_key terms.key fits.1 (Some m) sides members g fits.2) in
    let same : record { key = fits.1; mrru = Some m } ≡ terms = ap (λ (k : Key). record { key = k; mrru = Some m }) key ∙ ap (λ (x : Option MrruPair). record { key = terms.key; mrru = x }) pair in
    (pair, subst (λ (t : Terms). AllByRecursion (CameWith sides t) members) same fits.2)

no_pair : (o : Option MrruPair) (mrru : MrruPair) → o ≡ Some mrru → o ≡ None → ⊥
no_pair o mrru e f = absurd (let g : Some mrru ≡ None = sym e ∙ f in cc)

pub join_all : {S : Type 0} (unit link stay mru : ℕ) (terms : Terms) (old new : TableState S) → UnitStep unit (In link stay mru) (with_terms_at link terms old) new → JoinsBy unit terms old
    → AllFit old.sides old.units → IsNowhere link old.units → 1 ≤ link → link - 1 < length old.sides → AllFit new.sides new.units
join_all {S = S} unit link stay mru terms old new s j all none low there =
    fits_after unit (In link stay mru) (with_terms_at link terms old) new s (others_of unit sides old.units (with_terms_fit link terms old.sides old.units low none all))
    (fits_sides sides new.sides (step_terms unit (In link stay mru) (with_terms_at link terms old) new s) s.goes.is.live (by_live s.was.live refl))
  where
    sides : List SideState
    sides = at_link link (with_terms terms) old.sides

    fits : Fits old.sides s.was.live
    fits = subst (λ (o : Option (UnitState S)). IfSome o (λ u. Fits old.sides u.live)) s.there (all unit)

    same : has_mrru j.mrru (mrru_of s.was.live) ≡ true
    same = subst (λ (o : Option (UnitState S)). has_mrru j.mrru (mrru_in o) ≡ true) s.there j.same

    alike : is_of terms.key old.sides s.was ≡ true
    alike = subst (λ (o : Option (UnitState S)). IfSome o (λ u. is_of terms.key old.sides u ≡ true)) s.there j.alike

    absent : has_link link (members_of s.was.live) ≡ false
    absent = not_true (has_link link (members_of s.was.live)) (λ e. none unit (subst (λ (o : Option (UnitState S)). has_link link (members_in o) ≡ true) (sym s.there) e))

    by_live : (o : Option Live) → s.was.live ≡ o → Fits sides s.goes.is.live
    by_live None e = fits_from sides None s.goes.is.live (subst (λ (o : Option Live). From (joined link stay mru o) s.goes.is.live) e (live_from old.secrets (In link stay mru) s.was s.goes.is s.goes.part)) tt
    by_live (Some l) e =
        let t : (l.mrru ≡ terms.mrru) × AllByRecursion (CameWith old.sides terms) l.members =
        same_terms_of old.sides terms j.mrru l.mrru l.members j.asks (subst (λ (o : Option Live). has_mrru j.mrru (mrru_of o) ≡ true) e same)
        (subst (λ (o : Option Live). (if is_some (mrru_of o) then first_has terms.key old.sides (members_of o) else false) ≡ true) e alike) (subst (λ (o : Option Live). Fits old.sides o) e fits) in
        in_fits old.secrets link stay mru s.was s.goes.is l terms sides s.goes.part e t.0
        ((λ f. absurd (no_pair terms.mrru j.mrru j.asks f)), else_all link terms terms old.sides low l.members (subst (λ (o : Option Live). has_link link (members_of o) ≡ false) e absent) t.1)
        (low, terms_there link terms old.sides there)

-- IT IS THE FIRST

pub make_all : {S : Type 0} (unit number maker link stay mru : ℕ) (wish : UnitWish) (terms : Terms) (allow : Allow) (old mid new : TableState S)
    → UnitStep unit (Make number maker wish terms.mrru allow) (with_terms_at link terms old) mid → UnitStep unit (In link stay mru) mid new
    → AllFit old.sides old.units → IsNowhere link old.units → 1 ≤ link → link - 1 < length old.sides → AllFit new.sides new.units
make_all {S = S} unit number maker link stay mru wish terms allow old mid new a b all none low there =
    fits_after unit (In link stay mru) mid new b others
    (in_fits mid.secrets link stay mru b.was b.goes.is first terms new.sides b.goes.part lives refl ((λ e. refl), tt) (low, came))
  where
    sides : List SideState
    sides = at_link link (with_terms terms) old.sides

    first : Live
    first = new_live number (length a.was.scripts.log.past) wish terms.mrru allow

    others : OthersFit unit mid.sides mid.units
    others = others_after unit (Make number maker wish terms.mrru allow) (with_terms_at link terms old) mid a (others_of unit sides old.units (with_terms_fit link terms old.sides old.units low none all))

    here : slice_get mid.units unit ≡ Some a.now
    here = ap (λ (t : TableState S). slice_get t.units unit) a.after ∙ set_there old.units unit a.now a.was a.there

    same : Some b.was ≡ Some a.now
    same = sym b.there ∙ here

    was : b.was ≡ a.now
    was = let e : Some b.was ≡ Some a.now = same in cc

    lives : b.was.live ≡ Some first
    lives = ap (λ (u : UnitState S). u.live) was ∙ ap (λ (u : UnitState S). u.live) a.goes.emptied ∙ made_lives old.secrets number maker wish terms.mrru allow a.was a.goes.is a.goes.part

    came : (side_of link new.sides).terms ≡ Some terms
    came = step_terms unit (In link stay mru) mid new b link ∙ step_terms unit (Make number maker wish terms.mrru allow) (with_terms_at link terms old) mid a link ∙ terms_there link terms old.sides there
