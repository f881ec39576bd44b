-- A table stays whole as a link comes in.
use Rattle.std.proofs.Common.{◌≡◌, ◌≤◌, ◌<◌, ◌-◌, ℕ, Option, None, List, length, refl, ap, sym, subst, ◌∙◌}
use Rattle.ppp_base.specs.Mrru.{MrruPair}
use Rattle.ppp_base.specs.declared.allow.Allow.{Allow}
use Rattle.ppp_unit_parts.specs.declared.wish.UnitWish.{UnitWish}
use Rattle.ppp_bundle.specs.declared.event.BundleEvent.TheVariants.{Make, In}
use Rattle.ppp_table_parts.specs.Key.{Terms}
use Rattle.ppp_table_parts.specs.Side.{SideState, with_terms}
use Rattle.ppp_table_parts.specs.Sides.{at_link}
use Rattle.ppp_table_parts.proofs.TermLemmas.{terms_there}
use Rattle.ppp_table.specs.declared.verdict.Verdict.TheVariants.{Joins, Makes}
use Rattle.ppp_table.specs.Fits.{IsWhole}
use Rattle.ppp_table.specs.PostPart.{with_terms_at}
use Rattle.ppp_table.specs.TableState.{AreDrained, TableState, stay_in}
use Rattle.ppp_table.specs.UnitStep.{UnitStep}
use Rattle.ppp_table.specs.Verdicts.{verdict}
use Rattle.ppp_table.proofs.Apart.{IsNowhere, nowhere}
use Rattle.ppp_table.proofs.Entering.{join_all, joins_says, make_all}
use Rattle.ppp_table.proofs.Joins.{nowhere_made}
use Rattle.ppp_table.proofs.Together.{found_else, found_join, made_together, together_comes, together_else}
use Rattle.ppp_table.proofs.Wholes.{apart_made, whole_in}

joined : {S : Type 0} (unit link stay mru : ℕ) (terms : Terms) (old new : TableState S) → 1 ≤ link → link - 1 < length old.sides → UnitStep unit (In link stay mru) (with_terms_at link terms old) new
    → length new.units ≡ 16 → AreDrained new.units → IsWhole old → stay_in link old ≡ None → verdict link terms old ≡ Joins unit → IsWhole new
joined {S = S} unit link stay mru terms old new low there step sixteen drained w out told =
    let none : IsNowhere link old.units = nowhere 0 link old.units out in
    let says : _ = joins_says link unit terms old told in
    whole_in unit link stay mru (with_terms_at link terms old) new step w.apart none sixteen drained
    (join_all unit link stay mru terms old new step says w.fits none low there)
    (together_comes unit link stay mru terms (with_terms_at link terms old) new step (together_else link terms old.sides old.units low none w.together) (terms_there link terms old.sides there)
    (found_else unit link terms old.sides old.units low none (found_join unit terms old says w.fits w.together)))

pub whole_join : {S : Type 0} (unit link stay mru : ℕ) (terms : Terms) (seen old new : TableState S) (sides : List SideState) → seen ≡ old → sides ≡ at_link link (with_terms terms) seen.sides
    → (1 ≤ link) × (link - 1 < length seen.sides) → UnitStep unit (In link stay mru) (record seen { sides = sides }) new → length new.units ≡ 16 → AreDrained new.units
    → IsWhole old → stay_in link old ≡ None → verdict link terms old ≡ Joins unit → IsWhole new
whole_join {S = S} unit link stay mru terms seen old new sides is with there step sixteen drained =
    subst (λ (t : TableState S). IsWhole t → stay_in link t ≡ None → verdict link terms t ≡ Joins unit → IsWhole new) is
    (joined unit link stay mru terms seen new there.0 there.1 (subst (λ (ss : List SideState). UnitStep unit (In link stay mru) (record seen { sides = ss }) new) with step) sixteen drained)

made : {S : Type 0} (unit number maker link stay mru : ℕ) (wish : UnitWish) (terms : Terms) (allow : Allow) (old mid new : TableState S) → 1 ≤ link → link - 1 < length old.sides
    → UnitStep unit (Make number maker wish terms.mrru allow) (with_terms_at link terms old) mid → UnitStep unit (In link stay mru) mid new
    → length new.units ≡ 16 → AreDrained new.units → IsWhole old → stay_in link old ≡ None → verdict link terms old ≡ Makes unit → IsWhole new
made {S = S} unit number maker link stay mru wish terms allow old mid new low there a b sixteen drained w out told =
    let none : IsNowhere link old.units = nowhere 0 link old.units out in
    whole_in unit link stay mru mid new b (apart_made unit number maker wish terms.mrru allow (with_terms_at link terms old) mid a w.apart)
    (nowhere_made unit number maker link wish terms.mrru allow (with_terms_at link terms old) mid a out) sixteen drained
    (make_all unit number maker link stay mru wish terms allow old mid new a b w.fits none low there)
    (made_together unit number maker link stay mru wish terms allow old mid new a b w told none low there)

pub whole_make : {S : Type 0} (unit number maker link stay mru : ℕ) (wish : UnitWish) (pair : Option MrruPair) (terms : Terms) (allow : Allow) (seen old mid new : TableState S) (sides : List SideState) → pair ≡ terms.mrru → seen ≡ old
    → sides ≡ at_link link (with_terms terms) seen.sides → (1 ≤ link) × (link - 1 < length seen.sides) → UnitStep unit (Make number maker wish pair allow) (record seen { sides = sides }) mid
    → UnitStep unit (In link stay mru) mid new → length new.units ≡ 16 → AreDrained new.units → IsWhole old → stay_in link old ≡ None → verdict link terms old ≡ Makes unit → IsWhole new
whole_make {S = S} unit number maker link stay mru wish pair terms allow seen old mid new sides asks is with there a b sixteen drained =
    subst (λ (t : TableState S). IsWhole t → stay_in link t ≡ None → verdict link terms t ≡ Makes unit → IsWhole new) is
    (made unit number maker link stay mru wish terms allow seen mid new there.0 there.1
    (subst (λ (ss : List SideState). UnitStep unit (Make number maker wish terms.mrru allow) (record seen { sides = ss }) mid) with
    (subst (λ (m : Option MrruPair). UnitStep unit (Make number maker wish m allow) (record seen { sides = sides }) mid) asks a)) b sixteen drained)
