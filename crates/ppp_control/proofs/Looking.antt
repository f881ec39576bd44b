-- Looking for items among others, in their order.
use Rattle.std.proofs.Common.{◌≡◌, Bool, true, cond, Option, Some, None, List, [], ◌∷◌, ap, sym, ◌∙◌, eq-eqb, MatchOption}
use Rattle.std.specs.Prelude.{◌&&◌, IfNone, nat_eq}
use Rattle.std.specs.Cmp.Lexicographic.{pointwise}
use Rattle.ppp_packet.specs.OptionsOf.{Item, item}
use Rattle.ppp_packet.specs.declared.options.OptionRef.{OptionRef}
use Rattle.ppp_control.specs.Class.{same_item, is_selection}

-- what is still wanted of a selection
abbrev pub wanted : Option OptionRef → List Item → List Item
wanted None rest = rest
wanted (Some s) rest = item s.kind s.body.now ∷ rest

abbrev pub NothingBehind : Option OptionRef → List Item → Type 0
NothingBehind None rest = rest ≡ []
NothingBehind (Some s) rest = Unit {0}

pub wanted-next : (next : Option OptionRef) (old new : List Item) → MatchOption next (old ≡ []) (λ s. old ≡ item s.kind s.body.now ∷ new) → IfNone next (new ≡ []) → (wanted next new ≡ old) × NothingBehind next new
wanted-next None old new e f = (f ∙ sym e, f)
wanted-next (Some s) old new e f = (sym e, tt)

pub found-wanted : (next : Option OptionRef) (want have : OptionRef) (rest walk walk' : List Item) (b : Bool) → next ≡ Some want → walk ≡ item have.kind have.body.now ∷ walk' → want.kind ≡ have.kind → pointwise nat_eq want.body.now have.body.now ≡ true
    → is_selection (wanted next rest) walk ≡ b → is_selection rest walk' ≡ b
found-wanted next want have rest walk walk' b e f k s h =
    let same : same_item (item want.kind want.body.now) (item have.kind have.body.now) ≡ true = ap (λ x. x && pointwise nat_eq want.body.now have.body.now) (eq-eqb want.kind have.kind k) ∙ s in
    sym (ap (λ x. cond x (is_selection rest walk') (is_selection (item want.kind want.body.now ∷ rest) walk')) same)
    ∙ sym (ap (λ x. is_selection (wanted x rest) (item have.kind have.body.now ∷ walk')) e)
    ∙ sym (ap (λ x. is_selection (wanted next rest) x) f) ∙ h
