-- The kinds of marks.
use Rattle.std.proofs.Common.{◌≡◌, ◌∙◌, ap, sym, subst, ℕ, zero, suc, true, List, [], ◌∷◌, Option, None, Some, IfSome, slice_get}
use Rattle.std.proofs.lemmas.Option.{same_Some}
use Rattle.ppp_mark.specs.Log.{AreMarks}
use Rattle.ppp_mark.specs.Table.{is_kind}
use Rattle.ppp_mark.specs.declared.mark.Mark.{Mark}

pub kind_at : (marks : List Mark) (at : ℕ) (m : Mark) → AreMarks marks → slice_get marks at ≡ Some m → is_kind m.kind ≡ true
kind_at [] at m are stands = absurd (cc stands)
kind_at (mark ∷ marks) zero m are stands = subst (λ (x : Mark). is_kind x.kind ≡ true) (same_Some mark m stands) are.0
kind_at (mark ∷ marks) (suc at) m are stands = kind_at marks at m are.1 stands

pub kind_in : (marks : List Mark) (at : ℕ) (found : Option Mark) → AreMarks marks → found ≡ slice_get marks at → IfSome found (λ m. is_kind m.kind ≡ true)
kind_in marks at None are is = tt
kind_in marks at (Some m) are is = kind_at marks at m are (sym is)
