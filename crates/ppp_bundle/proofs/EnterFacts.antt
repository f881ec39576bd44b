-- When a link may come in, as a unit's readers tell it.
use Rattle.std.proofs.Common.{◌≡◌, ℕ, suc, true, false, Option, None, Some, is_some, List, [], ◌∷◌, length, refl, sym, ◌∙◌, arith}
use Rattle.std.proofs.lemmas.Bool.Decides.{nat_tests}
use Rattle.std.specs.Prelude.{◌==◌}
use Rattle.ppp_base.specs.Mrru.{MrruPair}
use Rattle.ppp_unit_parts.specs.declared.live.Live.{Live}
use Rattle.ppp_unit_parts.specs.declared.member.Member.{Member}
use Rattle.ppp_unit_parts.specs.Member.{has_link}
use Rattle.ppp_bundle.specs.MayStand.{mrru_of}
use Rattle.ppp_bundle.specs.State.{members_of}
use Rattle.ppp_bundle.specs.UnitPart.{MayEnter}

takes_more : (m : Option MrruPair) (members : List Member) → is_some m ≡ true → m ≡ None → members ≡ []
takes_more None members e f = absurd (let g : false ≡ true = e in cc)
takes_more (Some mrru) members e f = absurd (let g : Some mrru ≡ None = f in cc)

none_in : (members : List Member) → (length members == 0) ≡ true → members ≡ []
none_in [] e = refl
none_in (x ∷ members) e = absurd (let g : (suc (length members) == 0) ≡ false = grind (arith, nat_tests) in let h : false ≡ true = sym g ∙ e in cc)

-- in a multilink bundle, and as the first
pub may_join : (live : Option Live) (link : ℕ) → is_some live ≡ true → has_link link (members_of live) ≡ false → is_some (mrru_of live) ≡ true → MayEnter live link 1500
may_join None link some other multilink = absurd (let f : false ≡ true = some in cc)
may_join (Some l) link some other multilink = (takes_more l.mrru l.members multilink, other, omega arith, omega arith)

pub may_begin : (live : Option Live) (link : ℕ) → is_some live ≡ true → has_link link (members_of live) ≡ false → (length (members_of live) == 0) ≡ true → MayEnter live link 1500
may_begin None link some other none = absurd (let f : false ≡ true = some in cc)
may_begin (Some l) link some other none = (λ e. none_in l.members none, other, omega arith, omega arith)
