-- There are no octets exactly where there are no items.
use Rattle.std.proofs.Common.{◌≡◌, ap, ◌∙◌, length, arith, eq-eqb}
use Rattle.std.proofs.lemmas.Grind.{common_steps}
use Rattle.ppp_packet.specs.OptionsOf.{laid}
use Rattle.ppp_packet.proofs.Laying.{laid-empty}
use Rattle.ppp_packet.proofs.options.OptionList.is_empty.Goals as goal

pub returns : goal.returns
returns c = (
  λ h. let none : length (laid c.args.self.now) ≡ 0 = grind (arith, common_steps) in laid-empty c.args.self.now none,
  λ e. let none : length c.as_slice.result.now ≡ 0 = ap length (c.as_slice.ensures.octets ∙ ap laid e) in eq-eqb (length c.as_slice.result.now) 0 none,
)
