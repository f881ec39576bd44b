use Rattle.std.proofs.Common.{ℕ, List, ◌++◌, true, ap, ◌∙◌}
use Rattle.ppp_mp.specs.Ring.{slotted}
use Rattle.ppp_mp.proofs.slot.Slot.fill.Goals as goal

pub returns : goal.returns
returns c = ap (λ (l : List ℕ). slotted true c.args.number c.args.first c.args.last l) (c.append.ensures ∙ ap (λ (l : List ℕ). l ++ c.args.octets.now) c.clear.ensures)
