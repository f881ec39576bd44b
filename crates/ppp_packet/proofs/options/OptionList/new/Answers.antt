-- No octets are no items.
use Rattle.std.proofs.Common.{[], ap, ◌∙◌}
use Rattle.ppp_packet.specs.OptionList.{items_of}
use Rattle.ppp_packet.proofs.Laying.{laid-is, items_of-laid}
use Rattle.ppp_packet.proofs.options.OptionList.new.Goals as goal

pub invariant_of-result : goal.invariant_of-result
invariant_of-result c = laid-is c.new.result [] c.new.ensures

pub returns : goal.returns
returns c = ap items_of c.new.ensures ∙ items_of-laid []
