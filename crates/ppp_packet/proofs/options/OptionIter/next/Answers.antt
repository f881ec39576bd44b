-- The first of the items that are left, and those behind it.
use Rattle.std.proofs.Common.{◌∙◌, arith, sym}
use Rattle.ppp_packet.specs.OptionsOf.{item}
use Rattle.ppp_packet.proofs.Laying.{walked-laid, walked-items, no_fault, items_of-none}
use Rattle.ppp_packet.proofs.options.OptionIter.next.Goals as goal

pub returns-then-self-eq0-clause-item : goal.returns-then-self-eq0-clause-item
returns-then-self-eq0-clause-item c = sym c.self.view_is ∙ items_of-none c.self.inside.left.now (omega arith)

pub returns-then-self-eq0-clause-ended : goal.returns-then-self-eq0-clause-ended
returns-then-self-eq0-clause-ended c = sym c.self.view_is ∙ items_of-none c.self.inside.left.now (omega arith)

pub invariant_of-self : goal.invariant_of-self
invariant_of-self c = walked-laid c.self.inside.left.now (item c.in-Ok.split.kind c.in-Ok.split.body.now) c.in-Ok.split.rest.now c.self.invariant c.in-Ok.ensures.found

pub unreachable-requires : goal.unreachable-requires
unreachable-requires c = no_fault _ c.self.inside.left.now c.self.invariant c.in-Err.ensures.found

pub returns-clause-item : goal.returns-clause-item
returns-clause-item c = sym c.self.view_is ∙ walked-items c.self.inside.left.now (item c.in-Ok.split.kind c.in-Ok.split.body.now) c.in-Ok.split.rest.now c.self.invariant c.in-Ok.ensures.found
