use Rattle.std.specs.Prelude.{bit_or}
use Rattle.ppp_hdlc.proofs.Lanes.{lowest_within, plain_below, masks_fit}
use Rattle.ppp_hdlc.proofs.runs.plain_in_front.Goals as goal

pub returns-clause-within : goal.returns-clause-within
returns-clause-within c =
    lowest_within (bit_or (bit_or c.marked_as.result c.marked_as-2.result) c.marked_below.result)
    (masks_fit c.marked_as.result c.marked_as-2.result c.marked_below.result c.marked_as.type_inv c.marked_as-2.type_inv c.marked_below.type_inv)

pub returns-clause-plain : goal.returns-clause-plain
returns-clause-plain c = λ k below.
    plain_below c.args.map c.least_unmapped.result c.args.lanes c.marked_as.result c.marked_as-2.result c.marked_below.result k
    (masks_fit c.marked_as.result c.marked_as-2.result c.marked_below.result c.marked_as.type_inv c.marked_as-2.type_inv c.marked_below.type_inv)
    c.marked_as.ensures c.marked_as-2.ensures c.marked_below.ensures c.least_unmapped.ensures below
