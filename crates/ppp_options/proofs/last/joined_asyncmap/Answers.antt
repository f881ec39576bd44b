use Rattle.ppp_options.proofs.LastLemmas.{asyncmap_ends, asyncmap_goes_on}
use Rattle.ppp_options.proofs.last.joined_asyncmap.Goals as goal

pub looking-preserved : goal.looking-preserved
looking-preserved c =
    asyncmap_goes_on c.looking.map c.looking.left.now c.item-item.result c.asyncmap-map.result _ c.in-len1-up.len_at_least c.item-item.is c.asyncmap-map.ensures
    c.looking.invariant

pub returns : goal.returns
returns c = asyncmap_ends c.looking.map c.looking.left.now _ c.in_default.len_below c.looking.invariant
