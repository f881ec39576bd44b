-- Item by item, until none is left or a fault comes.
use Rattle.std.proofs.Common.{[], ◌∷◌, ◌++◌, length, refl, ap, ◌∙◌, arith, length-append, sym}
use Rattle.ppp_packet.specs.OptionsOf.{item, laid}
use Rattle.ppp_packet.specs.OptionList.{items_of}
use Rattle.ppp_packet.proofs.Laying.{laid-is, items_of-laid, one_more, none_left}
use Rattle.ppp_packet.proofs.options.Options.find.Goals as goal

pub reading-init : goal.reading-init
reading-init c = record { items = []; are = refl }

pub reading-smaller : goal.reading-smaller
reading-smaller c = omega (arith, ap length c.in-Ok.ensures.found, length-append c.in-Ok.split.body.now c.in-Ok.split.rest.now)

pub reading-preserved : goal.reading-preserved
reading-preserved c = record {
  items = c.reading.invariant.items ++ item c.in-Ok.split.kind c.in-Ok.split.body.now ∷ [];
  are = one_more c.args.bytes.now c.reading.invariant.items c.reading.left.now (item c.in-Ok.split.kind c.in-Ok.split.body.now) c.in-Ok.split.rest.now c.reading.invariant.are c.in-Ok.ensures.found;
}

pub returns-in-Err : goal.returns-in-Err
returns-in-Err c = record { items = c.reading.invariant.items; rest = c.reading.left.now; are = c.reading.invariant.are; begins = c.in-Err.ensures.found }

pub invariant_of-result : goal.invariant_of-result
invariant_of-result c = laid-is _ c.reading.invariant.items ((c.append.ensures ∙ ap (λ o. o ++ c.args.bytes.now) c.new-octets.ensures) ∙ none_left _ c.reading.invariant.items c.reading.left.now c.reading.invariant.are (omega arith))

pub returns : goal.returns
returns c =
    let e = none_left _ c.reading.invariant.items c.reading.left.now c.reading.invariant.are (omega arith) in
    record { are = e ∙ ap laid (sym (ap items_of ((c.append.ensures ∙ ap (λ o. o ++ c.args.bytes.now) c.new-octets.ensures) ∙ e) ∙ items_of-laid c.reading.invariant.items)) }
