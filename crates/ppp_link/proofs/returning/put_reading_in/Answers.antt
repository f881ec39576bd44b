use Rattle.ppp_link.proofs.ReturnFacts.{over_keeps, over_takes}
use Rattle.ppp_link.proofs.returning.put_reading_in.Goals as goal

pub returns-clause-takes : goal.returns-clause-takes
returns-clause-takes g c =
    over_takes {l = c.args.body.now} (record { link = c.over.inside.link; session = c.over.inside.session; end = c.over.inside.end; taken = c.over.inside.taken; input = c.over.inside.input }) c.args.over c.over.view_is c.keep_halves.ensures
    (λ s k. c.requires.present s k.stands) c.take_reading_over.ensures.takes

pub returns-clause-whole : goal.returns-clause-whole
returns-clause-whole g c =
    over_keeps {l = c.args.body.now} (record { link = c.over.inside.link; session = c.over.inside.session; end = c.over.inside.end; taken = c.over.inside.taken; input = c.over.inside.input }) c.args.over c.over.view_is c.keep_halves.ensures
    c.over.invariant.1 (λ s k. c.requires.present s k.stands) c.take_reading_over.ensures.takes c.take_reading_over.ensures.goes c.requires.whole
