use Rattle.ppp_link.proofs.ReturnFacts.{sent_keeps, sent_takes}
use Rattle.ppp_link.proofs.returning.put_writing_in.Goals as goal

pub returns-clause-takes : goal.returns-clause-takes
returns-clause-takes g c =
    sent_takes {l = c.args.body.now} (record { link = c.sent.inside.link; session = c.sent.inside.session; end = c.sent.inside.end; output = c.sent.inside.output }) c.args.sent c.sent.view_is c.keep_halves.ensures
    (λ s k. c.requires.present s k.stands) c.take_sent.ensures.takes

pub returns-clause-whole : goal.returns-clause-whole
returns-clause-whole g c =
    sent_keeps {l = c.args.body.now} (record { link = c.sent.inside.link; session = c.sent.inside.session; end = c.sent.inside.end; output = c.sent.inside.output }) c.args.sent c.sent.view_is c.keep_halves.ensures
    (λ s k. c.requires.present s k.stands) c.take_sent.ensures.takes c.take_sent.ensures.goes c.requires.whole
