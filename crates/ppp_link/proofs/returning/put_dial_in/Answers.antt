use Rattle.ppp_link.proofs.ReturnFacts.{dial_takes_by, dial_whole_by}
use Rattle.ppp_link.proofs.returning.put_dial_in.Goals as goal

pub returns-clause-takes : goal.returns-clause-takes
returns-clause-takes g c =
    dial_takes_by {l = c.args.body.now} (record { link = c.done.inside.link; session = c.done.inside.session; failed = c.done.inside.failed; dialer = c.done.inside.dialer; came = c.done.inside.came }) c.args.done c.done.view_is
    c.keep_halves.ensures c.put_line.ensures.input c.put_line.ensures.output c.put_line.ensures.given c.is_some.ensures (λ s k. c.requires.present s k.stands) c.take_dial.ensures.takes

pub returns-clause-whole : goal.returns-clause-whole
returns-clause-whole g c =
    dial_whole_by g.D.Out.Sink.state {l = c.args.body.now} (record { link = c.done.inside.link; session = c.done.inside.session; failed = c.done.inside.failed; dialer = c.done.inside.dialer; came = c.done.inside.came }) c.args.done c.done.view_is
    c.done.invariant.1 c.done.invariant.0 c.keep_halves.ensures c.put_line.ensures.input c.put_line.ensures.output c.put_line.ensures.given c.is_some.ensures (λ s k. c.requires.present s k.stands)
    c.take_dial.ensures.takes c.take_dial.ensures.goes c.requires.whole
