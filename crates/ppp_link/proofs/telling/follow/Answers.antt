use Rattle.std.proofs.Common.{refl}
use Rattle.ppp_link_rules.specs.LinkEvent.{FromTable}
use Rattle.ppp_link.proofs.KeepFacts.{same_id_by, takes_by, whole_told}
use Rattle.ppp_link.proofs.telling.follow.Goals as goal

pub returns-clause-takes : goal.returns-clause-takes
returns-clause-takes g c = takes_by {l = c.args.body.now} (FromTable c.args.post) c.keep_halves.ensures (λ s k. c.requires.present s k.stands) c.take_post.ensures.takes

pub returns-clause-same : goal.returns-clause-same
returns-clause-same g c = same_id_by c.args.body.now (FromTable c.args.post) c.keep_halves.ensures (λ s k. c.requires.present s k.stands) c.take_post.ensures.takes c.requires.goes

pub returns-clause-whole : goal.returns-clause-whole
returns-clause-whole g c dialer_of line_of w = whole_told {l = c.args.body.now} (FromTable c.args.post) c.keep_halves.ensures refl (λ s k. c.requires.present s k.stands) c.take_post.ensures.takes c.take_post.ensures.goes w
