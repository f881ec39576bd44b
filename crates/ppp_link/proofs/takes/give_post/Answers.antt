use Rattle.ppp_link_rules.specs.Errands.{with_post_taken}
use Rattle.ppp_link.proofs.GiveFacts.{body_gives_some, post_whole}
use Rattle.ppp_link.proofs.takes.give_post.Goals as goal

pub returns-clause-gives : goal.returns-clause-gives
returns-clause-gives g c = body_gives_some with_post_taken c.args.body.now _ c.give_post.result c.give_post.ensures.gives

pub returns-clause-whole : goal.returns-clause-whole
returns-clause-whole g c dialer_of line_of w = post_whole c.give_post.result c.give_post.ensures.gives c.give_post.ensures.none c.give_post.ensures.goes w
