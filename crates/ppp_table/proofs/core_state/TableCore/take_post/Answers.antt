use Rattle.ppp_table.proofs.Wholes.{whole_taken}
use Rattle.ppp_table.proofs.core_state.TableCore.take_post.Goals as goal

pub returns-clause-whole : goal.returns-clause-whole
returns-clause-whole g c = whole_taken c.args.link _ c.args.self.now _ c.self.view_is c.take.ensures.new c.requires.whole
