use Rattle.std.proofs.Common.{refl}
use Rattle.ppp_base.specs.declared.posts.Post.TheVariants as post
use Rattle.ppp_table_parts.specs.Side.{with_control}
use Rattle.ppp_table.proofs.Wholes.{whole_at}
use Rattle.ppp_table.proofs.core_state.TableCore.refuse.Goals as goal

pub returns-clause-whole : goal.returns-clause-whole
returns-clause-whole g c = whole_at c.args.link (with_control (post.Refused c.args.stay c.args.reason)) _ c.args.self.now _ c.self.view_is c.put_control.ensures (λ side. refl) c.requires.whole
