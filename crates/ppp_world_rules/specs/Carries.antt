-- What waits between a link and the table is carried, by what each of them makes of a post.
use Rattle.std.specs.Prelude.{ℕ, ◌≡◌, ◌≤◌, Bool, List}
use Rattle.ppp_base.specs.declared.posts.Post.{Post}
use Rattle.ppp_base.specs.declared.posts.UpPost.{UpPost}
use Rattle.ppp_carry.specs.CarryPart.{CarryPart}
use Rattle.ppp_link_parts.specs.UpRing.{values_of}
use Rattle.ppp_link_rules.specs.Errands.{with_post_taken}
use Rattle.ppp_link_rules.specs.LinkEvent.{FromTable}
use Rattle.ppp_link_rules.specs.LinkPart.{after, is_present}
use Rattle.ppp_link_rules.specs.LinkState.{LinkState}
use Rattle.ppp_outside.specs.declared.replay_spawner.ReplaySpawner.{ReplaySpawner}
use Rattle.ppp_table.specs.TableState.{TableState}

abbrev pub is_present_post : LinkState → Post → Bool
is_present_post s post = is_present (FromTable post) s

abbrev pub TakesPost : LinkState → Post → LinkState → Type 0
TakesPost old post new = new ≡ after (FromTable post) old

abbrev pub PostTaken : LinkState → LinkState → Type 0
PostTaken old new = new ≡ with_post_taken old

-- The posts of the link that wait, whose values these are, come to the table; then the table's come to the link. A link has a number from 1 to 16.
pub record Carries (old new : LinkState) (was now : TableState ReplaySpawner) : Type 0 where
  pub from_one : 1 ≤ old.id
  pub to_sixteen : old.id ≤ 16
  pub posts : List UpPost
  pub waiting : values_of posts ≡ old.up.waiting
  pub part : CarryPart is_present_post TakesPost PostTaken old.id posts old new was now
