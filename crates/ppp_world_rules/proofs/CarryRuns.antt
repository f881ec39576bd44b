-- Carrying keeps what is proved of a link and of the table.
use Rattle.std.proofs.Common.{refl, sym, subst, ap, ◌∙◌, ◌≡◌, ◌-◌, ℕ, ◌≤◌, Bool, true, false, Option, None, Some, List, [], ◌∷◌}
use Rattle.ppp_base.specs.declared.posts.Post.{Post}
use Rattle.ppp_base.specs.declared.posts.UpPost.{UpPost}
use Rattle.ppp_carry.specs.CarryPart.{AllGiven, AllPosted, AllTaken, CarryPart, TakesIf}
use Rattle.ppp_link_facts.specs.LinkStands.{LinkStands}
use Rattle.ppp_link_facts.proofs.LinkFacts.{link_event_stands, post_stands}
use Rattle.ppp_link_rules.specs.LinkEvent.{FromTable}
use Rattle.ppp_link_rules.specs.LinkState.{LinkState}
use Rattle.ppp_table.specs.PostPart.{PostPart}
use Rattle.ppp_table.specs.TableState.{TableState}
use Rattle.ppp_world_rules.specs.Carries.{PostTaken, TakesPost, is_present_post}

-- posts are taken from the link
pub taken_stand : (posts : List UpPost) (old new : LinkState) → AllTaken PostTaken posts old new → LinkStands old → LinkStands new
taken_stand [] old new all k = subst LinkStands (sym all) k
taken_stand (p ∷ posts) old new all k = taken_stand posts all.0 new all.2 (subst LinkStands (sym all.1) (post_stands old k))

-- and come to the table, if each keeps what stands of it
pub posted_stand : {S : Type 0} (P : TableState S → Type 0) (link : ℕ) → ((post : UpPost) (old new : TableState S) → PostPart link post old new → P old → P new)
    → (posts : List UpPost) (old new : TableState S) → AllPosted link posts old new → P old → P new
posted_stand P link keeps [] old new all k = subst P (sym all) k
posted_stand P link keeps (p ∷ posts) old new all k = posted_stand P link keeps posts all.0 new all.2 (keeps p old all.0 all.1 k)

-- the table's posts come to the link
takes_stand : (present : Bool) (post : Post) (old new : LinkState) → is_present_post old post ≡ present → TakesIf present TakesPost post old new → LinkStands old → LinkStands new
takes_stand true post old new is takes k = subst LinkStands (sym takes) (link_event_stands (FromTable post) old is k)
takes_stand false post old new is takes k = subst LinkStands (sym takes) k

pub given_stand : (posts : List Post) (old new : LinkState) → AllGiven is_present_post TakesPost posts old new → LinkStands old → LinkStands new
given_stand [] old new all k = subst LinkStands (sym all) k
given_stand (p ∷ posts) old new all k = given_stand posts all.0 new all.2 (takes_stand (is_present_post old p) p old all.0 refl all.1 k)
