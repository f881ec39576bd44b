-- The posts between a link and the table, given one after the other.
use Rattle.std.specs.Prelude.{ℕ, ◌≡◌, Bool, true, false, List, [], ◌∷◌}
use Rattle.ppp_base.specs.declared.posts.Post.{Post}
use Rattle.ppp_base.specs.declared.posts.UpPost.{UpPost}
use Rattle.ppp_table_parts.specs.Side.{emptied, posts_of}
use Rattle.ppp_table_parts.specs.Sides.{at_link, side_of}
use Rattle.ppp_table.specs.PostPart.{PostPart}
use Rattle.ppp_table.specs.TableState.{TableState}

-- These posts of a link come to the table, the first first, each by what one post makes of it.
abbrev pub AllPosted : {S : Type 0} → ℕ → List UpPost → (old new : TableState S) → Type 0
AllPosted link [] old new = new ≡ old
AllPosted {S = S} link (p ∷ posts) old new = (mid : TableState S) × PostPart link p old mid × AllPosted link posts mid new

-- So many posts are taken from the link, one after the other.
abbrev pub AllTaken : {E : Type 0} → (E → E → Type 0) → List UpPost → (old new : E) → Type 0
AllTaken Posted [] old new = new ≡ old
AllTaken {E = E} Posted (p ∷ posts) old new = (mid : E) × Posted old mid × AllTaken Posted posts mid new

-- A link takes a post of the table of its present stay; one of another stay is dropped.
abbrev pub TakesIf : {E : Type 0} → Bool → (E → Post → E → Type 0) → Post → (old new : E) → Type 0
TakesIf true Takes p old new = Takes old p new
TakesIf false Takes p old new = new ≡ old

-- It is given these, the first first.
abbrev pub AllGiven : {E : Type 0} → (E → Post → Bool) → (E → Post → E → Type 0) → List Post → (old new : E) → Type 0
AllGiven is_present Takes [] old new = new ≡ old
AllGiven {E = E} is_present Takes (p ∷ posts) old new = (mid : E) × TakesIf (is_present old p) Takes p old mid × AllGiven is_present Takes posts mid new

-- Every post of the link that waits comes to the table. Then every post of the table that waits for that link is given to it. What the link posts by that
-- waits for the next carrying.
pub record CarryPart {E S : Type 0} (is_present : E → Post → Bool) (Takes : E → Post → E → Type 0) (Posted : E → E → Type 0) (number : ℕ) (waiting : List UpPost) (old new : E)
    (was now : TableState S) : Type 0 where
  pub between : E
  pub mid : TableState S
  pub from_link : AllTaken Posted waiting old between
  pub up : AllPosted number waiting was mid
  pub down : AllGiven is_present Takes (posts_of (side_of number mid.sides)) between new
  pub after : now ≡ record mid { sides = at_link number emptied mid.sides }
