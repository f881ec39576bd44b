-- One post after the other.
use Rattle.std.proofs.Common.{◌≡◌, ◌<◌, ◌-◌, ◌↔◌, ℕ, Bool, true, false, Option, None, Some, option_to_list, List, [], ◌∷◌, ◌++◌, length, refl, ap, sym, subst, ◌∙◌, arith}
use Rattle.ppp_base.specs.Stepped.{IfStale, IsTaken, OnTaken}
use Rattle.ppp_base.specs.declared.stepped.Stepped.{Stepped}
use Rattle.ppp_base.specs.declared.stepped.Stepped.TheVariants.{Taken, Stale}
use Rattle.ppp_base.specs.declared.posts.Post.{Post}
use Rattle.ppp_base.specs.declared.posts.UpPost.{UpPost}
use Rattle.ppp_table_parts.specs.Side.{SideState, after_first, emptied}
use Rattle.ppp_table_parts.specs.Sides.{at_link}
use Rattle.ppp_table_parts.proofs.PostLemmas.{emptied_after}
use Rattle.ppp_table.specs.PostPart.{PostPart}
use Rattle.ppp_table.specs.TableState.{TableState}
use Rattle.ppp_carry.specs.CarryPart.{AllGiven, AllPosted, AllTaken, TakesIf}

-- a link takes a post, or it comes back
not_present : (b : Bool) → (b ≡ true → ⊥) → b ≡ false
not_present true f = absurd (f refl)
not_present false f = refl

pub given_by : {E : Type 0} (r : Stepped Post) (is_present : E → Post → Bool) (Takes : E → Post → E → Type 0) (p : Post) (old new : E) → (IsTaken r ↔ (is_present old p ≡ true)) → OnTaken r (Takes old p new)
    → IfStale r (λ back. new ≡ old) → TakesIf (is_present old p) Takes p old new
given_by Taken is_present Takes p old new there takes same = rw (there.0 tt) takes
given_by (Stale back) is_present Takes p old new there takes same = rw (not_present (is_present old p) there.1) same

-- one post more
pub posted_one : {S : Type 0} (link : ℕ) (p : UpPost) (left posts : List UpPost) (old mid after : TableState S) → posts ≡ p ∷ left → PostPart link p old mid → AllPosted link left mid after → AllPosted link posts old after
posted_one link p left posts old mid after e part rest = rw e (mid, part, rest)

pub taken_one : {E : Type 0} (Posted : E → E → Type 0) (p : UpPost) (left posts : List UpPost) (old mid after : E) → posts ≡ p ∷ left → Posted old mid → AllTaken Posted left mid after → AllTaken Posted posts old after
taken_one Posted p left posts old mid after e one rest = rw e (mid, one, rest)

pub given_one : {E : Type 0} (is_present : E → Post → Bool) (Takes : E → Post → E → Type 0) (p : Post) (left posts : List Post) (old mid after : E) → posts ≡ p ∷ left
    → TakesIf (is_present old p) Takes p old mid → AllGiven is_present Takes left mid after → AllGiven is_present Takes posts old after
given_one is_present Takes p left posts old mid after e one rest = rw e (mid, one, rest)

-- the table with what is left
pub beside_next : {S : Type 0} (old mid new : TableState S) (sides : List SideState) → mid ≡ record old { sides = mid.sides } → new ≡ record mid { sides = sides } → new ≡ record old { sides = new.sides }
beside_next {S = S} old mid new sides e f =
    f ∙ ap (λ (t : TableState S). record t { sides = sides }) e ∙ ap (λ (ss : List SideState). record old { sides = ss }) (sym (ap (λ (t : TableState S). t.sides) f))

pub left_next : {S : Type 0} (link : ℕ) (mid new : TableState S) → link - 1 < length mid.sides → new ≡ record mid { sides = at_link link after_first mid.sides } → at_link link emptied new.sides ≡ at_link link emptied mid.sides
left_next {S = S} link mid new there f = ap (λ (t : TableState S). at_link link emptied t.sides) f ∙ emptied_after link mid.sides there
