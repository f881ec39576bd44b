-- The posts that wait for a link, and the first of them.
use Rattle.std.proofs.Common.{◌≡◌, ◌<◌, ◌-◌, ℕ, Bool, true, false, Option, None, Some, IfNone, option_to_list, List, [], ◌∷◌, ◌++◌, length, refl, ap, ◌∙◌}
use Rattle.ppp_base.specs.declared.posts.Post.{Post}
use Rattle.ppp_base.specs.declared.posts.Post.TheVariants as post
use Rattle.ppp_ring.specs.Pieces.{Piece}
use Rattle.ppp_table_parts.specs.declared.head.FrameHead.{FrameHead}
use Rattle.ppp_table_parts.specs.Key.{Terms}
use Rattle.ppp_table_parts.specs.Side.{SideState, after_first, after_of, emptied, first_of, first_post, post_of, posts_of}
use Rattle.ppp_table_parts.specs.Sides.{at_link, side_of}
use Rattle.ppp_table_parts.proofs.SideLemmas.{none_at, set_there, twice_at}

by_parts : (control : Option Post) (wake : Bool) (frames : List (Piece FrameHead)) (side : SideState) → side.control ≡ control → side.wake ≡ wake → side.frames.waiting ≡ frames
    → posts_of side ≡ option_to_list (first_of control wake frames) ++ posts_of (after_of control wake side)
by_parts (Some p) wake frames side c w f = rw c refl
by_parts None true frames side c w f = rw (c, w) refl
by_parts None false [] side c w f = rw (c, w, f) refl
by_parts None false (frame ∷ frames) side c w f = rw (c, w, f) refl

pub first_is : (side : SideState) → posts_of side ≡ option_to_list (first_post side) ++ posts_of (after_first side)
first_is side = by_parts side.control side.wake side.frames.waiting side refl refl refl

none_by : (control : Option Post) (wake : Bool) (frames : List (Piece FrameHead)) (side : SideState) → side.control ≡ control → side.wake ≡ wake → side.frames.waiting ≡ frames
    → IfNone (first_of control wake frames) (posts_of side ≡ [])
none_by (Some p) wake frames side c w f = tt
none_by None true frames side c w f = tt
none_by None false [] side c w f = rw (c, w, f) refl
none_by None false (frame ∷ frames) side c w f = tt

pub none_waits : (side : SideState) → IfNone (first_post side) (posts_of side ≡ [])
none_waits side = none_by side.control side.wake side.frames.waiting side refl refl refl

-- OF ONE OF THE LINKS

pub first_there : (link : ℕ) (sides : List SideState) → link - 1 < length sides
    → posts_of (side_of link sides) ≡ option_to_list (first_post (side_of link sides)) ++ posts_of (side_of link (at_link link after_first sides))
first_there link sides some = rw (set_there link after_first sides some) (first_is (side_of link sides))

-- Once the first is taken, all that is left is taken as all would be.
emptied_by : (control : Option Post) (wake : Bool) (side : SideState) → emptied (after_of control wake side) ≡ emptied side
emptied_by (Some p) wake side = refl
emptied_by None true side = refl
emptied_by None false side = refl

pub emptied_after : (link : ℕ) (sides : List SideState) → link - 1 < length sides → at_link link emptied (at_link link after_first sides) ≡ at_link link emptied sides
emptied_after link sides some =
    twice_at link after_first emptied sides some ∙ ap (λ (side : SideState). at_link link (λ s. side) sides) (emptied_by (side_of link sides).control (side_of link sides).wake (side_of link sides))

-- Where nothing waits there is nothing to take.
no_post : {A : Type 0} (p : Post) (rest : List Post) → p ∷ rest ≡ [] → A
no_post p rest e = absurd (let f : p ∷ rest ≡ [] = e in cc)

emptied_of : (control : Option Post) (wake : Bool) (frames : List (Piece FrameHead)) (dropped : ℕ) (terms : Option Terms)
    → posts_of (record { control = control; wake = wake; frames = record { waiting = frames; dropped = dropped }; terms = terms }) ≡ []
    → emptied (record { control = control; wake = wake; frames = record { waiting = frames; dropped = dropped }; terms = terms })
    ≡ record { control = control; wake = wake; frames = record { waiting = frames; dropped = dropped }; terms = terms }
emptied_of (Some p) wake frames dropped terms e = no_post p _ e
emptied_of None true frames dropped terms e = no_post post.Wake _ e
emptied_of None false [] dropped terms e = refl
emptied_of None false (frame ∷ frames) dropped terms e = no_post (post_of frame) _ e

pub nothing_there : (link : ℕ) (sides : List SideState) → posts_of (side_of link sides) ≡ [] → at_link link emptied sides ≡ sides
nothing_there link sides e =
    let side : SideState = side_of link sides in
    ap (λ (s : SideState). at_link link (λ t. s) sides) (emptied_of side.control side.wake side.frames.waiting side.frames.dropped side.terms e) ∙ none_at link sides
