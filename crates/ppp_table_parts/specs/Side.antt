-- What waits at the table for one link.
use Rattle.std.specs.Prelude.{ℕ, Bool, true, false, Option, None, Some, option_to_list, List, [], ◌∷◌, ◌++◌, drop, if◌then◌else◌}
use Rattle.ppp_base.specs.RingAfter.{Ring, RingAfter}
use Rattle.ppp_base.specs.declared.posts.Post.{Post}
use Rattle.ppp_base.specs.declared.posts.Post.TheVariants as post
use Rattle.ppp_ring.specs.Pieces.{Piece, taken_by}
use Rattle.ppp_table_parts.specs.declared.head.FrameHead.{FrameHead}
use Rattle.ppp_table_parts.specs.declared.head.TheConstants.{HEAD_SIZE, MOST_POSTED}
use Rattle.ppp_table_parts.specs.Key.{Terms}

-- The one control post, which is a Member, Refused or Close; whether a Wake waits; the frames that wait, the oldest first; and with which terms the link last came into a
-- bundle.
pub record SideState : Type 0 where
  pub control : Option Post
  pub wake : Bool
  pub frames : Ring (Piece FrameHead)
  pub terms : Option Terms

-- Nothing waits.
abbrev pub idle : SideState
idle = record { control = None; wake = false; frames = record { waiting = []; dropped = 0 }; terms = None }

-- what frames take in the ring: four octets and the information
abbrev pub frames_size : List (Piece FrameHead) → ℕ
frames_size frames = taken_by HEAD_SIZE frames

-- A newer control post takes the place of an older one.
abbrev pub with_control : Post → SideState → SideState
with_control p side = record side { control = Some p }

abbrev pub with_wake : SideState → SideState
with_wake side = record side { wake = true }

-- A frame is appended whole where it fits, else dropped and counted.
abbrev pub with_frame : FrameHead → List ℕ → SideState → SideState
with_frame head information side =
    record side { frames = RingAfter frames_size MOST_POSTED (record { head = head; octets = information } ∷ []) side.frames }

-- The frames that wait are dropped, and not counted.
abbrev pub without_frames : SideState → SideState
without_frames side = record side { frames = record side.frames { waiting = [] } }

abbrev pub with_terms : Terms → SideState → SideState
with_terms terms side = record side { terms = Some terms }

-- The control post goes out before a Wake, and that before the frames in their order.
abbrev pub post_of : Piece FrameHead → Post
post_of frame = if frame.head.rejected then post.Reject frame.head.protocol frame.octets else post.Send frame.head.protocol frame.octets

abbrev pub first_frame : List (Piece FrameHead) → Option Post
first_frame [] = None
first_frame (frame ∷ frames) = Some (post_of frame)

abbrev pub first_of : Option Post → Bool → List (Piece FrameHead) → Option Post
first_of (Some p) wake frames = Some p
first_of None true frames = Some post.Wake
first_of None false frames = first_frame frames

abbrev pub first_post : SideState → Option Post
first_post side = first_of side.control side.wake side.frames.waiting

-- and what waits then
abbrev pub after_of : Option Post → Bool → SideState → SideState
after_of (Some p) wake side = record side { control = None }
after_of None true side = record side { wake = false }
after_of None false side = record side { frames = record side.frames { waiting = drop 1 side.frames.waiting } }

abbrev pub after_first : SideState → SideState
after_first side = after_of side.control side.wake side

-- all that waits, in the order in which it goes out
abbrev pub wake_posts : Bool → List Post
wake_posts false = []
wake_posts true = post.Wake ∷ []

abbrev pub frame_posts : List (Piece FrameHead) → List Post
frame_posts [] = []
frame_posts (frame ∷ frames) = post_of frame ∷ frame_posts frames

abbrev pub posts_of : SideState → List Post
posts_of side = option_to_list side.control ++ wake_posts side.wake ++ frame_posts side.frames.waiting

-- All of it is taken.
abbrev pub emptied : SideState → SideState
emptied side = record side { control = None; wake = false; frames = record side.frames { waiting = [] } }
