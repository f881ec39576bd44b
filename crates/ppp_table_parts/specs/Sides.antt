-- What waits at the table for the sixteen links, each at the place before its number.
use Rattle.std.specs.Prelude.{ℕ, ◌+◌, ◌-◌, ◌≤◌, ⊤, List, [], ◌∷◌, slice_set, slice_index_or}
use Rattle.ppp_table_parts.specs.declared.head.TheConstants.{MOST_POSTED}
use Rattle.ppp_table_parts.specs.Side.{SideState, frames_size, idle}

-- what waits for one link
abbrev pub side_of : ℕ → List SideState → SideState
side_of link sides = slice_index_or sides (link - 1) idle

-- This is done to what waits for one link.
abbrev pub at_link : ℕ → (SideState → SideState) → List SideState → List SideState
at_link link change sides = slice_set sides (link - 1) (change (side_of link sides))

-- This is done to what waits for each link, by the link's number; the first has this one.
abbrev pub each_link : (ℕ → SideState → SideState) → ℕ → List SideState → List SideState
each_link change link [] = []
each_link change link (side ∷ sides) = change link side ∷ each_link change (link + 1) sides

-- how many frames were dropped, as far as a count goes
abbrev pub frames_dropped : List SideState → ℕ
frames_dropped [] = 0
frames_dropped (side ∷ sides) = side.frames.dropped + frames_dropped sides

-- The frames that wait for each link fit into its ring.
abbrev pub AreWithin : List SideState → Type 0
AreWithin [] = ⊤
AreWithin (side ∷ sides) = (frames_size side.frames.waiting ≤ MOST_POSTED) × AreWithin sides
