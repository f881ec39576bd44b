-- What the two rings of a link take: the octets for its line, and what is posted to the table.
use Rattle.std.specs.Prelude.{ℕ, ◌+◌, nat_le, Bool, true, false, if◌then◌else◌, List, [], ◌∷◌, ◌++◌, length}
use Rattle.ppp_base.specs.RingAfter.{Ring, RingAfter}
use Rattle.ppp_link_rules.specs.declared.limits.TheConstants.{OUT_RING, FRAME_ROOM, FRAME_HEAD}
use Rattle.ppp_link_rules.specs.UpValue.{UpValue, Asks, Hands, Leaves}

-- the octets that wait to be written on the line
abbrev pub put_out : List ℕ → Ring ℕ → Ring ℕ
put_out octets ring = RingAfter length OUT_RING octets ring

-- What frames that wait for the table take. A Join and a Leave take none of that room: it is kept free beside it.
abbrev pub frame_size : UpValue → ℕ
frame_size (Asks join) = 0
frame_size (Hands protocol information) = FRAME_HEAD + length information
frame_size (Leaves stay) = 0

abbrev pub frames_size : List UpValue → ℕ
frames_size [] = 0
frames_size (post ∷ posts) = frame_size post + frames_size posts

abbrev pub put_frame : ℕ → List ℕ → Ring UpValue → Ring UpValue
put_frame protocol information ring = RingAfter frames_size FRAME_ROOM (Hands protocol information ∷ []) ring

-- A Join or a Leave, of which one each waits at most, always fits.
abbrev pub put_control : UpValue → Ring UpValue → Ring UpValue
put_control post ring = record ring { waiting = ring.waiting ++ post ∷ [] }

abbrev pub is_control : UpValue → Bool
is_control (Asks join) = true
is_control (Hands protocol information) = false
is_control (Leaves stay) = true

-- whether a Join or a Leave waits
abbrev pub has_control : List UpValue → Bool
has_control [] = false
has_control (post ∷ posts) = if is_control post then true else has_control posts
