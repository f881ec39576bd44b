-- What waits in a link for the table, where it is kept: a list of what waits, the octets of the frames one behind the other, and beside them the Join and the Leave.
use Rattle.std.specs.Prelude.{ℕ, ◌+◌, ◌*◌, ◌≤◌, ◌≡◌, Bool, true, false, if◌then◌else◌, Option, None, Some, List, [], ◌∷◌, length, take, drop, ⊤}
use Rattle.ppp_base.specs.declared.posts.Join.{Join}
use Rattle.ppp_base.specs.declared.posts.UpPost.{UpPost}
use Rattle.ppp_base.specs.declared.posts.UpPost.TheVariants as post
use Rattle.ppp_link_parts.specs.declared.up_ring.Entry.{Entry}
use Rattle.ppp_link_parts.specs.declared.up_ring.Entry.TheVariants as entry
use Rattle.ppp_link_rules.specs.declared.limits.TheConstants.{FRAME_HEAD, FRAME_ROOM}
use Rattle.ppp_base.specs.RingAfter.{Ring, RingAfter}
use Rattle.ppp_link_rules.specs.Rings.{frames_size}
use Rattle.ppp_link_rules.specs.UpValue.{UpValue, JoinValue, Asks, Hands, Leaves}

-- the posts that wait
abbrev pub posts_of : List Entry → List ℕ → Option Join → Option ℕ → List UpPost
posts_of [] octets join leave = []
posts_of (entry.Join ∷ entries) octets None leave = posts_of entries octets None leave
posts_of (entry.Join ∷ entries) octets (Some j) leave = post.Join j ∷ posts_of entries octets None leave
posts_of (entry.Frame protocol size ∷ entries) octets join leave = post.Frame protocol (take size octets) ∷ posts_of entries (drop size octets) join leave
posts_of (entry.Leave ∷ entries) octets join None = posts_of entries octets join None
posts_of (entry.Leave ∷ entries) octets join (Some stay) = post.Leave stay ∷ posts_of entries octets join None

-- the octets of the frames among them
abbrev pub size_of : Entry → ℕ
size_of entry.Join = 0
size_of (entry.Frame protocol size) = size
size_of entry.Leave = 0

abbrev pub sizes_of : List Entry → ℕ
sizes_of [] = 0
sizes_of (e ∷ entries) = size_of e + sizes_of entries

abbrev pub frame_of : Entry → ℕ
frame_of entry.Join = 0
frame_of (entry.Frame protocol size) = 1
frame_of entry.Leave = 0

abbrev pub frames_of : List Entry → ℕ
frames_of [] = 0
frames_of (e ∷ entries) = frame_of e + frames_of entries

abbrev pub join_of : Entry → ℕ
join_of entry.Join = 1
join_of (entry.Frame protocol size) = 0
join_of entry.Leave = 0

abbrev pub joins_of : List Entry → ℕ
joins_of [] = 0
joins_of (e ∷ entries) = join_of e + joins_of entries

abbrev pub leave_of : Entry → ℕ
leave_of entry.Join = 0
leave_of (entry.Frame protocol size) = 0
leave_of entry.Leave = 1

abbrev pub leaves_of : List Entry → ℕ
leaves_of [] = 0
leaves_of (e ∷ entries) = leave_of e + leaves_of entries

abbrev pub one_if : {A : Type 0} → Option A → ℕ
one_if None = 0
one_if (Some a) = 1

-- none is larger than a frame
abbrev pub AreSmall : List Entry → Type 0
AreSmall [] = ⊤
AreSmall (e ∷ entries) = (size_of e ≤ 1508) × AreSmall entries

-- The octets are those of the frames, the Join and the Leave are kept where they wait, and all fits.
pub record IsUp (entries : List Entry) (octets : List ℕ) (join : Option Join) (leave : Option ℕ) (frames : ℕ) : Type 0 where
  pub sizes : length octets ≡ sizes_of entries
  pub count : frames ≡ frames_of entries
  pub joins : joins_of entries ≡ one_if join
  pub leaves : leaves_of entries ≡ one_if leave
  pub small : AreSmall entries
  pub fits : FRAME_HEAD * frames + length octets ≤ FRAME_ROOM

-- A post, as a plain value.
abbrev pub join_value : Join → JoinValue
join_value j = record { stay = j.stay; peer = j.peer; disc = j.disc; mrru = j.mrru; mru = j.mru; allow = j.allow }

abbrev pub value_of : UpPost → UpValue
value_of (post.Join j) = Asks (join_value j)
value_of (post.Frame protocol information) = Hands protocol information
value_of (post.Leave stay) = Leaves stay

abbrev pub values_of : List UpPost → List UpValue
values_of [] = []
values_of (p ∷ posts) = value_of p ∷ values_of posts

abbrev pub ring_of : Ring UpPost → Ring UpValue
ring_of ring = record { waiting = values_of ring.waiting; dropped = ring.dropped }

-- whether a Leave waits
abbrev pub is_leave : UpValue → Bool
is_leave (Asks join) = false
is_leave (Hands protocol information) = false
is_leave (Leaves stay) = true

abbrev pub has_leave : List UpValue → Bool
has_leave [] = false
has_leave (post ∷ posts) = if is_leave post then true else has_leave posts

-- WHAT A RING BECOMES

-- with a frame, or with one more that was dropped
abbrev pub posts_size : List UpPost → ℕ
posts_size posts = frames_size (values_of posts)

abbrev pub with_frame : ℕ → List ℕ → Ring UpPost → Ring UpPost
with_frame protocol information ring = RingAfter posts_size FRAME_ROOM (post.Frame protocol information ∷ []) ring

-- without its oldest post
abbrev pub without_first : Ring UpPost → Ring UpPost
without_first ring = record ring { waiting = drop 1 ring.waiting }
