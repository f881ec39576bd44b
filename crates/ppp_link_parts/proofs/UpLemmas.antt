-- What waits for the table, where an entry is appended to it.
use Rattle.std.proofs.Common.{refl, ap, sym, ◌∙◌, ◌≡◌, ℕ, ◌+◌, ◌*◌, ◌≤◌, ◌<◌, Bool, true, false, ◌||◌, nat_le, if◌then◌else◌, Option, None, Some, List, [], ◌∷◌, ◌++◌, length, take, drop, is_some, arith, length-append, length-drop}
use Rattle.std.proofs.lemmas.List.{drop-append-le, length-take-le, take-append-le, take_all}
use Rattle.ppp_base.specs.declared.posts.Join.{Join}
use Rattle.ppp_base.specs.declared.posts.UpPost.{UpPost}
use Rattle.ppp_base.specs.declared.posts.UpPost.TheVariants as post
use Rattle.ppp_base.specs.RingAfter.{Ring, one_more}
use Rattle.ppp_link_parts.specs.declared.up_ring.Entry.{Entry}
use Rattle.ppp_link_parts.specs.declared.up_ring.Entry.TheVariants as entry
use Rattle.ppp_link_rules.specs.declared.limits.TheConstants.{FRAME_HEAD, FRAME_ROOM}
use Rattle.ppp_link_rules.specs.Rings.{frames_size, has_control, put_control, put_frame}
use Rattle.ppp_link_rules.specs.UpValue.{UpValue, Hands}
use Rattle.ppp_link_parts.specs.UpRing.{AreSmall, IsUp, frames_of, has_leave, joins_of, leaves_of, one_if, posts_of, posts_size, ring_of, size_of, sizes_of, value_of, values_of, with_frame}

pub values_append : (posts more : List UpPost) → values_of (posts ++ more) ≡ values_of posts ++ values_of more
values_append [] more = refl
values_append (p ∷ posts) more = ap (λ (l : List UpValue). value_of p ∷ l) (values_append posts more)

-- as plain values
pub appended : (ring : Ring UpPost) (p : UpPost) → ring_of (record ring { waiting = ring.waiting ++ p ∷ [] }) ≡ put_control (value_of p) (ring_of ring)
appended ring p = ap (λ (l : List UpValue). record (ring_of ring) { waiting = l }) (values_append ring.waiting (p ∷ []))

-- THE POSTS BEHIND AN ENTRY MORE

pub join_behind : (entries : List Entry) (octets : List ℕ) (j : Join) (leave : Option ℕ) → joins_of entries ≡ 0
    → posts_of (entries ++ entry.Join ∷ []) octets (Some j) leave ≡ posts_of entries octets None leave ++ post.Join j ∷ []
join_behind [] octets j leave e = refl
join_behind (entry.Join ∷ entries) octets j leave e = absurd (omega (arith, e))
join_behind (entry.Frame protocol size ∷ entries) octets j leave e =
    ap (λ (l : List UpPost). post.Frame protocol (take size octets) ∷ l) (join_behind entries (drop size octets) j leave (omega (arith, e)))
join_behind (entry.Leave ∷ entries) octets j None e = join_behind entries octets j None (omega (arith, e))
join_behind (entry.Leave ∷ entries) octets j (Some stay) e =
    ap (λ (l : List UpPost). post.Leave stay ∷ l) (join_behind entries octets j None (omega (arith, e)))

pub leave_behind : (entries : List Entry) (octets : List ℕ) (join : Option Join) (stay : ℕ) → leaves_of entries ≡ 0
    → posts_of (entries ++ entry.Leave ∷ []) octets join (Some stay) ≡ posts_of entries octets join None ++ post.Leave stay ∷ []
leave_behind [] octets join stay e = refl
leave_behind (entry.Leave ∷ entries) octets join stay e = absurd (omega (arith, e))
leave_behind (entry.Frame protocol size ∷ entries) octets join stay e =
    ap (λ (l : List UpPost). post.Frame protocol (take size octets) ∷ l) (leave_behind entries (drop size octets) join stay (omega (arith, e)))
leave_behind (entry.Join ∷ entries) octets None stay e = leave_behind entries octets None stay (omega (arith, e))
leave_behind (entry.Join ∷ entries) octets (Some j) stay e =
    ap (λ (l : List UpPost). post.Join j ∷ l) (leave_behind entries octets None stay (omega (arith, e)))

pub frame_behind : (entries : List Entry) (octets information : List ℕ) (join : Option Join) (leave : Option ℕ) (protocol size : ℕ) → length octets ≡ sizes_of entries
    → size ≡ length information
    → posts_of (entries ++ entry.Frame protocol size ∷ []) (octets ++ information) join leave ≡ posts_of entries octets join leave ++ post.Frame protocol information ∷ []
frame_behind [] [] information join leave protocol size e f = ap (λ (l : List ℕ). post.Frame protocol l ∷ []) (take_all size information (omega (arith, f)))
frame_behind [] (octet ∷ octets) information join leave protocol size e f = absurd (omega (arith, e))
frame_behind (entry.Join ∷ entries) octets information None leave protocol size e f = frame_behind entries octets information None leave protocol size (omega (arith, e)) f
frame_behind (entry.Join ∷ entries) octets information (Some j) leave protocol size e f =
    ap (λ (l : List UpPost). post.Join j ∷ l) (frame_behind entries octets information None leave protocol size (omega (arith, e)) f)
frame_behind (entry.Frame other n ∷ entries) octets information join leave protocol size e f =
    ap (λ (l : List ℕ). post.Frame other l ∷ posts_of (entries ++ entry.Frame protocol size ∷ []) (drop n (octets ++ information)) join leave) (take-append-le n octets information (omega (arith, e)))
    ∙ (ap (λ (l : List ℕ). post.Frame other (take n octets) ∷ posts_of (entries ++ entry.Frame protocol size ∷ []) l join leave) (drop-append-le n octets information (omega (arith, e)))
    ∙ ap (λ (l : List UpPost). post.Frame other (take n octets) ∷ l)
    (frame_behind entries (drop n octets) information join leave protocol size (omega (arith, e, length-drop n octets)) f))
frame_behind (entry.Leave ∷ entries) octets information join None protocol size e f = frame_behind entries octets information join None protocol size (omega (arith, e)) f
frame_behind (entry.Leave ∷ entries) octets information join (Some stay) protocol size e f =
    ap (λ (l : List UpPost). post.Leave stay ∷ l) (frame_behind entries octets information join None protocol size (omega (arith, e)) f)

-- WHAT THEY TAKE

pub size_counted : (entries : List Entry) (octets : List ℕ) (join : Option Join) (leave : Option ℕ) → length octets ≡ sizes_of entries
    → posts_size (posts_of entries octets join leave) ≡ FRAME_HEAD * frames_of entries + length octets
size_counted [] octets join leave e = omega (arith, e)
size_counted (entry.Join ∷ entries) octets None leave e = omega (arith, size_counted entries octets None leave (omega (arith, e)))
size_counted (entry.Join ∷ entries) octets (Some j) leave e = omega (arith, size_counted entries octets None leave (omega (arith, e)))
size_counted (entry.Frame protocol n ∷ entries) octets join leave e =
    omega (arith, e, length-drop n octets, length-take-le n octets (omega (arith, e)), size_counted entries (drop n octets) join leave (omega (arith, e, length-drop n octets)))
size_counted (entry.Leave ∷ entries) octets join None e = omega (arith, size_counted entries octets join None (omega (arith, e)))
size_counted (entry.Leave ∷ entries) octets join (Some stay) e = omega (arith, size_counted entries octets join None (omega (arith, e)))

entries_counted : (entries : List Entry) → length entries ≡ frames_of entries + (joins_of entries + leaves_of entries)
entries_counted [] = refl
entries_counted (entry.Join ∷ entries) = omega (arith, entries_counted entries)
entries_counted (entry.Frame protocol size ∷ entries) = omega (arith, entries_counted entries)
entries_counted (entry.Leave ∷ entries) = omega (arith, entries_counted entries)

one_at_most : {A : Type 0} (o : Option A) → one_if o ≤ 1
one_at_most None = omega arith
one_at_most (Some a) = omega arith

-- where one of the two controls doesn't wait, an entry more has room
pub has_room : (entries : List Entry) (octets : List ℕ) (join : Option Join) (leave : Option ℕ) (frames : ℕ) → IsUp entries octets join leave frames
    → one_if join + one_if leave ≤ 1 → length entries < 16130
has_room entries octets join leave frames h le = omega (arith, entries_counted entries, h.count, h.joins, h.leaves, h.fits, le)

-- a frame more that fits too
pub has_frame_room : (entries : List Entry) (octets : List ℕ) (join : Option Join) (leave : Option ℕ) (frames : ℕ) → IsUp entries octets join leave frames
    → FRAME_HEAD * frames + FRAME_HEAD ≤ FRAME_ROOM → length entries < 16130
has_frame_room entries octets join leave frames h le =
    omega (arith, entries_counted entries, h.count, h.joins, h.leaves, one_at_most join, one_at_most leave, le)

-- THE CONTROLS

none_is : {A : Type 0} (o : Option A) → 0 ≡ one_if o → is_some o ≡ false
none_is None e = refl
none_is (Some a) e = absurd (omega (arith, e))

pub controls_wait : (entries : List Entry) (octets : List ℕ) (join : Option Join) (leave : Option ℕ) → joins_of entries ≡ one_if join → leaves_of entries ≡ one_if leave
    → has_control (values_of (posts_of entries octets join leave)) ≡ (is_some join || is_some leave)
controls_wait [] octets None None j l = refl
controls_wait [] octets None (Some stay) j l = absurd (omega (arith, l))
controls_wait [] octets (Some join) leave j l = absurd (omega (arith, j))
controls_wait (entry.Join ∷ entries) octets None leave j l = absurd (omega (arith, j))
controls_wait (entry.Join ∷ entries) octets (Some join) leave j l = refl
controls_wait (entry.Frame protocol size ∷ entries) octets join leave j l = controls_wait entries (drop size octets) join leave (omega (arith, j)) (omega (arith, l))
controls_wait (entry.Leave ∷ entries) octets join None j l = absurd (omega (arith, l))
controls_wait (entry.Leave ∷ entries) octets None (Some stay) j l = refl
controls_wait (entry.Leave ∷ entries) octets (Some join) (Some stay) j l = refl

pub leave_waits : (entries : List Entry) (octets : List ℕ) (join : Option Join) (leave : Option ℕ) → joins_of entries ≡ one_if join → leaves_of entries ≡ one_if leave
    → has_leave (values_of (posts_of entries octets join leave)) ≡ is_some leave
leave_waits [] octets join None j l = refl
leave_waits [] octets join (Some stay) j l = absurd (omega (arith, l))
leave_waits (entry.Join ∷ entries) octets None leave j l = absurd (omega (arith, j))
leave_waits (entry.Join ∷ entries) octets (Some join) leave j l = leave_waits entries octets None leave (omega (arith, j)) (omega (arith, l))
leave_waits (entry.Frame protocol size ∷ entries) octets join leave j l = leave_waits entries (drop size octets) join leave (omega (arith, j)) (omega (arith, l))
leave_waits (entry.Leave ∷ entries) octets join None j l = absurd (omega (arith, l))
leave_waits (entry.Leave ∷ entries) octets join (Some stay) j l = refl

-- SUMS OVER AN ENTRY MORE

pub joins_more : (entries : List Entry) (e : Entry) → joins_of (entries ++ e ∷ []) ≡ joins_of entries + joins_of (e ∷ [])
joins_more [] e = omega arith
joins_more (x ∷ entries) e = omega (arith, joins_more entries e)

pub leaves_more : (entries : List Entry) (e : Entry) → leaves_of (entries ++ e ∷ []) ≡ leaves_of entries + leaves_of (e ∷ [])
leaves_more [] e = omega arith
leaves_more (x ∷ entries) e = omega (arith, leaves_more entries e)

pub frames_more : (entries : List Entry) (e : Entry) → frames_of (entries ++ e ∷ []) ≡ frames_of entries + frames_of (e ∷ [])
frames_more [] e = omega arith
frames_more (x ∷ entries) e = omega (arith, frames_more entries e)

pub sizes_more : (entries : List Entry) (e : Entry) → sizes_of (entries ++ e ∷ []) ≡ sizes_of entries + size_of e
sizes_more [] e = omega arith
sizes_more (x ∷ entries) e = omega (arith, sizes_more entries e)

pub small_more : (entries : List Entry) (e : Entry) → size_of e ≤ 1508 → AreSmall entries → AreSmall (entries ++ e ∷ [])
small_more [] e le h = (le, tt)
small_more (x ∷ entries) e le h = (h.0, small_more entries e le h.1)

pub up_with_join : (entries : List Entry) (octets : List ℕ) (j : Join) (leave : Option ℕ) (frames : ℕ) → IsUp entries octets None leave frames
    → IsUp (entries ++ entry.Join ∷ []) octets (Some j) leave frames
up_with_join entries octets j leave frames h = record {
  sizes = omega (arith, h.sizes, sizes_more entries entry.Join);
  count = omega (arith, h.count, frames_more entries entry.Join);
  joins = omega (arith, h.joins, joins_more entries entry.Join);
  leaves = omega (arith, h.leaves, leaves_more entries entry.Join);
  small = small_more entries entry.Join (omega arith) h.small;
  fits = h.fits;
}

pub up_with_leave : (entries : List Entry) (octets : List ℕ) (join : Option Join) (stay frames : ℕ) → IsUp entries octets join None frames
    → IsUp (entries ++ entry.Leave ∷ []) octets join (Some stay) frames
up_with_leave entries octets join stay frames h = record {
  sizes = omega (arith, h.sizes, sizes_more entries entry.Leave);
  count = omega (arith, h.count, frames_more entries entry.Leave);
  joins = omega (arith, h.joins, joins_more entries entry.Leave);
  leaves = omega (arith, h.leaves, leaves_more entries entry.Leave);
  small = small_more entries entry.Leave (omega arith) h.small;
  fits = h.fits;
}

pub up_with_frame : (entries : List Entry) (octets information : List ℕ) (join : Option Join) (leave : Option ℕ) (frames protocol size : ℕ) → IsUp entries octets join leave frames
    → size ≡ length information → length information ≤ 1508 → FRAME_HEAD * frames + length octets + FRAME_HEAD + length information ≤ FRAME_ROOM
    → IsUp (entries ++ entry.Frame protocol size ∷ []) (octets ++ information) join leave (frames + 1)
up_with_frame entries octets information join leave frames protocol size h e small fits = record {
  sizes = omega (arith, h.sizes, sizes_more entries (entry.Frame protocol size), length-append octets information, e);
  count = omega (arith, h.count, frames_more entries (entry.Frame protocol size));
  joins = omega (arith, h.joins, joins_more entries (entry.Frame protocol size));
  leaves = omega (arith, h.leaves, leaves_more entries (entry.Frame protocol size));
  small = small_more entries (entry.Frame protocol size) (omega (arith, e, small)) h.small;
  fits = omega (arith, fits, length-append octets information);
}

-- THE RING WITH AN ENTRY MORE

abbrev pub up_posts : List Entry → List ℕ → Option Join → Option ℕ → ℕ → Ring UpPost
up_posts entries octets join leave dropped = record { waiting = posts_of entries octets join leave; dropped = dropped }

quiet : (entries : List Entry) (octets : List ℕ) (join : Option Join) (leave : Option ℕ) (frames : ℕ) → IsUp entries octets join leave frames
    → has_control (values_of (posts_of entries octets join leave)) ≡ false → (is_some join || is_some leave) ≡ false
quiet entries octets join leave frames h e = sym (controls_wait entries octets join leave h.joins h.leaves) ∙ e

pub join_room : (entries : List Entry) (octets : List ℕ) (join : Option Join) (leave : Option ℕ) (frames : ℕ) → IsUp entries octets join leave frames
    → has_control (values_of (posts_of entries octets join leave)) ≡ false → length entries < 16130
join_room entries octets None None frames h e = has_room entries octets None None frames h (omega arith)
join_room entries octets None (Some stay) frames h e = absurd (cc (quiet entries octets None (Some stay) frames h e))
join_room entries octets (Some j) leave frames h e = absurd (cc (quiet entries octets (Some j) leave frames h e))

pub joined_up : (entries : List Entry) (octets : List ℕ) (join : Option Join) (leave : Option ℕ) (frames : ℕ) (j : Join) → IsUp entries octets join leave frames
    → has_control (values_of (posts_of entries octets join leave)) ≡ false → IsUp (entries ++ entry.Join ∷ []) octets (Some j) leave frames
joined_up entries octets None None frames j h e = up_with_join entries octets j None frames h
joined_up entries octets None (Some stay) frames j h e = absurd (cc (quiet entries octets None (Some stay) frames h e))
joined_up entries octets (Some x) leave frames j h e = absurd (cc (quiet entries octets (Some x) leave frames h e))

pub joined : (entries : List Entry) (octets : List ℕ) (join : Option Join) (leave : Option ℕ) (frames dropped : ℕ) (j : Join) → IsUp entries octets join leave frames
    → has_control (values_of (posts_of entries octets join leave)) ≡ false
    → up_posts (entries ++ entry.Join ∷ []) octets (Some j) leave dropped ≡ record (up_posts entries octets join leave dropped) { waiting = posts_of entries octets join leave ++ post.Join j ∷ [] }
joined entries octets None None frames dropped j h e =
    ap (λ (l : List UpPost). record (up_posts entries octets None None dropped) { waiting = l }) (join_behind entries octets j None (omega (arith, h.joins)))
joined entries octets None (Some stay) frames dropped j h e = absurd (cc (quiet entries octets None (Some stay) frames h e))
joined entries octets (Some x) leave frames dropped j h e = absurd (cc (quiet entries octets (Some x) leave frames h e))

no_leave : (entries : List Entry) (octets : List ℕ) (join : Option Join) (leave : Option ℕ) (frames : ℕ) → IsUp entries octets join leave frames
    → has_leave (values_of (posts_of entries octets join leave)) ≡ false → is_some leave ≡ false
no_leave entries octets join leave frames h e = sym (leave_waits entries octets join leave h.joins h.leaves) ∙ e

pub leave_room : (entries : List Entry) (octets : List ℕ) (join : Option Join) (leave : Option ℕ) (frames : ℕ) → IsUp entries octets join leave frames
    → has_leave (values_of (posts_of entries octets join leave)) ≡ false → length entries < 16130
leave_room entries octets join None frames h e = has_room entries octets join None frames h (omega (arith, one_at_most join))
leave_room entries octets join (Some stay) frames h e = absurd (cc (no_leave entries octets join (Some stay) frames h e))

pub left_up : (entries : List Entry) (octets : List ℕ) (join : Option Join) (leave : Option ℕ) (frames stay : ℕ) → IsUp entries octets join leave frames
    → has_leave (values_of (posts_of entries octets join leave)) ≡ false → IsUp (entries ++ entry.Leave ∷ []) octets join (Some stay) frames
left_up entries octets join None frames stay h e = up_with_leave entries octets join stay frames h
left_up entries octets join (Some x) frames stay h e = absurd (cc (no_leave entries octets join (Some x) frames h e))

pub left : (entries : List Entry) (octets : List ℕ) (join : Option Join) (leave : Option ℕ) (frames dropped stay : ℕ) → IsUp entries octets join leave frames
    → has_leave (values_of (posts_of entries octets join leave)) ≡ false
    → up_posts (entries ++ entry.Leave ∷ []) octets join (Some stay) dropped ≡ record (up_posts entries octets join leave dropped) { waiting = posts_of entries octets join leave ++ post.Leave stay ∷ [] }
left entries octets join None frames dropped stay h e =
    ap (λ (l : List UpPost). record (up_posts entries octets join None dropped) { waiting = l }) (leave_behind entries octets join stay (omega (arith, h.leaves)))
left entries octets join (Some x) frames dropped stay h e = absurd (cc (no_leave entries octets join (Some x) frames h e))

-- A FRAME MORE

size_more : (posts : List UpPost) (protocol : ℕ) (information : List ℕ) → posts_size (posts ++ post.Frame protocol information ∷ []) ≡ posts_size posts + (FRAME_HEAD + length information)
size_more [] protocol information = omega arith
size_more (p ∷ posts) protocol information = omega (arith, size_more posts protocol information)

if_so : {A : Type 0} (n m : ℕ) (x y : A) → n ≤ m → (if nat_le n m then x else y) ≡ x
if_so n m x y le = grind arith

if_not : {A : Type 0} (n m : ℕ) (x y : A) → m < n → (if nat_le n m then x else y) ≡ y
if_not n m x y lt = grind arith

pub framed : (entries : List Entry) (octets information : List ℕ) (join : Option Join) (leave : Option ℕ) (frames dropped protocol size : ℕ) → IsUp entries octets join leave frames
    → size ≡ length information → FRAME_HEAD * frames + length octets + FRAME_HEAD + length information ≤ FRAME_ROOM
    → up_posts (entries ++ entry.Frame protocol size ∷ []) (octets ++ information) join leave dropped ≡ with_frame protocol information (up_posts entries octets join leave dropped)
framed entries octets information join leave frames dropped protocol size h e fits =
    let ring : Ring UpPost = up_posts entries octets join leave dropped in
    ap (λ (l : List UpPost). record ring { waiting = l }) (frame_behind entries octets information join leave protocol size h.sizes e)
    ∙ sym (if_so (posts_size (ring.waiting ++ post.Frame protocol information ∷ [])) FRAME_ROOM (record ring { waiting = ring.waiting ++ post.Frame protocol information ∷ [] }) (record ring { dropped = one_more ring.dropped })
    (omega (arith, size_more ring.waiting protocol information, size_counted entries octets join leave h.sizes, h.count, fits)))

pub not_framed : (entries : List Entry) (octets information : List ℕ) (join : Option Join) (leave : Option ℕ) (frames dropped protocol : ℕ) → IsUp entries octets join leave frames
    → FRAME_ROOM < FRAME_HEAD * frames + length octets + FRAME_HEAD + length information
    → up_posts entries octets join leave (one_more dropped) ≡ with_frame protocol information (up_posts entries octets join leave dropped)
not_framed entries octets information join leave frames dropped protocol h lt =
    let ring : Ring UpPost = up_posts entries octets join leave dropped in
    sym (if_not (posts_size (ring.waiting ++ post.Frame protocol information ∷ [])) FRAME_ROOM (record ring { waiting = ring.waiting ++ post.Frame protocol information ∷ [] }) (record ring { dropped = one_more ring.dropped })
    (omega (arith, size_more ring.waiting protocol information, size_counted entries octets join leave h.sizes, h.count, lt)))

-- as plain values
value_by : (b : Bool) (ring : Ring UpPost) (p : UpPost) → ring_of (if b then record ring { waiting = ring.waiting ++ p ∷ [] } else record ring { dropped = one_more ring.dropped })
    ≡ if b then put_control (value_of p) (ring_of ring) else record (ring_of ring) { dropped = one_more ring.dropped }
value_by true ring p = appended ring p
value_by false ring p = refl

pub frame_value : (protocol : ℕ) (information : List ℕ) (ring : Ring UpPost) → ring_of (with_frame protocol information ring) ≡ put_frame protocol information (ring_of ring)
frame_value protocol information ring =
    value_by (nat_le (posts_size (ring.waiting ++ post.Frame protocol information ∷ [])) FRAME_ROOM) ring (post.Frame protocol information)
    ∙ ap (λ (l : List UpValue). if nat_le (frames_size l) FRAME_ROOM then put_control (Hands protocol information) (ring_of ring) else record (ring_of ring) { dropped = one_more ring.dropped })
    (values_append ring.waiting (post.Frame protocol information ∷ []))

pub controls_up : (entries : List Entry) (octets : List ℕ) (join : Option Join) (leave : Option ℕ) (frames : ℕ) → IsUp entries octets join leave frames
    → has_control (values_of (posts_of entries octets join leave)) ≡ (is_some join || is_some leave)
controls_up entries octets join leave frames h = controls_wait entries octets join leave h.joins h.leaves
