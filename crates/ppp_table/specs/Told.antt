-- What a unit's step sends, gives and tells.
use Rattle.std.specs.Prelude.{ℕ, ◌+◌, ◌==◌, ◌||◌, nat_lt, Bool, true, false, Option, None, Some, List, [], ◌∷◌, ◌++◌, if◌then◌else◌}
use Rattle.ppp_base.specs.declared.posts.CloseCause.{CloseCause}
use Rattle.ppp_base.specs.declared.posts.CloseCause.TheVariants.{Idle, ConnectTime, IpcpFailed, EndedByPeer, TooManyChanges}
use Rattle.ppp_base.specs.declared.posts.Post.TheVariants as post
use Rattle.ppp_bundle.specs.declared.event.BundleEvent.{BundleEvent}
use Rattle.ppp_bundle.specs.declared.event.BundleEvent.TheVariants.{Make, In, Out, Frame, Datagram, Tick, HookOver}
use Rattle.ppp_unit_parts.specs.declared.member.Member.{Member}
use Rattle.ppp_unit_parts.specs.declared.outbox.BundleEnd.{BundleEnd}
use Rattle.ppp_unit_parts.specs.declared.outbox.Sending.{Sending}
use Rattle.ppp_unit_parts.specs.Member.{member, stay_of}
use Rattle.ppp_bundle.specs.Replay.{openings_in}
use Rattle.ppp_bundle.specs.State.{UnitState, is_open, members_of}
use Rattle.ppp_table_parts.specs.Side.{SideState, with_control, with_frame, without_frames}
use Rattle.ppp_table_parts.specs.Sides.{at_link, each_link}

-- What is sent goes to the ring of its link, to be sent or to be rejected, the first first.
abbrev pub posted : List Sending → List SideState → List SideState
posted [] sides = sides
posted (s ∷ sent) sides = posted sent (at_link s.link (with_frame (record { protocol = s.protocol; rejected = s.rejected }) s.information) sides)

-- the link that comes in by an event, if one does
abbrev pub entering : {S : Type 0} → BundleEvent S → List Member
entering (In link stay mru) = member link stay mru ∷ []
entering (Make number maker wish mrru allow) = []
entering (Out link stay) = []
entering (Frame link protocol information) = []
entering (Datagram datagram) = []
entering (Tick now) = []
entering (HookOver done) = []

-- the link that goes out by an event, if one does
abbrev pub leaving : {S : Type 0} → BundleEvent S → List Member
leaving (Out link stay) = member link stay 0 ∷ []
leaving (Make number maker wish mrru allow) = []
leaving (In link stay mru) = []
leaving (Frame link protocol information) = []
leaving (Datagram datagram) = []
leaving (Tick now) = []
leaving (HookOver done) = []

-- the cause of this number
abbrev pub cause_of : ℕ → CloseCause
cause_of number =
    if number == 12 then Idle
    else if number == 13 then ConnectTime
    else if number == 14 then IpcpFailed
    else if number == 15 then EndedByPeer
    else TooManyChanges

-- What is told of a step: the unit, whether IPCP has come to Opened by it, whether IPCP is or was in Opened, how it closed the bundle, if it did; and the members before with the link
-- that comes in, that link, the link that goes out, and the members after.
pub record News : Type 0 where
  pub unit : ℕ
  pub opened : Bool
  pub live : Bool
  pub ended : Option BundleEnd
  pub before : List Member
  pub comes : List Member
  pub goes : List Member
  pub after : List Member

-- what is looked at before a step: the members with the link that comes in, that link, the link that goes out, and how often IP was opened
pub record BeforeStep : Type 0 where
  pub members : List Member
  pub comes : List Member
  pub goes : List Member
  pub openings : ℕ

abbrev pub before : {S : Type 0} → UnitState S → BundleEvent S → BeforeStep
before was event = record {
  members = members_of was.live ++ entering event;
  comes = entering event;
  goes = leaving event;
  openings = openings_in 0 was.scripts.log.past;
}

abbrev pub news_of : {S : Type 0} → ℕ → BeforeStep → UnitState S → News
news_of unit b is = record {
  unit = unit;
  opened = nat_lt b.openings (openings_in 0 is.scripts.log.past);
  live = nat_lt b.openings (openings_in 0 is.scripts.log.past) || is_open is.live;
  ended = is.ended;
  before = b.members;
  comes = b.comes;
  goes = b.goes;
  after = members_of is.live;
}

-- A member is told at joining, and when IPCP becomes Opened.
abbrev pub is_new : Option ℕ → Bool
is_new None = false
is_new (Some stay) = true

abbrev pub told_member : News → (link stay : ℕ) → SideState → SideState
told_member n link stay side =
    if n.opened || is_new (stay_of link n.comes) then with_control (post.Member stay n.unit n.live) side else side

-- The frames that wait for a link that was taken out are dropped. A member of a bundle that is closed is told so.
abbrev pub told_end : News → ℕ → Option BundleEnd → SideState → SideState
told_end n stay None side = side
told_end n stay (Some e) side = with_control (post.Close stay n.unit (cause_of e.cause) e.elapsed_ms e.live) side

-- Who goes out by the step is no member as the bundle is closed, and isn't told of the end.
abbrev pub end_for : Bool → Option BundleEnd → Option BundleEnd
end_for true ended = None
end_for false ended = ended

abbrev pub told_by : News → ℕ → (after before : Option ℕ) → SideState → SideState
told_by n link (Some stay) before side = told_member n link stay side
told_by n link None (Some stay) side = told_end n stay (end_for (is_new (stay_of link n.goes)) n.ended) (without_frames side)
told_by n link None None side = side

abbrev pub told : News → ℕ → SideState → SideState
told n link side = told_by n link (stay_of link n.after) (stay_of link n.before) side

abbrev pub told_all : News → List SideState → List SideState
told_all n sides = each_link (told n) 1 sides
