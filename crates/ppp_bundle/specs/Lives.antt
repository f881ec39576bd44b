-- How a unit stands for what has happened to its bundle, and how one event goes on with it.
use Rattle.std.specs.Prelude.{ℕ, ◌≡◌, ◌↔◌, ◌==◌, ◌||◌, ⊤, Bool, false, Option, None, Some, IfSome, option_to_list, List, [], ◌∷◌, ◌++◌, if◌then◌else◌, not}
use Rattle.std.specs.List.{list_any, filter}
use Rattle.ppp_base.specs.declared.posts.CloseCause.{CloseCause}
use Rattle.ppp_base.specs.Mrru.{MrruPair}
use Rattle.ppp_base.specs.Posts.{cause_number}
use Rattle.ppp_ipcp.specs.declared.ipcp.Ipcp.{Ipcp}
use Rattle.ppp_ipcp.specs.Session.{StandsFor as IpcpStandsFor, session_after}
use Rattle.ppp_mark.specs.declared.mark.Mark.{Mark}
use Rattle.ppp_mark.specs.declared.kind.TheConstants.{CLOSE, MADE}
use Rattle.ppp_mark.specs.Marks.{close_detail, close_elapsed, close_mark}
use Rattle.ppp_mp.specs.Delivered.{Gathering}
use Rattle.ppp_mp.specs.Header.{long_octets, long_space}
use Rattle.ppp_mp.specs.Schedule.{HasSent, SendingNow, SentPiece}
use Rattle.ppp_mp.specs.StandsFor.{GatherNow, StandsFor as GatherStandsFor}
use Rattle.ppp_secrets.specs.declared.secrets.SecretsPair.{SecretsPair}
use Rattle.ppp_bundle.specs.declared.event.BundleEvent.{BundleEvent}
use Rattle.ppp_bundle.specs.declared.event.BundleEvent.TheVariants.{Make, In, Out, Frame, Datagram, Tick, HookOver}
use Rattle.ppp_unit_parts.specs.declared.live.Live.{Live}
use Rattle.ppp_unit_parts.specs.declared.member.Member.{Member}
use Rattle.ppp_unit_parts.specs.declared.outbox.BundleEnd.{BundleEnd}
use Rattle.ppp_bundle.specs.History.{Moment, Enters, Goes, Brings, Gathered, Carries, Passes, Calls, Terms, HasReason, InOrder, asked_in, by_peer_after, calls_in, counts_in, cuts_in, entered_in, entries_in, gathered_in, given_in, is_member_in, mru_in, opened_in, passed_in, time_in, was_up_after, whole_in, left_out, rejects_in}
use Rattle.ppp_bundle.specs.MayStand.{UnitStands, kind_of}
use Rattle.ppp_unit_parts.specs.Member.{is_link, views_of, AreInOrder}
use Rattle.ppp_bundle.specs.Replay.{since_made}
use Rattle.ppp_bundle.specs.Sound.{IsSound}
use Rattle.ppp_bundle.specs.State.{UnitState}
use Rattle.ppp_bundle.specs.UnitPart.{timed}
use Rattle.ppp_unit_parts.specs.declared.outbox.Sending.{Sending}
use Rattle.std.specs.Prelude.{length}
use Rattle.ppp_unit_parts.specs.Pieces.{with_headers}

-- what the peer of a link takes, where it is a member
abbrev pub mru_of : (link : ℕ) → List Member → Option ℕ
mru_of link [] = None
mru_of link (m ∷ members) = if is_link link m then Some m.mru else mru_of link members

-- From the first link that comes in on there is a member: in a plain bundle the last that came in alone.
abbrev pub HasMember : Option MrruPair → List Member → List Moment → Type 0
HasMember None members past = views_of members ≡ option_to_list (entered_in past)
HasMember (Some mrru) members past = (members ≡ []) ↔ (entered_in past ≡ None)

-- What the gatherer of a multilink bundle stands for: of the packets that it gave, these are left, which weren't used so far. In a plain bundle nothing is
-- gathered.
abbrev pub GathersAll : Option MrruPair → GatherNow → List Moment → (left : List (List ℕ)) → Type 0
GathersAll None gather past left = (gathered_in past ≡ []) × (left ≡ [])
GathersAll (Some mrru) gather past left =
    (s : Gathering) × GatherStandsFor long_space gather (entries_in past) s × (s.given ≡ gathered_in past ++ left) × (gather.mrru ≡ mrru.ours)

-- what waits to be sent, and what links are to reject
abbrev pub is_rejected : Sending → Bool
is_rejected s = s.rejected

abbrev pub is_sent : Sending → Bool
is_sent s = not s.rejected

-- the pieces that a multilink bundle has sent are those of its cuts, numbered from 0 without gaps
abbrev pub CutsAll : Terms → Option MrruPair → SendingNow → List Moment → Type 0
CutsAll terms None pieces past = pieces ≡ record { number = 0; turn = 0 }
CutsAll terms (Some mrru) pieces past = (sent : List SentPiece) × HasSent long_space long_octets (cuts_in terms past) sent pieces

-- A bundle has come to this by what happened since it was made, with these packets left of what was gathered.
pub record Reached (terms : Terms) (time : ℕ) (gather : GatherNow) (l : Live) (past : List Moment) (left : List (List ℕ)) : Type 0 where
  pub order : InOrder terms past
  pub ipcp : IpcpStandsFor terms.wish.ip l.ipcp (calls_in past)
  pub gathers : GathersAll terms.mrru gather past left
  pub cuts : CutsAll terms terms.mrru l.pieces past
  pub members : (link : ℕ) → mru_of link l.members ≡ mru_in link past
  pub in_order : AreInOrder 0 l.members
  pub some : HasMember terms.mrru l.members past
  pub initial : entered_in past ≡ None → l.ipcp ≡ session_after terms.wish.ip []
  pub time_is : time ≡ time_in terms past
  pub wish : l.wish ≡ terms.wish
  pub allow : l.allow ≡ terms.allow
  pub mrru : l.mrru ≡ terms.mrru
  pub was_open : l.was_open ≡ was_up_after terms.wish (calls_in past)
  pub by_peer : l.by_peer ≡ by_peer_after terms.wish (calls_in past)
  pub opened_at : l.opened_at ≡ opened_in terms past
  pub passed_at : l.passed_at ≡ passed_in terms past

-- Nothing is asked that isn't done, and there is no reason to end, with so many marks since it was made.
pub record Lives (terms : Terms) (marks time : ℕ) (gather : GatherNow) (l : Live) (past : List Moment) : Type 0 where
  pub reached : Reached terms time gather l past []
  pub done : asked_in terms past ≡ []
  pub no_reason : (cause : CloseCause) (elapsed : ℕ) → HasReason terms past marks cause elapsed → ⊥

-- A bundle was closed for its reason, with the mark of it, behind which no bundle was made; it is told whether it was ever in Opened; and what was left then
-- of what was gathered wasn't used.
abbrev pub is_made_or_close : Mark → Bool
is_made_or_close m = m.kind == MADE || m.kind == CLOSE

pub record Ends {S : Type 0} (terms : Terms) (past : List Moment) (left : List (List ℕ)) (u : UnitState S) (e : BundleEnd) : Type 0 where
  pub cause : CloseCause
  pub elapsed : ℕ
  pub ipcp : Ipcp
  pub before : List Mark
  pub behind : List Mark
  pub order : InOrder terms past
  pub done : asked_in terms past ≡ []
  pub called : IpcpStandsFor terms.wish.ip ipcp (calls_in past)
  pub gathers : GathersAll terms.mrru u.gather past left
  pub place : u.scripts.log.past ≡ behind ++ close_mark u.time cause elapsed ∷ before
  pub last : list_any is_made_or_close behind ≡ false
  pub reason : HasReason terms past (since_made before) cause elapsed
  pub told : e ≡ record { cause = cause_number cause; y = close_detail cause; elapsed_ms = close_elapsed cause elapsed; live = was_up_after terms.wish (calls_in past) }

-- Its last member went out.
abbrev pub GoneLast : List Moment → Type 0
GoneLast (Goes link ∷ past) = ⊤
GoneLast _ = ⊥

pub record Empties (terms : Terms) (past : List Moment) : Type 0 where
  pub order : InOrder terms past
  pub none : (link : ℕ) → is_member_in link past ≡ false
  pub last : GoneLast past

-- It lives on, or was closed for a reason, or its last member went out.
abbrev pub LivesOrEnds : {S : Type 0} → Terms → List Moment → (left : List (List ℕ)) → UnitState S → Option Live → Option BundleEnd → Type 0
LivesOrEnds terms past left u (Some l) None = Lives terms (since_made u.scripts.log.past) u.time u.gather l past × (left ≡ [])
LivesOrEnds terms past left u (Some l) (Some e) = ⊥
LivesOrEnds terms past left u None (Some e) = Ends terms past left u e
LivesOrEnds terms past left u None None = Empties terms past × (left ≡ [])

-- What happens by an event, apart from what is gathered and what IPCP is called.
abbrev pub own_of : {S : Type 0} → SecretsPair → BundleEvent S → UnitState S → List Moment
own_of secrets (Make number maker wish mrru allow) u = []
own_of secrets (In link stay mru) u = Enters link mru ∷ []
own_of secrets (Out link stay) u = Goes link ∷ []
own_of secrets (Frame link protocol information) u = Brings secrets link protocol information ∷ []
own_of secrets (Datagram datagram) u = Carries datagram ∷ []
own_of secrets (Tick now) u = Passes (timed now u).time ∷ []
own_of secrets (HookOver done) u = []

abbrev pub own_in : List Moment → List Moment
own_in [] = []
own_in (Gathered secrets packet ∷ past) = own_in past
own_in (Calls call ∷ past) = own_in past
own_in (m ∷ past) = m ∷ own_in past

-- What is gathered at moments is heard with these secrets.
abbrev pub HearsWith : SecretsPair → List Moment → Type 0
HearsWith secrets [] = ⊤
HearsWith secrets (Gathered other packet ∷ past) = (other ≡ secrets) × HearsWith secrets past
HearsWith secrets (_ ∷ past) = HearsWith secrets past

-- What a multilink bundle sends at moments: the pieces of its cuts that follow those which it sent before, each with its header, by their numbers without gaps;
-- and besides them what links are to reject.
pub record SendsPieces (terms : Terms) (since past : List Moment) (waits : List Sending) : Type 0 where
  pub before : List SentPiece
  pub more : List SentPiece
  pub earlier : SendingNow
  pub later : SendingNow
  pub sent : HasSent long_space long_octets (cuts_in terms past) before earlier
  pub sends : HasSent long_space long_octets (cuts_in terms (since ++ past)) (before ++ more) later
  pub pieces : filter is_sent waits ≡ with_headers (length before) more
  pub rejects : rejects_in terms past ++ filter is_rejected waits ≡ rejects_in terms (since ++ past)

-- A plain bundle sends each packet as it is.
abbrev pub SendsSince : Terms → Option MrruPair → (since past : List Moment) → List Sending → Type 0
SendsSince terms None since past waits = whole_in terms past ++ waits ≡ whole_in terms (since ++ past)
SendsSince terms (Some mrru) since past waits = SendsPieces terms since past waits

-- A bundle that lives goes on by an event: what happens is the event's own moment, and what is gathered and called by it. By that, and nothing else, it is
-- sent, given and counted; and where it is closed, what is left of what was gathered is dropped and counted.
pub record GoesOn {S : Type 0} (terms : Terms) (past : List Moment) (secrets : SecretsPair) (event : BundleEvent S) (old new : UnitState S) : Type 0 where
  pub since : List Moment
  pub left : List (List ℕ)
  pub own : own_in since ≡ own_of secrets event old
  pub hears : HearsWith secrets since
  pub goes : LivesOrEnds terms (since ++ past) left new new.live new.ended
  pub sends : SendsSince terms terms.mrru since past new.sent
  pub gives : given_in terms past ++ new.given ≡ given_in terms (since ++ past)
  pub counts : new.counts ≡ left_out left (counts_in terms since past old.counts)

-- what is asked of a bundle as it is made, and when
abbrev pub terms_of : {S : Type 0} → BundleEvent S → UnitState S → Option Terms
terms_of (Make number maker wish mrru allow) u = Some (record { wish = wish; allow = allow; mrru = mrru; made_at = u.time })
terms_of _ u = None

-- A bundle begins with no history.
abbrev pub HasBegun : {S : Type 0} → BundleEvent S → (old new : UnitState S) → Type 0
HasBegun event old new = IfSome (terms_of event old) (λ terms. LivesOrEnds terms [] [] new new.live new.ended)

-- Whatever history a bundle had that lives, it goes on with it.
abbrev pub GoesOnAll : {S : Type 0} → SecretsPair → BundleEvent S → (old new : UnitState S) → Type 0
GoesOnAll secrets event old new = (terms : Terms) (past : List Moment)
    → IfSome old.live (λ l. Lives terms (since_made old.scripts.log.past) old.time old.gather l past → GoesOn terms past secrets event old new)

-- A bundle that lives has a history.
pub record HasHistory (marks time : ℕ) (gather : GatherNow) (l : Live) : Type 0 where
  pub terms : Terms
  pub past : List Moment
  pub lives : Lives terms marks time gather l past

abbrev pub HasItsHistory : {S : Type 0} → UnitState S → Type 0
HasItsHistory u = IfSome u.live (HasHistory (since_made u.scripts.log.past) u.time u.gather)

-- What stays so of a unit from step to step, beside what it answers.
pub record IsUnit {S : Type 0} (u : UnitState S) : Type 0 where
  pub sound : IsSound u
  pub history : HasItsHistory u
  pub marks : UnitStands (kind_of u) u
