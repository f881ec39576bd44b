-- What a post of the table does to a link.
use Rattle.std.specs.Prelude.{ℕ, ◌==◌, ◌&&◌, Bool, true, false, not, Option, None, Some, is_none, List}
use Rattle.ppp_base.specs.declared.posts.Post.{Post}
use Rattle.ppp_base.specs.declared.posts.Post.TheVariants.{Member, Refused, Close, Send, Reject, Wake}
use Rattle.ppp_dial.specs.declared.call.CallKind.TheVariants as call
use Rattle.ppp_mark.specs.Marks.{live_mark, member_mark, refused_mark}
use Rattle.ppp_link_rules.specs.CauseStatus.{closed_by, join_refused}
use Rattle.ppp_link_rules.specs.Dialling.{dial_says}
use Rattle.ppp_link_rules.specs.Ending.{ended_by}
use Rattle.ppp_link_rules.specs.LcpCalls.{protocol_rejected}
use Rattle.ppp_link_rules.specs.LinkState.{LinkState, control}
use Rattle.ppp_link_rules.specs.Marking.{marked}
use Rattle.ppp_link_rules.specs.Sending.{frame_sent}
use Rattle.ppp_link_rules.specs.Sessions.{dial_answered}

-- A stay has one mark of its member and one of its bundle being live.
abbrev pub member_if : Bool → ℕ → ℕ → LinkState → LinkState
member_if true unit stay s = marked (λ time. member_mark time unit stay) s
member_if false unit stay s = s

abbrev pub live_if : Bool → ℕ → ℕ → LinkState → LinkState
live_if true unit stay s = marked (λ time. live_mark time unit stay) s
live_if false unit stay s = s

abbrev pub member_marked : ℕ → ℕ → LinkState → LinkState
member_marked unit stay s = member_if (is_none (control s).unit) unit stay s

abbrev pub live_marked : Bool → ℕ → ℕ → LinkState → LinkState
live_marked live unit stay s = live_if (live && not (control s).live) unit stay s

abbrev pub made_member : ℕ → ℕ → Bool → LinkState → LinkState
made_member stay unit live s = live_marked live unit stay (member_marked unit stay s)

-- the stay that a post names, if it names one
abbrev pub stay_of : Post → Option ℕ
stay_of (Member stay unit live) = Some stay
stay_of (Refused stay reason) = Some stay
stay_of (Close stay unit cause elapsed live) = Some stay
stay_of (Send protocol information) = None
stay_of (Reject protocol information) = None
stay_of Wake = None

abbrev pub is_stay : ℕ → Option ℕ → Bool
is_stay stay None = false
is_stay stay (Some present) = stay == present

-- A post that names a stay names the present one.
abbrev pub names_present : Option ℕ → Option ℕ → Bool
names_present None present = true
names_present (Some stay) present = is_stay stay present

-- What is to be sent or rejected in no stay is dropped.
abbrev pub sent_in : Option ℕ → ℕ → List ℕ → LinkState → LinkState
sent_in None protocol information s = s
sent_in (Some stay) protocol information s = frame_sent protocol information s

abbrev pub rejected_in : Option ℕ → ℕ → List ℕ → LinkState → LinkState
rejected_in None protocol information s = s
rejected_in (Some stay) protocol information s = protocol_rejected protocol information s

unfoldable pub post_taken : Post → LinkState → LinkState
post_taken (Member stay unit live) s = made_member stay unit live s
post_taken (Refused stay reason) s = ended_by (join_refused reason) (marked (λ time. refused_mark time reason stay) s)
post_taken (Close stay unit why elapsed live) s = ended_by (closed_by why) (made_member stay unit live s)
post_taken (Send protocol information) s = sent_in (control s).stay protocol information s
post_taken (Reject protocol information) s = rejected_in (control s).stay protocol information s
post_taken Wake s = dial_answered (dial_says call.Wake s) s
