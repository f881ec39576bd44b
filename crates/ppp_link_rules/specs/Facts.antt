-- What is true of a link between two steps, beside what its rules say of each.
-- Open: that every step of `LinkPart` keeps it. So far it is shown of a link that has just been made.
use Rattle.std.specs.Prelude.{ℕ, ◌≡◌, ◌≢◌, ◌+◌, ◌<◌, ◌≤◌, ◌&&◌, ◌||◌, not, Bool, true, false, Option, None, Some, is_some, List, [], ◌∷◌, ⊤, IfSome, filter}
use Rattle.ppp_auth.specs.Outcome.{peer_passed}
use Rattle.ppp_auth.specs.Phase.{name_of}
use Rattle.ppp_auth.specs.declared.outcome.AuthNow.TheVariants.{Passed}
use Rattle.ppp_base.specs.declared.posts.Post.TheVariants.{Wake}
use Rattle.ppp_base.specs.declared.signal_word.SignalWord.TheVariants.{Hup, Int, Term}
use Rattle.ppp_dial.specs.LookingBack.{nothing_yet}
use Rattle.ppp_hooks.specs.HookFacts.{Keeps}
use Rattle.ppp_hooks.specs.declared.facts.Opening.{Opening}
use Rattle.ppp_mark.specs.Log.{room_of}
use Rattle.ppp_mark.specs.Scripts.{LogLaw, LogSettled, said_in}
use Rattle.ppp_packet.specs.declared.agreed.Agreed.{Agreed}
use Rattle.ppp_timer.specs.Due.{has_come}
use Rattle.ppp_link_rules.specs.declared.limits.TheConstants.{MOST_MARKS}
use Rattle.ppp_link_rules.specs.Dialling.{DialsLawfully, dial_so_far}
use Rattle.ppp_link_rules.specs.LinkEvent.{Event, Begin, Signal, FromTable}
use Rattle.ppp_link_rules.specs.LinkPart.{is_nothing}
use Rattle.ppp_link_rules.specs.LinkState.{AuthPart, LinkState, agreed, control, is_absent, is_busy, is_lasting, is_network, is_open, has_passed, outcome_of}
use Rattle.ppp_link_rules.specs.Marks.{Doing, New, Dials, HasLine, IsOver, Waits, hold_by, status_by}
use Rattle.ppp_link_rules.specs.Rings.{has_control, is_control}
use Rattle.ppp_link_rules.specs.Sessions.{is_over}
use Rattle.ppp_link_rules.specs.UpValue.{JoinValue, UpValue, Asks, Hands, Leaves}
use Rattle.ppp_link_rules.specs.Wishes.{IsWish, script_args}

-- SCRIPTS (pppd(8), "auth-up", "auth-down")

-- whether the peer must prove itself, and has
abbrev pub is_proved : Option AuthPart → Bool
is_proved None = false
is_proved (Some part) = is_some part.setting.peer_proves && has_passed (peer_passed part.setting.peer_proves part.setting part.calls)

-- The protocol of a link: its peer must prove itself and has done so, and LCP hasn't left Opened since.
abbrev pub is_protocol_open : LinkState → Bool
is_protocol_open s = is_open s && is_proved s.auth

-- The scripts keep their law, and while none runs they agree with the protocol.
pub record ScriptsFollow (s : LinkState) : Type 0 where
  pub law : LogLaw 0 s.log.past
  pub settled : LogSettled s.log.past (is_protocol_open s)

-- WHAT THE LOG TELLS

abbrev pub is_dialling : Doing → Bool
is_dialling Dials = true
is_dialling _ = false

abbrev pub is_with_line : Doing → Bool
is_with_line HasLine = true
is_with_line _ = false

-- The log tells what is so: of LCP, of authentication and its scripts, of the dial and the line, of the stay, and of the dial's count. An opening stands exactly where the
-- protocol is open, also while a script runs.
pub record TellsTrue (s : LinkState) : Type 0 where
  pub lcp : (control s).lcp_open ≡ is_open s
  pub auth : is_some (control s).auth_open ≡ is_protocol_open s
  pub scripts : Keeps s.scripts (said_in s.log.past)
  pub job : s.job_out ≡ true → is_some (control s).running ≡ true
  pub dial : is_dialling (control s).doing ≡ not (is_absent s.dial)
  pub reading : is_with_line (control s).doing ≡ not (is_absent s.reading)
  pub writing : is_with_line (control s).doing ≡ not (is_absent s.writing)
  pub part : is_with_line (control s).doing ≡ is_some s.lcp
  pub stay : is_some (control s).stay ≡ true → is_network s ≡ true
  pub failures : (control s).failures ≡ (dial_so_far s).failures
  pub stopped : (control s).stopped ≡ (dial_so_far s).stopped
  pub wish : IsWish s.config s.wish

-- No session is left that should be over, or that should have ended by its marks; no hold outlasts its time; and no mark meets a full log.
pub record GoesRight (s : LinkState) : Type 0 where
  pub on : is_over s ≡ false
  pub not_over : (control s).doing ≢ IsOver
  pub hold : has_come s.time (hold_by (control s).doing) ≡ false
  pub shut : is_lasting s ≡ true → is_some (control s).cause ≡ true → is_open s ≡ false
  pub few : is_busy s ≡ true → (control s).since < MOST_MARKS
  pub room : is_lasting s ≡ true → 1024 ≤ room_of s.log + (control s).since

-- THE STAY

-- A Join waits alone, or before the Leave of its own stay.
abbrev pub controls_in : List UpValue → List UpValue
controls_in posts = filter is_control posts

abbrev pub IsOneStay : List UpValue → Type 0
IsOneStay [] = ⊤
IsOneStay (Asks join ∷ []) = ⊤
IsOneStay (Asks join ∷ Leaves stay ∷ []) = join.stay ≡ stay
IsOneStay (Leaves stay ∷ []) = ⊤
IsOneStay _ = ⊥

abbrev pub peer_of : Option AuthPart → Option (List ℕ)
peer_of None = None
peer_of (Some part) = name_of (peer_passed part.setting.peer_proves part.setting part.calls)

-- The Join of the present stay says who has passed and what both ends agreed on.
pub record JoinTells (s : LinkState) (join : JoinValue) : Type 0 where
  pub who : outcome_of s.auth ≡ Passed join.peer join.allow
  pub terms : (a : Agreed) × (agreed s ≡ Some a) × (join.disc ≡ a.disc) × (join.mrru ≡ a.mrru) × (join.mru ≡ a.peer_mru)

abbrev pub JoinsTell : LinkState → List UpValue → Type 0
JoinsTell s [] = ⊤
JoinsTell s (Asks join ∷ posts) = ((control s).stay ≡ Some join.stay → JoinTells s join) × JoinsTell s posts
JoinsTell s (Hands protocol information ∷ posts) = JoinsTell s posts
JoinsTell s (Leaves stay ∷ posts) = JoinsTell s posts

-- And the opening that is open has that peer's arguments.
pub record StayTells (s : LinkState) : Type 0 where
  pub controls : IsOneStay (controls_in s.up.waiting)
  pub joins : JoinsTell s s.up.waiting
  pub args : IfSome s.scripts.now_open (λ (o : Opening). (peer : List ℕ) × (peer_of s.auth ≡ Some peer) × (o.args ≡ script_args s.id s.config peer))

-- BETWEEN TWO STEPS

pub record IsSound (s : LinkState) : Type 0 where
  pub scripts : ScriptsFollow s
  pub tells : TellsTrue s
  pub goes : GoesRight s
  pub stay : StayTells s
  pub dials : DialsLawfully nothing_yet s

-- OVER ONE STEP

abbrev pub is_start : Event → Bool
is_start Begin = true
is_start _ = false

abbrev pub is_wake : Event → Bool
is_wake (FromTable Wake) = true
is_wake _ = false

abbrev pub is_stop : Event → Bool
is_stop (Signal Int) = true
is_stop (Signal Term) = true
is_stop _ = false

-- What the marks can't tell: a link is begun by Begin alone, and leaves a wait by a Wake alone; either ends by a signal to stop too; and each of these, and a hang-up in a hold,
-- does what it is for. No Join is forgotten.
pub record MovesBy (event : Event) (old new : LinkState) : Type 0 where
  pub from_new : (control old).doing ≡ New → (control new).doing ≢ New → (is_start event || is_stop event) ≡ true
  pub from_wait : (control old).doing ≡ Waits → (control new).doing ≢ Waits → (is_wake event || is_stop event) ≡ true
  pub begins : (control old).doing ≡ New → is_start event ≡ true → (control new).doing ≢ New
  pub wakes : (control old).doing ≡ Waits → is_wake event ≡ true → (control new).doing ≢ Waits
  pub hangs : event ≡ Signal Hup → is_some (hold_by (control old).doing) ≡ true → (control new).doing ≢ (control old).doing
  pub stops : is_stop event ≡ true → ((control new).stopped || is_some (status_by (control new).doing)) ≡ true
  pub finishes : is_stop event ≡ true → is_lasting old ≡ false → is_some (status_by (control new).doing) ≡ true
  pub asked : is_nothing event old ≡ false → is_network new ≡ true → has_control new.up.waiting ≡ false → is_some (control new).stay ≡ true
