-- Each rule leaves unchanged what it should.
use Rattle.std.proofs.Common.{refl, ◌∙◌, ◌≡◌, ℕ, Bool, true, false, Option, None, Some, List, [], ◌∷◌, ◌++◌, is_some, ◌&&◌, not}
use Rattle.ppp_base.specs.declared.hook_target.HookTarget.TheVariants.{Link}
use Rattle.ppp_base.specs.declared.posts.Post.{Post}
use Rattle.ppp_base.specs.declared.posts.Post.TheVariants.{Member, Refused, Close, Send, Reject, Wake}
use Rattle.ppp_control.specs.Rules.{by_itself, goes_down}
use Rattle.ppp_dial.specs.declared.call.CallKind.TheVariants as call
use Rattle.ppp_dial.specs.declared.call.CallKind.TheVariants.{SessionOver}
use Rattle.ppp_timer.specs.Due.{moment_of}
use Rattle.ppp_dial.specs.declared.now.DialNow.{DialNow}
use Rattle.ppp_dial.specs.declared.now.DialNow.TheVariants.{Nothing, Begin, Hold, Wait, Finish}
use Rattle.ppp_hdlc.specs.declared.heard.Heard.TheVariants as heard
use Rattle.ppp_hooks.specs.HookMark.{HookMark, Opened, Closed, Started, Ended}
use Rattle.ppp_mark.specs.declared.mark.Mark.{Mark}
use Rattle.ppp_mark.specs.Log.{LogState}
use Rattle.ppp_mark.specs.ScriptLog.{closed_mark, log_closed_at, next_opening, opened_mark}
use Rattle.ppp_hooks.specs.HookRule.{due_after}
use Rattle.ppp_mark.specs.Scripts.{due_marks, marks_at, said_in}
use Rattle.ppp_timer.specs.declared.slot.Slot.{Slot}
use Rattle.ppp_timer.specs.declared.slot.Slot.TheVariants as slot
use Rattle.ppp_link_rules.specs.declared.cause.Cause.{Cause}
use Rattle.ppp_link_rules.specs.Authentication.{auth_opened}
use Rattle.ppp_link_rules.specs.Dialling.{dial_says, end_by}
use Rattle.ppp_link_rules.specs.Ending.{auth_closed, first_caused, is_first}
use Rattle.ppp_link_rules.specs.Kept.{signals_in}
use Rattle.ppp_link_rules.proofs.EachRule.{Kept, closed-if, ended-by, first-caused, lcp-called, made-member, phase-called, rejected-in, sent-in, talk-begun}
use Rattle.ppp_link_rules.specs.LcpCalls.{lcp_called}
use Rattle.ppp_link_rules.specs.LinkState.{LinkState, control, is_busy, is_lasting}
use Rattle.ppp_mark.specs.Marks.{refused_mark}
use Rattle.ppp_link_rules.specs.Marking.{marked}
use Rattle.ppp_link_rules.specs.Posts.{made_member, post_taken}
use Rattle.ppp_link_rules.specs.Sessions.{attempted, is_over, dial_answered, dial_come, line_come, line_come_if, line_gone, line_gone_if, line_lost, with_dial_back, with_failure, with_line, with_line_ended, over_if, over_marked, session_over}
use Rattle.ppp_link_rules.specs.Ticking.{moments_of, slots_treated, treated as slot_treated, treated_if}

-- what is the link's own for good, its time, and how many signals it marked
pub record Unchanged (old new : LinkState) : Type 0 where
  pub id : new.id ≡ old.id
  pub config : new.config ≡ old.config
  pub wish : new.wish ≡ old.wish
  pub secrets : new.secrets ≡ old.secrets
  pub time : new.time ≡ old.time
  pub limit : new.log.limit ≡ old.log.limit
  pub signals : signals_in new.log.past ≡ signals_in old.log.past

pub unchanged : (s : LinkState) → Unchanged s s
unchanged s = record { id = refl; config = refl; wish = refl; secrets = refl; time = refl; limit = refl; signals = refl }

pub then : {a b c : LinkState} → Unchanged a b → Unchanged b c → Unchanged a c
then ab bc = record {
  id = bc.id ∙ ab.id;
  config = bc.config ∙ ab.config;
  wish = bc.wish ∙ ab.wish;
  secrets = bc.secrets ∙ ab.secrets;
  time = bc.time ∙ ab.time;
  limit = bc.limit ∙ ab.limit;
  signals = bc.signals ∙ ab.signals;
}

-- MARKS OF SCRIPTS

pub no-signal : (time : ℕ) (hooks : List HookMark) (past : List Mark) → signals_in (marks_at time hooks ++ past) ≡ signals_in past
no-signal time [] past = refl
no-signal time (Opened n ∷ hooks) past = no-signal time hooks past
no-signal time (Closed n ∷ hooks) past = no-signal time hooks past
no-signal time (Started true n ∷ hooks) past = no-signal time hooks past
no-signal time (Started false n ∷ hooks) past = no-signal time hooks past
no-signal time (Ended answer job ∷ hooks) past = no-signal time hooks past

pub due-signals : (time : ℕ) (past : List Mark) → signals_in (due_marks time past ++ past) ≡ signals_in past
due-signals time past = no-signal time (due_after (said_in past)) past

pub closed-signals : (id time : ℕ) (o : Option ℕ) (log : LogState) → signals_in (log_closed_at (Link id) time o log).past ≡ signals_in log.past
closed-signals id time None log = refl
closed-signals id time (Some n) log = due-signals time (closed_mark (Link id) time n ∷ log.past)

pub closed-limit : (id time : ℕ) (o : Option ℕ) (log : LogState) → (log_closed_at (Link id) time o log).limit ≡ log.limit
closed-limit id time None log = refl
closed-limit id time (Some n) log = refl

-- WHAT A LINK HEARS AND SENDS

pub kept : Kept Unchanged
kept = record {
  same = unchanged;
  then = then;
  out = λ s ring. record { id = refl; config = refl; wish = refl; secrets = refl; time = refl; limit = refl; signals = refl };
  up = λ s ring. record { id = refl; config = refl; wish = refl; secrets = refl; time = refl; limit = refl; signals = refl };
  deframer = λ s now. record { id = refl; config = refl; wish = refl; secrets = refl; time = refl; limit = refl; signals = refl };
  counts = λ s now. record { id = refl; config = refl; wish = refl; secrets = refl; time = refl; limit = refl; signals = refl };
  listener = λ s who. record { id = refl; config = refl; wish = refl; secrets = refl; time = refl; limit = refl; signals = refl };
  lcp = λ s part. record { id = refl; config = refl; wish = refl; secrets = refl; time = refl; limit = refl; signals = refl };
  auth = λ s part. record { id = refl; config = refl; wish = refl; secrets = refl; time = refl; limit = refl; signals = refl };
  words = λ s now. record { id = refl; config = refl; wish = refl; secrets = refl; time = refl; limit = refl; signals = refl };
  cause = λ c s. record { id = refl; config = refl; wish = refl; secrets = refl; time = refl; limit = refl; signals = refl };
  opened = λ s. record { id = refl; config = refl; wish = refl; secrets = refl; time = refl; limit = refl; signals = refl };
  closed = λ s. record { id = refl; config = refl; wish = refl; secrets = refl; time = refl; limit = refl; signals = refl };
  asked = λ s. record { id = refl; config = refl; wish = refl; secrets = refl; time = refl; limit = refl; signals = refl };
  left = λ stay s. record { id = refl; config = refl; wish = refl; secrets = refl; time = refl; limit = refl; signals = refl };
  member = λ unit stay s. record { id = refl; config = refl; wish = refl; secrets = refl; time = refl; limit = refl; signals = refl };
  live = λ unit stay s. record { id = refl; config = refl; wish = refl; secrets = refl; time = refl; limit = refl; signals = refl };
  auth_closed = λ s. record { id = refl; config = refl; wish = refl; secrets = refl; time = refl; limit = closed-limit s.id s.time _ s.log; signals = closed-signals s.id s.time _ s.log };
  auth_opened = λ peer s. record { id = refl; config = refl; wish = refl; secrets = refl; time = refl; limit = refl; signals = due-signals s.time (opened_mark (Link s.id) s.time (next_opening s.log) ∷ s.log.past) };
}

-- SESSIONS

pub is-attempted : (s : LinkState) → Unchanged s (attempted s)
unfolding attempted
is-attempted s = record { id = refl; config = refl; wish = refl; secrets = refl; time = refl; limit = refl; signals = refl }

pub dial-answered : (now : DialNow) (s : LinkState) → Unchanged s (dial_answered now s)
dial-answered Nothing s = unchanged s
dial-answered Begin s = is-attempted s
dial-answered (Hold milliseconds) s = record { id = refl; config = refl; wish = refl; secrets = refl; time = refl; limit = refl; signals = refl }
dial-answered Wait s = record { id = refl; config = refl; wish = refl; secrets = refl; time = refl; limit = refl; signals = refl }
dial-answered (Finish status) s = record { id = refl; config = refl; wish = refl; secrets = refl; time = refl; limit = refl; signals = refl }

pub line-come : (s : LinkState) → Unchanged s (line_come s)
unfolding line_come
line-come s = then {b = with_line s} (record { id = refl; config = refl; wish = refl; secrets = refl; time = refl; limit = refl; signals = refl }) (talk-begun kept s.config.script (with_line s))

pub line-come-if : (b : Bool) (s : LinkState) → Unchanged s (line_come_if b s)
line-come-if true s = line-come s
line-come-if false s = unchanged s

pub dial-come : (came : Bool) (s : LinkState) → Unchanged s (dial_come came s)
dial-come true s = then {b = with_dial_back s} (record { id = refl; config = refl; wish = refl; secrets = refl; time = refl; limit = refl; signals = refl }) (line-come-if (is_busy s) (with_dial_back s))
dial-come false s = then {b = with_failure s} (record { id = refl; config = refl; wish = refl; secrets = refl; time = refl; limit = refl; signals = refl }) (ended-by kept _ _)

pub line-gone : (c : Cause) (s : LinkState) → Unchanged s (line_gone c s)
line-gone c s = then {b = with_line_ended s} (record { id = refl; config = refl; wish = refl; secrets = refl; time = refl; limit = refl; signals = refl })
    (let a : LinkState = first_caused (Some c) (with_line_ended s) in
    then {b = a} (first-caused kept (Some c) (is_busy (with_line_ended s)) (with_line_ended s)) (then (lcp-called kept (by_itself goes_down) a) (closed-if kept (is_first (Some c) s) (lcp_called (by_itself goes_down) a))))

pub line-gone-if : (b : Bool) (c : Cause) (s : LinkState) → Unchanged s (line_gone_if b c s)
line-gone-if true c s = line-gone c s
line-gone-if false c s = unchanged s

pub line-lost : (c : Cause) (s : LinkState) → Unchanged s (line_lost c s)
unfolding line_lost
line-lost c s = line-gone-if (is_lasting s && not s.line_ended) c s

pub is-over-marked : (s : LinkState) → Unchanged s (over_marked s)
is-over-marked s = record { id = refl; config = refl; wish = refl; secrets = refl; time = refl; limit = refl; signals = refl }

pub over-if : (b : Bool) (s : LinkState) → Unchanged s (over_if b s)
over-if true s = then {b = over_marked s} (is-over-marked s) (dial-answered (dial_says (SessionOver (end_by s.config.line (control s).was_live (control s).cause)) (over_marked s)) (over_marked s))
over-if false s = unchanged s

pub session-over : (s : LinkState) → Unchanged s (session_over s)
unfolding session_over
session-over s = over-if (is_over s) s

-- SLOTS

pub slot-treated : (which : Slot) (s : LinkState) → Unchanged s (slot_treated which s)
slot-treated slot.LcpRestart s = lcp-called kept _ s
slot-treated slot.AuthRestart s = phase-called kept _ s
slot-treated slot.AuthEnd s = unchanged s
slot-treated slot.Echo s = unchanged s
slot-treated slot.Hold s = dial-answered (dial_says call.Tick s) s
slot-treated slot.IpcpRestart s = unchanged s
slot-treated slot.Idle s = unchanged s
slot-treated slot.Connect s = unchanged s

pub slot-treated-if : (b : Bool) (which : Slot) (s : LinkState) → Unchanged s (treated_if b which s)
slot-treated-if true which s = slot-treated which s
slot-treated-if false which s = unchanged s

pub slots-treated : (slots : List Slot) (s : LinkState) → Unchanged s (slots_treated slots s)
slots-treated [] s = unchanged s
slots-treated (which ∷ slots) s = then {b = treated_if (is_some (moment_of (moments_of s) which)) which s} (slot-treated-if (is_some (moment_of (moments_of s) which)) which s) (slots-treated slots (treated_if (is_some (moment_of (moments_of s) which)) which s))

-- POSTS

pub post-taken : (post : Post) (s : LinkState) → Unchanged s (post_taken post s)
unfolding post_taken
post-taken (Member stay unit live) s = made-member kept stay unit live s
post-taken (Refused stay reason) s = then {b = marked (λ time. refused_mark time reason stay) s} (record { id = refl; config = refl; wish = refl; secrets = refl; time = refl; limit = refl; signals = refl }) (ended-by kept _ _)
post-taken (Close stay unit why elapsed live) s = then {b = made_member stay unit live s} (made-member kept stay unit live s) (ended-by kept _ _)
post-taken (Send protocol information) s = sent-in kept (control s).stay protocol information s
post-taken (Reject protocol information) s = rejected-in kept (control s).stay protocol information s
post-taken Wake s = dial-answered (dial_says call.Wake s) s
