-- What a tick does: each slot that is due at its beginning is treated once, in the order of slots, but for those that an earlier one has cleared
-- (RFC 1661, section 4.6).
use Rattle.std.specs.Prelude.{ℕ, max, min, Bool, true, false, Option, None, Some, is_some, List, [], ◌∷◌}
use Rattle.ppp_auth.specs.Setting.{waits}
use Rattle.ppp_control.specs.Rules.{ticks}
use Rattle.ppp_dial.specs.declared.call.CallKind.TheVariants.{Tick}
use Rattle.ppp_lcp.specs.declared.wish.LcpWish.{LcpWish}
use Rattle.ppp_lcp.specs.Session.{deadline_after}
use Rattle.ppp_timer.specs.declared.slot.Slot.{Slot}
use Rattle.ppp_timer.specs.declared.slot.Slot.TheVariants.{LcpRestart, AuthRestart, AuthEnd, Echo, Hold, IpcpRestart, Idle, Connect}
use Rattle.ppp_timer.specs.Due.{Moments, due_slots, moment_of, no_moments}
use Rattle.ppp_link_rules.specs.declared.limits.TheConstants.{MOST_TIME}
use Rattle.ppp_link_rules.specs.Authentication.{phase_called}
use Rattle.ppp_link_rules.specs.Dialling.{dial_says}
use Rattle.ppp_link_rules.specs.Hearing.{chat_ticked}
use Rattle.ppp_link_rules.specs.LcpCalls.{lcp_called}
use Rattle.ppp_link_rules.specs.LinkState.{LinkState, AuthPart, LcpPart, control}
use Rattle.ppp_link_rules.specs.Marks.{hold_by}
use Rattle.ppp_link_rules.specs.Sessions.{dial_answered}

-- The time is the greatest tick so far, and at most 2^56.
abbrev pub with_time : ℕ → LinkState → LinkState
with_time now s = record s { time = max s.time (min now MOST_TIME) }

-- LCP's one timer, the restart or in Opened the echo, has one slot. Both sides of authentication share one, and look at their moments themselves: it is
-- due at each tick. The hold has one.
abbrev pub lcp_moment : LcpWish → Option LcpPart → Option ℕ
lcp_moment wish None = None
lcp_moment wish (Some part) = deadline_after wish part.calls

abbrev pub phase_moment : Option AuthPart → Option ℕ
phase_moment None = None
phase_moment (Some part) = Some 0

abbrev pub moments_of : LinkState → Moments
moments_of s = record no_moments {
  lcp_restart = lcp_moment s.wish s.lcp;
  auth_restart = phase_moment s.auth;
  hold = hold_by (control s).doing;
}

abbrev pub treated : Slot → LinkState → LinkState
treated LcpRestart s = lcp_called ticks s
treated AuthRestart s = phase_called waits s
treated AuthEnd s = s
treated Echo s = s
treated Hold s = dial_answered (dial_says Tick s) s
treated IpcpRestart s = s
treated Idle s = s
treated Connect s = s

abbrev pub treated_if : Bool → Slot → LinkState → LinkState
treated_if true slot s = treated slot s
treated_if false slot s = s

-- unless it was cleared
abbrev pub slots_treated : List Slot → LinkState → LinkState
slots_treated [] s = s
slots_treated (slot ∷ slots) s = slots_treated slots (treated_if (is_some (moment_of (moments_of s) slot)) slot s)

abbrev pub timers_treated : LinkState → LinkState
timers_treated s = slots_treated (due_slots (moments_of s) s.time) s

-- The chat's script has no slot: it looks at the time itself.
unfoldable pub ticked : ℕ → LinkState → LinkState
ticked now s = chat_ticked (timers_treated (with_time now s))
