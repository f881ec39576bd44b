-- What the other calls leave and tell: an event that comes with no packet, a tick, and a Protocol-Reject.
use Rattle.std.proofs.Common.{◌≡◌, ℕ, ◌+◌, ◌*◌, Bool, true, false, cond, Some, None, List, [], ◌∷◌, refl, ap, sym, ◌∙◌, subst}
use Rattle.std.specs.Prelude.{◌==◌, ◌&&◌, not, min}
use Rattle.ppp_timer.specs.Due.{has_come}
use Rattle.ppp_fsm.specs.declared.event.FsmEvent.TheVariants.{Timeout}
use Rattle.ppp_packet.specs.OptionsOf.{Item}
use Rattle.ppp_control.specs.declared.negotiation.Negotiation.{Negotiation}
use Rattle.ppp_control.specs.Given.{alone}
use Rattle.ppp_control.specs.OwnPackets.{packet}
use Rattle.ppp_control.specs.Rules.{Call, Alone, by_itself, ticks, rejects, event_of, event_in, changes_in}
use Rattle.ppp_control.specs.Start.{is_due}
use Rattle.ppp_control.specs.Step.{next_of}
use Rattle.ppp_control.proofs.RulesLemmas.{numbered_so}
use Rattle.ppp_lcp.specs.declared.lcp.Lcp.{Lcp}
use Rattle.ppp_lcp.specs.declared.out.LcpOut.{LcpOut}
use Rattle.ppp_lcp.specs.declared.wish.LcpWish.{LcpWish}
use Rattle.ppp_lcp.specs.Magic.{cut_information}
use Rattle.ppp_lcp.specs.Negotiating.{plain, event_left, event_told, is_failed, echo_body, echoed, echo_told, ticked, ticked_told, rejecting, rejecting_told}
use Rattle.ppp_lcp.specs.Out.{no_event}
use Rattle.ppp_lcp.specs.Session.{LcpCall, is_open_in, is_lost, mru_in, next_echo, echo_after, unanswered_in, in_a_row, own_requests, echo_in, rejection_in, rules, StandsFor, called, lost_at, Tells}
use Rattle.ppp_lcp.proofs.OursLemmas.{asks_back}
use Rattle.ppp_lcp.proofs.SessionLemmas.{same_lcp, one_loop, step_stands, quiet_stands, closed_echo, stays, not_entered}

told_row : (words : ℕ) (past : List LcpCall) (l : Lcp) → StandsFor l.wish words l past → l.loops ≡ min (in_a_row (own_requests l.wish words past)) 255
told_row words past l s = ap (λ (x : Lcp). x.loops) s.session

-- an event that comes with no packet
alone_stands : (words : ℕ) (past : List LcpCall) (now : ℕ) (own : Alone) (l : Lcp) → StandsFor l.wish words l past
    → StandsFor l.wish words (event_left (event_of own) now l) (called (by_itself own) now (event_told (event_of own) now l) ∷ past)
alone_stands words past now own l s =
    step_stands words past now (by_itself own) (event_of own) (plain l (event_of own) now) l l.ours l.loops l.unanswered s refl
    (ap (λ (x : Lcp). plain x (event_of own) now) s.session ∙ ap (λ (options : List Item). alone (l.wish.restart_s * 1000) (event_of own) options now) (asks_back l.wish words (changes_in true past))) (ap (λ (x : Lcp). x.ours) s.session) (told_row words past l s) (ap (λ (x : Lcp). x.unanswered) s.session)

-- a call of LCP with its own wish, and with the wish that it stands for
pub own_wish : (wish : LcpWish) (words : ℕ) (l : Lcp) (past : List LcpCall) → StandsFor wish words l past → wish ≡ l.wish
own_wish wish words l past s = sym (ap (λ (x : Lcp). x.wish) s.session)

pub by_own_wish : (wish : LcpWish) (words : ℕ) (past : List LcpCall) (call : Call (Unit {0})) (now : ℕ) (l new : Lcp) (out : LcpOut) → StandsFor wish words l past
    → (StandsFor l.wish words l past → StandsFor l.wish words new (called call now out ∷ past) × Tells l.wish words call now out past)
    → StandsFor wish words new (called call now out ∷ past) × Tells wish words call now out past
by_own_wish wish words past call now l new out s h =
    let same : wish ≡ l.wish = own_wish wish words l past s in
    subst (λ (w : LcpWish). StandsFor w words new (called call now out ∷ past) × Tells w words call now out past) (sym same) (h (subst (λ (w : LcpWish). StandsFor w words l past) same s))

pub calls_alone : (words : ℕ) (past : List LcpCall) (now : ℕ) (own : Alone) (l new : Lcp) (out : LcpOut)
    → new ≡ event_left (event_of own) now l → out ≡ event_told (event_of own) now l
    → StandsFor l.wish words l past → StandsFor l.wish words new (called (by_itself own) now out ∷ past) × Tells l.wish words (by_itself own) now out past
calls_alone words past now own l new out left told s =
    subst (λ (x : Lcp). StandsFor l.wish words x (called (by_itself own) now out ∷ past) × Tells l.wish words (by_itself own) now out past) (sym left)
    (subst (λ (x : LcpOut). StandsFor l.wish words (event_left (event_of own) now l) (called (by_itself own) now x ∷ past) × Tells l.wish words (by_itself own) now x past) (sym told)
    (alone_stands words past now own l s, record { loops = told_row words past l s; unanswered = refl; auth_refused = refl; network_refused = refl }))

-- an Echo-Request that is due
is_due_open : (was : Bool) (wish : LcpWish) (now : ℕ) (past : List LcpCall) → was ≡ is_open_in wish past → has_come now (echo_after wish past) ≡ true → is_open_in wish past ≡ true
is_due_open true wish now past e f = sym e
is_due_open false wish now past e f = absurd (let g : false ≡ true = ap (λ x. has_come now x) (sym (closed_echo wish past (sym e))) ∙ f in cc)

-- what a tick sends beside events, by what LCP has come to
echo_aside : (words : ℕ) (past : List LcpCall) (now : ℕ) (l : Lcp) → StandsFor l.wish words l past
    → echo_in l.wish words past now ≡ cond (has_come now l.echo_at) (cond (is_failed l) [] (packet 9 l.core.next_id (echo_body l) ∷ [])) []
echo_aside words past now l s = sym (ap (λ (x : Lcp). cond (has_come now x.echo_at) (cond (is_lost l.wish x.unanswered) [] (packet 9 x.core.next_id (echo_body x) ∷ [])) []) s.session)

echo_stands : (words : ℕ) (past : List LcpCall) (now : ℕ) (l : Lcp) → StandsFor l.wish words l past → has_come now l.echo_at ≡ true → is_failed l ≡ false → event_in (rules l.wish words) past now ticks ≡ None
    → StandsFor l.wish words (record l { core = record l.core { next_id = next_of l.core.next_id }; unanswered = min (l.unanswered + 1) 255; echo_at = next_echo l.wish now })
    (called ticks now (no_event (packet 9 l.core.next_id (echo_body l) ∷ []) l.loops) ∷ past)
echo_stands words past now l s due failed none =
    let wish : LcpWish = l.wish in
    let was : Bool = is_open_in wish past in
    let n : ℕ = unanswered_in wish words past in
    let in_opened : was ≡ true = is_due_open was wish now past refl (ap (λ (x : Lcp). has_come now x.echo_at) (sym s.session) ∙ due) in
    let sent : echo_in wish words past now ≡ packet 9 l.core.next_id (echo_body l) ∷ [] =
    echo_aside words past now l s ∙ ap (λ b. cond b (cond (is_failed l) [] (packet 9 l.core.next_id (echo_body l) ∷ [])) []) due ∙ ap (λ b. cond b [] (packet 9 l.core.next_id (echo_body l) ∷ [])) failed in
    let m = numbered_so (rules wish words) past l.core now ticks true (echo_body l) s.negotiates none sent in
    record {
      negotiates = record { state = m.state; acked = m.acked; lawful = m.lawful };
      session = same_lcp _ _ refl (ap (λ (x : Lcp). x.ours) s.session) m.state (told_row words past l s)
          (ap (λ b. cond b (next_echo wish now) None) (sym in_opened))
          (ap (λ (x : Lcp). min (x.unanswered + 1) 255) s.session ∙ one_loop n ∙ ap (λ x. min x 255) (sym (not_entered was (n + 1))));
    }

still : (words : ℕ) (past : List LcpCall) (now : ℕ) (l : Lcp) → StandsFor l.wish words l past → event_in (rules l.wish words) past now ticks ≡ None → echo_in l.wish words past now ≡ []
    → StandsFor l.wish words l (called ticks now (no_event [] l.loops) ∷ past)
still words past now l s none aside = quiet_stands words past now ticks l s none aside refl refl refl

lost : (words : ℕ) (past : List LcpCall) (now : ℕ) (l : Lcp) → StandsFor l.wish words l past → cond (has_come now l.echo_at && is_failed l) l.wish.echo_failure 0 ≡ lost_at ticks None l.wish words past now
lost words past now l s = ap (λ (x : Lcp). cond (has_come now x.echo_at && is_lost l.wish x.unanswered) l.wish.echo_failure 0) s.session

by_echo : (due failed : Bool) (words : ℕ) (past : List LcpCall) (now : ℕ) (l : Lcp) → has_come now l.echo_at ≡ due → is_failed l ≡ failed → event_in (rules l.wish words) past now ticks ≡ None → StandsFor l.wish words l past
    → (out : LcpOut) × (out ≡ cond due (cond failed (record (no_event [] l.loops) { unanswered = l.wish.echo_failure }) (no_event (packet 9 l.core.next_id (echo_body l) ∷ []) l.loops)) (no_event [] l.loops))
    × StandsFor l.wish words (cond (due && not failed) (record l { core = record l.core { next_id = next_of l.core.next_id }; unanswered = min (l.unanswered + 1) 255; echo_at = next_echo l.wish now }) l) (called ticks now out ∷ past)
    × Tells l.wish words ticks now out past
by_echo true true words past now l e f none s = (
  record (no_event [] l.loops) { unanswered = l.wish.echo_failure },
  refl,
  still words past now l s none (echo_aside words past now l s ∙ ap (λ b. cond b (cond (is_failed l) [] (packet 9 l.core.next_id (echo_body l) ∷ [])) []) e ∙ ap (λ b. cond b [] (packet 9 l.core.next_id (echo_body l) ∷ [])) f),
  record {
    loops = told_row words past l s;
    unanswered = sym (ap (λ b. cond (b && is_failed l) l.wish.echo_failure 0) e ∙ ap (λ b. cond b l.wish.echo_failure 0) f) ∙ lost words past now l s;
    auth_refused = refl;
    network_refused = refl;
  },
)
by_echo true false words past now l e f none s = (
  no_event (packet 9 l.core.next_id (echo_body l) ∷ []) l.loops,
  refl,
  echo_stands words past now l s e f none,
  record {
    loops = told_row words past l s;
    unanswered = sym (ap (λ b. cond (b && is_failed l) l.wish.echo_failure 0) e ∙ ap (λ b. cond b l.wish.echo_failure 0) f) ∙ lost words past now l s;
    auth_refused = refl;
    network_refused = refl;
  },
)
by_echo false failed words past now l e f none s = (
  no_event [] l.loops,
  refl,
  still words past now l s none (echo_aside words past now l s ∙ ap (λ b. cond b (cond (is_failed l) [] (packet 9 l.core.next_id (echo_body l) ∷ [])) []) e),
  record {
    loops = told_row words past l s;
    unanswered = sym (ap (λ b. cond (b && is_failed l) l.wish.echo_failure 0) e) ∙ lost words past now l s;
    auth_refused = refl;
    network_refused = refl;
  },
)

timer_same : (words : ℕ) (past : List LcpCall) (now : ℕ) (l : Lcp) → StandsFor l.wish words l past → event_in (rules l.wish words) past now ticks ≡ cond (is_due l.core now) (Some Timeout) None
timer_same words past now l s = ap (λ (n : Negotiation). cond (is_due n now) (Some Timeout) None) (sym s.negotiates.state)

by_timer : (due : Bool) (words : ℕ) (past : List LcpCall) (now : ℕ) (l : Lcp) → is_due l.core now ≡ due → StandsFor l.wish words l past
    → StandsFor l.wish words (cond due (event_left Timeout now l) (echoed l now)) (called ticks now (cond due (event_told Timeout now l) (echo_told l now)) ∷ past) × Tells l.wish words ticks now (cond due (event_told Timeout now l) (echo_told l now)) past
by_timer true words past now l e s =
    let event : event_in (rules l.wish words) past now ticks ≡ Some Timeout = timer_same words past now l s ∙ ap (λ b. cond b (Some Timeout) None) e in (
      step_stands words past now ticks Timeout (plain l Timeout now) l l.ours l.loops l.unanswered s event
          (ap (λ (x : Lcp). plain x Timeout now) s.session ∙ ap (λ (options : List Item). alone (l.wish.restart_s * 1000) Timeout options now) (asks_back l.wish words (changes_in true past))) (ap (λ (x : Lcp). x.ours) s.session) (told_row words past l s) (ap (λ (x : Lcp). x.unanswered) s.session),
      record { loops = told_row words past l s; unanswered = refl; auth_refused = refl; network_refused = refl },
    )
by_timer false words past now l e s =
    let none : event_in (rules l.wish words) past now ticks ≡ None = timer_same words past now l s ∙ ap (λ b. cond b (Some Timeout) None) e in
    let made = by_echo (has_come now l.echo_at) (is_failed l) words past now l refl refl none s in
    subst (λ (x : LcpOut). StandsFor l.wish words (echoed l now) (called ticks now x ∷ past) × Tells l.wish words ticks now x past) made.1 (made.2, made.3)

pub calls_tick : (words : ℕ) (past : List LcpCall) (now : ℕ) (l new : Lcp) (out : LcpOut)
    → new ≡ ticked l now → out ≡ ticked_told l now → StandsFor l.wish words l past → StandsFor l.wish words new (called ticks now out ∷ past) × Tells l.wish words ticks now out past
calls_tick words past now l new out left told s =
    subst (λ (x : Lcp). StandsFor l.wish words x (called ticks now out ∷ past) × Tells l.wish words ticks now out past) (sym left)
    (subst (λ (x : LcpOut). StandsFor l.wish words (ticked l now) (called ticks now x ∷ past) × Tells l.wish words ticks now x past) (sym told) (by_timer (is_due l.core now) words past now l refl s))

-- a Protocol-Reject
reject_aside : (words : ℕ) (past : List LcpCall) (protocol : ℕ) (information : List ℕ) (l : Lcp) → StandsFor l.wish words l past
    → rejection_in l.wish past protocol information ≡ cond (l.core.fsm.state == 9) (packet 8 l.core.next_id (cut_information (mru_in l.core.acknowledged) protocol information) ∷ []) []
reject_aside words past protocol information l s =
    sym (ap (λ (x : Lcp). cond (x.core.fsm.state == 9) (packet 8 x.core.next_id (cut_information (mru_in x.core.acknowledged) protocol information) ∷ []) []) s.session)

reject_stands : (words : ℕ) (past : List LcpCall) (protocol : ℕ) (information : List ℕ) (l : Lcp) → (l.core.fsm.state == 9) ≡ true → StandsFor l.wish words l past
    → StandsFor l.wish words (record l { core = record l.core { next_id = next_of l.core.next_id } }) (called (rejects protocol information) 0 (no_event (packet 8 l.core.next_id (cut_information (mru_in l.core.acknowledged) protocol information) ∷ []) l.loops) ∷ past)
reject_stands words past protocol information l e s =
    let wish : LcpWish = l.wish in
    let was : Bool = is_open_in wish past in
    let body : List ℕ = cut_information (mru_in l.core.acknowledged) protocol information in
    let m = numbered_so (rules wish words) past l.core 0 (rejects protocol information) false body s.negotiates refl (reject_aside words past protocol information l s ∙ ap (λ b. cond b (packet 8 l.core.next_id body ∷ []) []) e) in
    record {
      negotiates = record { state = m.state; acked = m.acked; lawful = m.lawful };
      session = same_lcp _ _ refl (ap (λ (x : Lcp). x.ours) s.session) m.state (told_row words past l s)
          (ap (λ (x : Lcp). x.echo_at) s.session ∙ sym (stays was (next_echo wish 0) (echo_after wish past) (closed_echo wish past)))
          (ap (λ (x : Lcp). x.unanswered) s.session ∙ ap (λ x. min x 255) (sym (not_entered was (unanswered_in wish words past))));
    }

by_rejecting : (opened : Bool) (words : ℕ) (past : List LcpCall) (protocol : ℕ) (information : List ℕ) (l : Lcp) → (l.core.fsm.state == 9) ≡ opened → StandsFor l.wish words l past
    → (out : LcpOut) × (out ≡ cond opened (no_event (packet 8 l.core.next_id (cut_information (mru_in l.core.acknowledged) protocol information) ∷ []) l.loops) (no_event [] l.loops))
    × StandsFor l.wish words (cond opened (record l { core = record l.core { next_id = next_of l.core.next_id } }) l) (called (rejects protocol information) 0 out ∷ past)
    × Tells l.wish words (rejects protocol information) 0 out past
by_rejecting true words past protocol information l e s = (
  no_event (packet 8 l.core.next_id (cut_information (mru_in l.core.acknowledged) protocol information) ∷ []) l.loops,
  refl,
  reject_stands words past protocol information l e s,
  record { loops = told_row words past l s; unanswered = refl; auth_refused = refl; network_refused = refl },
)
by_rejecting false words past protocol information l e s = (
  no_event [] l.loops,
  refl,
  quiet_stands words past 0 (rejects protocol information) l s refl
      (reject_aside words past protocol information l s ∙ ap (λ b. cond b (packet 8 l.core.next_id (cut_information (mru_in l.core.acknowledged) protocol information) ∷ []) []) e) refl refl refl,
  record { loops = told_row words past l s; unanswered = refl; auth_refused = refl; network_refused = refl },
)

pub calls_reject : (words : ℕ) (past : List LcpCall) (protocol : ℕ) (information : List ℕ) (l new : Lcp) (out : LcpOut)
    → new ≡ rejecting l → out ≡ rejecting_told l protocol information → StandsFor l.wish words l past → StandsFor l.wish words new (called (rejects protocol information) 0 out ∷ past) × Tells l.wish words (rejects protocol information) 0 out past
calls_reject words past protocol information l new out left told s =
    let made = by_rejecting (l.core.fsm.state == 9) words past protocol information l refl s in
    subst (λ (x : Lcp). StandsFor l.wish words x (called (rejects protocol information) 0 out ∷ past) × Tells l.wish words (rejects protocol information) 0 out past) (sym left)
    (subst (λ (x : LcpOut). StandsFor l.wish words (rejecting l) (called (rejects protocol information) 0 x ∷ past) × Tells l.wish words (rejects protocol information) 0 x past) (made.1 ∙ sym told) (made.2, made.3))
