-- A tick: what the machine stands for behind each piece.
use Rattle.std.proofs.Common.{◌≡◌, ◌≤◌, ℕ, Bool, true, false, Option, None, Some, List, refl, ap, sym, subst, ◌∙◌, arith}
use Rattle.std.specs.Prelude.{◌&&◌, ◌^◌, is_some, max, min, filter, nat_le}
use Rattle.std.proofs.lemmas.Bool.Decides.{nat_tests}
use Rattle.ppp_auth.specs.Setting.{waits}
use Rattle.ppp_auth.specs.declared.phase.AuthPhase.{AuthPhase}
use Rattle.ppp_control.specs.Rules.{ticks}
use Rattle.ppp_dial.specs.declared.call.CallKind.TheVariants as call
use Rattle.ppp_lcp.specs.Session.{LcpCall, StandsFor as IsLcp, deadline_after}
use Rattle.ppp_lcp.specs.declared.lcp.Lcp.{Lcp}
use Rattle.ppp_lcp.specs.declared.wish.LcpWish.{LcpWish}
use Rattle.ppp_timer.specs.Due.{has_come, moment_of, slots}
use Rattle.ppp_timer.specs.declared.slot.Slot.{Slot}
use Rattle.ppp_timer.specs.declared.slot.Slot.TheVariants.{LcpRestart, AuthRestart, AuthEnd, Echo, Hold, IpcpRestart, Idle, Connect}
use Rattle.ppp_link_parts.specs.Records.{told}
use Rattle.ppp_link_rules.specs.Authentication.{phase_called}
use Rattle.ppp_link_rules.specs.Hearing.{chat_ticked}
use Rattle.ppp_link_rules.specs.LcpCalls.{lcp_called}
use Rattle.ppp_link_rules.specs.LinkState.{AuthPart, LcpPart, LinkState, control}
use Rattle.ppp_link_rules.specs.Marks.{hold_by}
use Rattle.ppp_link_rules.specs.Ticking.{lcp_moment, moments_of, phase_moment, slots_treated, ticked, timers_treated, treated_if, with_time}
use Rattle.ppp_link_rules.specs.declared.limits.TheConstants.{MOST_TIME}
use Rattle.ppp_link_core.proofs.StandFacts.{at_state, lives_after}
use Rattle.ppp_link_core.specs.Standing.{AuthStands, Does, LcpStands, Lives, Sits, StandsFor, histories_of, state_of}
use Rattle.ppp_link_core.specs.declared.link_core.LinkCore.{LinkCore}
use Rattle.ppp_link_steps.proofs.CalmLemmas.{Keeps, calm_keeps, keeps, keeps_same, lcp_called_keeps, no_open_tick, phase_keeps}
use Rattle.ppp_link_steps.proofs.DialFacts.{calm_does}
use Rattle.ppp_link_steps.proofs.TalkLemmas.{ticked_calm}
use Rattle.ppp_link_steps.specs.Calm.{Calm}
use Rattle.ppp_link_steps.specs.Dialled.{dial_asked}
use Rattle.ppp_link_steps.specs.Slots.{slot_if, timers_ticked}

-- THE TIME

within : (time now : ℕ) → time ≤ 2 ^ 56 → max time (min now (2 ^ 56)) ≤ 2 ^ 56
within time now h = omega (arith, h)

pub time_does : {S : Type 0} {c : LinkCore S} {t : ℕ} (now : ℕ) → t ≡ max c.time (min now MOST_TIME) → Does (with_time now) c (record c { time = t })
time_does {c = c} {t = t} now e = record {
  stands = λ s k. record {
    is = at_state c s (λ y. state_of (record c { time = t }) (histories_of (with_time now y)) ≡ with_time now y) k (rw e refl);
    id = k.id;
    moment = rw e (within c.time now k.moment);
    asks = k.asks;
    listens = k.listens;
    negotiates = k.negotiates;
    proves = k.proves;
    dials = k.dials;
    policy = k.policy;
    fits = k.fits;
    passes = k.passes;
  };
}

pub time_lives : {S : Type 0} {c : LinkCore S} {t : ℕ} (now : ℕ) → t ≡ max c.time (min now MOST_TIME) → Lives c → Lives (record c { time = t })
time_lives now e l = lives_after (time_does now e) l

pub time_calm : {S : Type 0} {c : LinkCore S} {t : ℕ} (now : ℕ) → t ≡ max c.time (min now MOST_TIME) → Calm c → Calm (record c { time = t })
time_calm now e calm = calm_does (λ s h. calm_keeps (keeps_same (record { doing = refl; cause = refl; session = refl; dial = refl; failed = refl; lcp = refl; wish = refl; listener = refl })) h) (time_does now e) calm

pub time_sits : {S : Type 0} {c : LinkCore S} {was : Bool} {t : ℕ} → Sits was c → Sits was (record c { time = t })
time_sits h = record { none = h.none }

-- THE MOMENTS

moment_at : (l : Lcp) (m : Option ℕ) (wish : LcpWish) (o : Option LcpPart) → LcpStands wish (Some l) o
    → ((w : LcpWish) (words : ℕ) (past : List LcpCall) → IsLcp w words l past → m ≡ deadline_after w past) → lcp_moment wish o ≡ m
moment_at l m wish None h f = absurd h
moment_at l m wish (Some part) h f = sym (f wish part.words part.calls h)

no_moment_at : (wish : LcpWish) (o : Option LcpPart) → LcpStands wish None o → lcp_moment wish o ≡ None
no_moment_at wish None h = refl
no_moment_at wish (Some part) h = absurd h

pub moment_some : {S : Type 0} {c : LinkCore S} {l : Lcp} {m : Option ℕ} → c.lcp ≡ Some l
    → ((w : LcpWish) (words : ℕ) (past : List LcpCall) → IsLcp w words l past → m ≡ deadline_after w past) → (s : LinkState) → StandsFor c s → lcp_moment s.wish s.lcp ≡ m
moment_some {c = c} {l = l} {m = m} e f s k = moment_at l m s.wish s.lcp (subst (λ x. LcpStands s.wish x s.lcp) e k.negotiates) f

pub moment_none : {S : Type 0} {c : LinkCore S} → c.lcp ≡ None → (s : LinkState) → StandsFor c s → lcp_moment s.wish s.lcp ≡ None
moment_none {c = c} e s k = no_moment_at s.wish s.lcp (subst (λ x. LcpStands s.wish x s.lcp) e k.negotiates)

phase_at : (o : Option AuthPhase) (p : Option AuthPart) → AuthStands o p → is_some (phase_moment p) ≡ is_some o
phase_at None None h = refl
phase_at None (Some part) h = absurd h
phase_at (Some x) None h = absurd h
phase_at (Some x) (Some part) h = refl

come_at : (now : ℕ) (p : Option AuthPart) → has_come now (phase_moment p) ≡ is_some (phase_moment p)
come_at now None = refl
come_at now (Some part) = zero_le now
  where
    zero_le : (n : ℕ) → nat_le 0 n ≡ true
    zero_le n = grind (arith, nat_tests)

-- EACH SLOT

pub lcp_then : {S : Type 0} {a b : LinkCore S} {treat : Bool} → treat ≡ true → Does (lcp_called ticks) a b → Does (treated_if treat LcpRestart) a b
lcp_then {b = b} e d = record { stands = λ s k. subst (λ x. StandsFor b (treated_if x LcpRestart s)) (sym e) (d.stands s k) }

pub lcp_else : {S : Type 0} {a : LinkCore S} {treat : Bool} → treat ≡ false → Does (treated_if treat LcpRestart) a a
lcp_else {a = a} e = record { stands = λ s k. subst (λ x. StandsFor a (treated_if x LcpRestart s)) (sym e) k }

pub lcp_does : {S : Type 0} {a b : LinkCore S} {treat : Bool} {moment : Option ℕ} (due : Bool)
    → ((s : LinkState) → StandsFor a s → lcp_moment s.wish s.lcp ≡ moment) → treat ≡ (due && is_some moment) → Does (treated_if treat LcpRestart) a b → Does (slot_if due LcpRestart) a b
lcp_does {b = b} due h e d = record { stands = λ s k. subst (λ x. StandsFor b (treated_if x LcpRestart s)) (e ∙ ap (λ m. due && is_some m) (sym (h s k))) (d.stands s k) }

lcp_keeps : (treat : Bool) (s : LinkState) → Keeps s (treated_if treat LcpRestart s)
lcp_keeps true s = lcp_called_keeps ticks s no_open_tick
lcp_keeps false s = keeps s

pub lcp_calm : {S : Type 0} {a b : LinkCore S} (due : Bool) → Does (slot_if due LcpRestart) a b → Calm a → Calm b
lcp_calm due d calm = calm_does (λ s c. calm_keeps (lcp_keeps (due && is_some (moment_of (moments_of s) LcpRestart)) s) c) d calm

pub auth_then : {S : Type 0} {a b : LinkCore S} {treat : Bool} → treat ≡ true → Does (phase_called waits) a b → Does (treated_if treat AuthRestart) a b
auth_then {b = b} e d = record { stands = λ s k. subst (λ x. StandsFor b (treated_if x AuthRestart s)) (sym e) (d.stands s k) }

pub auth_else : {S : Type 0} {a : LinkCore S} {treat : Bool} → treat ≡ false → Does (treated_if treat AuthRestart) a a
auth_else {a = a} e = record { stands = λ s k. subst (λ x. StandsFor a (treated_if x AuthRestart s)) (sym e) k }

pub auth_does : {S : Type 0} {a b : LinkCore S} {treat there : Bool} (due : Bool)
    → there ≡ is_some a.auth → treat ≡ (due && there) → Does (treated_if treat AuthRestart) a b → Does (slot_if due AuthRestart) a b
auth_does {a = a} {b = b} due h e d = record {
  stands = λ s k. subst (λ x. StandsFor b (treated_if x AuthRestart s)) (e ∙ ap (λ m. due && m) (h ∙ sym (phase_at a.auth s.auth k.proves))) (d.stands s k);
}

auth_keeps : (treat : Bool) (s : LinkState) → Keeps s (treated_if treat AuthRestart s)
auth_keeps true s = phase_keeps waits s
auth_keeps false s = keeps s

pub auth_calm : {S : Type 0} {a b : LinkCore S} (due : Bool) → Does (slot_if due AuthRestart) a b → Calm a → Calm b
auth_calm due d calm = calm_does (λ s c. calm_keeps (auth_keeps (due && is_some (moment_of (moments_of s) AuthRestart)) s) c) d calm

pub hold_then : {S : Type 0} {a b : LinkCore S} {treat : Bool} → treat ≡ true → Does (dial_asked call.Tick) a b → Does (treated_if treat Hold) a b
hold_then {b = b} e d = record { stands = λ s k. subst (λ x. StandsFor b (treated_if x Hold s)) (sym e) (d.stands s k) }

pub hold_else : {S : Type 0} {a : LinkCore S} {treat : Bool} → treat ≡ false → Does (treated_if treat Hold) a a
hold_else {a = a} e = record { stands = λ s k. subst (λ x. StandsFor a (treated_if x Hold s)) (sym e) k }

pub hold_does : {S : Type 0} {a b : LinkCore S} {treat : Bool} {until : Option ℕ} (due : Bool)
    → until ≡ hold_by (told a.records).doing → treat ≡ (due && is_some until) → Does (treated_if treat Hold) a b → Does (slot_if due Hold) a b
hold_does {b = b} due h e d = record {
  stands = λ s k. subst (λ x. StandsFor b (treated_if x Hold s)) (e ∙ ap (λ m. due && is_some m) (h ∙ ap (λ (y : LinkState). hold_by (control y).doing) k.is)) (d.stands s k);
}

-- THE SLOTS TOGETHER

abbrev due_by : Bool → Bool → Bool → Slot → Bool
due_by lcp auth hold LcpRestart = lcp
due_by lcp auth hold AuthRestart = auth
due_by lcp auth hold AuthEnd = false
due_by lcp auth hold Echo = false
due_by lcp auth hold Hold = hold
due_by lcp auth hold IpcpRestart = false
due_by lcp auth hold Idle = false
due_by lcp auth hold Connect = false

three : (lcp auth hold : Bool) (s : LinkState) → slot_if hold Hold (slot_if auth AuthRestart (slot_if lcp LcpRestart s)) ≡ slots_treated (filter (λ slot. due_by lcp auth hold slot) slots) s
three true true true s = refl
three true true false s = refl
three true false true s = refl
three true false false s = refl
three false true true s = refl
three false true false s = refl
three false false true s = refl
three false false false s = refl

timers_are : (s : LinkState)
    → slot_if (has_come s.time (hold_by (control s).doing)) Hold (slot_if (has_come s.time (phase_moment s.auth)) AuthRestart (slot_if (has_come s.time (lcp_moment s.wish s.lcp)) LcpRestart s)) ≡ timers_treated s
timers_are s = three (has_come s.time (lcp_moment s.wish s.lcp)) (has_come s.time (phase_moment s.auth)) (has_come s.time (hold_by (control s).doing)) s

pub timers_does : {S : Type 0} {a b c d : LinkCore S} {lcp auth hold : Bool} {moment until : Option ℕ} {time : ℕ}
    → time ≡ a.time → ((s : LinkState) → StandsFor a s → lcp_moment s.wish s.lcp ≡ moment) → lcp ≡ has_come time moment
    → auth ≡ is_some a.auth → until ≡ hold_by (told a.records).doing → hold ≡ has_come time until
    → Does (slot_if lcp LcpRestart) a b → Does (slot_if auth AuthRestart) b c → Does (slot_if hold Hold) c d → Does timers_treated a d
timers_does {a = a} {d = d} {lcp = lcp} {auth = auth} {hold = hold} {moment = moment} {until = until} {time = time} t l e g u f x y z = record {
  stands = λ s k.
      let now : time ≡ s.time = t ∙ ap (λ (y : LinkState). y.time) k.is in
      let one : lcp ≡ has_come s.time (lcp_moment s.wish s.lcp) = e ∙ ap (λ n. has_come n moment) now ∙ ap (λ m. has_come s.time m) (sym (l s k)) in
      let two : auth ≡ has_come s.time (phase_moment s.auth) = g ∙ sym (phase_at a.auth s.auth k.proves) ∙ sym (come_at s.time s.auth) in
      let last : hold ≡ has_come s.time (hold_by (control s).doing) = f ∙ ap (λ n. has_come n until) now ∙ ap (λ m. has_come s.time m) (u ∙ ap (λ (y : LinkState). hold_by (control y).doing) k.is) in
      let t : StandsFor d (slot_if hold Hold (slot_if auth AuthRestart (slot_if lcp LcpRestart s))) = z.stands (slot_if auth AuthRestart (slot_if lcp LcpRestart s)) (y.stands (slot_if lcp LcpRestart s) (x.stands s k)) in
      subst (λ w. StandsFor d w) (timers_are s)
      (subst (λ w. StandsFor d (slot_if w Hold (slot_if (has_come s.time (phase_moment s.auth)) AuthRestart (slot_if (has_come s.time (lcp_moment s.wish s.lcp)) LcpRestart s)))) last
      (subst (λ w. StandsFor d (slot_if hold Hold (slot_if w AuthRestart (slot_if (has_come s.time (lcp_moment s.wish s.lcp)) LcpRestart s)))) two
      (subst (λ w. StandsFor d (slot_if hold Hold (slot_if auth AuthRestart (slot_if w LcpRestart s)))) one t)));
}

pub ticked_does : {S : Type 0} {a b c : LinkCore S} (now : ℕ) → Does (with_time now) a b → Does timers_treated b c → Does (timers_ticked now) a c
ticked_does now x y = record { stands = λ s k. y.stands (with_time now s) (x.stands s k) }

-- THE CHAT

pub all_ticked : {S : Type 0} {a b c : LinkCore S} (now : ℕ) → Does (timers_ticked now) a b → Does chat_ticked b c → Does (ticked now) a c
unfolding ticked
all_ticked now x y = record { stands = λ s k. y.stands (timers_ticked now s) (x.stands s k) }

pub chat_calm : {S : Type 0} {a b : LinkCore S} → Does chat_ticked a b → Calm a → Calm b
chat_calm d calm = calm_does (λ s c. ticked_calm s c) d calm
