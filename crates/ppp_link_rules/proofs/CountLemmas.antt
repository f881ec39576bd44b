-- What each event leaves as it was.
use Rattle.std.proofs.Common.{refl, arith, ◌≡◌, ◌≤◌, ℕ, ◌+◌, ◌∙◌, ◌∷◌, Bool, true, false, is_some, ◌||◌}
use Rattle.std.proofs.lemmas.Bool.{false≢true}
use Rattle.ppp_base.specs.declared.signal_word.SignalWord.{SignalWord}
use Rattle.ppp_base.specs.declared.signal_word.SignalWord.TheVariants.{Hup, Int, Term, Usr1, Usr2}
use Rattle.ppp_dial.specs.declared.call.CallKind.TheVariants as call
use Rattle.ppp_mark.specs.Marks.{ended_mark, signal_number}
use Rattle.ppp_hooks.specs.HookPast.{ends_in}
use Rattle.ppp_mark.specs.Scripts.{said_in}
use Rattle.ppp_timer.specs.Due.{due_slots}
use Rattle.ppp_link_rules.specs.declared.errand.ReadEnd.{ReadEnd}
use Rattle.ppp_link_rules.specs.declared.errand.ReadEnd.TheVariants as read
use Rattle.ppp_link_rules.specs.declared.errand.SentEnd.{SentEnd}
use Rattle.ppp_link_rules.specs.declared.errand.SentEnd.TheVariants as sent
use Rattle.ppp_link_rules.specs.declared.errand.Errand.TheVariants.{Waiting}
use Rattle.ppp_link_rules.specs.CauseStatus.{signalled}
use Rattle.ppp_link_rules.specs.Dialling.{dial_says}
use Rattle.ppp_link_rules.specs.Hearing.{looked_after}
use Rattle.ppp_link_rules.specs.Kept.{CountsKept, most_signals, signals_in, time_after}
use Rattle.ppp_link_rules.specs.LinkEvent.{Event, Begin, Dialled, Bytes, LineOver, Flushed, Tick, Signal, FromTable, HookOver}
use Rattle.ppp_link_rules.specs.LinkPart.{after, after_unless, is_nothing, happened, reading_back, writing_back}
use Rattle.ppp_link_rules.specs.LinkState.{LinkState, control, is_busy}
use Rattle.ppp_link_rules.specs.Marks.{hold_by, status_by}
use Rattle.ppp_link_rules.specs.Sessions.{at_end, dial_answered}
use Rattle.ppp_link_rules.specs.Signals.{hung_up_by, signal_marked, signal_taken, stopped_by, stopping}
use Rattle.ppp_link_rules.specs.Ticking.{moments_of, ticked, timers_treated, with_time}
use Rattle.ppp_link_rules.proofs.EachRule.{chat-ticked, ended-by, looked-after, octets-taken}
use Rattle.ppp_link_rules.proofs.UnchangedLemmas.{Unchanged, dial-answered, dial-come, due-signals, kept, line-lost, post-taken, session-over, slots-treated, then, unchanged}

-- the same as Unchanged, but for the time and for signals
pub record Goes (most : ℕ) (now : ℕ) (old new : LinkState) : Type 0 where
  pub few : signals_in new.log.past ≤ signals_in old.log.past + most
  pub longer : signals_in old.log.past ≤ signals_in new.log.past
  pub time : new.time ≡ now
  pub id : new.id ≡ old.id
  pub config : new.config ≡ old.config
  pub wish : new.wish ≡ old.wish
  pub secrets : new.secrets ≡ old.secrets
  pub limit : new.log.limit ≡ old.log.limit

pub same : {s t : LinkState} → Unchanged s t → Goes 0 s.time s t
same u = record {
  few = omega (arith, u.signals);
  longer = omega (arith, u.signals);
  time = u.time;
  id = u.id;
  config = u.config;
  wish = u.wish;
  secrets = u.secrets;
  limit = u.limit;
}

-- behind what goes so, what is unchanged
pub and : {most now : ℕ} {s t u : LinkState} → Goes most now s t → Unchanged t u → Goes most now s u
and g k = record {
  few = omega (arith, g.few, k.signals);
  longer = omega (arith, g.longer, k.signals);
  time = k.time ∙ g.time;
  id = k.id ∙ g.id;
  config = k.config ∙ g.config;
  wish = k.wish ∙ g.wish;
  secrets = k.secrets ∙ g.secrets;
  limit = k.limit ∙ g.limit;
}

pub at-most : {now : ℕ} {s t : LinkState} → Goes 0 now s t → Goes 1 now s t
at-most g = record {
  few = omega (arith, g.few);
  longer = g.longer;
  time = g.time;
  id = g.id;
  config = g.config;
  wish = g.wish;
  secrets = g.secrets;
  limit = g.limit;
}

pub at-the-end : (s : LinkState) → Unchanged s (at_end s)
at-the-end s = then {b = looked_after s} (looked-after kept s) (session-over (looked_after s))

-- SIGNALS

pub marked : (word : SignalWord) (s : LinkState) → Goes 1 s.time s (signal_marked word s)
marked word s = record { few = omega arith; longer = omega arith; time = refl; id = refl; config = refl; wish = refl; secrets = refl; limit = refl }

pub hung-up : (busy holds : Bool) (s : LinkState) → Goes 1 s.time s (hung_up_by busy holds s)
hung-up true holds s = and (marked Hup s) (ended-by kept (signalled 1) (signal_marked Hup s))
hung-up false true s = and (marked Hup s) (dial-answered (dial_says call.Hup (signal_marked Hup s)) (signal_marked Hup s))
hung-up false false s = at-most (same (unchanged s))

pub is-stopping : (word : SignalWord) (s : LinkState) → Unchanged s (stopping word s)
is-stopping word s = then {b = dial_answered (dial_says call.Stop s) s} (dial-answered (dial_says call.Stop s) s) (ended-by kept (signalled (signal_number word)) (dial_answered (dial_says call.Stop s) s))

pub is-stopped : (b : Bool) (word : SignalWord) (s : LinkState) → Goes 1 s.time s (stopped_by b word s)
is-stopped true word s = at-most (same (unchanged s))
is-stopped false word s = and (marked word s) (is-stopping word (signal_marked word s))

pub signal-taken : (word : SignalWord) (s : LinkState) → Goes 1 s.time s (signal_taken word s)
unfolding signal_taken
signal-taken Hup s = hung-up (is_busy s) (is_some (hold_by (control s).doing)) s
signal-taken Int s = is-stopped ((control s).stopped || is_some (status_by (control s).doing)) Int s
signal-taken Term s = is-stopped ((control s).stopped || is_some (status_by (control s).doing)) Term s
signal-taken Usr1 s = at-most (same (unchanged s))
signal-taken Usr2 s = at-most (same (unchanged s))

-- EVENTS

pub reading-back : (how : ReadEnd) (s : LinkState) → Unchanged s (reading_back how s)
reading-back read.End s = line-lost _ s
reading-back read.Failed s = line-lost _ s
reading-back read.Left s = unchanged s

pub writing-back : (how : SentEnd) (s : LinkState) → Unchanged s (writing_back how s)
writing-back sent.All s = unchanged s
writing-back (sent.Failed count) s = line-lost _ s

pub is-ticked : (now : ℕ) (s : LinkState) → Goes 0 (time_after (Tick now) s.time) s (ticked now s)
unfolding ticked
is-ticked now s =
    let t : LinkState = with_time now s in
    and {t = t} (record { few = omega arith; longer = omega arith; time = refl; id = refl; config = refl; wish = refl; secrets = refl; limit = refl })
    (then {b = timers_treated t} (slots-treated (due_slots (moments_of t) t.time) t) (chat-ticked kept (timers_treated t).listener (timers_treated t)))

-- what an event does
pub does : (event : Event) (s : LinkState) → Goes (most_signals event) (time_after event s.time) s (happened event s)
does Begin s = same (dial-answered (dial_says call.Start s) s)
does (Dialled link session failed came) s = same (dial-come came s)
does (Bytes link session offset octets) s = same (then {b = _} (record { id = refl; config = refl; wish = refl; secrets = refl; time = refl; limit = refl; signals = refl }) (octets-taken kept octets _))
does (LineOver link session how) s = same (then {b = record s { reading = Waiting }} (record { id = refl; config = refl; wish = refl; secrets = refl; time = refl; limit = refl; signals = refl }) (reading-back how (record s { reading = Waiting })))
does (Flushed link session how) s = same (then {b = record s { writing = Waiting }} (record { id = refl; config = refl; wish = refl; secrets = refl; time = refl; limit = refl; signals = refl }) (writing-back how (record s { writing = Waiting })))
does (Tick now) s = is-ticked now s
does (Signal word) s = signal-taken word s
does (FromTable post) s = same (post-taken post s)
does (HookOver target job not_started answer) s =
    same (record { id = refl; config = refl; wish = refl; secrets = refl; time = refl; limit = refl; signals = due-signals s.time (ended_mark s.time answer (ends_in (said_in s.log.past) + 1) ∷ s.log.past) })

pub no-more : (event : Event) (s : LinkState) → is_nothing event s ≡ true → Goes (most_signals event) (time_after event s.time) s s
no-more Begin s nothing = same (unchanged s)
no-more (Dialled link session failed came) s nothing = absurd (false≢true nothing)
no-more (Bytes link session offset octets) s nothing = absurd (false≢true nothing)
no-more (LineOver link session how) s nothing = absurd (false≢true nothing)
no-more (Flushed link session how) s nothing = absurd (false≢true nothing)
no-more (Tick now) s nothing = absurd (false≢true nothing)
no-more (Signal word) s nothing = absurd (false≢true nothing)
no-more (FromTable post) s nothing = absurd (false≢true nothing)
no-more (HookOver target job not_started answer) s nothing = absurd (false≢true nothing)

pub behind : (b : Bool) (event : Event) (s : LinkState) → (b ≡ true → is_nothing event s ≡ true) → Goes (most_signals event) (time_after event s.time) s (after_unless b event s)
behind true event s nothing = no-more event s (nothing refl)
behind false event s nothing = and (does event s) (at-the-end (happened event s))

pub as-kept : (event : Event) (s t : LinkState) → Goes (most_signals event) (time_after event s.time) s t → CountsKept event s t
as-kept event s t g = record { few = g.few; longer = g.longer; time = g.time; id = g.id; config = g.config; wish = g.wish; secrets = g.secrets; limit = g.limit }

pub each_event : (event : Event) (s : LinkState) → CountsKept event s (after event s)
unfolding after
each_event event s = as-kept event s (after event s) (behind (is_nothing event s) event s (λ b. b))
