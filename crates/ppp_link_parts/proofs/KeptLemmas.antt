-- What a link keeps of its log stays what the marks tell where marks of scripts are added.
use Rattle.std.specs.Prelude.{IfNone, OnErr, OnOk, OnSome, Result, Ok, Err}
use Rattle.std.proofs.Common.{refl, ap, subst, sym, ◌∙◌, ◌≡◌, ℕ, ◌+◌, true, false, Option, Some, None, List, [], ◌∷◌, ◌++◌, arith}
use Rattle.ppp_base.specs.declared.hook_target.HookTarget.{HookTarget}
use Rattle.ppp_base.specs.declared.hook_target.HookTarget.TheVariants.{Link}
use Rattle.ppp_hooks.specs.declared.facts.HookFacts.{HookFacts}
use Rattle.ppp_hooks.specs.HookState.{HookState}
use Rattle.ppp_hooks.specs.HookMark.{HookMark, Opened, Closed, Started, Ended}
use Rattle.ppp_hooks.specs.HookPast.{ends_in, open_in}
use Rattle.ppp_hooks.specs.HookRule.{due_after}
use Rattle.ppp_mark.specs.declared.mark.Mark.{Mark}
use Rattle.ppp_mark.specs.Log.{LogState}
use Rattle.ppp_mark.specs.Marks.{ended_mark}
use Rattle.ppp_mark.specs.ScriptLog.{ScriptLogState, closed_mark, log_closed, log_closed_at, log_ended, log_opened, next_opening, opened_mark, with_due_mark}
use Rattle.ppp_mark.specs.Scripts.{marks_at, said_in}
use Rattle.ppp_link_parts.specs.declared.control.Control.{Control}
use Rattle.ppp_link_rules.specs.Dialling.{dialled_in}
use Rattle.ppp_link_rules.specs.Marks.{Doing, cause_in, count_in, doing_in, live_in, since_in, stay_in, stopped_in, unit_in, was_live_in}
use Rattle.ppp_link_parts.specs.Records.{AreFew, AreKept, DialStands, IsInStep, KeepsTold, RecordsNow, is_at_rest, is_call}
use Rattle.ppp_dial.specs.declared.dial.Dial.{Dial}
use Rattle.ppp_dial.specs.DialState.{StandsFor}
use Rattle.ppp_dial.specs.Happened.{Happened}
use Rattle.ppp_dial.specs.LookingBack.{nothing_yet}
use Rattle.ppp_outside.specs.declared.line_words.LineWords.{LineWords}
use Rattle.ppp_outside.specs.declared.spawner.ScriptEnd.{ScriptEnd}
use Rattle.ppp_mark.specs.declared.kind.TheConstants.{ATTEMPT, LCP_OPEN, ASKED}

pub record Kept (c : Control) (past : List Mark) : Type 0 where
  pub told : KeepsTold c past
  pub few : AreFew c past
  pub rests : is_at_rest (doing_in past) ≡ true → is_call past ≡ false

-- A mark that tells nothing of the control part.
pub record SaysNothing (m : Mark) (past : List Mark) : Type 0 where
  pub session : count_in 0 ATTEMPT (m ∷ past) ≡ count_in 0 ATTEMPT past
  pub doing : doing_in (m ∷ past) ≡ doing_in past
  pub stopped : stopped_in (m ∷ past) ≡ stopped_in past
  pub openings : count_in 0 LCP_OPEN (m ∷ past) ≡ count_in 0 LCP_OPEN past
  pub stays : count_in 0 ASKED (m ∷ past) ≡ count_in 0 ASKED past
  pub stay : stay_in (m ∷ past) ≡ stay_in past
  pub unit : unit_in (m ∷ past) ≡ unit_in past
  pub live : live_in (m ∷ past) ≡ live_in past
  pub cause : cause_in (m ∷ past) ≡ cause_in past
  pub was_live : was_live_in (m ∷ past) ≡ was_live_in past
  pub since : since_in (m ∷ past) ≡ since_in past + 1
  pub call : is_call (m ∷ past) ≡ false

pub one_more : (c : Control) (m : Mark) (past : List Mark) → SaysNothing m past → Kept c past → Kept c (m ∷ past)
one_more c m past n k = record {
  told = record {
    session = k.told.session ∙ sym n.session;
    doing = k.told.doing ∙ sym n.doing;
    stopped = k.told.stopped ∙ sym n.stopped;
    openings = k.told.openings ∙ sym n.openings;
    stays = k.told.stays ∙ sym n.stays;
    stay = k.told.stay ∙ sym n.stay;
    unit = k.told.unit ∙ sym n.unit;
    live = k.told.live ∙ sym n.live;
    cause = k.told.cause ∙ sym n.cause;
    was_live = k.told.was_live ∙ sym n.was_live;
    since = omega (arith, k.told.since, n.since);
  };
  few = record { sessions = omega (arith, k.few.sessions); openings = omega (arith, k.few.openings); stays = omega (arith, k.few.stays) };
  rests = λ _. n.call;
}

pub starts_kept : (c : Control) (time : ℕ) (hooks : List HookMark) (past : List Mark) → Kept c past → Kept c (marks_at time hooks ++ past)
starts_kept c time [] past k = k
starts_kept c time (Opened n ∷ hooks) past k = starts_kept c time hooks past k
starts_kept c time (Closed n ∷ hooks) past k = starts_kept c time hooks past k
starts_kept c time (Started true n ∷ hooks) past k = one_more c _ _ (record { session = refl; doing = refl; stopped = refl; openings = refl; stays = refl; stay = refl; unit = refl; live = refl; cause = refl; was_live = refl; since = refl; call = refl }) (starts_kept c time hooks past k)
starts_kept c time (Started false n ∷ hooks) past k = one_more c _ _ (record { session = refl; doing = refl; stopped = refl; openings = refl; stays = refl; stay = refl; unit = refl; live = refl; cause = refl; was_live = refl; since = refl; call = refl }) (starts_kept c time hooks past k)
starts_kept c time (Ended answer job ∷ hooks) past k = starts_kept c time hooks past k

pub closed_kept : (c : Control) (id time : ℕ) (o : Option ℕ) (log : LogState) → Kept c log.past → Kept c (log_closed_at (Link id) time o log).past
closed_kept c id time None log k = k
closed_kept c id time (Some n) log k =
    let closed : Mark = closed_mark (Link id) time n in
    starts_kept c time (due_after (said_in (closed ∷ log.past))) (closed ∷ log.past)
    (one_more c closed log.past (record { session = refl; doing = refl; stopped = refl; openings = refl; stays = refl; stay = refl; unit = refl; live = refl; cause = refl; was_live = refl; since = refl; call = refl }) k)

-- a mark of scripts, and behind it that of the start which is due then
due_kept : (c : Control) (time : ℕ) (mark : Mark) (log : LogState) → SaysNothing mark log.past → Kept c log.past → Kept c (with_due_mark time mark log).past
due_kept c time mark log n k = starts_kept c time (due_after (said_in (mark ∷ log.past))) (mark ∷ log.past) (one_more c mark log.past n k)

-- THE CALLS OF THE DIAL ARE THE SAME, AND WHAT THE LINK DOES

pub dialled_starts : (line : LineWords) (limit time : ℕ) (hooks : List HookMark) (past : List Mark) → dialled_in line limit (marks_at time hooks ++ past) ≡ dialled_in line limit past
dialled_starts line limit time [] past = refl
dialled_starts line limit time (Opened n ∷ hooks) past = dialled_starts line limit time hooks past
dialled_starts line limit time (Closed n ∷ hooks) past = dialled_starts line limit time hooks past
dialled_starts line limit time (Started true n ∷ hooks) past = dialled_starts line limit time hooks past
dialled_starts line limit time (Started false n ∷ hooks) past = dialled_starts line limit time hooks past
dialled_starts line limit time (Ended answer job ∷ hooks) past = dialled_starts line limit time hooks past

doing_starts : (time : ℕ) (hooks : List HookMark) (past : List Mark) → doing_in (marks_at time hooks ++ past) ≡ doing_in past
doing_starts time [] past = refl
doing_starts time (Opened n ∷ hooks) past = doing_starts time hooks past
doing_starts time (Closed n ∷ hooks) past = doing_starts time hooks past
doing_starts time (Started true n ∷ hooks) past = doing_starts time hooks past
doing_starts time (Started false n ∷ hooks) past = doing_starts time hooks past
doing_starts time (Ended answer job ∷ hooks) past = doing_starts time hooks past

-- The records are kept behind an opening, a closing or an end of scripts.
pub record GoesOn (line : LineWords) (old new : LogState) : Type 0 where
  pub dialled : dialled_in line new.limit new.past ≡ dialled_in line old.limit old.past

pub goes_opened : (line : LineWords) (id time : ℕ) (log : LogState) → GoesOn line log (log_opened (Link id) time log)
goes_opened line id time log = record { dialled = dialled_starts line log.limit time (due_after (said_in (opened_mark (Link id) time (next_opening log) ∷ log.past))) (opened_mark (Link id) time (next_opening log) ∷ log.past) }

goes_closed_at : (line : LineWords) (id time : ℕ) (o : Option ℕ) (log : LogState) → GoesOn line log (log_closed_at (Link id) time o log)
goes_closed_at line id time None log = record { dialled = refl }
goes_closed_at line id time (Some n) log = record { dialled = dialled_starts line log.limit time (due_after (said_in (closed_mark (Link id) time n ∷ log.past))) (closed_mark (Link id) time n ∷ log.past) }

pub goes_closed : (line : LineWords) (id time : ℕ) (log : LogState) → GoesOn line log (log_closed (Link id) time log)
goes_closed line id time log = goes_closed_at line id time (open_in (said_in log.past)) log

pub goes_ended : (line : LineWords) (time : ℕ) (answer : ScriptEnd) (log : LogState) → GoesOn line log (log_ended time answer log)
goes_ended line time answer log = record { dialled = dialled_starts line log.limit time (due_after (said_in (ended_mark time answer (ends_in (said_in log.past) + 1) ∷ log.past))) (ended_mark time answer (ends_in (said_in log.past) + 1) ∷ log.past) }

pub goes_by : (line : LineWords) (old new log : LogState) → new ≡ log → GoesOn line old log → GoesOn line old new
goes_by line old new log e g = subst (λ (l : LogState). GoesOn line old l) (sym e) g

-- A job that is taken leaves the log.
pub same_log : {S J : Type 0} (result : Option J) (old new : ScriptLogState S) → OnSome result (new ≡ record old { machine = record old.machine { spawner = None } }) → IfNone result (new ≡ old)
    → new.log ≡ old.log
same_log (Some job) old new s n = ap (λ (x : ScriptLogState _). x.log) s
same_log None old new s n = ap (λ (x : ScriptLogState _). x.log) n

-- The dial stands for the same calls.
pub dials_on : {S : Type 0} (line : LineWords) (old new : RecordsNow S) → new.dial ≡ old.dial → GoesOn line old.scripts.log new.scripts.log → DialStands line old → DialStands line new
dials_on line old new d g h = record {
  stands = subst (λ (dial : Dial). StandsFor nothing_yet dial (dialled_in line new.scripts.log.limit new.scripts.log.past)) (sym d)
      (subst (λ (l : List Happened). StandsFor nothing_yet old.dial l) (sym g.dialled) h.stands);
}

-- A machine of the same target whose log is this one.
kept_by : {S : Type 0} (id : ℕ) (old new : ScriptLogState S) (dial : Dial) (c : Control) (log : LogState) → AreKept id old dial c → new.machine.target ≡ old.machine.target → new.log ≡ log
    → Kept c log.past → doing_in log.past ≡ doing_in old.log.past → AreKept id new dial c
kept_by id old new dial c log k t is kept doing =
    let now : Kept c new.log.past = subst (λ (l : LogState). Kept c l.past) (sym is) kept in
    record {
      target = t ∙ k.target;
      told = now.told;
      few = now.few;
      rests = now.rests;
      step = subst (λ (d : Doing). IsInStep dial d) (sym (ap (λ (l : LogState). doing_in l.past) is ∙ doing)) k.step;
    }

nothing_said : {S : Type 0} (id : ℕ) (old : ScriptLogState S) (dial : Dial) (c : Control) → AreKept id old dial c → Kept c old.log.past
nothing_said id old dial c k = record { told = k.told; few = k.few; rests = k.rests }

-- Authentication opens.
pub kept_opened : {S : Type 0} (c : Control) (id time : ℕ) (old new : ScriptLogState S) (dial : Dial) → AreKept id old dial c → new.machine.target ≡ old.machine.target
    → new.log ≡ log_opened old.machine.target time old.log → AreKept id new dial c
kept_opened c id time old new dial k t l =
    let mark : Mark = opened_mark (Link id) time (next_opening old.log) in
    kept_by id old new dial c (log_opened (Link id) time old.log) k t (l ∙ ap (λ (target : HookTarget). log_opened target time old.log) k.target)
    (due_kept c time mark old.log (record { session = refl; doing = refl; stopped = refl; openings = refl; stays = refl; stay = refl; unit = refl; live = refl; cause = refl; was_live = refl; since = refl; call = refl })
    (nothing_said id old dial c k))
    (doing_starts time (due_after (said_in (mark ∷ old.log.past))) (mark ∷ old.log.past))

-- Authentication closes.
doing_closed : (id time : ℕ) (o : Option ℕ) (log : LogState) → doing_in (log_closed_at (Link id) time o log).past ≡ doing_in log.past
doing_closed id time None log = refl
doing_closed id time (Some n) log = doing_starts time (due_after (said_in (closed_mark (Link id) time n ∷ log.past))) (closed_mark (Link id) time n ∷ log.past)

pub kept_closed : {S : Type 0} (c : Control) (id time : ℕ) (old new : ScriptLogState S) (dial : Dial) → AreKept id old dial c → new.machine.target ≡ old.machine.target
    → new.log ≡ log_closed old.machine.target time old.log → AreKept id new dial c
kept_closed c id time old new dial k t l =
    kept_by id old new dial c (log_closed (Link id) time old.log) k t (l ∙ ap (λ (target : HookTarget). log_closed target time old.log) k.target)
    (closed_kept c id time (open_in (said_in old.log.past)) old.log (nothing_said id old dial c k))
    (doing_closed id time (open_in (said_in old.log.past)) old.log)

-- A script has ended.
pub kept_ended : {S : Type 0} (c : Control) (id time : ℕ) (answer : ScriptEnd) (old new : ScriptLogState S) (dial : Dial) → AreKept id old dial c → new.machine.target ≡ old.machine.target
    → new.log ≡ log_ended time answer old.log → AreKept id new dial c
kept_ended c id time answer old new dial k t l =
    let mark : Mark = ended_mark time answer (ends_in (said_in old.log.past) + 1) in
    kept_by id old new dial c (log_ended time answer old.log) k t l
    (due_kept c time mark old.log (record { session = refl; doing = refl; stopped = refl; openings = refl; stays = refl; stay = refl; unit = refl; live = refl; cause = refl; was_live = refl; since = refl; call = refl })
    (nothing_said id old dial c k))
    (doing_starts time (due_after (said_in (mark ∷ old.log.past))) (mark ∷ old.log.past))

-- A job that comes back: it is the one that runs, or nothing has changed.
pub kept_back : {S T E : Type 0} (result : Result T E) (c : Control) (id time : ℕ) (answer : ScriptEnd) (facts : HookFacts) (spawner : Option S) (old new : ScriptLogState S) (dial : Dial)
    → AreKept id old dial c → OnOk result (new.machine ≡ record old.machine { facts = facts; spawner = spawner }) → OnOk result (new.log ≡ log_ended time answer old.log) → OnErr result (new ≡ old)
    → AreKept id new dial c
kept_back (Ok x) c id time answer facts spawner old new dial k m l e = kept_ended c id time answer old new dial k (ap (λ (machine : HookState _). machine.target) m) l
kept_back (Err x) c id time answer facts spawner old new dial k m l e = subst (λ (s : ScriptLogState _). AreKept id s dial c) (sym e) k

pub goes_back : {S T E : Type 0} (result : Result T E) (line : LineWords) (time : ℕ) (answer : ScriptEnd) (old new : ScriptLogState S) → OnOk result (new.log ≡ log_ended time answer old.log)
    → OnErr result (new ≡ old) → GoesOn line old.log new.log
goes_back (Ok x) line time answer old new l e = goes_by line old.log new.log (log_ended time answer old.log) l (goes_ended line time answer old.log)
goes_back (Err x) line time answer old new l e = goes_by line old.log new.log old.log (ap (λ (s : ScriptLogState _). s.log) e) (record { dialled = refl })
