-- An errand that is given keeps all of it, and so does a post that is taken.
use Rattle.std.proofs.Common.{◌≡◌, ℕ, ◌+◌, Bool, true, false, None, Some, List, [], ◌∷◌, refl, ap, sym, ◌∙◌}
use Rattle.std.specs.Prelude.{◌==◌, ◌&&◌, ◌||◌, not, is_some, if◌then◌else◌}
use Rattle.std.proofs.lemmas.Bool.{false≢true}
use Rattle.ppp_hooks.specs.HookMark.{Closed, Ended, HookMark, Opened, Started}
use Rattle.ppp_hooks.specs.HookPast.{ends_in, starts_in}
use Rattle.ppp_mark.specs.declared.kind.TheConstants.{AUTH_CLOSED, AUTH_OPEN, ENDED, IP_CLOSED, IP_OPEN, START}
use Rattle.ppp_mark.specs.declared.mark.Mark.{Mark}
use Rattle.ppp_mark.specs.Scripts.{answer_of, is_closed_kind, is_open_kind, said_in}
use Rattle.ppp_link_rules.specs.declared.errand.Errand.{Errand}
use Rattle.ppp_link_rules.specs.declared.errand.Errand.TheVariants.{Absent, Out, Waiting}
use Rattle.ppp_link_rules.specs.Errands.{gives_dial, gives_job, gives_reading, gives_writing, is_none_waiting, is_running, with_dial_out, with_job_out, with_post_taken, with_reading_out, with_writing_out}
use Rattle.ppp_link_rules.specs.LinkState.{LinkState, control, is_absent, is_lasting, is_out, is_waiting, wants_line}
use Rattle.ppp_link_rules.specs.Marks.{cause_in, count_in}
use Rattle.ppp_link_rules.specs.Replay.{running_by}
use Rattle.ppp_link_facts.specs.Budget.{BetweenSteps}
use Rattle.ppp_link_facts.specs.Errands.{ErrandsStand}
use Rattle.ppp_link_facts.specs.Scripts.{ScriptsStand}
use Rattle.ppp_link_facts.proofs.Budgets.{Mid}
use Rattle.ppp_link_facts.proofs.EndRules.{eq_of}
use Rattle.ppp_link_facts.proofs.EventRules.{and_one, errands_mid}
use Rattle.ppp_link_facts.proofs.Room.{budget_of, mid_of, stands_of}
use Rattle.ppp_link_facts.proofs.ScriptFacts.{says_of, stand_of}
use Rattle.ppp_link_facts.proofs.Sight.{Sight, sight}

-- THE COUNTS OF STARTS AND ENDS

not_kind_by : (p : Bool) (kind a b t : ℕ) → (kind == a) ≡ p → (a == t) ≡ false → (b == t) ≡ false → (p || kind == b) ≡ true → (kind == t) ≡ false
not_kind_by true kind a b t e h k o = ap (λ n. n == t) (eq_of kind a e) ∙ h
not_kind_by false kind a b t e h k o = ap (λ n. n == t) (eq_of kind b o) ∙ k

not_kind : (kind a b t : ℕ) → (a == t) ≡ false → (b == t) ≡ false → (kind == a || kind == b) ≡ true → (kind == t) ≡ false
not_kind kind a b t h k o = not_kind_by (kind == a) kind a b t refl h k o

abbrev said_by : Bool → Bool → Bool → Bool → Mark → List HookMark → List HookMark
said_by o c s e m past =
    if o then Opened m.z ∷ past
    else if c then Closed m.z ∷ past
    else if s then Started (m.x == 1) m.z ∷ past
    else if e then Ended (answer_of m.x m.y) m.z ∷ past
    else past

starts_by : (o c s e : Bool) (m : Mark) (past : List HookMark) → (o ≡ true → s ≡ false) → (c ≡ true → s ≡ false) → (if s then starts_in past + 1 else starts_in past) ≡ starts_in (said_by o c s e m past)
starts_by true c s e m past h k = ap (λ (b : Bool). if b then starts_in past + 1 else starts_in past) (h refl)
starts_by false true s e m past h k = ap (λ (b : Bool). if b then starts_in past + 1 else starts_in past) (k refl)
starts_by false false true e m past h k = refl
starts_by false false false true m past h k = refl
starts_by false false false false m past h k = refl

ends_by : (o c s e : Bool) (m : Mark) (past : List HookMark) → (o ≡ true → e ≡ false) → (c ≡ true → e ≡ false) → (s ≡ true → e ≡ false) → (if e then ends_in past + 1 else ends_in past) ≡ ends_in (said_by o c s e m past)
ends_by true c s e m past h k l = ap (λ (b : Bool). if b then ends_in past + 1 else ends_in past) (h refl)
ends_by false true s e m past h k l = ap (λ (b : Bool). if b then ends_in past + 1 else ends_in past) (k refl)
ends_by false false true e m past h k l = ap (λ (b : Bool). if b then ends_in past + 1 else ends_in past) (l refl)
ends_by false false false true m past h k l = refl
ends_by false false false false m past h k l = refl

pub starts_are : (past : List Mark) → count_in 0 START past ≡ starts_in (said_in past)
starts_are [] = refl
starts_are (m ∷ past) =
    ap (λ (n : ℕ). if m.kind == START then n + 1 else n) (starts_are past)
    ∙ starts_by (is_open_kind m.kind) (is_closed_kind m.kind) (m.kind == START) (m.kind == ENDED) m (said_in past)
    (not_kind m.kind AUTH_OPEN IP_OPEN START refl refl) (not_kind m.kind AUTH_CLOSED IP_CLOSED START refl refl)

pub ends_are : (past : List Mark) → count_in 0 ENDED past ≡ ends_in (said_in past)
ends_are [] = refl
ends_are (m ∷ past) =
    ap (λ (n : ℕ). if m.kind == ENDED then n + 1 else n) (ends_are past)
    ∙ ends_by (is_open_kind m.kind) (is_closed_kind m.kind) (m.kind == START) (m.kind == ENDED) m (said_in past)
    (not_kind m.kind AUTH_OPEN IP_OPEN ENDED refl refl) (not_kind m.kind AUTH_CLOSED IP_CLOSED ENDED refl refl) (λ e. ap (λ n. n == ENDED) (eq_of m.kind START e))

running_some : (starts ends : ℕ) (b : Bool) → (ends == starts) ≡ b → is_some (running_by starts ends) ≡ not b
running_some starts ends b e = ap (λ (x : Bool). is_some (if x then None else Some starts)) e ∙ either b
  where
    either : (x : Bool) → is_some (if x then None else Some starts) ≡ not x
    either true = refl
    either false = refl

-- A script runs exactly where fewer have ended than were started.
pub running_is : (s : LinkState) → is_some (control s).running ≡ not (ends_in (said_in s.log.past) == starts_in (said_in s.log.past))
running_is s =
    running_some (count_in 0 START s.log.past) (count_in 0 ENDED s.log.past) (count_in 0 ENDED s.log.past == count_in 0 START s.log.past) refl
    ∙ ap (λ (n : ℕ). not (n == count_in 0 START s.log.past)) (ends_are s.log.past)
    ∙ ap (λ (n : ℕ). not (ends_in (said_in s.log.past) == n)) (starts_are s.log.past)

not_back : (b : Bool) → true ≡ not b → b ≡ false
not_back true e = absurd (false≢true (sym e))
not_back false e = refl

-- A JOB that was taken runs.
pub job_runs : (s : LinkState) → BetweenSteps s → s.job_out ≡ true → is_some (control s).running ≡ true
job_runs s k out = running_is s ∙ ap not (k.stands.job out)

-- WHAT IS GIVEN

waiting_there : (e : Errand) → is_waiting e ≡ true → is_absent e ≡ false
waiting_there Absent e = absurd (false≢true e)
waiting_there Waiting e = refl
waiting_there Out e = absurd (false≢true e)

dial_mid : (x : Sight) → is_absent x.dial ≡ false → Mid 900 960 x → Mid 900 960 (record x { dial = Out })
dial_mid x there h = record {
  sits = record { phase = h.sits.phase; stay = h.sits.stay; auth = h.sits.auth };
  shut = h.shut;
  ends = h.ends;
  one = h.one;
  job = h.job;
  dial = λ e. h.dial there;
  said = h.said;
  lcp = h.lcp;
  free = h.free;
  few = h.few;
  owes = h.owes;
}

job_mid : (x : Sight) → (ends_in (said_in x.past) == starts_in (said_in x.past)) ≡ false → Mid 900 960 x → Mid 900 960 (record x { job = true })
job_mid x runs h = record {
  sits = record { phase = h.sits.phase; stay = h.sits.stay; auth = h.sits.auth };
  shut = h.shut;
  ends = h.ends;
  one = h.one;
  job = λ e. runs;
  dial = h.dial;
  said = h.said;
  lcp = h.lcp;
  free = h.free;
  few = h.few;
  owes = h.owes;
}

steps_of : (s : LinkState) → Mid 900 960 (sight s) → BetweenSteps s
steps_of s h = record { stands = stands_of s h; budget = budget_of s h }

pub dial_given : (s : LinkState) → gives_dial s ≡ true → BetweenSteps s → BetweenSteps (with_dial_out s)
dial_given s gives k = steps_of (with_dial_out s) (dial_mid (sight s) (waiting_there s.dial gives) (mid_of s k.stands k.budget))

pub reading_given : (s : LinkState) → BetweenSteps s → BetweenSteps (with_reading_out s)
reading_given s k = steps_of (with_reading_out s) (errands_mid (sight s) Out s.writing (mid_of s k.stands k.budget))

pub writing_given : (s : LinkState) → BetweenSteps s → BetweenSteps (with_writing_out s)
writing_given s k = steps_of (with_writing_out s) (errands_mid (sight s) s.reading Out (mid_of s k.stands k.budget))

pub job_given : (s : LinkState) → gives_job s ≡ true → BetweenSteps s → BetweenSteps (with_job_out s)
job_given s gives k =
    let runs : (ends_in (said_in s.log.past) == starts_in (said_in s.log.past)) ≡ false = not_back _ (sym (and_one (is_running s) (not s.job_out) gives) ∙ running_is s) in
    steps_of (with_job_out s) (job_mid (sight s) runs (mid_of s k.stands k.budget))

pub post_taken : (s : LinkState) → BetweenSteps s → BetweenSteps (with_post_taken s)
post_taken s k = steps_of (with_post_taken s) (mid_of s k.stands k.budget)

-- The scripts are the same.
pub dial_scripts : (s : LinkState) → ScriptsStand s → ScriptsStand (with_dial_out s)
dial_scripts s h = stand_of (with_dial_out s) (says_of s h)

pub reading_scripts : (s : LinkState) → ScriptsStand s → ScriptsStand (with_reading_out s)
reading_scripts s h = stand_of (with_reading_out s) (says_of s h)

pub writing_scripts : (s : LinkState) → ScriptsStand s → ScriptsStand (with_writing_out s)
writing_scripts s h = stand_of (with_writing_out s) (says_of s h)

pub job_scripts : (s : LinkState) → ScriptsStand s → ScriptsStand (with_job_out s)
job_scripts s h = stand_of (with_job_out s) (says_of s h)

pub post_scripts : (s : LinkState) → ScriptsStand s → ScriptsStand (with_post_taken s)
post_scripts s h = stand_of (with_post_taken s) (says_of s h)

-- And the log tells the errands.
none_four : (a b c d : Bool) → (a && (b && (c && (d && false)))) ≡ false
none_four true true true true = refl
none_four true true true false = refl
none_four true true false d = refl
none_four true false c d = refl
none_four false b c d = refl

none_five : (a b c d e : Bool) → (a && (b && (c && (d && (e && false))))) ≡ false
none_five true b c d e = none_four b c d e
none_five false b c d e = refl

pub dial_tells : (s : LinkState) → gives_dial s ≡ true → ErrandsStand s → ErrandsStand (with_dial_out s)
dial_tells s gives h =
    let there : is_absent s.dial ≡ false = waiting_there s.dial gives in
    record {
      dial = h.dial ∙ ap not there;
      reading = h.reading;
      writing = h.writing;
      part = h.part;
      on = ap (λ (b : Bool). is_lasting s && (is_some (cause_in s.log.past) && (not (wants_line s) && (b && (not (is_out s.reading) && not (is_out s.writing)))))) (sym there) ∙ h.on;
      not_over = h.not_over;
    }

pub reading_tells : (s : LinkState) → gives_reading s ≡ true → ErrandsStand s → ErrandsStand (with_reading_out s)
reading_tells s gives h = record {
  dial = h.dial;
  reading = h.reading ∙ ap not (waiting_there s.reading (and_one (is_waiting s.reading) (wants_line s) gives));
  writing = h.writing;
  part = h.part;
  on = none_four (is_lasting s) (is_some (cause_in s.log.past)) (not (wants_line (with_reading_out s))) (is_absent s.dial);
  not_over = h.not_over;
}

pub writing_tells : (s : LinkState) → gives_writing s ≡ true → ErrandsStand s → ErrandsStand (with_writing_out s)
writing_tells s gives h = record {
  dial = h.dial;
  reading = h.reading;
  writing = h.writing ∙ ap not (waiting_there s.writing (and_one (is_waiting s.writing) (not (is_none_waiting s.out.waiting)) gives));
  part = h.part;
  on = none_five (is_lasting s) (is_some (cause_in s.log.past)) (not (wants_line (with_writing_out s))) (is_absent s.dial) (not (is_out s.reading));
  not_over = h.not_over;
}

pub job_tells : (s : LinkState) → ErrandsStand s → ErrandsStand (with_job_out s)
job_tells s h = record { dial = h.dial; reading = h.reading; writing = h.writing; part = h.part; on = h.on; not_over = h.not_over }

pub post_tells : (s : LinkState) → ErrandsStand s → ErrandsStand (with_post_taken s)
post_tells s h = record { dial = h.dial; reading = h.reading; writing = h.writing; part = h.part; on = h.on; not_over = h.not_over }
