-- What each piece of a step makes of a unit's scripts and its log.
use Rattle.std.proofs.Common.{◌≡◌, ◌⊎◌, inl, inr, ℕ, ◌+◌, ◌<◌, ◌≤◌, ◌==◌, Bool, true, false, Option, None, Some, List, [], ◌∷◌, ◌++◌, length, refl, ap, sym, ◌∙◌, subst, arith}
use Rattle.std.proofs.lemmas.Bool.{false≢true}
use Rattle.std.specs.Prelude.{is_some, if◌then◌else◌}
use Rattle.ppp_base.specs.declared.hook_target.HookTarget.{HookTarget}
use Rattle.ppp_base.specs.declared.hook_target.HookTarget.TheVariants.{Link, Unit as OfUnit}
use Rattle.ppp_base.specs.declared.posts.CloseCause.{CloseCause}
use Rattle.ppp_hooks.specs.declared.facts.HookFacts.{HookFacts}
use Rattle.ppp_hooks.specs.declared.facts.Opening.{Opening}
use Rattle.ppp_hooks.specs.declared.facts.Start.{Start}
use Rattle.ppp_hooks.specs.HookFacts.{Keeps, StandsFor, opening_number, settled, start_due, with_closed, with_end, with_open, with_start}
use Rattle.ppp_hooks.specs.HookMark.{HookMark, Opened, Closed, Started, Ended}
use Rattle.ppp_hooks.specs.HookPast.{IsLawful, ends_in, greatest_in, last_in, open_in, starts_in}
use Rattle.ppp_hooks.specs.HookRule.{due_for, start_marks, with_due}
use Rattle.ppp_hooks.specs.HookState.{DoneState}
use Rattle.ppp_hooks.proofs.Stands.{closed_stands, ended_stands, opened_stands}
use Rattle.ppp_mark.specs.declared.kind.TheConstants.{START}
use Rattle.ppp_mark.specs.declared.mark.Mark.{Mark}
use Rattle.ppp_mark.specs.Marks.{close_mark, direction_number, ended_mark, in_mark, ip_closed_mark, ip_open_mark, made_mark, out_mark, unmade_mark}
use Rattle.ppp_mark.specs.ScriptLog.{IsRunningJob, ScriptLogState, closed_facts, log_closed_at, log_opened, next_opening, with_addresses}
use Rattle.ppp_mark.specs.Scripts.{AreUpOrDown, due_marks, marks_at, said_in}
use Rattle.ppp_mark.proofs.ScriptLemmas.{closing_keeps, opening_keeps, said-due, said-ended}
use Rattle.ppp_outside.specs.declared.hook_words.HookArgs.{HookArgs}
use Rattle.ppp_outside.specs.declared.spawner.ScriptEnd.{ScriptEnd}
use Rattle.ppp_unit_parts.specs.declared.member.Member.{Member}
use Rattle.ppp_bundle.specs.Closing.{outs}
use Rattle.ppp_bundle.specs.Replay.{LogSays, local_in, openings_in, remote_in, since_made}
use Rattle.ppp_bundle.specs.ScriptParts.{marked, opened, over, shut}
use Rattle.ppp_bundle.specs.Sound.{Adds}
use Rattle.ppp_table_facts.specs.TableStands.{ScriptsKeep}

-- The scripts are those of this unit, with IP open or not.
pub record Says {S : Type 0} (unit : ℕ) (up : Bool) (s : ScriptLogState S) : Type 0 where
  pub keeps : ScriptsKeep s
  pub target : s.machine.target ≡ OfUnit unit
  pub is_open : is_some (open_in (said_in s.log.past)) ≡ up
  pub says : LogSays s

-- MARKS

pub adds_both : {S : Type 0} (a b : ℕ) (x y z : ScriptLogState S) → Adds a x y → Adds b y z → Adds (a + b) x z
adds_both a b x y z f g = record {
  target = g.target ∙ f.target;
  few = omega (arith, f.few, g.few);
  longer = omega (arith, f.longer, g.longer);
  limit = g.limit ∙ f.limit;
  since = omega (arith, f.since, g.since);
}

pub adds_none : {S : Type 0} (x : ScriptLogState S) → Adds 0 x x
adds_none x = record { target = refl; few = omega arith; longer = omega arith; limit = refl; since = refl }

pub adds_most : {S : Type 0} (a b : ℕ) (x y : ScriptLogState S) → Adds a x y → a ≤ b → Adds b x y
adds_most a b x y f e = record { target = f.target; few = omega (arith, f.few, e); longer = f.longer; limit = f.limit; since = f.since }

pub out_says : {S : Type 0} (unit : ℕ) (up : Bool) (s : ScriptLogState S) (time : ℕ) (link : ℕ) (stay : ℕ) → Says unit up s → Says unit up (marked (out_mark time link stay) s)
out_says unit up s time link stay h = record {
  keeps = record { stands = h.keeps.stands; directions = (λ e. absurd (false≢true (ap (λ k. k == START) e)), h.keeps.directions); out = h.keeps.out };
  target = h.target;
  is_open = h.is_open;
  says = record { local = h.says.local; remote = h.says.remote; openings = h.says.openings };
}

pub out_adds : {S : Type 0} (s : ScriptLogState S) (time : ℕ) (link : ℕ) (stay : ℕ) → Adds 1 s (marked (out_mark time link stay) s)
out_adds s time link stay = record { target = refl; few = omega arith; longer = omega arith; limit = refl; since = omega arith }

pub in_says : {S : Type 0} (unit : ℕ) (up : Bool) (s : ScriptLogState S) (time : ℕ) (link : ℕ) (stay : ℕ) → Says unit up s → Says unit up (marked (in_mark time link stay) s)
in_says unit up s time link stay h = record {
  keeps = record { stands = h.keeps.stands; directions = (λ e. absurd (false≢true (ap (λ k. k == START) e)), h.keeps.directions); out = h.keeps.out };
  target = h.target;
  is_open = h.is_open;
  says = record { local = h.says.local; remote = h.says.remote; openings = h.says.openings };
}

pub in_adds : {S : Type 0} (s : ScriptLogState S) (time : ℕ) (link : ℕ) (stay : ℕ) → Adds 1 s (marked (in_mark time link stay) s)
in_adds s time link stay = record { target = refl; few = omega arith; longer = omega arith; limit = refl; since = omega arith }

pub unmade_says : {S : Type 0} (unit : ℕ) (up : Bool) (s : ScriptLogState S) (time : ℕ) (number : ℕ) → Says unit up s → Says unit up (marked (unmade_mark time number) s)
unmade_says unit up s time number h = record {
  keeps = record { stands = h.keeps.stands; directions = (λ e. absurd (false≢true (ap (λ k. k == START) e)), h.keeps.directions); out = h.keeps.out };
  target = h.target;
  is_open = h.is_open;
  says = record { local = h.says.local; remote = h.says.remote; openings = h.says.openings };
}

pub unmade_adds : {S : Type 0} (s : ScriptLogState S) (time : ℕ) (number : ℕ) → Adds 1 s (marked (unmade_mark time number) s)
unmade_adds s time number = record { target = refl; few = omega arith; longer = omega arith; limit = refl; since = omega arith }

pub close_says : {S : Type 0} (unit : ℕ) (up : Bool) (s : ScriptLogState S) (time : ℕ) (cause : CloseCause) (elapsed : ℕ) → Says unit up s → Says unit up (marked (close_mark time cause elapsed) s)
close_says unit up s time cause elapsed h = record {
  keeps = record { stands = h.keeps.stands; directions = (λ e. absurd (false≢true (ap (λ k. k == START) e)), h.keeps.directions); out = h.keeps.out };
  target = h.target;
  is_open = h.is_open;
  says = record { local = h.says.local; remote = h.says.remote; openings = h.says.openings };
}

pub close_adds : {S : Type 0} (s : ScriptLogState S) (time : ℕ) (cause : CloseCause) (elapsed : ℕ) → Adds 1 s (marked (close_mark time cause elapsed) s)
close_adds s time cause elapsed = record { target = refl; few = omega arith; longer = omega arith; limit = refl; since = omega arith }

pub made_says : {S : Type 0} (unit : ℕ) (up : Bool) (s : ScriptLogState S) (time : ℕ) (maker : ℕ) (number : ℕ) → Says unit up s → Says unit up (marked (made_mark time maker number) s)
made_says unit up s time maker number h = record {
  keeps = record { stands = h.keeps.stands; directions = (λ e. absurd (false≢true (ap (λ k. k == START) e)), h.keeps.directions); out = h.keeps.out };
  target = h.target;
  is_open = h.is_open;
  says = record { local = h.says.local; remote = h.says.remote; openings = h.says.openings };
}

pub outs_say : {S : Type 0} (unit : ℕ) (up : Bool) (time : ℕ) (members : List Member) (s : ScriptLogState S) → Says unit up s → Says unit up (outs time members s)
outs_say unit up time [] s h = h
outs_say unit up time (m ∷ members) s h = outs_say unit up time members (marked (out_mark time m.link m.stay) s) (out_says unit up s time m.link m.stay h)

pub outs_add : {S : Type 0} (time : ℕ) (members : List Member) (s : ScriptLogState S) → Adds (length members) s (outs time members s)
outs_add time [] s = adds_none s
outs_add time (m ∷ members) s =
    adds_most (1 + length members) (length (m ∷ members)) s (outs time (m ∷ members) s)
    (adds_both 1 (length members) s (marked (out_mark time m.link m.stay) s) (outs time (m ∷ members) s) (out_adds s time m.link m.stay) (outs_add time members (marked (out_mark time m.link m.stay) s))) (omega arith)

-- A START THAT IS DUE

pub record Due (base past : List Mark) : Type 0 where
  pub few : length past ≤ length base + 1
  pub longer : length base ≤ length past
  pub since : since_made past + length base ≡ since_made base + length past
  pub same_open : open_in (said_in past) ≡ open_in (said_in base)
  pub local : local_in past ≡ local_in base
  pub remote : remote_in past ≡ remote_in base
  pub openings : openings_in 0 past ≡ openings_in 0 base
  pub directions : AreUpOrDown base → AreUpOrDown past

up_or_down : (up : Bool) → (direction_number up ≡ 1) ⊎ (direction_number up ≡ 2)
up_or_down true = inl refl
up_or_down false = inr refl

no_more : (base : List Mark) → Due base base
no_more base = record { few = omega arith; longer = omega arith; since = refl; same_open = refl; local = refl; remote = refl; openings = refl; directions = λ h. h }

due_by : (time : ℕ) (base : List Mark) (b : Bool) (start : Option (Bool × ℕ)) → Due base (marks_at time (if b then start_marks start else []) ++ base)
due_by time base false start = no_more base
due_by time base true None = no_more base
due_by time base true (Some start) = record {
  few = omega arith;
  longer = omega arith;
  since = omega arith;
  same_open = refl;
  local = refl;
  remote = refl;
  openings = refl;
  directions = λ h. (λ e. up_or_down start.0, h);
}

pub due : (time : ℕ) (base : List Mark) → Due base (due_marks time base ++ base)
due time base = due_by time base (ends_in (said_in base) == starts_in (said_in base)) (due_for (last_in (said_in base)) (open_in (said_in base)))

-- what a start leaves of a machine's facts
pub record Settles (f g : HookFacts) : Type 0 where
  pub now_open : g.now_open ≡ f.now_open
  pub greatest : g.greatest ≡ f.greatest

started : (b : Bool) (start : Option Start) (f : HookFacts) → Settles f (if b then with_start f start else f)
started true None f = record { now_open = refl; greatest = refl }
started true (Some s) f = record { now_open = refl; greatest = refl }
started false start f = record { now_open = refl; greatest = refl }

settles : (f : HookFacts) → Settles f (settled f)
settles f = started (f.ends == f.starts) (start_due f.last f.now_open) f

-- IP OPENS

none_open : (o : Option Opening) → opening_number o ≡ None → o ≡ None
none_open None e = refl
none_open (Some o) e = absurd (cc e)

not_some : {A : Type 0} (o : Option A) → is_some o ≡ false → o ≡ None
not_some None e = refl
not_some (Some a) e = absurd (false≢true (sym e))

opens_at : {S : Type 0} (unit time : ℕ) (args : HookArgs) (s : ScriptLogState S) (target : HookTarget) → s.machine.target ≡ target → target ≡ OfUnit unit → Says unit false s
    → Says unit true (record {
      machine = record s.machine { facts = settled (with_open s.machine.facts (next_opening s.log) args) };
      log = with_addresses time args (log_opened target time s.log);
    })
opens_at unit time args s (Link l) same e h = absurd (cc e)
opens_at unit time args s (OfUnit u) same e h =
    let n : ℕ = next_opening s.log in
    let hooks : List HookMark = said_in s.log.past in
    let base : List Mark = ip_open_mark time n ∷ s.log.past in
    let past : List Mark = due_marks time base ++ base in
    let k : Keeps s.machine.facts hooks = h.keeps.stands.keeps in
    let d : Due base past = due time base in
    let g : Settles (with_open s.machine.facts n args) (settled (with_open s.machine.facts n args)) = settles (with_open s.machine.facts n args) in
    let shut_now : s.machine.facts.now_open ≡ None = none_open s.machine.facts.now_open (k.now_open ∙ not_some (open_in hooks) h.is_open) in
    let greatest : s.machine.facts.greatest ≡ greatest_in hooks = k.greatest in
    let above : s.machine.facts.greatest < n = omega (arith, greatest) in
    let said : said_in past ≡ with_due (Opened n ∷ hooks) = said-due time base in
    let runs : _ = opening_keeps n hooks (said_in past) said in
    record {
      keeps = record {
        stands = subst (λ (p : List HookMark). StandsFor (settled (with_open s.machine.facts n args)) p) (sym said) (opened_stands s.machine.facts hooks n args shut_now above h.keeps.stands);
        directions = (
          λ f. absurd (false≢true (ap (λ k. k == START) f)),
          (λ f. absurd (false≢true (ap (λ k. k == START) f)), d.directions (λ f. absurd (false≢true (ap (λ k. k == START) f)), h.keeps.directions)),
        );
        out = λ o. (let run : ends_in hooks < starts_in hooks = h.keeps.out o in rw (runs.starts run, runs.ends) run);
      };
      target = h.target;
      is_open = ap (λ (o : Option ℕ). is_some o) d.same_open;
      says = record {
        local = rw g.now_open refl;
        remote = rw g.now_open refl;
        openings = g.greatest ∙ ap (λ x. x + 1) (sym greatest ∙ h.says.openings) ∙ sym d.openings;
      };
    }

pub opened_says : {S : Type 0} (unit time : ℕ) (args : HookArgs) (s : ScriptLogState S) → Says unit false s → Says unit true (opened args time s)
opened_says unit time args s h = opens_at unit time args s s.machine.target refl h.target h

opens_add : {S : Type 0} (unit time : ℕ) (args : HookArgs) (s : ScriptLogState S) (target : HookTarget) → target ≡ OfUnit unit
    → Adds 4 s (record {
      machine = record s.machine { facts = settled (with_open s.machine.facts (next_opening s.log) args) };
      log = with_addresses time args (log_opened target time s.log);
    })
opens_add unit time args s (Link l) e = absurd (cc e)
opens_add unit time args s (OfUnit u) e =
    let base : List Mark = ip_open_mark time (next_opening s.log) ∷ s.log.past in
    let d : Due base (due_marks time base ++ base) = due time base in
    record { target = refl; few = omega (arith, d.few); longer = omega (arith, d.longer); limit = refl; since = omega (arith, d.since) }

pub opened_adds : {S : Type 0} (unit time : ℕ) (args : HookArgs) (s : ScriptLogState S) → s.machine.target ≡ OfUnit unit → Adds 4 s (opened args time s)
opened_adds unit time args s e = opens_add unit time args s s.machine.target e

-- IP CLOSES

shuts_at : {S : Type 0} (unit time : ℕ) (up : Bool) (s : ScriptLogState S) (target : HookTarget) (o : Option Opening) (n : Option ℕ) → target ≡ OfUnit unit → s.machine.facts.now_open ≡ o → open_in (said_in s.log.past) ≡ n
    → Says unit up s
    → Says unit false (record {
      machine = record s.machine { facts = if is_some o then settled (with_closed s.machine.facts) else s.machine.facts };
      log = log_closed_at target time n s.log;
    })
shuts_at unit time up s target None None e f g h = record { keeps = record { stands = h.keeps.stands; directions = h.keeps.directions; out = h.keeps.out }; target = h.target; is_open = ap (λ (o : Option ℕ). is_some o) g; says = record { local = h.says.local; remote = h.says.remote; openings = h.says.openings } }
shuts_at unit time up s target (Some x) None e f g h = absurd (let k : Some x.number ≡ None = sym (ap opening_number f) ∙ h.keeps.stands.keeps.now_open ∙ g in cc)
shuts_at unit time up s target None (Some n) e f g h = absurd (let k : None ≡ Some n = sym (ap opening_number f) ∙ h.keeps.stands.keeps.now_open ∙ g in cc)
shuts_at unit time up s (Link l) (Some x) (Some n) e f g h = absurd (cc e)
shuts_at unit time up s (OfUnit u) (Some x) (Some n) e f g h =
    let hooks : List HookMark = said_in s.log.past in
    let base : List Mark = ip_closed_mark time n ∷ s.log.past in
    let past : List Mark = due_marks time base ++ base in
    let k : Keeps s.machine.facts hooks = h.keeps.stands.keeps in
    let d : Due base past = due time base in
    let facts : HookFacts = settled (with_closed s.machine.facts) in
    let w : Settles (with_closed s.machine.facts) facts = settles (with_closed s.machine.facts) in
    let said : said_in past ≡ with_due (Closed n ∷ hooks) = said-due time base in
    let runs : _ = closing_keeps n hooks (said_in past) said in
    record {
      keeps = record {
        stands = subst (λ (p : List HookMark). StandsFor facts p) (sym said) (closed_stands s.machine.facts hooks n (k.now_open ∙ g) h.keeps.stands);
        directions = d.directions (λ f. absurd (false≢true (ap (λ k. k == START) f)), h.keeps.directions);
        out = λ o. (let run : ends_in hooks < starts_in hooks = h.keeps.out o in rw (runs.starts run, runs.ends) run);
      };
      target = h.target;
      is_open = ap (λ (o : Option ℕ). is_some o) d.same_open;
      says = record {
        local = rw w.now_open tt;
        remote = rw w.now_open tt;
        openings = w.greatest ∙ h.says.openings ∙ sym d.openings;
      };
    }

pub shut_says : {S : Type 0} (unit time : ℕ) (up : Bool) (s : ScriptLogState S) → Says unit up s → Says unit false (shut time s)
shut_says unit time up s h = shuts_at unit time up s s.machine.target s.machine.facts.now_open (open_in (said_in s.log.past)) h.target refl refl h

shuts_add : {S : Type 0} (unit time : ℕ) (s : ScriptLogState S) (target : HookTarget) (n : Option ℕ) → target ≡ OfUnit unit
    → Adds 2 s (record { machine = record s.machine { facts = closed_facts s.machine.facts }; log = log_closed_at target time n s.log })
shuts_add unit time s target None e = record { target = refl; few = omega arith; longer = omega arith; limit = refl; since = refl }
shuts_add unit time s (Link l) (Some n) e = absurd (cc e)
shuts_add unit time s (OfUnit u) (Some n) e =
    let base : List Mark = ip_closed_mark time n ∷ s.log.past in
    let d : Due base (due_marks time base ++ base) = due time base in
    record { target = refl; few = omega (arith, d.few); longer = omega (arith, d.longer); limit = refl; since = omega (arith, d.since) }

pub shut_adds : {S : Type 0} (unit time : ℕ) (s : ScriptLogState S) → s.machine.target ≡ OfUnit unit → Adds 2 s (shut time s)
shut_adds unit time s e = shuts_add unit time s s.machine.target (open_in (said_in s.log.past)) e

-- A SCRIPT HAS ENDED

few_starts : (hooks : List HookMark) → IsLawful hooks → starts_in hooks ≤ ends_in hooks + 1
few_starts [] l = omega arith
few_starts (Opened n ∷ hooks) l = few_starts hooks l.1
few_starts (Closed n ∷ hooks) l = few_starts hooks l.1
few_starts (Started true n ∷ hooks) l = let e : ends_in hooks ≡ starts_in hooks = l.0.0 in omega (arith, e)
few_starts (Started false n ∷ hooks) l = let e : ends_in hooks ≡ starts_in hooks = l.0.0 in omega (arith, e)
few_starts (Ended answer job ∷ hooks) l = let e : starts_in hooks ≤ ends_in hooks + 1 = few_starts hooks l.1 in omega (arith, e)

-- the machine's facts then
pub record Ran {S : Type 0} (s : ScriptLogState S) : Type 0 where
  pub some : s.machine.facts.ends < s.machine.facts.starts
  pub one : s.machine.facts.ends + 1 ≡ s.machine.facts.starts

pub ran : {S : Type 0} (unit : ℕ) (up : Bool) (done : DoneState S) (s : ScriptLogState S) → IsRunningJob done s → Says unit up s → Ran s
ran unit up done s runs h =
    let k : Keeps s.machine.facts (said_in s.log.past) = h.keeps.stands.keeps in
    let less : ends_in (said_in s.log.past) < starts_in (said_in s.log.past) = h.keeps.out runs.out in
    let most : starts_in (said_in s.log.past) ≤ ends_in (said_in s.log.past) + 1 = few_starts (said_in s.log.past) k.lawful in
    let ends : s.machine.facts.ends ≡ ends_in (said_in s.log.past) = k.ends in
    let starts : s.machine.facts.starts ≡ starts_in (said_in s.log.past) = k.starts in
    record { some = omega (arith, less, ends, starts); one = omega (arith, less, most, ends, starts) }

other_says : (time : ℕ) (answer : ScriptEnd) (job : ℕ) (past : List Mark) → open_in (said_in (ended_mark time answer job ∷ past)) ≡ open_in (said_in past)
other_says time answer job past = ap (λ (p : List HookMark). open_in p) (said-ended time answer job (said_in past))

pub over_says : {S : Type 0} (unit : ℕ) (up : Bool) (done : DoneState S) (time : ℕ) (s : ScriptLogState S) → IsRunningJob done s → Says unit up s → Says unit up (over done time s)
over_says unit up done time s runs h =
    let hooks : List HookMark = said_in s.log.past in
    let job : ℕ = ends_in hooks + 1 in
    let base : List Mark = ended_mark time done.answer job ∷ s.log.past in
    let past : List Mark = due_marks time base ++ base in
    let k : Keeps s.machine.facts hooks = h.keeps.stands.keeps in
    let ends : s.machine.facts.ends ≡ ends_in hooks = k.ends in
    let d : Due base past = due time base in
    let facts : HookFacts = settled (with_end s.machine.facts done.answer) in
    let w : Settles (with_end s.machine.facts done.answer) facts = settles (with_end s.machine.facts done.answer) in
    let said : said_in past ≡ with_due (Ended done.answer job ∷ hooks) = said-due time base ∙ ap with_due (said-ended time done.answer job hooks) in
    record {
      keeps = record {
        stands = subst (λ (p : List HookMark). StandsFor facts p) (sym said) (ended_stands s.machine.facts hooks done.answer job (ran unit up done s runs h).some (omega (arith, ends)) h.keeps.stands);
        directions = d.directions (λ f. absurd (false≢true (ap (λ k. k == START) f)), h.keeps.directions);
        out = λ o. absurd (let f : Some done.spawner ≡ None = o in cc);
      };
      target = h.target;
      is_open = ap (λ (o : Option ℕ). is_some o) (d.same_open ∙ other_says time done.answer job s.log.past) ∙ h.is_open;
      says = record {
        local = rw (w.now_open, d.local) h.says.local;
        remote = rw (w.now_open, d.remote) h.says.remote;
        openings = w.greatest ∙ h.says.openings ∙ sym d.openings;
      };
    }

pub over_adds : {S : Type 0} (done : DoneState S) (time : ℕ) (s : ScriptLogState S) → Adds 2 s (over done time s)
over_adds done time s =
    let base : List Mark = ended_mark time done.answer (ends_in (said_in s.log.past) + 1) ∷ s.log.past in
    let d : Due base (due_marks time base ++ base) = due time base in
    record { target = refl; few = omega (arith, d.few); longer = omega (arith, d.longer); limit = refl; since = omega (arith, d.since) }
