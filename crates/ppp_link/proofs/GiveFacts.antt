-- Errands are given: the link is whole without their objects.
use Rattle.std.proofs.Common.{arith, refl, ap, sym, subst, ◌∙◌, ◌≡◌, ℕ, ◌+◌, ◌-◌, ◌<◌, ◌≤◌, Bool, true, false, not, ◌&&◌, Option, None, Some, is_some}
use Rattle.std.specs.Prelude.{IfNone, IfSome, OnSome}
use Rattle.std.proofs.lemmas.Bool.{and_parts}
use Rattle.ppp_base.specs.declared.hook_target.HookTarget.TheVariants.{Link as OfLink}
use Rattle.ppp_hooks.specs.HookPast.{not_started_in, starts_in}
use Rattle.ppp_hooks.specs.HookState.{JobState, WasHandedIn}
use Rattle.ppp_mark.specs.Log.{LogState}
use Rattle.ppp_mark.specs.Scripts.{said_in}
use Rattle.ppp_outside.specs.Dialer.{DialerState}
use Rattle.ppp_outside.specs.Line.{LineState}
use Rattle.ppp_link_core.specs.declared.link_core.LinkCore.{LinkCore}
use Rattle.ppp_link_core.specs.Standing.{StandsFor}
use Rattle.ppp_link_events.specs.Going.{Gives as Gave, Goes, IsGoing}
use Rattle.ppp_link_parts.specs.Records.{told}
use Rattle.ppp_link_rules.specs.declared.errand.Errand.{Errand}
use Rattle.ppp_link_rules.specs.declared.errand.Errand.TheVariants.{Waiting, Out}
use Rattle.ppp_link_rules.specs.Errands.{gives_reading, gives_writing, is_none_waiting, with_dial_out, with_job_out, with_post_taken, with_reading_out, with_writing_out}
use Rattle.ppp_link_rules.specs.LinkState.{LinkState, control, is_out, is_waiting, wants_line}
use Rattle.ppp_link_steps.specs.Calm.{Calm, pending}
use Rattle.ppp_link.specs.declared.body.LinkBody.{LinkBody}
use Rattle.ppp_link.specs.Between.{made_by}
use Rattle.ppp_link.specs.ErrandValues.{DialJobState, ReadingState, WritingState}
use Rattle.ppp_link.specs.Given.{IsDialOf, IsJobOf, IsReadingOf, IsWritingOf}
use Rattle.ppp_link.specs.Link.{IsWhole, dials_of}
use Rattle.ppp_link.specs.Steps.{Gives}
use Rattle.ppp_link.proofs.KeepFacts.{Tried, counts_to, dial_is, dials_is, failed_is, reading_is, session_is, writing_is}

-- THE DIAL

pub dial_there : {D I O S : Type 0} {f : D → DialerState} {g : I → LineState} {l : LinkBody D I O S} → IsWhole f g l → l.core.dial ≡ Waiting → is_some l.dialer ≡ true
dial_there w e = w.dialer ∙ ap (λ (d : Errand). not (is_out d)) e

at_some : {A : Type 0} (P : A → Type 0) (o : Option A) {a : A} → o ≡ Some a → IfSome o P → P a
at_some P o e h = subst (λ x. IfSome x P) e h

positive : (failed waits session : ℕ) → waits ≡ 1 → failed + waits ≤ session → 0 < session
positive failed waits session e h = omega arith

waiting_first : {S : Type 0} {c : LinkCore S} → Calm c → c.dial ≡ Waiting → 0 < (told c.records).session
waiting_first {c = c} calm e =
    let s : LinkState = calm.state in
    subst (λ (n : ℕ). 0 < n) (sym (session_is calm.stands)) (positive s.failed_dials (pending s.dial) (control s).session (ap pending (sym (dial_is calm.stands) ∙ e)) calm.calm.few)

pub job_first : {D I O S : Type 0} {f : D → DialerState} {g : I → LineState} {l : LinkBody D I O S} → IsWhole f g l → l.core.dial ≡ Waiting → 0 < (told l.core.records).session
job_first w e = waiting_first w.goes.calm e

pub job_counts : {D I O S : Type 0} {f : D → DialerState} {g : I → LineState} {l : LinkBody D I O S} {d : D} → IsWhole f g l → l.core.dial ≡ Waiting → l.dialer ≡ Some d
    → WasHandedIn (f d).tries (f d).faults ((told l.core.records).session - 1) l.core.failed_dials
job_counts {f = f} {l = l} {d = d} w e there =
    subst (λ (n : ℕ). Tried f d n l.core.failed_dials) (ap (λ (x : Errand). made_by x (told l.core.records).session) e)
    (at_some (λ x. Tried f x (dials_of l.core) l.core.failed_dials) l.dialer there w.counts)

pub dial_whole : {D I O S : Type 0} {f : D → DialerState} {g : I → LineState} {l : LinkBody D I O S} {c : LinkCore S} → Gave with_dial_out l.core c → Goes c → IsWhole f g l
    → IsWhole f g (record l { core = c; dialer = None })
dial_whole {l = l} {c = c} gave goes w =
    let s : LinkState = w.goes.state in
    let k : StandsFor l.core s = w.goes.going.stands in
    let t : StandsFor c (with_dial_out s) = (gave.leaves s w.goes.going).stands in
    record {
      goes = goes;
      dialer = ap (λ (d : Errand). not (is_out d)) (sym (dial_is t));
      input = w.input ∙ ap is_waiting (reading_is k ∙ sym (reading_is t));
      output = w.output ∙ ap is_waiting (writing_is k ∙ sym (writing_is t));
      counts = tt;
      given = w.given;
    }

pub dial_carries : {D I O S : Type 0} {l : LinkBody D I O S} {d : D} → l.dialer ≡ Some d → (s : LinkState) → IsGoing l.core s
    → IsDialOf l s (record { link = l.core.id; session = (told l.core.records).session; failed = l.core.failed_dials; line = l.core.config.line; dialer = d })
dial_carries e s k = record {
  link = ap (λ (y : LinkState). y.id) k.stands.is;
  session = session_is k.stands;
  failed = failed_is k.stands;
  line = ap (λ (y : LinkState). y.config.line) k.stands.is;
  dialer = e;
}

-- THE READING

pub reading_there : {D I O S : Type 0} {f : D → DialerState} {g : I → LineState} {l : LinkBody D I O S} → IsWhole f g l → ((s : LinkState) → StandsFor l.core s → gives_reading s ≡ true) → is_some l.input ≡ true
reading_there w gives =
    let s : LinkState = w.goes.state in
    w.input ∙ (ap is_waiting (reading_is w.goes.going.stands) ∙ (and_parts (is_waiting s.reading) (wants_line s) (gives s w.goes.going.stands)).0)

pub reading_taken : {D I O S : Type 0} {f : D → DialerState} {g : I → LineState} {l : LinkBody D I O S} {i : I} → IsWhole f g l → l.input ≡ Some i → l.given ≡ (g i).taken
reading_taken {g = g} {l = l} w e = at_some (λ x. l.given ≡ (g x).taken) l.input e w.given

pub reading_whole : {D I O S : Type 0} {f : D → DialerState} {g : I → LineState} {l : LinkBody D I O S} {c : LinkCore S} → Gave with_reading_out l.core c → Goes c → IsWhole f g l
    → IsWhole f g (record l { core = c; input = None })
reading_whole {f = f} {l = l} {c = c} gave goes w =
    let s : LinkState = w.goes.state in
    let k : StandsFor l.core s = w.goes.going.stands in
    let t : StandsFor c (with_reading_out s) = (gave.leaves s w.goes.going).stands in
    record {
      goes = goes;
      dialer = w.dialer ∙ ap (λ (d : Errand). not (is_out d)) (dial_is k ∙ sym (dial_is t));
      input = ap is_waiting (sym (reading_is t));
      output = w.output ∙ ap is_waiting (writing_is k ∙ sym (writing_is t));
      counts = counts_to (Tried f) l.dialer (dials_is k ∙ sym (dials_is t)) (failed_is k ∙ sym (failed_is t)) w.counts;
      given = tt;
    }

pub reading_carries : {D I O S : Type 0} {l : LinkBody D I O S} {i : I} → l.input ≡ Some i → (s : LinkState) → IsGoing l.core s
    → IsReadingOf l s (record { link = l.core.id; session = (told l.core.records).session; taken = l.given; input = i })
reading_carries e s k = record { link = ap (λ (y : LinkState). y.id) k.stands.is; session = session_is k.stands; taken = refl; input = e }

-- A WRITING

pub writing_there : {D I O S : Type 0} {f : D → DialerState} {g : I → LineState} {l : LinkBody D I O S} → IsWhole f g l → ((s : LinkState) → StandsFor l.core s → gives_writing s ≡ true) → is_some l.output ≡ true
writing_there w gives =
    let s : LinkState = w.goes.state in
    w.output ∙ (ap is_waiting (writing_is w.goes.going.stands) ∙ (and_parts (is_waiting s.writing) (not (is_none_waiting s.out.waiting)) (gives s w.goes.going.stands)).0)

pub writing_whole : {D I O S : Type 0} {f : D → DialerState} {g : I → LineState} {l : LinkBody D I O S} {c : LinkCore S} → Gave with_writing_out l.core c → Goes c → IsWhole f g l
    → IsWhole f g (record l { core = c; output = None })
writing_whole {f = f} {l = l} {c = c} gave goes w =
    let s : LinkState = w.goes.state in
    let k : StandsFor l.core s = w.goes.going.stands in
    let t : StandsFor c (with_writing_out s) = (gave.leaves s w.goes.going).stands in
    record {
      goes = goes;
      dialer = w.dialer ∙ ap (λ (d : Errand). not (is_out d)) (dial_is k ∙ sym (dial_is t));
      input = w.input ∙ ap is_waiting (reading_is k ∙ sym (reading_is t));
      output = ap is_waiting (sym (writing_is t));
      counts = counts_to (Tried f) l.dialer (dials_is k ∙ sym (dials_is t)) (failed_is k ∙ sym (failed_is t)) w.counts;
      given = w.given;
    }

-- A JOB AND A POST: the errands are as they were.

pub rest_whole : {D I O S : Type 0} {f : D → DialerState} {g : I → LineState} {l : LinkBody D I O S} {c : LinkCore S} (s t : LinkState) → StandsFor l.core s → StandsFor c t
    → s.dial ≡ t.dial → s.reading ≡ t.reading → s.writing ≡ t.writing → (control s).session ≡ (control t).session → s.failed_dials ≡ t.failed_dials → Goes c → IsWhole f g l → IsWhole f g (record l { core = c })
rest_whole {f = f} {l = l} {c = c} s t k h dial reading writing session failed goes w = record {
  goes = goes;
  dialer = w.dialer ∙ ap (λ (d : Errand). not (is_out d)) (dial_is k ∙ (dial ∙ sym (dial_is h)));
  input = w.input ∙ ap is_waiting (reading_is k ∙ (reading ∙ sym (reading_is h)));
  output = w.output ∙ ap is_waiting (writing_is k ∙ (writing ∙ sym (writing_is h)));
  counts = counts_to (Tried f) l.dialer (ap (λ (d : Errand). made_by d (told l.core.records).session) (dial_is k ∙ (dial ∙ sym (dial_is h))) ∙ ap (λ (n : ℕ). made_by c.dial n) (session_is k ∙ (session ∙ sym (session_is h))))
      (failed_is k ∙ (failed ∙ sym (failed_is h))) w.counts;
  given = w.given;
}

pub same_whole : {D I O S : Type 0} {f : D → DialerState} {g : I → LineState} {l : LinkBody D I O S} {c : LinkCore S} → c ≡ l.core → IsWhole f g l → IsWhole f g (record l { core = c })
same_whole {f = f} {g = g} {l = l} e w = subst (λ x. IsWhole f g (record l { core = x })) (sym e) w

pub job_whole : {A D I O S : Type 0} {f : D → DialerState} {g : I → LineState} {l : LinkBody D I O S} {c : LinkCore S} (job : Option A)
    → OnSome job (Gave with_job_out l.core c) → IfNone job (c ≡ l.core) → Goes c → IsWhole f g l → IsWhole f g (record l { core = c })
job_whole None gave none goes w = same_whole none w
job_whole (Some x) gave none goes w =
    let s : LinkState = w.goes.state in
    rest_whole s (with_job_out s) w.goes.going.stands (gave.leaves s w.goes.going).stands refl refl refl refl refl goes w

pub post_whole : {A D I O S : Type 0} {f : D → DialerState} {g : I → LineState} {l : LinkBody D I O S} {c : LinkCore S} (post : Option A)
    → OnSome post (Gave with_post_taken l.core c) → IfNone post (c ≡ l.core) → Goes c → IsWhole f g l → IsWhole f g (record l { core = c })
post_whole None gave none goes w = same_whole none w
post_whole (Some x) gave none goes w =
    let s : LinkState = w.goes.state in
    rest_whole s (with_post_taken s) w.goes.going.stands (gave.leaves s w.goes.going).stands refl refl refl refl refl goes w

pub body_gives : {D I O S : Type 0} {rule : LinkState → LinkState} {l n : LinkBody D I O S} → Gave rule l.core n.core → Gives rule l n
body_gives gave = record { leaves = λ s k. gave.leaves s k }

pub body_gives_some : {A D I O S : Type 0} (rule : LinkState → LinkState) (l n : LinkBody D I O S) (o : Option A) → OnSome o (Gave rule l.core n.core) → OnSome o (Gives rule l n)
body_gives_some rule l n None gave = tt
body_gives_some rule l n (Some x) gave = body_gives {l = l} {n = n} gave

-- an object that was taken is gone
pub reading_keeps : {D I O S : Type 0} {f : D → DialerState} {g : I → LineState} {l : LinkBody D I O S} {c : LinkCore S} {v : Option I} → v ≡ None → Gave with_reading_out l.core c → Goes c → IsWhole f g l
    → IsWhole f g (record l { core = c; input = v })
reading_keeps {I = I} {f = f} {g = g} {l = l} {c = c} e gave goes w = subst (λ (x : Option I). IsWhole f g (record l { core = c; input = x })) (sym e) (reading_whole gave goes w)

pub writing_keeps : {D I O S : Type 0} {f : D → DialerState} {g : I → LineState} {l : LinkBody D I O S} {c : LinkCore S} {v : Option O} → v ≡ None → Gave with_writing_out l.core c → Goes c → IsWhole f g l
    → IsWhole f g (record l { core = c; output = v })
writing_keeps {O = O} {f = f} {g = g} {l = l} {c = c} e gave goes w = subst (λ (x : Option O). IsWhole f g (record l { core = c; output = x })) (sym e) (writing_whole gave goes w)

-- THE JOB

pub job_is : {D I O S A : Type 0} (l : LinkBody D I O S) (job : Option (JobState A)) → IfSome job (λ j. (j.target ≡ OfLink l.core.records.id) × (j.number ≡ (told l.core.records).starts))
    → IfSome job (λ j. (j.number ≡ starts_in (said_in l.core.records.scripts.log.past)) × (j.not_started ≡ not_started_in (said_in l.core.records.scripts.log.past)))
    → (s : LinkState) → IsGoing l.core s → IfSome job (IsJobOf s)
job_is l None whose said s k = tt
job_is l (Some j) whose said s k =
    let log : l.core.records.scripts.log ≡ s.log = ap (λ (y : LinkState). y.log) k.stands.is in
    let id : l.core.id ≡ s.id = ap (λ (y : LinkState). y.id) k.stands.is in
    let keeps = k.holds.scripts.stands.keeps in
    record {
      target = whose.0 ∙ ap (λ n. OfLink n) (k.stands.id ∙ id);
      number = said.0 ∙ ap (λ (y : LogState). starts_in (said_in y.past)) log ∙ sym keeps.starts;
      not_started = said.1 ∙ ap (λ (y : LogState). not_started_in (said_in y.past)) log ∙ sym keeps.not_started;
    }
