-- What a step of a trace makes of a link keeps all that is proved of a link between two steps.
use Rattle.std.proofs.Common.{refl, sym, subst, ap, ◌∙◌, ◌≡◌, ℕ, ◌≤◌, Bool, true, false, ◌&&◌, Option, None, Some, List, [], ◌∷◌}
use Rattle.std.specs.Prelude.{◌==◌, if◌then◌else◌, is_none}
use Rattle.std.proofs.lemmas.Bool.{and_parts}
use Rattle.ppp_outside.specs.declared.spawner.ScriptEnd.{ScriptEnd}
use Rattle.ppp_link_facts.specs.LinkStands.{LinkStands}
use Rattle.ppp_link_facts.proofs.LinkFacts.{dial_stands, job_stands, link_step_stands, reading_stands, writing_stands}
use Rattle.ppp_link_rules.specs.declared.errand.ReadEnd.{ReadEnd}
use Rattle.ppp_link_rules.specs.declared.errand.ReadEnd.TheVariants as read
use Rattle.ppp_link_rules.specs.declared.errand.SentEnd.{SentEnd}
use Rattle.ppp_link_rules.specs.declared.errand.SentEnd.TheVariants as sent
use Rattle.ppp_link_rules.specs.Errands.{gives_dial, gives_job, gives_reading, gives_writing, with_dial_out, with_job_out, with_reading_out, with_writing_out}
use Rattle.ppp_link_rules.specs.LinkEvent.{Event, Begin, Dialled, Bytes, LineOver, Flushed, Tick, Signal, HookOver}
use Rattle.ppp_link_rules.specs.LinkPart.{after_if, is_present}
use Rattle.ppp_link_rules.specs.LinkState.{LinkState, control, wants_line}
use Rattle.ppp_trace.specs.declared.world_step.WorldStep.{WorldStep}
use Rattle.ppp_trace.specs.declared.world_step.WorldStep.TheVariants as step
use Rattle.ppp_world_rules.specs.Place.{DialOut, JobOut, PlaceState, ReadingOut}
use Rattle.ppp_world_rules.specs.Turns.{Turn, dialled, dialled_by, errands_taken, flushed, gave, heard, heard_at, heard_by, hook_by, hook_over, line_left, line_over, over_by, sends, stale, told, turn_of, with_dial_taken, with_job_taken, with_reading_taken}

abbrev pub PlaceStands : PlaceState → Type 0
PlaceStands p = LinkStands p.link

abbrev TurnStands : Turn → Type 0
TurnStands t = LinkStands t.place.link

-- one of two, by a test
either : {A : Type 0} (P : A → Type 0) (b : Bool) {x y : A} → (b ≡ true → P x) → (b ≡ false → P y) → P (if b then x else y)
either P true f g = f refl
either P false f g = g refl

event_stands : (e : Event) (s : LinkState) → LinkStands s → LinkStands (after_if (is_present e s) e s)
event_stands e s k = link_step_stands e s (after_if (is_present e s) e s) (is_present e s) (record { told = refl; left = refl }) k

told_stands : (e : Event) (p : PlaceState) → PlaceStands p → TurnStands (told e p)
told_stands e p k = event_stands e p.link k

dialled_stands : (d : Option DialOut) (came : Bool) (p : PlaceState) → PlaceStands p → TurnStands (dialled_by d came p)
dialled_stands None came p k = k
dialled_stands (Some d) came p k = event_stands (Dialled d.link d.session d.failed came) p.link k

heard_by_stands : (r : Option ReadingOut) (octets : List ℕ) (p : PlaceState) → PlaceStands p → TurnStands (heard_by r octets p)
heard_by_stands None octets p k = k
heard_by_stands (Some r) octets p k = event_stands (Bytes r.link r.session r.taken octets) p.link k

heard_stands : (octets : List ℕ) (p : PlaceState) → PlaceStands p → TurnStands (heard octets p)
heard_stands [] p k = k
heard_stands (octet ∷ octets) p k = heard_by_stands p.reading (octet ∷ octets) p k

heard_at_stands : (session offset : ℕ) (octets : List ℕ) (p : PlaceState) → PlaceStands p → TurnStands (heard_at session offset octets p)
heard_at_stands session offset octets p k =
    either TurnStands ((control p.link).session == session && p.link.taken == offset) (λ e. heard_stands octets p k) (λ e. k)

over_stands : (r : Option ReadingOut) (how : ReadEnd) (p : PlaceState) → PlaceStands p → TurnStands (over_by r how p)
over_stands None how p k = k
over_stands (Some r) how p k = event_stands (LineOver r.link r.session how) p.link k

left_stands : (p : PlaceState) → PlaceStands p → TurnStands (line_left p)
left_stands p k = either TurnStands (wants_line p.link) (λ e. k) (λ e. over_stands p.reading read.Left p k)

sends_stands : (how : SentEnd) (p : PlaceState) → PlaceStands p → TurnStands (sends how p)
sends_stands how p k =
    either TurnStands (gives_writing p.link)
    (λ e. event_stands (Flushed p.link.id (control p.link).session how) (with_writing_out p.link) (writing_stands p.link e k))
    (λ e. k)

hook_stands : (j : Option JobOut) (number : ℕ) (answer : ScriptEnd) (p : PlaceState) → PlaceStands p → TurnStands (hook_by j number answer p)
hook_stands None number answer p k = k
hook_stands (Some j) number answer p k =
    either TurnStands (j.number == number) (λ e. event_stands (HookOver j.target j.number j.not_started answer) p.link k) (λ e. k)

turn_stands : (step : WorldStep) (p : PlaceState) → PlaceStands p → TurnStands (turn_of step p)
turn_stands (step.Begin link) p k = told_stands Begin p k
turn_stands (step.DialOk link) p k = dialled_stands p.dial true p k
turn_stands (step.DialFail link) p k = dialled_stands p.dial false p k
turn_stands (step.Rx link octets) p k = heard_stands octets p k
turn_stands (step.RxAt link session offset octets) p k = heard_at_stands session offset octets p k
turn_stands (step.LineEnd link) p k = over_stands p.reading read.End p k
turn_stands (step.LineFail link) p k = over_stands p.reading read.Failed p k
turn_stands (step.LineLeft link) p k = left_stands p k
turn_stands (step.SentOk link) p k = sends_stands sent.All p k
turn_stands (step.SentFail link) p k = sends_stands (sent.Failed 0) p k
turn_stands (step.Tick link ms) p k = told_stands (Tick ms) p k
turn_stands (step.Word link word) p k = told_stands (Signal word) p k
turn_stands (step.Hook link job answer) p k = hook_stands p.job job answer p k
turn_stands (step.TableTick ms) p k = k
turn_stands (step.UnitHook unit job answer) p k = k
turn_stands (step.Packet unit datagram) p k = k
turn_stands (step.Carry link) p k = k

-- ERRANDS

dial_taken : (p : PlaceState) → PlaceStands p → PlaceStands (with_dial_taken p)
dial_taken p k = either PlaceStands (is_none p.dial && gives_dial p.link) (λ e. dial_stands p.link (and_parts (is_none p.dial) (gives_dial p.link) e).1 k) (λ e. k)

reading_taken : (p : PlaceState) → PlaceStands p → PlaceStands (with_reading_taken p)
reading_taken p k = either PlaceStands (is_none p.reading && gives_reading p.link) (λ e. reading_stands p.link (and_parts (is_none p.reading) (gives_reading p.link) e).1 k) (λ e. k)

job_taken : (p : PlaceState) → PlaceStands p → PlaceStands (with_job_taken p)
job_taken p k = either PlaceStands (is_none p.job && gives_job p.link) (λ e. job_stands p.link (and_parts (is_none p.job) (gives_job p.link) e).1 k) (λ e. k)

errands_stand : (p : PlaceState) → PlaceStands p → PlaceStands (errands_taken p)
errands_stand p k = job_taken (with_reading_taken (with_dial_taken p)) (reading_taken (with_dial_taken p) (dial_taken p k))

pub step_stands : (step : WorldStep) (p : PlaceState) → PlaceStands p → PlaceStands (errands_taken (turn_of step p).place)
step_stands step p k = errands_stand (turn_of step p).place (turn_stands step p k)

pub carried_stands : (p : PlaceState) (s : LinkState) → LinkStands s → PlaceStands (errands_taken (record p { link = s }))
carried_stands p s k = errands_stand (record p { link = s }) k
