-- What a step of a trace makes of a link: which event it is told, with the errand that comes back by it, and which errands are taken out behind it.
use Rattle.std.specs.Prelude.{ℕ, ◌==◌, ◌&&◌, Bool, true, false, Option, None, Some, is_none, List, [], ◌∷◌, length, if◌then◌else◌}
use Rattle.ppp_base.specs.declared.hook_target.HookTarget.TheVariants.{Link}
use Rattle.ppp_outside.specs.Counts.{raised}
use Rattle.ppp_outside.specs.declared.spawner.ScriptEnd.{ScriptEnd}
use Rattle.ppp_link_rules.specs.declared.errand.ReadEnd.{ReadEnd}
use Rattle.ppp_link_rules.specs.declared.errand.ReadEnd.TheVariants as read
use Rattle.ppp_link_rules.specs.declared.errand.SentEnd.{SentEnd}
use Rattle.ppp_link_rules.specs.declared.errand.SentEnd.TheVariants as sent
use Rattle.ppp_link_rules.specs.Errands.{gives_dial, gives_job, gives_reading, gives_writing, octets_given, with_dial_out, with_job_out, with_reading_out, with_writing_out}
use Rattle.ppp_link_rules.specs.LinkEvent.{Event, Begin, Dialled, Bytes, LineOver, Flushed, Tick, Signal, HookOver}
use Rattle.ppp_link_rules.specs.LinkPart.{after_if, is_present}
use Rattle.ppp_link_rules.specs.LinkState.{LinkState, control, wants_line}
use Rattle.ppp_trace.specs.declared.world_step.WorldStep.{WorldStep}
use Rattle.ppp_trace.specs.declared.world_step.WorldStep.TheVariants as step
use Rattle.ppp_world_rules.specs.Place.{DialOut, JobOut, PlaceState, ReadingOut}

-- What a step leaves, whether it was taken, and which octets were written by it.
pub record Turn : Type 0 where
  pub place : PlaceState
  pub taken : Bool
  pub written : Option (List ℕ)

-- Nothing is run.
abbrev pub stale : PlaceState → Turn
stale p = record { place = p; taken = false; written = None }

-- The link is told an event. One that isn't present changes nothing.
abbrev pub told : Event → PlaceState → Turn
told event p =
    record { place = record p { link = after_if (is_present event p.link) event p.link }; taken = is_present event p.link; written = None }

-- THE DIAL that is out comes back, with a new line, which has given nothing, or with none.
abbrev pub given_by : Bool → ℕ → ℕ
given_by true given = 0
given_by false given = given

abbrev pub dialled_by : Option DialOut → Bool → PlaceState → Turn
dialled_by None came p = stale p
dialled_by (Some d) came p = told (Dialled d.link d.session d.failed came) (record p { dial = None; given = given_by came p.given })

abbrev pub dialled : Bool → PlaceState → Turn
dialled came p = dialled_by p.dial came p

-- THE READING that is out gives octets, at least one, which are numbered by how many its line gave before.
abbrev pub gave : List ℕ → ReadingOut → ReadingOut
gave octets r = record r { taken = raised r.taken (length octets) }

abbrev pub heard_by : Option ReadingOut → List ℕ → PlaceState → Turn
heard_by None octets p = stale p
heard_by (Some r) octets p = told (Bytes r.link r.session r.taken octets) (record p { reading = Some (gave octets r) })

abbrev pub heard : List ℕ → PlaceState → Turn
heard [] p = stale p
heard (octet ∷ octets) p = heard_by p.reading (octet ∷ octets) p

-- the same, where this is the present session and so many octets of it were taken
abbrev pub heard_at : (session offset : ℕ) → List ℕ → PlaceState → Turn
heard_at session offset octets p = if (control p.link).session == session && p.link.taken == offset then heard octets p else stale p

-- It comes back: the line has ended, or failed, or is left, which it isn't while the link wants it.
abbrev pub over_by : Option ReadingOut → ReadEnd → PlaceState → Turn
over_by None how p = stale p
over_by (Some r) how p = told (LineOver r.link r.session how) (record p { reading = None; given = r.taken })

abbrev pub line_over : ReadEnd → PlaceState → Turn
line_over how p = over_by p.reading how p

abbrev pub line_left : PlaceState → Turn
line_left p = if wants_line p.link then stale p else line_over read.Left p

-- A WRITING, where one is given, goes out whole, or nothing of it does.
abbrev pub written_by : SentEnd → List ℕ → Option (List ℕ)
written_by sent.All octets = Some octets
written_by (sent.Failed count) octets = None

abbrev pub flushed : SentEnd → PlaceState → Turn
flushed how p =
    record (told (Flushed p.link.id (control p.link).session how) (record p { link = with_writing_out p.link })) { written = written_by how (octets_given p.link) }

abbrev pub sends : SentEnd → PlaceState → Turn
sends how p = if gives_writing p.link then flushed how p else stale p

-- THE SCRIPT of this job ends, where it is the one that is out.
abbrev pub hook_by : Option JobOut → ℕ → ScriptEnd → PlaceState → Turn
hook_by None number answer p = stale p
hook_by (Some j) number answer p =
    if j.number == number then told (HookOver j.target j.number j.not_started answer) (record p { job = None }) else stale p

abbrev pub hook_over : ℕ → ScriptEnd → PlaceState → Turn
hook_over number answer p = hook_by p.job number answer p

-- ERRANDS are taken out, each where none of its kind is out and the link gives one.
abbrev pub with_dial_taken : PlaceState → PlaceState
with_dial_taken p =
    if is_none p.dial && gives_dial p.link
    then record p { link = with_dial_out p.link; dial = Some (record { link = p.link.id; session = (control p.link).session; failed = p.link.failed_dials }) }
    else p

abbrev pub with_reading_taken : PlaceState → PlaceState
with_reading_taken p =
    if is_none p.reading && gives_reading p.link
    then record p { link = with_reading_out p.link; reading = Some (record { link = p.link.id; session = (control p.link).session; taken = p.given }) }
    else p

abbrev pub with_job_taken : PlaceState → PlaceState
with_job_taken p =
    if is_none p.job && gives_job p.link
    then record p { link = with_job_out p.link; job = Some (record { target = Link p.link.id; number = p.link.scripts.starts; not_started = p.link.scripts.not_started }) }
    else p

abbrev pub errands_taken : PlaceState → PlaceState
errands_taken p = with_job_taken (with_reading_taken (with_dial_taken p))

-- A STEP OF A LINK. The others name no link, and do nothing here.
abbrev pub turn_of : WorldStep → PlaceState → Turn
turn_of (step.Begin link) p = told Begin p
turn_of (step.DialOk link) p = dialled true p
turn_of (step.DialFail link) p = dialled false p
turn_of (step.Rx link octets) p = heard octets p
turn_of (step.RxAt link session offset octets) p = heard_at session offset octets p
turn_of (step.LineEnd link) p = line_over read.End p
turn_of (step.LineFail link) p = line_over read.Failed p
turn_of (step.LineLeft link) p = line_left p
turn_of (step.SentOk link) p = sends sent.All p
turn_of (step.SentFail link) p = sends (sent.Failed 0) p
turn_of (step.Tick link ms) p = told (Tick ms) p
turn_of (step.Word link word) p = told (Signal word) p
turn_of (step.Hook link job answer) p = hook_over job answer p
turn_of (step.TableTick ms) p = stale p
turn_of (step.UnitHook unit job answer) p = stale p
turn_of (step.Packet unit datagram) p = stale p
turn_of (step.Carry link) p = stale p
