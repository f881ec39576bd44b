-- What one step of a trace makes of a router, and what it prints: by what an event makes of a link, of the table, and what carrying makes of both. All else stays as it is.
use Rattle.std.specs.Prelude.{ℕ, ◌+◌, ◌-◌, ◌<◌, ◌≡◌, Bool, true, false, Option, None, Some, List, [], ◌∷◌, ◌++◌, ◌⊎◌, length, map, slice_get, slice_set}
use Rattle.ppp_hooks.specs.HookState.{DoneState}
use Rattle.ppp_mark.specs.declared.mark.Mark.{Mark}
use Rattle.ppp_mark.specs.declared.report.LogName.{LogName}
use Rattle.ppp_bundle.specs.State.{UnitState}
use Rattle.ppp_outside.specs.declared.replay_spawner.ReplaySpawner.{ReplaySpawner}
use Rattle.ppp_outside.specs.declared.spawner.ScriptEnd.{ScriptEnd}
use Rattle.ppp_ring.specs.Pieces.{Piece}
use Rattle.ppp_table.specs.declared.event.TableEvent.{TableEvent}
use Rattle.ppp_table.specs.declared.event.TableEvent.TheVariants.{Packet, Tick, HookOver}
use Rattle.ppp_table.specs.TablePart.{IsFreshAt, TablePart}
use Rattle.ppp_trace.specs.declared.world_step.WorldStep.{WorldStep}
use Rattle.ppp_trace.specs.declared.world_step.WorldStep.TheVariants as step
use Rattle.ppp_world_rules.specs.Carries.{Carries}
use Rattle.ppp_world_rules.specs.NewMarks.{marks_since}
use Rattle.ppp_world_rules.specs.Place.{JobOut, PlaceState}
use Rattle.ppp_world_rules.specs.Turns.{Turn, errands_taken, turn_of}
use Rattle.ppp_link_rules.specs.LinkState.{LinkState}
use Rattle.ppp_world_rules.specs.Units.{IsDoneOf, TakesUnitJob, numbered}
use Rattle.ppp_world_rules.specs.Router.{Router, Table, drained, link_mark, unit_mark}

-- what is answered
pub record Answer : Type 0 where
  pub taken : Bool
  pub written : Option (List ℕ)

abbrev pub silent : Bool → Answer
silent taken = record { taken = taken; written = None }

-- Nothing is run.
pub record IsIdle (old new : Router) (answer : Answer) : Type 0 where
  pub same : new ≡ old
  pub stale : answer ≡ silent false

-- SCRIPTS OF UNITS are taken out behind what the table did, one unit after the other.
abbrev pub joined : {A : Type 0} → Option (Option A) → Option A
joined None = None
joined (Some o) = o

abbrev pub job_at : ℕ → List (Option JobOut) → Option JobOut
job_at unit jobs = joined (slice_get jobs unit)

pub record JobsTaken (was now : List (Option JobOut)) (old new : Table) : Type 0 where
  pub tables : ℕ → Table
  pub first : tables 0 ≡ old
  pub last : tables 16 ≡ new
  pub each : (unit : ℕ) → unit < 16 → TakesUnitJob unit (job_at unit was) (job_at unit now) (tables unit) (tables (unit + 1))
  pub size : length now ≡ length was

-- A STEP OF A LINK: its event, and then its errands are taken out.
abbrev pub with_link : ℕ → PlaceState → Router → Router
with_link link p r = record r { links = slice_set r.links (link - 1) p }

pub record Turns (t : Turn) (link : ℕ) (old new : Router) (answer : Answer) : Type 0 where
  pub after : new ≡ with_link link (errands_taken t.place) old
  pub answered : answer ≡ record { taken = t.taken; written = t.written }

abbrev pub LinkSteps : Option PlaceState → WorldStep → (link : ℕ) → (old new : Router) → Answer → Type 0
LinkSteps None step link old new answer = IsIdle old new answer
LinkSteps (Some p) step link old new answer = Turns (turn_of step p) link old new answer

abbrev pub LinkStep : ℕ → WorldStep → (old new : Router) → Answer → Type 0
LinkStep link step old new answer = LinkSteps (slice_get old.links (link - 1)) step link old new answer

-- AN EVENT OF THE TABLE, and then its units' scripts are taken out.
pub record TableTakes (event : TableEvent ReplaySpawner) (jobs : List (Option JobOut)) (old new : Router) : Type 0 where
  pub mid : Table
  pub part : TablePart event old.table mid
  pub takes : JobsTaken jobs new.jobs mid new.table
  pub links : new.links ≡ old.links

pub record TableStep (event : TableEvent ReplaySpawner) (old new : Router) (answer : Answer) : Type 0 where
  pub takes : TableTakes event old.jobs old new
  pub taken : answer ≡ silent true

-- A script of a unit ends: the one that is out, of this number.
pub record UnitHookEnds (unit : ℕ) (j : JobOut) (how : ScriptEnd) (old new : Router) (answer : Answer) : Type 0 where
  pub done : DoneState ReplaySpawner
  pub is : IsDoneOf j how done
  pub fresh : IsFreshAt (HookOver unit done) old.table
  pub takes : TableTakes (HookOver unit done) (slice_set old.jobs unit None) old new
  pub taken : answer ≡ silent true

-- An end that the table doesn't take.
pub record UnitHookStale (unit : ℕ) (j : JobOut) (how : ScriptEnd) (old new : Router) (answer : Answer) : Type 0 where
  pub done : DoneState ReplaySpawner
  pub is : IsDoneOf j how done
  pub stale : IsFreshAt (HookOver unit done) old.table → ⊥
  pub takes : JobsTaken (slice_set old.jobs unit None) new.jobs old.table new.table
  pub links : new.links ≡ old.links
  pub taken : answer ≡ silent false

abbrev pub UnitHooks : Option JobOut → (unit : ℕ) → ScriptEnd → (old new : Router) → Answer → Type 0
UnitHooks None unit how old new answer = IsIdle old new answer
UnitHooks (Some j) unit how old new answer = UnitHookEnds unit j how old new answer ⊎ UnitHookStale unit j how old new answer

-- CARRYING between a link and the table, and then the errands of both are taken out.
pub record CarryTakes (p : PlaceState) (link : ℕ) (old new : Router) (answer : Answer) : Type 0 where
  pub is : LinkState
  pub mid : Table
  pub carries : Carries p.link is old.table mid
  pub links : new.links ≡ slice_set old.links (link - 1) (errands_taken (record p { link = is }))
  pub takes : JobsTaken old.jobs new.jobs mid new.table
  pub taken : answer ≡ silent true

abbrev pub CarrySteps : Option PlaceState → (link : ℕ) → (old new : Router) → Answer → Type 0
CarrySteps None link old new answer = IsIdle old new answer
CarrySteps (Some p) link old new answer = CarryTakes p link old new answer

-- ONE STEP
abbrev pub Runs : WorldStep → (old new : Router) → Answer → Type 0
Runs (step.Begin link) old new answer = LinkStep link (step.Begin link) old new answer
Runs (step.DialOk link) old new answer = LinkStep link (step.DialOk link) old new answer
Runs (step.DialFail link) old new answer = LinkStep link (step.DialFail link) old new answer
Runs (step.Rx link octets) old new answer = LinkStep link (step.Rx link octets) old new answer
Runs (step.RxAt link session offset octets) old new answer = LinkStep link (step.RxAt link session offset octets) old new answer
Runs (step.LineEnd link) old new answer = LinkStep link (step.LineEnd link) old new answer
Runs (step.LineFail link) old new answer = LinkStep link (step.LineFail link) old new answer
Runs (step.LineLeft link) old new answer = LinkStep link (step.LineLeft link) old new answer
Runs (step.SentOk link) old new answer = LinkStep link (step.SentOk link) old new answer
Runs (step.SentFail link) old new answer = LinkStep link (step.SentFail link) old new answer
Runs (step.Tick link ms) old new answer = LinkStep link (step.Tick link ms) old new answer
Runs (step.Word link word) old new answer = LinkStep link (step.Word link word) old new answer
Runs (step.Hook link job how) old new answer = LinkStep link (step.Hook link job how) old new answer
Runs (step.TableTick ms) old new answer = TableStep (Tick ms) old new answer
Runs (step.Packet unit datagram) old new answer = TableStep (Packet unit datagram) old new answer
Runs (step.UnitHook unit job how) old new answer = UnitHooks (numbered job (job_at unit old.jobs)) unit how old new answer
Runs (step.Carry link) old new answer = CarrySteps (slice_get old.links (link - 1)) link old new answer

-- WHAT IT MAKES NEW: the marks of links, then those of units; the first link has this number, and the first unit.
abbrev pub new_link_marks : ℕ → (old new : List PlaceState) → List (LogName × Mark)
new_link_marks link [] new = []
new_link_marks link (p ∷ ps) [] = []
new_link_marks link (p ∷ ps) (q ∷ qs) = map (link_mark link) (marks_since (length p.link.log.past) q.link.log) ++ new_link_marks (link + 1) ps qs

abbrev pub new_unit_marks : ℕ → (old new : List (UnitState ReplaySpawner)) → List (LogName × Mark)
new_unit_marks unit [] new = []
new_unit_marks unit (u ∷ us) [] = []
new_unit_marks unit (u ∷ us) (v ∷ vs) = map (unit_mark unit) (marks_since (length u.scripts.log.past) v.scripts.log) ++ new_unit_marks (unit + 1) us vs

abbrev pub new_marks : (old new : Router) → List (LogName × Mark)
new_marks old new = new_link_marks 1 old.links new.links ++ new_unit_marks 0 old.table.units new.table.units

-- What is printed of a step: whether it was taken, the new marks, the octets that were written, the datagrams that were given.
pub record Output : Type 0 where
  pub answer : Answer
  pub marks : List (LogName × Mark)
  pub given : List (Piece ℕ)

pub record WorldPart (step : WorldStep) (old : Router) (out : Output) (new : Router) : Type 0 where
  pub mid : Router
  pub runs : Runs step old mid out.answer
  pub marks : out.marks ≡ new_marks old mid
  pub given : out.given ≡ mid.table.deliveries.waiting
  pub after : new ≡ record mid { table = drained mid.table }
