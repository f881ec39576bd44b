-- A step of a router keeps what stands of it, and so does a run; and from that the headline follows.
use Rattle.std.proofs.Common.{refl, sym, subst, ap, ◌∙◌, ◌≡◌, ◌-◌, ◌+◌, ◌<◌, ℕ, zero, suc, ◌≤◌, Bool, true, false, Option, None, Some, List, [], ◌∷◌, inl, inr, arith}
use Rattle.std.specs.List.{AllByRecursion}
use Rattle.std.specs.Prelude.{◌⊎◌, replicate, slice_get, slice_set}
use Rattle.ppp_base.specs.RandomWords.{state_after}
use Rattle.ppp_bundle.specs.State.{UnitState}
use Rattle.ppp_link_facts.specs.LinkStands.{LinkStands}
use Rattle.ppp_link_facts.proofs.LinkFacts.{link_scripts_follow, new_link_stands}
use Rattle.ppp_option_words.specs.ConfigValues.{ConfigValues}
use Rattle.ppp_option_words.specs.LinkValues.{LinkValues}
use Rattle.ppp_outside.specs.declared.replay_spawner.ReplaySpawner.{ReplaySpawner}
use Rattle.ppp_outside.specs.declared.spawner.ScriptEnd.{ScriptEnd}
use Rattle.ppp_secrets.specs.declared.secrets.SecretsPair.{SecretsPair}
use Rattle.ppp_table.specs.TableState.{TableState}
use Rattle.ppp_table.specs.declared.event.TableEvent.{TableEvent}
use Rattle.ppp_table.specs.declared.event.TableEvent.TheVariants.{Packet, Tick, HookOver}
use Rattle.ppp_table.specs.TablePart.{IsFreshAt, TablePart}
use Rattle.ppp_base.specs.declared.posts.UpPost.{UpPost}
use Rattle.ppp_base.specs.declared.posts.UpPost.TheVariants.{Join, Frame, Leave}
use Rattle.ppp_table_facts.specs.TableStands.{IsPost, TableStands, UnitKeeps as UnitStands}
use Rattle.ppp_table_facts.proofs.TableSteps.{each_unit, emptied_stands, event_stands, job_stands, new_stands, rest_stands}
use Rattle.ppp_table_facts.proofs.PostSteps.{post_stands}
use Rattle.ppp_table_facts.proofs.UnitSteps.{itself, lawful}
use Rattle.ppp_trace.specs.declared.world_step.WorldStep.{WorldStep}
use Rattle.ppp_trace.specs.declared.world_step.WorldStep.TheVariants as step
use Rattle.ppp_world_rules.specs.Place.{JobOut, PlaceState}
use Rattle.ppp_world_rules.specs.Turns.{turn_of}
use Rattle.ppp_world_rules.specs.Units.{TakesUnitJob, numbered}
use Rattle.ppp_world_rules.specs.Router.{Router, Table, drained, new_spawner, taken_with}
use Rattle.ppp_world_rules.specs.WorldPart.{Answer, CarrySteps, CarryTakes, IsIdle, JobsTaken, LinkStep, LinkSteps, Output, Runs, TableStep, TableTakes, Turns, UnitHooks, WorldPart, job_at}
use Rattle.ppp_world_rules.proofs.CarryRuns.{given_stand, posted_stand, taken_stand}
use Rattle.ppp_world_rules.proofs.LinkRuns.{PlaceStands, carried_stands, step_stands}
use Rattle.ppp_world_rules.proofs.Places.{all_at, all_from, all_mapped, all_set}
use Rattle.ppp_world_rules.specs.Headline.{Headline, LinkKeeps, UnitKeeps}
use Rattle.ppp_world_rules.specs.Run.{AreNewPlaces, IsNewRouter, Run}

pub record RouterStands (r : Router) : Type 0 where
  pub links : AllByRecursion PlaceStands r.links
  pub table : TableStands r.table

-- SCRIPTS OF UNITS

job_taken : (unit : ℕ) (was now : Option JobOut) (old new : Table) → TakesUnitJob unit was now old new → TableStands old → TableStands new
job_taken unit (Some j) now old new t k = subst TableStands (sym t.1) k
job_taken unit None now old new t k = job_stands unit t.0 old new t.1 k

jobs_to : (count : ℕ) → count ≤ 16 → (tables : ℕ → Table) (was now : List (Option JobOut)) → ((unit : ℕ) → unit < 16 → TakesUnitJob unit (job_at unit was) (job_at unit now) (tables unit) (tables (unit + 1)))
    → TableStands (tables 0) → TableStands (tables count)
jobs_to zero few tables was now each k = k
jobs_to (suc n) few tables was now each k =
    subst (λ m. TableStands (tables m)) (by_one n) (job_taken n (job_at n was) (job_at n now) (tables n) (tables (n + 1)) (each n (omega arith)) (jobs_to n (omega arith) tables was now each k))
  where
    by_one : (n : ℕ) → n + 1 ≡ suc n
    by_one n = omega arith

jobs_stand : {was now : List (Option JobOut)} {old new : Table} → JobsTaken was now old new → TableStands old → TableStands new
jobs_stand {was = was} {now = now} t k = subst TableStands t.last (jobs_to 16 (omega arith) t.tables was now t.each (subst TableStands (sym t.first) k))

-- A peer takes 128 to 1,500 octets: every Join says so.
is_post : (post : UpPost) → IsPost post
is_post (Join j) = j.mru_range
is_post (Frame protocol information) = tt
is_post (Leave stay) = tt

-- STEPS

idle_stands : {old new : Router} {a : Answer} → IsIdle old new a → RouterStands old → RouterStands new
idle_stands i k = subst RouterStands (sym i.same) k

link_stands : (place : Option PlaceState) (s : WorldStep) (link : ℕ) (old new : Router) (a : Answer) → slice_get old.links (link - 1) ≡ place → LinkSteps place s link old new a
    → RouterStands old → RouterStands new
link_stands None s link old new a there i k = idle_stands i k
link_stands (Some p) s link old new a there t k =
    subst RouterStands (sym t.after) (record {
      links = all_set PlaceStands old.links (link - 1) _ (step_stands s p (all_at PlaceStands old.links (link - 1) p there k.links)) k.links;
      table = k.table;
    })

takes_stand : {event : TableEvent ReplaySpawner} {jobs : List (Option JobOut)} {old new : Router} → IsFreshAt event old.table → TableTakes event jobs old new → RouterStands old → RouterStands new
takes_stand {event = event} {old = old} fresh t k = record {
  links = subst (AllByRecursion PlaceStands) (sym t.links) k.links;
  table = jobs_stand t.takes (event_stands event old.table t.mid t.part fresh k.table);
}

hooks_stand : (j : Option JobOut) (unit : ℕ) (how : ScriptEnd) (old new : Router) (a : Answer) → UnitHooks j unit how old new a → RouterStands old → RouterStands new
hooks_stand None unit how old new a i k = idle_stands i k
hooks_stand (Some j) unit how old new a (inl h) k = takes_stand h.fresh h.takes k
hooks_stand (Some j) unit how old new a (inr h) k = record { links = subst (AllByRecursion PlaceStands) (sym h.links) k.links; table = jobs_stand h.takes k.table }

carry_stands : (place : Option PlaceState) (link : ℕ) (old new : Router) (a : Answer) → slice_get old.links (link - 1) ≡ place → CarrySteps place link old new a → RouterStands old → RouterStands new
carry_stands None link old new a there i k = idle_stands i k
carry_stands (Some p) link old new a there t k =
    let part = t.carries.part in
    let was : PlaceStands p = all_at PlaceStands old.links (link - 1) p there k.links in
    let mid : TableStands part.mid = posted_stand TableStands p.link.id (λ post old new part. post_stands p.link.id post old new part t.carries.from_one t.carries.to_sixteen (is_post post)) t.carries.posts old.table part.mid part.up k.table in
    let is : LinkStands t.is = given_stand _ part.between t.is part.down (taken_stand t.carries.posts p.link part.between part.from_link was) in
    record {
      links = subst (AllByRecursion PlaceStands) (sym t.links) (all_set PlaceStands old.links (link - 1) _ (carried_stands p t.is is) k.links);
      table = jobs_stand t.takes (subst TableStands (sym part.after) (emptied_stands p.link.id part.mid mid));
    }

runs_stand : (s : WorldStep) (old new : Router) (a : Answer) → Runs s old new a → RouterStands old → RouterStands new
runs_stand (step.Begin link) old new a r k = link_stands _ (step.Begin link) link old new a refl r k
runs_stand (step.DialOk link) old new a r k = link_stands _ (step.DialOk link) link old new a refl r k
runs_stand (step.DialFail link) old new a r k = link_stands _ (step.DialFail link) link old new a refl r k
runs_stand (step.Rx link octets) old new a r k = link_stands _ (step.Rx link octets) link old new a refl r k
runs_stand (step.RxAt link session offset octets) old new a r k = link_stands _ (step.RxAt link session offset octets) link old new a refl r k
runs_stand (step.LineEnd link) old new a r k = link_stands _ (step.LineEnd link) link old new a refl r k
runs_stand (step.LineFail link) old new a r k = link_stands _ (step.LineFail link) link old new a refl r k
runs_stand (step.LineLeft link) old new a r k = link_stands _ (step.LineLeft link) link old new a refl r k
runs_stand (step.SentOk link) old new a r k = link_stands _ (step.SentOk link) link old new a refl r k
runs_stand (step.SentFail link) old new a r k = link_stands _ (step.SentFail link) link old new a refl r k
runs_stand (step.Tick link ms) old new a r k = link_stands _ (step.Tick link ms) link old new a refl r k
runs_stand (step.Word link word) old new a r k = link_stands _ (step.Word link word) link old new a refl r k
runs_stand (step.Hook link job how) old new a r k = link_stands _ (step.Hook link job how) link old new a refl r k
runs_stand (step.TableTick ms) old new a r k = takes_stand tt r.takes k
runs_stand (step.UnitHook unit job how) old new a r k = hooks_stand _ unit how old new a r k
runs_stand (step.Packet unit datagram) old new a r k = takes_stand tt r.takes k
runs_stand (step.Carry link) old new a r k = carry_stands _ link old new a refl r k

drained_stands : (t : Table) → TableStands t → TableStands (drained t)
drained_stands t k = rest_stands t (record t.deliveries { waiting = [] }) t.stranger t.packets (taken_with t.deliveries.waiting t.taken) k

pub part_stands : (s : WorldStep) (old new : Router) (out : Output) → WorldPart s old out new → RouterStands old → RouterStands new
part_stands s old new out part k =
    let mid : RouterStands part.mid = runs_stand s old part.mid out.answer part.runs k in
    subst RouterStands (sym part.after) (record { links = mid.links; table = drained_stands part.mid.table mid.table })

pub run_stands : (steps : List WorldStep) (old new : Router) (outs : List Output) → Run steps old outs new → RouterStands old → RouterStands new
run_stands [] old new [] run k = subst RouterStands (sym run) k
run_stands [] old new (out ∷ outs) run k = absurd run
run_stands (s ∷ steps) old new [] run k = absurd run
run_stands (s ∷ steps) old new (out ∷ outs) run k = run_stands steps run.0 new outs run.2 (part_stands s old run.0 out run.1 k)

-- HOW IT BEGINS

new_places_stand : (link : ℕ) (cs : List LinkValues) (secrets : SecretsPair) (seed limit : ℕ) (ps : List PlaceState) → 1024 ≤ limit → AreNewPlaces link cs secrets seed limit ps
    → AllByRecursion PlaceStands ps
new_places_stand link [] secrets seed limit [] room new = tt
new_places_stand link [] secrets seed limit (p ∷ ps) room new = absurd new
new_places_stand link (c ∷ cs) secrets seed limit [] room new = absurd new
new_places_stand link (c ∷ cs) secrets seed limit (p ∷ ps) room new =
    (subst PlaceStands (sym new.0.is) (new_link_stands link (state_after link seed) limit c new.0.wish secrets room), new_places_stand (link + 1) cs secrets seed limit ps room new.1)

pub new_router_stands : (config : ConfigValues) (secrets : SecretsPair) (seed : ℕ) (r : Router) → 4096 ≤ config.loglimit → IsNewRouter config secrets seed r → RouterStands r
new_router_stands config secrets seed r least new = record {
  links = new_places_stand 1 config.links secrets seed config.loglimit r.links (omega (arith, least)) new.links;
  table = new_stands config secrets (replicate 16 new_spawner) r.table refl least new.table;
}

-- WHAT FOLLOWS

link_keeps : (p : PlaceState) → PlaceStands p → LinkKeeps p.link
link_keeps p k = let f = link_scripts_follow p.link k in record { law = f.law; settled = f.settled }

unit_keeps : (u : UnitState ReplaySpawner) → UnitStands u → UnitKeeps u
unit_keeps u k = let i = itself u k in record { law = lawful u k; settled = i.settled; history = i.history }

pub headline : (r : Router) → RouterStands r → Headline r
headline r k = record {
  links = all_mapped PlaceStands (λ (p : PlaceState). LinkKeeps p.link) r.links link_keeps k.links;
  units = all_from UnitKeeps r.table.units (λ unit. each_unit UnitKeeps unit_keeps unit r.table k.table);
  apart = k.table.whole.apart;
  fit = k.table.whole.fits;
  together = k.table.whole.together;
}
