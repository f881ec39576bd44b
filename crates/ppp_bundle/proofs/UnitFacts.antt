-- What stays so of a unit stays so by a step, and is so from the start.
use Rattle.std.proofs.Common.{◌≡◌, Option, None, Some, [], refl, sym, subst}
use Rattle.std.specs.Prelude.{IfNone, IfSome, OnSome}
use Rattle.ppp_base.specs.declared.hook_target.HookTarget.TheVariants.{Unit as OfUnit}
use Rattle.ppp_base.specs.declared.stepped.Stepped.{Stepped}
use Rattle.ppp_base.specs.declared.stepped.Stepped.TheVariants.{Taken, Stale}
use Rattle.ppp_base.specs.Stepped.{IfStale, OnTaken}
use Rattle.ppp_mp.specs.StandsFor.{GatherNow}
use Rattle.ppp_secrets.specs.declared.secrets.SecretsPair.{SecretsPair}
use Rattle.ppp_bundle.specs.declared.event.BundleEvent.{BundleEvent}
use Rattle.ppp_unit_parts.specs.declared.live.Live.{Live}
use Rattle.ppp_bundle.specs.Lives.{GoesOnAll, HasBegun, IsUnit, HasItsHistory}
use Rattle.ppp_bundle.specs.MayStand.{IsKind, Kind, UnitStands, kind_of, mrru_of}
use Rattle.ppp_bundle.specs.Sound.{IsSound}
use Rattle.ppp_bundle.specs.State.{UnitState, members_of}
use Rattle.ppp_bundle.specs.UnitPart.{IsLinkNumber, MayCome, UnitPart}
use Rattle.ppp_bundle.proofs.GoesFacts.{goes_all, has_begun, history_step}
use Rattle.ppp_bundle.proofs.StandSteps.{kind_after, step_stands}

-- A STEP

own_kind : (o : Option Live) (gather : GatherNow) → IfSome o (IsKind (record { mrru = mrru_of o; members = members_of o; gather = gather }))
own_kind None gather = tt
own_kind (Some l) gather = (refl, refl)

own_stands : {S : Type 0} (k : Kind) (u : UnitState S) → UnitStands k u → UnitStands (kind_of u) u
own_stands k u h = record { stands = h.stands; order = h.order; target = h.target; kind = own_kind u.live u.gather; gather_is = refl }

unit_taken : {S : Type 0} (secrets : SecretsPair) (event : BundleEvent S) (old new : UnitState S) → IsUnit old → IsSound new → IsLinkNumber event → MayCome event old → old.sent ≡ [] → old.given ≡ []
    → UnitPart secrets event old new → IsUnit new
unit_taken {S = S} secrets event old new unit sound is may sent given part =
    let k : Kind = kind_after event (record (kind_of old) { gather = part.gathered.gather }) in
    let stands : UnitStands k new = subst (λ (v : UnitState S). UnitStands k v) (sym part.after) (step_stands secrets event part.gathered old is may unit.marks) in
    record {
      sound = sound;
      history = subst (λ (v : UnitState S). HasItsHistory v) (sym part.after)
          (history_step secrets event part.gathered old old.live refl unit.history unit.marks.target part.gathers may is sent given);
      marks = own_stands k new stands;
    }

pub unit_after : {S : Type 0} (result : Stepped (BundleEvent S)) (secrets : SecretsPair) (event : BundleEvent S) (old new : UnitState S) → IsUnit old → IsSound new → IsLinkNumber event → MayCome event old
    → old.sent ≡ [] → old.given ≡ [] → OnTaken result (UnitPart secrets event old new) → IfStale result (λ back. (back ≡ event) × (new ≡ old)) → IsUnit new
unit_after Taken secrets event old new unit sound is may sent given part stale = unit_taken secrets event old new unit sound is may sent given part
unit_after {S = S} (Stale back) secrets event old new unit sound is may sent given part stale = subst (λ (v : UnitState S). IsUnit v) (sym stale.1) unit

pub goes_after : {S : Type 0} (result : Stepped (BundleEvent S)) (secrets : SecretsPair) (event : BundleEvent S) (old new : UnitState S) → IsUnit old → IsLinkNumber event → MayCome event old → old.sent ≡ [] → old.given ≡ []
    → OnTaken result (UnitPart secrets event old new) → OnTaken result (GoesOnAll secrets event old new)
goes_after {S = S} Taken secrets event old new unit is may sent given part =
    subst (λ (v : UnitState S). GoesOnAll secrets event old v) (sym part.after) (goes_all secrets event part.gathered old old.live refl unit.marks.target part.gathers may is sent given)
goes_after (Stale back) secrets event old new unit is may sent given part = tt

pub begun_after : {S : Type 0} (result : Stepped (BundleEvent S)) (secrets : SecretsPair) (event : BundleEvent S) (old new : UnitState S) → IsUnit old → MayCome event old
    → OnTaken result (UnitPart secrets event old new) → OnTaken result (HasBegun event old new)
begun_after {S = S} Taken secrets event old new unit may part =
    subst (λ (v : UnitState S). HasBegun event old v) (sym part.after) (has_begun secrets event part.gathered old part.gathers may unit.marks.target)
begun_after (Stale back) secrets event old new unit may part = tt

-- THE START

pub new_unit : {S : Type 0} (u : UnitState S) → IsSound u → u.live ≡ None → u.scripts.log.past ≡ [] → u.scripts.machine.target ≡ OfUnit u.unit → u.bundles ≡ 0 → IsUnit u
new_unit {S = S} u sound live past target none = record {
  sound = sound;
  history = rw live tt;
  marks = record {
    stands = rw (live, past) (record { all = tt; made_are = sym none; bundle = refl; stays_are = λ x. refl; closing_is = refl; openings = refl });
    order = rw live tt;
    target = target;
    kind = own_kind u.live u.gather;
    gather_is = refl;
  };
}

-- A job is taken: the spawner goes with it, and nothing else changes.
without_spawner : {S : Type 0} (u : UnitState S) → IsUnit u → IsUnit (record u { scripts = record u.scripts { machine = record u.scripts.machine { spawner = None } } })
without_spawner u h =
    let a = h.sound.agrees in
    record {
      sound = record {
        agrees = record {
          target = a.target;
          opened = a.opened;
          since = a.since;
          room = a.room;
          fits = a.fits;
          says = record { local = a.says.local; remote = a.says.remote; openings = a.says.openings };
          bundle = a.bundle;
          stays = a.stays;
          session = a.session;
          time = a.time;
        };
        few = h.sound.few;
        owes = h.sound.owes;
      };
      history = h.history;
      marks = record { stands = h.marks.stands; order = h.marks.order; target = h.marks.target; kind = h.marks.kind; gather_is = h.marks.gather_is };
    }

pub without_job : {S X : Type 0} (result : Option X) (old new : UnitState S) → OnSome result (new ≡ record old { scripts = record old.scripts { machine = record old.scripts.machine { spawner = None } } }) → IfNone result (new ≡ old)
    → IsUnit old → IsUnit new
without_job {S = S} None old new some none h = subst (λ (v : UnitState S). IsUnit v) (sym none) h
without_job {S = S} (Some x) old new some none h = subst (λ (v : UnitState S). IsUnit v) (sym some) (without_spawner old h)
