-- A table as it is made, and what is taken out of it.
use Rattle.std.specs.Prelude.{ℕ, ◌+◌, ◌≡◌, ◌<◌, ⊤, Option, None, Some, List, [], ◌∷◌, replicate}
use Rattle.ppp_base.specs.declared.hook_target.HookTarget.TheVariants.{Unit as OfUnit}
use Rattle.ppp_base.specs.RingAfter.{one_more}
use Rattle.ppp_hooks.specs.HookFacts.{no_facts}
use Rattle.ppp_mark.specs.Log.{no_marks}
use Rattle.ppp_option_words.specs.ConfigValues.{ConfigValues}
use Rattle.ppp_secrets.specs.declared.secrets.SecretsPair.{SecretsPair}
use Rattle.ppp_bundle.specs.State.{UnitState}
use Rattle.ppp_table_parts.specs.declared.deliveries.Delivery.{Delivery}
use Rattle.ppp_table_parts.specs.Side.{idle}
use Rattle.ppp_table.specs.TableState.{TableState}

-- A unit without a bundle, whose log is empty and has the spawner.
pub record IsNewUnit {S : Type 0} (unit limit : ℕ) (spawner : S) (u : UnitState S) : Type 0 where
  pub number : u.unit ≡ unit
  pub time : u.time ≡ 0
  pub scripts : u.scripts ≡ record { machine = record { target = OfUnit unit; facts = no_facts; spawner = Some spawner }; log = no_marks limit }
  pub bundles : u.bundles ≡ 0
  pub live : u.live ≡ None
  pub waits : (u.sent ≡ []) × (u.given ≡ []) × (u.ended ≡ None)
  pub counts : u.counts ≡ record { not_open = 0; stranger = 0; too_big = 0; bad_inner = 0 }

-- one for each spawner, in their order; the first has this number
abbrev pub AreNewUnits : {S : Type 0} → (unit limit : ℕ) → List S → List (UnitState S) → Type 0
AreNewUnits unit limit [] [] = ⊤
AreNewUnits unit limit [] (u ∷ units) = ⊥
AreNewUnits unit limit (s ∷ spawners) [] = ⊥
AreNewUnits unit limit (s ∷ spawners) (u ∷ units) = IsNewUnit unit limit s u × AreNewUnits (unit + 1) limit spawners units

-- Nothing waits, nothing was counted.
pub record IsNew {S : Type 0} (config : ConfigValues) (secrets : SecretsPair) (spawners : List S) (t : TableState S) : Type 0 where
  pub units : AreNewUnits 0 config.loglimit spawners t.units
  pub sides : t.sides ≡ replicate 16 idle
  pub deliveries : t.deliveries ≡ record { waiting = []; dropped = 0 }
  pub links : t.links ≡ config.links
  pub secrets_are : t.secrets ≡ secrets
  pub counts : (t.stranger ≡ 0) × (t.packets ≡ 0) × (t.taken ≡ 0)

-- each spawner was called less often than its counts can tell
abbrev pub AreYoung : {S : Type 0} → (tries faults : S → ℕ) → ℕ → List S → Type 0
AreYoung tries faults most [] = ⊤
AreYoung tries faults most (s ∷ spawners) = (tries s < most) × (faults s < most) × AreYoung tries faults most spawners

-- A delivery that is taken is counted.
abbrev pub taken_after : Option Delivery → ℕ → ℕ
taken_after None taken = taken
taken_after (Some d) taken = one_more taken
