-- What a clause sees of a kit, and what its calls do to it.
use Rattle.std.specs.Prelude.{◌≡◌, ◌≢◌, ◌⊎◌, ℕ, List, [], Option, All}
use Rattle.ppp_outside.specs.declared.asked.Asked.{Asked}
use Rattle.ppp_outside.specs.declared.asked.Asked.TheVariants.{NotYet, Always, Mixed}
use Rattle.ppp_outside.specs.declared.hook_paths.HookPaths.{HookPaths}

-- the random word that was given last; what every call so far was given: of `spawner`, of `control`, and of `iface_in` and
-- `iface_out` together
pub record KitState : Type 0 where
  pub seeded : ℕ
  pub hooks_asked : Asked HookPaths
  pub path_asked : Asked (Option (List ℕ))
  pub packets_asked : Asked (Option (List ℕ))

-- Whether it says what these calls were given: there was none, or each was given this one, or no one value was given to all.
abbrev pub TellsOf : {A : Type 0} → Asked A → List A → Type 0
TellsOf NotYet values = values ≡ []
TellsOf (Always first) values = (values ≢ []) × All (λ value. value ≡ first) values
TellsOf {A} Mixed values = (first : A) → ¬ All (λ value. value ≡ first) values

-- What all calls were given, after one more: the first value, as long as no call was given another one.
abbrev pub AskedAfter : {A : Type 0} → Asked A → A → Asked A → Type 0
AskedAfter NotYet value now = now ≡ Always value
AskedAfter (Always first) value now = ((first ≡ value) × (now ≡ Always first)) ⊎ ((first ≢ value) × (now ≡ Mixed))
AskedAfter Mixed value now = now ≡ Mixed

-- A call of `spawner` with these paths.
pub record AsksHooks (old new : KitState) (hooks : HookPaths) : Type 0 where
  pub asked : AskedAfter old.hooks_asked hooks new.hooks_asked
  pub same : new ≡ record old { hooks_asked = new.hooks_asked }

-- A call of `control` with this path.
pub record AsksPath (old new : KitState) (path : Option (List ℕ)) : Type 0 where
  pub asked : AskedAfter old.path_asked path new.path_asked
  pub same : new ≡ record old { path_asked = new.path_asked }

-- A call of `iface_in` or `iface_out` with these addresses.
pub record AsksPackets (old new : KitState) (packets : Option (List ℕ)) : Type 0 where
  pub asked : AskedAfter old.packets_asked packets new.packets_asked
  pub same : new ≡ record old { packets_asked = new.packets_asked }
