-- A run: step after step, each with what it prints; and how it begins.
use Rattle.std.specs.Prelude.{ℕ, ◌+◌, ◌≡◌, ⊤, None, List, [], ◌∷◌, replicate}
use Rattle.ppp_base.specs.RandomWords.{state_after}
use Rattle.ppp_lcp.specs.declared.wish.LcpWish.{LcpWish}
use Rattle.ppp_link_rules.specs.NewLink.{new_link}
use Rattle.ppp_link_rules.specs.Wishes.{IsWish}
use Rattle.ppp_option_words.specs.ConfigValues.{ConfigValues}
use Rattle.ppp_option_words.specs.LinkValues.{LinkValues}
use Rattle.ppp_secrets.specs.declared.secrets.SecretsPair.{SecretsPair}
use Rattle.ppp_table.specs.Begins.{IsNew}
use Rattle.ppp_trace.specs.declared.world_step.WorldStep.{WorldStep}
use Rattle.ppp_world_rules.specs.Place.{PlaceState, new_place}
use Rattle.ppp_world_rules.specs.Router.{Router, new_spawner}
use Rattle.ppp_world_rules.specs.WorldPart.{Output, WorldPart}

-- A link begins with its options, the secrets, and the generator's state after as many turns as its number.
pub record IsNewPlace (link : ℕ) (config : LinkValues) (secrets : SecretsPair) (seed limit : ℕ) (p : PlaceState) : Type 0 where
  pub wish : LcpWish
  pub asks : IsWish config wish
  pub is : p ≡ new_place (new_link link config wish secrets (state_after link seed) limit)

-- the first has this number
abbrev pub AreNewPlaces : ℕ → List LinkValues → SecretsPair → (seed limit : ℕ) → List PlaceState → Type 0
AreNewPlaces link [] secrets seed limit [] = ⊤
AreNewPlaces link [] secrets seed limit (p ∷ ps) = ⊥
AreNewPlaces link (c ∷ cs) secrets seed limit [] = ⊥
AreNewPlaces link (c ∷ cs) secrets seed limit (p ∷ ps) = IsNewPlace link c secrets seed limit p × AreNewPlaces (link + 1) cs secrets seed limit ps

pub record IsNewRouter (config : ConfigValues) (secrets : SecretsPair) (seed : ℕ) (r : Router) : Type 0 where
  pub links : AreNewPlaces 1 config.links secrets seed config.loglimit r.links
  pub jobs : r.jobs ≡ replicate 16 None
  pub table : IsNew config secrets (replicate 16 new_spawner) r.table

-- These steps, the first first, with what each prints.
abbrev pub Run : List WorldStep → Router → List Output → Router → Type 0
Run [] old [] new = new ≡ old
Run [] old (out ∷ outs) new = ⊥
Run (step ∷ steps) old [] new = ⊥
Run (step ∷ steps) old (out ∷ outs) new = (mid : Router) × WorldPart step old out mid × Run steps mid outs new
