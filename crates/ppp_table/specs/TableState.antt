-- What contracts see of a table.
use Rattle.std.specs.Prelude.{ℕ, ◌≡◌, ◌+◌, ⊤, Option, None, Some, List, [], ◌∷◌}
use Rattle.ppp_base.specs.RingAfter.{Ring}
use Rattle.ppp_option_words.specs.LinkValues.{LinkValues}
use Rattle.ppp_ring.specs.Pieces.{Piece}
use Rattle.ppp_secrets.specs.declared.secrets.SecretsPair.{SecretsPair}
use Rattle.ppp_unit_parts.specs.Member.{stay_of}
use Rattle.ppp_bundle.specs.State.{UnitState, members_of}
use Rattle.ppp_table_parts.specs.Side.{SideState}
use Rattle.ppp_table.specs.declared.stays.Stay.{Stay}

-- The sixteen units; what waits for each of sixteen links; the datagrams that wait to be given; the options of the links and the secrets; the frames of links that were no
-- members, the packets that came and the deliveries that were taken.
pub record TableState (S : Type 0) : Type 0 where
  pub units : List (UnitState S)
  pub sides : List SideState
  pub deliveries : Ring (Piece ℕ)
  pub links : List LinkValues
  pub secrets : SecretsPair
  pub stranger : ℕ
  pub packets : ℕ
  pub taken : ℕ

-- the stay of a link, where it is a member of a unit; the first unit has this number
abbrev pub some_stay : ℕ → ℕ → Stay
some_stay unit stay = record { unit = unit; stay = stay }

abbrev pub stay_or : Option ℕ → ℕ → Option Stay → Option Stay
stay_or None unit others = others
stay_or (Some stay) unit others = Some (some_stay unit stay)

abbrev pub stay_from : {S : Type 0} → (unit link : ℕ) → List (UnitState S) → Option Stay
stay_from unit link [] = None
stay_from unit link (u ∷ units) = stay_or (stay_of link (members_of u.live)) unit (stay_from (unit + 1) link units)

abbrev pub stay_in : {S : Type 0} → ℕ → TableState S → Option Stay
stay_in link t = stay_from 0 link t.units

-- All that a unit sent and gave was taken.
abbrev pub AreDrained : {S : Type 0} → List (UnitState S) → Type 0
AreDrained [] = ⊤
AreDrained (u ∷ units) = (u.sent ≡ []) × (u.given ≡ []) × AreDrained units
