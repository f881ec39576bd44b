-- Where the marks of bundles and members may stand in a unit's log, by the marks before them, the newest first.
use Rattle.std.specs.Prelude.{ℕ, ◌+◌, ◌≡◌, ◌≢◌, ◌⊎◌, ◌==◌, ◌||◌, ⊤, Bool, true, false, Option, None, Some, IsSome, IfSome, List, [], ◌∷◌, if◌then◌else◌}
use Rattle.ppp_hooks.specs.HookPast.{greatest_in, open_in}
use Rattle.ppp_base.specs.Mrru.{MrruPair}
use Rattle.ppp_mark.specs.declared.mark.Mark.{Mark}
use Rattle.ppp_mark.specs.declared.kind.TheConstants.{CLOSE, IN, IP_OPEN, MADE, OUT, UNMADE}
use Rattle.ppp_mark.specs.Scripts.{said_in}
use Rattle.ppp_bundle.specs.Replay.{bundle_in, bundles_in, openings_in, stay_in}
use Rattle.ppp_mp.specs.StandsFor.{GatherNow}
use Rattle.ppp_unit_parts.specs.declared.live.Live.{Live}
use Rattle.ppp_unit_parts.specs.declared.member.Member.{Member}
use Rattle.ppp_unit_parts.specs.Member.{AreInOrder, stay_of}
use Rattle.ppp_bundle.specs.State.{UnitState, members_of}
use Rattle.ppp_base.specs.declared.hook_target.HookTarget.TheVariants.{Unit as OfUnit}

-- whether the bundle that lives is being closed
abbrev pub is_closing_in : List Mark → Bool
is_closing_in [] = false
is_closing_in (m ∷ past) = if m.kind == CLOSE then true else if m.kind == MADE || m.kind == UNMADE then false else is_closing_in past

-- No other link is a member.
abbrev pub IsLast : ℕ → List Mark → Type 0
IsLast link past = (other : ℕ) → other ≢ link → stay_in other past ≡ None

-- A bundle is made where none lives, under the next number. A link comes in while the bundle lives and isn't being closed, and is no member. IP opens, under
-- the next number, while the bundle lives and isn't being closed. A bundle is closed once. A member goes out under the stay in which it came in; where the
-- bundle is being closed or no other is a member, IP is closed before. The bundle is unmade when all have gone out and IP is closed.
pub record MayStandHere (past : List Mark) (m : Mark) : Type 0 where
  pub made : m.kind ≡ MADE → (bundle_in past ≡ None) × (m.z ≡ bundles_in 0 past + 1)
  pub comes : m.kind ≡ IN → IsSome (bundle_in past) × (stay_in m.x past ≡ None) × (is_closing_in past ≡ false)
  pub opens : m.kind ≡ IP_OPEN → IsSome (bundle_in past) × (is_closing_in past ≡ false) × (m.z ≡ openings_in 0 past + 1)
  pub closes : m.kind ≡ CLOSE → IsSome (bundle_in past) × (is_closing_in past ≡ false)
  pub goes : m.kind ≡ OUT → (stay_in m.x past ≡ Some m.z) × ((is_closing_in past ≡ true) ⊎ IsLast m.x past → open_in (said_in past) ≡ None)
  pub unmade : m.kind ≡ UNMADE → (bundle_in past ≡ Some m.z) × ((link : ℕ) → stay_in link past ≡ None) × (open_in (said_in past) ≡ None)

-- each where it may
abbrev pub AllMayStand : List Mark → Type 0
AllMayStand [] = ⊤
AllMayStand (m ∷ past) = MayStandHere past m × AllMayStand past

-- What a log says: how many bundles were made, the one that lives, who is a member, and whether it is being closed; and each of its marks stands where it
-- may.
pub record Stands (bundles : ℕ) (number : Option ℕ) (stays : ℕ → Option ℕ) (closing : Bool) (past : List Mark) : Type 0 where
  pub all : AllMayStand past
  pub made_are : bundles_in 0 past ≡ bundles
  pub bundle : bundle_in past ≡ number
  pub stays_are : (link : ℕ) → stay_in link past ≡ stays link
  pub closing_is : is_closing_in past ≡ closing
  pub openings : greatest_in (said_in past) ≡ openings_in 0 past

abbrev pub number_of : Option Live → Option ℕ
number_of None = None
number_of (Some l) = Some l.number

-- what a step keeps of a bundle, but where its event is about it, and of the gatherer
pub record Kind : Type 0 where
  pub mrru : Option MrruPair
  pub members : List Member
  pub gather : GatherNow

abbrev pub mrru_of : Option Live → Option MrruPair
mrru_of None = None
mrru_of (Some l) = l.mrru

abbrev pub kind_of : {S : Type 0} → UnitState S → Kind
kind_of u = record { mrru = mrru_of u.live; members = members_of u.live; gather = u.gather }

abbrev pub IsKind : Kind → Live → Type 0
IsKind k l = (l.mrru ≡ k.mrru) × (l.members ≡ k.members)

-- What the log of a unit says is what it keeps, and each mark stands where it may; and its bundle, where one lives, and its gatherer are these.
pub record UnitStands {S : Type 0} (k : Kind) (u : UnitState S) : Type 0 where
  pub stands : Stands u.bundles (number_of u.live) (λ x. stay_of x (members_of u.live)) false u.scripts.log.past
  pub order : AreInOrder 0 (members_of u.live)
  pub target : u.scripts.machine.target ≡ OfUnit u.unit
  pub kind : IfSome u.live (IsKind k)
  pub gather_is : u.gather ≡ k.gather
