-- Which links belong in one bundle (RFC 1990, section 5.1.3), and what stays so of a table from call to call.
use Rattle.std.specs.List.{AllByRecursion}
use Rattle.std.specs.Prelude.{ℕ, ◌≡◌, ◌≤◌, ⊤, true, is_some, Option, None, Some, IfSome, List, [], length, slice_get}
use Rattle.ppp_base.specs.Mrru.{MrruPair}
use Rattle.ppp_unit_parts.specs.declared.live.Live.{Live}
use Rattle.ppp_unit_parts.specs.declared.member.Member.{Member}
use Rattle.ppp_unit_parts.specs.Member.{has_link}
use Rattle.ppp_mark.specs.Scripts.{LogSettled}
use Rattle.ppp_bundle.specs.Lives.{HasItsHistory}
use Rattle.ppp_bundle.specs.MayStand.{AllMayStand}
use Rattle.ppp_bundle.specs.Replay.{Replay}
use Rattle.ppp_bundle.specs.State.{UnitState, is_open, members_of}
use Rattle.ppp_table_parts.specs.Key.{Key, Terms}
use Rattle.ppp_table_parts.specs.Side.{SideState}
use Rattle.ppp_table_parts.specs.Sides.{side_of}
use Rattle.ppp_table.specs.TableState.{AreDrained, TableState}

abbrev pub members_in : {S : Type 0} → Option (UnitState S) → List Member
members_in None = []
members_in (Some u) = members_of u.live

-- What each unit says of itself: its log is that of its bundles and scripts, each mark stands where it may, and its bundle has a history.
pub record IsItself {S : Type 0} (u : UnitState S) : Type 0 where
  pub settled : LogSettled u.scripts.log.past (is_open u.live)
  pub replay : Replay u u.scripts.log.past
  pub marks : AllMayStand u.scripts.log.past
  pub history : HasItsHistory u

-- No link is in two bundles.
abbrev pub AreApart : {S : Type 0} → List (UnitState S) → Type 0
AreApart units = (a b link : ℕ) → has_link link (members_in (slice_get units a)) ≡ true → has_link link (members_in (slice_get units b)) ≡ true → a ≡ b

-- A member came in with these terms.
abbrev pub CameWith : List SideState → Terms → Member → Type 0
CameWith sides terms m = (1 ≤ m.link) × ((side_of m.link sides).terms ≡ Some terms)

-- A multilink bundle has a member; any other bundle has exactly one.
abbrev pub HasSome : Option MrruPair → List Member → Type 0
HasSome None members = length members ≡ 1
HasSome (Some mrru) members = 1 ≤ length members

-- Every member has the bundle's key, and its MRRU pair or none.
abbrev pub FitsBy : Option MrruPair → List SideState → List Member → Type 0
FitsBy mrru sides members = HasSome mrru members × (key : Key) × AllByRecursion (CameWith sides (record { key = key; mrru = mrru })) members

abbrev pub Fits : List SideState → Option Live → Type 0
Fits sides None = ⊤
Fits sides (Some l) = FitsBy l.mrru sides l.members

-- of each unit
abbrev pub AllFit : {S : Type 0} → List SideState → List (UnitState S) → Type 0
AllFit sides units = (unit : ℕ) → IfSome (slice_get units unit) (λ u. Fits sides u.live)

-- A link is a member of a unit, and came in with these terms.
abbrev pub IsThere : {S : Type 0} → List SideState → List (UnitState S) → (link unit : ℕ) → Terms → Type 0
IsThere sides units link unit terms = (1 ≤ link) × (has_link link (members_in (slice_get units unit)) ≡ true) × ((side_of link sides).terms ≡ Some terms)

-- Members that came in with multilink and one key are in one bundle.
abbrev pub AreTogether : {S : Type 0} → List SideState → List (UnitState S) → Type 0
AreTogether sides units = (a b x y : ℕ) (s t : Terms) → IsThere sides units a x s → IsThere sides units b y t → is_some s.mrru ≡ true → is_some t.mrru ≡ true → s.key ≡ t.key → x ≡ y

-- There are sixteen units, of which all was taken; no link is in two bundles; each member fits its bundle; and links with one key are together.
pub record IsWhole {S : Type 0} (t : TableState S) : Type 0 where
  pub sixteen : length t.units ≡ 16
  pub drained : AreDrained t.units
  pub apart : AreApart t.units
  pub fits : AllFit t.sides t.units
  pub together : AreTogether t.sides t.units
