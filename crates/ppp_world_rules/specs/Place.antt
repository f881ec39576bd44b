-- A link in a trace, as plain values: the link, and what each of its errands that are out carries.
use Rattle.std.specs.Prelude.{ℕ, Option, None}
use Rattle.ppp_base.specs.declared.hook_target.HookTarget.{HookTarget}
use Rattle.ppp_link_rules.specs.LinkState.{LinkState}

-- a dial; a reading, with how many octets its line has given; a script
pub record DialOut : Type 0 where
  pub link : ℕ
  pub session : ℕ
  pub failed : ℕ

pub record ReadingOut : Type 0 where
  pub link : ℕ
  pub session : ℕ
  pub taken : ℕ

pub record JobOut : Type 0 where
  pub target : HookTarget
  pub number : ℕ
  pub not_started : ℕ

-- The link; how many octets its line had given when the reading was in last; and what of it is out.
pub record PlaceState : Type 0 where
  pub link : LinkState
  pub given : ℕ
  pub dial : Option DialOut
  pub reading : Option ReadingOut
  pub job : Option JobOut

-- a link of which nothing is out
abbrev pub new_place : LinkState → PlaceState
new_place s = record { link = s; given = 0; dial = None; reading = None; job = None }
