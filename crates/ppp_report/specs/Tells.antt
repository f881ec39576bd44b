-- What a few values say of the scripts of a log.
use Rattle.std.specs.Prelude.{ℕ, ◌+◌, ◌≡◌, ◌⊎◌, true, false, List, if◌then◌else◌}
use Rattle.ppp_hooks.specs.HookMark.{HookMark, Started}
use Rattle.ppp_hooks.specs.HookPast.{IsSettled, ends_in, last_in, open_in, starts_in}
use Rattle.ppp_hooks.specs.HookPlace.{MayStand, is_among, openings_in}
use Rattle.ppp_hooks.specs.HookRule.{is_open}
use Rattle.ppp_report.specs.declared.scripts.Scripts.{Scripts}
use Rattle.ppp_report.specs.declared.section.MarksEnd.{MarksEnd}
use Rattle.ppp_report.specs.declared.section.MarksEnd.TheVariants as end

-- These values are what was said.
pub record Tells (scripts : Scripts) (past : List HookMark) : Type 0 where
  pub last : scripts.last ≡ last_in past
  pub starts : starts_in past ≡ ends_in past + (if scripts.runs then 1 else 0)
  pub ended : scripts.ended ≡ ends_in past
  pub now_open : scripts.now_open ≡ open_in past
  pub alone : scripts.several ≡ false → (n : ℕ) → is_among n (openings_in past) ≡ is_open n (open_in past)

-- Whether a start of this direction, 1 an up and 2 a down, may stand behind what was said.
abbrev pub IsDue : List HookMark → ℕ → ℕ → Type 0
IsDue past x z = ((x ≡ 1) × MayStand 0 past (Started true z)) ⊎ ((x ≡ 2) × MayStand 0 past (Started false z))

-- Whether scripts that keep the law agree with the protocol.
abbrev pub Ends : MarksEnd → List HookMark → Type 0
Ends end.Broken past = ⊥
Ends end.Unsettled past = ¬ IsSettled past
Ends end.Settled past = IsSettled past
