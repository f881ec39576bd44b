-- How a dial stands for the calls that it was asked.
use Rattle.std.specs.Prelude.{ℕ, ◌+◌, ◌^◌, ◌≤◌, ◌≡◌, min, List, ⊤}
use Rattle.ppp_dial.specs.declared.dial.Dial.{Dial}
use Rattle.ppp_dial.specs.declared.now.DialNow.{DialNow}
use Rattle.ppp_dial.specs.declared.now.DialNow.TheVariants.{Nothing, Begin, Hold, Wait, Finish}
use Rattle.ppp_dial.specs.declared.policy.DialPolicy.{DialPolicy}
use Rattle.ppp_dial.specs.declared.stage.Stage.{Stage}
use Rattle.ppp_dial.specs.declared.stage.Stage.TheVariants.{New, Dialling, Holding, Waiting, Finished}
use Rattle.ppp_dial.specs.declared.call.CallKind.{CallKind}
use Rattle.ppp_dial.specs.declared.call.CallKind.TheVariants.{SessionOver}
use Rattle.ppp_dial.specs.Happened.{Happened}
use Rattle.ppp_dial.specs.LookingBack.{SoFar, so_far}
use Rattle.ppp_dial.specs.DialLaw.{DialLaw}

-- What a dial does, by the last answer that wasn't Nothing.
abbrev pub stage_of : DialNow × ℕ → Stage
stage_of (Nothing, at) = New
stage_of (Begin, at) = Dialling
stage_of (Hold ms, at) = Holding (at + ms)
stage_of (Wait, at) = Waiting
stage_of (Finish status, at) = Finished status

-- The dial where looking back gives this. Its count of failures stands still at 2^32 - 1.
abbrev pub dial_of : DialPolicy → SoFar → Dial
dial_of policy s = record { policy = policy; stage = stage_of s.last; failures = min s.failures 4294967295; stopped = s.stopped }

-- The dial stands for these calls, the newest first: it is what looking back over them gives, and they were answered by the law.
pub record StandsFor (before : SoFar) (dial : Dial) (calls : List Happened) : Type 0 where
  pub state : dial ≡ dial_of dial.policy (so_far before calls)
  pub law : DialLaw dial.policy before calls

-- an attempt is under way
abbrev pub IsUnderWay : Dial → Type 0
IsUnderWay dial = dial.stage ≡ Dialling

-- A session's end is told only while an attempt is under way, and at a moment of at most 2^56.
abbrev pub MayBeTold : CallKind → Dial → ℕ → Type 0
MayBeTold (SessionOver end) dial at = IsUnderWay dial × (at ≤ 2 ^ 56)
MayBeTold _ dial at = ⊤
