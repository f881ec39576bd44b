-- Short names for worked lists of calls. Each has room of 1,024 and nothing before it.
use Rattle.std.specs.Prelude.{ℕ, Bool, true, false, List}
use Rattle.ppp_dial.specs.declared.call.CallKind.{CallKind}
use Rattle.ppp_dial.specs.declared.call.CallKind.TheVariants.{SessionOver}
use Rattle.ppp_dial.specs.declared.now.DialNow.{DialNow}
use Rattle.ppp_dial.specs.declared.policy.DialPolicy.{DialPolicy}
use Rattle.ppp_dial.specs.DialLaw.{DialLaw}
use Rattle.ppp_dial.specs.Happened.{Happened, happened}
use Rattle.ppp_dial.specs.LookingBack.{nothing_yet}

-- `persist` and `demand`, `holdoff` in seconds, and `maxfail`
abbrev pub policy : Bool → Bool → ℕ → ℕ → DialPolicy
policy persist demand holdoff_s maxfail = record { persist = persist; demand = demand; holdoff_s = holdoff_s; maxfail = maxfail }

-- a call at a moment, and its answer
abbrev pub at : ℕ → CallKind → DialNow → Happened
at now kind answer = happened kind now 1024 answer

-- a session that failed with a status; one that was live and ended by its peer; an idle end, live or not
abbrev pub failed : ℕ → CallKind
failed status = SessionOver (record { cause = 3; status = status; live = false })

abbrev pub left : CallKind
left = SessionOver (record { cause = 15; status = 0; live = true })

abbrev pub idle : CallKind
idle = SessionOver (record { cause = 12; status = 12; live = true })

abbrev pub idle_failure : CallKind
idle_failure = SessionOver (record { cause = 12; status = 12; live = false })

-- a list of calls that the law allows, the newest first
abbrev pub IsRow : DialPolicy → List Happened → Type 0
IsRow p calls = DialLaw p nothing_yet calls
