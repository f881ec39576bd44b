use Rattle.std.proofs.Common.{◌≡◌, ◌-◌, ◌++◌, map, take, drop, option_map}
use Rattle.ppp_mp.proofs.settling.lessen.Given as goal

abbrev pub invariant-loop-i : goal.invariant-loop-i
invariant-loop-i l = l.overs ≡ map (option_map (λ n. n - l.count)) (take l.i l.initial.overs) ++ drop l.i l.initial.overs
