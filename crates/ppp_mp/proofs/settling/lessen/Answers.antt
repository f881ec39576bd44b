use Rattle.std.proofs.Common.{◌≡◌, ℕ, ◌-◌, List, [], ◌∷◌, map, Option, Some, refl, ap, ◌∙◌, arith, None, option_map}
use Rattle.std.proofs.lemmas.List.Edits.{map_over_more}
use Rattle.ppp_mp.proofs.PlaceLemmas.{get_or-twice}
use Rattle.ppp_mp.proofs.settling.lessen.Goals as goal

pub loop-i-preserved : goal.loop-i-preserved
loop-i-preserved c = rw c.less.ensures (map_over_more (option_map (λ n. n - c.args.count)) c.args.overs.now c.loop-i.overs c.loop-i.i _ (omega arith) c.loop-i.invariant (get_or-twice c.loop-i.overs c.loop-i.i None))

less_none : (over : Option ℕ) (count : ℕ) → count ≡ 0 → over ≡ option_map (λ n. n - count) over
less_none None count is = refl
less_none (Some n) count is = let e : n ≡ n - count = omega arith in ap (λ (m : ℕ). Some m) e

none_less : (overs : List (Option ℕ)) (count : ℕ) → count ≡ 0 → overs ≡ map (option_map (λ n. n - count)) overs
none_less [] count is = refl
none_less (over ∷ overs) count is = ap (λ (o : Option ℕ). o ∷ overs) (less_none over count is) ∙ ap (λ (l : List (Option ℕ)). option_map (λ n. n - count) over ∷ l) (none_less overs count is)

pub returns-then-count-eq0 : goal.returns-then-count-eq0
returns-then-count-eq0 c = none_less c.args.overs.now c.args.count c.if-count-eq0.true
