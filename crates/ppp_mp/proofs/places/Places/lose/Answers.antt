use Rattle.std.proofs.Common.{◌≡◌, ◌+◌, ◌%◌, refl, ap, sym, ◌∙◌, arith, inl, inr}
use Rattle.std.proofs.lemmas.Bool.{cases_lt}
use Rattle.ppp_mp.specs.Header.{long_space}
use Rattle.ppp_mp.specs.Places.{PlacesNow}
use Rattle.ppp_mp.proofs.WindowLemmas.{low_none, high_none}
use Rattle.ppp_mp.proofs.places.Places.lose.Goals as goal

pub loop-i-init : goal.loop-i-init
loop-i-init c = record {
  gone = λ j below. low_none c.self.inside.base c.self.inside.gap c.self.inside.end c.self.inside.slots.slots c.args.self.now.pieces c.self.invariant (ap (λ (p : PlacesNow). p.pieces) c.self.view_is) j (omega arith);
  left = λ j past. refl;
  base = refl;
  end = refl;
  looks = omega arith;
  rose = omega arith;
}

pub shift-requires : goal.shift-requires
shift-requires c = λ j below. elim (cases_lt j c.loop-i.i) [
  | inl seen ↦ c.loop-i.invariant.gone j seen
  | inr later ↦ c.loop-i.invariant.left j later ∙ high_none c.self.inside.base c.self.inside.gap c.self.inside.end c.self.inside.slots.slots c.args.self.now.pieces c.self.invariant (ap (λ (p : PlacesNow). p.pieces) c.self.view_is) j (omega arith)
]

pub returns : goal.returns
returns c =
    let end_is : c.args.self.now.end ≡ c.self.inside.end = sym (ap (λ (p : PlacesNow). p.end) c.self.view_is) in
    let end_now : c.loop-i.self.end ≡ c.args.self.now.end = c.loop-i.invariant.end in
    let so_far = c.loop-i.invariant.looks in
    let last = c.shift.ensures.looks in
    let ends = c.shift.ensures.end in
    record {
      base = c.shift.ensures.base ∙ ap (λ b. (b + c.args.count) % long_space) c.loop-i.invariant.base;
      pieces = λ j. c.shift.ensures.pieces j ∙ c.loop-i.invariant.left (j + c.args.count) (omega arith);
      end = omega arith;
      looks = omega arith;
      rose = let before = c.loop-i.invariant.rose in omega arith;
    }
