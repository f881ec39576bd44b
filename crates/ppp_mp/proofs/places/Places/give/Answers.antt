use Rattle.std.proofs.Common.{◌≡◌, ◌+◌, ◌-◌, ◌<◌, ◌≤◌, length, ap, sym, ◌∙◌, arith, inl, inr}
use Rattle.std.proofs.lemmas.Bool.{cases_lt}
use Rattle.ppp_mp.specs.Places.{PlacesNow, joined_there}
use Rattle.ppp_mp.proofs.PlaceLemmas.{fits_is}
use Rattle.ppp_mp.proofs.WindowLemmas.{high_none, joined_past}
use Rattle.ppp_mp.proofs.places.Places.give.Goals as goal

pub shift-requires : goal.shift-requires
shift-requires c = λ j below. elim (cases_lt j c.loop-i.i) [
  | inl seen ↦ c.loop-i.invariant.gone j seen
  | inr later ↦ c.loop-i.invariant.left j later ∙ high_none c.self.inside.base c.self.inside.gap c.self.inside.end c.self.inside.slots.slots c.args.self.now.pieces c.self.invariant (ap (λ (p : PlacesNow). p.pieces) c.self.view_is) j (omega arith)
]

pub returns-clause-fits : goal.returns-clause-fits
returns-clause-fits c =
    let e : c.loop-i.i + (c.args.count - c.loop-i.i) ≡ c.args.count = omega arith in
    let all : joined_there c.args.self.now.pieces c.args.count ≡ joined_there c.args.self.now.pieces c.loop-i.i =
    ap (joined_there c.args.self.now.pieces) (sym e) ∙ joined_past c.args.self.now.pieces c.loop-i.i (c.args.count - c.loop-i.i) (λ j low below. high_none c.self.inside.base c.self.inside.gap c.self.inside.end c.self.inside.slots.slots c.args.self.now.pieces c.self.invariant (ap (λ (p : PlacesNow). p.pieces) c.self.view_is) j (omega arith)) in
    fits_is c.loop-i.fits c.args.limit (joined_there c.args.self.now.pieces c.args.count)
    (λ fits.
    let long : length c.loop-i.packet ≡ length (joined_there c.args.self.now.pieces c.args.count) = ap length (c.loop-i.invariant.fits fits ∙ sym all) in
    let within : length c.loop-i.packet ≤ c.args.limit = c.loop-i.invariant.within in
    omega arith)
    (λ much.
    let long : length (joined_there c.args.self.now.pieces c.args.count) ≡ length (joined_there c.args.self.now.pieces c.loop-i.i) = ap length all in
    let above : c.args.limit < length (joined_there c.args.self.now.pieces c.loop-i.i) = c.loop-i.invariant.too_long much in
    omega arith)

pub returns-clause-packet : goal.returns-clause-packet
returns-clause-packet c = λ fits.
    let e : c.loop-i.i + (c.args.count - c.loop-i.i) ≡ c.args.count = omega arith in
    let all : joined_there c.args.self.now.pieces c.args.count ≡ joined_there c.args.self.now.pieces c.loop-i.i =
    ap (joined_there c.args.self.now.pieces) (sym e) ∙ joined_past c.args.self.now.pieces c.loop-i.i (c.args.count - c.loop-i.i) (λ j low below. high_none c.self.inside.base c.self.inside.gap c.self.inside.end c.self.inside.slots.slots c.args.self.now.pieces c.self.invariant (ap (λ (p : PlacesNow). p.pieces) c.self.view_is) j (omega arith)) in
    c.loop-i.invariant.fits fits ∙ sym all
