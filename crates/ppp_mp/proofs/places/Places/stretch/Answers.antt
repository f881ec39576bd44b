use Rattle.std.proofs.Common.{is_some, option_map, true, List, Option, ◌≡◌, refl, ap, sym, ◌∙◌, arith, inl, inr}
use Rattle.std.proofs.lemmas.Bool.{cases_lt}
use Rattle.ppp_mp.specs.Places.{PlacesNow, place}
use Rattle.ppp_mp.specs.Ring.{view_of}
use Rattle.ppp_mp.specs.declared.slot_piece.SlotPiece.{SlotPiece}
use Rattle.ppp_mp.proofs.RingLemmas.{some_seen}
use Rattle.ppp_mp.proofs.WindowLemmas.{low_none, high_none}
use Rattle.ppp_mp.proofs.places.Places.stretch.Goals as goal

pub loop-i-init : goal.loop-i-init
loop-i-init c = record {
  none = λ j below. elim (cases_lt 0 j) [
    | inl more ↦ low_none c.self.inside.base c.self.inside.gap c.self.inside.end c.self.inside.slots.slots c.args.self.now.pieces c.self.invariant (ap (λ (p : PlacesNow). p.pieces) c.self.view_is) j (omega arith)
    | inr first ↦ let e : j ≡ 0 = omega arith in ap (place c.args.self.now.pieces) e ∙ c.requires.none
  ];
  same = refl;
  looks = omega arith;
  rose = omega arith;
}

pub returns-clause-missing : goal.returns-clause-missing
returns-clause-missing c = record {
  some = c.requires.some;
  below = omega arith;
  whole = λ less. absurd (omega arith);
  none = λ j below. elim (cases_lt j c.loop-i.i) [
    | inl seen ↦ c.loop-i.invariant.none j seen
    | inr later ↦ high_none c.self.inside.base c.self.inside.gap c.self.inside.end c.self.inside.slots.slots c.args.self.now.pieces c.self.invariant (ap (λ (p : PlacesNow). p.pieces) c.self.view_is) j (omega arith)
  ];
}

pub returns-clause-looks : goal.returns-clause-looks
returns-clause-looks c =
    let end_is : c.args.self.now.end ≡ c.self.inside.end = sym (ap (λ (p : PlacesNow). p.end) c.self.view_is) in
    let same : c.skip-2.new.self.looks ≡ c.loop-i.self.looks = ap (λ (p : PlacesNow). p.looks) c.skip-2.ensures in
    let so_far = c.loop-i.invariant.looks in
    omega arith

pub returns-then-is_some-clause-missing : goal.returns-then-is_some-clause-missing
returns-then-is_some-clause-missing c = record {
  some = omega arith;
  below = omega arith;
  none = c.loop-i.invariant.none;
  whole = λ less none.
      let pieces : c.loop-i.self.pieces ≡ c.args.self.now.pieces = ap (λ (p : PlacesNow). p.pieces) c.loop-i.invariant.same in
      let there : is_some (option_map view_of (place c.args.self.now.pieces c.loop-i.i)) ≡ true =
      ap (λ (l : List (Option SlotPiece)). is_some (option_map view_of (place l c.loop-i.i))) (sym pieces) ∙ ap is_some (sym c.at.ensures.view) ∙ sym c.is_some.ensures ∙ c.if-is_some.true in
      some_seen (place c.args.self.now.pieces c.loop-i.i) there none;
}
