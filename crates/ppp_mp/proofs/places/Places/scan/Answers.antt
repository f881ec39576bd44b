use Rattle.std.proofs.Common.{◌≡◌, ◌==◌, ℕ, List, Option, Some, false, ap, sym, subst, ◌∙◌, arith}
use Rattle.ppp_mp.specs.Places.{PlacesNow, place, IsThere, BegunThere}
use Rattle.ppp_mp.specs.declared.slot_piece.SlotPiece.{SlotPiece}
use Rattle.ppp_mp.specs.declared.slot_piece.SlotView.{SlotView}
use Rattle.ppp_mp.proofs.PlaceLemmas.{same_bool}
use Rattle.ppp_mp.proofs.WindowLemmas.{low_none, high_none, past_none, viewed}
use Rattle.ppp_mp.proofs.places.Places.scan.Goals as goal
use borrow.Author.Count.{below_more}

pub missing-requires-clause-none : goal.missing-requires-clause-none
missing-requires-clause-none c = low_none c.self.inside.base c.self.inside.gap c.self.inside.end c.self.inside.slots.slots c.args.self.now.pieces c.self.invariant (ap (λ (p : PlacesNow). p.pieces) c.self.view_is) 0 c.if-self-gt0.true

pub returns-then-self-gt0-clause-past : goal.returns-then-self-gt0-clause-past
returns-then-self-gt0-clause-past c = past_none c.self.inside.base c.self.inside.slots.slots c.args.self.now.pieces (ap (λ (p : PlacesNow). p.pieces) c.self.view_is)

pub missing-requires-in-None-clause-begun : goal.missing-requires-in-None-clause-begun
missing-requires-in-None-clause-begun c =
    let same : c.args.self.now.pieces ≡ c.at.new.self.pieces = sym (ap (λ (p : PlacesNow). p.pieces) c.at.ensures.same ∙ ap (λ (p : PlacesNow). p.pieces) c.loop-len.invariant.same) in
    subst (λ (l : List (Option SlotPiece)). BegunThere l c.loop-len.len) same c.loop-len.invariant.begun

pub returns-in-None-clause-past : goal.returns-in-None-clause-past
returns-in-None-clause-past c = past_none c.self.inside.base c.self.inside.slots.slots c.args.self.now.pieces (ap (λ (p : PlacesNow). p.pieces) c.self.view_is)

pub returns-then-piece-len-clause-past : goal.returns-then-piece-len-clause-past
returns-then-piece-len-clause-past c = past_none c.self.inside.base c.self.inside.slots.slots c.args.self.now.pieces (ap (λ (p : PlacesNow). p.pieces) c.self.view_is)

pub returns-then-piece-clause-past : goal.returns-then-piece-clause-past
returns-then-piece-clause-past c = past_none c.self.inside.base c.self.inside.slots.slots c.args.self.now.pieces (ap (λ (p : PlacesNow). p.pieces) c.self.view_is)

pub returns-clause-past : goal.returns-clause-past
returns-clause-past c = past_none c.self.inside.base c.self.inside.slots.slots c.args.self.now.pieces (ap (λ (p : PlacesNow). p.pieces) c.self.view_is)

pub loop-len-preserved : goal.loop-len-preserved
loop-len-preserved c =
    let pieces : c.loop-len.self.pieces ≡ c.args.self.now.pieces = ap (λ (p : PlacesNow). p.pieces) c.loop-len.invariant.same in
    let t = viewed (place c.loop-len.self.pieces c.loop-len.len) c.in-Some.piece c.in-Some.ensures.view in
    let first : t.0.first ≡ (c.loop-len.len == 0) = sym (ap (λ (v : SlotView). v.first) t.2) ∙ same_bool _ _ c.if-piece-len.false in
    let last : t.0.last ≡ false = sym (ap (λ (v : SlotView). v.last) t.2) ∙ c.if-piece.false in
    let there : place c.args.self.now.pieces c.loop-len.len ≡ Some t.0 = ap (λ (l : List (Option SlotPiece)). place l c.loop-len.len) (sym pieces) ∙ t.1 in
    let set = λ (p : PlacesNow). (let r : PlacesNow = record p { looks = c.at.new.self.looks } in r) in
    let so_far = c.loop-len.invariant.looks in
    let more = c.at.ensures.looks in
    record {
      begun = below_more (λ i. IsThere c.args.self.now.pieces i) c.loop-len.len c.loop-len.invariant.begun (t.0, there, first, last);
      same = c.at.ensures.same ∙ ap set c.loop-len.invariant.same;
      looks = omega arith;
      rose = let up = c.at.ensures.rose in let before = c.loop-len.invariant.rose in omega arith;
    }

pub missing-requires-2-clause-begun : goal.missing-requires-2-clause-begun
missing-requires-2-clause-begun c =
    let same : c.args.self.now.pieces ≡ c.loop-len.self.pieces = sym (ap (λ (p : PlacesNow). p.pieces) c.loop-len.invariant.same) in
    let at : c.loop-len.len ≡ c.self.inside.end = omega arith in
    subst (λ (l : List (Option SlotPiece)). BegunThere l c.self.inside.end) same (subst (λ (n : ℕ). BegunThere c.args.self.now.pieces n) at c.loop-len.invariant.begun)

pub missing-requires-2-clause-none : goal.missing-requires-2-clause-none
missing-requires-2-clause-none c =
    ap (λ (p : PlacesNow). place p.pieces c.self.inside.end) c.loop-len.invariant.same
    ∙ high_none c.self.inside.base c.self.inside.gap c.self.inside.end c.self.inside.slots.slots c.args.self.now.pieces c.self.invariant (ap (λ (p : PlacesNow). p.pieces) c.self.view_is) c.self.inside.end (omega arith)
