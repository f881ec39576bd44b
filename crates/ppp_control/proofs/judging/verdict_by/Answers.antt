-- What has been sorted and what is left are the request.
use Rattle.std.proofs.Common.{◌≡◌, ◌≤◌, List, length, arith, refl, ap, sym, ◌∙◌, subst}
use Rattle.ppp_packet.specs.OptionsOf.{Item, laid}
use Rattle.ppp_control.specs.declared.judging.Verdict.{Verdict}
use Rattle.ppp_control.specs.declared.judging.Verdict.TheVariants.{Ack, Nak, Reject}
use Rattle.ppp_control.specs.Judging.{answer_of}
use Rattle.ppp_control.specs.Verdict.{verdict_of}
use Rattle.ppp_control.proofs.Sorts.{SortsOut, sorts_none, sorts_more, room_left, sorted_all}
use Rattle.ppp_control.proofs.judging.verdict_by.Goals as goal

pub judging-init : goal.judging-init
judging-init g c =
    let judge = g.J.Judge.judgement c.args.judge.now in
    let items = c.args.request.now in
    let within : length (laid items) ≤ 1504 = subst (λ (x : List Item). length (laid x) ≤ 1504) c.iter-walk.ensures.items c.iter-walk.ensures.within in
    let start = sorts_none judge items within in
    let begun = subst (λ (x : List Item). SortsOut judge items _ x) (sym c.iter-walk.ensures.items) start in
    subst (λ s. SortsOut judge items s c.iter-walk.result) (sym c.new-sorting.ensures) begun

pub take-requires-clause-rejected : goal.take-requires-clause-rejected
take-requires-clause-rejected g c =
    let at = subst (λ (x : List Item). SortsOut (g.J.Judge.judgement c.args.judge.now) c.args.request.now c.judging.sorting x) c.in-Some.ensures.item c.judging.invariant in
    (room_left _ _ _ _ _ at).0

pub take-requires-clause-named : goal.take-requires-clause-named
take-requires-clause-named g c =
    let at = subst (λ (x : List Item). SortsOut (g.J.Judge.judgement c.args.judge.now) c.args.request.now c.judging.sorting x) c.in-Some.ensures.item c.judging.invariant in
    (room_left _ _ _ _ _ at).1

pub judging-smaller : goal.judging-smaller
judging-smaller g c = omega (arith, ap length c.in-Some.ensures.item)

pub judging-preserved : goal.judging-preserved
judging-preserved g c =
    let judge = g.J.Judge.judgement c.args.judge.now in
    let items = c.args.request.now in
    let at = subst (λ (x : List Item). SortsOut judge items c.judging.sorting x) c.in-Some.ensures.item c.judging.invariant in
    let next = sorts_more judge items c.judging.sorting _ c.next.new.self _ (sym c.judged-judged.ensures.judged) at in
    subst (λ s. SortsOut judge items s c.next.new.self) (sym c.take.ensures) next

-- An answer and its verdict are one.
same : (v : Verdict) → v ≡ verdict_of (answer_of v)
same Ack = refl
same (Nak items) = refl
same (Reject items) = refl

pub returns : goal.returns
returns g c =
    let judge = g.J.Judge.judgement c.args.judge.now in
    let items = c.args.request.now in
    let at = subst (λ (x : List Item). SortsOut judge items c.judging.sorting x) c.in_default.ensures.item c.judging.invariant in
    same c.verdict.result ∙ ap verdict_of (c.verdict.ensures ∙ sorted_all judge _ items c.judging.sorting at)
