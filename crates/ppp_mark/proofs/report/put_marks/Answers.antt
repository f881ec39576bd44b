use Rattle.std.proofs.Common.{◌≡◌, ◌<◌, ◌+◌, ◌++◌, ◌∷◌, [], drop, get_or, length, sym, ◌∙◌, ap, append_assoc, append-nil, arith, subst}
use Rattle.std.proofs.lemmas.List.{drop_all, drop_more}
use Rattle.ppp_outside.proofs.PutLemmas.{puts_then}
use Rattle.ppp_mark.specs.Log.{AreMarks}
use Rattle.ppp_mark.specs.Marks.{mark}
use Rattle.ppp_mark.specs.Report.{mark_line, mark_lines}
use Rattle.ppp_mark.proofs.report.put_marks.Goals as goal

pub put_mark-requires : goal.put_mark-requires
put_mark-requires g c =
    let marks = c.args.marks.now in
    let i = c.loop-mark.mark-index in
    let below : i < length marks = omega arith in
    (subst AreMarks (drop_more marks i (mark 0 0 0 0 0) below) c.loop-mark.invariant.left).0

pub loop-mark-preserved : goal.loop-mark-preserved
loop-mark-preserved g c =
    let marks = c.args.marks.now in
    let i = c.loop-mark.mark-index in
    let m = get_or marks i (mark 0 0 0 0 0) in
    let front = c.loop-mark.invariant.put.0 in
    let below : i < length marks = omega arith in
    let more : drop i marks ≡ m ∷ drop (i + 1) marks = drop_more marks i (mark 0 0 0 0 0) below in
    record {
      left = (subst AreMarks more c.loop-mark.invariant.left).1;
      put = (
        front ++ mark_line m,
        puts_then c.loop-mark.invariant.put.1 c.put_mark.ensures,
        append_assoc front (mark_line m) (mark_lines (drop (i + 1) marks))
            ∙ ap (λ left. front ++ mark_lines left) (sym more)
            ∙ c.loop-mark.invariant.put.2,
      );
    }

pub returns : goal.returns
returns g c =
    let marks = c.args.marks.now in
    let front = c.loop-mark.invariant.put.0 in
    let none : drop c.loop-mark.mark-index marks ≡ [] = drop_all c.loop-mark.mark-index marks (omega arith) in
    let whole : front ≡ mark_lines marks = sym (append-nil front) ∙ ap (λ left. front ++ mark_lines left) (sym none) ∙ c.loop-mark.invariant.put.2 in
    rw (← whole) c.loop-mark.invariant.put.1
