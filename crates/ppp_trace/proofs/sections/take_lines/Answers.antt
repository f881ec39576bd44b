use Rattle.std.proofs.Common.{◌≡◌, ◌∷◌, ◌++◌, ◌+◌, ◌==◌, ℕ, true, [], None, subst, sym, ap, ◌∙◌, arith, length}
use Rattle.std.proofs.lemmas.Bool.Decides.{nat_tests}
use Rattle.ppp_trace.proofs.SectionLemmas.{Taken, taken_more, taken_none}
use Rattle.ppp_trace.proofs.TraceLemmas.{no_octets}
use Rattle.ppp_trace.proofs.sections.take_lines.Goals as goal
use Rattle.ppp_trace.proofs.sections.take_lines.Goals.{then-lines-test+else-not-is_empty, else-lines-test}

is_zero : (n : ℕ) → true ≡ (n == 0) → n ≡ 0
is_zero n e = grind (arith, nat_tests)

pub lines-init : goal.lines-init
lines-init c = (subst (λ xs. Taken c.args.text.now c.args.text.now xs 0 None) (sym c.new-copied.ensures.items) (taken_none c.args.text.now), omega arith)

pub lines-preserved : goal.lines-preserved
lines-preserved c = (
  subst (λ long. Taken c.args.text.now c.first_line.result.1.now c.push.new.self.items (c.lines.count + 1) long) (sym c.first_long-long.ensures)
      (taken_more c.args.text.now c.lines.rest.now c.first_line.result.1.now c.lines.copied.items c.push.new.self.items c.first_line.result.0.now c.lines.count c.lines.long
      c.lines.invariant.0 c.first_line.ensures.lines (c.in_ok-push.ensures.items ∙ ap (λ xs. xs ++ 10 ∷ []) c.in_ok-extend_from_slice.ensures.items)),
  omega (arith, c.lines-test.true),
)

pub returns : goal.returns
returns c =
    let t = c.lines.invariant.0 in
    record {
      own = t.own;
      lines = t.lines;
      copied = t.copied;
      counted = t.counted;
      within = omega (arith, t.counted, c.lines.invariant.1);
      ended = λ few. elim c.lines-test.branch [
        | then-lines-test+else-not-is_empty w ↦ no_octets c.lines.rest.now (is_zero (length c.lines.rest.now) w.if-not-is_empty.ensures)
        | else-lines-test w ↦ absurd (omega (arith, t.counted, few, w.lines-test.false))
      ];
      long = t.first;
    }
