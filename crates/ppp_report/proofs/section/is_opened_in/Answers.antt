use Rattle.std.proofs.Common.{◌≡◌, ◌∷◌, ◌++◌, [], map, sym, ap, ◌∙◌, arith, true, false}
use Rattle.ppp_report.specs.Reads.{opens_in}
use Rattle.ppp_report.specs.Report.{mark_word}
use Rattle.ppp_report.proofs.SectionLemmas.{first_of, opens_first, opens_rest}
use Rattle.ppp_report.proofs.section.is_opened_in.Goals as goal

pub returns-in_default : goal.returns-in_default
returns-in_default c = λ marks others fit lines count.
    let l = c.seeking.invariant marks others fit lines count in
    let f = first_of c.args.of.now l.now others c.seeking.rest.now c.seeking.left l.fit l.lines l.counted (omega arith) in
    absurd (c.in_default.ensures.found f.mark (map mark_word f.more ++ others) f.fit f.lines)

pub returns-then-opens : goal.returns-then-opens
returns-then-opens c = λ marks others fit lines count.
    let l = c.seeking.invariant marks others fit lines count in
    let f = first_of c.args.of.now l.now others c.seeking.rest.now c.seeking.left l.fit l.lines l.counted (omega arith) in
    let found = c.in-Some.ensures.found f.mark (map mark_word f.more ++ others) f.fit f.lines in
    let one : opens_in c.args.opening (f.mark ∷ []) ≡ true = ap (λ m. opens_in c.args.opening (m ∷ [])) (sym found.0) ∙ sym c.opens.ensures ∙ c.if-opens.true in
    sym (l.same ∙ ap (opens_in c.args.opening) f.is ∙ opens_first c.args.opening f.mark f.more one)

pub seeking-preserved : goal.seeking-preserved
seeking-preserved c = λ marks others fit lines count.
    let l = c.seeking.invariant marks others fit lines count in
    let f = first_of c.args.of.now l.now others c.seeking.rest.now c.seeking.left l.fit l.lines l.counted (omega arith) in
    let found = c.in-Some.ensures.found f.mark (map mark_word f.more ++ others) f.fit f.lines in
    let one : opens_in c.args.opening (f.mark ∷ []) ≡ false = ap (λ m. opens_in c.args.opening (m ∷ [])) (sym found.0) ∙ sym c.opens.ensures ∙ c.if-opens.false in
    record {
      now = f.more;
      fit = f.more_fit;
      lines = found.1;
      counted = omega (arith, f.counted);
      same = l.same ∙ ap (opens_in c.args.opening) f.is ∙ opens_rest c.args.opening f.mark f.more one;
    }
