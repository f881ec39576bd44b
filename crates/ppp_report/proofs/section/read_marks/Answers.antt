use Rattle.std.proofs.Common.{◌∷◌, [], refl, ap, ◌∙◌, arith}
use Rattle.ppp_mark.specs.Lines.{lines_of}
use Rattle.ppp_mark.specs.Scripts.{said_in}
use Rattle.ppp_mark.proofs.LawLemmas.{one_more_mark}
use Rattle.ppp_report.specs.Reads.{behind_marks}
use Rattle.ppp_report.proofs.SectionLemmas.{how_end, more, nothing_yet}
use Rattle.ppp_report.proofs.section.read_marks.Goals as goal

pub reading-init : goal.reading-init
reading-init c = record {
  past = [];
  fit = tt;
  lines = refl;
  counted = refl;
  law = nothing_yet;
  tells = c.none-scripts.ensures;
  within = omega arith;
  marks = [];
  marks_fit = tt;
  marks_lines = refl;
  marks_counted = refl;
  fewer = omega arith;
  openings = λ n. refl;
}

pub returns-in_default-with : goal.returns-in_default-with
returns-in_default-with c =
    let s = c.reading.invariant in
    let m = c.in-Some.mark in
    let among = c.is_among-among.ensures (said_in s.past) s.marks (lines_of c.reading.rest.now) s.tells s.marks_fit s.marks_lines s.marks_counted s.openings in
    let not = c.in_default-with.ensures s.past s.tells among in
    record {
      past = m ∷ s.past;
      fit = (c.in-Some.ensures.fit.0, c.in-Some.ensures.fit.1, s.fit);
      lines = s.lines ∙ ap (λ ls. behind_marks s.past ls) c.in-Some.ensures.lines;
      counted = omega (arith, s.counted);
      how = (s.law, λ law. not ((one_more_mark 0 s.past m).0 law).1);
      within = omega (arith, s.within, c.in-Some.ensures.shorter);
    }

pub reading-preserved : goal.reading-preserved
reading-preserved c =
    let s = c.reading.invariant in
    let m = c.in-Some.mark in
    let among = c.is_among-among.ensures (said_in s.past) s.marks (lines_of c.reading.rest.now) s.tells s.marks_fit s.marks_lines s.marks_counted s.openings in
    let next = c.in-Some-with.ensures s.past s.tells among in
    more c.args.of.now c.args.text.now c.reading.rest.now c.reading.since.now c.in-Some.others.now _ c.reading.count c.reading.recent _ c.reading.scripts c.in-Some-with.next m
    s c.in-Some.ensures.fit c.in-Some.ensures.lines c.in-Some.ensures.shorter next.0 next.1 c.since_closing-number.ensures.closed c.since_closing-number.ensures.other

pub returns : goal.returns
returns c =
    let s = c.reading.invariant in
    record {
      past = s.past;
      fit = s.fit;
      lines = s.lines;
      counted = s.counted;
      how = how_end c.end_of.result c.args.of.now s.past c.reading.rest.now (c.end_of.ensures (said_in s.past) s.tells) s.law c.in_default.ensures.found;
      within = s.within;
    }
