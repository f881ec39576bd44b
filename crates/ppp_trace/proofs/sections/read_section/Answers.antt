use Rattle.std.proofs.Common.{arith}
use Rattle.ppp_mark.specs.Lines.{lines_of}
use Rattle.ppp_trace.proofs.SectionLemmas.{long_room, no_section, reads_section}
use Rattle.ppp_trace.proofs.sections.read_section.Goals as goal

pub returns-in_default : goal.returns-in_default
returns-in_default c =
    no_section c.args.name.now c.first_line.result.0.now (lines_of c.args.text.now) (lines_of c.first_line.result.1.now) c.first_line.ensures.lines c.in_default.ensures

pub with_line-requires : goal.with_line-requires
with_line-requires c =
    let taken = c.in_ok-taken.ensures in
    long_room taken.own c.in_ok-taken.taken.long c.in-Some.count taken.long taken.within (omega (arith, c.in-Some.ensures.2))

pub returns : goal.returns
returns c =
    reads_section c.args.name.now c.first_line.result.0.now c.first_line.result.1.now (lines_of c.args.text.now) c.in-Some.ensures.0 c.in-Some.count c.in_ok-taken.taken c.with_line.result
    c.first_line.ensures.lines c.in-Some.ensures.1 c.in-Some.ensures.2 c.in_ok-taken.ensures (omega (arith, c.first_line.ensures.shorter)) c.with_line.ensures.text c.with_line.ensures.rest
    c.with_line.ensures.count c.with_line.ensures.whole c.with_line.ensures.long
