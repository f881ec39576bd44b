use Rattle.std.proofs.Common.{◌≡◌, ◌<◌, ◌+◌, ◌-◌, length, drop, sym, arith, add-one}
use Rattle.std.proofs.Math.Seq.{take-length}
use Rattle.std.proofs.lemmas.List.{length-drop}
use Rattle.ppp_mark.proofs.LinesLemmas.{line_ends, line_is_all}
use Rattle.ppp_mark.proofs.lines.first_line.Goals as goal

pub returns-then-end-text-clause-lines : goal.returns-then-end-text-clause-lines
returns-then-end-text-clause-lines c =
    let all : c.place-end.result ≡ length c.args.text.now = omega arith in
    line_is_all c.args.text.now (omega arith) (rw all at c.place-end.ensures.none)

pub returns-clause-lines : goal.returns-clause-lines
returns-clause-lines c =
    let end = c.place-end.result in
    let rest : length c.args.text.now - (end + 1) ≡ length (drop (end + 1) c.args.text.now) = sym (length-drop (end + 1) c.args.text.now) in
    let within : end < length c.args.text.now = omega arith in
    rw (rest, take-length, add-one) (line_ends c.args.text.now end within c.place-end.ensures.none (c.place-end.ensures.found within))
