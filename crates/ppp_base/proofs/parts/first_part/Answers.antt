use Rattle.std.proofs.Common.{◌≡◌, ◌+◌, ◌-◌, length, drop, sym, arith, add-one}
use Rattle.std.proofs.Math.Seq.{take-length}
use Rattle.std.proofs.lemmas.List.{length-drop}
use Rattle.ppp_base.proofs.PartLemmas.{part_ends, part_is_all}
use Rattle.ppp_base.proofs.parts.first_part.Goals as goal

pub returns-then-octet-separator-clause-parts : goal.returns-then-octet-separator-clause-parts
returns-then-octet-separator-clause-parts c =
    let rest : length c.args.octets.now - (c.loop-i.i + 1) ≡ length (drop (c.loop-i.i + 1) c.args.octets.now) = sym (length-drop (c.loop-i.i + 1) c.args.octets.now) in
    rw (rest, take-length, add-one) (part_ends c.args.separator c.args.octets.now c.loop-i.i (omega arith) c.loop-i.invariant c.if-octet-separator.true)

pub returns-clause-parts : goal.returns-clause-parts
returns-clause-parts c =
    let all : c.loop-i.i ≡ length c.args.octets.now = omega arith in
    part_is_all c.args.separator c.args.octets.now (rw all at c.loop-i.invariant)
