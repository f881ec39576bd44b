use Rattle.std.proofs.Common.{◌≡◌, ◌+◌, ◌≤◌, length, drop, ap, sym, arith}
use Rattle.std.proofs.lemmas.List.{length-drop}
use Rattle.ppp_outside.specs.MemorySource.{SourceInMemory}
use Rattle.ppp_outside.proofs.Pieces.{front_and_rest}
use Rattle.ppp_outside.proofs.memory_source.MemorySourceSource.read.Goals as goal

pub returns-in-Got-clause-left : goal.returns-in-Got-clause-left
returns-in-Got-clause-left c =
    let at = c.self.inside.at in
    let count = c.in-Got.count in
    let octets = c.self.inside.octets.items in
    let known : c.args.self.now.left ≡ drop at octets = sym (ap (λ (s : SourceInMemory). s.left) c.self.view_is) in
    let fits : at + count ≤ length octets = omega (arith, c.put.ensures.in_left, c.self.invariant.0, length-drop at octets) in
    rw known (front_and_rest octets c.args.buf.now c.put.new.buf at count fits c.put.ensures.copied)
