use Rattle.std.proofs.Common.{◌+◌, ◌%◌, length, ap, ◌∙◌}
use Rattle.ppp_mp.specs.Header.{long_octets, long_space}
use Rattle.ppp_mp.proofs.Sends.{some_more}
use Rattle.ppp_mp.proofs.sending.Sending.cut.Goals as goal

pub invariant_of-self : goal.invariant_of-self
invariant_of-self c =
    some_more long_space long_octets (record { number = c.self.inside.number; turn = c.self.inside.turn }) c.args.members.now c.args.len c.number_after-self-inside.result
    (c.from.result % c.len.result + c.count-count.result) c.cut-cuts.result c.self.invariant c.cut-cuts.ensures
    (c.number_after-self-inside.ensures.is ∙ ap (λ n. (c.self.inside.number + n) % long_space) (c.from-2.ensures ∙ c.count-count.ensures.count))
    (ap (λ n. n % c.len.result + c.count-count.result) c.from.ensures ∙ ap (λ n. c.self.inside.turn % n + c.count-count.result) c.len.ensures.len ∙ ap (λ n. c.self.inside.turn % length c.args.members.now + n) c.count-count.ensures.count)
