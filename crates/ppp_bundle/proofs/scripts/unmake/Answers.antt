use Rattle.std.proofs.Common.{sym, ◌∙◌}
use Rattle.ppp_bundle.specs.Replay.{stay_in}
use Rattle.ppp_unit_parts.proofs.MemberFacts.{all_gone}
use Rattle.ppp_bundle.proofs.scripts.unmake.Goals as goal

pub returns-clause-stays : goal.returns-clause-stays
returns-clause-stays g c link =
    c.put_unmade.ensures.stays link
    ∙ all_gone c.args.live.now.members (λ k. stay_in k c.shut_ip.new.scripts.log.past) (λ k. stay_in k c.put_outs.new.scripts.log.past)
    (λ k. c.requires.members k ∙ sym (c.shut_ip.ensures.same.stays k)) (rw c.as_slice.ensures.list at c.put_outs.ensures.stays) link
