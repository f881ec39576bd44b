use Rattle.std.proofs.Common.{refl}
use Rattle.ppp_link_rules.specs.LinkEvent.{HookOver}
use Rattle.ppp_link.proofs.KeepFacts.{takes_by, whole_told}
use Rattle.ppp_link.proofs.telling.take_done.Goals as goal

pub returns-in-Ok-clause-part : goal.returns-in-Ok-clause-part
returns-in-Ok-clause-part g c =
    takes_by {l = c.args.body.now} (HookOver c.args.done.target c.args.done.number c.args.done.not_started c.args.done.answer) c.keep_halves.ensures (λ s k. (c.in-Ok.ensures.present s k).0 refl) c.in-Ok.ensures.takes

pub returns-in-Ok-clause-whole : goal.returns-in-Ok-clause-whole
returns-in-Ok-clause-whole g c =
    whole_told {l = c.args.body.now} (HookOver c.args.done.target c.args.done.number c.args.done.not_started c.args.done.answer) c.keep_halves.ensures refl (λ s k. (c.in-Ok.ensures.present s k).0 refl) c.in-Ok.ensures.takes c.in-Ok.ensures.goes
    c.requires.whole
