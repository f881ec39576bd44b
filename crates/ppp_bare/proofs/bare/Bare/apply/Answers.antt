use Rattle.std.proofs.Common.{◌∙◌, ap, sym}
use Rattle.std.specs.Prelude.{◌==◌}
use Rattle.ppp_bare.specs.Acts.{after_acts, log_acts}
use Rattle.ppp_bare.proofs.ActLemmas.{after_layer_acts, follows_law, log_layer_acts}
use Rattle.ppp_fsm.specs.Fsm.{acts_of}
use Rattle.ppp_fsm.proofs.OpeningLemmas.{opens_by_acts}
use Rattle.ppp_mark.specs.Scripts.{said_in}
use Rattle.ppp_bare.proofs.bare.Bare.apply.Goals as goal

pub returns-clause-log : goal.returns-clause-log
returns-clause-log g c =
    let a = c.self.inside.fsm in
    let event = c.args.event in
    let log = c.self.inside.scripts.log in
    let followed = rw (c.state-was_open.ensures.number, c.state-is_open.ensures.number, c.apply-acts.ensures.after) at c.follow.ensures.log in
    rw (← c.self.view_is)
    (followed ∙ ap (λ acts. log_acts acts log) (sym (opens_by_acts a event)) ∙ sym (log_layer_acts (acts_of a event) log))

pub returns-clause-said : goal.returns-clause-said
returns-clause-said g c =
    let a = c.self.inside.fsm in
    let event = c.args.event in
    let past = said_in c.self.inside.scripts.log.past in
    let followed = rw (c.state-was_open.ensures.number, c.state-is_open.ensures.number, c.apply-acts.ensures.after) at c.follow.ensures.said in
    rw (← c.self.view_is)
    (followed ∙ ap (λ acts. after_acts acts past) (sym (opens_by_acts a event)) ∙ sym (after_layer_acts (acts_of a event) past))

pub returns-clause-law : goal.returns-clause-law
returns-clause-law g c =
    follows_law c.apply-acts.new.self _ c.follow.new.scripts c.follow.ensures.bare (ap (λ k. k == 9) c.state-is_open.ensures.number)
