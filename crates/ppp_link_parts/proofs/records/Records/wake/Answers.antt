use Rattle.std.proofs.Common.{sym, subst}
use Rattle.ppp_dial.specs.declared.call.CallKind.TheVariants.{Wake}
use Rattle.ppp_link_parts.proofs.AnsweredLemmas.{grows_answered, is_answered, kept_answered, made}
use Rattle.ppp_link_parts.proofs.DialLemmas.{says_at, wake_stands}
use Rattle.ppp_link_parts.proofs.StepLemmas.{in_step_after}
use Rattle.ppp_link_parts.specs.Records.{DialStands}
use Rattle.ppp_link_parts.proofs.records.Records.wake.Goals as goal

pub put_answer-requires-clause-link : goal.put_answer-requires-clause-link
put_answer-requires-clause-link g c = (c.self.inside.id, c.self.invariant.target)

pub invariant_of-self : goal.invariant_of-self
invariant_of-self g c =
    kept_answered c.self.inside.id c.self.inside.scripts c.put_answer.new.scripts c.wake-answer.new.self c.put_answer.new.control c.wake-answer.result c.args.time c.self.invariant.target
    c.put_answer.ensures.scripts c.put_answer.ensures.told c.put_answer.ensures.few (λ _. c.self.invariant.rests)
    (in_step_after c.self.inside.dial c.wake-answer.new.self Wake c.args.time c.room-room.result c.wake-answer.result c.self.invariant.step.calls c.self.inside.scripts.log c.wake-answer.ensures.stands
    c.self.invariant.step.stands (λ _. c.self.invariant.step))

pub returns-clause-new : goal.returns-clause-new
returns-clause-new g c = rw (← c.self.view_is) (is_answered c.self.inside.id c.self.inside.scripts c.put_answer.new.scripts c.self.inside.dial c.wake-answer.new.self c.wake-answer.result c.args.time c.put_answer.ensures.scripts)

pub returns-clause-answer : goal.returns-clause-answer
returns-clause-answer g c line h =
    says_at line (made c.self.inside.id c.self.inside.scripts c.self.inside.dial) c.args.self.now c.wake-answer.new.self Wake c.args.time c.room-room.result c.wake-answer.result c.self.view_is c.room-room.ensures.value c.wake-answer.ensures.policy c.wake-answer.ensures.stands
    c.exactly_one_answer.ensures.one h

pub returns-clause-dials : goal.returns-clause-dials
returns-clause-dials g c = rw (← c.self.view_is) (λ line h.
    subst (λ r. DialStands line r) (sym (is_answered c.self.inside.id c.self.inside.scripts c.put_answer.new.scripts c.self.inside.dial c.wake-answer.new.self c.wake-answer.result c.args.time c.put_answer.ensures.scripts))
    (wake_stands line (made c.self.inside.id c.self.inside.scripts c.self.inside.dial) c.wake-answer.new.self c.args.time c.room-room.result c.wake-answer.result c.self.invariant.step c.self.invariant.rests c.room-room.ensures.value
    c.wake-answer.ensures.stands c.exactly_one_answer.ensures.one h))

pub returns-clause-grows : goal.returns-clause-grows
returns-clause-grows g c = rw (← c.self.view_is, c.put_answer.ensures.scripts) (grows_answered c.wake-answer.result c.args.time c.self.inside.scripts.log)
