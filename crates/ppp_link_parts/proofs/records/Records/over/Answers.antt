use Rattle.std.proofs.Common.{ap, sym, subst, ◌∙◌}
use Rattle.ppp_dial.specs.declared.call.CallKind.TheVariants.{SessionOver}
use Rattle.ppp_mark.specs.Log.{added, room_of}
use Rattle.ppp_link_parts.proofs.AnsweredLemmas.{grows_marked, is_marked, kept_marked, made, room_more}
use Rattle.ppp_link_parts.proofs.DialLemmas.{over_at, over_stands}
use Rattle.ppp_link_parts.proofs.StepLemmas.{in_step_after, over_where, under_way}
use Rattle.ppp_link_parts.specs.Records.{DialStands}
use Rattle.ppp_mark.specs.Marks.{over_mark}
use Rattle.ppp_mark.specs.declared.kind.TheConstants.{ATTEMPT}
use Rattle.ppp_link_rules.specs.Marks.{count_in, was_live_in}
use Rattle.ppp_link_parts.proofs.records.Records.over.Goals as goal

pub put_over-requires-clause-link : goal.put_over-requires-clause-link
put_over-requires-clause-link g c = (c.self.inside.id, c.self.invariant.target)

pub put_answer-requires-clause-room : goal.put_answer-requires-clause-room
put_answer-requires-clause-room g c = rw c.put_over.ensures.scripts (room_more (over_mark c.args.time (was_live_in c.self.inside.scripts.log.past) (count_in 0 ATTEMPT c.self.inside.scripts.log.past)) c.self.inside.scripts.log (rw (← c.self.view_is) at c.requires.room))

pub put_answer-requires-clause-link : goal.put_answer-requires-clause-link
put_answer-requires-clause-link g c = (c.self.inside.id, ap (λ s. s.machine.target) c.put_over.ensures.scripts ∙ c.self.invariant.target)

pub invariant_of-self : goal.invariant_of-self
invariant_of-self g c =
    kept_marked c.self.inside.id c.self.inside.scripts c.put_over.new.scripts c.put_answer.new.scripts c.session_over-answer.new.self c.put_answer.new.control (over_mark c.args.time (was_live_in c.self.inside.scripts.log.past) (count_in 0 ATTEMPT c.self.inside.scripts.log.past)) c.session_over-answer.result c.args.time c.self.invariant.target
    c.put_over.ensures.scripts c.put_answer.ensures.scripts c.put_answer.ensures.told c.put_answer.ensures.few (λ e. absurd (cc (e, over_where c.self.inside.dial c.session_over-answer.new.self c.end_of-end.result c.args.time c.room-room.result c.session_over-answer.result _ c.self.invariant.step c.session_over-answer.ensures.stands c.exactly_one_answer.ensures.one)))
    (in_step_after c.self.inside.dial c.session_over-answer.new.self (SessionOver c.end_of-end.result) c.args.time c.room-room.result c.session_over-answer.result c.self.invariant.step.calls (added (over_mark c.args.time (was_live_in c.self.inside.scripts.log.past) (count_in 0 ATTEMPT c.self.inside.scripts.log.past)) c.self.inside.scripts.log) c.session_over-answer.ensures.stands
    c.self.invariant.step.stands (λ e. absurd (cc (e, over_where c.self.inside.dial c.session_over-answer.new.self c.end_of-end.result c.args.time c.room-room.result c.session_over-answer.result _ c.self.invariant.step c.session_over-answer.ensures.stands c.exactly_one_answer.ensures.one))))

pub returns-clause-new : goal.returns-clause-new
returns-clause-new g c = rw (← c.self.view_is) (is_marked c.self.inside.id c.self.inside.scripts c.put_over.new.scripts c.put_answer.new.scripts c.self.inside.dial c.session_over-answer.new.self (over_mark c.args.time (was_live_in c.self.inside.scripts.log.past) (count_in 0 ATTEMPT c.self.inside.scripts.log.past)) c.session_over-answer.result c.args.time c.put_over.ensures.scripts c.put_answer.ensures.scripts)

pub returns-clause-answer : goal.returns-clause-answer
returns-clause-answer g c h =
    over_at c.args.line.now (made c.self.inside.id c.self.inside.scripts c.self.inside.dial) c.args.self.now c.session_over-answer.new.self c.args.time c.room-room.result c.end_of-end.result c.session_over-answer.result c.self.view_is
    (c.end_of-end.ensures c.self.inside.scripts.log.past c.self.invariant.told) (c.room-room.ensures.value ∙ ap (λ s. room_of s.log) c.put_over.ensures.scripts)
    c.session_over-answer.ensures.policy c.session_over-answer.ensures.stands c.exactly_one_answer.ensures.one h

pub returns-clause-dials : goal.returns-clause-dials
returns-clause-dials g c = rw (← c.self.view_is) (λ h.
    subst (λ r. DialStands c.args.line.now r) (sym (is_marked c.self.inside.id c.self.inside.scripts c.put_over.new.scripts c.put_answer.new.scripts c.self.inside.dial c.session_over-answer.new.self (over_mark c.args.time (was_live_in c.self.inside.scripts.log.past) (count_in 0 ATTEMPT c.self.inside.scripts.log.past)) c.session_over-answer.result c.args.time c.put_over.ensures.scripts c.put_answer.ensures.scripts))
    (over_stands c.args.line.now (made c.self.inside.id c.self.inside.scripts c.self.inside.dial) c.session_over-answer.new.self c.args.time c.room-room.result (count_in 0 ATTEMPT c.self.inside.scripts.log.past) (was_live_in c.self.inside.scripts.log.past) c.end_of-end.result c.session_over-answer.result (c.end_of-end.ensures c.self.inside.scripts.log.past c.self.invariant.told) (over_where c.self.inside.dial c.session_over-answer.new.self c.end_of-end.result c.args.time c.room-room.result c.session_over-answer.result _ c.self.invariant.step c.session_over-answer.ensures.stands c.exactly_one_answer.ensures.one)
    (c.room-room.ensures.value ∙ ap (λ s. room_of s.log) c.put_over.ensures.scripts) c.session_over-answer.ensures.stands h))

pub returns-clause-grows : goal.returns-clause-grows
returns-clause-grows g c = rw (← c.self.view_is, c.put_answer.ensures.scripts, c.put_over.ensures.scripts) (grows_marked (over_mark c.args.time (was_live_in c.self.inside.scripts.log.past) (count_in 0 ATTEMPT c.self.inside.scripts.log.past)) c.session_over-answer.result c.args.time c.self.inside.scripts.log)

pub session_over-answer-requires-clause-under_way : goal.session_over-answer-requires-clause-under_way
session_over-answer-requires-clause-under_way g c = under_way c.self.inside.dial _ (rw (← c.self.view_is) at c.requires.lasts) c.self.invariant.step
