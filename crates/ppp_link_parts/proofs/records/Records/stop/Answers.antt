use Rattle.std.proofs.Common.{ap, sym, subst, ◌∙◌}
use Rattle.ppp_dial.specs.declared.call.CallKind.TheVariants.{Stop}
use Rattle.ppp_mark.specs.Log.{added}
use Rattle.ppp_link_parts.proofs.AnsweredLemmas.{grows_marked, is_marked, kept_marked, made, room_more, rests_in_session, stopped_in_session}
use Rattle.ppp_link_parts.proofs.DialLemmas.{stop_at, stop_stands}
use Rattle.ppp_link_parts.proofs.StepLemmas.{in_step_after, stop_where}
use Rattle.ppp_link_parts.specs.Records.{DialStands}
use Rattle.std.proofs.Common.{◌∷◌}
use Rattle.ppp_mark.specs.Marks.{signal_mark}
use Rattle.ppp_link_parts.proofs.records.Records.stop.Goals as goal

pub put_signal-requires-clause-link : goal.put_signal-requires-clause-link
put_signal-requires-clause-link g c = (c.self.inside.id, c.self.invariant.target)

pub put_answer-requires-clause-room : goal.put_answer-requires-clause-room
put_answer-requires-clause-room g c = rw c.put_signal.ensures.scripts (room_more (signal_mark c.args.time c.args.word) c.self.inside.scripts.log (rw (← c.self.view_is) at c.requires.room))

pub put_answer-requires-clause-link : goal.put_answer-requires-clause-link
put_answer-requires-clause-link g c = (c.self.inside.id, ap (λ s. s.machine.target) c.put_signal.ensures.scripts ∙ c.self.invariant.target)

pub invariant_of-self : goal.invariant_of-self
invariant_of-self g c =
    kept_marked c.self.inside.id c.self.inside.scripts c.put_signal.new.scripts c.put_answer.new.scripts c.stop-answer.new.self c.put_answer.new.control (signal_mark c.args.time c.args.word) c.stop-answer.result c.args.time c.self.invariant.target
    c.put_signal.ensures.scripts c.put_answer.ensures.scripts c.put_answer.ensures.told c.put_answer.ensures.few (λ e. rests_in_session (signal_mark c.args.time c.args.word ∷ c.self.inside.scripts.log.past) (stopped_in_session _ c.stop-answer.result (stop_where c.self.inside.dial c.stop-answer.new.self _ 0 0 c.stop-answer.result c.self.invariant.step (λ before calls h. c.stop-answer.ensures.stands before calls 0 0 h) c.exactly_one_answer.ensures.one (rw (← c.self.view_is) at c.requires.lives)) e))
    (in_step_after c.self.inside.dial c.stop-answer.new.self Stop c.args.time 0 c.stop-answer.result c.self.invariant.step.calls (added (signal_mark c.args.time c.args.word) c.self.inside.scripts.log) (λ before calls h. c.stop-answer.ensures.stands before calls c.args.time 0 h)
    c.self.invariant.step.stands (λ e. c.self.invariant.step))

pub returns-clause-new : goal.returns-clause-new
returns-clause-new g c = rw (← c.self.view_is) (is_marked c.self.inside.id c.self.inside.scripts c.put_signal.new.scripts c.put_answer.new.scripts c.self.inside.dial c.stop-answer.new.self (signal_mark c.args.time c.args.word) c.stop-answer.result c.args.time c.put_signal.ensures.scripts c.put_answer.ensures.scripts)

pub returns-clause-answer : goal.returns-clause-answer
returns-clause-answer g c line h =
    stop_at line (made c.self.inside.id c.self.inside.scripts c.self.inside.dial) c.args.self.now c.stop-answer.new.self c.args.time c.args.word c.stop-answer.result c.self.view_is c.requires.word c.stop-answer.ensures.policy
    (λ at room before calls h. c.stop-answer.ensures.stands before calls at room h) c.exactly_one_answer.ensures.one h

pub returns-clause-dials : goal.returns-clause-dials
returns-clause-dials g c = rw (← c.self.view_is) (λ line h.
    subst (λ r. DialStands line r) (sym (is_marked c.self.inside.id c.self.inside.scripts c.put_signal.new.scripts c.put_answer.new.scripts c.self.inside.dial c.stop-answer.new.self (signal_mark c.args.time c.args.word) c.stop-answer.result c.args.time c.put_signal.ensures.scripts c.put_answer.ensures.scripts))
    (stop_stands line (made c.self.inside.id c.self.inside.scripts c.self.inside.dial) c.stop-answer.new.self c.args.time c.args.word c.stop-answer.result c.self.invariant.step (rw (← c.self.view_is) at c.requires.lives) c.requires.word
    (λ at room before calls h. c.stop-answer.ensures.stands before calls at room h) c.exactly_one_answer.ensures.one h))

pub returns-clause-grows : goal.returns-clause-grows
returns-clause-grows g c = rw (← c.self.view_is, c.put_answer.ensures.scripts, c.put_signal.ensures.scripts) (grows_marked (signal_mark c.args.time c.args.word) c.stop-answer.result c.args.time c.self.inside.scripts.log)
