use Rattle.std.proofs.Common.{ap, sym, subst, ◌∙◌}
use Rattle.ppp_dial.specs.declared.call.CallKind.TheVariants.{Hup}
use Rattle.ppp_mark.specs.Log.{added, room_of}
use Rattle.ppp_link_parts.proofs.AnsweredLemmas.{grows_marked, is_marked, kept_marked, made, room_more}
use Rattle.ppp_link_parts.proofs.DialLemmas.{hup_says, hup_stands}
use Rattle.ppp_link_parts.proofs.StepLemmas.{in_step_after, hup_answered}
use Rattle.ppp_link_parts.specs.Records.{DialStands}
use Rattle.ppp_mark.specs.Marks.{signal_mark}
use Rattle.ppp_base.specs.declared.signal_word.SignalWord.TheVariants as word
use Rattle.ppp_link_parts.proofs.records.Records.hup.Goals as goal

pub put_signal-requires-clause-link : goal.put_signal-requires-clause-link
put_signal-requires-clause-link g c = (c.self.inside.id, c.self.invariant.target)

pub put_answer-requires-clause-room : goal.put_answer-requires-clause-room
put_answer-requires-clause-room g c = rw c.put_signal.ensures.scripts (room_more (signal_mark c.args.time word.Hup) c.self.inside.scripts.log (rw (← c.self.view_is) at c.requires.room))

pub put_answer-requires-clause-link : goal.put_answer-requires-clause-link
put_answer-requires-clause-link g c = (c.self.inside.id, ap (λ s. s.machine.target) c.put_signal.ensures.scripts ∙ c.self.invariant.target)

pub invariant_of-self : goal.invariant_of-self
invariant_of-self g c =
    kept_marked c.self.inside.id c.self.inside.scripts c.put_signal.new.scripts c.put_answer.new.scripts c.hup-answer.new.self c.put_answer.new.control (signal_mark c.args.time word.Hup) c.hup-answer.result c.args.time c.self.invariant.target
    c.put_signal.ensures.scripts c.put_answer.ensures.scripts c.put_answer.ensures.told c.put_answer.ensures.few (λ e. absurd (cc (e, hup_answered c.self.inside.dial c.hup-answer.new.self _ c.args.time c.room-room.result c.hup-answer.result (rw (← c.self.view_is) at c.requires.holds) c.self.invariant.step c.hup-answer.ensures.stands c.exactly_one_answer.ensures.one)))
    (in_step_after c.self.inside.dial c.hup-answer.new.self Hup c.args.time c.room-room.result c.hup-answer.result c.self.invariant.step.calls (added (signal_mark c.args.time word.Hup) c.self.inside.scripts.log) c.hup-answer.ensures.stands
    c.self.invariant.step.stands (λ e. c.self.invariant.step))

pub returns-clause-new : goal.returns-clause-new
returns-clause-new g c = rw (← c.self.view_is) (is_marked c.self.inside.id c.self.inside.scripts c.put_signal.new.scripts c.put_answer.new.scripts c.self.inside.dial c.hup-answer.new.self (signal_mark c.args.time word.Hup) c.hup-answer.result c.args.time c.put_signal.ensures.scripts c.put_answer.ensures.scripts)

pub returns-clause-answer : goal.returns-clause-answer
returns-clause-answer g c line h =
    hup_says line (made c.self.inside.id c.self.inside.scripts c.self.inside.dial) c.args.self.now c.hup-answer.new.self c.args.time c.room-room.result c.hup-answer.result c.self.view_is
    (c.room-room.ensures.value ∙ ap (λ s. room_of s.log) c.put_signal.ensures.scripts) c.hup-answer.ensures.policy c.hup-answer.ensures.stands c.exactly_one_answer.ensures.one h

pub returns-clause-dials : goal.returns-clause-dials
returns-clause-dials g c = rw (← c.self.view_is) (λ line h.
    subst (λ r. DialStands line r) (sym (is_marked c.self.inside.id c.self.inside.scripts c.put_signal.new.scripts c.put_answer.new.scripts c.self.inside.dial c.hup-answer.new.self (signal_mark c.args.time word.Hup) c.hup-answer.result c.args.time c.put_signal.ensures.scripts c.put_answer.ensures.scripts))
    (hup_stands line (made c.self.inside.id c.self.inside.scripts c.self.inside.dial) c.hup-answer.new.self c.args.time c.room-room.result c.hup-answer.result (c.room-room.ensures.value ∙ ap (λ s. room_of s.log) c.put_signal.ensures.scripts) c.hup-answer.ensures.stands h))

pub returns-clause-grows : goal.returns-clause-grows
returns-clause-grows g c = rw (← c.self.view_is, c.put_answer.ensures.scripts, c.put_signal.ensures.scripts) (grows_marked (signal_mark c.args.time word.Hup) c.hup-answer.result c.args.time c.self.inside.scripts.log)
