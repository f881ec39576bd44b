-- The answer to a Configure-Request as a value, and the event that the request is (RFC 1661, sections 4.3 and 5.2 to 5.4).
use Rattle.ppp_fsm.specs.declared.event.FsmEvent.{FsmEvent}
use Rattle.ppp_fsm.specs.declared.event.FsmEvent.TheVariants.{RcrGood, RcrBad}
use Rattle.ppp_control.specs.declared.judging.Verdict.{Verdict as Answered}
use Rattle.ppp_control.specs.declared.judging.Verdict.TheVariants.{Ack, Nak, Reject}
use Rattle.ppp_control.specs.Answers.{Answer, acknowledges, suggests, refuses}

abbrev pub verdict_of : Answer → Answered
verdict_of acknowledges = Ack
verdict_of (suggests items) = Nak items
verdict_of (refuses items) = Reject items

abbrev pub event_on : Answered → FsmEvent
event_on Ack = RcrGood
event_on (Nak items) = RcrBad
event_on (Reject items) = RcrBad
