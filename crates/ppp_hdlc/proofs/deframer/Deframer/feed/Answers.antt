use Rattle.std.proofs.Common.{◌∙◌}
use Rattle.ppp_hdlc.proofs.Feeding.{stands_fed, answer_fed, told_fed, map_fed, quiet_fed}
use Rattle.ppp_hdlc.proofs.deframer.Deframer.feed.Goals as goal

pub returns-clause-map : goal.returns-clause-map
returns-clause-map c = rw c.take.ensures (map_fed c.args.octet c.args.self.now)

pub returns-clause-stands : goal.returns-clause-stands
returns-clause-stands c = λ stream stands. rw c.take.ensures (stands_fed c.args.self.now stream c.args.octet stands)

pub returns-clause-answer : goal.returns-clause-answer
returns-clause-answer c = λ stream stands. rw c.answer_at-heard.ensures (answer_fed c.args.self.now stream c.args.octet stands)

pub returns-clause-quiet : goal.returns-clause-quiet
returns-clause-quiet c = λ other. c.answer_at-heard.ensures ∙ quiet_fed c.args.octet c.args.self.now other

pub returns-clause-told : goal.returns-clause-told
returns-clause-told c = λ stream stands. rw c.answer_at-heard.ensures (told_fed c.args.self.now stream c.args.octet stands)
