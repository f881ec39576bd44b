use Rattle.ppp_chat.proofs.chat.Chat.go_on.Goals as goal

pub returns-clause-goes : goal.returns-clause-goes
returns-clause-goes c = record {
  goes = λ later.
      let walked = rw c.steps.ensures.steps at c.walk-halt.ensures.goes later in
      rw (← c.self.view_is, c.answer.ensures.sent, c.clear.ensures) walked;
  is = rw c.answer.ensures.sent c.answer.ensures.is;
  is_begun = c.walk-halt.ensures.waits;
}
