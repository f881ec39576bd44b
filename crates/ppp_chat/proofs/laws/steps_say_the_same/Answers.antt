use Rattle.ppp_chat.proofs.FlatCourse.{chat-course}
use Rattle.ppp_chat.proofs.FlatItems.{items-back}
use Rattle.ppp_chat.proofs.laws.steps_say_the_same.Goals as goal

pub returns-clause-course : goal.returns-clause-course
returns-clause-course c = chat-course

pub returns-clause-back : goal.returns-clause-back
returns-clause-back c = items-back
