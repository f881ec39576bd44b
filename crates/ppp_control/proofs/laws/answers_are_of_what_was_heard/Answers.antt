use Rattle.ppp_control.proofs.AnsweringLemmas.{packets_answer}
use Rattle.ppp_control.proofs.laws.answers_are_of_what_was_heard.Goals as goal

pub returns : goal.returns
returns c = λ start r past called p a e lawful. packets_answer r past called p a e lawful
