use Rattle.ppp_chat_words.proofs.SaidLemmas.{tells_file, tells_script}
use Rattle.ppp_chat_words.proofs.laws.options_tell.Goals as goal

pub returns : goal.returns
returns c = record { script = tells_script; file = tells_file }
