use Rattle.std.specs.Prelude.{true}
use Rattle.chat.proofs.OptionLemmas.{asks_file, asks_script}
use Rattle.chat.proofs.laws.options_ask.Goals as goal

pub returns-clause-script : goal.returns-clause-script
returns-clause-script c = λ files options script line are is none e. asks_script files options script line e (c.options_tell.ensures.script true options script are is none)

pub returns-clause-file : goal.returns-clause-file
returns-clause-file c = λ files options line file are e f. asks_file files options line file e f (c.options_tell.ensures.file true options are)
