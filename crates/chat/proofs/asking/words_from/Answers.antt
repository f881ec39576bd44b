use Rattle.chat.proofs.AskedLemmas.{octets_from}
use Rattle.chat.proofs.asking.words_from.Goals as goal

pub returns-then-place-words : goal.returns-then-place-words
returns-then-place-words c = octets_from c.args.words.now c.args.place
