use Rattle.ppp_options.proofs.FileLemmas.{octets_from}
use Rattle.ppp_options.proofs.connect.words_from.Goals as goal

pub returns-then-place-words : goal.returns-then-place-words
returns-then-place-words c = octets_from c.args.words.now c.args.place
