use Rattle.ppp_chat_words.proofs.FileLemmas.{reads_words}
use Rattle.ppp_chat_words.proofs.file.read_words.Goals as goal

pub returns : goal.returns
returns g c =
    reads_words _ _ _ _ _ _ c.in-Ok.ensures.cases.1 (rw c.in-Ok.ensures.cases.0 at c.whole-file.ensures) c.words_read.ensures
