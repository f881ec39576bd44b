use Rattle.ppp_options.proofs.FileLemmas.{reads_file}
use Rattle.ppp_options.specs.FileRead.{FollowsRead}
use Rattle.ppp_options.proofs.file_words.file_text.Goals as goal

pub returns : goal.returns
returns g c =
    let follows : FollowsRead c.args.name.now c.read_words-read.result c.text_or_fault.result = rw c.in_ok-word.ensures at c.text_or_fault.ensures in
    reads_file _ _ _ _ _ _ c.read_words-read.ensures follows
