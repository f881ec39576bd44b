use Rattle.std.proofs.Common.{sym, ◌∙◌}
use Rattle.ppp_words.proofs.ReadLemmas.{words_read, read_words}
use Rattle.ppp_words.proofs.laws.one_reading.Goals as goal

pub returns : goal.returns
returns c = record {
  some = words_read;
  only = λ backslash octets read other reads others. sym (read_words backslash octets read reads) ∙ read_words backslash octets other others;
}
