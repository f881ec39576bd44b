use Rattle.std.proofs.Common.{sym, ◌∙◌}
use Rattle.ppp_words.proofs.ReadLemmas.{front_read, read_front, whole_front}
use Rattle.ppp_words.proofs.laws.one_front.Goals as goal

pub returns : goal.returns
returns c = record {
  some = front_read;
  only = λ backslash octets front other reads others. sym (read_front backslash octets front reads) ∙ read_front backslash octets other others;
  whole = whole_front;
}
