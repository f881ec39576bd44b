use Rattle.ppp_option_words.proofs.TableLemmas.{found, only}
use Rattle.ppp_option_words.proofs.laws.table_by_spelling.Goals as goal

pub returns : goal.returns
returns c = record { found = found; only = only }
