use Rattle.std.proofs.Common.{subst}
use Rattle.ppp_words.specs.Answers.{Gives}
use Rattle.ppp_words.specs.Words.{Reads}
use Rattle.ppp_words.specs.Steps.{words_of}
use Rattle.ppp_words.proofs.ReadLemmas.{words_read, read_words, gives_some}
use Rattle.ppp_words.proofs.splitting.words.Goals as goal

pub returns : goal.returns
returns c = record {
  read = gives_some c.read_whole.result (words_of c.args.backslash c.args.text.now) (Reads c.args.backslash c.args.text.now) c.read_whole.ensures (words_read c.args.backslash c.args.text.now);
  words = λ words has. subst (Gives c.read_whole.result) (read_words c.args.backslash c.args.text.now _ has) c.read_whole.ensures;
  open_quote = λ line has. subst (Gives c.read_whole.result) (read_words c.args.backslash c.args.text.now _ has) c.read_whole.ensures;
  exact = c.read_whole.ensures;
}
