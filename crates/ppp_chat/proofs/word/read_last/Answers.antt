use Rattle.std.proofs.Common.{◌∙◌, sym}
use Rattle.ppp_chat.proofs.WordsRead.{last-adds}
use Rattle.ppp_chat.proofs.word.read_last.Goals as goal

pub returns-in-None : goal.returns-in-None
returns-in-None c =
    last-adds c.args.steps.now c.read_expect.new.steps c.args.number c.read_expect.result c.args.word.now (sym c.keyword_of.ensures ∙ c.in-None.is) c.read_expect.ensures
