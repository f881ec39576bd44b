use Rattle.ppp_options.proofs.LawLemmas.{last_wins}
use Rattle.ppp_options.proofs.laws.later_words_win.Goals as goal

pub returns : goal.returns
returns c = record { numbers = last_wins; texts = last_wins; switches = last_wins }
