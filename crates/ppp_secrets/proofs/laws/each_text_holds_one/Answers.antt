use Rattle.ppp_secrets.proofs.HoldsLemmas.{text_holds, holds_one}
use Rattle.ppp_secrets.proofs.laws.each_text_holds_one.Goals as goal

pub returns : goal.returns
returns c = record { some = text_holds; only = holds_one }
