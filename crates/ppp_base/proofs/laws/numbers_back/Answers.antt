use Rattle.ppp_base.proofs.Decimals.{decimal_back, decimal_alone}
use Rattle.ppp_base.proofs.laws.numbers_back.Goals as goal

pub returns : goal.returns
returns c = record {
  back = decimal_back;
  alone = decimal_alone;
}
