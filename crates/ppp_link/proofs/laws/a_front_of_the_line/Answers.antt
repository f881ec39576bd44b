use Rattle.std.proofs.Common.{refl, []}
use Rattle.ppp_link.specs.OneLine.{given_by}
use Rattle.ppp_link.proofs.OneLineLemmas.{a_front}
use Rattle.ppp_link.proofs.laws.a_front_of_the_line.Goals as goal

pub returns : goal.returns
returns c answers pieces are = let t = a_front pieces (given_by answers) [] (given_by answers) refl are in (t.rest, t.whole)
