use Rattle.std.proofs.Common.{refl}
use Rattle.ppp_mp.proofs.Nows.{begun_stands}
use Rattle.ppp_mp.proofs.gather.Gather.restart.Goals as goal

pub returns-clause-stands : goal.returns-clause-stands
returns-clause-stands c = begun_stands c.args.mrru c.restart.new.self _ _ c.restart.ensures.base c.restart.ensures.pieces refl c.no_counts-self-inside.ensures
