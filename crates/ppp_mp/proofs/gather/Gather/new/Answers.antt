use Rattle.std.proofs.Common.{refl}
use Rattle.ppp_mp.proofs.Nows.{begun_stands}
use Rattle.ppp_mp.proofs.gather.Gather.new.Goals as goal

pub returns-in-Ok-clause-stands : goal.returns-in-Ok-clause-stands
returns-in-Ok-clause-stands c = begun_stands c.args.mrru c.in-Ok.places _ _ c.in-Ok.ensures.base c.in-Ok.ensures.pieces refl c.no_counts.ensures
