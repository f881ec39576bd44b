use Rattle.std.proofs.Common.{refl}
use Rattle.ppp_table.proofs.NewUnits.{new_whole}
use Rattle.ppp_table.proofs.table.Table.new.Goals as goal

pub invariant_of-result : goal.invariant_of-result
invariant_of-result g c = new_whole c.config.inside.loglimit c.args.spawners.items c.in_ok-units.units.items _ refl c.in_ok-units.ensures c.requires.sixteen
