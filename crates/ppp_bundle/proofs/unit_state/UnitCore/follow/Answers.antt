use Rattle.ppp_bundle.proofs.unit_state.UnitCore.follow.Goals as goal

pub turn-requires-clause-turning : goal.turn-requires-clause-turning
turn-requires-clause-turning g c = rw c.is_up-is.ensures (c.send_all.ensures.turning c.args.was _ c.requires.turning)
