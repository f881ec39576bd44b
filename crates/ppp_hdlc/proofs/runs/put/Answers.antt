use Rattle.std.proofs.Common.{◌+◌, arith}
use Rattle.std.proofs.lemmas.Simd.{take_more_put_chunk}
use Rattle.ppp_hdlc.proofs.runs.put.Goals as goal

pub returns-clause-front : goal.returns-clause-front
returns-clause-front c = take_more_put_chunk c.args.at c.args.octets.now c.args.lanes (c.args.at + 16) (omega (arith, c.fits-lanes.0)) c.requires
