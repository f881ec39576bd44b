-- A packet is read as itself alone.
use Rattle.std.proofs.Common.{◌++◌, refl, ap, length, arith}
use Rattle.ppp_packet.specs.PacketOf.{laid_packet}
use Rattle.ppp_packet.proofs.Packets.{one_packet}
use Rattle.ppp_packet.proofs.laws.packet_back.Goals as goal

pub returns-clause-alone : goal.returns-clause-alone
returns-clause-alone c other h =
    one_packet (laid_packet c.args.packet.now ++ c.args._padding.now) other c.args.packet.now h (record {
      padding = c.args._padding.now;
      are = refl;
      within = omega (arith, ap length c.as_slice-bounded.ensures.octets, c.as_slice-bounded.ensures.within);
    })
