use Rattle.std.proofs.Common.{sym, ◌∙◌}
use Rattle.ppp_hdlc.proofs.Division.{Residue-after}
use Rattle.ppp_hdlc.proofs.checksum.residue_of.Goals as goal

pub returns : goal.returns
returns c = c.register_behind.ensures ∙ sym (Residue-after c.args.bytes.now)
