use Rattle.std.proofs.Common.{sym, ap, ◌∙◌, ◌≡◌, ◌++◌, ◌-◌, ◌%◌, ◌/◌, ◌∷◌, []}
use Rattle.ppp_hdlc.specs.Residue.{Residue}
use Rattle.ppp_hdlc.specs.Register.{register_after}
use Rattle.ppp_hdlc.specs.Encoding.{fcs_octets}
use Rattle.ppp_hdlc.proofs.Division.{after-append, Residue-after}
use Rattle.ppp_hdlc.proofs.encode.back_of.Goals as goal

pub returns : goal.returns
unfolding fcs_octets
returns c =
    let r : c.register_behind-fcs.result ≡ Residue (c.args.front.now ++ c.args.information.now) =
    c.register_behind-fcs.ensures ∙ ap (λ r. register_after r c.args.information.now) c.register_behind.ensures ∙ after-append 0xffff c.args.front.now c.args.information.now ∙ sym (Residue-after (c.args.front.now ++ c.args.information.now)) in
    ap (λ r. (65535 - r) % 256 ∷ (65535 - r) / 256 ∷ []) r
