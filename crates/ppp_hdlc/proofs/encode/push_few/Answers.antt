use Rattle.std.proofs.Common.{◌++◌, arith, ap, sym, ◌∙◌, length, length-append, append-nil, append_assoc, take, get_or, ℕ}
use Rattle.circular_buffer.specs.Buffer.{Buffer, buffer}
use Rattle.ppp_hdlc.specs.Encoding.{escaped, escape}
use Rattle.ppp_hdlc.proofs.Escaping.{escaped-none, escaped-more, escaped-fits}
use Rattle.ppp_hdlc.proofs.encode.push_few.Goals as goal

pub loop-octet-init : goal.loop-octet-init
loop-octet-init c = ap (λ l. buffer l c.args.out.now.capacity) (sym (ap (λ l. c.args.out.now.items ++ l) (escaped-none c.args.map) ∙ append-nil c.args.out.now.items))

pub push_octet-requires : goal.push_octet-requires
push_octet-requires c =
    omega (arith, ap (λ (b : Buffer ℕ). b.capacity) c.loop-octet.invariant, ap (λ (b : Buffer ℕ). length b.items) c.loop-octet.invariant, length-append {A = ℕ}, escaped-fits c.args.map c.args.octets.now c.loop-octet.octet-index c.loop-octet-test.true, c.requires)

pub loop-octet-preserved : goal.loop-octet-preserved
loop-octet-preserved c =
    let step = escaped-more c.args.map c.args.octets.now c.loop-octet.octet-index c.loop-octet-test.true in
    let e = escape c.args.map (get_or c.args.octets.now c.loop-octet.octet-index 0) in
    c.push_octet.ensures
    ∙ ap (λ (b : Buffer ℕ). buffer (b.items ++ e) b.capacity) c.loop-octet.invariant
    ∙ ap (λ l. buffer l c.args.out.now.capacity) (append_assoc c.args.out.now.items (escaped c.args.map (take c.loop-octet.octet-index c.args.octets.now)) e ∙ ap (λ l. c.args.out.now.items ++ l) (sym step))
