use Rattle.std.proofs.Common.{ℕ, Bool, List, sym, subst}
use Rattle.ppp_hdlc.specs.Deframing.{Deframing, whole_part}
use Rattle.ppp_hdlc.specs.Spans.{Takes}
use Rattle.ppp_hdlc.proofs.Spanning.{takes_none}
use Rattle.ppp_hdlc.proofs.deframer.Deframer.take_runs.Goals as goal

pub returns-then-self : goal.returns-then-self
returns-then-self c = takes_none c.args.octets.now c.args.from c.args.self.now c.requires

pub returns : goal.returns
returns c =
    let taken : Takes c.args.octets.now c.args.from c.append_unescaped.result (whole_part c.self.inside.map c.self.inside.octets.value c.self.inside.is_over) (whole_part c.self.inside.map c.append_unescaped.new.self c.self.inside.is_over) =
    subst (λ (l : List ℕ). Takes c.args.octets.now c.args.from c.append_unescaped.result (whole_part c.self.inside.map l c.self.inside.is_over) (whole_part c.self.inside.map c.append_unescaped.new.self c.self.inside.is_over)) c.deref_mut.ensures.value
    (c.append_unescaped.ensures c.self.inside.is_over) in
    subst (λ (d : Deframing). Takes c.args.octets.now c.args.from c.append_unescaped.result d (record { map = c.self.inside.map; octets = c.append_unescaped.new.self; is_over = c.self.inside.is_over; is_escaping = c.self.inside.is_escaping }))
    c.self.view_is
    (subst (λ (b : Bool). Takes c.args.octets.now c.args.from c.append_unescaped.result (record { map = c.self.inside.map; octets = c.self.inside.octets.value; is_over = c.self.inside.is_over; is_escaping = b }) (record { map = c.self.inside.map; octets = c.append_unescaped.new.self; is_over = c.self.inside.is_over; is_escaping = b }))
    (sym c.if-self.false) taken)
