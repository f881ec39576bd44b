use Rattle.ppp_link.proofs.ends.LinkEnds.from_table.Goals as goal

pub invariant_of-self : goal.invariant_of-self
invariant_of-self g c = c.take_post.ensures.whole g.D.Dialer.state g.D.In.LineIn.state c.self.invariant
