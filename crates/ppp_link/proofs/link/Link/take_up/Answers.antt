use Rattle.ppp_link.proofs.link.Link.take_up.Goals as goal

pub invariant_of-self : goal.invariant_of-self
invariant_of-self g c = c.give_post.ensures.whole g.D.Dialer.state g.D.In.LineIn.state c.self.invariant
