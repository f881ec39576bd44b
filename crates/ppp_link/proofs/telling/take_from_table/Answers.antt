use Rattle.ppp_link.proofs.telling.take_from_table.Goals as goal

pub returns-in-Taken-clause-whole : goal.returns-in-Taken-clause-whole
returns-in-Taken-clause-whole g c = c.take_post.ensures.whole g.D.Dialer.state g.D.In.LineIn.state c.requires.whole
