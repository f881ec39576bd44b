use Rattle.ppp_mark.specs.Scripts.{LogLaw}
use Rattle.ppp_table.specs.Fits.{IsItself}
use Rattle.ppp_table_facts.proofs.PostSteps.{post_stands}
use Rattle.ppp_table_facts.proofs.TableSteps.{each_unit, emptied_stands, event_stands, first_stands, job_stands, new_stands}
use Rattle.ppp_table_facts.proofs.UnitSteps.{itself, lawful}
use Rattle.ppp_table_facts.proofs.laws.each_table_stands.Goals as goal

pub returns-clause-new : goal.returns-clause-new
returns-clause-new g c config secrets spawners t sixteen least most new = new_stands config secrets spawners t sixteen least new

pub returns-clause-event : goal.returns-clause-event
returns-clause-event g c event old new part fresh h = event_stands event old new part fresh h

pub returns-clause-job : goal.returns-clause-job
returns-clause-job g c unit job old new takes h = job_stands unit job old new takes h

pub returns-clause-first : goal.returns-clause-first
returns-clause-first g c link t h = first_stands link t h

pub returns-clause-emptied : goal.returns-clause-emptied
returns-clause-emptied g c link t h = emptied_stands link t h

pub returns-clause-law : goal.returns-clause-law
returns-clause-law g c unit t h = each_unit (λ u. LogLaw 0 u.scripts.log.past) lawful unit t h

pub returns-clause-settled : goal.returns-clause-settled
returns-clause-settled g c unit t h = each_unit IsItself itself unit t h

pub returns-clause-apart : goal.returns-clause-apart
returns-clause-apart g c t h = h.whole.apart

pub returns-clause-fit : goal.returns-clause-fit
returns-clause-fit g c t h = h.whole.fits

pub returns-clause-together : goal.returns-clause-together
returns-clause-together g c t h = h.whole.together

pub returns-clause-post : goal.returns-clause-post
returns-clause-post g c link post old new part low high is h = post_stands link post old new part low high is h
