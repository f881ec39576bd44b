use Rattle.ppp_link_facts.proofs.LinkFacts.{dial_stands, job_stands, link_scripts_follow, link_step_stands, new_link_stands, post_stands, reading_stands, writing_stands}
use Rattle.ppp_link_facts.proofs.TakeFacts.{job_runs}
use Rattle.ppp_link_facts.proofs.laws.each_link_stands.Goals as goal

pub returns-clause-new : goal.returns-clause-new
returns-clause-new c id seed limit config wish secrets room = new_link_stands id seed limit config wish secrets room

pub returns-clause-event : goal.returns-clause-event
returns-clause-event c event old new taken part k = link_step_stands event old new taken part k

pub returns-clause-dial : goal.returns-clause-dial
returns-clause-dial c s gives k = dial_stands s gives k

pub returns-clause-reading : goal.returns-clause-reading
returns-clause-reading c s gives k = reading_stands s gives k

pub returns-clause-writing : goal.returns-clause-writing
returns-clause-writing c s gives k = writing_stands s gives k

pub returns-clause-job : goal.returns-clause-job
returns-clause-job c s gives k = job_stands s gives k

pub returns-clause-post : goal.returns-clause-post
returns-clause-post c s k = post_stands s k

pub returns-clause-runs : goal.returns-clause-runs
returns-clause-runs c s k out = job_runs s k.steps out

pub returns-clause-follows : goal.returns-clause-follows
returns-clause-follows c s k = link_scripts_follow s k
