use Rattle.ppp_link_facts.proofs.ScriptFacts.{all_octets_stand, auth_tells, each_octet_stands, each_step_stands, new_stands, scripts_follow}
use Rattle.ppp_link_facts.proofs.laws.the_scripts_follow_the_peer.Goals as goal

pub returns-clause-new : goal.returns-clause-new
returns-clause-new c id seed limit config wish secrets = new_stands id seed limit config wish secrets

pub returns-clause-event : goal.returns-clause-event
returns-clause-event c event old new taken part k h = each_step_stands event old new taken part k h

pub returns-clause-octet : goal.returns-clause-octet
returns-clause-octet c octet s k h = each_octet_stands octet s k h

pub returns-clause-octets : goal.returns-clause-octets
returns-clause-octets c octets s k h = all_octets_stand octets s k h

pub returns-clause-follows : goal.returns-clause-follows
returns-clause-follows c s k h = scripts_follow s k h

pub returns-clause-tells : goal.returns-clause-tells
returns-clause-tells c s k h = auth_tells s k h
