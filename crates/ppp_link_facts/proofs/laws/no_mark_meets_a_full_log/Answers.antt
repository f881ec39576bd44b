use Rattle.ppp_link_facts.proofs.Room.{all_octets, before_octets, each_octet, each_step, new_one, room_for_octets, room_for_steps}
use Rattle.ppp_link_facts.proofs.laws.no_mark_meets_a_full_log.Goals as goal

pub returns-clause-new : goal.returns-clause-new
returns-clause-new c id seed limit config wish secrets room = new_one id seed limit config wish secrets room

pub returns-clause-event : goal.returns-clause-event
returns-clause-event c event old new taken part k = each_step event old new taken part k

pub returns-clause-step_room : goal.returns-clause-step_room
returns-clause-step_room c s k = room_for_steps s k

pub returns-clause-begins : goal.returns-clause-begins
returns-clause-begins c s k = before_octets s k

pub returns-clause-octet : goal.returns-clause-octet
returns-clause-octet c octet s k = each_octet octet s k

pub returns-clause-octets : goal.returns-clause-octets
returns-clause-octets c octets s k = all_octets octets s k

pub returns-clause-octet_room : goal.returns-clause-octet_room
returns-clause-octet_room c s k = room_for_octets s k
