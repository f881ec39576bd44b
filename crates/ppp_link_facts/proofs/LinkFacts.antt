-- All that is proved of a link between two steps, kept by each step and by each errand that is given.
use Rattle.std.proofs.Common.{◌≡◌, ℕ, ◌≤◌, Bool, true, refl}
use Rattle.ppp_lcp.specs.declared.wish.LcpWish.{LcpWish}
use Rattle.ppp_option_words.specs.LinkValues.{LinkValues}
use Rattle.ppp_secrets.specs.declared.secrets.SecretsPair.{SecretsPair}
use Rattle.ppp_link_rules.specs.Errands.{gives_dial, gives_job, gives_reading, gives_writing, with_dial_out, with_job_out, with_post_taken, with_reading_out, with_writing_out}
use Rattle.ppp_link_rules.specs.Facts.{ScriptsFollow}
use Rattle.ppp_link_rules.specs.LinkEvent.{Event}
use Rattle.ppp_link_rules.specs.LinkPart.{LinkPart, after, is_present}
use Rattle.ppp_link_rules.specs.LinkState.{LinkState}
use Rattle.ppp_link_rules.specs.NewLink.{new_link}
use Rattle.ppp_link_facts.specs.Budget.{BetweenOctets, HasRoom}
use Rattle.ppp_link_facts.specs.LinkStands.{LinkStands}
use Rattle.ppp_link_facts.proofs.ErrandEvents.{each_event_tells, each_step_tells, new_tells}
use Rattle.ppp_link_facts.proofs.HoldFacts.{each_event_right, each_step_right, right_of}
use Rattle.ppp_link_facts.proofs.Room.{before_octets, each_event, each_step, new_one, room_for_steps}
use Rattle.ppp_link_facts.proofs.ScriptFacts.{each_event_stands, each_step_stands, new_stands, scripts_follow}
use Rattle.ppp_link_facts.proofs.TakeFacts.{dial_given, dial_scripts, dial_tells, job_given, job_scripts, job_tells, post_scripts, post_taken, post_tells, reading_given, reading_scripts, reading_tells, writing_given, writing_scripts, writing_tells}

pub new_link_stands : (id seed limit : ℕ) (config : LinkValues) (wish : LcpWish) (secrets : SecretsPair) → 1024 ≤ limit → LinkStands (new_link id config wish secrets seed limit)
new_link_stands id seed limit config wish secrets room =
    let k = new_one id seed limit config wish secrets room in
    let t = new_tells id seed limit config wish secrets in
    record { steps = k; scripts = new_stands id seed limit config wish secrets; errands = t; right = right_of (new_link id config wish secrets seed limit) k t refl }

pub link_event_stands : (event : Event) (s : LinkState) → is_present event s ≡ true → LinkStands s → LinkStands (after event s)
link_event_stands event s is k = record {
  steps = each_event event s is k.steps;
  scripts = each_event_stands event s is k.steps k.scripts;
  errands = each_event_tells event s is k.steps k.errands;
  right = each_event_right event s is k.steps k.errands k.right;
}

pub link_step_stands : (event : Event) (old new : LinkState) (taken : Bool) → LinkPart old event new taken → LinkStands old → LinkStands new
link_step_stands event old new taken part k = record {
  steps = each_step event old new taken part k.steps;
  scripts = each_step_stands event old new taken part k.steps k.scripts;
  errands = each_step_tells event old new taken part k.steps k.errands;
  right = each_step_right event old new taken part k.steps k.errands k.right;
}

pub dial_stands : (s : LinkState) → gives_dial s ≡ true → LinkStands s → LinkStands (with_dial_out s)
dial_stands s gives k =
    let b = dial_given s gives k.steps in
    let t = dial_tells s gives k.errands in
    record { steps = b; scripts = dial_scripts s k.scripts; errands = t; right = right_of (with_dial_out s) b t k.right.hold }

pub reading_stands : (s : LinkState) → gives_reading s ≡ true → LinkStands s → LinkStands (with_reading_out s)
reading_stands s gives k =
    let b = reading_given s k.steps in
    let t = reading_tells s gives k.errands in
    record { steps = b; scripts = reading_scripts s k.scripts; errands = t; right = right_of (with_reading_out s) b t k.right.hold }

pub writing_stands : (s : LinkState) → gives_writing s ≡ true → LinkStands s → LinkStands (with_writing_out s)
writing_stands s gives k =
    let b = writing_given s k.steps in
    let t = writing_tells s gives k.errands in
    record { steps = b; scripts = writing_scripts s k.scripts; errands = t; right = right_of (with_writing_out s) b t k.right.hold }

pub job_stands : (s : LinkState) → gives_job s ≡ true → LinkStands s → LinkStands (with_job_out s)
job_stands s gives k =
    let b = job_given s gives k.steps in
    let t = job_tells s k.errands in
    record { steps = b; scripts = job_scripts s k.scripts; errands = t; right = right_of (with_job_out s) b t k.right.hold }

pub post_stands : (s : LinkState) → LinkStands s → LinkStands (with_post_taken s)
post_stands s k =
    let b = post_taken s k.steps in
    let t = post_tells s k.errands in
    record { steps = b; scripts = post_scripts s k.scripts; errands = t; right = right_of (with_post_taken s) b t k.right.hold }

-- what follows

pub link_has_room : (s : LinkState) → LinkStands s → HasRoom s
link_has_room s k = room_for_steps s k.steps

pub link_octets_begin : (s : LinkState) → LinkStands s → BetweenOctets s
link_octets_begin s k = before_octets s k.steps

pub link_scripts_follow : (s : LinkState) → LinkStands s → ScriptsFollow s
link_scripts_follow s k = scripts_follow s k.steps.stands k.scripts
