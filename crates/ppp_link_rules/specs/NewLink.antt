-- A link that has just been made: nothing has happened, and nothing is logged.
use Rattle.std.specs.Prelude.{ℕ, false, None, []}
use Rattle.ppp_hdlc.specs.Deframing.{fresh}
use Rattle.ppp_hooks.specs.HookFacts.{no_facts}
use Rattle.ppp_mark.specs.Log.{no_marks}
use Rattle.ppp_secrets.specs.declared.secrets.SecretsPair.{SecretsPair}
use Rattle.ppp_lcp.specs.declared.wish.LcpWish.{LcpWish}
use Rattle.ppp_option_words.specs.LinkValues.{LinkValues}
use Rattle.ppp_link_rules.specs.declared.errand.Errand.TheVariants.{Absent}
use Rattle.ppp_link_rules.specs.FrameCounts.{no_counts}
use Rattle.ppp_link_rules.specs.LinkState.{LinkState, Nobody}

abbrev pub new_link : ℕ → LinkValues → LcpWish → SecretsPair → ℕ → ℕ → LinkState
new_link id config wish secrets seed limit = record {
  id = id;
  config = config;
  wish = wish;
  secrets = secrets;
  time = 0;
  words = seed;
  log = no_marks limit;
  scripts = no_facts;
  job_out = false;
  dial = Absent;
  failed_dials = 0;
  reading = Absent;
  writing = Absent;
  line_ended = false;
  taken = 0;
  listener = Nobody;
  deframer = fresh;
  counts = no_counts;
  lcp = None;
  auth = None;
  out = record { waiting = []; dropped = 0 };
  up = record { waiting = []; dropped = 0 };
}
