-- What an errand carries as it is given.
use Rattle.std.specs.Prelude.{ℕ, ◌≡◌, ◌<◌, Option, Some, List}
use Rattle.ppp_base.specs.declared.hook_target.HookTarget.TheVariants.{Link}
use Rattle.ppp_hooks.specs.HookState.{JobState}
use Rattle.ppp_link_rules.specs.Errands.{octets_given}
use Rattle.ppp_link_rules.specs.LinkState.{LinkState, control}
use Rattle.ppp_link.specs.declared.body.LinkBody.{LinkBody}
use Rattle.ppp_link.specs.ErrandValues.{DialJobState, ReadingState, WritingState}

-- A dial carries the session's number, the count of failed dials, the link's line and its dialer.
pub record IsDialOf {D I O S : Type 0} (l : LinkBody D I O S) (s : LinkState) (job : DialJobState D) : Type 0 where
  pub link : job.link ≡ s.id
  pub session : job.session ≡ (control s).session
  pub failed : job.failed ≡ s.failed_dials
  pub line : job.line ≡ s.config.line
  pub dialer : l.dialer ≡ Some job.dialer

-- A reading carries the session's number and the reading half of its line, with how many octets this has given.
pub record IsReadingOf {D I O S : Type 0} (l : LinkBody D I O S) (s : LinkState) (reading : ReadingState I) : Type 0 where
  pub link : reading.link ≡ s.id
  pub session : reading.session ≡ (control s).session
  pub taken : reading.taken ≡ l.given
  pub input : l.input ≡ Some reading.input

-- A writing carries the session's number, the first octets that wait and the writing half of the line.
pub record IsWritingOf {D I O S : Type 0} (l : LinkBody D I O S) (s : LinkState) (writing : WritingState O) : Type 0 where
  pub link : writing.link ≡ s.id
  pub session : writing.session ≡ (control s).session
  pub octets : writing.octets ≡ octets_given s
  pub output : l.output ≡ Some writing.output

-- A job carries whose it is, its number and how many ends before it were no starts.
pub record IsJobOf {S : Type 0} (s : LinkState) (job : JobState S) : Type 0 where
  pub target : job.target ≡ Link s.id
  pub number : job.number ≡ s.scripts.starts
  pub not_started : job.not_started ≡ s.scripts.not_started
