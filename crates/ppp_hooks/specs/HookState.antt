-- What contracts see of a machine, of a job and of what comes back from it.
use Rattle.std.specs.Prelude.{ℕ, ◌+◌, ◌^◌, ◌<◌, ◌≤◌, ◌≡◌, Bool, false, Option, IsSome}
use Rattle.ppp_base.specs.declared.hook_target.HookTarget.{HookTarget}
use Rattle.ppp_outside.specs.declared.spawner.ScriptEnd.{ScriptEnd}
use Rattle.ppp_outside.specs.declared.hook_words.HookWords.{HookWords}
use Rattle.ppp_hooks.specs.declared.facts.HookFacts.{HookFacts}

-- whose scripts they are, what is known of them, and the spawner while it is not out with a job
pub record HookState (S : Type 0) : Type 0 where
  pub target : HookTarget
  pub facts : HookFacts
  pub spawner : Option S

-- One script runs at most. While the spawner is out, one does.
pub record IsSane (facts : HookFacts) (is_in : Bool) : Type 0 where
  pub at_most_one : facts.starts ≤ facts.ends + 1
  pub ended : facts.ends ≤ facts.starts
  pub failed : facts.not_started ≤ facts.ends
  pub last : facts.ends < facts.starts → IsSome facts.last
  pub out : is_in ≡ false → facts.ends < facts.starts

-- a script that was started: whose it is, its number from 1 on, how many ends before it were no starts, its words, and the spawner
pub record JobState (S : Type 0) : Type 0 where
  pub target : HookTarget
  pub number : ℕ
  pub not_started : ℕ
  pub words : HookWords
  pub spawner : S

-- a script that has ended
pub record DoneState (S : Type 0) : Type 0 where
  pub target : HookTarget
  pub number : ℕ
  pub not_started : ℕ
  pub answer : ScriptEnd
  pub spawner : S

-- Since some moment at which both counts were below half of their range, there were so many tries,
-- and at least so many scripts that were not started.
pub record WasHandedIn (tries_now faults_now : ℕ) (runs not_started : ℕ) : Type 0 where
  pub tries : runs ≤ tries_now
  pub since_half : tries_now < 2 ^ 63 + runs
  pub faults : not_started ≤ faults_now
