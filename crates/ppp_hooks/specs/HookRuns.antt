-- What a spawner's record says of the scripts that a machine started.
use Rattle.std.specs.Prelude.{ℕ, ◌≡◌, Option, None, Some, List, [], ◌∷◌, ◌++◌, IfSome}
use Rattle.ppp_base.specs.declared.hook_target.HookTarget.{HookTarget}
use Rattle.ppp_outside.specs.Spawner.{ran_by, RunsAfter}
use Rattle.ppp_outside.specs.declared.hook_words.HookArgs.{HookArgs}
use Rattle.ppp_outside.specs.declared.hook_words.HookWords.{HookWords}
use Rattle.ppp_outside.specs.declared.spawner.Ran.{Ran}
use Rattle.ppp_outside.specs.declared.spawner.ScriptEnd.{ScriptEnd}
use Rattle.ppp_hooks.specs.HookMark.{HookMark, Opened, Closed, Started, Ended}
use Rattle.ppp_hooks.specs.HookState.{HookState, JobState, DoneState}
use Rattle.ppp_hooks.specs.HookWords.{words_in}

abbrev pub ran_of : Option HookWords → ScriptEnd → List Ran
ran_of None answer = []
ran_of (Some words) answer = ran_by words answer

-- What has run in a past, the oldest first: the words and the answer of each end but those of scripts that were not started.
-- The past's newest mark comes first.
abbrev pub ran_in : HookTarget → (ℕ → HookArgs) → List HookMark → List Ran
ran_in target given [] = []
ran_in target given (Opened n ∷ past) = ran_in target given past
ran_in target given (Closed n ∷ past) = ran_in target given past
ran_in target given (Started up n ∷ past) = ran_in target given past
ran_in target given (Ended answer job ∷ past) = ran_in target given past ++ ran_of (words_in target given past) answer

-- the record, where it is told, is what it was before and then this
abbrev pub Tells : Option (List Ran) → List Ran → List Ran → Type 0
Tells told before ran = IfSome told (λ all. all ≡ before ++ ran)

module _ {S : Type 0} (runs : S → Option (List Ran)) where
  -- the record of a spawner in its machine is what it was when the spawner was handed in, and then just what has run in this past
  abbrev pub MachineTells : List Ran → (ℕ → HookArgs) → List HookMark → HookState S → Type 0
  MachineTells before given past m = IfSome m.spawner (λ s. Tells (runs s) before (ran_in m.target given past))

  -- This job is the one that was given last: its words are those of the last start,
  -- and the record of its spawner is what it was when the spawner was handed in, and then just what has run in this past.
  pub record GivenLast (before : List Ran) (given : ℕ → HookArgs) (past : List HookMark) (job : JobState S) : Type 0 where
    pub words : words_in job.target given past ≡ Some job.words
    pub told : Tells (runs job.spawner) before (ran_in job.target given past)

  -- The record of what came back is that of the job, and then one entry with the job's words and the answer that came back,
  -- or nothing where the script was not started.
  abbrev pub IsFaithful : JobState S → DoneState S → Type 0
  IsFaithful job done = RunsAfter (runs job.spawner) (runs done.spawner) job.words done.answer
