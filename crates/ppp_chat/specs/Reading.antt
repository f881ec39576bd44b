-- What the calls of reading answer.
use Rattle.std.specs.Prelude.{ℕ, ◌≡◌, ◌≤◌, IfSome, Option, None, Some, Result, Ok, Err, List, ◌++◌, MatchResult}
use Rattle.ppp_chat.specs.Script.{ChatScript, Item}
use Rattle.ppp_chat.specs.declared.fault.ScriptFault.{ScriptFault}
use Rattle.ppp_chat.specs.declared.fault.ScriptFault.TheVariants.{BadEscape, NoMemory}
use Rattle.ppp_chat.specs.declared.step.Step.{Step}
use Rattle.ppp_chat.specs.Words.{word_of}

-- The answer is what the words are, unless memory ran out.
abbrev pub Gives : Result ChatScript ScriptFault → Result (List Item) ScriptFault → ℕ → Type 0
Gives (Ok script) read timeout_s = read ≡ Ok script.items × script.timeout_s ≡ timeout_s
Gives (Err NoMemory) read timeout_s = Unit {0}
Gives (Err fault) read timeout_s = read ≡ Err fault

-- The word that a fault names is one of so many words.
abbrev pub NamesWord : ScriptFault → ℕ → Type 0
NamesWord fault count = IfSome (word_of fault) (λ (number : ℕ). (1 ≤ number) × (number ≤ count))

-- The steps of a word are added, unless it has a fault or memory ran out.
abbrev pub Adds : List Step → List Step → Result (Unit {0}) ScriptFault → Result (List Step) ScriptFault → Type 0
Adds old new (Ok done) read = MatchResult read (λ (steps : List Step). new ≡ old ++ steps) (λ _. ⊥)
Adds old new (Err NoMemory) read = Unit {0}
Adds old new (Err fault) read = read ≡ Err fault

-- The pieces are read, unless an escape of the word of this number is bad or memory ran out.
abbrev pub Spells : {X : Type 0} → ℕ → Result X ScriptFault → Option X → Type 0
Spells number (Ok pieces) read = read ≡ Some pieces
Spells number (Err NoMemory) read = Unit {0}
Spells number (Err fault) read = (read ≡ None) × (fault ≡ BadEscape number)
