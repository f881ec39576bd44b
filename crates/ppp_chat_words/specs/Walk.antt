-- How far the words have been looked at, as the private calls do it. What they tell is what `told` says.
use Rattle.std.specs.Prelude.{ℕ, List, Option, Some, None}
use Rattle.ppp_chat_words.specs.Front.{Waiting, front}
use Rattle.ppp_chat_words.specs.Told.{told_by, setting_of}
use Rattle.ppp_chat_words.specs.declared.keyword.Keyword.{Keyword}
use Rattle.ppp_chat_words.specs.declared.options.ChatWords.{ChatWords}
use Rattle.ppp_chat_words.specs.declared.options.Walk.{Walk}

-- the option whose value is looked for
abbrev pub waiting_of : Option (Keyword × ℕ) → Option Waiting
waiting_of None = None
waiting_of (Some waiting) = Some (record { keyword = waiting.0; place = waiting.1 })

-- what the words from this place on say, behind those that have been looked at
abbrev pub result_from : Walk → ℕ → List (List ℕ) → ChatWords
result_from walk place left = told_by walk.told (front (setting_of walk.dials walk.told) (waiting_of walk.waits) place left)
