-- Short names for worked words.
use Rattle.std.specs.Prelude.{ℕ, ◌==◌, List, Option, None, Some, option_map, Result, Ok, Err}
use Rattle.std.specs.List.{slice_split}
use Rattle.ppp_chat.specs.ChatOf.{ChatOf}
use Rattle.ppp_chat.specs.declared.event.Event.{Event}
use Rattle.ppp_chat_words.specs.Split.{split_front}
use Rattle.ppp_words.specs.declared.backslash.Backslash.TheVariants.{Kept}
use Rattle.chat.specs.Asked.{planned}
use Rattle.chat.specs.Run.{over_status}
use Rattle.chat.specs.declared.ending.Refusal.{Refusal}
use Rattle.chat.specs.declared.plan.Plan.{Plan}

-- the words of a text, parted by spaces
abbrev pub parted : List ℕ → List (List ℕ)
parted text = slice_split (λ (octet : ℕ). octet == 32) text

-- what they ask for where there is no file
abbrev pub asks : List ℕ → Result Plan Refusal
asks text = planned (λ (name : List ℕ). None) (parted text)

-- and where each file has these words, and an open quote on this line or none
abbrev pub asks_of_file : List (List ℕ) → Option ℕ → List ℕ → Result Plan Refusal
asks_of_file words open_quote text = planned (λ (name : List ℕ). Some (record { words = words; open_quote = open_quote })) (parted text)

-- and where each file has this text
abbrev pub asks_of_text : List ℕ → List ℕ → Result Plan Refusal
asks_of_text file text = planned (λ (name : List ℕ). Some (split_front Kept file)) (parted text)

-- what has come of a conversation: the status, where its script has ended, and what was sent
pub record Came : Type 0 where
  pub status : Option ℕ
  pub sent : List ℕ

-- what comes of these calls, where something was asked for
abbrev pub comes : Result Plan Refusal → List Event → Result Came Refusal
comes (Ok plan) calls = Ok (record { status = option_map over_status (ChatOf plan.script calls).outcome; sent = (ChatOf plan.script calls).sent })
comes (Err refusal) calls = Err refusal
