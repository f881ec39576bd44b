-- What the words behind chat's name say (chat(8), "Options").
use Rattle.std.specs.Prelude.{ℕ, Bool, List, Option, Some, None, is_some}
use Rattle.ppp_chat_words.specs.Front.{Front, End, Script, Wrong, Seconds, FileAt, LineAt, Setting, front}
use Rattle.ppp_chat_words.specs.declared.options.ChatWords.{ChatWords}

-- The seconds of the last -t, or these where there is none.
abbrev pub seconds_of : ℕ → Front → ℕ
seconds_of before (End place) = before
seconds_of before (Script place) = before
seconds_of before (Wrong place) = before
seconds_of before (Seconds seconds rest) = seconds_of seconds rest
seconds_of before (FileAt place rest) = seconds_of before rest
seconds_of before (LineAt place rest) = seconds_of before rest

-- the place of a file's name, where there is one
abbrev pub file_of : Option ℕ → Front → Option ℕ
file_of before (End place) = before
file_of before (Script place) = before
file_of before (Wrong place) = before
file_of before (Seconds seconds rest) = file_of before rest
file_of before (FileAt place rest) = file_of (Some place) rest
file_of before (LineAt place rest) = file_of before rest

-- the place of what is dialled, where there is one
abbrev pub line_of : Option ℕ → Front → Option ℕ
line_of before (End place) = before
line_of before (Script place) = before
line_of before (Wrong place) = before
line_of before (Seconds seconds rest) = line_of before rest
line_of before (FileAt place rest) = line_of before rest
line_of before (LineAt place rest) = line_of (Some place) rest

-- the place of the script's first word: where there is none, the number of words
abbrev pub script_of : Front → ℕ
script_of (End place) = place
script_of (Script place) = place
script_of (Wrong place) = place
script_of (Seconds seconds rest) = script_of rest
script_of (FileAt place rest) = script_of rest
script_of (LineAt place rest) = script_of rest

-- the place of the first word that is wrong
abbrev pub wrong_of : Front → Option ℕ
wrong_of (End place) = None
wrong_of (Script place) = None
wrong_of (Wrong place) = Some place
wrong_of (Seconds seconds rest) = wrong_of rest
wrong_of (FileAt place rest) = wrong_of rest
wrong_of (LineAt place rest) = wrong_of rest

-- what the words of a front say, behind what was said before
abbrev pub told_by : ChatWords → Front → ChatWords
told_by before rest = record {
  timeout_s = seconds_of before.timeout_s rest;
  file = file_of before.file rest;
  line = line_of before.line rest;
  script = script_of rest;
  wrong = wrong_of rest;
}

-- no words have said anything: the timeout is 45 s
abbrev pub unsaid : ChatWords
unsaid = record { timeout_s = 45; file = None; line = None; script = 0; wrong = None }

-- what may stand behind what was said before
abbrev pub setting_of : Bool → ChatWords → Setting
setting_of dials before = record { dials = dials; file = is_some before.file; line = is_some before.line }

-- What the words say. Whether -L may stand among them is said first.
abbrev pub told : Bool → List (List ℕ) → ChatWords
told dials words = told_by unsaid (front (setting_of dials unsaid) None 0 words)
