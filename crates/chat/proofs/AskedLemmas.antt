-- What words ask for, from their parts.
use Rattle.std.proofs.Common.{◌≡◌, ℕ, ◌+◌, ◌-◌, ◌≤◌, zero, suc, nat_le, Bool, true, false, cond, if◌then◌else◌, List, [], ◌∷◌, length, take, drop, Option, Some, None, IfSome, Result, Ok, Err, refl, sym, ap, ◌∙◌, subst, arith, add-one}
use Rattle.std.specs.Prelude.{is_some, option_map, slice_get, unwrap_or}
use Rattle.std.proofs.Math.Seq.{take-length}
use Rattle.std.proofs.lemmas.Bool.Decides.{nat_tests}
use Rattle.std.proofs.lemmas.List.{length-drop, drop-map}
use Rattle.std.specs.Global.{Vec}
use Rattle.ppp_base.specs.Numbers.{number_of}
use Rattle.ppp_base.specs.declared.numbers.LeadingZeros.TheVariants.{Lawful}
use Rattle.ppp_chat.specs.Words.{script_of}
use Rattle.ppp_chat_words.specs.FileWords.{ReadsWords, words_at, words_behind}
use Rattle.ppp_chat_words.specs.Front.{Front, End, Script, Wrong, Seconds, FileAt, LineAt, Setting, Waiting, at_option, at_seconds, at_value, at_word, begins_with_hyphen, behind_keyword, front, keyword_of, may_stand}
use Rattle.ppp_chat_words.specs.Split.{FrontWords, octets_in}
use Rattle.ppp_chat_words.specs.Told.{line_of, setting_of, told, unsaid}
use Rattle.ppp_chat_words.specs.declared.file.FileWords.TheVariants as read
use Rattle.ppp_chat_words.specs.declared.keyword.Keyword.{Keyword}
use Rattle.ppp_chat_words.specs.declared.keyword.Keyword.TheVariants.{Quiet, Timeout, File, Line}
use Rattle.ppp_chat_words.specs.declared.options.ChatWords.{ChatWords}
use Rattle.ppp_outside.specs.Files.{FilesState, NamedFile}
use Rattle.ppp_words.specs.declared.backslash.Backslash.TheVariants.{Kept}
use Rattle.chat.specs.Asked.{GivesPlan, NamesFile, Plans, PlansOfFile, Task, file_plan, files_failed, plan_of, planned, script_plan, task_of, task_said, word_at}
use Rattle.chat.specs.declared.ending.Refusal.{Refusal}
use Rattle.chat.specs.declared.ending.Refusal.TheVariants.{OtherWords, NoFile, FilesFailed, NoMemory}
use Rattle.chat.specs.declared.plan.Plan.{Plan}

-- the words from a place on
pub octets_from : (words : List (Vec ℕ)) (place : ℕ) → octets_in (take (length words - place) (drop place words)) ≡ drop place (octets_in words)
octets_from words place =
    let all : take (length words - place) (drop place words) ≡ drop place words =
    (let size : length words - place ≡ length (drop place words) = rw (length-drop place words) refl in rw size (take-length (drop place words))) in
    rw (all, drop-map (λ (word : Vec ℕ). word.items) place words) refl

-- ---- what is dialled has 255 octets at most

-- each value of -L among these is such a word
record Fits (all : List (List ℕ)) (f : Front) : Type 0 where
  by : (before : Option ℕ) (at : ℕ) → line_of before f ≡ Some at → (before ≡ Some at → length (word_at all at) ≤ 255) → length (word_at all at) ≤ 255

end-fits : (all : List (List ℕ)) (place : ℕ) → Fits all (End place)
end-fits all place = record { by = λ before at e h. h e }

script-fits : (all : List (List ℕ)) (place : ℕ) → Fits all (Script place)
script-fits all place = record { by = λ before at e h. h e }

wrong-fits : (all : List (List ℕ)) (place : ℕ) → Fits all (Wrong place)
wrong-fits all place = record { by = λ before at e h. h e }

either-fits : (all : List (List ℕ)) (b : Bool) (f g : Front) → Fits all f → Fits all g → Fits all (cond b f g)
either-fits all true f g p q = p
either-fits all false f g p q = q

keyword-fits : (all : List (List ℕ)) (keyword : Keyword) (place : ℕ) (rest : Option Waiting → Front) → ((w : Option Waiting) → Fits all (rest w)) → Fits all (behind_keyword keyword place rest)
keyword-fits all Quiet place rest each = each _
keyword-fits all Timeout place rest each = each _
keyword-fits all File place rest each = each _
keyword-fits all Line place rest each = each _

option-fits : (all : List (List ℕ)) (s : Setting) (keyword : Option Keyword) (place : ℕ) (rest : Option Waiting → Front) → ((w : Option Waiting) → Fits all (rest w))
    → Fits all (at_option s keyword place rest)
option-fits all s None place rest each = wrong-fits all place
option-fits all s (Some keyword) place rest each =
    either-fits all (may_stand s keyword) (behind_keyword keyword place rest) (Wrong place) (keyword-fits all keyword place rest each) (wrong-fits all place)

word-fits : (all : List (List ℕ)) (s : Setting) (word : List ℕ) (place : ℕ) (rest : Option Waiting → Front) → ((w : Option Waiting) → Fits all (rest w))
    → Fits all (at_word s word place rest)
word-fits all s word place rest each =
    either-fits all (begins_with_hyphen word) (at_option s (keyword_of word) place rest) (cond s.file (Wrong place) (Script place))
    (option-fits all s (keyword_of word) place rest each) (either-fits all s.file (Wrong place) (Script place) (wrong-fits all place) (script-fits all place))

seconds-fits : (all : List (List ℕ)) (seconds : Option ℕ) (place : ℕ) (rest : Front) → Fits all rest → Fits all (at_seconds seconds place rest)
seconds-fits all None place rest f = wrong-fits all place
seconds-fits all (Some seconds) place rest f = record { by = λ before at e h. f.by before at e h }

line-fits : (all : List (List ℕ)) (b : Bool) (at : ℕ) (word : List ℕ) (place : ℕ) (rest : Front) → nat_le (length word) 255 ≡ b → word_at all place ≡ word → Fits all rest
    → Fits all (cond b (LineAt place rest) (Wrong at))
line-fits all true at word place rest fits is f =
    let short : length (word_at all place) ≤ 255 = rw is (grind (arith, nat_tests)) in
    record { by = λ before there e h. f.by (Some place) there e (λ same. let here : place ≡ there = cc (same) in rw (← here) short) }
line-fits all false at word place rest fits is f = wrong-fits all at

value-fits : (all : List (List ℕ)) (s : Setting) (keyword : Keyword) (at : ℕ) (word : List ℕ) (place : ℕ) (rest : Setting → Front) → word_at all place ≡ word
    → ((after : Setting) → Fits all (rest after)) → Fits all (at_value s keyword at word place rest)
value-fits all s Quiet at word place rest is each = each s
value-fits all s Timeout at word place rest is each = seconds-fits all (number_of Lawful 1 65535 word) at (rest s) (each s)
value-fits all s File at word place rest is each = record { by = λ before there e h. (each (record s { file = true })).by before there e h }
value-fits all s Line at word place rest is each =
    line-fits all (nat_le (length word) 255) at word place (rest (record s { line = true })) refl is (each (record s { line = true }))

next-word : (place : ℕ) (all : List (List ℕ)) (word : List ℕ) (words : List (List ℕ)) → drop place all ≡ word ∷ words → (drop (suc place) all ≡ words) × (word_at all place ≡ word)
next-word zero [] word words e = absurd (cc (e))
next-word zero (first ∷ all) word words e = (ap (λ (l : List (List ℕ)). drop 1 l) e, ap (λ (l : List (List ℕ)). word_at l 0) e)
next-word (suc place) [] word words e = absurd (cc (e))
next-word (suc place) (first ∷ all) word words e = next-word place all word words e

all-fits : (all : List (List ℕ)) (words : List (List ℕ)) (s : Setting) (w : Option Waiting) (place : ℕ) → drop place all ≡ words → Fits all (front s w place words)
all-fits all [] s None place e = end-fits all place
all-fits all [] s (Some waiting) place e = wrong-fits all waiting.place
all-fits all (word ∷ words) s None place e =
    word-fits all s word place (λ (waits : Option Waiting). front s waits (place + 1) words)
    (λ waits. all-fits all words s waits (place + 1) (rw add-one (next-word place all word words e).0))
all-fits all (word ∷ words) s (Some waiting) place e =
    value-fits all s waiting.keyword waiting.place word place (λ (after : Setting). front after None (place + 1) words) (next-word place all word words e).1
    (λ after. all-fits all words after None (place + 1) (rw add-one (next-word place all word words e).0))

pub line_fits : (words : List (List ℕ)) (at : ℕ) → (told true words).line ≡ Some at → length (word_at words at) ≤ 255
line_fits words at e =
    (all-fits words words (setting_of true unsaid) None 0 refl).by None at e (λ none. absurd (cc (none)))

-- ---- the script of a file

flipped : (files : Option (List NamedFile)) (name : List ℕ) (front : Option FrontWords) → IfSome files (λ all. words_at Kept all name ≡ front)
    → IfSome files (λ all. front ≡ words_at Kept all name)
flipped None name front h = tt
flipped (Some all) name front h = sym h

-- what stands in the file of a name, where this is told
there : Option (List NamedFile) → List ℕ → Option FrontWords
there None name = None
there (Some all) name = words_at Kept all name

there_told : (files : Option (List NamedFile)) (name : List ℕ) → IfSome files (λ all. there files name ≡ words_at Kept all name)
unfolding there
there_told None name = tt
there_told (Some all) name = refl

pub words_plan : (old new : FilesState) (line : List ℕ) (timeout_s : ℕ) (name : List ℕ) (words : Vec (Vec ℕ)) (answer : Result Plan Refusal)
    → ReadsWords old new name Kept (read.Words words) → GivesPlan answer (script_plan line timeout_s (script_of (octets_in words.items))) → files_failed answer ≡ false
    → PlansOfFile old new line timeout_s name answer
words_plan old new line timeout_s name words answer r gives sound = record {
  front = Some (words_behind words.items None);
  where_told = flipped old.files name (Some (words_behind words.items None)) r.words;
  gives = gives;
  same = r.files;
  faults = rw sound r.faults;
}

pub quote_plan_of : (old new : FilesState) (line : List ℕ) (timeout_s : ℕ) (name : List ℕ) (words : Vec (Vec ℕ)) (open_quote : ℕ)
    → ReadsWords old new name Kept (read.OpenQuote words open_quote) → PlansOfFile old new line timeout_s name (Err OtherWords)
quote_plan_of old new line timeout_s name words open_quote r = record {
  front = Some (words_behind words.items (Some open_quote));
  where_told = flipped old.files name (Some (words_behind words.items (Some open_quote))) r.words;
  gives = refl;
  same = r.files;
  faults = r.faults;
}

pub missing_plan : (old new : FilesState) (line : List ℕ) (timeout_s : ℕ) (name : List ℕ) → ReadsWords old new name Kept read.NoFile
    → PlansOfFile old new line timeout_s name (Err NoFile)
missing_plan old new line timeout_s name r = record {
  front = None;
  where_told = flipped old.files name None r.words;
  gives = refl;
  same = r.files;
  faults = r.faults;
}

pub failed_plan : (old new : FilesState) (line : List ℕ) (timeout_s : ℕ) (name : List ℕ) → ReadsWords old new name Kept read.Failed
    → PlansOfFile old new line timeout_s name (Err FilesFailed)
failed_plan old new line timeout_s name r = record {
  front = there old.files name;
  where_told = there_told old.files name;
  gives = tt;
  same = r.files;
  faults = r.faults;
}

pub memory_plan : (old new : FilesState) (line : List ℕ) (timeout_s : ℕ) (name : List ℕ) → ReadsWords old new name Kept read.NoMemory
    → PlansOfFile old new line timeout_s name (Err NoMemory)
memory_plan old new line timeout_s name r = record {
  front = there old.files name;
  where_told = there_told old.files name;
  gives = tt;
  same = r.files;
  faults = r.faults;
}

-- ---- what words ask for

said_wrong : (words : List (List ℕ)) (said : ChatWords) (wrong line : Option ℕ) → is_some wrong ≡ true → task_said words said wrong line ≡ None
said_wrong words said None line e = absurd (cc (e))
said_wrong words said (Some at) line e = refl

said_task : (words : List (List ℕ)) (said : ChatWords) (wrong line : Option ℕ) (at : ℕ) → is_some wrong ≡ false → line ≡ Some at
    → task_said words said wrong line ≡ Some (record { line = word_at words at; timeout_s = said.timeout_s; file = option_map (word_at words) said.file; words = drop said.script words })
said_task words said None line at e is = rw is refl
said_task words said (Some wrong) line at e is = absurd (cc (e))

said_nothing : (words : List (List ℕ)) (said : ChatWords) (wrong line : Option ℕ) → line ≡ None → task_said words said wrong line ≡ None
said_nothing words said None line is = rw is refl
said_nothing words said (Some wrong) line is = refl

each_there : (files : Option (List NamedFile)) → IfSome files (λ all. (name : List ℕ) → there files name ≡ words_at Kept all name)
unfolding there
each_there None = tt
each_there (Some all) = λ name. refl

-- nothing was asked of the files
unread : (s : FilesState) (words : List (List ℕ)) (answer : Result Plan Refusal) → files_failed answer ≡ false
    → ((files : List ℕ → Option FrontWords) → GivesPlan answer (planned files words)) → Plans s s words answer
unread s words answer sound gives = record {
  files = there s.files;
  where_told = each_there s.files;
  gives = gives (there s.files);
  same = refl;
  faults = rw sound refl;
  unasked = λ none. refl;
}

no_task : (s : FilesState) (words : List (List ℕ)) → task_of words ≡ None → Plans s s words (Err OtherWords)
no_task s words none = unread s words (Err OtherWords) refl (λ files. rw none refl)

pub wrong_word : (s : FilesState) (words : List (List ℕ)) (said : ChatWords) → said ≡ told true words → is_some said.wrong ≡ true → Plans s s words (Err OtherWords)
wrong_word s words said is wrong =
    no_task s words (subst (λ (t : ChatWords). task_said words t t.wrong t.line ≡ None) is (said_wrong words said said.wrong said.line wrong))

pub no_line : (s : FilesState) (words : List (List ℕ)) (said : ChatWords) → said ≡ told true words → said.line ≡ None → Plans s s words (Err OtherWords)
no_line s words said is none =
    no_task s words (subst (λ (t : ChatWords). task_said words t t.wrong t.line ≡ None) is (said_nothing words said said.wrong said.line none))

pub no_memory : (s : FilesState) (words : List (List ℕ)) → Plans s s words (Err NoMemory)
no_memory s words = unread s words (Err NoMemory) refl (λ files. tt)

task_is : (words : List (List ℕ)) (said : ChatWords) (at : ℕ) → said ≡ told true words → is_some said.wrong ≡ false → said.line ≡ Some at
    → task_of words ≡ Some (record { line = word_at words at; timeout_s = said.timeout_s; file = option_map (word_at words) said.file; words = drop said.script words })
task_is words said at is right line =
    subst (λ (t : ChatWords). task_said words t t.wrong t.line ≡ Some (record { line = word_at words at; timeout_s = said.timeout_s; file = option_map (word_at words) said.file; words = drop said.script words }))
    is (said_task words said said.wrong said.line at right line)

-- a script that stands behind the options
pub script_behind : (s : FilesState) (words : List (List ℕ)) (said : ChatWords) (at : ℕ) (answer : Result Plan Refusal) → said ≡ told true words → is_some said.wrong ≡ false
    → said.line ≡ Some at → said.file ≡ None → GivesPlan answer (script_plan (word_at words at) said.timeout_s (script_of (drop said.script words))) → files_failed answer ≡ false
    → Plans s s words answer
script_behind s words said at answer is right line none gives sound =
    let task = task_is words said at is right line in
    unread s words answer sound (λ files. rw (task, none) gives)

-- the words of each file, where they are told, and else those of this one
in_file : Option (List NamedFile) → Option FrontWords → List ℕ → Option FrontWords
in_file None front other = front
in_file (Some all) front other = words_at Kept all other

in_file_told : (files : Option (List NamedFile)) (front : Option FrontWords) → IfSome files (λ all. (other : List ℕ) → in_file files front other ≡ words_at Kept all other)
unfolding in_file
in_file_told None front = tt
in_file_told (Some all) front = λ other. refl

in_file_gives : (line : List ℕ) (timeout_s : ℕ) (name : List ℕ) (answer : Result Plan Refusal) (files : Option (List NamedFile)) (front : Option FrontWords)
    → IfSome files (λ all. front ≡ words_at Kept all name) → GivesPlan answer (file_plan line timeout_s front) → GivesPlan answer (file_plan line timeout_s (in_file files front name))
unfolding in_file
in_file_gives line timeout_s name answer None front told gives = gives
in_file_gives line timeout_s name answer (Some all) front told gives = rw (← told) gives

-- a script in a file
pub script_in_file : (old new : FilesState) (words : List (List ℕ)) (said : ChatWords) (at name : ℕ) (answer : Result Plan Refusal) → said ≡ told true words
    → is_some said.wrong ≡ false → said.line ≡ Some at → said.file ≡ Some name → PlansOfFile old new (word_at words at) said.timeout_s (word_at words name) answer
    → Plans old new words answer
script_in_file old new words said at name answer is right line file p =
    let task = task_is words said at is right line in
    record {
      files = in_file old.files p.front;
      where_told = in_file_told old.files p.front;
      gives = rw (task, file) (in_file_gives (word_at words at) said.timeout_s (word_at words name) answer old.files p.front p.where_told p.gives);
      same = p.same;
      faults = p.faults;
      unasked = λ none. absurd (none (rw (task, file) refl));
    }
