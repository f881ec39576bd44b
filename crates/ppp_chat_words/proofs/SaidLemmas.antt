-- What options say that stand in front of a script.
use Rattle.std.proofs.Common.{◌≡◌, ◌∙◌, refl, sym, ap, ℕ, ◌+◌, ◌≤◌, Bool, true, false, List, [], ◌∷◌, ◌++◌, length, Option, Some, None, is_some, unwrap_or, arith}
use Rattle.std.proofs.lemmas.List.{append-nil}
use Rattle.std.specs.Prelude.{codes, if◌then◌else◌}
use Rattle.std.specs.List.{AllByRecursion, flat_map}
use Rattle.std.specs.Option.{option_or}
use Rattle.ppp_base.specs.Numbers.{number_of}
use Rattle.ppp_base.specs.declared.numbers.LeadingZeros.TheVariants.{Lawful}
use Rattle.ppp_chat_words.specs.Front.{Setting, at_seconds, begins_with_hyphen, front}
use Rattle.ppp_chat_words.specs.Said.{Said, Quietly, After, From, Dials, AreOptions, IsOption, IsScript, counted, is_dials, is_from, last_seconds, said_spelled, value_place}
use Rattle.ppp_chat_words.specs.Told.{told, told_by}
use Rattle.ppp_chat_words.specs.declared.options.ChatWords.{ChatWords}

abbrev count_of : Option ℕ → ℕ
count_of None = 0
count_of (Some place) = 1

-- what was said before
abbrev so_far : ℕ → Option ℕ → Option ℕ → ChatWords
so_far seconds file line = record { timeout_s = seconds; file = file; line = line; script = 0; wrong = None }

abbrev setting : Bool → Option ℕ → Option ℕ → Setting
setting dials file line = record { dials = dials; file = is_some file; line = is_some line }

abbrev told_so : ℕ → Option ℕ → Option ℕ → ℕ → ChatWords
told_so seconds file line script = record { timeout_s = seconds; file = file; line = line; script = script; wrong = None }

same_told : (s t : ℕ) (f g l m : Option ℕ) (a b : ℕ) → s ≡ t → f ≡ g → l ≡ m → a ≡ b → told_so s f l a ≡ told_so t g m b
same_told s t f g l m a b p q r e = λ i. told_so (p i) (q i) (r i) (e i)

abbrev front_size : List Said → ℕ
front_size options = length (flat_map said_spelled options)

one_further : (place : ℕ) (word : List ℕ) (words : List (List ℕ)) → place + 1 + length words ≡ place + length (word ∷ words)
one_further place word words = omega arith

two_further : (place : ℕ) (word value : List ℕ) (words : List (List ℕ)) → place + 2 + length words ≡ place + length (word ∷ value ∷ words)
two_further place word value words = omega arith

no_seconds : (last : Option ℕ) (seconds : ℕ) → unwrap_or last seconds ≡ unwrap_or (option_or last None) seconds
no_seconds None seconds = refl
no_seconds (Some later) seconds = refl

-- whether the words end with these, where -f has stood so often
abbrev MayEnd : List (List ℕ) → ℕ → Type 0
MayEnd [] files = Unit {0}
MayEnd (word ∷ words) files = (begins_with_hyphen word ≡ false) × (files ≡ 0)

no_place : (test : Said → Bool) (place : ℕ) (options : List Said) → counted test options ≡ 0 → value_place test place options ≡ None
no_place test place [] none = refl
no_place test place (said ∷ options) none = go (test said) (λ fewer. no_place test (place + length (said_spelled said)) options fewer) none
  where
    go : (passes : Bool) → (counted test options ≡ 0 → value_place test (place + length (said_spelled said)) options ≡ None)
        → (if passes then counted test options + 1 else counted test options) ≡ 0
        → (if passes then Some (place + 1) else value_place test (place + length (said_spelled said)) options) ≡ None
    go true rest some = absurd (omega arith)
    go false rest fewer = rest fewer

or_seconds : (last : Option ℕ) (n seconds : ℕ) → unwrap_or last n ≡ unwrap_or (option_or last (Some n)) seconds
or_seconds None n seconds = refl
or_seconds (Some later) n seconds = refl

or_nothing : (last : Option ℕ) → last ≡ option_or last None
or_nothing None = refl
or_nothing (Some later) = refl

abbrev Tells : Bool → List Said → List (List ℕ) → Type 0
Tells dials options script = (seconds : ℕ) (file line : Option ℕ) (place : ℕ)
    → counted is_from options + count_of file ≤ 1 → counted is_dials options + count_of line ≤ 1
    → MayEnd script (counted is_from options + count_of file)
    → told_by (so_far seconds file line) (front (setting dials file line) None place (flat_map said_spelled options ++ script))
    ≡ told_so (unwrap_or (last_seconds options) seconds) (option_or (value_place is_from place options) file) (option_or (value_place is_dials place options) line)
    (place + length (flat_map said_spelled options))

tells_end : (dials : Bool) (script : List (List ℕ)) → Tells dials [] script
tells_end dials [] seconds file line place files lines ends = same_told _ _ _ _ _ _ _ _ refl refl refl (omega arith)
tells_end dials (word ∷ words) seconds None line place files lines ends = rw (ends.0) (same_told _ _ _ _ _ _ _ _ refl refl refl (omega arith))
tells_end dials (word ∷ words) seconds (Some at) line place files lines ends = absurd (omega (arith, ends.1))

tells_quietly : (dials : Bool) (word : List ℕ) (options : List Said) (script : List (List ℕ)) → IsOption dials (Quietly word) → Tells dials options script
    → Tells dials (Quietly word ∷ options) script
tells_quietly dials word options script is rest seconds file line place files lines ends =
    let spelled : List (List ℕ) = flat_map said_spelled options in
    let further = same_told (unwrap_or (last_seconds options) seconds) (unwrap_or (option_or (last_seconds options) None) seconds)
    (option_or (value_place is_from (place + 1) options) file) (option_or (value_place is_from (place + 1) options) file)
    (option_or (value_place is_dials (place + 1) options) line) (option_or (value_place is_dials (place + 1) options) line)
    (place + 1 + length spelled) (place + length (word ∷ spelled))
    (no_seconds (last_seconds options) seconds) refl refl (one_further place word spelled) in
    rw (is.0, is.1) (rest seconds file line (place + 1) files lines ends ∙ further)

tells_after : (dials : Bool) (value : List ℕ) (options : List Said) (script : List (List ℕ)) → IsOption dials (After value) → Tells dials options script
    → Tells dials (After value ∷ options) script
tells_after dials value options script is rest seconds file line place files lines ends = go (number_of Lawful 1 65535 value) is
  where
    two : place + 1 + 1 ≡ place + 2
    two = omega arith

    go : (read : Option ℕ) → is_some read ≡ true
        → told_by (so_far seconds file line) (at_seconds read place (front (setting dials file line) None (place + 1 + 1) (flat_map said_spelled options ++ script)))
        ≡ told_so (unwrap_or (option_or (last_seconds options) read) seconds) (option_or (value_place is_from (place + 2) options) file)
        (option_or (value_place is_dials (place + 2) options) line) (place + length (codes "-t" ∷ value ∷ flat_map said_spelled options))
    go None some = cc
    go (Some n) some =
        let spelled : List (List ℕ) = flat_map said_spelled options in
        let further = same_told (unwrap_or (last_seconds options) n) (unwrap_or (option_or (last_seconds options) (Some n)) seconds)
        (option_or (value_place is_from (place + 2) options) file) (option_or (value_place is_from (place + 2) options) file)
        (option_or (value_place is_dials (place + 2) options) line) (option_or (value_place is_dials (place + 2) options) line)
        (place + 2 + length spelled) (place + length (codes "-t" ∷ value ∷ spelled))
        (or_seconds (last_seconds options) n seconds) refl refl (two_further place (codes "-t") value spelled) in
        rw two (rest n file line (place + 2) files lines ends ∙ further)

tells_from : (dials : Bool) (name : List ℕ) (options : List Said) (script : List (List ℕ)) → Tells dials options script → Tells dials (From name ∷ options) script
tells_from dials name options script rest seconds (Some at) line place files lines ends = absurd (omega (arith, files))
tells_from dials name options script rest seconds None line place files lines ends =
    let two : place + 1 + 1 ≡ place + 2 = omega arith in
    let none : counted is_from options ≡ 0 = omega (arith, files) in
    let count : counted is_from options + 1 ≤ 1 = omega (arith, files) in
    let spelled : List (List ℕ) = flat_map said_spelled options in
    let here : option_or (value_place is_from (place + 2) options) (Some (place + 1)) ≡ Some (place + 1) = rw (no_place is_from (place + 2) options none) refl in
    let further = same_told (unwrap_or (last_seconds options) seconds) (unwrap_or (option_or (last_seconds options) None) seconds)
    (option_or (value_place is_from (place + 2) options) (Some (place + 1))) (Some (place + 1))
    (option_or (value_place is_dials (place + 2) options) line) (option_or (value_place is_dials (place + 2) options) line)
    (place + 2 + length spelled) (place + length (codes "-f" ∷ name ∷ spelled))
    (no_seconds (last_seconds options) seconds) here refl (two_further place (codes "-f") name spelled) in
    rw two (rest seconds (Some (place + 1)) line (place + 2) count lines (moved script ends) ∙ further)
  where
    moved : (words : List (List ℕ)) → MayEnd words (counted is_from options + 1 + 0) → MayEnd words (counted is_from options + 1)
    moved [] ends = tt
    moved (word ∷ words) ends = absurd (omega (arith, ends.1))

tells_dials : (dials : Bool) (value : List ℕ) (options : List Said) (script : List (List ℕ)) → IsOption dials (Dials value) → Tells dials options script
    → Tells dials (Dials value ∷ options) script
tells_dials dials value options script is rest seconds file (Some at) place files lines ends = absurd (omega (arith, lines))
tells_dials dials value options script is rest seconds file None place files lines ends =
    let two : place + 1 + 1 ≡ place + 2 = omega arith in
    let none : counted is_dials options ≡ 0 = omega (arith, lines) in
    let count : counted is_dials options + 1 ≤ 1 = omega (arith, lines) in
    let spelled : List (List ℕ) = flat_map said_spelled options in
    let here : option_or (value_place is_dials (place + 2) options) (Some (place + 1)) ≡ Some (place + 1) = rw (no_place is_dials (place + 2) options none) refl in
    let further = same_told (unwrap_or (last_seconds options) seconds) (unwrap_or (option_or (last_seconds options) None) seconds)
    (option_or (value_place is_from (place + 2) options) file) (option_or (value_place is_from (place + 2) options) file)
    (option_or (value_place is_dials (place + 2) options) (Some (place + 1))) (Some (place + 1))
    (place + 2 + length spelled) (place + length (codes "-L" ∷ value ∷ spelled))
    (no_seconds (last_seconds options) seconds) refl here (two_further place (codes "-L") value spelled) in
    let behind = rest seconds file (Some (place + 1)) (place + 2) files count ends in
    let behind_so = rw is.0 at behind in
    rw (is.0, is.1, two) (behind_so ∙ further)

tells : (dials : Bool) (options : List Said) (script : List (List ℕ)) → AllByRecursion (IsOption dials) options → Tells dials options script
tells dials [] script each = tells_end dials script
tells dials (Quietly word ∷ options) script each = tells_quietly dials word options script each.0 (tells dials options script each.1)
tells dials (After value ∷ options) script each = tells_after dials value options script each.0 (tells dials options script each.1)
tells dials (From name ∷ options) script each = tells_from dials name options script (tells dials options script each.1)
tells dials (Dials value ∷ options) script each = tells_dials dials value options script each.0 (tells dials options script each.1)

may_end : (script : List (List ℕ)) → IsScript script → MayEnd script 0
may_end [] is = tt
may_end (word ∷ words) is = (is, refl)

pub tells_script : (dials : Bool) (options : List Said) (script : List (List ℕ)) → AreOptions dials options → IsScript script → counted is_from options ≡ 0
    → told dials (flat_map said_spelled options ++ script)
    ≡ told_so (unwrap_or (last_seconds options) 45) None (value_place is_dials 0 options) (length (flat_map said_spelled options))
tells_script dials options script are is none =
    let count : counted is_from options + 0 ≡ 0 = omega (arith, none) in
    tells dials options script are.each 45 None None 0 (omega (arith, none)) (omega (arith, are.lines)) (rw count (may_end script is))
    ∙ same_told _ _ _ _ _ _ _ _ refl (rw (no_place is_from 0 options none) refl) (sym (or_nothing (value_place is_dials 0 options))) (omega arith)

pub tells_file : (dials : Bool) (options : List Said) → AreOptions dials options
    → told dials (flat_map said_spelled options)
    ≡ told_so (unwrap_or (last_seconds options) 45) (value_place is_from 0 options) (value_place is_dials 0 options) (length (flat_map said_spelled options))
tells_file dials options are =
    ap (told dials) (sym (append-nil (flat_map said_spelled options)))
    ∙ tells dials options [] are.each 45 None None 0 (omega (arith, are.files)) (omega (arith, are.lines)) tt
    ∙ same_told _ _ _ _ _ _ _ _ refl (sym (or_nothing (value_place is_from 0 options))) (sym (or_nothing (value_place is_dials 0 options))) (omega arith)
