-- Lines that are read one after another.
use Rattle.std.proofs.Common.{◌≡◌, ℕ, ◌+◌, ◌<◌, true, List, [], ◌∷◌, ◌++◌, length, Option, Some, None, refl, sym, ◌∙◌, ap, take, get_or, false, add-one, append-nil, arith}
use Rattle.std.specs.Prelude.{Result, Ok, Err, nat_lt, map}
use Rattle.std.specs.List.{filter_map, cons_option, enumerate_from, list_any}
use Rattle.std.proofs.Math.Seq.{take-suc}
use Rattle.std.proofs.lemmas.List.Folds.{list_any-append}
use Rattle.std.proofs.lemmas.List.Elements.{filter_map-append}
use Rattle.std.proofs.lemmas.Bool.Decides.{nat_tests}
use Rattle.ppp_words.specs.PlacedWord.{PlacedWord}
use Rattle.ppp_words.specs.Steps.{words_of}
use Rattle.ppp_words.specs.declared.backslash.Backslash.TheVariants.{Dropped}
use Rattle.ppp_secrets.specs.SecretLine.{SecretLine, rise_above, IsRising}
use Rattle.ppp_secrets.specs.LineFaults.{LineWords, is_no_address, line_fault, line_kept}
use Rattle.ppp_secrets.specs.AddressWords.{address_word_of}
use Rattle.ppp_secrets.specs.declared.address_word.AddressWord.{AddressWord}
use Rattle.ppp_secrets.specs.Reading.{lines_of, first_or, held, secrets_of}
use Rattle.ppp_base.specs.Parts.{parts_of}
use Rattle.ppp_secrets.specs.Steps.{fault_or, line_answer}
use Rattle.ppp_secrets.specs.declared.fault.SecretsFault.{SecretsFault}

-- a line before the lines behind it; a fault goes before all behind it
abbrev pub onto_lines : Result (Option SecretLine) SecretsFault → Result (List SecretLine) SecretsFault → Result (List SecretLine) SecretsFault
onto_lines (Err fault) rest = Err fault
onto_lines (Ok None) rest = rest
onto_lines (Ok (Some line)) (Err fault) = Err fault
onto_lines (Ok (Some line)) (Ok lines) = Ok (line ∷ lines)

-- what lines hold of which the first has this number
unfoldable pub held_from : ℕ → List (List ℕ) → Result (List SecretLine) SecretsFault
held_from number lines = held (enumerate_from number (map (words_of Dropped) lines))

onto_first_or : (fault : Option SecretsFault) (line : Option SecretLine) (faults : List SecretsFault) (lines : List SecretLine) →
    first_or (cons_option fault faults) (cons_option line lines) ≡ onto_lines (fault_or fault line) (first_or faults lines)
onto_first_or (Some fault) line faults lines = refl
onto_first_or None None faults lines = refl
onto_first_or None (Some line) [] lines = refl
onto_first_or None (Some line) (fault ∷ faults) lines = refl

pub held_from_cons : (number : ℕ) (line : List ℕ) (lines : List (List ℕ)) →
    held_from number (line ∷ lines) ≡ onto_lines (line_answer number (words_of Dropped line)) (held_from (number + 1) lines)
unfolding held_from line_answer
held_from_cons number line lines =
    let behind : List (ℕ × LineWords) = enumerate_from (number + 1) (map (words_of Dropped) lines) in
    onto_first_or (line_fault (number, words_of Dropped line)) (line_kept (number, words_of Dropped line)) (filter_map line_fault behind) (filter_map line_kept behind)

pub held_from_none : (number : ℕ) → held_from number [] ≡ Ok []
unfolding held_from
held_from_none number = refl

pub held_from_one : (text : List ℕ) → held_from 1 (lines_of text) ≡ secrets_of text
unfolding held_from secrets_of
held_from_one text = refl

-- lines before those that are still to be read, if these have no fault
abbrev pub with_lines : List SecretLine → Result (List SecretLine) SecretsFault → Result (List SecretLine) SecretsFault
with_lines front (Ok lines) = Ok (front ++ lines)
with_lines front (Err fault) = Err fault

pub with_no_lines : (read : Result (List SecretLine) SecretsFault) → with_lines [] read ≡ read
with_no_lines (Ok lines) = refl
with_no_lines (Err fault) = refl

pub with_lines-push : (front : List SecretLine) (line : SecretLine) (read : Result (List SecretLine) SecretsFault) →
    with_lines front (onto_lines (Ok (Some line)) read) ≡ with_lines (front ++ line ∷ []) read
with_lines-push front line (Ok lines) = ap Ok (append_line front line lines)
  where
    append_line : (front : List SecretLine) (line : SecretLine) (lines : List SecretLine) → front ++ line ∷ lines ≡ (front ++ line ∷ []) ++ lines
    append_line [] line lines = refl
    append_line (x ∷ xs) line lines = ap (λ ys. x ∷ ys) (append_line xs line lines)
with_lines-push front line (Err fault) = refl

-- what is left to read behind so many lines
abbrev pub left_over : ℕ → Option (List ℕ) → Result (List SecretLine) SecretsFault
left_over count rest = held_from (count + 1) (parts_of 10 rest)

pub begins : (front : List SecretLine) (text : List ℕ) → front ≡ [] → with_lines front (left_over 0 (Some text)) ≡ secrets_of text
begins front text e = rw e (with_no_lines (held_from 1 (lines_of text)) ∙ held_from_one text)

pub one_more : (front new : List SecretLine) (count number : ℕ) (rest : Option (List ℕ)) (octets part : List ℕ) (others : Option (List ℕ)) (line : SecretLine) (whole : Result (List SecretLine) SecretsFault) →
    with_lines front (left_over count rest) ≡ whole → rest ≡ Some octets → lines_of octets ≡ part ∷ parts_of 10 others → count + 1 ≡ number →
    line_answer number (words_of Dropped part) ≡ Ok (Some line) → new ≡ front ++ line ∷ [] → with_lines new (left_over number others) ≡ whole
one_more front new count number rest octets part others line whole so_far is parts next answer push =
    let first : left_over count rest ≡ held_from number (part ∷ parts_of 10 others) =
    ap (λ left. left_over count left) is ∙ ap (λ at. held_from at (lines_of octets)) next ∙ ap (held_from number) parts in
    let behind : held_from number (part ∷ parts_of 10 others) ≡ onto_lines (Ok (Some line)) (left_over number others) =
    held_from_cons number part (parts_of 10 others) ∙ ap (λ this. onto_lines this (left_over number others)) answer in
    rw push (sym (with_lines-push front line (left_over number others)) ∙ sym (ap (with_lines front) (first ∙ behind)) ∙ so_far)

pub none_left : (front : List SecretLine) (count : ℕ) (rest : Option (List ℕ)) (whole : Result (List SecretLine) SecretsFault) →
    with_lines front (left_over count rest) ≡ whole → rest ≡ None → whole ≡ Ok front
none_left front count rest whole so_far is =
    let nothing : left_over count rest ≡ Ok [] = ap (λ left. left_over count left) is ∙ held_from_none (count + 1) in
    sym so_far ∙ ap (with_lines front) nothing ∙ ap Ok (append-nil front)

-- address words that are read one after another
pub more_words : (words : List PlacedWord) (i : ℕ) (word : PlacedWord) (address : AddressWord) (kept new : List AddressWord) → i < length words → word ≡ get_or words i word →
    address_word_of word.octets ≡ Some address → list_any is_no_address (take i words) ≡ false → kept ≡ filter_map (λ word. address_word_of word.octets) (take i words) → new ≡ kept ++ address ∷ [] →
    (list_any is_no_address (take (i + 1) words) ≡ false) × (new ≡ filter_map (λ word. address_word_of word.octets) (take (i + 1) words))
more_words words i word address kept new within item read each so_far push =
    let more : take (i + 1) words ≡ take i words ++ word ∷ [] = rw add-one (take-suc words i word within ∙ ap (λ last. take i words ++ last ∷ []) (sym item)) in
    let one : is_no_address word ≡ false = rw read refl in
    let last : filter_map (λ (word : PlacedWord). address_word_of word.octets) (word ∷ []) ≡ address ∷ [] = rw read refl in (
      rw (more, list_any-append is_no_address (take i words) (word ∷ []), each, one) refl,
      rw more (push ∙ ap (λ front. front ++ address ∷ []) so_far ∙ sym (filter_map-append (λ (word : PlacedWord). address_word_of word.octets) (take i words) (word ∷ []) ∙ ap (λ back. filter_map (λ (word : PlacedWord). address_word_of word.octets) (take i words) ++ back) last)),
    )

-- how much is left
abbrev pub amount : Option (List ℕ) → ℕ
amount None = 0
amount (Some octets) = length octets + 1

less : (m n : ℕ) → m < n → nat_lt m n ≡ true
less m n h = grind (arith, nat_tests)

-- The numbers of lines that are counted from a number rise from there.
pub kept_rise : (low number : ℕ) → low < number → (lines : List LineWords) → rise_above low (filter_map line_kept (enumerate_from number lines)) ≡ true
kept_rise low number h [] = refl
kept_rise low number h (Err begin ∷ lines) = kept_rise low (number + 1) (omega arith) lines
kept_rise low number h (Ok [] ∷ lines) = kept_rise low (number + 1) (omega arith) lines
kept_rise low number h (Ok (client ∷ []) ∷ lines) = kept_rise low (number + 1) (omega arith) lines
kept_rise low number h (Ok (client ∷ server ∷ []) ∷ lines) = kept_rise low (number + 1) (omega arith) lines
kept_rise low number h (Ok (client ∷ server ∷ secret ∷ words) ∷ lines) =
    let rest : rise_above number (filter_map line_kept (enumerate_from (number + 1) lines)) ≡ true = kept_rise number (number + 1) (omega arith) lines in
    let above : nat_lt low number ≡ true = less low number h in
    rw (above, rest) refl

lines_of_ok : (faults : List SecretsFault) (kept lines : List SecretLine) → first_or faults kept ≡ Ok lines → kept ≡ lines
lines_of_ok [] kept lines e = cc
lines_of_ok (fault ∷ faults) kept lines e = cc

pub held_rise : (words : List LineWords) (lines : List SecretLine) → held (enumerate_from 1 words) ≡ Ok lines → IsRising lines
held_rise words lines e =
    let same : filter_map line_kept (enumerate_from 1 words) ≡ lines = lines_of_ok (filter_map line_fault (enumerate_from 1 words)) _ _ e in
    rw same at (kept_rise 0 1 (omega arith) words)

pub secrets_rise : (text : List ℕ) (lines : List SecretLine) → secrets_of text ≡ Ok lines → IsRising lines
unfolding secrets_of
secrets_rise text lines e = held_rise (map (words_of Dropped) (lines_of text)) lines e
