-- Reading gives what the octets have, and nothing else.
use Rattle.std.proofs.Common.{◌≡◌, ℕ, List, [], refl, ap, sym, subst, ◌∙◌}
use Rattle.std.specs.Prelude.{Result, Ok, Err}
use Rattle.ppp_words.specs.Front.{Front, whole}
use Rattle.ppp_words.specs.PlacedWord.{PlacedWord}
use Rattle.ppp_words.specs.Words.{with_words, words_from, Reads, ReadsFront}
use Rattle.ppp_words.specs.Steps.{front_of, run, start, words_of}
use Rattle.ppp_words.specs.declared.backslash.Backslash.{Backslash}
use Rattle.std.specs.Global.{Vec}
use Rattle.ppp_words.specs.declared.word.Word.{Word}
use Rattle.ppp_words.specs.declared.fault.WordsFault.{WordsFault}
use Rattle.ppp_words.specs.declared.fault.WordsFault.TheVariants.{OpenQuote, NoMemory}
use Rattle.ppp_words.specs.Answers.{Gives, GivesSome}
use Rattle.ppp_words.specs.Text.{Text, spelled, IsText}
use Rattle.ppp_words.proofs.RunLemmas.{text_run}
use Rattle.ppp_words.proofs.ExistLemmas.{some_text}

no_front : (front : Front) → with_words [] front ≡ front
no_front front = refl

-- What is read is what the octets have.
run_reads : (backslash : Backslash) (octets : List ℕ) → ReadsFront backslash octets (run backslash start octets)
run_reads backslash octets =
    let made = some_text octets in
    record {
      text = made.0;
      fits = made.1;
      spells = made.2;
      means = sym (ap (run backslash start) made.2 ∙ text_run backslash 1 [] made.0 made.1 ∙ no_front (words_from backslash 1 made.0));
    }

whole_reads : (backslash : Backslash) (octets : List ℕ) (front : Front) → ReadsFront backslash octets front → Reads backslash octets (whole front)
whole_reads backslash octets front reads = record { text = reads.text; fits = reads.fits; spells = reads.spells; means = ap whole reads.means }

-- What the octets have is what is read.
text_reads : (backslash : Backslash) (octets : List ℕ) (text : Text) → IsText text → octets ≡ spelled text → run backslash start octets ≡ words_from backslash 1 text
text_reads backslash octets text fits spells =
    ap (run backslash start) spells ∙ text_run backslash 1 [] text fits ∙ no_front (words_from backslash 1 text)

-- The one reading is what the octets have.
pub words_read : (backslash : Backslash) (octets : List ℕ) → Reads backslash octets (words_of backslash octets)
unfolding words_of
words_read backslash octets = whole_reads backslash octets (run backslash start octets) (run_reads backslash octets)

-- What the octets have is the one reading.
pub read_words : (backslash : Backslash) (octets : List ℕ) (read : Result (List PlacedWord) ℕ) → Reads backslash octets read → words_of backslash octets ≡ read
unfolding words_of
read_words backslash octets read reads = ap whole (text_reads backslash octets reads.text reads.fits reads.spells) ∙ reads.means

-- The same of what stands in front of an open quote.
pub front_read : (backslash : Backslash) (octets : List ℕ) → ReadsFront backslash octets (front_of backslash octets)
unfolding front_of
front_read backslash octets = run_reads backslash octets

pub read_front : (backslash : Backslash) (octets : List ℕ) (front : Front) → ReadsFront backslash octets front → front_of backslash octets ≡ front
unfolding front_of
read_front backslash octets front reads = text_reads backslash octets reads.text reads.fits reads.spells ∙ reads.means

pub whole_front : (backslash : Backslash) (octets : List ℕ) → words_of backslash octets ≡ whole (front_of backslash octets)
unfolding front_of words_of
whole_front backslash octets = refl

-- An answer that is what is read is one that may be read.
pub gives_some : (answer : Result (Vec Word) WordsFault) (read : Result (List PlacedWord) ℕ) (IsRead : Result (List PlacedWord) ℕ → Type 0) → Gives answer read → IsRead read → GivesSome answer IsRead
gives_some (Ok words) read IsRead gives is = subst IsRead gives is
gives_some (Err (OpenQuote line)) read IsRead gives is = subst IsRead gives is
gives_some (Err NoMemory) read IsRead gives is = tt
