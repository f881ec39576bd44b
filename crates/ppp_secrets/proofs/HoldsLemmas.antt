-- What a text holds.
use Rattle.std.proofs.Common.{◌≡◌, ℕ, List, [], ◌∷◌, refl, sym, ◌∙◌, ap, ap₂, subst}
use Rattle.std.specs.Prelude.{Result, Ok, Err, map}
use Rattle.std.specs.List.{enumerate_from, AllZip}
use Rattle.ppp_words.specs.Words.{Reads}
use Rattle.ppp_words.specs.Steps.{words_of}
use Rattle.ppp_words.specs.declared.backslash.Backslash.TheVariants.{Dropped}
use Rattle.ppp_words.proofs.ReadLemmas.{words_read, read_words}
use Rattle.ppp_secrets.specs.SecretLine.{SecretLine, IsRising}
use Rattle.ppp_secrets.specs.LineFaults.{LineWords}
use Rattle.ppp_secrets.specs.Reading.{lines_of, held, Holds, secrets_of}
use Rattle.ppp_secrets.specs.Answers.{Gives, GivesSome}
use Rattle.ppp_secrets.specs.declared.fault.SecretsFault.{SecretsFault}
use Rattle.ppp_secrets.specs.declared.fault.SecretsFault.TheVariants.{BadQuote, FewWords, TooLong, FileSecret, BadAddress, NoMemory}
use Rattle.ppp_secrets.proofs.LineLemmas.{held_rise}

all_read : (lines : List (List ℕ)) → AllZip (Reads Dropped) lines (map (words_of Dropped) lines)
all_read [] = tt
all_read (line ∷ lines) = (words_read Dropped line, all_read lines)

one_each : (lines : List (List ℕ)) (readings : List LineWords) → AllZip (Reads Dropped) lines readings → map (words_of Dropped) lines ≡ readings
one_each [] [] h = refl
one_each [] (reading ∷ readings) h = elim h [ ]
one_each (line ∷ lines) [] h = elim h [ ]
one_each (line ∷ lines) (reading ∷ readings) h =
    ap₂ (λ (x : LineWords) (xs : List LineWords). x ∷ xs) (read_words Dropped line reading h.0) (one_each lines readings h.1)

pub text_holds : (text : List ℕ) → Holds text (secrets_of text)
unfolding secrets_of
text_holds text = record { readings = map (words_of Dropped) (lines_of text); reads = all_read (lines_of text); holds = refl }

pub is_held : (text : List ℕ) (answer : Result (List SecretLine) SecretsFault) → Holds text answer → secrets_of text ≡ answer
unfolding secrets_of
is_held text answer h = ap (λ readings. held (enumerate_from 1 readings)) (one_each (lines_of text) h.readings h.reads) ∙ h.holds

pub holds_one : (text : List ℕ) (answer other : Result (List SecretLine) SecretsFault) → Holds text answer → Holds text other → answer ≡ other
holds_one text answer other a b = sym (is_held text answer a) ∙ is_held text other b

pub holds_rising : (text : List ℕ) (lines : List SecretLine) → Holds text (Ok lines) → IsRising lines
holds_rising text lines h = held_rise h.readings lines h.holds

module _ {X Y : Type 0} (view : X → Y) where
  -- what is answered may be given
  pub gives_some : (P : Result Y SecretsFault → Type 0) (answer : Result X SecretsFault) (read : Result Y SecretsFault) → Gives view answer read → P read → GivesSome view answer P
  gives_some P (Ok x) read e p = subst P e p
  gives_some P (Err (BadQuote number)) read e p = subst P e p
  gives_some P (Err (FewWords number)) read e p = subst P e p
  gives_some P (Err (TooLong number)) read e p = subst P e p
  gives_some P (Err (FileSecret number)) read e p = subst P e p
  gives_some P (Err (BadAddress number)) read e p = subst P e p
  gives_some P (Err NoMemory) read e p = tt

  pub gives_that : (text : List ℕ) (answer : Result X SecretsFault) (read other : Result Y SecretsFault) → Gives view answer read → read ≡ other → Gives view answer other
  gives_that text answer read other g e = subst (Gives view answer) e g
