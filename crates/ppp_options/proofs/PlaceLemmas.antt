-- One word more where words stand in their places.
use Rattle.std.proofs.Common.{◌≡◌, ◌∙◌, ap, ℕ, zero, suc, ◌-◌, ◌<◌, ◌≤◌, IsErrAnd, List, [], ◌∷◌, length, take, drop, get_or, Result, Ok, Err, refl, arith}
use Rattle.std.proofs.Math.Seq.{take-length}
use Rattle.std.specs.Global.{Vec}
use Rattle.ppp_chat_words.specs.Split.{octets_in}
use Rattle.ppp_outside.specs.Files.{NamedFile}
use Rattle.ppp_options.specs.FileRead.{FileRead, unless_open}
use Rattle.ppp_options.specs.GivenValue.{GivenValue}
use Rattle.ppp_option_words.specs.Results.{ok_then}
use Rattle.ppp_options.specs.Steps.{awaiting, file_taken, read_from, reader_at, taken, all_taken, Reader, Inner}
use Rattle.ppp_option_words.specs.declared.fault.OptionsFault.{OptionsFault}
use Rattle.ppp_option_words.specs.declared.kind.Included.{Included}
use Rattle.ppp_options.specs.declared.given.Awaits.{Awaits}
use Rattle.ppp_options.specs.declared.given.Awaits.TheVariants.{Nothing, FileName}

-- what stands behind the first word
abbrev pub others : List (Vec ℕ) → List (Vec ℕ)
others left = take (length left - 1) (drop 1 left)

others-cons : (word : Vec ℕ) (words : List (Vec ℕ)) → others (word ∷ words) ≡ words
others-cons word words = let size : length (word ∷ words) - 1 ≡ length words = omega arith in rw size (take-length words)

-- where files are read so
step_at : (all : List NamedFile) (file : Reader) (inner : Inner) (given : GivenValue) (awaits : Awaits) (left : List (Vec ℕ)) (word : Vec ℕ)
    → 1 ≤ length left → word ≡ get_or left 0 word → given.awaits ≡ awaits
    → all_taken all file inner given (octets_in left) ≡ ok_then (taken all file inner awaits given word.items) (λ (next : GivenValue). all_taken all file inner next (octets_in (others left)))
step_at all file inner given awaits [] word long is awaited = absurd (omega arith)
step_at all file inner given awaits (first ∷ words) word long is awaited = rw (others-cons first words, is, awaited) refl

-- what the words of a file do
abbrev pub inner_at : ℕ → List NamedFile → Inner
inner_at zero all = λ (given : GivenValue) (words : List (List ℕ)). Ok given
inner_at (suc depth) all = read_from all depth

pub step_goes : (all : List NamedFile) (deeper : ℕ) (given : GivenValue) (awaits : Awaits) (left : List (Vec ℕ)) (word : Vec ℕ)
    → 1 ≤ length left → word ≡ get_or left 0 word → given.awaits ≡ awaits
    → read_from all deeper given (octets_in left)
    ≡ ok_then (taken all (reader_at deeper all) (inner_at deeper all) awaits given word.items) (λ (next : GivenValue). read_from all deeper next (octets_in (others left)))
step_goes all zero given awaits left word long is awaited = step_at all (reader_at zero all) (inner_at zero all) given awaits left word long is awaited
step_goes all (suc depth) given awaits left word long is awaited = step_at all (reader_at (suc depth) all) (read_from all depth) given awaits left word long is awaited

pub inner_below : (all : List NamedFile) (deeper : ℕ) → 1 ≤ deeper → inner_at deeper all ≡ read_from all (deeper - 1)
inner_below all zero some = absurd (omega arith)
inner_below all (suc depth) some = let below : suc depth - 1 ≡ depth = omega arith in rw below refl

pub then_then : {X Y Z : Type 0} (read : Result X OptionsFault) (f : X → Result Y OptionsFault) (g : Y → Result Z OptionsFault)
    → ok_then (ok_then read f) g ≡ ok_then read (λ (x : X). ok_then (f x) g)
then_then (Ok x) f g = refl
then_then (Err fault) f g = refl

pub then_ok : {X : Type 0} (read : Result X OptionsFault) → ok_then read (λ (x : X). Ok x) ≡ read
then_ok (Ok x) = refl
then_ok (Err fault) = refl

-- what stands behind a file's words
file_then : (read : Result FileRead OptionsFault) (inner : Inner) (given : GivenValue) (next : GivenValue → Result GivenValue OptionsFault)
    → ok_then (ok_then read (file_taken inner given)) next
    ≡ ok_then read (λ (file : FileRead). ok_then (inner given file.words) (λ (done : GivenValue). ok_then (unless_open file.open_quote done) next))
file_then (Ok file) inner given next = then_then (inner given file.words) (unless_open file.open_quote) next
file_then (Err fault) inner given next = refl

pub no_words : (all : List NamedFile) (deeper : ℕ) (given : GivenValue) (left : List (Vec ℕ)) → length left < 1 → read_from all deeper given (octets_in left) ≡ Ok given
no_words all zero given [] few = refl
no_words all (suc depth) given [] few = refl
no_words all deeper given (word ∷ words) few = absurd (omega arith)

-- a fault that is passed on
pub err_of : {X : Type 0} (answer : Result X OptionsFault) (fault : OptionsFault) → IsErrAnd answer (λ other. other ≡ fault) → answer ≡ Err fault
err_of (Ok x) fault passes = absurd passes
err_of (Err other) fault passes = ap (λ (f : OptionsFault). Err f) passes

-- a file's name: its words, and then the others
pub file_goes : (all : List NamedFile) (deeper : ℕ) (given : GivenValue) (included : Included) (left : List (Vec ℕ)) (word : Vec ℕ)
    → 1 ≤ deeper → 1 ≤ length left → word ≡ get_or left 0 word → given.awaits ≡ FileName included
    → read_from all deeper given (octets_in left)
    ≡ ok_then (reader_at deeper all included word.items)
    (λ (file : FileRead). ok_then (read_from all (deeper - 1) (awaiting given Nothing) file.words)
    (λ (done : GivenValue). ok_then (unless_open file.open_quote done) (λ (next : GivenValue). read_from all deeper next (octets_in (others left)))))
file_goes all deeper given included left word some long is awaited =
    step_goes all deeper given (FileName included) left word long is awaited
    ∙ (rw (inner_below all deeper some) (file_then (reader_at deeper all included word.items) (read_from all (deeper - 1)) (awaiting given Nothing) (λ (next : GivenValue). read_from all deeper next (octets_in (others left)))))
