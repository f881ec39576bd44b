-- How a step of a full trace is spelled: one space between words, numbers in decimal without leading zeros, octets as
-- hexadecimal digits of either case.
use Rattle.std.specs.Prelude.{◌≡◌, ℕ, ◌<◌, ◌≤◌, ◌^◌, List, ◌∷◌, ◌++◌, length, codes}
use Rattle.std.specs.Fmt.{decimal}
use Rattle.ppp_base.specs.Hex.{IsHexText, IsHexOf}
use Rattle.ppp_base.specs.declared.signal_word.SignalWord.{SignalWord}
use Rattle.ppp_base.specs.declared.signal_word.SignalWord.TheVariants.{Hup, Int, Term, Usr1, Usr2}
use Rattle.ppp_outside.specs.declared.spawner.ScriptEnd.{ScriptEnd}
use Rattle.ppp_trace.specs.declared.link_word.LinkWord.{LinkWord}
use Rattle.ppp_trace.specs.declared.link_word.LinkWord.TheVariants as word
use Rattle.ppp_trace.specs.declared.world_step.WorldStep.{WorldStep}
use Rattle.ppp_trace.specs.declared.world_step.WorldStep.TheVariants as step
use Rattle.ppp_trace.specs.Steps.{IsAnswer, word_of_answer}

-- what a link does that has no number and no octets
unfoldable pub link_text : LinkWord → List ℕ
link_text word.Begin = codes "begin"
link_text word.DialOk = codes "dial ok"
link_text word.DialFail = codes "dial fail"
link_text word.LineEnd = codes "line end"
link_text word.LineFail = codes "line fail"
link_text word.LineLeft = codes "line left"
link_text word.SentOk = codes "sent ok"
link_text word.SentFail = codes "sent fail"

abbrev pub done : ℕ → LinkWord → WorldStep
done link word.Begin = step.Begin link
done link word.DialOk = step.DialOk link
done link word.DialFail = step.DialFail link
done link word.LineEnd = step.LineEnd link
done link word.LineFail = step.LineFail link
done link word.LineLeft = step.LineLeft link
done link word.SentOk = step.SentOk link
done link word.SentFail = step.SentFail link

-- the name of a signal
unfoldable pub signal_text : SignalWord → List ℕ
signal_text Hup = codes "HUP"
signal_text Int = codes "INT"
signal_text Term = codes "TERM"
signal_text Usr1 = codes "USR1"
signal_text Usr2 = codes "USR2"

-- a job, and how its script ended
abbrev pub hook_text : ℕ → ScriptEnd → List ℕ
hook_text job answer = codes "hook " ++ (decimal job ++ 32 ∷ word_of_answer answer)

abbrev pub IsHook : ℕ → ScriptEnd → Type 0
IsHook job answer = (job < 2 ^ 32) × IsAnswer answer

-- These digits are these octets, of which there are 1 to most.
pub record IsHex (most : ℕ) (digits octets : List ℕ) : Type 0 where
  pub some : 1 ≤ length octets
  pub few : length octets ≤ most
  pub text : IsHexText digits
  pub values : IsHexOf digits octets

-- The line is the number of one of so many links, and behind it this.
pub record OfLink (links link : ℕ) (line rest : List ℕ) : Type 0 where
  pub from_one : 1 ≤ link
  pub there : link ≤ links
  pub text : line ≡ decimal link ++ 32 ∷ rest

-- octets behind a front
abbrev pub WithOctets : (most : ℕ) (octets : List ℕ) → (List ℕ → Type 0) → Type 0
WithOctets most octets follow = (digits : List ℕ) × IsHex most digits octets × follow digits

-- The line is this step, in a trace with so many links.
abbrev pub SpellsStep : ℕ → WorldStep → List ℕ → Type 0
SpellsStep links (step.Begin k) line = OfLink links k line (link_text word.Begin)
SpellsStep links (step.DialOk k) line = OfLink links k line (link_text word.DialOk)
SpellsStep links (step.DialFail k) line = OfLink links k line (link_text word.DialFail)
SpellsStep links (step.Rx k octets) line = WithOctets 1024 octets (λ digits. OfLink links k line (codes "rx " ++ digits))
SpellsStep links (step.RxAt k session offset octets) line =
    (session < 2 ^ 32) × (offset < 2 ^ 64) × WithOctets 1024 octets (λ digits. OfLink links k line (codes "rx " ++ (decimal session ++ 32 ∷ (decimal offset ++ 32 ∷ digits))))
SpellsStep links (step.LineEnd k) line = OfLink links k line (link_text word.LineEnd)
SpellsStep links (step.LineFail k) line = OfLink links k line (link_text word.LineFail)
SpellsStep links (step.LineLeft k) line = OfLink links k line (link_text word.LineLeft)
SpellsStep links (step.SentOk k) line = OfLink links k line (link_text word.SentOk)
SpellsStep links (step.SentFail k) line = OfLink links k line (link_text word.SentFail)
SpellsStep links (step.Tick k ms) line = (ms ≤ 2 ^ 56) × OfLink links k line (codes "tick " ++ decimal ms)
SpellsStep links (step.TableTick ms) line = (ms ≤ 2 ^ 56) × (line ≡ codes "tick " ++ decimal ms)
SpellsStep links (step.Word k signal) line = OfLink links k line (codes "word " ++ signal_text signal)
SpellsStep links (step.Hook k job answer) line = IsHook job answer × OfLink links k line (hook_text job answer)
SpellsStep links (step.UnitHook unit job answer) line =
    (unit ≤ 15) × IsHook job answer × (line ≡ codes "unit " ++ (decimal unit ++ 32 ∷ hook_text job answer))
SpellsStep links (step.Packet unit datagram) line =
    (unit ≤ 15) × WithOctets 2048 datagram (λ digits. line ≡ codes "packet " ++ (decimal unit ++ 32 ∷ digits))
SpellsStep links (step.Carry k) line = (1 ≤ k) × (k ≤ links) × (line ≡ codes "carry " ++ decimal k)

-- The line is no step.
abbrev pub IsNoFullStep : ℕ → List ℕ → Type 0
IsNoFullStep links line = (s : WorldStep) → SpellsStep links s line → ⊥
