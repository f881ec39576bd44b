-- The line that tells a fault (pppd(8) says no words; these are this program's own).
use Rattle.std.specs.Prelude.{ℕ, List, ◌++◌, codes, decimal}
use Rattle.ppp_option_words.specs.declared.fault.OptionsFault.{OptionsFault}
use Rattle.ppp_option_words.specs.declared.fault.OptionsFault.TheVariants.{Unknown, Missing, BadNumber, OutOfRange, Clash, Depth, BadQuote, TooMany, FileFault, NoFile, BadScript, NoMemory}

-- what is said, and the word that it is said of
abbrev pub said_of : List ℕ → List ℕ → List ℕ
said_of said word = said ++ word ++ codes "\n"

-- A word or a name stands there as its octets, whatever they are.
abbrev pub fault_text : OptionsFault → List ℕ
fault_text (Unknown word) = said_of (codes "pppd: unknown option ") word
fault_text (Missing word) = said_of (codes "pppd: missing ") word
fault_text (BadNumber word) = said_of (codes "pppd: bad number ") word
fault_text (OutOfRange word) = said_of (codes "pppd: out of range ") word
fault_text (Clash word other) = codes "pppd: " ++ word ++ said_of (codes " and ") other
fault_text (Depth name) = said_of (codes "pppd: files too deep at ") name
fault_text (BadQuote name line) = codes "pppd: open quote in " ++ name ++ codes " line " ++ decimal line ++ codes "\n"
fault_text (TooMany number) = codes "pppd: too many links\n"
fault_text (FileFault name) = said_of (codes "pppd: cannot read ") name
fault_text (NoFile name) = said_of (codes "pppd: no file ") name
fault_text (BadScript word) = said_of (codes "pppd: bad script at ") word
fault_text NoMemory = codes "pppd: no memory\n"
