-- What a link's options say of itself to scripts and units (pppd(8)).
use Rattle.std.specs.Prelude.{ℕ, ◌-◌, Option, None, Some, List, codes}
use Rattle.ppp_outside.specs.declared.line_words.LineWords.{LineWords}
use Rattle.ppp_outside.specs.declared.line_words.LineWords.TheVariants.{Socket, Pty}

-- The device that scripts are told: the socket's text, or `pty`.
abbrev pub device_of : LineWords → List ℕ
device_of (Socket text) = text
device_of (Pty command) = codes "pty"

-- A link's home unit is that of its option `unit`, or else its number less one.
abbrev pub home_unit : ℕ → Option ℕ → ℕ
home_unit link None = link - 1
home_unit link (Some unit) = unit
