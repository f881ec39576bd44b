-- Logs that keep the law of site scripts and agree with the protocol while none runs.
use Rattle.std.specs.Prelude.{List, [], ◌∷◌, ⊤, reverse}
use Rattle.ppp_mark.specs.ScriptLog.{KeepsLaw}
use Rattle.ppp_report.specs.Report.{Section}

abbrev pub KeepLaw : List Section → Type 0
KeepLaw [] = ⊤
KeepLaw (s ∷ sections) = KeepsLaw (reverse s.marks) × KeepLaw sections
