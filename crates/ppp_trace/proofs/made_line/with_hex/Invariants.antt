use Rattle.std.proofs.Common.{◌≡◌, ◌++◌, drop}
use Rattle.ppp_trace.specs.MadeTrace.{hex_text}
use Rattle.ppp_trace.proofs.made_line.with_hex.Given as goal

abbrev pub invariant-loop-octet : goal.invariant-loop-octet
invariant-loop-octet l = l.line.items ++ hex_text (drop l.octet-index l.octets) ≡ l.fn.words.items ++ hex_text l.octets
