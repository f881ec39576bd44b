use Rattle.std.proofs.Common.{◌≡◌, ◌+◌, ◌≤◌, drop}
use Rattle.ppp_words.specs.Reading.{state_of}
use Rattle.ppp_words.specs.Steps.{run, start}
use Rattle.ppp_words.proofs.splitting.read.Given as goal

-- What will be read of the octets that are left, from here on, is what is read of all.
abbrev pub invariant-loop-octet : goal.invariant-loop-octet
invariant-loop-octet l = record {
  read : run l.fn.backslash (state_of l.reader) (drop l.octet-index l.text) ≡ run l.fn.backslash start l.text;
  backslash : l.reader.backslash ≡ l.fn.backslash;
  line : l.reader.line ≤ l.octet-index + 1;
}
