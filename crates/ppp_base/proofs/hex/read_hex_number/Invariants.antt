use Rattle.std.proofs.Common.{◌≡◌, ◌<◌, ◌^◌, drop}
use Rattle.ppp_base.proofs.HexNumbers.{hex_from}
use Rattle.ppp_base.proofs.hex.read_hex_number.Given as goal

-- What the digits that are left make of the value so far is what all make.
abbrev pub invariant-loop-digit : goal.invariant-loop-digit
invariant-loop-digit l = record {
  read : hex_from l.value (drop l.digit-index l.word) ≡ hex_from 0 l.word;
  small : l.value < 16 ^ l.digit-index;
}
