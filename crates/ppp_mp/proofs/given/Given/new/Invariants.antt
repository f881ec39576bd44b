use Rattle.std.proofs.Common.{◌≡◌, ◌≤◌, vec_capacity, vec_len}
use Rattle.ppp_mp.proofs.given.Given.new.Given as goal

abbrev pub invariant-loop-packet : goal.invariant-loop-packet
invariant-loop-packet l = record {
  room : 128 ≤ vec_capacity l.packets;
  count : vec_len l.packets ≡ l._packet;
}
