use Rattle.std.proofs.Common.{◌≡◌, ◌≤◌, ℕ, None, vec_capacity, vec_len, slice_index_or}
use Rattle.ppp_mp.proofs.slots.Slots.new.Given as goal

abbrev pub invariant-loop-slot : goal.invariant-loop-slot
invariant-loop-slot l = record {
  room : 128 ≤ vec_capacity l.slots;
  count : vec_len l.slots ≡ l._slot;
  none : (i : ℕ) → slice_index_or l.slots.items i None ≡ None;
}
