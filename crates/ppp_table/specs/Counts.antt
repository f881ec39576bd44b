-- What a table counts.
use Rattle.std.specs.Prelude.{ℕ, ◌+◌, ◌-◌, ◌^◌, ◌≡◌, min, List, [], ◌∷◌}
use Rattle.ppp_base.specs.RingAfter.{one_more}
use Rattle.ppp_bundle.specs.State.{UnitState}
use Rattle.ppp_table_parts.specs.Sides.{frames_dropped}
use Rattle.ppp_table.specs.declared.counting.TableCounts.{TableCounts}
use Rattle.ppp_table.specs.declared.event.TableEvent.{TableEvent}
use Rattle.ppp_table.specs.declared.event.TableEvent.TheVariants.{Packet, Tick, HookOver}
use Rattle.ppp_table.specs.TableState.{TableState}

-- over all units
abbrev pub sum_of : {S : Type 0} → (UnitState S → ℕ) → List (UnitState S) → ℕ
sum_of count [] = 0
sum_of count (u ∷ units) = count u + sum_of count units

-- A count stands still at its end.
abbrev pub stopped : ℕ → ℕ
stopped count = min count (2 ^ 64 - 1)

abbrev pub counts_of : {S : Type 0} → TableState S → TableCounts
counts_of t = record {
  no_room = stopped (frames_dropped t.sides + t.deliveries.dropped);
  not_open = stopped (sum_of (λ u. u.counts.not_open) t.units);
  stranger = stopped (sum_of (λ u. u.counts.stranger) t.units + t.stranger);
  too_big = stopped (sum_of (λ u. u.counts.too_big) t.units);
  bad_inner = stopped (sum_of (λ u. u.counts.bad_inner) t.units);
  packets = t.packets;
  taken = t.taken;
}

-- Counts of calls are kept: no packet came, and no delivery was taken.
pub record CountsKept {S : Type 0} (old new : TableState S) : Type 0 where
  pub packets : new.packets ≡ old.packets
  pub taken : new.taken ≡ old.taken

-- `packets` rises by one as a packet comes, whatever becomes of it, and not by another event.
abbrev pub packets_after : {S : Type 0} → TableEvent S → ℕ → ℕ
packets_after (Packet unit datagram) packets = one_more packets
packets_after (Tick now) packets = packets
packets_after (HookOver unit done) packets = packets

pub record CountsAt {S : Type 0} (event : TableEvent S) (old new : TableState S) : Type 0 where
  pub packets : new.packets ≡ packets_after event old.packets
  pub taken : new.taken ≡ old.taken
