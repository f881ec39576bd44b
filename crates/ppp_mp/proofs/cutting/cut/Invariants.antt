use Rattle.std.proofs.Common.{◌≡◌, ◌<◌, ℕ, length, slice_index_or}
use Rattle.ppp_mp.specs.declared.cuts.CutPiece.{CutPiece}
use Rattle.ppp_mp.specs.Cut.{IsPiece}
use Rattle.ppp_mp.proofs.cutting.cut.Given as goal

abbrev pub invariant-loop-j : goal.invariant-loop-j
invariant-loop-j l = record {
  count : length l.pieces ≡ l.j;
  each : (j : ℕ) → j < l.j → (other : CutPiece) → IsPiece l.len l.members l.turn l.size j (slice_index_or l.pieces j other);
}
