-- What one reading of a clock in memory does to what it tells.
use Rattle.std.proofs.Common.{◌≡◌, ℕ, ◌+◌, ◌≤◌, min, List, [], ◌∷◌, ◌++◌, length, take, Some, None, Bool, true, false, ◌||◌, nat_lt, if◌then◌else◌, ap, refl, arith}
use Rattle.std.proofs.lemmas.Bool.{ltb-false}
use Rattle.std.proofs.lemmas.List.{take_more}
use Rattle.ppp_outside.specs.Clock.{Reads}
use Rattle.ppp_outside.specs.Contents.{GrowsWhereTold}
use Rattle.ppp_memory.specs.Clock.{ClockInMemory, after_reading, all_readings, reading_of, state_of}

-- The readings grow by one, unless the clock tells them no longer.
grows : (past late : Bool) (before now : List ℕ) (reading : ℕ) → (late ≡ false → now ≡ before ++ reading ∷ []) → GrowsWhereTold (reading ∷ []) (if past then None else Some before) (if past || late then None else Some now)
grows true late before now reading more = tt
grows false true before now reading more = tt
grows false false before now reading more = ap Some (more refl)

pub reads : (s : ClockInMemory) → s.at ≤ length s.later + 1 → Reads (state_of s) (state_of (after_reading s)) (reading_of s)
reads s within = record {
  latest = refl;
  readings = grows s.past (nat_lt (length s.later) s.at) (take s.at (all_readings s)) (take (min (s.at + 1) (length s.later + 1)) (all_readings s)) (reading_of s) (λ late.
      let early : s.at ≤ length s.later = ltb-false (length s.later) s.at late in
      let next : min (s.at + 1) (length s.later + 1) ≡ s.at + 1 = omega arith in
      let place : min s.at (length s.later) ≡ s.at = omega arith in
      rw (next, place) (take_more (all_readings s) s.at 0 (omega arith)));
}
