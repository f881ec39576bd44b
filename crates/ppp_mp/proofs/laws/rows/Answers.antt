use Rattle.std.proofs.Common.{true, [], ◌∷◌, refl, arith}
use Rattle.ppp_mp.specs.Delivered.{Joins, Leaves, Comes}
use Rattle.ppp_mp.specs.Rows.{whole, begins, ends_it, wholes, packets_from, sent_whole, one_lost}
use Rattle.ppp_mp.proofs.Rows.{row, near_row, one_piece}
use Rattle.ppp_mp.proofs.laws.rows.Goals as goal

pub returns-clause-second_b : goal.returns-clause-second_b
returns-clause-second_b c = row 20 20 1500 (Comes 1 (whole 1 98) ∷ Comes 1 (begins 0 97) ∷ Joins 1 ∷ []) ((98 ∷ []) ∷ []) 0 0 1 0 refl

pub returns-clause-doubled : goal.returns-clause-doubled
returns-clause-doubled c = row 20 20 1500 (Comes 2 (whole 1 98) ∷ Comes 1 (whole 1 98) ∷ Joins 2 ∷ Joins 1 ∷ []) ((98 ∷ []) ∷ []) 0 1 1 0 refl

pub returns-clause-leaves : goal.returns-clause-leaves
returns-clause-leaves c = row 20 20 1500 (Leaves 2 ∷ Comes 1 (whole 1 98) ∷ Joins 2 ∷ Joins 1 ∷ []) ((98 ∷ []) ∷ []) 0 0 1 0 refl

pub returns-clause-window : goal.returns-clause-window
returns-clause-window c = row 20 20 1500 (Comes 1 (whole 128 98) ∷ Joins 2 ∷ Joins 1 ∷ []) [] 0 0 1 0 refl

pub returns-clause-within : goal.returns-clause-within
returns-clause-within c = row 20 20 0 (Comes 1 (ends_it 1 98) ∷ Comes 1 (begins 0 97) ∷ Joins 1 ∷ []) ((97 ∷ 98 ∷ []) ∷ []) 0 0 0 0 refl

pub returns-clause-too_long : goal.returns-clause-too_long
returns-clause-too_long c = row 20 20 0 (Comes 1 (record { field = 0; first = true; last = true; octets = 97 ∷ 98 ∷ 99 ∷ [] }) ∷ Joins 1 ∷ []) [] 0 0 0 1 refl

pub returns-clause-other_order : goal.returns-clause-other_order
returns-clause-other_order c = row 20 20 1500 (Comes 1 (begins 0 33) ∷ Leaves 1 ∷ Comes 1 (begins 0 33) ∷ Comes 1 (begins 0 33) ∷ Comes 2 (ends_it 1 34) ∷ Comes 2 (ends_it 1 34) ∷ Joins 2 ∷ Joins 1 ∷ []) ((33 ∷ 34 ∷ []) ∷ []) 1 1 0 0 refl

pub returns-clause-far : goal.returns-clause-far
returns-clause-far c = row 20 20 1500 (Comes 1 (whole 8388000 120) ∷ Joins 1 ∷ []) ((120 ∷ []) ∷ []) 0 0 8388000 0 refl

pub returns-clause-lags : goal.returns-clause-lags
returns-clause-lags c = row 20 200 1500 (Comes 2 (whole 0 0) ∷ wholes 127 (Joins 2 ∷ Joins 1 ∷ [])) (packets_from 0 128) 0 0 0 0 refl

pub returns-clause-lost : goal.returns-clause-lost
returns-clause-lost c = row 20 200 1500 (wholes 128 (Joins 2 ∷ Joins 1 ∷ [])) (packets_from 1 128) 0 0 1 0 refl

pub returns-clause-anew : goal.returns-clause-anew
returns-clause-anew c = row 20 20 1500 (Comes 1 (ends_it 0 98) ∷ Comes 1 (begins 16777215 97) ∷ Comes 1 (whole 16777214 121) ∷ Comes 1 (whole 8388607 120) ∷ Joins 1 ∷ []) ((120 ∷ []) ∷ (121 ∷ []) ∷ (97 ∷ 98 ∷ []) ∷ []) 0 0 16777213 0 refl

pub returns-clause-one_lost : goal.returns-clause-one_lost
returns-clause-one_lost c = row 20 20 1500 one_lost ((1 ∷ []) ∷ (3 ∷ []) ∷ []) 1 0 1 0 refl

pub returns-clause-end_alone : goal.returns-clause-end_alone
returns-clause-end_alone c = row 20 20 1500 (Comes 1 (ends_it 0 97) ∷ Joins 1 ∷ []) [] 0 0 1 0 refl

pub returns-clause-sent : goal.returns-clause-sent
returns-clause-sent c = (
  record { place = 0; len = 1; link = 1 } ∷ [],
  sent_whole 2 ∷ sent_whole 3 ∷ [],
  one_piece 0,
  (
    record { place = 0; len = 1; link = 1 } ∷ [],
    sent_whole 3 ∷ [],
    one_piece 1,
    (record { place = 0; len = 1; link = 1 } ∷ [], [], one_piece 1, refl, refl),
    refl,
  ),
  refl,
)

pub returns-clause-arrives : goal.returns-clause-arrives
returns-clause-arrives c = (
  record { number = 2; piece = sent_whole 3; there = refl; same = refl; near = near_row 20 20 1500 (Comes 1 (whole 0 1) ∷ Comes 1 (whole 0 1) ∷ Joins 1 ∷ []) 16777217 2 refl (omega arith) (omega arith) },
  (
    record { number = 0; piece = sent_whole 1; there = refl; same = refl; near = near_row 20 20 1500 (Comes 1 (whole 0 1) ∷ Joins 1 ∷ []) 16777217 0 refl (omega arith) (omega arith) },
    (
      record { number = 0; piece = sent_whole 1; there = refl; same = refl; near = near_row 20 20 1500 (Joins 1 ∷ []) 16777216 0 refl (omega arith) (omega arith) },
      tt,
    ),
  ),
)
