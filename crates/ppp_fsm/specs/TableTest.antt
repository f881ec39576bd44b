-- A test of each entry of the table.
use Rattle.std.specs.Prelude.{ℕ, ◌+◌, ◌&&◌, Bool, true, false, List, [], ◌∷◌}
use Rattle.std.specs.List.{list_all}
use Rattle.ppp_fsm.specs.declared.event.FsmEvent.{FsmEvent}
use Rattle.ppp_fsm.specs.declared.event.FsmEvent.TheVariants.{Up, Down, Open, Close, Timeout, RcrGood, RcrBad, Rca, Rcn, Rtr, Rta, Ruc, RxjGood, RxjBad, Rxr}
use Rattle.ppp_fsm.specs.Fsm.{Entry, row_of}

abbrev pub events : List FsmEvent
events = Up ∷ Down ∷ Open ∷ Close ∷ Timeout ∷ RcrGood ∷ RcrBad ∷ Rca ∷ Rcn ∷ Rtr ∷ Rta ∷ Ruc ∷ RxjGood ∷ RxjBad ∷ Rxr ∷ []

-- each of these entries passes, of which the first is that of this state
abbrev pub entries_pass : (ℕ → Entry → Bool) → ℕ → List Entry → Bool
entries_pass test state [] = true
entries_pass test state (entry ∷ entries) = test state entry && entries_pass test (state + 1) entries

-- each entry of an event's row passes, both with the counter at 0 and with it above
abbrev pub row_passes : (FsmEvent → ℕ → Entry → Bool) → FsmEvent → Bool
row_passes test event = entries_pass (test event) 0 (row_of event 0) && entries_pass (test event) 0 (row_of event 1)

-- each entry of the table passes
abbrev pub table_passes : (FsmEvent → ℕ → Entry → Bool) → Bool
table_passes test = list_all (row_passes test) events

-- a Terminate-Request
abbrev pub is_terminate : FsmEvent → Bool
is_terminate Rtr = true
is_terminate Up = false
is_terminate Down = false
is_terminate Open = false
is_terminate Close = false
is_terminate Timeout = false
is_terminate RcrGood = false
is_terminate RcrBad = false
is_terminate Rca = false
is_terminate Rcn = false
is_terminate Rta = false
is_terminate Ruc = false
is_terminate RxjGood = false
is_terminate RxjBad = false
is_terminate Rxr = false
