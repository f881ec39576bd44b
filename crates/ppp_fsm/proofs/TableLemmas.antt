-- What a test says of each entry of the table, it says of each event in each state.
use Rattle.std.proofs.Common.{◌≡◌, ℕ, ◌+◌, ◌<◌, ◌⊎◌, Bool, true, false, cond, List, [], ◌∷◌, length, refl, subst, sym, zero, suc, arith, add-zero, zero-add, inl, inr}
use Rattle.std.specs.Prelude.{◌&&◌, slice_index_or, nat_eq}
use Rattle.std.specs.List.{list_all}
use Rattle.ppp_fsm.specs.declared.event.FsmEvent.{FsmEvent}
use Rattle.ppp_fsm.specs.declared.event.FsmEvent.TheVariants.{Up, Down, Open, Close, Timeout, RcrGood, RcrBad, Rca, Rcn, Rtr, Rta, Ruc, RxjGood, RxjBad, Rxr}
use Rattle.ppp_fsm.specs.Fsm.{Automaton, Entry, never, go, row_of, timeout_at_0, timeout_above, entry_of, after, after_entry}
use Rattle.ppp_fsm.specs.TableTest.{events, entries_pass, row_passes, table_passes}

both : (a b : Bool) → (a && b) ≡ true → (a ≡ true) × (b ≡ true)
both true b e = (refl, e)
both false b e = absurd (cc)

abbrev IsAmong : FsmEvent → List FsmEvent → Type 0
IsAmong event [] = ⊥
IsAmong event (first ∷ others) = (event ≡ first) ⊎ IsAmong event others

each_is_among : (event : FsmEvent) → IsAmong event events
each_is_among Up = inl refl
each_is_among Down = inr (inl refl)
each_is_among Open = inr (inr (inl refl))
each_is_among Close = inr (inr (inr (inl refl)))
each_is_among Timeout = inr (inr (inr (inr (inl refl))))
each_is_among RcrGood = inr (inr (inr (inr (inr (inl refl)))))
each_is_among RcrBad = inr (inr (inr (inr (inr (inr (inl refl))))))
each_is_among Rca = inr (inr (inr (inr (inr (inr (inr (inl refl)))))))
each_is_among Rcn = inr (inr (inr (inr (inr (inr (inr (inr (inl refl))))))))
each_is_among Rtr = inr (inr (inr (inr (inr (inr (inr (inr (inr (inl refl)))))))))
each_is_among Rta = inr (inr (inr (inr (inr (inr (inr (inr (inr (inr (inl refl))))))))))
each_is_among Ruc = inr (inr (inr (inr (inr (inr (inr (inr (inr (inr (inr (inl refl)))))))))))
each_is_among RxjGood = inr (inr (inr (inr (inr (inr (inr (inr (inr (inr (inr (inr (inl refl))))))))))))
each_is_among RxjBad = inr (inr (inr (inr (inr (inr (inr (inr (inr (inr (inr (inr (inr (inl refl)))))))))))))
each_is_among Rxr = inr (inr (inr (inr (inr (inr (inr (inr (inr (inr (inr (inr (inr (inr (inl refl))))))))))))))

row_of_all : (passes : FsmEvent → Bool) (all : List FsmEvent) (event : FsmEvent) → list_all passes all ≡ true → IsAmong event all → passes event ≡ true
row_of_all passes [] event h among = absurd among
row_of_all passes (first ∷ others) event h (inl same) = subst (λ e. passes e ≡ true) (sym same) (both (passes first) (list_all passes others) h).0
row_of_all passes (first ∷ others) event h (inr among) = row_of_all passes others event (both (passes first) (list_all passes others) h).1 among

-- an entry of a row passes, and so does what lies past its end
entry_passes : (test : ℕ → Entry → Bool) (first state : ℕ) (entries : List Entry) → first + length entries ≡ 10 → ((state : ℕ) → 9 < state → test state never ≡ true)
    → entries_pass test first entries ≡ true → test (first + state) (slice_index_or entries state never) ≡ true
entry_passes test first state [] ten past h = past (first + state) (omega arith)
entry_passes test first zero (entry ∷ entries) ten past h = rw add-zero (both (test first entry) (entries_pass test (first + 1) entries) h).0
entry_passes test first (suc state) (entry ∷ entries) ten past h =
    let next : first + suc state ≡ first + 1 + state = omega arith in
    rw next (entry_passes test (first + 1) state entries (omega arith) past (both (test first entry) (entries_pass test (first + 1) entries) h).1)

ten_each : (event : FsmEvent) (counter : ℕ) → length (row_of event counter) ≡ 10
ten_each Up counter = refl
ten_each Down counter = refl
ten_each Open counter = refl
ten_each Close counter = refl
ten_each Timeout counter = ten_timeouts (nat_eq counter 0)
  where
    ten_timeouts : (b : Bool) → length (cond b timeout_at_0 timeout_above) ≡ 10
    ten_timeouts true = refl
    ten_timeouts false = refl
ten_each RcrGood counter = refl
ten_each RcrBad counter = refl
ten_each Rca counter = refl
ten_each Rcn counter = refl
ten_each Rtr counter = refl
ten_each Rta counter = refl
ten_each Ruc counter = refl
ten_each RxjGood counter = refl
ten_each RxjBad counter = refl
ten_each Rxr counter = refl

timeouts_pass : (test : ℕ → Entry → Bool) (b : Bool) → entries_pass test 0 timeout_at_0 ≡ true → entries_pass test 0 timeout_above ≡ true
    → entries_pass test 0 (cond b timeout_at_0 timeout_above) ≡ true
timeouts_pass test true at_0 above = at_0
timeouts_pass test false at_0 above = above

row_at : (test : FsmEvent → ℕ → Entry → Bool) (event : FsmEvent) (counter : ℕ) → entries_pass (test event) 0 (row_of event 0) ≡ true → entries_pass (test event) 0 (row_of event 1) ≡ true
    → entries_pass (test event) 0 (row_of event counter) ≡ true
row_at test Up counter h k = h
row_at test Down counter h k = h
row_at test Open counter h k = h
row_at test Close counter h k = h
row_at test Timeout counter h k = timeouts_pass (test Timeout) (nat_eq counter 0) h k
row_at test RcrGood counter h k = h
row_at test RcrBad counter h k = h
row_at test Rca counter h k = h
row_at test Rcn counter h k = h
row_at test Rtr counter h k = h
row_at test Rta counter h k = h
row_at test Ruc counter h k = h
row_at test RxjGood counter h k = h
row_at test RxjBad counter h k = h
row_at test Rxr counter h k = h

pub each_entry : (test : FsmEvent → ℕ → Entry → Bool) → table_passes test ≡ true → ((event : FsmEvent) (state : ℕ) → 9 < state → test event state never ≡ true)
    → (a : Automaton) (event : FsmEvent) → test event a.state (entry_of a event) ≡ true
each_entry test h past a event =
    let row = row_of_all (row_passes test) events event h (each_is_among event) in
    let parts = both (entries_pass (test event) 0 (row_of event 0)) (entries_pass (test event) 0 (row_of event 1)) row in
    rw zero-add at (entry_passes (test event) 0 a.state (row_of event a.counter) (omega (arith, ten_each event a.counter)) (past event) (row_at test event a.counter parts.0 parts.1))

-- the state that an entry leads to
abbrev pub next_of : ℕ → Entry → ℕ
next_of state never = state
next_of state (go acts next) = next

pub next_is : (a : Automaton) (event : FsmEvent) → (after a event).state ≡ next_of a.state (entry_of a event)
unfolding after
next_is a event = by_entry (entry_of a event)
  where
    by_entry : (entry : Entry) → (after_entry a entry).state ≡ next_of a.state entry
    by_entry never = refl
    by_entry (go acts next) = refl
