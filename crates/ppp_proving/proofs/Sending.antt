-- What is sent of our own accord: ten times at most, 3 seconds apart.
use Rattle.std.proofs.Common.{◌≡◌, ℕ, ◌+◌, ◌≤◌, Bool, true, false, ◌⊎◌, inl, inr, List, [], ◌∷◌, length, refl, sym, ap, subst, ◌∙◌, ◌<◌, arith}
use Rattle.std.specs.Prelude.{Option, None, Some, ⊤, is_some, nat_lt, nat_le, if◌then◌else◌}
use Rattle.ppp_proving.specs.declared.resending.Again.TheVariants.{Nothing, Send, GiveUp}
use Rattle.std.proofs.lemmas.Bool.Decides.{nat_tests}
use Rattle.ppp_packet.specs.declared.packet.Packet.{Packet}
use Rattle.ppp_proving.specs.Calls.{AuthCall, begins, hears, ticks, Answered, is_due_again, is_own, is_waiting, sent_at}
use Rattle.ppp_packet.specs.declared.auth_out.AuthOutcome.{AuthOutcome}
use Rattle.ppp_packet.specs.declared.auth_out.AuthOutcome.TheVariants.{Waiting, Unanswered}
use Rattle.ppp_proving.specs.declared.resending.Again.{Again}
use Rattle.ppp_proving.specs.Resending.{again, again_at, first_time, last_of, own_sent, unanswered}
use Rattle.ppp_proving.specs.Own.{AreApart, AreSent, IsAlways, IsDue, SendsOwn}

record Few (sent : List ℕ) : Type 0 where
  few : length sent ≤ 10
  apart : AreApart sent

none_few : Few []
none_few = record { few = omega arith; apart = tt }

begin_few : (now : ℕ) (sent : List ℕ) (own : Packet) → Few sent → Few (if is_some (first_time sent own) then now ∷ sent else sent)
begin_few now [] own f = record { few = omega arith; apart = tt }
begin_few now (last ∷ earlier) own f = f

tick_few : (now : ℕ) (sent : List ℕ) (own : Packet) (waiting : Bool) → Few sent
    → Few (if is_some (if waiting then again (again_at now sent) own else None) then now ∷ sent else sent)
tick_few now sent own false f = f
tick_few now [] own true f = f
tick_few now (last ∷ earlier) own true f = go (nat_le (last + 3000) now) refl (nat_lt (length (last ∷ earlier)) 10) refl
  where
    go : (due : Bool) → nat_le (last + 3000) now ≡ due → (more : Bool) → nat_lt (length (last ∷ earlier)) 10 ≡ more →
        Few (if is_some (again (if due then (if more then Send else GiveUp) else Nothing) own) then now ∷ (last ∷ earlier) else (last ∷ earlier))
    go false d more m = f
    go true d false m = f
    go true d true m = record {
      few = grind (arith, nat_tests);
      apart = (grind (arith, nat_tests), f.apart);
    }

-- A first sending sends this packet or none, and so does another one.
first_is : (sent : List ℕ) (own : Packet) → (first_time sent own ≡ None) ⊎ (first_time sent own ≡ Some own)
first_is [] own = inr refl
first_is (last ∷ earlier) own = inl refl

again_is : (waiting : Bool) (due : Again) (own : Packet)
    → ((if waiting then again due own else None) ≡ None) ⊎ ((if waiting then again due own else None) ≡ Some own)
again_is false due own = inl refl
again_is true Nothing own = inl refl
again_is true Send own = inr refl
again_is true GiveUp own = inl refl

-- All that was sent in these calls where no packet was heard is what was due.
abbrev pub OwnSent : Packet → (List Answered → AuthOutcome) → List Answered → Type 0
OwnSent own outcome [] = ⊤
OwnSent own outcome (h ∷ past) = (is_own h.call ≡ true → h.packet ≡ own_sent own (outcome past) past h.now h.call) × OwnSent own outcome past

few_more : (own : Packet) (before : AuthOutcome) (now : ℕ) (call : AuthCall) (packet : Option Packet) (outcome : AuthOutcome) (past : List Answered)
    → (is_own call ≡ true → packet ≡ own_sent own before past now call) → Few (sent_at past)
    → Few (sent_at (record { now = now; call = call; packet = packet; outcome = outcome } ∷ past))
few_more own before now begins packet outcome past e f =
    subst (λ (p : Option Packet). Few (if is_some p then now ∷ sent_at past else sent_at past)) (sym (e refl)) (begin_few now (sent_at past) own f)
few_more own before now (hears p a) packet outcome past e f = f
few_more own before now ticks packet outcome past e f =
    subst (λ (p : Option Packet). Few (if is_some p then now ∷ sent_at past else sent_at past)) (sym (e refl))
    (tick_few now (sent_at past) own (is_waiting before) f)

few : (own : Packet) (outcome : List Answered → AuthOutcome) (past : List Answered) → OwnSent own outcome past → Few (sent_at past)
few own outcome [] l = none_few
few own outcome (h ∷ past) l = few_more own (outcome past) h.now h.call h.packet h.outcome past l.0 (few own outcome past l.1)

either_is : (own : Packet) (packet sent : Option Packet) → packet ≡ sent → (sent ≡ None) ⊎ (sent ≡ Some own) → (packet ≡ None) ⊎ (packet ≡ Some own)
either_is own packet sent e (inl n) = inl (e ∙ n)
either_is own packet sent e (inr s) = inr (e ∙ s)

own_is : (own : Packet) (before : AuthOutcome) (now : ℕ) (call : AuthCall) (packet : Option Packet) (past : List Answered)
    → packet ≡ own_sent own before past now call → (packet ≡ None) ⊎ (packet ≡ Some own)
own_is own before now begins packet past e = either_is own packet _ e (first_is (sent_at past) own)
own_is own before now (hears p a) packet past e = inl e
own_is own before now ticks packet past e = either_is own packet _ e (again_is (is_waiting before) (again_at now (sent_at past)) own)

always : (own : Packet) (outcome : List Answered → AuthOutcome) (past : List Answered) → OwnSent own outcome past → IsAlways own past
always own outcome [] l = tt
always own outcome (h ∷ past) l = (λ o. own_is own (outcome past) h.now h.call h.packet past (l.0 o), always own outcome past l.1)

again_due : (own : Packet) (now : ℕ) (sent : List ℕ) → 1 ≤ length sent → length sent < 10 → last_of sent + 3000 ≤ now
    → again (again_at now sent) own ≡ Some own
again_due own now [] some few over = absurd (omega arith)
again_due own now (last ∷ earlier) some few over =
    let due : nat_le (last + 3000) now ≡ true = grind (arith, nat_tests) in
    let more : nat_lt (length (last ∷ earlier)) 10 ≡ true = grind (arith, nat_tests) in
    rw (due, more) refl

due_sent : (own : Packet) (before : AuthOutcome) (now : ℕ) (call : AuthCall) (past : List Answered) → IsDue before now call (sent_at past)
    → own_sent own before past now call ≡ Some own
due_sent own before now call past (inl b) =
    ap (λ c. own_sent own before past now c) b.0 ∙ ap (λ sent. first_time sent own) b.1
due_sent own before now call past (inr t) =
    ap (λ c. own_sent own before past now c) t.0
    ∙ ap (λ o. if is_waiting o then again (again_at now (sent_at past)) own else None) t.1
    ∙ again_due own now (sent_at past) t.2 t.3 t.4

due_is_own : (before : AuthOutcome) (now : ℕ) (call : AuthCall) (sent : List ℕ) → IsDue before now call sent → is_own call ≡ true
due_is_own before now call sent (inl b) = ap is_own b.0
due_is_own before now call sent (inr t) = ap is_own t.0

are_sent : (own : Packet) (outcome : List Answered → AuthOutcome) (past : List Answered) → OwnSent own outcome past → AreSent own outcome past
are_sent own outcome [] l = tt
are_sent own outcome (h ∷ past) l = (
  λ d. l.0 (due_is_own (outcome past) h.now h.call (sent_at past) d) ∙ due_sent own (outcome past) h.now h.call past d,
  are_sent own outcome past l.1,
)

-- It is then one packet, whenever it is due, ten times at most, each time 3 seconds or more after the one before.
pub sends_own : (own : Packet) (outcome : List Answered → AuthOutcome) (past : List Answered) → OwnSent own outcome past → SendsOwn own outcome past
sends_own own outcome past l =
    let f = few own outcome past l in
    record { same = always own outcome past l; due = are_sent own outcome past l; few = f.few; apart = f.apart }

due_over : (now : ℕ) (sent : List ℕ) → is_due_again now sent ≡ true → last_of sent + 3000 ≤ now
due_over now [] e = absurd cc
due_over now (last ∷ earlier) e = grind (arith, nat_tests)

over_due : (now : ℕ) (sent : List ℕ) → 10 ≤ length sent → last_of sent + 3000 ≤ now → is_due_again now sent ≡ true
over_due now [] ten over = absurd (omega arith)
over_due now (last ∷ earlier) ten over = grind (arith, nat_tests)

-- what time says: nothing, or that nobody answered ten sendings
pub time_says : (now : ℕ) (sent : List ℕ)
    → ((unanswered (again_at now sent) ≡ Waiting) × (10 ≤ length sent → last_of sent + 3000 ≤ now → ⊥))
    ⊎ ((unanswered (again_at now sent) ≡ Unanswered 10) × (10 ≤ length sent) × (last_of sent + 3000 ≤ now))
time_says now sent = go (is_due_again now sent) refl (nat_lt (length sent) 10) refl
  where
    go : (due : Bool) → is_due_again now sent ≡ due → (more : Bool) → nat_lt (length sent) 10 ≡ more
        → ((unanswered (if due then (if more then Send else GiveUp) else Nothing) ≡ Waiting) × (10 ≤ length sent → last_of sent + 3000 ≤ now → ⊥))
        ⊎ ((unanswered (if due then (if more then Send else GiveUp) else Nothing) ≡ Unanswered 10) × (10 ≤ length sent) × (last_of sent + 3000 ≤ now))
    go false d more m = inl (refl, λ ten over. let is = over_due now sent ten over in absurd (cc (d, is)))
    go true d true m = inl (refl, λ ten over. absurd (grind (arith, nat_tests)))
    go true d false m = inr (refl, grind (arith, nat_tests), due_over now sent d)
