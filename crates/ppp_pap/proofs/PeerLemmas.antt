-- The outcome of one who proves himself by PAP, by which calls are answers.
use Rattle.std.proofs.Common.{◌≡◌, ℕ, ◌+◌, ◌≤◌, Bool, true, false, ◌⊎◌, inl, inr, List, [], ◌∷◌, length, Option, refl, sym, ap, ◌∙◌, subst, arith}
use Rattle.std.specs.Prelude.{◌==◌, ◌&&◌, if◌then◌else◌}
use Rattle.std.proofs.lemmas.Bool.{and_parts, and_from}
use Rattle.std.proofs.lemmas.Bool.Decides.{Decides-eqb}
use Rattle.ppp_packet.specs.declared.packet.Packet.{Packet}
use Rattle.ppp_packet.specs.declared.auth_out.AuthOutcome.{AuthOutcome}
use Rattle.ppp_packet.specs.declared.auth_out.AuthOutcome.TheVariants.{Waiting, Passed, Refused, Unanswered}
use Rattle.ppp_proving.specs.Calls.{Against, AuthCall, begins, hears, ticks, Answered, sent_at, turned, where_sent}
use Rattle.ppp_proving.specs.Own.{SendsOwn}
use Rattle.ppp_proving.specs.Resending.{again_at, last_of, unanswered}
use Rattle.ppp_proving.specs.Which.{NoneOf, SomeOf, Tires}
use Rattle.ppp_proving.proofs.Sending.{OwnSent, sends_own, time_says}
use Rattle.ppp_proving.proofs.WhichLemmas.{none_some, some_later, some_now}
use Rattle.ppp_pap.specs.Packets.{is_answer, is_message, request_packet}
use Rattle.ppp_pap.specs.Peer.{AreLawful, answer_says, outcome_in, said_by}
use Rattle.ppp_pap.specs.Answers.{Accepts, GaveUp, Hears, Rejects}
use Rattle.ppp_pap.proofs.PacketLemmas.{message_is_read, read_is_message}

-- what an outcome means
abbrev pub Means : List ℕ → List Answered → AuthOutcome → Type 0
Means name past Waiting = NoneOf Accepts past × NoneOf Rejects past × NoneOf GaveUp past
Means name past (Passed who line) = (who ≡ name) × (line ≡ 0) × SomeOf Accepts past × NoneOf Rejects past × NoneOf GaveUp past
Means name past (Refused who) = (who ≡ name) × SomeOf Rejects past × NoneOf GaveUp past
Means name past (Unanswered times) = (times ≡ 10) × SomeOf GaveUp past

-- what a call says, and what it therefore is
record SaysNothing (h : Answered) (past : List Answered) (said : AuthOutcome) : Type 0 where
  is : said ≡ Waiting
  not_good : Accepts h past → ⊥
  not_bad : Rejects h past → ⊥
  not_over : Tires h past → ⊥

record SaysPassed (name : List ℕ) (h : Answered) (past : List Answered) (said : AuthOutcome) : Type 0 where
  is : said ≡ Passed name 0
  good : Accepts h past
  not_bad : Rejects h past → ⊥
  not_over : Tires h past → ⊥

record SaysRefused (name : List ℕ) (h : Answered) (past : List Answered) (said : AuthOutcome) : Type 0 where
  is : said ≡ Refused name
  bad : Rejects h past
  not_over : Tires h past → ⊥

record SaysOver (h : Answered) (past : List Answered) (said : AuthOutcome) : Type 0 where
  is : said ≡ Unanswered 10
  over : Tires h past
  not_bad : Rejects h past → ⊥

abbrev Says : List ℕ → Answered → List Answered → AuthOutcome → Type 0
Says name h past said = SaysNothing h past said ⊎ (SaysPassed name h past said ⊎ (SaysRefused name h past said ⊎ SaysOver h past said))

after : (name : List ℕ) (h : Answered) (past : List Answered) (before said : AuthOutcome) → Means name past before → Says name h past said → Means name (h ∷ past) (turned before said)
after name h past Waiting said m (inl s) = subst (λ (o : AuthOutcome). Means name (h ∷ past) o) (sym s.is)
    ((s.not_good, m.0), (s.not_bad, m.1), (λ g. s.not_over g.tires, m.2))
after name h past Waiting said m (inr (inl s)) = subst (λ (o : AuthOutcome). Means name (h ∷ past) o) (sym s.is)
    (refl, refl, some_now h past s.good, (s.not_bad, m.1), (λ g. s.not_over g.tires, m.2))
after name h past Waiting said m (inr (inr (inl s))) = subst (λ (o : AuthOutcome). Means name (h ∷ past) o) (sym s.is)
    (refl, some_now h past s.bad, (λ g. s.not_over g.tires, m.2))
after name h past Waiting said m (inr (inr (inr s))) = subst (λ (o : AuthOutcome). Means name (h ∷ past) o) (sym s.is)
    (refl, some_now h past (record { tires = s.over; none_good = m.0; none_bad = m.1 }))
after name h past (Passed who line) said m (inl s) = subst (λ (o : AuthOutcome). Means name (h ∷ past) (turned (Passed who line) o)) (sym s.is)
    (m.0, m.1, some_later h m.2, (s.not_bad, m.3), (λ g. none_some Accepts g.none_good m.2, m.4))
after name h past (Passed who line) said m (inr (inl s)) = subst (λ (o : AuthOutcome). Means name (h ∷ past) (turned (Passed who line) o)) (sym s.is)
    (m.0, m.1, some_later h m.2, (s.not_bad, m.3), (λ g. none_some Accepts g.none_good m.2, m.4))
after name h past (Passed who line) said m (inr (inr (inl s))) = subst (λ (o : AuthOutcome). Means name (h ∷ past) (turned (Passed who line) o)) (sym s.is)
    (refl, some_now h past s.bad, (λ g. none_some Accepts g.none_good m.2, m.4))
after name h past (Passed who line) said m (inr (inr (inr s))) = subst (λ (o : AuthOutcome). Means name (h ∷ past) (turned (Passed who line) o)) (sym s.is)
    (m.0, m.1, some_later h m.2, (s.not_bad, m.3), (λ g. none_some Accepts g.none_good m.2, m.4))
after name h past (Refused who) said m s = (m.0, some_later h m.1, (λ g. none_some Rejects g.none_bad m.1, m.2))
after name h past (Unanswered times) said m s = (m.0, some_later h m.1)

-- Two outcomes that are both meant are one.
pub same : (name : List ℕ) (past : List Answered) (one other : AuthOutcome) → Means name past one → Means name past other → one ≡ other
same name past Waiting Waiting m w = refl
same name past Waiting (Passed who line) m w = absurd (none_some Accepts m.0 w.2)
same name past Waiting (Refused who) m w = absurd (none_some Rejects m.1 w.1)
same name past Waiting (Unanswered times) m w = absurd (none_some GaveUp m.2 w.1)
same name past (Passed who line) Waiting m w = absurd (none_some Accepts w.0 m.2)
same name past (Passed who line) (Passed other number) m w = ap (λ n. Passed n line) (m.0 ∙ sym w.0) ∙ ap (λ l. Passed other l) (m.1 ∙ sym w.1)
same name past (Passed who line) (Refused other) m w = absurd (none_some Rejects m.3 w.1)
same name past (Passed who line) (Unanswered times) m w = absurd (none_some GaveUp m.4 w.1)
same name past (Refused who) Waiting m w = absurd (none_some Rejects w.1 m.1)
same name past (Refused who) (Passed other line) m w = absurd (none_some Rejects w.3 m.1)
same name past (Refused who) (Refused other) m w = ap (λ n. Refused n) (m.0 ∙ sym w.0)
same name past (Refused who) (Unanswered times) m w = absurd (none_some GaveUp m.2 w.1)
same name past (Unanswered times) Waiting m w = absurd (none_some GaveUp w.2 m.1)
same name past (Unanswered times) (Passed who line) m w = absurd (none_some GaveUp w.4 m.1)
same name past (Unanswered times) (Refused who) m w = absurd (none_some GaveUp w.2 m.1)
same name past (Unanswered times) (Unanswered others) m w = ap (λ n. Unanswered n) (m.0 ∙ sym w.0)

-- an answer, by its code
answer_parts : (code : ℕ) (p : Packet) → is_answer code p ≡ true → ((p.code == code) ≡ true) × ((p.id == 1) ≡ true) × (is_message p.body ≡ true)
answer_parts code p e =
    let outer = and_parts (p.code == code && p.id == 1) (is_message p.body) e in
    let inner = and_parts (p.code == code) (p.id == 1) outer.0 in
    (inner.0, inner.1, outer.1)

answer_code : (code : ℕ) (p : Packet) → is_answer code p ≡ true → p.code ≡ code
answer_code code p e = (Decides-eqb p.code code).0 (answer_parts code p e).0

answer_heard : (code : ℕ) (p : Packet) (a : Against) → is_answer code p ≡ true → Hears code (hears p a)
answer_heard code p a e =
    let parts = answer_parts code p e in
    let message = read_is_message p.body parts.2 in
    let packet_is : p ≡ record { code = code; id = 1; body = length message.0 ∷ message.0 } =
    ap (λ n. record { code = n; id = p.id; body = p.body }) (answer_code code p e)
    ∙ ap (λ n. record { code = code; id = n; body = p.body }) ((Decides-eqb p.id 1).0 parts.1)
    ∙ ap (λ octets. record { code = code; id = 1; body = octets }) message.1
    in
    record { message = message.0; against = a; heard = ap (λ q. hears q a) packet_is }

heard_answer : (code : ℕ) (p : Packet) (a : Against) → Hears code (hears p a) → is_answer code p ≡ true
heard_answer code p a h =
    let heard = h.heard in
    let packets : p ≡ record { code = code; id = 1; body = length h.message ∷ h.message } = cc heard in
    let read : is_message (length h.message ∷ h.message) ≡ true = message_is_read h.message in
    let coded : (code == code) ≡ true = (Decides-eqb code code).1 refl in
    ap (is_answer code) packets
    ∙ and_from (code == code && 1 == 1) (is_message (length h.message ∷ h.message)) (and_from (code == code) (1 == 1) coded refl) read

no_other_code : (p : Packet) (a : Against) (code other : ℕ) → p.code ≡ code → (code ≡ other → ⊥) → Hears other (hears p a) → ⊥
no_other_code p a code other e differ h = differ (sym e ∙ answer_code other p (heard_answer other p a h))

heard_says : (name : List ℕ) (now : ℕ) (p : Packet) (a : Against) (packet : Option Packet) (outcome : AuthOutcome) (past : List Answered)
    → Says name (record { now = now; call = hears p a; packet = packet; outcome = outcome }) past (where_sent (sent_at past) (answer_says name p))
heard_says name now p a packet outcome past = by_sent (sent_at past) refl
  where
    not_over : Tires (record { now = now; call = hears p a; packet = packet; outcome = outcome }) past → ⊥
    not_over t = let e = t.ticks_now in absurd (cc e)

    by_code : (last : ℕ) (earlier : List ℕ) → sent_at past ≡ last ∷ earlier → (good bad : Bool) → is_answer 2 p ≡ good → is_answer 3 p ≡ bad
        → Says name (record { now = now; call = hears p a; packet = packet; outcome = outcome }) past (if good then Passed name 0 else if bad then Refused name else Waiting)
    by_code last earlier e true bad g b = inr (inl (record {
      is = refl;
      good = record { sent = let l = ap length e in omega (arith, l); hears_it = answer_heard 2 p a g };
      not_bad = λ r. no_other_code p a 2 3 (answer_code 2 p g) (λ wrong. absurd (omega arith)) r.hears_it;
      not_over = not_over;
    }))
    by_code last earlier e false true g b = inr (inr (inl (record {
      is = refl;
      bad = record { sent = let l = ap length e in omega (arith, l); hears_it = answer_heard 3 p a b };
      not_over = not_over;
    })))
    by_code last earlier e false false g b = inl (record {
      is = refl;
      not_good = λ r. let t = heard_answer 2 p a r.hears_it in absurd (cc (t, g));
      not_bad = λ r. let t = heard_answer 3 p a r.hears_it in absurd (cc (t, b));
      not_over = not_over;
    })

    by_sent : (sent : List ℕ) → sent_at past ≡ sent
        → Says name (record { now = now; call = hears p a; packet = packet; outcome = outcome }) past (where_sent sent (answer_says name p))
    by_sent [] e = inl (record {
      is = refl;
      not_good = λ r. let l = ap length e in let some = r.sent in absurd (omega (arith, l, some));
      not_bad = λ r. let l = ap length e in let some = r.sent in absurd (omega (arith, l, some));
      not_over = not_over;
    })
    by_sent (last ∷ earlier) e = by_code last earlier e (is_answer 2 p) (is_answer 3 p) refl refl

ticked_says : (name : List ℕ) (now : ℕ) (packet : Option Packet) (outcome : AuthOutcome) (past : List Answered)
    → Says name (record { now = now; call = ticks; packet = packet; outcome = outcome }) past (unanswered (again_at now (sent_at past)))
ticked_says name now packet outcome past = go (time_says now (sent_at past))
  where
    go : ((unanswered (again_at now (sent_at past)) ≡ Waiting) × (10 ≤ length (sent_at past) → last_of (sent_at past) + 3000 ≤ now → ⊥))
        ⊎ ((unanswered (again_at now (sent_at past)) ≡ Unanswered 10) × (10 ≤ length (sent_at past)) × (last_of (sent_at past) + 3000 ≤ now))
        → Says name (record { now = now; call = ticks; packet = packet; outcome = outcome }) past (unanswered (again_at now (sent_at past)))
    go (inl n) = inl (record {
      is = n.0;
      not_good = λ r. let e = r.hears_it.heard in absurd (cc e);
      not_bad = λ r. let e = r.hears_it.heard in absurd (cc e);
      not_over = λ t. n.1 t.ten t.over;
    })
    go (inr u) = inr (inr (inr (record {
      is = u.0;
      over = record { ticks_now = refl; ten = u.1; over = u.2 };
      not_bad = λ r. let e = r.hears_it.heard in absurd (cc e);
    })))

says : (name : List ℕ) (now : ℕ) (call : AuthCall) (packet : Option Packet) (outcome : AuthOutcome) (past : List Answered)
    → Says name (record { now = now; call = call; packet = packet; outcome = outcome }) past (said_by name (sent_at past) now call)
says name now begins packet outcome past = inl (record {
  is = refl;
  not_good = λ r. let e = r.hears_it.heard in absurd (cc e);
  not_bad = λ r. let e = r.hears_it.heard in absurd (cc e);
  not_over = λ t. let e = t.ticks_now in absurd (cc e);
})
says name now (hears p a) packet outcome past = heard_says name now p a packet outcome past
says name now ticks packet outcome past = ticked_says name now packet outcome past

-- An outcome means what it says.
pub means : (name : List ℕ) (past : List Answered) → Means name past (outcome_in name past)
means name [] = (tt, tt, tt)
means name (h ∷ past) = after name h past (outcome_in name past) (said_by name (sent_at past) h.now h.call) (means name past) (says name h.now h.call h.packet h.outcome past)

own_is : (name password : List ℕ) (past : List Answered) → AreLawful name password past → OwnSent (request_packet name password) (outcome_in name) past
own_is name password [] l = tt
own_is name password (h ∷ past) l = (λ o. l.0.packet, own_is name password past l.1)

-- what is sent of our own accord
pub few_requests : (name password : List ℕ) (past : List Answered) → AreLawful name password past → SendsOwn (request_packet name password) (outcome_in name) past
few_requests name password past l = sends_own (request_packet name password) (outcome_in name) past (own_is name password past l)
