-- A judge's outcome is what the first response says, or that none came.
use Rattle.std.proofs.Common.{◌≡◌, ℕ, ◌+◌, ◌≤◌, Bool, true, false, ◌⊎◌, inl, inr, List, [], ◌∷◌, ◌++◌, length, Option, None, Some, refl, sym, ap, ◌∙◌, subst, arith}
use Rattle.std.specs.Prelude.{◌==◌, ◌&&◌, if◌then◌else◌}
use Rattle.std.proofs.lemmas.Bool.{and_parts}
use Rattle.std.proofs.lemmas.Bool.Decides.{Decides-eqb}
use Rattle.ppp_packet.specs.declared.packet.Packet.{Packet}
use Rattle.ppp_packet.specs.declared.auth_out.AuthOutcome.{AuthOutcome}
use Rattle.ppp_packet.specs.declared.auth_out.AuthOutcome.TheVariants.{Waiting, Passed, Refused, Unanswered}
use Rattle.ppp_proving.specs.Calls.{Against, AuthCall, begins, hears, ticks, Answered, is_own, is_waiting, sent_at, where_sent}
use Rattle.ppp_proving.specs.Own.{SendsOwn}
use Rattle.ppp_proving.specs.Resending.{again_at, last_of, own_sent, unanswered}
use Rattle.ppp_proving.specs.Which.{NoneOf, IsFirst, Tires}
use Rattle.ppp_proving.proofs.Judging.{Judges, waiting_none, none_waiting, stays, first_says, said_first}
use Rattle.ppp_proving.proofs.Sending.{OwnSent, sends_own, time_says}
use Rattle.ppp_chap.specs.Packets.{challenge_packet, response_packet, valued_of}
use Rattle.ppp_chap.specs.Passes.{Passes, passing_line}
use Rattle.ppp_chap.specs.Judge.{AreLawful, judged, judged_by, outcome_in, response_in, said_by, sends}
use Rattle.ppp_chap.specs.Responses.{FirstResponds, FirstTires, IsKnown, Responds}
use Rattle.ppp_chap.proofs.PacketLemmas.{body_is_valued, valued_is_body}
use Rattle.ppp_chap.proofs.PassesLemmas.{told_passes, passes_told, none_passes, passes_none}

-- a packet that is a response to our challenge
pub response_read : (p : Packet) (a : Against) (name value : List ℕ) → Responds (hears p a) a name value → response_in p ≡ Some (value, name)
response_read p a name value r =
    let heard = r.heard in
    let packets : p ≡ response_packet 1 value name = cc heard in
    ap response_in packets ∙ body_is_valued value name r.fits

-- a packet that is read as a response is one
pub read_responds : (p : Packet) (a : Against) (response : List ℕ × List ℕ) → response_in p ≡ Some response → Responds (hears p a) a response.1 response.0
read_responds p a response e = go (p.code == 2 && p.id == 1) refl e
  where
    go : (test : Bool) → (p.code == 2 && p.id == 1) ≡ test → (if test then valued_of p.body else None) ≡ Some response → Responds (hears p a) a response.1 response.0
    go false t e = absurd cc
    go true t e =
        let tests = and_parts (p.code == 2) (p.id == 1) t in
        let body = valued_is_body p.body response.0 response.1 e in
        let packets : p ≡ response_packet 1 response.0 response.1 =
        ap (λ n. record { code = n; id = p.id; body = p.body }) ((Decides-eqb p.code 2).0 tests.0)
        ∙ ap (λ n. record { code = 2; id = n; body = p.body }) ((Decides-eqb p.id 1).0 tests.1)
        ∙ ap (λ octets. record { code = 2; id = 1; body = octets }) body.0
        in
        record { heard = ap (λ q. hears q a) packets; fits = body.1 }

not_tired : (now : ℕ) (p : Packet) (a : Against) (packet : Option Packet) (outcome : AuthOutcome) (past : List Answered)
    → Tires (record { now = now; call = hears p a; packet = packet; outcome = outcome }) past → ⊥
not_tired now p a packet outcome past t = let e = t.ticks_now in absurd (cc e)

-- what is known from a call, and what it says
record Learnt (challenge : List ℕ) (h : Answered) (past : List Answered) (said : AuthOutcome) : Type 0 where
  known : IsKnown h past
  speaks : said ≡ Waiting → ⊥

record Unlearnt (h : Answered) (past : List Answered) (said : AuthOutcome) : Type 0 where
  unknown : IsKnown h past → ⊥
  silent : said ≡ Waiting

judged_known : (name : List ℕ) (found : Option ℕ) → judged_by name found ≡ Waiting → ⊥
judged_known name None e = absurd cc
judged_known name (Some number) e = absurd cc

-- what a response that counts says
sent_says : (sent : List ℕ) (outcome : AuthOutcome) → 1 ≤ length sent → where_sent sent outcome ≡ outcome
sent_says [] outcome some = absurd (omega arith)
sent_says (last ∷ earlier) outcome some = refl

responds_read : (call : AuthCall) (challenge sent : List ℕ) (now : ℕ) (a : Against) (name value : List ℕ) → Responds call a name value
    → said_by challenge sent now call ≡ where_sent sent (judged_by name (passing_line a challenge name value))
responds_read call challenge sent now a name value r =
    ap (said_by challenge sent now) r.heard ∙ ap (λ found. where_sent sent (judged challenge a found)) (body_is_valued value name r.fits)

pub response_says : (challenge : List ℕ) (h : Answered) (past : List Answered) (a : Against) (name value : List ℕ) → 1 ≤ length (sent_at past) → Responds h.call a name value
    → said_by challenge (sent_at past) h.now h.call ≡ judged_by name (passing_line a challenge name value)
response_says challenge h past a name value sent r =
    responds_read h.call challenge (sent_at past) h.now a name value r ∙ sent_says (sent_at past) _ sent

heard_learnt : (challenge : List ℕ) (now : ℕ) (p : Packet) (a : Against) (packet : Option Packet) (outcome : AuthOutcome) (past : List Answered)
    → Learnt challenge (record { now = now; call = hears p a; packet = packet; outcome = outcome }) past (where_sent (sent_at past) (judged challenge a (response_in p)))
    ⊎ Unlearnt (record { now = now; call = hears p a; packet = packet; outcome = outcome }) past (where_sent (sent_at past) (judged challenge a (response_in p)))
heard_learnt challenge now p a packet outcome past = by_sent (sent_at past) refl
  where
    not_read : response_in p ≡ None → IsKnown (record { now = now; call = hears p a; packet = packet; outcome = outcome }) past → ⊥
    not_read e (inl k) =
        let heard = k.responds.heard in
        let packets : p ≡ response_packet 1 k.value k.name = cc heard in
        let read : response_in p ≡ Some (k.value, k.name) = ap response_in packets ∙ body_is_valued k.value k.name k.responds.fits in
        absurd (cc (e, read))
    not_read e (inr t) = not_tired now p a packet outcome past t

    by_found : (last : ℕ) (earlier : List ℕ) → sent_at past ≡ last ∷ earlier → (found : Option (List ℕ × List ℕ)) → response_in p ≡ found
        → Learnt challenge (record { now = now; call = hears p a; packet = packet; outcome = outcome }) past (judged challenge a found)
        ⊎ Unlearnt (record { now = now; call = hears p a; packet = packet; outcome = outcome }) past (judged challenge a found)
    by_found last earlier s None e = inr (record { unknown = not_read e; silent = refl })
    by_found last earlier s (Some response) e = inl (record {
      known = inl (record {
        sent = let l = ap length s in omega (arith, l);
        against = a;
        name = response.1;
        value = response.0;
        responds = read_responds p a response e;
      });
      speaks = judged_known response.1 _;
    })

    by_sent : (sent : List ℕ) → sent_at past ≡ sent
        → Learnt challenge (record { now = now; call = hears p a; packet = packet; outcome = outcome }) past (where_sent sent (judged challenge a (response_in p)))
        ⊎ Unlearnt (record { now = now; call = hears p a; packet = packet; outcome = outcome }) past (where_sent sent (judged challenge a (response_in p)))
    by_sent [] s = inr (record { unknown = unknown; silent = refl })
      where
        unknown : IsKnown (record { now = now; call = hears p a; packet = packet; outcome = outcome }) past → ⊥
        unknown (inl k) = let l = ap length s in let some = k.sent in absurd (omega (arith, l, some))
        unknown (inr t) = not_tired now p a packet outcome past t
    by_sent (last ∷ earlier) s = by_found last earlier s (response_in p) refl

ticked_learnt : (challenge : List ℕ) (now : ℕ) (packet : Option Packet) (outcome : AuthOutcome) (past : List Answered)
    → Learnt challenge (record { now = now; call = ticks; packet = packet; outcome = outcome }) past (unanswered (again_at now (sent_at past)))
    ⊎ Unlearnt (record { now = now; call = ticks; packet = packet; outcome = outcome }) past (unanswered (again_at now (sent_at past)))
ticked_learnt challenge now packet outcome past = go (time_says now (sent_at past))
  where
    go : ((unanswered (again_at now (sent_at past)) ≡ Waiting) × (10 ≤ length (sent_at past) → last_of (sent_at past) + 3000 ≤ now → ⊥))
        ⊎ ((unanswered (again_at now (sent_at past)) ≡ Unanswered 10) × (10 ≤ length (sent_at past)) × (last_of (sent_at past) + 3000 ≤ now))
        → Learnt challenge (record { now = now; call = ticks; packet = packet; outcome = outcome }) past (unanswered (again_at now (sent_at past)))
        ⊎ Unlearnt (record { now = now; call = ticks; packet = packet; outcome = outcome }) past (unanswered (again_at now (sent_at past)))
    go (inl n) = inr (record { unknown = unknown; silent = n.0 })
      where
        unknown : IsKnown (record { now = now; call = ticks; packet = packet; outcome = outcome }) past → ⊥
        unknown (inl k) = let e = k.responds.heard in absurd (cc e)
        unknown (inr t) = n.1 t.ten t.over
    go (inr u) = inl (record {
      known = inr (record { ticks_now = refl; ten = u.1; over = u.2 });
      speaks = λ e. let is = u.0 in absurd (cc (e, is));
    })

learnt : (challenge : List ℕ) (now : ℕ) (call : AuthCall) (packet : Option Packet) (outcome : AuthOutcome) (past : List Answered)
    → Learnt challenge (record { now = now; call = call; packet = packet; outcome = outcome }) past (said_by challenge (sent_at past) now call)
    ⊎ Unlearnt (record { now = now; call = call; packet = packet; outcome = outcome }) past (said_by challenge (sent_at past) now call)
learnt challenge now begins packet outcome past = inr (record { unknown = unknown; silent = refl })
  where
    unknown : IsKnown (record { now = now; call = begins; packet = packet; outcome = outcome }) past → ⊥
    unknown (inl k) = let e = k.responds.heard in absurd (cc e)
    unknown (inr t) = let e = t.ticks_now in absurd (cc e)
learnt challenge now (hears p a) packet outcome past = heard_learnt challenge now p a packet outcome past
learnt challenge now ticks packet outcome past = ticked_learnt challenge now packet outcome past

pub judges : (challenge : List ℕ) → Judges (outcome_in challenge) (λ past h. said_by challenge (sent_at past) h.now h.call) IsKnown
judges challenge = record {
  none = refl;
  more = λ h past. refl;
  quiet = λ h past unknown. quiet h past unknown (learnt challenge h.now h.call h.packet h.outcome past);
  loud = λ h past e known. loud h past e known (learnt challenge h.now h.call h.packet h.outcome past);
  decided = λ h past e. decided h past e (learnt challenge h.now h.call h.packet h.outcome past);
}
  where
    quiet : (h : Answered) (past : List Answered) → (IsKnown h past → ⊥)
        → Learnt challenge h past (said_by challenge (sent_at past) h.now h.call) ⊎ Unlearnt h past (said_by challenge (sent_at past) h.now h.call)
        → said_by challenge (sent_at past) h.now h.call ≡ Waiting
    quiet h past unknown (inl l) = absurd (unknown l.known)
    quiet h past unknown (inr u) = u.silent

    loud : (h : Answered) (past : List Answered) → said_by challenge (sent_at past) h.now h.call ≡ Waiting → IsKnown h past
        → Learnt challenge h past (said_by challenge (sent_at past) h.now h.call) ⊎ Unlearnt h past (said_by challenge (sent_at past) h.now h.call) → ⊥
    loud h past e known (inl l) = l.speaks e
    loud h past e known (inr u) = u.unknown known

    decided : (h : Answered) (past : List Answered) → is_waiting (said_by challenge (sent_at past) h.now h.call) ≡ false
        → Learnt challenge h past (said_by challenge (sent_at past) h.now h.call) ⊎ Unlearnt h past (said_by challenge (sent_at past) h.now h.call) → IsKnown h past
    decided h past e (inl l) = l.known
    decided h past e (inr u) = let w = ap is_waiting u.silent in absurd (cc (w, e))

pub waits_none : (challenge : List ℕ) (past : List Answered) → outcome_in challenge past ≡ Waiting → NoneOf IsKnown past
waits_none challenge past e = waiting_none (judges challenge) past e

pub none_waits : (challenge : List ℕ) (past : List Answered) → NoneOf IsKnown past → outcome_in challenge past ≡ Waiting
none_waits challenge past n = none_waiting (judges challenge) past n

pub outcome_stays : (challenge : List ℕ) (later past : List Answered) → is_waiting (outcome_in challenge past) ≡ false
    → outcome_in challenge (later ++ past) ≡ outcome_in challenge past
outcome_stays challenge later past e = stays (judges challenge) later past e

-- what a verdict says of the response
passed_by : (name asked : List ℕ) (number : ℕ) (found : Option ℕ) → judged_by asked found ≡ Passed name number → (asked ≡ name) × (found ≡ Some number)
passed_by name asked number None e = absurd cc
passed_by name asked number (Some told) e = (cc, ap Some cc)

refused_by : (name asked : List ℕ) (found : Option ℕ) → judged_by asked found ≡ Refused name → (asked ≡ name) × (found ≡ None)
refused_by name asked None e = (cc, refl)
refused_by name asked (Some told) e = absurd cc

unanswered_by : (asked : List ℕ) (times : ℕ) (found : Option ℕ) → judged_by asked found ≡ Unanswered times → ⊥
unanswered_by asked times None e = absurd cc
unanswered_by asked times (Some told) e = absurd cc

tired_says : (challenge : List ℕ) (now : ℕ) (call : AuthCall) (sent : List ℕ) → call ≡ ticks → 10 ≤ length sent → last_of sent + 3000 ≤ now
    → said_by challenge sent now call ≡ Unanswered 10
tired_says challenge now call sent e ten over = ap (said_by challenge sent now) e ∙ go (time_says now sent)
  where
    go : ((unanswered (again_at now sent) ≡ Waiting) × (10 ≤ length sent → last_of sent + 3000 ≤ now → ⊥))
        ⊎ ((unanswered (again_at now sent) ≡ Unanswered 10) × (10 ≤ length sent) × (last_of sent + 3000 ≤ now)) → unanswered (again_at now sent) ≡ Unanswered 10
    go (inl n) = absurd (n.1 ten over)
    go (inr u) = u.0

record Answer (challenge : List ℕ) (past : List Answered) (outcome : AuthOutcome) : Type 0 where
  against : Against
  name : List ℕ
  value : List ℕ
  first : FirstResponds past against name value
  judged_so : judged_by name (passing_line against challenge name value) ≡ outcome

abbrev Gone : List Answered → AuthOutcome → Type 0
Gone past outcome = FirstTires past × (outcome ≡ Unanswered 10)

decided_by : (challenge : List ℕ) (past : List Answered) (outcome : AuthOutcome) → is_waiting outcome ≡ false → outcome_in challenge past ≡ outcome
    → Answer challenge past outcome ⊎ Gone past outcome
decided_by challenge past outcome known e =
    let r = first_says (judges challenge) past (ap is_waiting e ∙ known) in go r.0 r.1 r.2 (sym r.3 ∙ e) r.2.does
  where
    go : (call : Answered) (earlier : List Answered) → IsFirst IsKnown past call earlier → said_by challenge (sent_at earlier) call.now call.call ≡ outcome
        → IsKnown call earlier → Answer challenge past outcome ⊎ Gone past outcome
    go call earlier first says (inl k) = inl (record {
      against = k.against;
      name = k.name;
      value = k.value;
      first = record { call = call; earlier = earlier; first = first; responds = k.responds };
      judged_so = sym (response_says challenge call earlier k.against k.name k.value k.sent k.responds) ∙ says;
    })
    go call earlier first says (inr t) = inr (
      record { call = call; earlier = earlier; first = first; tires = t },
      sym says ∙ tired_says challenge call.now call.call (sent_at earlier) t.ticks_now t.ten t.over,
    )

known_sent : (call : Answered) (earlier : List Answered) (a : Against) (name value : List ℕ) → Responds call.call a name value → IsKnown call earlier → 1 ≤ length (sent_at earlier)
known_sent call earlier a name value r (inl k) = k.sent
known_sent call earlier a name value r (inr t) = let one = r.heard in let other = t.ticks_now in absurd (cc (one, other))

first_decides : (challenge : List ℕ) (past : List Answered) (a : Against) (name value : List ℕ) → FirstResponds past a name value
    → outcome_in challenge past ≡ judged_by name (passing_line a challenge name value)
first_decides challenge past a name value f =
    said_first (judges challenge) past f.call f.earlier f.first
    ∙ response_says challenge f.call f.earlier a name value (known_sent f.call f.earlier a name value f.responds f.first.does) f.responds

pub passed_first : (challenge : List ℕ) (past : List Answered) (name : List ℕ) (number : ℕ) → outcome_in challenge past ≡ Passed name number
    → (a : Against) × (value : List ℕ) × FirstResponds past a name value × Passes a challenge name value number
passed_first challenge past name number e = go (decided_by challenge past (Passed name number) refl e)
  where
    go : Answer challenge past (Passed name number) ⊎ Gone past (Passed name number)
        → (a : Against) × (value : List ℕ) × FirstResponds past a name value × Passes a challenge name value number
    go (inl d) =
        let both = passed_by name d.name number _ d.judged_so in (
          d.against,
          d.value,
          subst (λ (n : List ℕ). FirstResponds past d.against n d.value) both.0 d.first,
          subst (λ (n : List ℕ). Passes d.against challenge n d.value number) both.0 (told_passes d.against challenge d.name d.value number both.1),
        )
    go (inr g) = let is = g.1 in absurd (cc is)

pub first_passed : (challenge : List ℕ) (past : List Answered) (name : List ℕ) (number : ℕ) (a : Against) (value : List ℕ) → FirstResponds past a name value
    → Passes a challenge name value number → outcome_in challenge past ≡ Passed name number
first_passed challenge past name number a value f p =
    first_decides challenge past a name value f ∙ ap (judged_by name) (passes_told a challenge name value number p)

pub refused_first : (challenge : List ℕ) (past : List Answered) (name : List ℕ) → outcome_in challenge past ≡ Refused name
    → (a : Against) × (value : List ℕ) × FirstResponds past a name value × ((number : ℕ) → Passes a challenge name value number → ⊥)
refused_first challenge past name e = go (decided_by challenge past (Refused name) refl e)
  where
    go : Answer challenge past (Refused name) ⊎ Gone past (Refused name)
        → (a : Against) × (value : List ℕ) × FirstResponds past a name value × ((number : ℕ) → Passes a challenge name value number → ⊥)
    go (inl d) =
        let both = refused_by name d.name _ d.judged_so in (
          d.against,
          d.value,
          subst (λ (n : List ℕ). FirstResponds past d.against n d.value) both.0 d.first,
          subst (λ (n : List ℕ). (number : ℕ) → Passes d.against challenge n d.value number → ⊥) both.0 (none_passes d.against challenge d.name d.value both.1),
        )
    go (inr g) = let is = g.1 in absurd (cc is)

pub first_refused : (challenge : List ℕ) (past : List Answered) (name : List ℕ) (a : Against) (value : List ℕ) → FirstResponds past a name value
    → ((number : ℕ) → Passes a challenge name value number → ⊥) → outcome_in challenge past ≡ Refused name
first_refused challenge past name a value f never =
    first_decides challenge past a name value f ∙ ap (judged_by name) (passes_none a challenge name value never)

pub tired_first : (challenge : List ℕ) (past : List Answered) (times : ℕ) → outcome_in challenge past ≡ Unanswered times → (times ≡ 10) × FirstTires past
tired_first challenge past times e = go (decided_by challenge past (Unanswered times) refl e)
  where
    go : Answer challenge past (Unanswered times) ⊎ Gone past (Unanswered times) → (times ≡ 10) × FirstTires past
    go (inl d) = absurd (unanswered_by d.name times _ d.judged_so)
    go (inr g) = let is = g.1 in (cc is, g.0)

pub first_tired : (challenge : List ℕ) (past : List Answered) (times : ℕ) → times ≡ 10 → FirstTires past → outcome_in challenge past ≡ Unanswered times
first_tired challenge past times e f =
    said_first (judges challenge) past f.call f.earlier f.first
    ∙ tired_says challenge f.call.now f.call.call (sent_at f.earlier) f.tires.ticks_now f.tires.ten f.tires.over
    ∙ ap (λ n. Unanswered n) (sym e)

own_is : (name challenge : List ℕ) (past : List Answered) (now : ℕ) (call : AuthCall) → is_own call ≡ true
    → sends name challenge past now call ≡ own_sent (challenge_packet challenge name) (outcome_in challenge past) past now call
own_is name challenge past now begins o = refl
own_is name challenge past now (hears p a) o = absurd cc
own_is name challenge past now ticks o = refl

owns : (name challenge : List ℕ) (past : List Answered) → AreLawful name challenge past → OwnSent (challenge_packet challenge name) (outcome_in challenge) past
owns name challenge [] l = tt
owns name challenge (h ∷ past) l = (λ o. l.0.packet ∙ own_is name challenge past h.now h.call o, owns name challenge past l.1)

-- what is sent of our own accord
pub few_challenges : (name challenge : List ℕ) (past : List Answered) → AreLawful name challenge past → SendsOwn (challenge_packet challenge name) (outcome_in challenge) past
few_challenges name challenge past l = sends_own (challenge_packet challenge name) (outcome_in challenge) past (owns name challenge past l)
