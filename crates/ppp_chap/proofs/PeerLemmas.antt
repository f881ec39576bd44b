-- The outcome of one who proves himself by CHAP, by which calls tell it.
use Rattle.std.proofs.Common.{◌≡◌, ℕ, Bool, true, false, ◌⊎◌, inl, inr, List, [], ◌∷◌, Option, None, Some, refl, sym, ap, ◌∙◌, subst, arith}
use Rattle.std.specs.Prelude.{◌==◌, ◌&&◌, option_map, if◌then◌else◌}
use Rattle.std.proofs.lemmas.Bool.{and_from, and_parts}
use Rattle.std.proofs.lemmas.Bool.Decides.{Decides-eqb}
use Rattle.ppp_packet.specs.declared.packet.Packet.{Packet}
use Rattle.ppp_packet.specs.declared.auth_out.AuthOutcome.{AuthOutcome}
use Rattle.ppp_packet.specs.declared.auth_out.AuthOutcome.TheVariants.{Waiting, Passed, Refused, Unanswered}
use Rattle.ppp_proving.specs.Calls.{Against, AuthCall, begins, hears, ticks, Answered, turned}
use Rattle.ppp_proving.specs.Which.{NoneOf, SomeOf}
use Rattle.ppp_proving.proofs.WhichLemmas.{none_some, some_later, some_now}
use Rattle.ppp_chap.specs.Packets.{response_packet, valued_body, valued_of}
use Rattle.ppp_chap.specs.Passes.{value_of}
use Rattle.ppp_chap.specs.Peer.{IsLawful, is_id, last_answered, no_secret, outcome_in, packet_says, response_to, said_by, secret_for, sends, where_none}
use Rattle.ppp_chap.specs.Challenges.{Accepts, Challenges, HasNone, Rejects, Tells}
use Rattle.ppp_chap.proofs.PacketLemmas.{body_is_valued, valued_is_body}

-- what an outcome means
abbrev pub Means : List ℕ → Option (List ℕ) → List Answered → AuthOutcome → Type 0
Means name password past Waiting = NoneOf Accepts past × NoneOf (Rejects name password) past
Means name password past (Passed who line) = (who ≡ name) × (line ≡ 0) × SomeOf Accepts past × NoneOf (Rejects name password) past
Means name password past (Refused who) = (who ≡ name) × SomeOf (Rejects name password) past
Means name password past (Unanswered times) = ⊥

-- what a call says, and what it therefore is
record SaysNothing (name : List ℕ) (password : Option (List ℕ)) (h : Answered) (past : List Answered) (said : AuthOutcome) : Type 0 where
  is : said ≡ Waiting
  not_good : Accepts h past → ⊥
  not_bad : Rejects name password h past → ⊥

record SaysPassed (name : List ℕ) (password : Option (List ℕ)) (h : Answered) (past : List Answered) (said : AuthOutcome) : Type 0 where
  is : said ≡ Passed name 0
  good : Accepts h past
  not_bad : Rejects name password h past → ⊥

record SaysRefused (name : List ℕ) (password : Option (List ℕ)) (h : Answered) (past : List Answered) (said : AuthOutcome) : Type 0 where
  is : said ≡ Refused name
  bad : Rejects name password h past

abbrev Says : List ℕ → Option (List ℕ) → Answered → List Answered → AuthOutcome → Type 0
Says name password h past said = SaysNothing name password h past said ⊎ (SaysPassed name password h past said ⊎ SaysRefused name password h past said)

after : (name : List ℕ) (password : Option (List ℕ)) (h : Answered) (past : List Answered) (before said : AuthOutcome) → Means name password past before
    → Says name password h past said → Means name password (h ∷ past) (turned before said)
after name password h past Waiting said m (inl s) = subst (λ (o : AuthOutcome). Means name password (h ∷ past) o) (sym s.is)
    ((s.not_good, m.0), (s.not_bad, m.1))
after name password h past Waiting said m (inr (inl s)) = subst (λ (o : AuthOutcome). Means name password (h ∷ past) o) (sym s.is)
    (refl, refl, some_now h past s.good, (s.not_bad, m.1))
after name password h past Waiting said m (inr (inr s)) = subst (λ (o : AuthOutcome). Means name password (h ∷ past) o) (sym s.is)
    (refl, some_now h past s.bad)
after name password h past (Passed who line) said m (inl s) = subst (λ (o : AuthOutcome). Means name password (h ∷ past) (turned (Passed who line) o)) (sym s.is)
    (m.0, m.1, some_later h m.2, (s.not_bad, m.3))
after name password h past (Passed who line) said m (inr (inl s)) = subst (λ (o : AuthOutcome). Means name password (h ∷ past) (turned (Passed who line) o)) (sym s.is)
    (m.0, m.1, some_later h m.2, (s.not_bad, m.3))
after name password h past (Passed who line) said m (inr (inr s)) = subst (λ (o : AuthOutcome). Means name password (h ∷ past) (turned (Passed who line) o)) (sym s.is)
    (refl, some_now h past s.bad)
after name password h past (Refused who) said m s = (m.0, some_later h m.1)
after name password h past (Unanswered times) said m s = absurd m

-- Two outcomes that are both meant are one.
pub same : (name : List ℕ) (password : Option (List ℕ)) (past : List Answered) (one other : AuthOutcome) → Means name password past one → Means name password past other → one ≡ other
same name password past Waiting Waiting m w = refl
same name password past Waiting (Passed who line) m w = absurd (none_some Accepts m.0 w.2)
same name password past Waiting (Refused who) m w = absurd (none_some (Rejects name password) m.1 w.1)
same name password past Waiting (Unanswered times) m w = absurd w
same name password past (Passed who line) Waiting m w = absurd (none_some Accepts w.0 m.2)
same name password past (Passed who line) (Passed other number) m w = ap (λ n. Passed n line) (m.0 ∙ sym w.0) ∙ ap (λ l. Passed other l) (m.1 ∙ sym w.1)
same name password past (Passed who line) (Refused other) m w = absurd (none_some (Rejects name password) m.3 w.1)
same name password past (Passed who line) (Unanswered times) m w = absurd w
same name password past (Refused who) Waiting m w = absurd (none_some (Rejects name password) w.1 m.1)
same name password past (Refused who) (Passed other line) m w = absurd (none_some (Rejects name password) w.3 m.1)
same name password past (Refused who) (Refused other) m w = ap (λ n. Refused n) (m.0 ∙ sym w.0)
same name password past (Refused who) (Unanswered times) m w = absurd w
same name password past (Unanswered times) other m w = absurd m

-- the identifier of the last challenge that was answered
id_is : (answered : Option ℕ) (id : ℕ) → is_id answered id ≡ true → answered ≡ Some id
id_is None id e = absurd cc
id_is (Some last) id e = ap (λ n. Some n) ((Decides-eqb last id).0 e)

is_the_id : (answered : Option ℕ) (id : ℕ) → answered ≡ Some id → is_id answered id ≡ true
is_the_id answered id e = ap (λ found. is_id found id) e ∙ (Decides-eqb id id).1 refl

tells_code : (code : ℕ) (now : ℕ) (p : Packet) (a : Against) (packet : Option Packet) (outcome : AuthOutcome) (past : List Answered)
    → Tells code (record { now = now; call = hears p a; packet = packet; outcome = outcome }) past → (p.code ≡ code) × (is_id (last_answered past) p.id ≡ true)
tells_code code now p a packet outcome past t =
    let heard = t.heard in
    let packets : p ≡ record { code = code; id = t.id; body = t.message } = cc heard in
    let id : p.id ≡ t.id = ap (λ (q : Packet). q.id) packets in
    (ap (λ (q : Packet). q.code) packets, is_the_id (last_answered past) p.id (t.answers ∙ ap (λ n. Some n) (sym id)))

code_tells : (code : ℕ) (now : ℕ) (p : Packet) (a : Against) (packet : Option Packet) (outcome : AuthOutcome) (past : List Answered)
    → (p.code == code && is_id (last_answered past) p.id) ≡ true → Tells code (record { now = now; call = hears p a; packet = packet; outcome = outcome }) past
code_tells code now p a packet outcome past e =
    let tests = and_parts (p.code == code) (is_id (last_answered past) p.id) e in
    record {
      id = p.id;
      message = p.body;
      against = a;
      heard = ap (λ n. hears (record { code = n; id = p.id; body = p.body }) a) ((Decides-eqb p.code code).0 tests.0);
      answers = id_is (last_answered past) p.id tests.1;
    }

-- a challenge is one, and has a secret or none
challenge_code : (call : AuthCall) (p : Packet) (a b : Against) (id : ℕ) (value challenger : List ℕ) → call ≡ hears p a → Challenges call b id value challenger
    → (p ≡ record { code = 1; id = id; body = valued_body value challenger }) × (a ≡ b)
challenge_code call p a b id value challenger e c = let heard = c.heard in (cc (heard, e), cc (heard, e))

none_read : (name : List ℕ) (password : Option (List ℕ)) (now : ℕ) (p : Packet) (a : Against) (packet : Option Packet) (outcome : AuthOutcome) (past : List Answered)
    → HasNone name password (record { now = now; call = hears p a; packet = packet; outcome = outcome }) past
    → (p.code ≡ 1) × (no_secret name password a (valued_of p.body) ≡ Refused name)
none_read name password now p a packet outcome past n =
    let both = challenge_code (hears p a) p a n.against n.id n.value n.challenger refl n.challenges in
    let read : valued_of p.body ≡ Some (n.value, n.challenger) = ap (λ (q : Packet). valued_of q.body) both.0 ∙ body_is_valued n.value n.challenger n.challenges.fits in (
      ap (λ (q : Packet). q.code) both.0,
      ap (no_secret name password a) read ∙ ap (λ (b : Against). where_none name (secret_for password name b n.challenger)) both.1 ∙ ap (where_none name) n.none,
    )

challenge_says : (name : List ℕ) (password : Option (List ℕ)) (now : ℕ) (p : Packet) (a : Against) (packet : Option Packet) (outcome : AuthOutcome) (past : List Answered)
    → p.code ≡ 1 → Says name password (record { now = now; call = hears p a; packet = packet; outcome = outcome }) past (no_secret name password a (valued_of p.body))
challenge_says name password now p a packet outcome past one = by_found (valued_of p.body) refl
  where
    not_told : (code : ℕ) → (1 ≡ code → ⊥) → Tells code (record { now = now; call = hears p a; packet = packet; outcome = outcome }) past → ⊥
    not_told code differ t = differ (sym one ∙ (tells_code code now p a packet outcome past t).0)

    not_bad : no_secret name password a (valued_of p.body) ≡ Waiting → Rejects name password (record { now = now; call = hears p a; packet = packet; outcome = outcome }) past → ⊥
    not_bad e (inl t) = not_told 4 (λ wrong. absurd (omega arith)) t
    not_bad e (inr n) = let refused = (none_read name password now p a packet outcome past n).1 in absurd (cc (e, refused))

    quiet : no_secret name password a (valued_of p.body) ≡ Waiting
        → SaysNothing name password (record { now = now; call = hears p a; packet = packet; outcome = outcome }) past Waiting
    quiet e = record { is = refl; not_good = not_told 3 (λ wrong. absurd (omega arith)); not_bad = not_bad e }

    by_secret : (found : List ℕ × List ℕ) → valued_of p.body ≡ Some found → (secret : Option (List ℕ)) → secret_for password name a found.1 ≡ secret
        → Says name password (record { now = now; call = hears p a; packet = packet; outcome = outcome }) past (where_none name secret)
    by_secret found f None s =
        let body = valued_is_body p.body found.0 found.1 f in
        let packets : p ≡ record { code = 1; id = p.id; body = valued_body found.0 found.1 } =
        ap (λ n. record { code = n; id = p.id; body = p.body }) one ∙ ap (λ octets. record { code = 1; id = p.id; body = octets }) body.0 in
        inr (inr (record {
          is = refl;
          bad = inr (record {
            against = a;
            id = p.id;
            value = found.0;
            challenger = found.1;
            challenges = record { heard = ap (λ q. hears q a) packets; fits = body.1 };
            none = s;
          });
        }))
    by_secret found f (Some secret) s = inl (quiet (ap (no_secret name password a) f ∙ ap (where_none name) s))

    by_found : (found : Option (List ℕ × List ℕ)) → valued_of p.body ≡ found
        → Says name password (record { now = now; call = hears p a; packet = packet; outcome = outcome }) past (no_secret name password a found)
    by_found None f = inl (quiet (ap (no_secret name password a) f))
    by_found (Some found) f = by_secret found f (secret_for password name a found.1) refl

heard_says : (name : List ℕ) (password : Option (List ℕ)) (now : ℕ) (p : Packet) (a : Against) (packet : Option Packet) (outcome : AuthOutcome) (past : List Answered)
    → Says name password (record { now = now; call = hears p a; packet = packet; outcome = outcome }) past (packet_says name password (last_answered past) p a)
heard_says name password now p a packet outcome past =
    by_code (p.code == 1) refl (p.code == 3 && is_id (last_answered past) p.id) refl (p.code == 4 && is_id (last_answered past) p.id) refl
  where
    untold : (code : ℕ) → (p.code == code && is_id (last_answered past) p.id) ≡ false
        → Tells code (record { now = now; call = hears p a; packet = packet; outcome = outcome }) past → ⊥
    untold code e t =
        let told = tells_code code now p a packet outcome past t in
        let is : (p.code == code && is_id (last_answered past) p.id) ≡ true = and_from (p.code == code) (is_id (last_answered past) p.id) ((Decides-eqb p.code code).1 told.0) told.1 in
        absurd (cc (e, is))

    asked : (p.code == 1) ≡ false → HasNone name password (record { now = now; call = hears p a; packet = packet; outcome = outcome }) past → ⊥
    asked e n = let is = (Decides-eqb p.code 1).1 (none_read name password now p a packet outcome past n).0 in absurd (cc (e, is))

    not_bad : (p.code == 1) ≡ false → (p.code == 4 && is_id (last_answered past) p.id) ≡ false
        → Rejects name password (record { now = now; call = hears p a; packet = packet; outcome = outcome }) past → ⊥
    not_bad c f (inl t) = untold 4 f t
    not_bad c f (inr n) = asked c n

    not_both : (p.code == 3 && is_id (last_answered past) p.id) ≡ true → (p.code == 1) ≡ false
        → Rejects name password (record { now = now; call = hears p a; packet = packet; outcome = outcome }) past → ⊥
    not_both s c (inl t) =
        let three : p.code ≡ 3 = (Decides-eqb p.code 3).0 (and_parts (p.code == 3) (is_id (last_answered past) p.id) s).0 in
        let four : p.code ≡ 4 = (tells_code 4 now p a packet outcome past t).0 in
        absurd (omega (arith, three, four))
    not_both s c (inr n) = asked c n

    by_code : (challenge : Bool) → (p.code == 1) ≡ challenge → (success : Bool) → (p.code == 3 && is_id (last_answered past) p.id) ≡ success
        → (failure : Bool) → (p.code == 4 && is_id (last_answered past) p.id) ≡ failure
        → Says name password (record { now = now; call = hears p a; packet = packet; outcome = outcome }) past
        (if challenge then no_secret name password a (if challenge then valued_of p.body else None) else if success then Passed name 0 else if failure then Refused name else Waiting)
    by_code true c success s failure f = challenge_says name password now p a packet outcome past ((Decides-eqb p.code 1).0 c)
    by_code false c true s failure f = inr (inl (record { is = refl; good = code_tells 3 now p a packet outcome past s; not_bad = not_both s c }))
    by_code false c false s true f = inr (inr (record { is = refl; bad = inl (code_tells 4 now p a packet outcome past f) }))
    by_code false c false s false f = inl (record { is = refl; not_good = untold 3 s; not_bad = not_bad c f })

says : (name : List ℕ) (password : Option (List ℕ)) (now : ℕ) (call : AuthCall) (packet : Option Packet) (outcome : AuthOutcome) (past : List Answered)
    → Says name password (record { now = now; call = call; packet = packet; outcome = outcome }) past (said_by name password (last_answered past) call)
says name password now begins packet outcome past = inl (record {
  is = refl;
  not_good = λ t. let e = t.heard in absurd (cc e);
  not_bad = λ r. elim r [ inl t ↦ (let e = t.heard in absurd (cc e)) | inr n ↦ (let e = n.challenges.heard in absurd (cc e)) ];
})
says name password now (hears p a) packet outcome past = heard_says name password now p a packet outcome past
says name password now ticks packet outcome past = inl (record {
  is = refl;
  not_good = λ t. let e = t.heard in absurd (cc e);
  not_bad = λ r. elim r [ inl t ↦ (let e = t.heard in absurd (cc e)) | inr n ↦ (let e = n.challenges.heard in absurd (cc e)) ];
})

-- An outcome means what it says.
pub means : (name : List ℕ) (password : Option (List ℕ)) (past : List Answered) → Means name password past (outcome_in name password past)
means name password [] = (tt, tt)
means name password (h ∷ past) =
    after name password h past (outcome_in name password past) (said_by name password (last_answered past) h.call)
    (means name password past) (says name password h.now h.call h.packet h.outcome past)

pub challenge_answered : (name : List ℕ) (password : Option (List ℕ)) (h : Answered) (past : List Answered) → IsLawful name password h past
    → (a : Against) (id : ℕ) (value challenger secret : List ℕ) → Challenges h.call a id value challenger → secret_for password name a challenger ≡ Some secret
    → h.packet ≡ Some (response_packet id (value_of id secret value) name)
challenge_answered name password h past l a id value challenger secret c s =
    l.packet
    ∙ ap (sends name password) c.heard
    ∙ ap (response_to name password a id) (body_is_valued value challenger c.fits)
    ∙ ap (option_map (λ (known : List ℕ). response_packet id (value_of id known value) name)) s
