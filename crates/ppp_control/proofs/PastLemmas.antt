-- A step leaves what looking back over it gives.
use Rattle.std.proofs.Common.{◌≡◌, ℕ, ◌+◌, ◌%◌, Bool, true, false, cond, Option, Some, None, List, [], ◌∷◌, ◌++◌, refl, ap, sym, ◌∙◌, subst, arith}
use Rattle.std.specs.Prelude.{◌&&◌, not, min, is_some, option_map, option_to_list}
use Rattle.ppp_fsm.specs.declared.acts.Act.{Act}
use Rattle.ppp_fsm.specs.declared.acts.Act.TheVariants.{Tlu, Tld, Tls, Tlf, Irc, Zrc, Scr, Sca, Scn, Str, Sta, Scj, Ser}
use Rattle.ppp_fsm.specs.Fsm.{Automaton}
use Rattle.ppp_packet.specs.declared.packet.Packet.{Packet}
use Rattle.ppp_packet.specs.OptionsOf.{laid}
use Rattle.ppp_packet.proofs.Laying.{items_of-laid}
use Rattle.ppp_control.specs.declared.parts.Request.{Request}
use Rattle.ppp_control.specs.declared.negotiation.Negotiation.{Negotiation}
use Rattle.ppp_control.specs.declared.judging.Verdict.{Verdict}
use Rattle.ppp_control.specs.declared.judging.Verdict.TheVariants.{Ack, Nak, Reject}
use Rattle.ppp_control.specs.Given.{Given}
use Rattle.ppp_control.specs.Step.{left_by, sent_by, left_by_all, sent_by_all, next_of, restarted, answered}
use Rattle.ppp_control.specs.OwnPackets.{packet, request_packet, terminate_packet, verdict_packet}
use Rattle.ppp_control.specs.Past.{onto, last_of, last_request, request_in, id_in, options_in, naks_since, takes_id, taken_by}

-- A negotiation has what these packets, the newest first, leave, of which so many took an identifier.
pub record Follows (repeats : Bool) (n : Negotiation) (log : List Packet) (taken : ℕ) : Type 0 where
  pub request : n.request ≡ last_request log
  pub terminate : n.terminate ≡ option_map id_in (last_of 5 log)
  pub naks : n.naks ≡ min (naks_since log) 255
  pub acknowledged : n.acknowledged ≡ options_in (last_of 2 log)
  pub next_id : n.next_id ≡ (1 + taken) % 256

-- The restart time and the codes are the same.
pub record SameSettings (a b : Negotiation) : Type 0 where
  pub restart_ms : a.restart_ms ≡ b.restart_ms
  pub is_lcp : a.is_lcp ≡ b.is_lcp

pub next_taken : (t : ℕ) → next_of ((1 + t) % 256) ≡ (1 + (t + 1)) % 256
next_taken t = omega arith

one_more : (n : ℕ) → min (min n 255 + 1) 255 ≡ min (n + 1) 255
one_more n = omega arith

same_options : (r : Request) → request_in (request_packet r) ≡ r
same_options r = ap (λ items. record r { options = items }) (items_of-laid r.options)

pub no_more : (t : ℕ) → t ≡ t + 0
no_more t = omega arith

impossible : (b : Bool) → true ≡ (b && false) → ⊥
impossible true e = cc
impossible false e = cc

-- a request
asked_anew : (o : Given) (n : Negotiation) (log : List Packet) (t : ℕ) → (o.repeats && is_some (last_of 1 log)) ≡ false → Follows o.repeats n log t
    → Follows o.repeats (restarted o (record n { request = Some (record { id = n.next_id; options = o.asked }); next_id = next_of n.next_id })) (packet 1 n.next_id (laid o.asked) ∷ log) (t + taken_by o.repeats log (packet 1 n.next_id (laid o.asked) ∷ []))
asked_anew o n log t fresh h = record {
  request = ap Some (sym (same_options (record { id = n.next_id; options = o.asked })));
  terminate = h.terminate;
  naks = h.naks;
  acknowledged = h.acknowledged;
  next_id = ap next_of h.next_id ∙ next_taken t ∙ ap (λ b. (1 + (t + cond (not b) 1 0)) % 256) (sym fresh);
}

asked_again : (o : Given) (n : Negotiation) (r : Request) (log : List Packet) (t : ℕ) → (o.repeats && is_some (last_of 1 log)) ≡ true → n.request ≡ Some r → Follows o.repeats n log t
    → Follows o.repeats (restarted o n) (request_packet r ∷ log) (t + taken_by o.repeats log (request_packet r ∷ []))
asked_again o n r log t again e h = record {
  request = e ∙ ap Some (sym (same_options r));
  terminate = h.terminate;
  naks = h.naks;
  acknowledged = h.acknowledged;
  next_id = h.next_id ∙ ap (λ x. (1 + x) % 256) (no_more t) ∙ ap (λ b. (1 + (t + cond (not b) 1 0)) % 256) (sym again);
}

pub requested_back : (again : Bool) (found : Option Packet) (o : Given) (n : Negotiation) (log : List Packet) (t : ℕ) → found ≡ last_of 1 log → again ≡ (o.repeats && is_some found) → Follows o.repeats n log t
    → (m : Negotiation) × (m ≡ cond again (restarted o n) (restarted o (record n { request = Some (record { id = n.next_id; options = o.asked }); next_id = next_of n.next_id })))
    × Follows o.repeats m (onto (option_to_list (option_map request_packet m.request)) log) (t + taken_by o.repeats log (option_to_list (option_map request_packet m.request)))
requested_back false found o n log t e f h = (_, refl, asked_anew o n log t (ap (λ x. o.repeats && is_some x) (sym e) ∙ sym f) h)
requested_back true (Some p) o n log t e f h =
    let at : n.request ≡ Some (request_in p) = h.request ∙ ap (λ x. option_map request_in x) (sym e) in
    (restarted o n, refl, subst (λ (x : Option Request). Follows o.repeats (restarted o n) (onto (option_to_list (option_map request_packet x)) log) (t + taken_by o.repeats log (option_to_list (option_map request_packet x)))) (sym at) (asked_again o n (request_in p) log t (ap (λ x. o.repeats && is_some x) (sym e) ∙ sym f) at h))
requested_back true None o n log t e f h = absurd (impossible o.repeats f)

terminated_back : (again : Bool) (found : Option Packet) (o : Given) (n : Negotiation) (log : List Packet) (t : ℕ) → found ≡ last_of 5 log → again ≡ (o.repeats && is_some found) → Follows o.repeats n log t
    → (m : Negotiation) × (m ≡ cond again (restarted o n) (restarted o (record n { terminate = Some n.next_id; next_id = next_of n.next_id })))
    × Follows o.repeats m (onto (option_to_list (option_map terminate_packet m.terminate)) log) (t + taken_by o.repeats log (option_to_list (option_map terminate_packet m.terminate)))
terminated_back false found o n log t e f h = (
  _,
  refl,
  record {
    request = h.request;
    terminate = refl;
    naks = h.naks;
    acknowledged = h.acknowledged;
    next_id = ap next_of h.next_id ∙ next_taken t ∙ ap (λ b. (1 + (t + cond (not b) 1 0)) % 256) (f ∙ ap (λ x. o.repeats && is_some x) e);
  },
)
terminated_back true (Some p) o n log t e f h =
    let at : n.terminate ≡ Some (id_in p) = h.terminate ∙ ap (λ x. option_map id_in x) (sym e) in (
      restarted o n,
      refl,
      subst (λ (x : Option ℕ). Follows o.repeats (restarted o n) (onto (option_to_list (option_map terminate_packet x)) log) (t + taken_by o.repeats log (option_to_list (option_map terminate_packet x)))) (sym at) (record {
        request = h.request;
        terminate = at;
        naks = h.naks;
        acknowledged = h.acknowledged;
        next_id = h.next_id ∙ ap (λ x. (1 + x) % 256) (no_more t) ∙ ap (λ b. (1 + (t + cond (not b) 1 0)) % 256) (f ∙ ap (λ x. o.repeats && is_some x) e);
      }),
    )
terminated_back true None o n log t e f h = absurd (impossible o.repeats f)

-- the answer to a request
answered_back : (id : ℕ) (v : Verdict) (repeats : Bool) (n : Negotiation) (log : List Packet) (t : ℕ) → Follows repeats n log t
    → Follows repeats (answered v n) (onto (option_to_list (verdict_packet id v)) log) (t + taken_by repeats log (option_to_list (verdict_packet id v)))
answered_back id Ack repeats n log t h = subst (λ x. Follows repeats n log x) (no_more t) h
answered_back id (Nak items) repeats n log t h = record {
  request = h.request;
  terminate = h.terminate;
  naks = ap (λ x. min (x + 1) 255) h.naks ∙ one_more (naks_since log);
  acknowledged = h.acknowledged;
  next_id = h.next_id ∙ ap (λ x. (1 + x) % 256) (no_more t);
}
answered_back id (Reject items) repeats n log t h = record { request = h.request; terminate = h.terminate; naks = h.naks; acknowledged = h.acknowledged; next_id = h.next_id ∙ ap (λ x. (1 + x) % 256) (no_more t) }

reply_back : (id : ℕ) (reply : Option (List ℕ)) (repeats : Bool) (n : Negotiation) (log : List Packet) (t : ℕ) → Follows repeats n log t
    → Follows repeats n (onto (option_to_list (option_map (λ body. packet 10 id body) reply)) log) (t + taken_by repeats log (option_to_list (option_map (λ body. packet 10 id body) reply)))
reply_back id None repeats n log t h = subst (λ x. Follows repeats n log x) (no_more t) h
reply_back id (Some body) repeats n log t h = record { request = h.request; terminate = h.terminate; naks = h.naks; acknowledged = h.acknowledged; next_id = h.next_id ∙ ap (λ x. (1 + x) % 256) (no_more t) }

silent_back : (repeats : Bool) (n : Negotiation) (log : List Packet) (t : ℕ) → Follows repeats n log t → Follows repeats n log (t + 0)
silent_back repeats n log t h = subst (λ x. Follows repeats n log x) (no_more t) h

-- one act
pub act_back : (o : Given) (n : Negotiation) (log : List Packet) (t : ℕ) (act : Act) → Follows o.repeats n log t
    → Follows o.repeats (left_by o n act) (onto (option_to_list (sent_by o n act)) log) (t + taken_by o.repeats log (option_to_list (sent_by o n act)))
act_back o n log t Scr h =
    let made = requested_back (o.repeats && is_some n.request) (last_of 1 log) o n log t refl (ap (λ x. o.repeats && x) (ap is_some h.request ∙ still_some (last_of 1 log))) h in
    subst (λ (m : Negotiation). Follows o.repeats m (onto (option_to_list (option_map request_packet m.request)) log) (t + taken_by o.repeats log (option_to_list (option_map request_packet m.request)))) made.1 made.2
  where
    still_some : (found : Option Packet) → is_some (option_map request_in found) ≡ is_some found
    still_some None = refl
    still_some (Some p) = refl
act_back o n log t Str h =
    let made = terminated_back (o.repeats && is_some n.terminate) (last_of 5 log) o n log t refl (ap (λ x. o.repeats && x) (ap is_some h.terminate ∙ still_some (last_of 5 log))) h in
    subst (λ (m : Negotiation). Follows o.repeats m (onto (option_to_list (option_map terminate_packet m.terminate)) log) (t + taken_by o.repeats log (option_to_list (option_map terminate_packet m.terminate)))) made.1 made.2
  where
    still_some : (found : Option Packet) → is_some (option_map id_in found) ≡ is_some found
    still_some None = refl
    still_some (Some p) = refl
act_back o n log t Sca h = record { request = h.request; terminate = h.terminate; naks = refl; acknowledged = sym (items_of-laid o.theirs); next_id = h.next_id ∙ ap (λ x. (1 + x) % 256) (no_more t) }
act_back o n log t Scn h = answered_back o.id o.verdict o.repeats n log t h
act_back o n log t Sta h = record { request = h.request; terminate = h.terminate; naks = h.naks; acknowledged = h.acknowledged; next_id = h.next_id ∙ ap (λ x. (1 + x) % 256) (no_more t) }
act_back o n log t Scj h = record { request = h.request; terminate = h.terminate; naks = h.naks; acknowledged = h.acknowledged; next_id = ap next_of h.next_id ∙ next_taken t }
act_back o n log t Ser h = reply_back o.id o.reply o.repeats n log t h
act_back o n log t Zrc h = silent_back o.repeats (left_by o n Zrc) log t (record { request = h.request; terminate = h.terminate; naks = h.naks; acknowledged = h.acknowledged; next_id = h.next_id })
act_back o n log t Irc h = silent_back o.repeats n log t h
act_back o n log t Tlu h = silent_back o.repeats n log t h
act_back o n log t Tld h = silent_back o.repeats n log t h
act_back o n log t Tls h = silent_back o.repeats n log t h
act_back o n log t Tlf h = silent_back o.repeats n log t h

pub onto_more : (xs ys log : List Packet) → onto (xs ++ ys) log ≡ onto ys (onto xs log)
onto_more [] ys log = refl
onto_more (x ∷ xs) ys log = onto_more xs ys (x ∷ log)

counted : (b : Bool) (x y z : ℕ) → x ≡ z + y → cond b (x + 1) x ≡ z + cond b (y + 1) y
counted true x y z e = omega (arith, e)
counted false x y z e = e

taken_more : (repeats : Bool) (xs ys log : List Packet) → taken_by repeats log (xs ++ ys) ≡ taken_by repeats (onto xs log) ys + taken_by repeats log xs
taken_more repeats [] ys log = no_more (taken_by repeats log ys)
taken_more repeats (x ∷ xs) ys log = counted (takes_id repeats log x) _ (taken_by repeats (x ∷ log) xs) (taken_by repeats (onto xs (x ∷ log)) ys) (taken_more repeats xs ys (x ∷ log))

summed : (t a b c : ℕ) → c ≡ b + a → t + a + b ≡ t + c
summed t a b c e = omega (arith, e)

-- acts in their order
pub acts_back : (o : Given) (acts : List Act) (n : Negotiation) (log : List Packet) (t : ℕ) → Follows o.repeats n log t
    → Follows o.repeats (left_by_all o n acts) (onto (sent_by_all o n acts) log) (t + taken_by o.repeats log (sent_by_all o n acts))
acts_back o [] n log t h = silent_back o.repeats n log t h
acts_back o (act ∷ acts) n log t h =
    let xs : List Packet = option_to_list (sent_by o n act) in
    let m : Negotiation = left_by o n act in
    let ys : List Packet = sent_by_all o m acts in
    let last : Negotiation = left_by_all o m acts in
    let rest : Follows o.repeats last (onto ys (onto xs log)) (t + taken_by o.repeats log xs + taken_by o.repeats (onto xs log) ys) = acts_back o acts m (onto xs log) (t + taken_by o.repeats log xs) (act_back o n log t act h) in
    let joined : Follows o.repeats last (onto (xs ++ ys) log) (t + taken_by o.repeats log xs + taken_by o.repeats (onto xs log) ys) = subst (λ (l : List Packet). Follows o.repeats last l (t + taken_by o.repeats log xs + taken_by o.repeats (onto xs log) ys)) (sym (onto_more xs ys log)) rest in
    subst (λ (k : ℕ). Follows o.repeats last (onto (xs ++ ys) log) k) (summed t (taken_by o.repeats log xs) (taken_by o.repeats (onto xs log) ys) (taken_by o.repeats log (xs ++ ys)) (taken_more o.repeats xs ys log)) joined

-- stopping the timer, and moving the automaton, change nothing of this
pub follows_timed : (low high repeats : Bool) (n : Negotiation) (log : List Packet) (t : ℕ) → Follows repeats n log t
    → Follows repeats (cond low (record n { restart_at = None }) (cond high (record n { restart_at = None }) n)) log t
follows_timed true high repeats n log t h = record { request = h.request; terminate = h.terminate; naks = h.naks; acknowledged = h.acknowledged; next_id = h.next_id }
follows_timed false true repeats n log t h = record { request = h.request; terminate = h.terminate; naks = h.naks; acknowledged = h.acknowledged; next_id = h.next_id }
follows_timed false false repeats n log t h = h

pub follows_moved : (fsm : Automaton) (repeats : Bool) (n : Negotiation) (log : List Packet) (t : ℕ) → Follows repeats n log t → Follows repeats (record n { fsm = fsm }) log t
follows_moved fsm repeats n log t h = record { request = h.request; terminate = h.terminate; naks = h.naks; acknowledged = h.acknowledged; next_id = h.next_id }

-- acts leave the automaton
fsm_of_choice : (b : Bool) (m n : Negotiation) (a : Automaton) → m.fsm ≡ a → n.fsm ≡ a → (cond b m n).fsm ≡ a
fsm_of_choice true m n a e f = e
fsm_of_choice false m n a e f = f

act_fsm : (o : Given) (n : Negotiation) (act : Act) → (left_by o n act).fsm ≡ n.fsm
act_fsm o n Scr = fsm_of_choice (o.repeats && is_some n.request) _ _ n.fsm refl refl
act_fsm o n Str = fsm_of_choice (o.repeats && is_some n.terminate) _ _ n.fsm refl refl
act_fsm o n Scn = by_verdict o.verdict n
  where
    by_verdict : (v : Verdict) (n : Negotiation) → (answered v n).fsm ≡ n.fsm
    by_verdict Ack n = refl
    by_verdict (Nak items) n = refl
    by_verdict (Reject items) n = refl
act_fsm o n Sca = refl
act_fsm o n Sta = refl
act_fsm o n Scj = refl
act_fsm o n Ser = refl
act_fsm o n Zrc = refl
act_fsm o n Irc = refl
act_fsm o n Tlu = refl
act_fsm o n Tld = refl
act_fsm o n Tls = refl
act_fsm o n Tlf = refl

pub acts_fsm : (o : Given) (acts : List Act) (n : Negotiation) → (left_by_all o n acts).fsm ≡ n.fsm
acts_fsm o [] n = refl
acts_fsm o (act ∷ acts) n = acts_fsm o acts (left_by o n act) ∙ act_fsm o n act

-- acts leave the restart time and the codes
settings_of_choice : (b : Bool) (m n old : Negotiation) → SameSettings m old → SameSettings n old → SameSettings (cond b m n) old
settings_of_choice true m n old e f = e
settings_of_choice false m n old e f = f

act_settings : (o : Given) (n : Negotiation) (act : Act) → SameSettings (left_by o n act) n
act_settings o n Scr = settings_of_choice (o.repeats && is_some n.request) _ _ n (record { restart_ms = refl; is_lcp = refl }) (record { restart_ms = refl; is_lcp = refl })
act_settings o n Str = settings_of_choice (o.repeats && is_some n.terminate) _ _ n (record { restart_ms = refl; is_lcp = refl }) (record { restart_ms = refl; is_lcp = refl })
act_settings o n Scn = by_verdict o.verdict n
  where
    by_verdict : (v : Verdict) (n : Negotiation) → SameSettings (answered v n) n
    by_verdict Ack n = record { restart_ms = refl; is_lcp = refl }
    by_verdict (Nak items) n = record { restart_ms = refl; is_lcp = refl }
    by_verdict (Reject items) n = record { restart_ms = refl; is_lcp = refl }
act_settings o n Sca = record { restart_ms = refl; is_lcp = refl }
act_settings o n Sta = record { restart_ms = refl; is_lcp = refl }
act_settings o n Scj = record { restart_ms = refl; is_lcp = refl }
act_settings o n Ser = record { restart_ms = refl; is_lcp = refl }
act_settings o n Zrc = record { restart_ms = refl; is_lcp = refl }
act_settings o n Irc = record { restart_ms = refl; is_lcp = refl }
act_settings o n Tlu = record { restart_ms = refl; is_lcp = refl }
act_settings o n Tld = record { restart_ms = refl; is_lcp = refl }
act_settings o n Tls = record { restart_ms = refl; is_lcp = refl }
act_settings o n Tlf = record { restart_ms = refl; is_lcp = refl }

pub acts_settings : (o : Given) (acts : List Act) (n : Negotiation) → SameSettings (left_by_all o n acts) n
acts_settings o [] n = record { restart_ms = refl; is_lcp = refl }
acts_settings o (act ∷ acts) n =
    let rest = acts_settings o acts (left_by o n act) in
    let one = act_settings o n act in
    record { restart_ms = rest.restart_ms ∙ one.restart_ms; is_lcp = rest.is_lcp ∙ one.is_lcp }

pub timed_settings : (low high : Bool) (n : Negotiation) → SameSettings (cond low (record n { restart_at = None }) (cond high (record n { restart_at = None }) n)) n
timed_settings true high n = record { restart_ms = refl; is_lcp = refl }
timed_settings false true n = record { restart_ms = refl; is_lcp = refl }
timed_settings false false n = record { restart_ms = refl; is_lcp = refl }

-- negotiations with the same parts are the same
pub same_negotiation : (a b : Negotiation) → a.restart_ms ≡ b.restart_ms → a.is_lcp ≡ b.is_lcp → a.fsm ≡ b.fsm → a.next_id ≡ b.next_id → a.request ≡ b.request → a.terminate ≡ b.terminate → a.naks ≡ b.naks → a.acknowledged ≡ b.acknowledged → a.restart_at ≡ b.restart_at → a ≡ b
same_negotiation a b d1 d2 e1 e2 e3 e4 e5 e6 e7 =
    ap (λ x. record a { restart_ms = x }) d1
    ∙ ap (λ x. record a { restart_ms = b.restart_ms; is_lcp = x }) d2
    ∙ ap (λ x. record a { restart_ms = b.restart_ms; is_lcp = b.is_lcp; fsm = x }) e1
    ∙ ap (λ x. record a { restart_ms = b.restart_ms; is_lcp = b.is_lcp; fsm = b.fsm; next_id = x }) e2
    ∙ ap (λ x. record a { restart_ms = b.restart_ms; is_lcp = b.is_lcp; fsm = b.fsm; next_id = b.next_id; request = x }) e3
    ∙ ap (λ x. record a { restart_ms = b.restart_ms; is_lcp = b.is_lcp; fsm = b.fsm; next_id = b.next_id; request = b.request; terminate = x }) e4
    ∙ ap (λ x. record b { naks = x; acknowledged = a.acknowledged; restart_at = a.restart_at }) e5
    ∙ ap (λ x. record b { acknowledged = x; restart_at = a.restart_at }) e6
    ∙ ap (λ x. record b { restart_at = x }) e7
