-- What a step sends is what looking back says, act by act.
use Rattle.std.proofs.Common.{◌≡◌, ℕ, Bool, true, false, cond, Option, Some, List, [], ◌∷◌, ◌++◌, refl, ap, sym, ◌∙◌, zero, suc}
use Rattle.std.specs.Prelude.{◌&&◌, not, slice_index_or, nat_eq, if◌then◌else◌, is_some, option_map, option_to_list}
use Rattle.ppp_fsm.specs.declared.event.FsmEvent.{FsmEvent}
use Rattle.ppp_fsm.specs.declared.event.FsmEvent.TheVariants.{Up, Down, Open, Close, Timeout, RcrGood, RcrBad, Rca, Rcn, Rtr, Rta, Ruc, RxjGood, RxjBad, Rxr}
use Rattle.ppp_fsm.specs.declared.acts.Act.{Act}
use Rattle.ppp_fsm.specs.declared.acts.Act.TheVariants.{Tlu, Tld, Tls, Tlf, Irc, Zrc, Scr, Sca, Scn, Str, Sta, Scj, Ser}
use Rattle.ppp_fsm.specs.declared.fsm.Limits.{Limits}
use Rattle.ppp_fsm.specs.Fsm.{Automaton, Entry, never, row_of, timeout_at_0, timeout_above, acts_in, acts_of}
use Rattle.ppp_packet.specs.declared.packet.Packet.{Packet}
use Rattle.ppp_packet.specs.OptionsOf.{laid}
use Rattle.ppp_control.specs.declared.parts.Request.{Request}
use Rattle.ppp_control.specs.declared.negotiation.Negotiation.{Negotiation}
use Rattle.ppp_control.specs.declared.judging.Verdict.{Verdict}
use Rattle.ppp_control.specs.declared.judging.Verdict.TheVariants.{Ack, Nak, Reject}
use Rattle.ppp_control.specs.Given.{Given}
use Rattle.ppp_control.specs.Step.{left_by, sent_by, sent_by_all, moved, step_sends, answered}
use Rattle.ppp_control.specs.OwnPackets.{packet, request_packet, terminate_packet}
use Rattle.ppp_control.specs.Past.{Happened, sent_in, last_of, last_request, id_in, next_id_after, is_timeout, negotiation_after}
use Rattle.ppp_control.specs.Sent.{sent_for, each, sent_at}

-- which acts take an identifier or may repeat
abbrev numbers : Act → Bool
numbers Scr = true
numbers Str = true
numbers Scj = true
numbers _ = false

abbrev none_number : List Act → Bool
none_number [] = true
none_number (act ∷ acts) = not (numbers act) && none_number acts

-- at most one of them does
abbrev is_lone : List Act → Bool
is_lone [] = true
is_lone (act ∷ acts) = if numbers act then none_number acts else is_lone acts

abbrev RowLone : List Entry → Type 0
RowLone [] = Unit {0}
RowLone (entry ∷ entries) = (is_lone (acts_in entry) ≡ true) × RowLone entries

entry_lone : (state : ℕ) (entries : List Entry) → RowLone entries → is_lone (acts_in (slice_index_or entries state never)) ≡ true
entry_lone state [] row = refl
entry_lone zero (entry ∷ entries) row = row.0
entry_lone (suc state) (entry ∷ entries) row = entry_lone state entries row.1

timeouts_lone : (b : Bool) → RowLone (if b then timeout_at_0 else timeout_above)
timeouts_lone true = (refl, (refl, (refl, (refl, (refl, (refl, (refl, (refl, (refl, (refl, tt))))))))))
timeouts_lone false = (refl, (refl, (refl, (refl, (refl, (refl, (refl, (refl, (refl, (refl, tt))))))))))

rows_lone : (event : FsmEvent) (counter : ℕ) → RowLone (row_of event counter)
rows_lone Up counter = (refl, (refl, (refl, (refl, (refl, (refl, (refl, (refl, (refl, (refl, tt))))))))))
rows_lone Down counter = (refl, (refl, (refl, (refl, (refl, (refl, (refl, (refl, (refl, (refl, tt))))))))))
rows_lone Open counter = (refl, (refl, (refl, (refl, (refl, (refl, (refl, (refl, (refl, (refl, tt))))))))))
rows_lone Close counter = (refl, (refl, (refl, (refl, (refl, (refl, (refl, (refl, (refl, (refl, tt))))))))))
rows_lone Timeout counter = timeouts_lone (nat_eq counter 0)
rows_lone RcrGood counter = (refl, (refl, (refl, (refl, (refl, (refl, (refl, (refl, (refl, (refl, tt))))))))))
rows_lone RcrBad counter = (refl, (refl, (refl, (refl, (refl, (refl, (refl, (refl, (refl, (refl, tt))))))))))
rows_lone Rca counter = (refl, (refl, (refl, (refl, (refl, (refl, (refl, (refl, (refl, (refl, tt))))))))))
rows_lone Rcn counter = (refl, (refl, (refl, (refl, (refl, (refl, (refl, (refl, (refl, (refl, tt))))))))))
rows_lone Rtr counter = (refl, (refl, (refl, (refl, (refl, (refl, (refl, (refl, (refl, (refl, tt))))))))))
rows_lone Rta counter = (refl, (refl, (refl, (refl, (refl, (refl, (refl, (refl, (refl, (refl, tt))))))))))
rows_lone Ruc counter = (refl, (refl, (refl, (refl, (refl, (refl, (refl, (refl, (refl, (refl, tt))))))))))
rows_lone RxjGood counter = (refl, (refl, (refl, (refl, (refl, (refl, (refl, (refl, (refl, (refl, tt))))))))))
rows_lone RxjBad counter = (refl, (refl, (refl, (refl, (refl, (refl, (refl, (refl, (refl, (refl, tt))))))))))
rows_lone Rxr counter = (refl, (refl, (refl, (refl, (refl, (refl, (refl, (refl, (refl, (refl, tt))))))))))

table_lone : (a : Automaton) (event : FsmEvent) → is_lone (acts_of a event) ≡ true
unfolding acts_of
table_lone a event = entry_lone a.state (row_of event a.counter) (rows_lone event a.counter)

-- of a negotiation an act's packet sees the last request, the last Terminate-Request and the next identifier
record Same (a b : Negotiation) : Type 0 where
  pub request : a.request ≡ b.request
  pub terminate : a.terminate ≡ b.terminate
  pub next_id : a.next_id ≡ b.next_id

request_of_choice : (b : Bool) (m n : Negotiation) → (cond b m n).request ≡ cond b m.request n.request
request_of_choice true m n = refl
request_of_choice false m n = refl

terminate_of_choice : (b : Bool) (m n : Negotiation) → (cond b m n).terminate ≡ cond b m.terminate n.terminate
terminate_of_choice true m n = refl
terminate_of_choice false m n = refl

asked_by : Given → Option Request → ℕ → Option Packet
asked_by o request id = option_map request_packet (cond (o.repeats && is_some request) request (Some (record { id = id; options = o.asked })))

ended_by : Given → Option ℕ → ℕ → Option Packet
ended_by o terminate id = option_map terminate_packet (cond (o.repeats && is_some terminate) terminate (Some id))

scr_is : (o : Given) (n : Negotiation) → sent_by o n Scr ≡ asked_by o n.request n.next_id
unfolding asked_by
scr_is o n = ap (λ r. option_map request_packet r) (request_of_choice (o.repeats && is_some n.request) _ _)

str_is : (o : Given) (n : Negotiation) → sent_by o n Str ≡ ended_by o n.terminate n.next_id
unfolding ended_by
str_is o n = ap (λ r. option_map terminate_packet r) (terminate_of_choice (o.repeats && is_some n.terminate) _ _)

same_sent : (o : Given) (a b : Negotiation) (act : Act) → Same a b → sent_by o a act ≡ sent_by o b act
same_sent o a b Scr h = scr_is o a ∙ ap (λ r. asked_by o r a.next_id) h.request ∙ ap (λ i. asked_by o b.request i) h.next_id ∙ sym (scr_is o b)
same_sent o a b Str h = str_is o a ∙ ap (λ r. ended_by o r a.next_id) h.terminate ∙ ap (λ i. ended_by o b.terminate i) h.next_id ∙ sym (str_is o b)
same_sent o a b Scj h = ap (λ i. Some (packet 7 i o.rejected)) h.next_id
same_sent o a b Sca h = refl
same_sent o a b Scn h = refl
same_sent o a b Sta h = refl
same_sent o a b Ser h = refl
same_sent o a b Zrc h = refl
same_sent o a b Irc h = refl
same_sent o a b Tlu h = refl
same_sent o a b Tld h = refl
same_sent o a b Tls h = refl
same_sent o a b Tlf h = refl

numbered_is : {A : Type 0} → true ≡ false → A
numbered_is e = absurd (let x : true ≡ false = e in cc)

-- an act that takes no identifier
quiet_sent : (o : Given) (a b : Negotiation) (act : Act) → numbers act ≡ false → sent_by o a act ≡ sent_by o b act
quiet_sent o a b Scr e = numbered_is e
quiet_sent o a b Str e = numbered_is e
quiet_sent o a b Scj e = numbered_is e
quiet_sent o a b Sca e = refl
quiet_sent o a b Scn e = refl
quiet_sent o a b Sta e = refl
quiet_sent o a b Ser e = refl
quiet_sent o a b Zrc e = refl
quiet_sent o a b Irc e = refl
quiet_sent o a b Tlu e = refl
quiet_sent o a b Tld e = refl
quiet_sent o a b Tls e = refl
quiet_sent o a b Tlf e = refl

answered_same : (v : Verdict) (a b : Negotiation) → Same a b → Same (answered v a) b
answered_same Ack a b h = h
answered_same (Nak items) a b h = record { request = h.request; terminate = h.terminate; next_id = h.next_id }
answered_same (Reject items) a b h = h

quiet_left : (o : Given) (a b : Negotiation) (act : Act) → numbers act ≡ false → Same a b → Same (left_by o a act) b
quiet_left o a b Scr e h = numbered_is e
quiet_left o a b Str e h = numbered_is e
quiet_left o a b Scj e h = numbered_is e
quiet_left o a b Sca e h = record { request = h.request; terminate = h.terminate; next_id = h.next_id }
quiet_left o a b Scn e h = answered_same o.verdict a b h
quiet_left o a b Sta e h = h
quiet_left o a b Ser e h = h
quiet_left o a b Zrc e h = record { request = h.request; terminate = h.terminate; next_id = h.next_id }
quiet_left o a b Irc e h = h
quiet_left o a b Tlu e h = h
quiet_left o a b Tld e h = h
quiet_left o a b Tls e h = h
quiet_left o a b Tlf e h = h

both : (b c : Bool) → (not b && c) ≡ true → (b ≡ false) × (c ≡ true)
both false true e = (refl, refl)
both false false e = absurd (let x : false ≡ true = e in cc)
both true c e = absurd (let x : false ≡ true = e in cc)

each_quiet : (o : Given) (b : Negotiation) (acts : List Act) (a : Negotiation) → none_number acts ≡ true → sent_by_all o a acts ≡ each (sent_by o b) acts
each_quiet o b [] a e = refl
each_quiet o b (act ∷ acts) a e =
    let two = both (numbers act) (none_number acts) e in
    ap (λ p. option_to_list p ++ sent_by_all o (left_by o a act) acts) (quiet_sent o a b act two.0)
    ∙ ap (λ ps. option_to_list (sent_by o b act) ++ ps) (each_quiet o b acts (left_by o a act) two.1)

each_step : (o : Given) (b : Negotiation) (act : Act) (acts : List Act) (a : Negotiation) (numbered : Bool) → numbered ≡ numbers act → Same a b
    → cond numbered (none_number acts) (is_lone acts) ≡ true
    → ((m : Negotiation) → Same m b → is_lone acts ≡ true → sent_by_all o m acts ≡ each (sent_by o b) acts)
    → sent_by_all o (left_by o a act) acts ≡ each (sent_by o b) acts
each_step o b act acts a true is h e rest = each_quiet o b acts (left_by o a act) e
each_step o b act acts a false is h e rest = rest (left_by o a act) (quiet_left o a b act (sym is) h) e

each_lone : (o : Given) (b : Negotiation) (acts : List Act) (a : Negotiation) → Same a b → is_lone acts ≡ true → sent_by_all o a acts ≡ each (sent_by o b) acts
each_lone o b [] a h e = refl
each_lone o b (act ∷ acts) a h e =
    ap (λ p. option_to_list p ++ sent_by_all o (left_by o a act) acts) (same_sent o a b act h)
    ∙ ap (λ ps. option_to_list (sent_by o b act) ++ ps) (each_step o b act acts a (numbers act) refl h e (λ m. each_lone o b acts m))

-- by looking back
again_or : (b : Bool) (r : Option Request) (id : ℕ) (o : Given) → option_map request_packet (cond b r (Some (record { id = id; options = o.asked }))) ≡ cond b (option_map request_packet r) (Some (packet 1 id (laid o.asked)))
again_or true r id o = refl
again_or false r id o = refl

ended_or : (b : Bool) (r : Option ℕ) (id : ℕ) → option_map terminate_packet (cond b r (Some id)) ≡ cond b (option_map terminate_packet r) (Some (packet 5 id []))
ended_or true r id = refl
ended_or false r id = refl

act_back : (limits : Limits) (is_lcp : Bool) (past : List Happened) (o : Given) (event : FsmEvent) (act : Act) → o.repeats ≡ is_timeout (Some event)
    → sent_by o (negotiation_after limits o.restart_ms is_lcp past) act ≡ sent_for o event past act
unfolding asked_by ended_by
act_back limits is_lcp past o event Scr e =
    scr_is o (negotiation_after limits o.restart_ms is_lcp past)
    ∙ again_or (o.repeats && is_some (last_request (sent_in past))) (last_request (sent_in past)) (next_id_after past) o
    ∙ ap (λ b. cond (b && is_some (last_request (sent_in past))) (option_map request_packet (last_request (sent_in past))) (Some (packet 1 (next_id_after past) (laid o.asked)))) e
act_back limits is_lcp past o event Str e =
    str_is o (negotiation_after limits o.restart_ms is_lcp past)
    ∙ ended_or (o.repeats && is_some (option_map id_in (last_of 5 (sent_in past)))) (option_map id_in (last_of 5 (sent_in past))) (next_id_after past)
    ∙ ap (λ b. cond (b && is_some (option_map id_in (last_of 5 (sent_in past)))) (option_map terminate_packet (option_map id_in (last_of 5 (sent_in past)))) (Some (packet 5 (next_id_after past) []))) e
act_back limits is_lcp past o event Sca e = refl
act_back limits is_lcp past o event Scn e = refl
act_back limits is_lcp past o event Sta e = refl
act_back limits is_lcp past o event Scj e = refl
act_back limits is_lcp past o event Ser e = refl
act_back limits is_lcp past o event Zrc e = refl
act_back limits is_lcp past o event Irc e = refl
act_back limits is_lcp past o event Tlu e = refl
act_back limits is_lcp past o event Tld e = refl
act_back limits is_lcp past o event Tls e = refl
act_back limits is_lcp past o event Tlf e = refl

acts_back : (limits : Limits) (is_lcp : Bool) (past : List Happened) (o : Given) (event : FsmEvent) (acts : List Act) → o.repeats ≡ is_timeout (Some event)
    → each (sent_by o (negotiation_after limits o.restart_ms is_lcp past)) acts ≡ each (sent_for o event past) acts
acts_back limits is_lcp past o event [] e = refl
acts_back limits is_lcp past o event (act ∷ acts) e =
    ap (λ p. option_to_list p ++ each (sent_by o (negotiation_after limits o.restart_ms is_lcp past)) acts) (act_back limits is_lcp past o event act e)
    ∙ ap (λ ps. option_to_list (sent_for o event past act) ++ ps) (acts_back limits is_lcp past o event acts e)

pub sends_back : (limits : Limits) (is_lcp : Bool) (past : List Happened) (o : Given) (event : FsmEvent) (n : Negotiation) → n ≡ negotiation_after limits o.restart_ms is_lcp past → o.repeats ≡ is_timeout (Some event)
    → step_sends o event n ≡ sent_at o event past (acts_of n.fsm event)
unfolding step_sends
sends_back limits is_lcp past o event n e repeats =
    each_lone o n (acts_of n.fsm event) (moved event n) (record { request = refl; terminate = refl; next_id = refl }) (table_lone n.fsm event)
    ∙ ap (λ (m : Negotiation). each (sent_by o m) (acts_of n.fsm event)) e
    ∙ acts_back limits is_lcp past o event (acts_of n.fsm event) repeats
