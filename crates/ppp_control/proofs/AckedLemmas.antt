-- In Ack-Rcvd and in Opened our last request has been acknowledged.
use Rattle.std.proofs.Common.{◌≡◌, ℕ, Bool, true, false, cond, Option, Some, None, List, [], ◌∷◌, refl, ap, ◌∙◌}
use Rattle.std.specs.Prelude.{◌==◌, ◌&&◌, ◌||◌, not, option_map, option_to_list}
use Rattle.ppp_fsm.specs.declared.event.FsmEvent.{FsmEvent}
use Rattle.ppp_fsm.specs.declared.acts.Act.{Act}
use Rattle.ppp_fsm.specs.declared.acts.Act.TheVariants.{Tlu, Tld, Tls, Tlf, Irc, Zrc, Scr, Sca, Scn, Str, Sta, Scj, Ser}
use Rattle.ppp_fsm.specs.declared.fsm.Limits.{Limits}
use Rattle.ppp_fsm.specs.Acts.{has}
use Rattle.ppp_fsm.specs.Fsm.{Automaton, Entry, acts_in, acts_of, after}
use Rattle.ppp_fsm.proofs.TableLemmas.{each_entry, next_of, next_is}
use Rattle.ppp_packet.specs.declared.packet.Packet.{Packet}
use Rattle.ppp_control.specs.declared.negotiation.Negotiation.{Negotiation}
use Rattle.ppp_control.specs.declared.judging.Verdict.{Verdict}
use Rattle.ppp_control.specs.declared.judging.Verdict.TheVariants.{Ack, Nak, Reject}
use Rattle.ppp_control.specs.Given.{Given}
use Rattle.ppp_control.specs.Step.{left_by, sent_by, sent_by_all, moved, step_sends, terminated}
use Rattle.ppp_control.specs.OwnPackets.{packet, terminate_packet, verdict_packet}
use Rattle.ppp_control.specs.Past.{Happened, onto, last_of, sent_in, last_acked, is_rca, has_ack, IsAcked, automaton_after}
use Rattle.ppp_control.proofs.PastLemmas.{onto_more}

-- an entry that leads there sends no request, and comes from there or is an Ack's
abbrev keeps : FsmEvent → ℕ → Entry → Bool
keeps event state entry = not (has_ack (next_of state entry)) || (not (has Scr (acts_in entry)) && (has_ack state || is_rca (Some event)))

table_keeps : (a : Automaton) (event : FsmEvent) → (not (has_ack (after a event).state) || (not (has Scr (acts_of a event)) && (has_ack a.state || is_rca (Some event)))) ≡ true
unfolding acts_of
table_keeps a event =
    rw (next_is a event) (each_entry keeps refl (λ event state past. never_keeps (has_ack state) (is_rca (Some event))) a event)
  where
    never_keeps : (b rca : Bool) → (not b || (b || rca)) ≡ true
    never_keeps true rca = refl
    never_keeps false rca = refl

-- acts that send no request leave the last one
other_by_option : {X : Type 0} (f : X → Packet) (o : Option X) (log : List Packet) → ((x : X) → ((f x).code == 1) ≡ false) → last_of 1 (onto (option_to_list (option_map f o)) log) ≡ last_of 1 log
other_by_option f None log h = refl
other_by_option f (Some x) log h = ap (λ b. cond b (Some (f x)) (last_of 1 log)) (h x)

other_by_verdict : (id : ℕ) (v : Verdict) (log : List Packet) → last_of 1 (onto (option_to_list (verdict_packet id v)) log) ≡ last_of 1 log
other_by_verdict id Ack log = refl
other_by_verdict id (Nak items) log = refl
other_by_verdict id (Reject items) log = refl

same_request : (o : Given) (n : Negotiation) (act : Act) (acts : List Act) (log : List Packet) → has Scr (act ∷ acts) ≡ false → (last_of 1 (onto (option_to_list (sent_by o n act)) log) ≡ last_of 1 log) × (has Scr acts ≡ false)
same_request o n Scr acts log h = absurd (clash h)
  where
    clash : true ≡ false → ⊥
    clash e = cc
same_request o n Str acts log h = (other_by_option terminate_packet (terminated o n).terminate log (λ x. refl), h)
same_request o n Sca acts log h = (refl, h)
same_request o n Scn acts log h = (other_by_verdict o.id o.verdict log, h)
same_request o n Sta acts log h = (refl, h)
same_request o n Scj acts log h = (refl, h)
same_request o n Ser acts log h = (other_by_option (λ body. packet 10 o.id body) o.reply log (λ x. refl), h)
same_request o n Zrc acts log h = (refl, h)
same_request o n Irc acts log h = (refl, h)
same_request o n Tlu acts log h = (refl, h)
same_request o n Tld acts log h = (refl, h)
same_request o n Tls acts log h = (refl, h)
same_request o n Tlf acts log h = (refl, h)

same_requests : (o : Given) (acts : List Act) (n : Negotiation) (log : List Packet) → has Scr acts ≡ false → last_of 1 (onto (sent_by_all o n acts) log) ≡ last_of 1 log
same_requests o [] n log h = refl
same_requests o (act ∷ acts) n log h =
    let one = same_request o n act acts log h in
    ap (λ l. last_of 1 l) (onto_more (option_to_list (sent_by o n act)) (sent_by_all o (left_by o n act) acts) log)
    ∙ same_requests o acts (left_by o n act) (onto (option_to_list (sent_by o n act)) log) one.1
    ∙ one.0

parts : (a b c d : Bool) → (not a || (not b && (c || d))) ≡ true → a ≡ true → (b ≡ false) × ((c || d) ≡ true)
parts true false true d e f = (refl, refl)
parts true false false true e f = (refl, refl)
parts true false false false e f = absurd (let x : false ≡ true = e in cc)
parts true true c d e f = absurd (let x : false ≡ true = e in cc)
parts false b c d e f = absurd (let x : false ≡ true = f in cc)

either : (old rca : Bool) (x y z : Option Packet) → (old || rca) ≡ true → x ≡ y → (old ≡ true → y ≡ z) → x ≡ cond rca y z
either old true x y z e f g = f
either true false x y z e f g = f ∙ g refl
either false false x y z e f g = absurd (let h : false ≡ true = e in cc)

pub acked_back : (limits : Limits) (past : List Happened) (o : Given) (event : FsmEvent) (n : Negotiation) → n.fsm ≡ automaton_after limits past → IsAcked limits past
    → IsAcked limits (record { now = o.now; event = Some event; acts = acts_of n.fsm event; packets = step_sends o event n } ∷ past)
unfolding step_sends
acked_back limits past o event n e h =
    let a : Automaton = automaton_after limits past in
    record {
      last = λ now.
          let split = parts (has_ack (after a event).state) (has Scr (acts_of a event)) (has_ack a.state) (is_rca (Some event)) (table_keeps a event) now in
          either (has_ack a.state) (is_rca (Some event)) _ (last_of 1 (sent_in past)) (last_acked past) split.1
          (same_requests o (acts_of n.fsm event) (moved event n) (sent_in past) (ap (λ x. has Scr (acts_of x event)) e ∙ split.0))
          h.last;
    }
