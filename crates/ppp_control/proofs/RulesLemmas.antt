-- A step, and a call that is no event, keep what looking back says.
use Rattle.std.proofs.Common.{◌≡◌, ℕ, Bool, true, false, cond, Some, None, List, [], ◌∷◌, refl, ap, sym, ◌∙◌, subst}
use Rattle.ppp_fsm.specs.declared.event.FsmEvent.{FsmEvent}
use Rattle.ppp_fsm.specs.Fsm.{acts_of}
use Rattle.ppp_packet.specs.declared.packet.Packet.{Packet}
use Rattle.ppp_control.specs.declared.negotiation.Negotiation.{Negotiation}
use Rattle.ppp_control.specs.declared.classes.HeardAs.{HeardAs}
use Rattle.ppp_control.specs.declared.classes.HeardAs.TheVariants.{Request as Asks, Ack as Acked, Nak as Named, Reject as Rejected, Event, Discarded}
use Rattle.ppp_control.specs.Given.{Given}
use Rattle.ppp_control.specs.OwnPackets.{packet}
use Rattle.ppp_control.specs.Start.{started}
use Rattle.ppp_control.specs.Step.{stepped, step_sends, next_of}
use Rattle.ppp_control.specs.Class.{class_of}
use Rattle.ppp_control.specs.Past.{Happened, automaton_after, negotiation_after, is_timeout}
use Rattle.ppp_control.specs.Sent.{sent_at}
use Rattle.ppp_control.specs.Rules.{Rules, Call, by_itself, ticks, hears, rejects, Called, Negotiates, happened_in, heard_in, verdict_in, event_in, comes_with, comes_heard, aside}
use Rattle.ppp_control.proofs.TimingLemmas.{step_back, quiet_back, numbered_back}
use Rattle.ppp_control.proofs.AckedLemmas.{acked_back}
use Rattle.ppp_control.proofs.SentLemmas.{sends_back}

-- What a call comes with has its moment, the restart time, and repeats at a timeout.
record Comes (g : Given) (moment ms : ℕ) (event : FsmEvent) : Type 0 where
  pub now : g.now ≡ moment
  pub restart_ms : g.restart_ms ≡ ms
  pub repeats : g.repeats ≡ is_timeout (Some event)

comes_heard_so : {A : Type 0} (r : Rules A) (past : List (Called A)) (now : ℕ) (p : Packet) (a : A) (event : FsmEvent) (h : HeardAs)
    → class_of (verdict_in r past a) h ≡ Some event → Comes (comes_heard r past now p a event h) now r.restart_ms event
comes_heard_so r past now p a event (Asks items) e = record { now = refl; restart_ms = refl; repeats = ap is_timeout e }
comes_heard_so r past now p a event Acked e = record { now = refl; restart_ms = refl; repeats = refl }
comes_heard_so r past now p a event (Named items) e = record { now = refl; restart_ms = refl; repeats = refl }
comes_heard_so r past now p a event (Rejected items) e = record { now = refl; restart_ms = refl; repeats = refl }
comes_heard_so r past now p a event (Event other) e = record { now = refl; restart_ms = refl; repeats = refl }
comes_heard_so r past now p a event Discarded e = record { now = refl; restart_ms = refl; repeats = refl }

comes_so : {A : Type 0} (r : Rules A) (past : List (Called A)) (now : ℕ) (event : FsmEvent) (call : Call A)
    → event_in r past now call ≡ Some event → Comes (comes_with r past now event call) now r.restart_ms event
comes_so r past now event (by_itself own) e = record { now = refl; restart_ms = refl; repeats = refl }
comes_so r past now event ticks e = record { now = refl; restart_ms = refl; repeats = refl }
comes_so r past now event (hears p a) e = comes_heard_so r past now p a event (heard_in r.is_lcp past p) e
comes_so r past now event (rejects protocol information) e = record { now = refl; restart_ms = refl; repeats = refl }

pub begun : {A : Type 0} (r : Rules A) → Negotiates r (started r.limits r.restart_ms r.is_lcp) []
begun r = record { state = refl; acked = record { last = λ e. refl }; lawful = tt }

pub steps_so : {A : Type 0} (r : Rules A) (past : List (Called A)) (n : Negotiation) (now : ℕ) (call : Call A) (event : FsmEvent) (g : Given)
    → Negotiates r n past → event_in r past now call ≡ Some event → g ≡ comes_with r past now event call
    → Negotiates r (stepped g event n) (record { call = call; happened = record { now = now; event = Some event; acts = acts_of n.fsm event; packets = step_sends g event n } } ∷ past)
steps_so r past n now call event g h e f =
    let comes : Comes g now r.restart_ms event = subst (λ (x : Given). Comes x now r.restart_ms event) (sym f) (comes_so r past now event call e) in
    let before : List Happened = happened_in past in
    let same : n ≡ negotiation_after r.limits g.restart_ms r.is_lcp before = h.state ∙ ap (λ ms. negotiation_after r.limits ms r.is_lcp before) (sym comes.restart_ms) in
    let fsm : n.fsm ≡ automaton_after r.limits before = ap (λ (x : Negotiation). x.fsm) h.state in
    let moment : g.now ≡ now = comes.now in
    record {
      state = step_back r.limits r.is_lcp before g event n same comes.repeats
          ∙ ap (λ ms. negotiation_after r.limits ms r.is_lcp (record { now = g.now; event = Some event; acts = acts_of n.fsm event; packets = step_sends g event n } ∷ before)) comes.restart_ms
          ∙ ap (λ t. negotiation_after r.limits r.restart_ms r.is_lcp (record { now = t; event = Some event; acts = acts_of n.fsm event; packets = step_sends g event n } ∷ before)) moment;
      acked = record { last = (acked_back r.limits before g event n fsm h.acked).last };
      lawful = (
        record {
          event = sym e;
          acts = ap (λ a. acts_of a event) fsm;
          packets = sends_back r.limits r.is_lcp before g event n same comes.repeats ∙ ap (λ (x : Given). sent_at x event before (acts_of n.fsm event)) f;
        },
        h.lawful,
      );
    }

pub quiet_so : {A : Type 0} (r : Rules A) (past : List (Called A)) (n : Negotiation) (now : ℕ) (call : Call A) → Negotiates r n past → event_in r past now call ≡ None → aside r past now call ≡ []
    → Negotiates r n (record { call = call; happened = record { now = now; event = None; acts = []; packets = [] } } ∷ past)
quiet_so r past n now call h e f = record {
  state = h.state ∙ sym (quiet_back r.limits r.restart_ms r.is_lcp now (happened_in past));
  acked = record { last = h.acked.last };
  lawful = (record { event = sym e; acts = refl; packets = sym f }, h.lawful);
}

pub numbered_so : {A : Type 0} (r : Rules A) (past : List (Called A)) (n : Negotiation) (now : ℕ) (call : Call A) (is_echo : Bool) (body : List ℕ) → Negotiates r n past → event_in r past now call ≡ None
    → aside r past now call ≡ packet (cond is_echo 9 8) n.next_id body ∷ []
    → Negotiates r (record n { next_id = next_of n.next_id }) (record { call = call; happened = record { now = now; event = None; acts = []; packets = packet (cond is_echo 9 8) n.next_id body ∷ [] } } ∷ past)
numbered_so r past n now call true body h e f = record {
  state = ap (λ (x : Negotiation). record x { next_id = next_of x.next_id }) h.state ∙ sym (numbered_back r.limits r.restart_ms r.is_lcp now true n.next_id body (happened_in past));
  acked = record { last = h.acked.last };
  lawful = (record { event = sym e; acts = refl; packets = sym f }, h.lawful);
}
numbered_so r past n now call false body h e f = record {
  state = ap (λ (x : Negotiation). record x { next_id = next_of x.next_id }) h.state ∙ sym (numbered_back r.limits r.restart_ms r.is_lcp now false n.next_id body (happened_in past));
  acked = record { last = h.acked.last };
  lawful = (record { event = sym e; acts = refl; packets = sym f }, h.lawful);
}
