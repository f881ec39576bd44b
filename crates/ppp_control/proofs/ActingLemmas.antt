-- One more act is done.
use Rattle.std.proofs.Common.{◌≡◌, ℕ, ◌+◌, ◌<◌, ◌≤◌, Option, Some, None, List, [], ◌∷◌, ◌++◌, length, get_or, drop, refl, ap, sym, ◌∙◌, append_assoc, arith, length-append, add-one, drop-cons}
use Rattle.std.specs.Prelude.{option_to_list}
use Rattle.std.proofs.lemmas.Grind.{common_steps}
use Rattle.ppp_fsm.specs.declared.event.FsmEvent.{FsmEvent}
use Rattle.ppp_fsm.specs.declared.acts.Act.{Act}
use Rattle.ppp_fsm.specs.Fsm.{acts_of}
use Rattle.ppp_packet.specs.declared.packet.Packet.{Packet}
use Rattle.ppp_control.specs.Given.{Given}
use Rattle.ppp_control.specs.declared.negotiation.Negotiation.{Negotiation}
use Rattle.ppp_control.specs.Step.{left_by, sent_by, left_by_all, sent_by_all, timed, moved, stepped, step_sends}

-- So many acts are done: they and those that are left are all.
pub record IsActing (o : Given) (first : Negotiation) (acts : List Act) (n : Negotiation) (packets : List Packet) (done : ℕ) : Type 0 where
  pub leaves : left_by_all o n (drop done acts) ≡ left_by_all o first acts
  pub sends : packets ++ sent_by_all o n (drop done acts) ≡ sent_by_all o first acts
  pub few : length packets ≤ done
  pub acts_few : length acts ≤ 3

at_most_one : {X : Type 0} (o : Option X) → length (option_to_list o) ≤ 1
at_most_one None = omega arith
at_most_one (Some x) = omega arith

pub acting_more : (o : Given) (first : Negotiation) (acts : List Act) (n : Negotiation) (packets : List Packet) (done : ℕ) (d : Act) (n' : Negotiation) (sent : Option Packet) (packets' : List Packet)
    → done < length acts → n' ≡ left_by o n (get_or acts done d) → sent ≡ sent_by o n (get_or acts done d) → packets' ≡ packets ++ option_to_list sent
    → IsActing o first acts n packets done → IsActing o first acts n' packets' (done + 1)
acting_more o first acts n packets done d n' sent packets' within e f g h =
    let a : Act = get_or acts done d in
    let front : drop done acts ≡ a ∷ drop (done + 1) acts = rw add-one (drop-cons acts done d within) in
    record {
      leaves = ap (λ x. left_by_all o x (drop (done + 1) acts)) e ∙ sym (ap (λ x. left_by_all o n x) front) ∙ h.leaves;
      sends =
          ap (λ x. x ++ sent_by_all o n' (drop (done + 1) acts)) (g ∙ ap (λ x. packets ++ option_to_list x) f)
          ∙ ap (λ x. (packets ++ option_to_list (sent_by o n a)) ++ sent_by_all o x (drop (done + 1) acts)) e
          ∙ append_assoc packets (option_to_list (sent_by o n a)) (sent_by_all o (left_by o n a) (drop (done + 1) acts))
          ∙ sym (ap (λ x. packets ++ sent_by_all o n x) front) ∙ h.sends;
      few = omega (arith, ap length g, length-append packets (option_to_list sent), at_most_one sent, h.few);
      acts_few = h.acts_few;
    }

nothing_left : (acts : List Act) (done : ℕ) → length acts ≤ done → drop done acts ≡ []
nothing_left acts done h = grind (arith, common_steps)

append_nil : (xs : List Packet) → xs ++ [] ≡ xs
append_nil [] = refl
append_nil (x ∷ xs) = ap (λ ys. x ∷ ys) (append_nil xs)

-- When all are done, the step is done.
pub acted_leaves : (o : Given) (event : FsmEvent) (old first : Negotiation) (acts acts' : List Act) (n : Negotiation) (packets : List Packet) (done : ℕ)
    → first ≡ moved event old → acts ≡ acts' → acts' ≡ acts_of old.fsm event → length acts ≤ done → IsActing o first acts n packets done
    → (timed n ≡ stepped o event old) × (packets ≡ step_sends o event old)
unfolding stepped step_sends
acted_leaves o event old first acts acts' n packets done e f g over h =
    let left : n ≡ left_by_all o (moved event old) (acts_of old.fsm event) = sym (ap (λ x. left_by_all o n x) (nothing_left acts done over)) ∙ h.leaves ∙ ap (λ x. left_by_all o x acts) e ∙ ap (λ x. left_by_all o (moved event old) x) (f ∙ g) in
    let sent : packets ≡ sent_by_all o (moved event old) (acts_of old.fsm event) = sym (append_nil packets) ∙ sym (ap (λ x. packets ++ sent_by_all o n x) (nothing_left acts done over)) ∙ h.sends ∙ ap (λ x. sent_by_all o x acts) e ∙ ap (λ x. sent_by_all o (moved event old) x) (f ∙ g) in
    (ap timed left, sent)

pub acting_none : (o : Given) (first : Negotiation) (acts : List Act) (packets : List Packet) → packets ≡ [] → length acts ≤ 3 → IsActing o first acts first packets 0
acting_none o first acts packets e h = record {
  leaves = refl;
  sends = ap (λ x. x ++ sent_by_all o first acts) e;
  few = omega (arith, ap length e);
  acts_few = h;
}
