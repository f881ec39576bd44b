-- What both ends acknowledged, by what the negotiation has.
use Rattle.std.proofs.Common.{◌≡◌, ℕ, Bool, true, false, cond, Option, Some, None, List, refl, ap, ◌∙◌}
use Rattle.std.specs.Prelude.{◌==◌, ◌||◌, option_map}
use Rattle.ppp_fsm.specs.declared.fsm.Limits.{Limits}
use Rattle.ppp_packet.specs.declared.packet.Packet.{Packet}
use Rattle.ppp_packet.specs.OptionsOf.{Item}
use Rattle.ppp_control.specs.Class.{last_options}
use Rattle.ppp_control.specs.declared.negotiation.Negotiation.{Negotiation}
use Rattle.ppp_control.specs.Past.{Happened, Agreement, agreement_after, is_open_after, automaton_after, sent_in, last_of, last_request, request_in, options_in, last_acked, IsAcked}
use Rattle.ppp_control.specs.Rules.{Rules, Called, Negotiates, happened_in}
use Rattle.ppp_control.specs.Start.{agreement}

options_of : (found : Option Packet) → last_options (option_map request_in found) ≡ options_in found
options_of None = refl
options_of (Some p) = refl

either_is : (a b : Bool) → b ≡ true → (a || b) ≡ true
either_is true b e = refl
either_is false b e = e

abbrev two : List Item → List Item → Agreement
two ours theirs = record { ours = ours; theirs = theirs }

by_state : (opened : Bool) (limits : Limits) (past : List Happened) → is_open_after limits past ≡ opened → IsAcked limits past
    → cond opened (Some (two (last_options (last_request (sent_in past))) (options_in (last_of 2 (sent_in past))))) None
    ≡ cond opened (Some (two (options_in (last_acked past)) (options_in (last_of 2 (sent_in past))))) None
by_state true limits past e h =
    let state : ℕ = (automaton_after limits past).state in
    let same : last_of 1 (sent_in past) ≡ last_acked past = h.last (either_is (state == 7) (state == 9) e) in
    ap (λ (ours : List Item). Some (two ours (options_in (last_of 2 (sent_in past))))) (options_of (last_of 1 (sent_in past)) ∙ ap options_in same)
by_state false limits past e h = refl

pub agreement_so : {A : Type 0} (r : Rules A) (n : Negotiation) (past : List (Called A)) → Negotiates r n past → agreement n ≡ agreement_after r.limits (happened_in past)
agreement_so r n past h = ap agreement h.state ∙ by_state (is_open_after r.limits (happened_in past)) r.limits (happened_in past) refl h.acked
