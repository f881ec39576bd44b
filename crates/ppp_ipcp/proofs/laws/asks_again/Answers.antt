-- Each call computes.
use Rattle.std.proofs.Common.{ℕ, cond, refl, ap, sym}
use Rattle.std.specs.Prelude.{◌-◌, nat_eq, slice_index_or}
use Rattle.ppp_fsm.specs.Fsm.{acts_of, after, acts_in, timeout_at_0, timeout_above, never}
use Rattle.ppp_packet.specs.OptionList.{items_of, read_options}
use Rattle.ppp_control.specs.Answers.{answer_to}
use Rattle.ppp_ipcp.proofs.laws.asks_again.Goals as goal

pub returns : goal.returns
unfolding acts_of after read_options items_of answer_to
returns c limits e = (record { event = refl; acts = ap (λ (k : ℕ). acts_in (slice_index_or (cond (nat_eq (k - 1) 0) timeout_at_0 timeout_above) 6 never)) (sym e); packets = refl }, (record { event = refl; acts = refl; packets = refl }, (record { event = refl; acts = refl; packets = refl }, (record { event = refl; acts = refl; packets = refl }, tt))))
