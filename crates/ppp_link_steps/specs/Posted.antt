-- What is to be sent or rejected goes by the present stay.
use Rattle.std.specs.Prelude.{ℕ, List}
use Rattle.ppp_link_rules.specs.LinkState.{LinkState, control}
use Rattle.ppp_link_rules.specs.Posts.{rejected_in, sent_in}

abbrev pub sent_now : ℕ → List ℕ → LinkState → LinkState
sent_now protocol information s = sent_in (control s).stay protocol information s

abbrev pub rejected_now : ℕ → List ℕ → LinkState → LinkState
rejected_now protocol information s = rejected_in (control s).stay protocol information s
