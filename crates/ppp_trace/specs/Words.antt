-- The words of events.
use Rattle.std.specs.Prelude.{ℕ, List, codes}
use Rattle.ppp_fsm.specs.declared.event.FsmEvent.{FsmEvent}
use Rattle.ppp_fsm.specs.declared.event.FsmEvent.TheVariants.{Up, Down, Open, Close, Timeout, RcrGood, RcrBad, Rca, Rcn, Rtr, Rta, Ruc, RxjGood, RxjBad, Rxr}

unfoldable pub word_of : FsmEvent → List ℕ
word_of Open = codes "open"
word_of Close = codes "close"
word_of Up = codes "up"
word_of Down = codes "down"
word_of Timeout = codes "timeout"
word_of RcrGood = codes "rcr+"
word_of RcrBad = codes "rcr-"
word_of Rca = codes "rca"
word_of Rcn = codes "rcn"
word_of Rtr = codes "rtr"
word_of Rta = codes "rta"
word_of Ruc = codes "ruc"
word_of RxjGood = codes "rxj+"
word_of RxjBad = codes "rxj-"
word_of Rxr = codes "rxr"
