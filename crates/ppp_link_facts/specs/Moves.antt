-- Which events change what a link does while no session lasts (pppd(8), "persist", "demand", "holdoff" and "SIGNALS"): a begin, the end of a hold by time or by a hang-up, a packet
-- in a wait, and a signal to stop.
use Rattle.std.specs.Prelude.{Bool, true, false, is_some}
use Rattle.ppp_base.specs.declared.posts.Post.TheVariants.{Wake}
use Rattle.ppp_base.specs.declared.signal_word.SignalWord.TheVariants.{Hup, Int, Term}
use Rattle.ppp_link_rules.specs.LinkEvent.{Event, Begin, FromTable, Signal, Tick}
use Rattle.ppp_link_rules.specs.Marks.{Doing, New, Dials, HasLine, IsOver, Holds, Waits, HasFinished, hold_by, is_new}

abbrev pub is_waits : Doing → Bool
is_waits New = false
is_waits Dials = false
is_waits HasLine = false
is_waits IsOver = false
is_waits (Holds until) = false
is_waits Waits = true
is_waits (HasFinished status) = false

abbrev pub may_move : Event → Doing → Bool
may_move Begin doing = is_new doing
may_move (Tick now) doing = is_some (hold_by doing)
may_move (Signal Hup) doing = is_some (hold_by doing)
may_move (Signal Int) doing = true
may_move (Signal Term) doing = true
may_move (FromTable Wake) doing = is_waits doing
may_move _ doing = false
