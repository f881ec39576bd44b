-- What a signal does (pppd(8), "SIGNALS"): INT and TERM stop the link; HUP ends a session, or a hold at once. A signal that changes nothing has no mark.
use Rattle.std.specs.Prelude.{◌||◌, Bool, true, false, is_some}
use Rattle.ppp_base.specs.declared.signal_word.SignalWord.{SignalWord}
use Rattle.ppp_base.specs.declared.signal_word.SignalWord.TheVariants.{Hup, Int, Term, Usr1, Usr2}
use Rattle.ppp_dial.specs.declared.call.CallKind.TheVariants as call
use Rattle.ppp_mark.specs.Marks.{signal_mark, signal_number}
use Rattle.ppp_link_rules.specs.CauseStatus.{signalled}
use Rattle.ppp_link_rules.specs.Dialling.{dial_says}
use Rattle.ppp_link_rules.specs.Ending.{ended_by}
use Rattle.ppp_link_rules.specs.LinkState.{LinkState, control, is_busy}
use Rattle.ppp_link_rules.specs.Marking.{marked}
use Rattle.ppp_link_rules.specs.Marks.{hold_by, status_by}
use Rattle.ppp_link_rules.specs.Sessions.{dial_answered}

abbrev pub signal_marked : SignalWord → LinkState → LinkState
signal_marked word s = marked (λ time. signal_mark time word) s

-- HUP: a session that has no cause ends; a hold ends at once.
abbrev pub hung_up_by : Bool → Bool → LinkState → LinkState
hung_up_by true holds s = ended_by (signalled 1) (signal_marked Hup s)
hung_up_by false true s = let heard : LinkState = signal_marked Hup s in dial_answered (dial_says call.Hup heard) heard
hung_up_by false false s = s

abbrev pub hung_up : LinkState → LinkState
hung_up s = hung_up_by (is_busy s) (is_some (hold_by (control s).doing)) s

-- INT and TERM: the first one stops a link that hasn't finished, at once or with its session, which ends unless it has a cause.
abbrev pub stopping : SignalWord → LinkState → LinkState
stopping word s = ended_by (signalled (signal_number word)) (dial_answered (dial_says call.Stop s) s)

abbrev pub stopped_by : Bool → SignalWord → LinkState → LinkState
stopped_by true word s = s
stopped_by false word s = stopping word (signal_marked word s)

abbrev pub stopped : SignalWord → LinkState → LinkState
stopped word s = stopped_by ((control s).stopped || is_some (status_by (control s).doing)) word s

unfoldable pub signal_taken : SignalWord → LinkState → LinkState
signal_taken Hup s = hung_up s
signal_taken Int s = stopped Int s
signal_taken Term s = stopped Term s
signal_taken Usr1 s = s
signal_taken Usr2 s = s
