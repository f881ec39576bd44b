-- What the acts of an automaton (RFC 1661, 4.4) do to the scripts of its unit (pppd(8), "Scripts"): This-Layer-Up opens the protocol under the
-- next number, This-Layer-Down closes it, and no other act does anything. The newest mark comes first.
use Rattle.std.specs.Prelude.{◌+◌, List, [], ◌∷◌, ◌++◌}
use Rattle.ppp_base.specs.declared.hook_target.HookTarget.TheVariants.{Unit as OfUnit}
use Rattle.ppp_fsm.specs.declared.acts.Act.{Act}
use Rattle.ppp_fsm.specs.declared.acts.Act.TheVariants.{Tlu, Tld}
use Rattle.ppp_hooks.specs.HookCall.{closed_marks}
use Rattle.ppp_hooks.specs.HookMark.{HookMark, Opened}
use Rattle.ppp_hooks.specs.HookPast.{open_in, greatest_in}
use Rattle.ppp_hooks.specs.HookRule.{with_due}
use Rattle.ppp_mark.specs.Log.{LogState}
use Rattle.ppp_mark.specs.ScriptLog.{log_closed, log_opened}

-- what is said of the scripts then
abbrev pub after_act : Act → List HookMark → List HookMark
after_act Tlu past = with_due (Opened (greatest_in past + 1) ∷ past)
after_act Tld past = with_due (closed_marks (open_in past) ++ past)
after_act _ past = past

unfoldable pub after_acts : List Act → List HookMark → List HookMark
after_acts [] past = past
after_acts (act ∷ acts) past = after_acts acts (after_act act past)

-- the log of unit 0 then, whose marks have time 0
abbrev pub log_act : Act → LogState → LogState
log_act Tlu log = log_opened (OfUnit 0) 0 log
log_act Tld log = log_closed (OfUnit 0) 0 log
log_act _ log = log

unfoldable pub log_acts : List Act → LogState → LogState
log_acts [] log = log
log_acts (act ∷ acts) log = log_acts acts (log_act act log)
