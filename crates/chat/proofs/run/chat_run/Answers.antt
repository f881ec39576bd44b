use Rattle.std.proofs.Common.{refl}
use Rattle.chat.proofs.RunLemmas.{complete_of, run_ends, run_numbered}
use Rattle.chat.specs.declared.ending.Ending.TheVariants.{Refused}
use Rattle.chat.proofs.run.chat_run.Goals as goal

pub status-requires : goal.status-requires
status-requires g c =
    run_numbered g.D.In.LineIn.state g.D.In.LineIn.coming g.D.Out.Sink.state g.C.Clock.state _ _ _ c.in-Ok.plan _ _ _ _ c.run_plan-ending.result.ending c.run_plan-ending.result.line
    c.in-Ok.ensures c.run_plan-ending.ensures

pub returns-in-Err-clause-answers : goal.returns-in-Err-clause-answers
returns-in-Err-clause-answers g c = record {
  ending = Refused c.in-Err.refusal;
  status_is = c.refuse.ensures.status;
  ends = record { plan = c.in-Err.ensures; tells = c.refuse.ensures.tells; dialer = refl; clock = refl; none = refl };
}

pub returns-in-Err-clause-complete : goal.returns-in-Err-clause-complete
returns-in-Err-clause-complete g c = λ all told.
    complete_of g.D.In.LineIn.state g.D.In.LineIn.coming g.D.Out.Sink.state g.C.Clock.state _ _ _ _ _ all (returns-in-Err-clause-answers g c) told
