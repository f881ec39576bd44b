use Rattle.ppp_replay.proofs.HeadlineLemmas.{headline}
use Rattle.ppp_replay.proofs.RunLemmas.{fault_no_trace}
use Rattle.ppp_replay.proofs.run.replay_bare.Goals as goal

pub returns-in-Err-Bad : goal.returns-in-Err-Bad
returns-in-Err-Bad g c =
    let fault = rw c.in-Err-Bad.field-0-is at c.in-Err-Bad.ensures in
    rw c.refuse.ensures.ending (
      λ steps trace. fault_no_trace c.args.octets.now steps c.in-Err-Bad.bad trace fault,
      (c.in-Err-Bad.bad, fault, rw c.in-Err-Bad.bad-is at c.refuse.ensures.line),
    )

pub returns-then-put_text : goal.returns-then-put_text
returns-then-put_text g c = (c.in-Ok.steps.items, c.in-Ok.ensures, headline c.in-Ok.steps.items, rw c.deref.ensures.value at c.if-put_text.ensures.whole)

pub returns : goal.returns
returns g c = (c.in-Ok.steps.items, c.in-Ok.ensures, headline c.in-Ok.steps.items, rw c.deref.ensures.value at c.if-put_text.ensures.part)
