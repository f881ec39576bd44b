use Rattle.std.proofs.Common.{◌<◌, ◌+◌, ◌++◌, drop, get_or, length, sym, ◌∙◌, ap, append_assoc, arith}
use Rattle.std.specs.List.{flat_map}
use Rattle.std.proofs.lemmas.List.{drop_more}
use Rattle.ppp_fsm.specs.declared.acts.Act.TheVariants.{Tlu}
use Rattle.ppp_outside.proofs.PutLemmas.{puts_then}
use Rattle.ppp_replay.specs.BareText.{next_act}
use Rattle.ppp_replay.proofs.text.put_acts.Goals as goal

pub loop-act-preserved : goal.loop-act-preserved
loop-act-preserved g c =
    let others = c.in-Some.others.now in
    let i = c.loop-act.act-index in
    let act = get_or others i Tlu in
    let front = c.loop-act.invariant.0 in
    let below : i < length others = omega arith in
    let word = rw (c.as_bytes-in-loop-act.ensures.value, c.name-in-loop-act.ensures) at c.put-in-loop-act-2.ensures in (
      front ++ next_act act,
      puts_then c.loop-act.invariant.1 (puts_then c.put-in-loop-act.ensures word),
      append_assoc front (next_act act) (flat_map next_act (drop (i + 1) others))
          ∙ ap (λ acts. front ++ flat_map next_act acts) (sym (drop_more others i Tlu below))
          ∙ c.loop-act.invariant.2,
    )
