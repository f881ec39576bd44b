use Rattle.std.proofs.Common.{ap, ◌∙◌, arith}
use Rattle.ppp_hooks.specs.HookFacts.{with_closed}
use Rattle.ppp_hooks.specs.HookMark.{Closed}
use Rattle.ppp_mark.specs.Log.{AreOf}
use Rattle.ppp_mark.specs.ScriptLog.{closed_mark}
use Rattle.ppp_mark.specs.Scripts.{said_in}
use Rattle.ppp_mark.proofs.ScriptLemmas.{closing_keeps, kept_on, said_after, said-closed, written}
use Rattle.ppp_mark.proofs.script_log.close_scripts.Goals as goal

is_written : goal.returns-clause-log
is_written g c =
    let old = c.args.log.now in
    let hooks = said_in old.past in
    let target = c.args.machine.now.target in
    let n = c.args.opening in
    rw (c.mark_start.ensures.log, c.add.ensures, c.mark_closed.ensures.value, c.target.ensures, c.starts-before.ensures.value)
    (written c.args.time old (closed_mark target c.args.time n) (Closed n) _ (said-closed target c.args.time n hooks)
    (c.closed.ensures.due hooks n c.requires.kept.stands))

pub returns-clause-log : goal.returns-clause-log
returns-clause-log g c = is_written g c

pub returns-clause-kept : goal.returns-clause-kept
returns-clause-kept g c =
    let old = c.args.log.now in
    let hooks = said_in old.past in
    let kept = c.requires.kept in
    let target = c.args.machine.now.target in
    let n = c.args.opening in
    let owner = rw c.target.ensures at c.mark_closed.ensures.of_target in
    let of_table : AreOf target c.mark_start.new.log.past =
    c.mark_start.ensures.of_table target (rw c.add.ensures (owner, c.mark_closed.ensures.in_table, kept.of_table)) in
    kept_on c.closed.new.self target old c.mark_start.new.log c.args.time (closed_mark target c.args.time n) (Closed n)
    (with_closed c.args.machine.now.facts) (is_written g c) (ap (λ m. m.target) c.closed.ensures.now) of_table kept.small
    (said-closed target c.args.time n hooks)
    (ap (λ m. m.facts) c.closed.ensures.now) (c.closed.ensures.stands hooks n kept.stands c.requires.opened)
    (omega (arith, kept.greatest)) kept.starts

is_said : goal.returns-clause-said
is_said g c =
    let old = c.args.log.now in
    let target = c.args.machine.now.target in
    ap (λ log. said_in log.past) (is_written g c)
    ∙ said_after c.args.time (closed_mark target c.args.time c.args.opening) (Closed c.args.opening) old (said-closed target c.args.time c.args.opening (said_in old.past))

pub returns-clause-said : goal.returns-clause-said
returns-clause-said g c = is_said g c

pub returns-clause-told : goal.returns-clause-told
returns-clause-told g c = λ before given tells.
    rw (is_said g c) (c.closed.ensures.told before given (said_in c.args.log.now.past) c.args.opening tells)

pub returns-clause-out : goal.returns-clause-out
returns-clause-out g c = λ before given job none last.
    rw (is_said g c) (c.closed.ensures.out before given (said_in c.args.log.now.past) c.args.opening job c.requires.kept.stands none last)

pub returns-clause-running : goal.returns-clause-running
returns-clause-running g c = closing_keeps c.args.opening (said_in c.args.log.now.past) _ (is_said g c)
