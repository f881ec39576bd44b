use Rattle.std.proofs.Common.{◌≡◌, ◌+◌, ap, sym, ◌∙◌, arith}
use Rattle.ppp_hooks.specs.HookFacts.{with_open}
use Rattle.ppp_hooks.specs.HookMark.{Opened}
use Rattle.ppp_mark.specs.Log.{AreOf}
use Rattle.ppp_mark.specs.ScriptLog.{next_opening, opened_mark, with_due_mark}
use Rattle.ppp_mark.specs.Scripts.{said_in}
use Rattle.ppp_mark.proofs.ScriptLemmas.{is_shut, kept_on, opening_keeps, said_after, said-opened, written}
use Rattle.ppp_mark.proofs.script_log.open_scripts.Goals as goal

pub returns-clause-machine : goal.returns-clause-machine
returns-clause-machine g c = rw (← c.greatest-opening.ensures.of_past (said_in c.args.log.now.past) c.requires.kept.stands) c.opened.ensures.now

is_written : goal.returns-clause-log
is_written g c =
    let old = c.args.log.now in
    let hooks = said_in old.past in
    let target = c.args.machine.now.target in
    let n = c.greatest-opening.result + 1 in
    let number : n ≡ next_opening old = ap (λ k. k + 1) (c.greatest-opening.ensures.of_past hooks c.requires.kept.stands) in
    rw (← number, c.mark_start.ensures.log, c.add.ensures, c.mark_open.ensures.value, c.target.ensures, c.starts-before.ensures.value)
    (written c.args.time old (opened_mark target c.args.time n) (Opened n) _ (said-opened target c.args.time n hooks)
    (c.opened.ensures.due hooks c.requires.kept.stands))

pub returns-clause-log : goal.returns-clause-log
returns-clause-log g c = is_written g c

pub returns-clause-kept : goal.returns-clause-kept
returns-clause-kept g c =
    let old = c.args.log.now in
    let hooks = said_in old.past in
    let kept = c.requires.kept in
    let target = c.args.machine.now.target in
    let n = c.greatest-opening.result + 1 in
    let number : n ≡ next_opening old = ap (λ k. k + 1) (c.greatest-opening.ensures.of_past hooks kept.stands) in
    let after : c.mark_start.new.log ≡ with_due_mark c.args.time (opened_mark target c.args.time n) old =
    is_written g c ∙ ap (λ k. with_due_mark c.args.time (opened_mark target c.args.time k) old) (sym number) in
    let owner = rw c.target.ensures at c.mark_open.ensures.of_target in
    let of_table : AreOf target c.mark_start.new.log.past =
    c.mark_start.ensures.of_table target (rw c.add.ensures (owner, c.mark_open.ensures.in_table, kept.of_table)) in
    kept_on c.opened.new.self target old c.mark_start.new.log c.args.time (opened_mark target c.args.time n) (Opened n)
    (with_open c.args.machine.now.facts n c.args.args) after (ap (λ m. m.target) c.opened.ensures.now) of_table kept.small
    (said-opened target c.args.time n hooks)
    (ap (λ m. m.facts) c.opened.ensures.now) (c.opened.ensures.stands hooks kept.stands)
    (omega (arith, kept.greatest, c.greatest-opening.ensures.value)) kept.starts

pub opened-requires-clause-closed : goal.opened-requires-clause-closed
opened-requires-clause-closed g c = is_shut c.args.machine.now c.args.log.now c.requires.kept c.requires.closed

is_said : goal.returns-clause-said
is_said g c =
    let old = c.args.log.now in
    let target = c.args.machine.now.target in
    ap (λ log. said_in log.past) (is_written g c)
    ∙ said_after c.args.time (opened_mark target c.args.time (next_opening old)) (Opened (next_opening old)) old (said-opened target c.args.time (next_opening old) (said_in old.past))

pub returns-clause-said : goal.returns-clause-said
returns-clause-said g c = is_said g c

pub returns-clause-told : goal.returns-clause-told
returns-clause-told g c = λ before given tells.
    let old = c.args.log.now in
    let hooks = said_in old.past in
    let number : c.greatest-opening.result + 1 ≡ next_opening old = ap (λ k. k + 1) (c.greatest-opening.ensures.of_past hooks c.requires.kept.stands) in
    rw (is_said g c, ← number) (c.opened.ensures.told before given hooks tells)

pub returns-clause-out : goal.returns-clause-out
returns-clause-out g c = λ before given job none last.
    let old = c.args.log.now in
    let hooks = said_in old.past in
    let number : c.greatest-opening.result + 1 ≡ next_opening old = ap (λ k. k + 1) (c.greatest-opening.ensures.of_past hooks c.requires.kept.stands) in
    rw (is_said g c, ← number) (c.opened.ensures.out before given hooks job c.requires.kept.stands none last)

pub returns-clause-running : goal.returns-clause-running
returns-clause-running g c = opening_keeps (next_opening c.args.log.now) (said_in c.args.log.now.past) _ (is_said g c)
