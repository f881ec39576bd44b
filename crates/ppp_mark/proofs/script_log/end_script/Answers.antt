use Rattle.std.proofs.Common.{◌≡◌, ◌+◌, ap, ◌∙◌, arith, refl}
use Rattle.ppp_hooks.specs.HookFacts.{with_end}
use Rattle.ppp_hooks.specs.HookMark.{Ended}
use Rattle.ppp_hooks.specs.HookPast.{ends_in}
use Rattle.ppp_mark.specs.Marks.{ended_mark}
use Rattle.ppp_mark.specs.Log.{AreOf}
use Rattle.ppp_mark.specs.ScriptLog.{with_due_mark}
use Rattle.ppp_mark.specs.Scripts.{said_in}
use Rattle.ppp_mark.proofs.ScriptLemmas.{kept_on, said_after, said-ended, written, ended-owner, job-number, running_is}
use Rattle.ppp_mark.proofs.script_log.end_script.Goals as goal

pub returns-in-Ok-clause-ok : goal.returns-in-Ok-clause-ok
returns-in-Ok-clause-ok g c =
    let e = running_is c.args.done c.args.machine.now c.args.log.now c.requires.kept in
    (λ ok. e.0 (c.in-Ok.ensures.ok.0 refl), λ r. refl)

pub returns-in-Err-clause-ok : goal.returns-in-Err-clause-ok
returns-in-Err-clause-ok g c =
    let e = running_is c.args.done c.args.machine.now c.args.log.now c.requires.kept in
    (λ ok. absurd (cc ok), λ r. c.in-Err.ensures.ok.1 (e.1 r))

pub returns-in-Ok-clause-log : goal.returns-in-Ok-clause-log
returns-in-Ok-clause-log g c =
    let old = c.args.log.now in
    let hooks = said_in old.past in
    let kept = c.requires.kept in
    let answer = c.args.done.answer in
    let job = c.args.done.number in
    let number : job ≡ ends_in hooks + 1 = job-number c.args.done c.args.machine.now old kept (c.in-Ok.ensures.ok.0 refl).2 c.in-Ok.ensures.counted in
    let after : c.mark_start.new.log ≡ with_due_mark c.args.time (ended_mark c.args.time answer job) old =
    rw (c.mark_start.ensures.log, c.add.ensures, c.ended-in-Ok.ensures.value, c.answer-answer.ensures, c.number-number.ensures, c.starts-before.ensures.value)
    (written c.args.time old (ended_mark c.args.time answer job) (Ended answer job) _ (said-ended c.args.time answer job hooks)
    (c.in-Ok.ensures.due hooks kept.stands)) in
    after ∙ ap (λ n. with_due_mark c.args.time (ended_mark c.args.time answer n) old) number

pub returns-in-Ok-clause-kept : goal.returns-in-Ok-clause-kept
returns-in-Ok-clause-kept g c =
    let old = c.args.log.now in
    let hooks = said_in old.past in
    let kept = c.requires.kept in
    let answer = c.args.done.answer in
    let job = c.args.done.number in
    let after : c.mark_start.new.log ≡ with_due_mark c.args.time (ended_mark c.args.time answer job) old =
    rw (c.mark_start.ensures.log, c.add.ensures, c.ended-in-Ok.ensures.value, c.answer-answer.ensures, c.number-number.ensures, c.starts-before.ensures.value)
    (written c.args.time old (ended_mark c.args.time answer job) (Ended answer job) _ (said-ended c.args.time answer job hooks)
    (c.in-Ok.ensures.due hooks kept.stands)) in
    let target = c.args.machine.now.target in
    let of_table : AreOf target c.mark_start.new.log.past =
    c.mark_start.ensures.of_table target (rw c.add.ensures (rw c.ended-in-Ok.ensures.value (ended-owner target), c.ended-in-Ok.ensures.in_table, kept.of_table)) in
    kept_on c.ended.new.self target old c.mark_start.new.log c.args.time (ended_mark c.args.time answer job) (Ended answer job)
    (with_end c.args.machine.now.facts answer) after (ap (λ m. m.target) c.in-Ok.ensures.now) of_table kept.small
    (said-ended c.args.time answer job hooks)
    (ap (λ m. m.facts) c.in-Ok.ensures.now) (c.in-Ok.ensures.stands hooks kept.stands)
    (omega (arith, kept.greatest)) kept.starts

is_said : goal.returns-in-Ok-clause-said
is_said g c =
    let old = c.args.log.now in
    let hooks = said_in old.past in
    let answer = c.args.done.answer in
    let job = c.args.done.number in
    let after : c.mark_start.new.log ≡ with_due_mark c.args.time (ended_mark c.args.time answer job) old =
    rw (c.mark_start.ensures.log, c.add.ensures, c.ended-in-Ok.ensures.value, c.answer-answer.ensures, c.number-number.ensures, c.starts-before.ensures.value)
    (written c.args.time old (ended_mark c.args.time answer job) (Ended answer job) _ (said-ended c.args.time answer job hooks)
    (c.in-Ok.ensures.due hooks c.requires.kept.stands)) in
    ap (λ log. said_in log.past) after ∙ said_after c.args.time (ended_mark c.args.time answer job) (Ended answer job) old (said-ended c.args.time answer job hooks)

pub returns-in-Ok-clause-said : goal.returns-in-Ok-clause-said
returns-in-Ok-clause-said g c = is_said g c

pub returns-in-Ok-clause-told : goal.returns-in-Ok-clause-told
returns-in-Ok-clause-told g c = λ before given job target last faithful.
    rw (is_said g c) (c.in-Ok.ensures.told before given (said_in c.args.log.now.past) job c.requires.kept.stands target last faithful)
