use Rattle.std.proofs.Common.{codes, refl, ◌∙◌, arith}
use Rattle.ppp_trace.specs.FullFault.{AreNoSecrets, IsWrongStep}
use Rattle.ppp_trace.specs.declared.fault.FaultKind.TheVariants as kind
use Rattle.ppp_mark.specs.Lines.{lines_of}
use Rattle.ppp_trace.proofs.TellLemmas.{behind_at, behind_tells, long_tells, right_secrets, secrets_tell, start_tells, step_later}
use Rattle.ppp_trace.proofs.trace.chap_part.Goals as goal

pub returns-in-Err : goal.returns-in-Err
returns-in-Err c = λ small.
    start_tells (codes "chap") kind.Secrets AreNoSecrets (λ own. IsWrongStep c.args.links) (λ own. step_later c.args.links) (omega arith) c.args.line (lines_of c.args.text.now) c.in-Err.fault
    (c.in-Err.ensures small)

pub returns-in-Err-secrets_at : goal.returns-in-Err-secrets_at
returns-in-Err-secrets_at c = λ small.
    secrets_tell (codes "chap") (λ own. IsWrongStep c.args.links) (λ own. step_later c.args.links) c.args.line c.saturating_add.result (lines_of c.args.text.now) c.in-Ok.section
    c.as_slice.result.now c.in-Err-secrets_at.fault (c.in-Ok.ensures small) small c.as_slice.ensures.value c.saturating_add.ensures c.in-Err-secrets_at.ensures

pub returns-in-Err-short_lines : goal.returns-in-Err-short_lines
returns-in-Err-short_lines c = λ small.
    let w = c.in-Ok.ensures small in
    long_tells (codes "chap") kind.Secrets AreNoSecrets (λ own. IsWrongStep c.args.links) (λ own. step_later c.args.links) c.args.line (lines_of c.args.text.now) c.in-Ok.section
    c.in-Ok.section.long c.in-Err-short_lines.fault w refl small (right_secrets w.own c.as_slice.result.now _ (c.as_slice.ensures.value ∙ w.copied) c.in-Ok-secrets_at.ensures)
    c.in-Err-short_lines.ensures

pub returns-in-Err-check_steps : goal.returns-in-Err-check_steps
returns-in-Err-check_steps c = λ small.
    let w = c.in-Ok.ensures small in
    let at = behind_at (codes "chap") c.args.line c.line_behind.result (lines_of c.args.text.now) c.in-Ok.section w small c.line_behind.ensures in
    behind_tells (codes "chap") kind.Secrets AreNoSecrets (λ own. IsWrongStep c.args.links) c.args.line c.line_behind.result (lines_of c.args.text.now) c.in-Ok.section
    c.in-Err-check_steps.fault w c.in_default.ensures (right_secrets w.own c.as_slice.result.now _ (c.as_slice.ensures.value ∙ w.copied) c.in-Ok-secrets_at.ensures) at.0
    (c.in-Err-check_steps.ensures at.1)
