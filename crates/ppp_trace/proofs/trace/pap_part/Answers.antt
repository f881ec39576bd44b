use Rattle.std.proofs.Common.{codes, refl, ◌∙◌, arith}
use Rattle.ppp_trace.specs.FullFault.{AreNoSecrets, InChap}
use Rattle.ppp_trace.specs.declared.fault.FaultKind.TheVariants as kind
use Rattle.ppp_mark.specs.Lines.{lines_of}
use Rattle.ppp_trace.proofs.TellLemmas.{behind_at, behind_tells, long_tells, right_secrets, secrets_tell, start_tells, chap_later}
use Rattle.ppp_trace.proofs.trace.pap_part.Goals as goal

pub returns-in-Err : goal.returns-in-Err
returns-in-Err c = λ small.
    start_tells (codes "pap") kind.Secrets AreNoSecrets (λ own. InChap c.args.links) (λ own. chap_later c.args.links) (omega arith) c.args.line (lines_of c.args.text.now) c.in-Err.fault
    (c.in-Err.ensures small)

pub returns-in-Err-secrets_at : goal.returns-in-Err-secrets_at
returns-in-Err-secrets_at c = λ small.
    secrets_tell (codes "pap") (λ own. InChap c.args.links) (λ own. chap_later c.args.links) c.args.line c.saturating_add.result (lines_of c.args.text.now) c.in-Ok.section
    c.as_slice.result.now c.in-Err-secrets_at.fault (c.in-Ok.ensures small) small c.as_slice.ensures.value c.saturating_add.ensures c.in-Err-secrets_at.ensures

pub returns-in-Err-short_lines : goal.returns-in-Err-short_lines
returns-in-Err-short_lines c = λ small.
    let w = c.in-Ok.ensures small in
    long_tells (codes "pap") kind.Secrets AreNoSecrets (λ own. InChap c.args.links) (λ own. chap_later c.args.links) c.args.line (lines_of c.args.text.now) c.in-Ok.section
    c.in-Ok.section.long c.in-Err-short_lines.fault w refl small (right_secrets w.own c.as_slice.result.now _ (c.as_slice.ensures.value ∙ w.copied) c.in-Ok-secrets_at.ensures)
    c.in-Err-short_lines.ensures

pub returns : goal.returns
returns c = λ small.
    let w = c.in-Ok.ensures small in
    let at = behind_at (codes "pap") c.args.line c.line_behind.result (lines_of c.args.text.now) c.in-Ok.section w small c.line_behind.ensures in
    behind_tells (codes "pap") kind.Secrets AreNoSecrets (λ own. InChap c.args.links) c.args.line c.line_behind.result (lines_of c.args.text.now) c.in-Ok.section
    c.in-Err-chap_part.fault w c.in_default.ensures (right_secrets w.own c.as_slice.result.now _ (c.as_slice.ensures.value ∙ w.copied) c.in-Ok-secrets_at.ensures) at.0
    (c.in-Err-chap_part.ensures at.1)
