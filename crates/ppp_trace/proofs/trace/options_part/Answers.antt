use Rattle.std.proofs.Common.{ap, codes, refl, subst, sym, ◌∙◌, arith}
use Rattle.ppp_trace.specs.FullFault.{AreNoOptions, InPap, links_in, options_in}
use Rattle.ppp_trace.specs.FullTrace.{text_of}
use Rattle.ppp_trace.specs.Parts.{ReadsPap, Tells}
use Rattle.ppp_trace.specs.declared.fault.FaultKind.TheVariants as kind
use Rattle.ppp_mark.specs.Lines.{lines_of}
use Rattle.ppp_trace.proofs.TellLemmas.{behind_at, behind_tells, links_are, long_tells, options_later, options_tell, right_options, start_tells, whole_section}
use Rattle.ppp_trace.proofs.trace.options_part.Goals as goal

pub returns-in-Err : goal.returns-in-Err
returns-in-Err c = λ small.
    start_tells (codes "options") kind.Options AreNoOptions (λ own. InPap (links_in (options_in (text_of own)))) options_later (omega arith) c.args.line (lines_of c.args.text.now)
    c.in-Err.fault (c.in-Err.ensures small)

pub returns-in-Err-options_at : goal.returns-in-Err-options_at
returns-in-Err-options_at c = λ small.
    options_tell (codes "options") (λ own. InPap (links_in (options_in (text_of own)))) options_later c.args.line c.saturating_add.result (lines_of c.args.text.now) c.in-Ok.section
    c.as_slice.result.now c.in-Err-options_at.fault (c.in-Ok.ensures small) small c.as_slice.ensures.value c.saturating_add.ensures c.in-Err-options_at.ensures

pub returns-in-Err-short_lines : goal.returns-in-Err-short_lines
returns-in-Err-short_lines c = λ small.
    let w = c.in-Ok.ensures small in
    long_tells (codes "options") kind.Options AreNoOptions (λ own. InPap (links_in (options_in (text_of own)))) options_later c.args.line (lines_of c.args.text.now) c.in-Ok.section
    c.in-Ok.section.long c.in-Err-short_lines.fault w refl small (right_options w.own c.as_slice.result.now _ (c.as_slice.ensures.value ∙ w.copied) c.in-Ok-options_at.ensures)
    c.in-Err-short_lines.ensures

pub returns-in-Ok-pap_part : goal.returns-in-Ok-pap_part
returns-in-Ok-pap_part c = λ small.
    let w = c.in-Ok.ensures small in
    let at = behind_at (codes "options") c.args.line c.line_behind.result (lines_of c.args.text.now) c.in-Ok.section w small c.line_behind.ensures in
    record {
      own = w.own;
      others = lines_of c.in-Ok.section.rest.now;
      whole = whole_section (codes "options") (lines_of c.args.text.now) c.in-Ok.section w c.in_default.ensures;
      config = ap options_in (sym (c.as_slice.ensures.value ∙ w.copied)) ∙ c.in-Ok-options_at.ensures;
      behind = subst (λ n. ReadsPap n (lines_of c.in-Ok.section.rest.now) c.in-Ok-pap_part.behind) c.links_of.ensures.links (c.in-Ok-pap_part.ensures at.1);
    }

pub returns : goal.returns
returns c = λ small.
    let w = c.in-Ok.ensures small in
    let at = behind_at (codes "options") c.args.line c.line_behind.result (lines_of c.args.text.now) c.in-Ok.section w small c.line_behind.ensures in
    behind_tells (codes "options") kind.Options AreNoOptions (λ own. InPap (links_in (options_in (text_of own)))) c.args.line c.line_behind.result (lines_of c.args.text.now) c.in-Ok.section
    c.in-Err-pap_part.fault w c.in_default.ensures (right_options w.own c.as_slice.result.now _ (c.as_slice.ensures.value ∙ w.copied) c.in-Ok-options_at.ensures) at.0
    (subst (λ n. Tells (InPap n c.line_behind.result (lines_of c.in-Ok.section.rest.now)) c.in-Err-pap_part.fault)
    (c.links_of.ensures.links ∙ sym (links_are w.own c.as_slice.result.now c.in-Ok-options_at.config (c.as_slice.ensures.value ∙ w.copied) c.in-Ok-options_at.ensures))
    (c.in-Err-pap_part.ensures at.1))
