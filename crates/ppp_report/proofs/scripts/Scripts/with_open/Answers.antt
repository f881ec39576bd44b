use Rattle.std.proofs.Common.{ap, ◌∙◌, sym, refl}
use Rattle.std.specs.Prelude.{is_some}
use Rattle.ppp_report.proofs.ScriptLemmas.{one_open}
use Rattle.ppp_report.proofs.scripts.Scripts.with_open.Goals as goal

pub returns : goal.returns
returns c = λ past tells. record {
  last = tells.last;
  starts = tells.starts;
  ended = tells.ended;
  now_open = refl;
  alone = λ several n. one_open past c.args.opening n (ap is_some (sym tells.now_open) ∙ sym c.is_some.ensures ∙ several);
}
