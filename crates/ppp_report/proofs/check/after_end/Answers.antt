use Rattle.std.proofs.Common.{rules, ◌≡◌, ◌<◌, length}
use Rattle.ppp_report.proofs.PlaceLemmas.{end_behind, finished_at}
use Rattle.ppp_report.proofs.check.after_end.Goals as goal

pub returns-then-is_empty : goal.returns-then-is_empty
returns-then-is_empty c = λ lines links least a.
    let none : length c.args.behind.now ≡ 0 = search rules in
    finished_at lines links least c.args.behind.now c.args.line a none

pub returns-else-is_empty : goal.returns-else-is_empty
returns-else-is_empty c = λ lines links least a.
    let some : 0 < length c.args.behind.now = search rules in
    end_behind lines links least c.args.behind.now c.args.line a some
