use Rattle.std.proofs.Common.{◌∙◌}
use Rattle.ppp_table_parts.proofs.SideLemmas.{twice_at}
use Rattle.ppp_table_parts.specs.Side.{without_frames}
use Rattle.ppp_table.specs.Told.{end_for, is_new, told_end}
use Rattle.ppp_unit_parts.specs.Member.{stay_of}
use Rattle.ppp_table.proofs.telling.tell_end.Goals as goal

pub returns : goal.returns
returns c = c.tell_close.ensures ∙ rw (c.clear.ensures.new, c.end_for-ended.ensures) (twice_at c.args.link without_frames (told_end c.args.news.now c.args.stay (end_for (is_new (stay_of c.args.link c.args.news.now.goes)) c.args.news.now.ended)) c.args.sides.now c.clear.ensures.there)
