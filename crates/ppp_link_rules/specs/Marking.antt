-- Marks are written at the link's time.
use Rattle.std.specs.Prelude.{ℕ}
use Rattle.ppp_mark.specs.declared.mark.Mark.{Mark}
use Rattle.ppp_mark.specs.Log.{added}
use Rattle.ppp_link_rules.specs.LinkState.{LinkState}

abbrev pub marked : (ℕ → Mark) → LinkState → LinkState
marked made s = record s { log = added (made s.time) s.log }
