use Rattle.std.proofs.Common.{◌≡◌, ◌-◌, false, List, drop, length}
use Rattle.ppp_chat.specs.Course.{course}
use Rattle.ppp_chat.specs.Event.{Event}
use Rattle.ppp_chat.specs.Room.{AreSetAt}
use Rattle.ppp_chat.specs.Texts.{kept_settings}
use Rattle.ppp_chat.specs.Walking.{so_far}
use Rattle.ppp_chat.proofs.walk.walk.Given as goal

abbrev pub invariant-walking : goal.invariant-walking
invariant-walking l = record {
  goes : (later : List Event) → course (drop l.from l.steps) l.met (kept_settings l.steps l.initial.directives) l.now false later
      ≡ so_far l.turn (drop l.place l.steps) (kept_settings l.steps l.directives) l.now later;
  set : AreSetAt l.steps l.place (kept_settings l.steps l.directives).aborts;
}

abbrev pub decreases-walking : goal.decreases-walking
decreases-walking l = length l.steps - l.place
