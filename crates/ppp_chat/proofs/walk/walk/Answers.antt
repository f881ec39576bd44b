use Rattle.std.proofs.Common.{◌+◌, ◌≡◌, ◌∙◌, ap, List, Some, drop, slice_get}
use Rattle.ppp_chat.specs.Settings.{Settings}
use Rattle.ppp_chat.specs.Texts.{kept_settings}
use Rattle.ppp_chat.specs.Walking.{so_far}
use Rattle.ppp_chat.specs.declared.step.Step.{Step}
use Rattle.ppp_chat.proofs.Hearing.{drop-at}
use Rattle.ppp_chat.proofs.Rooms.{room-at, set-behind}
use Rattle.ppp_chat.proofs.Places.{got-at}
use Rattle.ppp_chat.proofs.walk.walk.Goals as goal

pub take-requires-clause-room : goal.take-requires-clause-room
take-requires-clause-room c =
    let look = c.in-Some.ensures.lookup in
    room-at c.args.steps.now c.walking.place c.in-Some.step.now c.walking.directives c.requires.few
    (got-at c.args.steps.now c.walking.place c.in-Some.step.now look.3.0 look.3.1) c.walking.invariant.set

pub walking-preserved : goal.walking-preserved
walking-preserved c =
    let look = c.in-Some.ensures.lookup in
    let got : slice_get c.args.steps.now c.walking.place ≡ Some c.in-Some.step.now =
    got-at c.args.steps.now c.walking.place c.in-Some.step.now look.3.0 look.3.1 in
    record {
      goes = λ later.
          c.walking.invariant.goes later
          ∙ ap (λ (left : List Step). so_far c.walking.turn left (kept_settings c.args.steps.now c.walking.directives) c.args.now later)
          (drop-at c.args.steps.now c.walking.place c.in-Some.step.now got)
          ∙ c.in_default-take.ensures.takes (drop (c.walking.place + 1) c.args.steps.now) later;
      set =
          ap (λ (s : Settings). s.aborts) c.take.ensures.set
          ∙ set-behind c.args.steps.now c.walking.place c.in-Some.step.now (kept_settings c.args.steps.now c.walking.directives) got c.walking.invariant.set;
    }
