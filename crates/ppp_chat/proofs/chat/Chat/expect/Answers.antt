use Rattle.std.proofs.Common.{refl, sym, ◌≡◌, ◌∙◌, ap}
use Rattle.ppp_chat.specs.ChatState.{ChatState}
use Rattle.ppp_chat.specs.Steps.{flat}
use Rattle.ppp_chat.specs.Texts.{kept_settings}
use Rattle.ppp_chat.specs.declared.stage.Stage.TheVariants.{Expecting}
use Rattle.ppp_chat.specs.declared.step.Step.TheVariants.{Expect}
use Rattle.ppp_chat.proofs.Hearing.{hears-none, hears-end, begun-expecting}
use Rattle.ppp_chat.proofs.Places.{got-at}
use Rattle.ppp_chat.proofs.Rooms.{set-behind}
use Rattle.ppp_chat.proofs.chat.Chat.expect.Goals as goal

pub returns-in-None-clause-goes : goal.returns-in-None-clause-goes
returns-in-None-clause-goes c =
    let look = c.in-Some-Expect.ensures.lookup in
    let found = got-at c.steps-steps.result.now c.self.inside.place c.in-Some-Expect.field-0.now look.3.0 look.3.1 in
    let got = rw (c.steps-steps.ensures.steps, c.in-Some-Expect.field-0-is) at found in
    let ends = rw (c.steps-steps.ensures.steps, c.as_slice.ensures.octets, c.as_slice-2.ensures.octets) at (sym c.in-None.is ∙ c.ending_with-ending.ensures) in
    let stage : c.self.inside.stage ≡ Expecting c.args.began = ap (λ (s : ChatState). s.stage) c.self.view_is ∙ c.requires in
    record {
      goes = λ later. rw (← c.self.view_is, stage)
          (hears-none (flat c.self.inside.script.items) c.self.inside.place c.in-Some-Expect.text c.self.inside.directives c.args.began c.self.inside.window c.hear.new.self c.args.event
          c.steps-steps.ensures.short got c.hear.ensures ends later);
      is = rw stage refl;
      is_begun = begun-expecting c.self.inside.stage c.args.began stage;
    }

pub returns-in-Some-clause-goes : goal.returns-in-Some-clause-goes
returns-in-Some-clause-goes c =
    let look = c.in-Some-Expect.ensures.lookup in
    let found = got-at c.steps-steps.result.now c.self.inside.place c.in-Some-Expect.field-0.now look.3.0 look.3.1 in
    let got = rw (c.steps-steps.ensures.steps, c.in-Some-Expect.field-0-is) at found in
    let ends = rw (c.steps-steps.ensures.steps, c.as_slice.ensures.octets, c.as_slice-2.ensures.octets) at (sym c.in-Some.is ∙ c.ending_with-ending.ensures) in
    let stage : c.self.inside.stage ≡ Expecting c.args.began = ap (λ (s : ChatState). s.stage) c.self.view_is ∙ c.requires in
    let goes = c.follow.ensures.goes in
    record {
      goes = λ later. rw (← c.self.view_is, stage)
          (hears-end (flat c.self.inside.script.items) c.self.inside.place c.in-Some-Expect.text c.self.inside.directives c.args.began c.self.inside.window c.hear.new.self c.args.event c.in-Some.ending
          c.steps-steps.ensures.short got c.hear.ensures ends later ∙ goes.goes later);
      is = goes.is;
      is_begun = goes.is_begun;
    }

pub follow-requires : goal.follow-requires
follow-requires c =
    let look = c.in-Some-Expect.ensures.lookup in
    let found = got-at c.steps-steps.result.now c.self.inside.place c.in-Some-Expect.field-0.now look.3.0 look.3.1 in
    let got = rw (c.steps-steps.ensures.steps, c.in-Some-Expect.field-0-is) at found in
    set-behind (flat c.self.inside.script.items) c.self.inside.place (Expect c.in-Some-Expect.text)
    (kept_settings (flat c.self.inside.script.items) c.self.inside.directives) got c.self.invariant
