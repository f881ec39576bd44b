use Rattle.std.proofs.Common.{refl, sym, ◌≡◌, ◌∙◌, ◌+◌, ap, ℕ, nat_le, false}
use Rattle.ppp_chat.specs.ChatState.{ChatState}
use Rattle.ppp_chat.specs.Steps.{flat}
use Rattle.ppp_chat.specs.Texts.{kept_settings}
use Rattle.ppp_chat.specs.declared.stage.Stage.TheVariants.{Pausing}
use Rattle.ppp_chat.specs.declared.step.Step.TheVariants.{Pause}
use Rattle.ppp_chat.proofs.Hearing.{pause_waits, begun-pausing}
use Rattle.ppp_chat.proofs.Places.{got-at}
use Rattle.ppp_chat.proofs.Rooms.{set-behind}
use Rattle.ppp_chat.proofs.chat.Chat.pause.Goals as goal

pub returns-else-has_passed-clause-goes : goal.returns-else-has_passed-clause-goes
returns-else-has_passed-clause-goes c =
    let look = c.in-Some-Pause.ensures.lookup in
    let found = got-at c.steps.result.now c.self.inside.place c.in-Some-Pause.field-0.now look.3.0 look.3.1 in
    let got = rw (c.steps.ensures.steps, c.in-Some-Pause.field-0-is) at found in
    let over : nat_le (c.args.began + c.in-Some-Pause.milliseconds) c.args.event.at ≡ false =
    ap (λ (n : ℕ). nat_le (c.args.began + n) c.args.event.at) (sym c.from.ensures) ∙ sym c.has_passed.ensures ∙ c.if-has_passed.false in
    let stage : c.self.inside.stage ≡ Pausing c.args.began = ap (λ (s : ChatState). s.stage) c.self.view_is ∙ c.requires in
    record {
      goes = λ later. rw (← c.self.view_is, stage)
          (pause_waits (flat c.self.inside.script.items) c.self.inside.place c.in-Some-Pause.milliseconds (kept_settings (flat c.self.inside.script.items) c.self.inside.directives)
          c.args.began c.args.event later got over);
      is = rw (← c.self.view_is, stage) refl;
      is_begun = rw (← c.self.view_is) (begun-pausing c.self.inside.stage c.args.began stage);
    }

pub go_on-requires : goal.go_on-requires
go_on-requires c =
    let look = c.in-Some-Pause.ensures.lookup in
    let found = got-at c.steps.result.now c.self.inside.place c.in-Some-Pause.field-0.now look.3.0 look.3.1 in
    let got = rw (c.steps.ensures.steps, c.in-Some-Pause.field-0-is) at found in
    rw (← c.self.view_is)
    (set-behind (flat c.self.inside.script.items) c.self.inside.place (Pause c.in-Some-Pause.milliseconds)
    (kept_settings (flat c.self.inside.script.items) c.self.inside.directives) got c.self.invariant)
