use Rattle.std.proofs.Common.{◌∷◌, ◌∙◌, ap, ℕ, []}
use Rattle.ppp_chat.specs.ChatOf.{ChatOf}
use Rattle.ppp_chat.specs.Event.{tick_at}
use Rattle.ppp_chat.specs.Hearing.{Goes}
use Rattle.ppp_chat.specs.Settings.{settings_after}
use Rattle.ppp_chat.specs.Steps.{flat}
use Rattle.ppp_chat.specs.Texts.{kept_settings}
use Rattle.ppp_chat.proofs.TalkLemmas.{begins, answers, leaves, stands_begun, answers_begun}
use Rattle.ppp_chat.proofs.chat.Chat.begin.Goals as goal

-- what is answered and to come is what the script says
begun : (c : goal.After-go_on) → Goes (λ later. ChatOf c.go_on.new.self.script (tick_at c.args.now ∷ later)) c.go_on.new.self c.go_on.result
begun c =
    begins c.self.inside.script (kept_settings (flat c.self.inside.script.items) c.new-directives.result) (tick_at c.args.now) c.go_on.new.self c.go_on.result
    c.go_on.ensures.script
    (c.new-directives.ensures.settings (flat c.self.inside.script.items) ∙ ap (λ (n : ℕ). settings_after n []) c.timeout_s.ensures)
    c.go_on.ensures.goes

pub returns-clause-stands : goal.returns-clause-stands
returns-clause-stands c = stands_begun (tick_at c.args.now) c.go_on.new.self c.go_on.result (begun c)

pub returns-clause-answers : goal.returns-clause-answers
returns-clause-answers c = answers_begun c.go_on.new.self.script (tick_at c.args.now) c.go_on.new.self c.go_on.result (begun c)

pub returns-clause-told : goal.returns-clause-told
returns-clause-told c = answers (ChatOf c.go_on.new.self.script) (tick_at c.args.now) c.go_on.new.self c.go_on.result (begun c)

pub returns-clause-behind : goal.returns-clause-behind
returns-clause-behind c = leaves (ChatOf c.go_on.new.self.script) (tick_at c.args.now) c.go_on.new.self c.go_on.result (begun c)
