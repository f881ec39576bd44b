use Rattle.std.proofs.Common.{◌∙◌}
use Rattle.chat.proofs.TalkLemmas.{begins, heard_next, over, spoken, stopped}
use Rattle.chat.proofs.talking.talk.Goals as goal

pub talking-init : goal.talking-init
talking-init g c =
    begins g.I.LineIn.state g.I.LineIn.coming g.C.Clock.state c.args.script c.begin-answer.new.self c.begin-answer.result c.args.input.now c.args.clock.now c.now_ms.new.self c.now_ms.result
    (g.O.Sink.state c.args.output.now) c.now_ms.ensures (c.begin-answer.ensures.script ∙ c.new-chat.ensures.script) c.begin-answer.ensures.begun
    (rw c.min-began.ensures at c.begin-answer.ensures.stands) (rw c.min-began.ensures at c.begin-answer.ensures.answers)

pub talking-preserved : goal.talking-preserved
talking-preserved g c =
    let state = g.O.Sink.state in
    heard_next g.I.LineIn.state g.I.LineIn.coming g.C.Clock.state c.args.script c.talking.chat c.hear.new.chat c.in-Ok.answer c.args.input.now c.talking.input c.hear.new.input
    c.args.clock.now c.talking.clock c.hear.new.clock (state c.args.output.now) (state c.say.new.output)
    (spoken g.I.LineIn.state g.I.LineIn.coming g.C.Clock.state c.args.script c.talking.chat c.talking.answer c.args.input.now c.talking.input c.args.clock.now c.talking.clock
    (state c.args.output.now) (state c.talking.output) (state c.say.new.output) c.talking.invariant (rw c.in_default.is at c.say.ensures))
    c.in-Ok.ensures

pub returns-in-Some-say : goal.returns-in-Some-say
returns-in-Some-say g c =
    let state = g.O.Sink.state in
    over g.I.LineIn.state g.I.LineIn.coming g.C.Clock.state c.args.script c.talking.chat c.talking.answer c.args.input.now c.talking.input c.args.clock.now c.talking.clock
    (state c.args.output.now) (state c.talking.output) (state c.say.new.output) c.in-Some-say.end c.talking.invariant c.in-Some-say.ensures

pub returns-in-Err : goal.returns-in-Err
returns-in-Err g c =
    let state = g.O.Sink.state in
    stopped g.I.LineIn.state g.I.LineIn.coming g.C.Clock.state c.args.script c.talking.chat c.hear.new.chat c.args.input.now c.talking.input c.hear.new.input
    c.args.clock.now c.talking.clock c.hear.new.clock (state c.args.output.now) (state c.say.new.output) c.in-Err.end
    (spoken g.I.LineIn.state g.I.LineIn.coming g.C.Clock.state c.args.script c.talking.chat c.talking.answer c.args.input.now c.talking.input c.args.clock.now c.talking.clock
    (state c.args.output.now) (state c.talking.output) (state c.say.new.output) c.talking.invariant (rw c.in_default.is at c.say.ensures))
    c.in-Err.ensures
