use Rattle.std.proofs.Common.{◌≡◌, ◌∙◌, ap, subst}
use Rattle.ppp_outside.specs.Writing.{Pending, Puts}
use Rattle.ppp_outside.proofs.PutLemmas.{puts_then}
use Rattle.ppp_outside.proofs.writing.TextWriter.put.Goals as goal

pub returns-in-Err : goal.returns-in-Err
returns-in-Err g c =
    let sound = c.self.inside.sound in
    let before : Pending = record { waiting = c.try_extend_from_slice.new.self.items; sound = sound } in
    let same : before ≡ c.args.self.now = ap (λ items. record { waiting = items; sound = sound }) (ap (λ page. page.items) c.in-Err.ensures.err) ∙ c.self.view_is in
    subst (λ (p : Pending). Puts p c.put_on_empty.new.self (g.O.Sink.state c.args.output.now) (g.O.Sink.state c.put_on_empty.new.output) c.args.piece.now) same
    (puts_then c.flush.ensures.put c.put_on_empty.ensures)
