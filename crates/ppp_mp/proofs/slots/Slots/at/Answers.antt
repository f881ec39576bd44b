use Rattle.std.proofs.Common.{◌≡◌, ◌%◌, Option, None, option_map, slice_index_or, ap, sym, ◌∙◌, arith}
use Rattle.std.proofs.lemmas.List.{get_or_read}
use Rattle.ppp_mp.specs.Ring.{Slotted, SlotsNow, kept_at, kept_in, view_of}
use Rattle.ppp_mp.proofs.RingLemmas.{at_kept}
use Rattle.ppp_mp.proofs.slots.Slots.at.Goals as goal

pub returns-clause-view : goal.returns-clause-view
returns-clause-view c =
    let slot : c.index.result.now ≡ slice_index_or c.self.inside.slots.items (c.args.number % 128) None = get_or_read c.self.inside.slots.items _ _ (omega (arith, c.self.invariant.0)) c.index.ensures None in
    c.seen.ensures
    ∙ ap (λ (o : Option Slotted). option_map view_of (kept_in c.args.number o)) slot
    ∙ ap (option_map view_of) (sym (at_kept c.args.number c.self.inside.slots.items c.self.invariant.0 c.self.invariant.1) ∙ ap (λ (s : SlotsNow). kept_at c.args.number s.slots) c.self.view_is)
