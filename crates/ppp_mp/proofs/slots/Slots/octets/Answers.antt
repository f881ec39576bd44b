use Rattle.std.proofs.Common.{◌≡◌, ◌%◌, None, slice_index_or, ap, sym, ◌∙◌, arith}
use Rattle.std.proofs.lemmas.List.{get_or_read}
use Rattle.ppp_mp.specs.Ring.{SlotsNow, kept_at, kept_in, octets_there}
use Rattle.ppp_mp.proofs.RingLemmas.{at_kept, octets_seen, no_octets_seen}
use Rattle.ppp_mp.proofs.slots.Slots.octets.Goals as goal

pub returns-in-Some : goal.returns-in-Some
returns-in-Some c =
    let slot : c.index.result.now ≡ slice_index_or c.self.inside.slots.items (c.args.number % 128) None = get_or_read c.self.inside.slots.items _ _ (omega (arith, c.self.invariant.0)) c.index.ensures None in
    let kept : kept_in c.args.number c.index.result.now ≡ kept_at c.args.number c.args.self.now.slots =
    ap (kept_in c.args.number) slot ∙ sym (at_kept c.args.number c.self.inside.slots.items c.self.invariant.0 c.self.invariant.1) ∙ ap (λ (s : SlotsNow). kept_at c.args.number s.slots) c.self.view_is in
    octets_seen (kept_in c.args.number c.index.result.now) c.in-Some.octets.now c.in-Some.ensures ∙ ap octets_there kept

pub returns-in-None : goal.returns-in-None
returns-in-None c =
    let slot : c.index.result.now ≡ slice_index_or c.self.inside.slots.items (c.args.number % 128) None = get_or_read c.self.inside.slots.items _ _ (omega (arith, c.self.invariant.0)) c.index.ensures None in
    let kept : kept_in c.args.number c.index.result.now ≡ kept_at c.args.number c.args.self.now.slots =
    ap (kept_in c.args.number) slot ∙ sym (at_kept c.args.number c.self.inside.slots.items c.self.invariant.0 c.self.invariant.1) ∙ ap (λ (s : SlotsNow). kept_at c.args.number s.slots) c.self.view_is in
    no_octets_seen (kept_in c.args.number c.index.result.now) c.in-None.ensures ∙ ap octets_there kept
