use Rattle.std.proofs.Common.{◌≡◌, ◌+◌, ◌-◌, ◌%◌, ℕ, List, Option, [], true, false, None, is_some, map, slice_index_or, arith, sym, ap, subst, refl, ◌∙◌, max, unwrap_or}
use Rattle.ppp_mp.specs.Delivered.{AtRest, mark, lowest}
use Rattle.ppp_mp.specs.Header.{long_space}
use Rattle.ppp_mp.specs.Places.{place, ends}
use Rattle.ppp_mp.specs.Ring.{slot_piece}
use Rattle.ppp_mp.specs.Moves.{HasSettledNow, HasSettled, HasTaken, IsKept, arrived}
use Rattle.ppp_mp.specs.Facts.{KeepsFacts, members_in}
use Rattle.ppp_mp.specs.StandsFor.{stopped}
use Rattle.ppp_mp.specs.declared.facts.GatherFacts.{GatherFacts}
use Rattle.ppp_mp.specs.declared.slot_piece.SlotPiece.{SlotPiece}
use Rattle.ppp_mp.specs.declared.counts.PieceNow.TheVariants.{Kept, Doubled}
use Rattle.ppp_mp.proofs.MemberCalls.{brought_same, moved_same, there_same}
use Rattle.ppp_mp.proofs.SettlingLemmas.{room_first, room_one, looks_keeps}
use Rattle.ppp_mp.proofs.Taking.{taken_old, taken_doubled, taken_kept, over_now, counting_old, counting_doubled}
use Rattle.ppp_mp.proofs.facts.GatherFacts.take.Goals as goal

pub settle_now-requires : goal.settle_now-requires
settle_now-requires c = room_first c.args.given.now c.args.self.now.places.pieces c.count_old.new.self.places.pieces c.requires.empty (ap (λ (g : GatherFacts). g.places.pieces) c.count_old.ensures ∙ ap (λ (g : GatherFacts). g.places.pieces) c.bring.ensures) c.requires.rest

pub settle_now-requires-then-waits : goal.settle_now-requires-then-waits
settle_now-requires-then-waits c =
    room_first c.args.given.now c.args.self.now.places.pieces c.count_doubled.new.self.places.pieces c.requires.empty
    (ap (λ (g : GatherFacts). g.places.pieces) c.count_doubled.ensures ∙ ap (λ (g : GatherFacts). g.places.pieces) c.bring-then-waits.ensures ∙ ap (λ (g : GatherFacts). g.places.pieces) c.waits.ensures.same) c.requires.rest

pub make_room-place-requires-clause-ahead : goal.make_room-place-requires-clause-ahead
make_room-place-requires-clause-ahead c = ap (λ (g : GatherFacts). (g.places.base + c.ahead-ahead.result) % long_space) c.waits.ensures.same ∙ c.ahead-ahead.ensures.is

pub make_room-place-requires-clause-rest : goal.make_room-place-requires-clause-rest
make_room-place-requires-clause-rest c = ap (λ (g : GatherFacts). ends (place g.places.pieces 0)) c.waits.ensures.same ∙ c.requires.rest

pub settle_now-requires-2 : goal.settle_now-requires-2
settle_now-requires-2 c =
    room_one c.make_room-place.new.given c.make_room-place.new.self.places.pieces c.keep.new.self.places.pieces c.bring-2.new.self.places.pieces c.make_room-place.result (slot_piece c.args.first c.args.last c.args.octets.now)
    c.make_room-place.ensures.room c.keep.ensures.kept (ap (λ (g : GatherFacts). g.places.pieces) c.bring-2.ensures)

pub returns-then-ahead-ge-HALF-clause-takes : goal.returns-then-ahead-ge-HALF-clause-takes
returns-then-ahead-ge-HALF-clause-takes c = λ s k rest.
    let g2 : GatherFacts = c.count_old.new.self in
    let all : c.count_old.new.self ≡ record c.args.self.now { overs = over_now c.args.self.now c.args.at 0; counts = record c.args.self.now.counts { old = stopped (c.args.self.now.counts.old + 1) } } =
    c.count_old.ensures ∙ ap counting_old c.bring.ensures in
    let P = λ (l : List (List ℕ)). HasSettledNow long_space g2 c.settle_now.new.self l c.settle_now.new.given in
    let settled : HasSettledNow long_space g2 c.settle_now.new.self [] c.settle_now.new.given = subst P c.requires.empty c.settle_now.ensures.settled in
    taken_old c.args.self.now g2 c.settle_now.new.self c.settle_now.new.given s c.args.at c.ahead-ahead.result c.args.field (slot_piece c.args.first c.args.last c.args.octets.now)
    k c.requires.field c.ahead-ahead.ensures.within c.ahead-ahead.ensures.is c.if-ahead-ge-HALF.true
    (ap (λ (g : GatherFacts). g.mrru) all) (ap (λ (g : GatherFacts). g.places.base) all) (ap (λ (g : GatherFacts). g.places.pieces) all) (ap (λ (g : GatherFacts). g.overs) all) (ap (λ (g : GatherFacts). g.counts) all)
    settled

pub returns-then-waits-clause-takes : goal.returns-then-waits-clause-takes
returns-then-waits-clause-takes c = λ s k rest.
    let g : GatherFacts = c.waits.new.self in
    let g2 : GatherFacts = c.count_doubled.new.self in
    let same = c.waits.ensures.same in
    let base : c.waits.new.self.places.base ≡ c.args.self.now.places.base = ap (λ (x : GatherFacts). x.places.base) same in
    let keeps : KeepsFacts long_space c.waits.new.self s = subst (λ (x : GatherFacts). KeepsFacts long_space x s) (sym same) (looks_keeps c.args.self.now c.waits.new.self.places.looks s k) in
    let all : c.count_doubled.new.self ≡ record c.waits.new.self { overs = over_now c.waits.new.self c.args.at c.ahead-ahead.result; counts = record c.waits.new.self.counts { doubled = stopped (c.waits.new.self.counts.doubled + 1) } } =
    c.count_doubled.ensures ∙ ap counting_doubled c.bring-then-waits.ensures in
    let P = λ (l : List (List ℕ)). HasSettledNow long_space g2 c.settle_now-then-waits.new.self l c.settle_now-then-waits.new.given in
    let settled : HasSettledNow long_space g2 c.settle_now-then-waits.new.self [] c.settle_now-then-waits.new.given = subst P c.requires.empty c.settle_now-then-waits.ensures.settled in
    let there : is_some (place c.waits.new.self.places.pieces c.ahead-ahead.result) ≡ true =
    ap (λ (x : GatherFacts). is_some (place x.places.pieces c.ahead-ahead.result)) same ∙ sym c.waits.ensures.waits ∙ c.if-waits.true in
    let taken : HasTaken long_space c.waits.new.self.mrru s (c.args.at + 1) (arrived c.args.field (slot_piece c.args.first c.args.last c.args.octets.now)) Doubled c.settle_now-then-waits.new.self c.settle_now-then-waits.new.given =
    taken_doubled c.waits.new.self g2 c.settle_now-then-waits.new.self c.settle_now-then-waits.new.given s c.args.at c.ahead-ahead.result c.args.field (slot_piece c.args.first c.args.last c.args.octets.now)
    keeps c.requires.field (ap (λ b. (b + c.ahead-ahead.result) % long_space) base ∙ c.ahead-ahead.ensures.is) (omega (arith, c.if-ahead-ge-HALF.false)) there
    (ap (λ (g : GatherFacts). g.mrru) all) (ap (λ (g : GatherFacts). g.places.base) all) (ap (λ (g : GatherFacts). g.places.pieces) all) (ap (λ (g : GatherFacts). g.overs) all) (ap (λ (g : GatherFacts). g.counts) all)
    settled in
    subst (λ (m : ℕ). HasTaken long_space m s (c.args.at + 1) (arrived c.args.field (slot_piece c.args.first c.args.last c.args.octets.now)) Doubled c.settle_now-then-waits.new.self c.settle_now-then-waits.new.given) (ap (λ (x : GatherFacts). x.mrru) same) taken

pub returns-clause-takes : goal.returns-clause-takes
returns-clause-takes c = λ s k rest.
    let same = c.waits.ensures.same in
    let g6 : GatherFacts = c.bring-2.new.self in
    let base0 : c.waits.new.self.places.base ≡ c.args.self.now.places.base = ap (λ (x : GatherFacts). x.places.base) same in
    let mrru0 : c.waits.new.self.mrru ≡ c.args.self.now.mrru = ap (λ (x : GatherFacts). x.mrru) same in
    let keeps : KeepsFacts long_space c.waits.new.self s = subst (λ (x : GatherFacts). KeepsFacts long_space x s) (sym same) (looks_keeps c.args.self.now c.waits.new.self.places.looks s k) in
    let rests : AtRest c.waits.new.self.mrru (mark s) s = subst (λ (m : ℕ). AtRest m (mark s) s) (sym mrru0) rest in
    let there : is_some (place c.waits.new.self.places.pieces c.ahead-ahead.result) ≡ false =
    ap (λ (x : GatherFacts). is_some (place x.places.pieces c.ahead-ahead.result)) same ∙ sym c.waits.ensures.waits ∙ c.if-waits.false in
    let mrru : c.bring-2.new.self.mrru ≡ c.waits.new.self.mrru = ap (λ (g : GatherFacts). g.mrru) c.bring-2.ensures ∙ c.keep.ensures.mrru ∙ c.make_room-place.ensures.mrru in
    let taken : HasTaken long_space c.waits.new.self.mrru s (c.args.at + 1) (arrived c.args.field (slot_piece c.args.first c.args.last c.args.octets.now)) Kept c.settle_now-2.new.self c.settle_now-2.new.given =
    taken_kept c.waits.new.self c.make_room-place.new.self c.keep.new.self g6 c.settle_now-2.new.self c.make_room-place.new.given c.settle_now-2.new.given s c.args.at c.ahead-ahead.result c.args.field
    c.make_room-place.result (slot_piece c.args.first c.args.last c.args.octets.now)
    keeps rests c.requires.field (ap (λ b. (b + c.ahead-ahead.result) % long_space) base0 ∙ c.ahead-ahead.ensures.is) (omega (arith, c.if-ahead-ge-HALF.false)) there
    c.make_room-place.ensures.made c.keep.ensures.base c.keep.ensures.kept c.keep.ensures.overs c.keep.ensures.counts
    mrru (ap (λ (g : GatherFacts). g.places.base) c.bring-2.ensures) (ap (λ (g : GatherFacts). g.places.pieces) c.bring-2.ensures) (ap (λ (g : GatherFacts). g.overs) c.bring-2.ensures) (ap (λ (g : GatherFacts). g.counts) c.bring-2.ensures)
    c.settle_now-2.ensures.settled in
    subst (λ (m : ℕ). HasTaken long_space m s (c.args.at + 1) (arrived c.args.field (slot_piece c.args.first c.args.last c.args.octets.now)) Kept c.settle_now-2.new.self c.settle_now-2.new.given) mrru0 taken

pub returns-then-waits-clause-members : goal.returns-then-waits-clause-members
returns-then-waits-clause-members c =
    let in_it : is_some (slice_index_or c.waits.new.self.overs c.args.at None) ≡ true = ap (λ (g : GatherFacts). is_some (slice_index_or g.overs c.args.at None)) c.waits.ensures.same ∙ c.requires.member in
    c.settle_now-then-waits.ensures.members ∙ ap members_in c.count_doubled.ensures ∙ ap members_in c.bring-then-waits.ensures ∙ brought_same c.waits.new.self.overs c.args.at _ in_it ∙ ap members_in c.waits.ensures.same

pub returns-clause-members : goal.returns-clause-members
returns-clause-members c =
    let before : members_in c.keep.new.self ≡ members_in c.args.self.now =
    ap (map is_some) c.keep.ensures.overs ∙ c.make_room-place.ensures.members ∙ ap members_in c.waits.ensures.same in
    let in_it : is_some (slice_index_or c.keep.new.self.overs c.args.at None) ≡ true = there_same c.keep.new.self.overs c.args.self.now.overs c.args.at before ∙ c.requires.member in
    c.settle_now-2.ensures.members ∙ ap members_in c.bring-2.ensures ∙ brought_same c.keep.new.self.overs c.args.at _ in_it ∙ before
