use Rattle.std.proofs.Common.{◌≡◌, ◌+◌, ◌-◌, ◌∙◌, ap, sym, None, true, false, is_some, slice_index_or, arith}
use Rattle.ppp_mp.specs.Header.{fragment_of, long_octets, long_space}
use Rattle.ppp_mp.specs.Moves.{arrived}
use Rattle.ppp_mp.specs.Ring.{slot_piece}
use Rattle.ppp_mp.proofs.Calls.{whole_now, came_now, looks_stand, piece_stands, stranger_came}
use Rattle.ppp_mp.proofs.gather.Gather.piece.Goals as goal

pub returns-then-not-is_member-clause-stands : goal.returns-then-not-is_member-clause-stands
returns-then-not-is_member-clause-stands c = λ past s stands long.
    let at : c.from-at.result ≡ c.args.from - 1 = c.from-at.ensures ∙ ap (λ n. n - 1) c.number.ensures.value in
    let out : is_some (slice_index_or c.reset.new.self.overs (c.args.from - 1) None) ≡ false = rw (← at) (sym c.is_member.ensures ∙ c.if-not-is_member.true) in
    stranger_came c.reset.new.self c.clear.new.self past s c.args.from (fragment_of long_space long_octets c.args.information.now) out c.clear.ensures (looks_stand c.args.self.now c.self.inside.facts c.reset.new.self past s c.self.view_is c.reset.ensures.now stands)

pub returns-in-Some-clause-stands : goal.returns-in-Some-clause-stands
returns-in-Some-clause-stands c = λ past s stands long.
    let at : c.from-at.result ≡ c.args.from - 1 = c.from-at.ensures ∙ ap (λ n. n - 1) c.number.ensures.value in
    let in_it : is_some (slice_index_or c.reset.new.self.overs c.from-at.result None) ≡ true = sym c.is_member.ensures ∙ c.if-not-is_member.false in
    let link_is : c.from-at.result + 1 ≡ c.args.from = omega (arith, c.number.ensures.range) in
    let fragment : fragment_of long_space long_octets c.args.information.now ≡ arrived c.in-Some.field (slot_piece c.in-Some.first c.in-Some.last c.in-Some.octets.now) = c.in-Some.ensures.is in
    piece_stands c.reset.new.self c.take.new.self c.take.new.given past s c.args.from c.from-at.result (fragment_of long_space long_octets c.args.information.now) (arrived c.in-Some.field (slot_piece c.in-Some.first c.in-Some.last c.in-Some.octets.now)) c.take.result
    link_is in_it fragment c.take.ensures.mrru c.take.ensures.takes (looks_stand c.args.self.now c.self.inside.facts c.reset.new.self past s c.self.view_is c.reset.ensures.now stands)

pub returns-then-not-is_member-clause-whole : goal.returns-then-not-is_member-clause-whole
returns-then-not-is_member-clause-whole c = λ past s stands. whole_now _ past s stands

pub returns-in-None-clause-whole : goal.returns-in-None-clause-whole
returns-in-None-clause-whole c = λ past s stands. whole_now _ past s stands

pub returns-in-Some-clause-whole : goal.returns-in-Some-clause-whole
returns-in-Some-clause-whole c = λ past s stands. whole_now _ past s stands

pub returns-then-not-is_member-clause-came : goal.returns-then-not-is_member-clause-came
returns-then-not-is_member-clause-came c = λ past reached s stands links has. came_now _ past reached s stands links has

pub returns-in-None-clause-came : goal.returns-in-None-clause-came
returns-in-None-clause-came c = λ past reached s stands links has. came_now _ past reached s stands links has

pub returns-in-Some-clause-came : goal.returns-in-Some-clause-came
returns-in-Some-clause-came c = λ past reached s stands links has. came_now _ past reached s stands links has
