use Rattle.std.proofs.Common.{◌≡◌, ℕ, refl, ◌-◌, max, unwrap_or, map, is_some, ap, subst, ◌∙◌, List, [], arith}
use Rattle.ppp_mp.specs.Delivered.{lowest}
use Rattle.ppp_mp.specs.Header.{long_space}
use Rattle.ppp_mp.specs.Moves.{HasSettled}
use Rattle.ppp_mp.proofs.MemberCalls.{moved_same}
use Rattle.ppp_mp.proofs.SettlingLemmas.{room_first, room_near, room_far}
use Rattle.ppp_mp.proofs.Taking.{room_made, room_there}
use Rattle.ppp_mp.proofs.facts.GatherFacts.make_room.Goals as goal

pub settle-requires : goal.settle-requires
settle-requires c = room_first c.args.given.now c.args.self.now.places.pieces c.args.self.now.places.pieces c.requires.empty refl c.requires.rest

pub returns-then-ahead-lt128-clause-made : goal.returns-then-ahead-lt128-clause-made
returns-then-ahead-lt128-clause-made c = room_there c.args.self.now c.args.given.now c.args.ahead c.if-ahead-lt128.true c.requires.empty

pub returns-then-ahead-lt128-clause-room : goal.returns-then-ahead-lt128-clause-room
returns-then-ahead-lt128-clause-room c = room_near c.args.given.now c.args.self.now.places.pieces c.requires.empty c.requires.rest

pub returns-clause-made : goal.returns-clause-made
returns-clause-made c =
    let P = λ (l : List (List ℕ)). HasSettled long_space c.max-bound.result c.args.self.now c.settle.new.self l c.settle.new.given in
    let settled : HasSettled long_space c.max-bound.result c.args.self.now c.settle.new.self [] c.settle.new.given = subst P c.requires.empty c.settle.ensures.settled in
    let bound : c.max-bound.result ≡ max (unwrap_or (lowest c.args.self.now.overs) 0) (c.args.ahead - 127) =
    c.max-bound.ensures ∙ ap (λ b. max b (c.args.ahead - 127)) c.bound.ensures in
    room_made c.args.self.now c.settle.new.self c.lose.new.self c.settle.new.given c.args.ahead c.args.field c.max-bound.result c.ahead-left.result c.saturating_sub-far.result
    c.requires.field c.requires.ahead c.requires.half bound settled c.ahead-left.ensures.within c.ahead-left.ensures.is c.saturating_sub-far.ensures c.lose.ensures.moved c.lose.ensures.counts

pub returns-clause-room : goal.returns-clause-room
returns-clause-room c =
    room_far c.args.given.now c.settle.new.given c.args.self.now.places.pieces c.settle.new.self.places.pieces c.lose.new.self.places.pieces c.saturating_sub-far.result c.requires.empty c.requires.rest c.settle.ensures.room c.settle.ensures.past c.lose.ensures.moved.places

pub returns-clause-members : goal.returns-clause-members
returns-clause-members c = ap (map is_some) c.lose.ensures.moved.overs ∙ moved_same c.settle.new.self.overs _ ∙ c.settle.ensures.members
