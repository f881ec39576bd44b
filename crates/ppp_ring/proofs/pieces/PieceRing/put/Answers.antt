use Rattle.std.proofs.Common.{refl, sym, ◌≤◌, ◌+◌, ◌-◌, ◌*◌, length, arith}
use Rattle.std.proofs.lemmas.Bool.Decides.{nat_tests}
use Rattle.ppp_ring.proofs.PieceLemmas.{has_room, kept, kept_last, no_room, pieces-append, place, taken_whole}
use Rattle.ppp_ring.proofs.pieces.PieceRing.put.Goals as goal

pub returns-then-self-taken-clause-told : goal.returns-then-self-taken-clause-told
returns-then-self-taken-clause-told g c = rw (← c.self.view_is) (
    sym (no_room _ c.self.inside.beside c.self.inside.most c.self.inside.heads.items c.args.head c.self.inside.sizes.items c.self.inside.octets.items c.args.octets.now c.self.invariant.0
    (let less = c.if-self-taken.true in grind (arith, nat_tests))))

pub returns-then-self-taken-clause-new : goal.returns-then-self-taken-clause-new
returns-then-self-taken-clause-new g c = rw (
  ← c.self.view_is,
  no_room _ c.self.inside.beside c.self.inside.most c.self.inside.heads.items c.args.head c.self.inside.sizes.items c.self.inside.octets.items c.args.octets.now c.self.invariant.0
      (let less = c.if-self-taken.true in grind (arith, nat_tests)),
) refl

pub invariant_of-self : goal.invariant_of-self
invariant_of-self g c =
    let k = c.self.invariant.0 in
    let beside = c.self.inside.beside in
    let most = c.self.inside.most in
    let sizes = c.self.inside.sizes.items in
    let octets = c.self.inside.octets.items in
    let more = c.args.octets.now in
    let enough : beside + length more ≤ most - (beside * length sizes + length octets) = let not_less = c.if-self-taken.false in grind (arith, nat_tests) in
    let heads_room : length c.self.inside.heads.items + 1 ≤ c.self.inside.heads.capacity
    = rw k.as_many (place beside most (length sizes) c.self.inside.heads.capacity (length octets) (length more) k.some c.self.invariant.1 k.within enough) in
    let sizes_room : length sizes + 1 ≤ c.self.inside.sizes.capacity
    = place beside most (length sizes) c.self.inside.sizes.capacity (length octets) (length more) k.some c.self.invariant.2 k.within enough in
    let octets_room : length more ≤ c.self.inside.octets.capacity - length octets = let whole = c.self.invariant.3 in let within = k.within in let some = k.some in grind (arith, whole, within, enough) in
    rw (
      c.push_back.ensures.items,
      c.push_back-2.ensures.items,
      c.fill_from_slice.ensures.items,
      kept_last c.self.inside.heads.capacity c.self.inside.heads.items c.args.head heads_room,
      kept_last c.self.inside.sizes.capacity sizes (length more) sizes_room,
      taken_whole octets more c.fill_from_slice.result (c.self.inside.octets.capacity - length octets) c.fill_from_slice.ensures.count octets_room,
    )
    (kept _ beside most c.self.inside.heads.items c.args.head sizes octets more k c.requires enough, c.self.invariant.1, c.self.invariant.2, c.self.invariant.3)

pub returns-clause-told : goal.returns-clause-told
returns-clause-told g c = rw (← c.self.view_is) (
    sym (has_room _ c.self.inside.beside c.self.inside.most c.self.inside.heads.items c.args.head c.self.inside.sizes.items c.self.inside.octets.items c.args.octets.now c.self.invariant.0
    (let not_less = c.if-self-taken.false in grind (arith, nat_tests))))

pub returns-clause-new : goal.returns-clause-new
returns-clause-new g c =
    let k = c.self.invariant.0 in
    let beside = c.self.inside.beside in
    let most = c.self.inside.most in
    let sizes = c.self.inside.sizes.items in
    let octets = c.self.inside.octets.items in
    let more = c.args.octets.now in
    let enough : beside + length more ≤ most - (beside * length sizes + length octets) = let not_less = c.if-self-taken.false in grind (arith, nat_tests) in
    let heads_room : length c.self.inside.heads.items + 1 ≤ c.self.inside.heads.capacity
    = rw k.as_many (place beside most (length sizes) c.self.inside.heads.capacity (length octets) (length more) k.some c.self.invariant.1 k.within enough) in
    let sizes_room : length sizes + 1 ≤ c.self.inside.sizes.capacity
    = place beside most (length sizes) c.self.inside.sizes.capacity (length octets) (length more) k.some c.self.invariant.2 k.within enough in
    let octets_room : length more ≤ c.self.inside.octets.capacity - length octets = let whole = c.self.invariant.3 in let within = k.within in let some = k.some in grind (arith, whole, within, enough) in
    rw (
      ← c.self.view_is,
      has_room _ beside most c.self.inside.heads.items c.args.head sizes octets more k enough,
      c.push_back.ensures.items,
      c.push_back-2.ensures.items,
      c.fill_from_slice.ensures.items,
      kept_last c.self.inside.heads.capacity c.self.inside.heads.items c.args.head heads_room,
      kept_last c.self.inside.sizes.capacity sizes (length more) sizes_room,
      taken_whole octets more c.fill_from_slice.result (c.self.inside.octets.capacity - length octets) c.fill_from_slice.ensures.count octets_room,
      pieces-append c.self.inside.heads.items c.args.head sizes octets more k.as_many k.sum,
    )
    refl
