use Rattle.std.proofs.Common.{◌≡◌, refl, ap, ◌∙◌, map, is_some, arith}
use Rattle.ppp_mp.specs.Places.{tally, waits}
use Rattle.ppp_mp.specs.Facts.{members_in}
use Rattle.ppp_mp.specs.declared.facts.GatherFacts.{GatherFacts}
use Rattle.ppp_mp.proofs.MemberCalls.{moved_same}
use Rattle.ppp_mp.proofs.SettlingLemmas.{settling_begins, settling_looked, settling_misses, misses-fall, settling_loses, settling_completes, settling_ends, rests-empty, loses-fall, completes-fall, one-end, room_for, less-same}
use Rattle.ppp_mp.proofs.facts.GatherFacts.settle.Goals as goal

pub rules-init : goal.rules-init
rules-init c = record { settling = settling_begins _ _ _; looks = omega arith; rose = omega arith; members = refl }

pub returns-in-Rests-clause-room : goal.returns-in-Rests-clause-room
returns-in-Rests-clause-room c = let t = settling_looked c.args.self.now c.args.given.now c.args.bound c.rules.self c.scan.new.self c.rules.given c.rules.left c.scan.new.self.places.looks c.in-Rests.ensures.same c.rules.invariant.settling in t.room

pub returns-in-Rests-clause-mrru : goal.returns-in-Rests-clause-mrru
returns-in-Rests-clause-mrru c = let t = settling_looked c.args.self.now c.args.given.now c.args.bound c.rules.self c.scan.new.self c.rules.given c.rules.left c.scan.new.self.places.looks c.in-Rests.ensures.same c.rules.invariant.settling in t.mrru

pub returns-in-Rests-clause-members : goal.returns-in-Rests-clause-members
returns-in-Rests-clause-members c = ap members_in c.in-Rests.ensures.same ∙ c.rules.invariant.members

pub returns-in-Rests-clause-looks : goal.returns-in-Rests-clause-looks
returns-in-Rests-clause-looks c =
    let end : c.scan.new.self.places.end ≡ c.rules.self.places.end = ap (λ (g : GatherFacts). g.places.end) c.in-Rests.ensures.same in
    let before = c.rules.invariant.looks in
    let seen = c.in-Rests.ensures.looks in
    omega arith

pub returns-in-Rests-clause-rest : goal.returns-in-Rests-clause-rest
returns-in-Rests-clause-rest c = rests-empty c.scan.new.self c.rules.left c.in-Rests.ensures.found

pub returns-in-Rests-clause-settled : goal.returns-in-Rests-clause-settled
returns-in-Rests-clause-settled c =
    settling_ends c.args.self.now c.args.given.now c.args.bound c.scan.new.self c.rules.given c.rules.left (settling_looked c.args.self.now c.args.given.now c.args.bound c.rules.self c.scan.new.self c.rules.given c.rules.left c.scan.new.self.places.looks c.in-Rests.ensures.same c.rules.invariant.settling) c.in-Rests.ensures.found

pub rules-smaller-in-Loses : goal.rules-smaller-in-Loses
rules-smaller-in-Loses c =
    let h = loses-fall c.scan.new.self c.lose-in-Loses.new.self c.rules.left c.saturating_sub-left-in-Loses.result c.in-Loses.count c.in-Loses.ensures.found c.in-Loses.ensures.past c.lose-in-Loses.ensures.moved c.saturating_sub-left-in-Loses.ensures in
    let e : tally waits c.scan.new.self.places.pieces 128 ≡ tally waits c.rules.self.places.pieces 128 = ap (λ (g : GatherFacts). tally waits g.places.pieces 128) c.in-Loses.ensures.same in
    less-same _ _ _ _ h e

pub rules-preserved-in-Loses : goal.rules-preserved-in-Loses
rules-preserved-in-Loses c =
    let so_far = settling_looked c.args.self.now c.args.given.now c.args.bound c.rules.self c.scan.new.self c.rules.given c.rules.left c.scan.new.self.places.looks c.in-Loses.ensures.same c.rules.invariant.settling in
    let end : c.scan.new.self.places.end ≡ c.rules.self.places.end = ap (λ (g : GatherFacts). g.places.end) c.in-Loses.ensures.same in
    let before = c.rules.invariant.looks in
    let seen = c.in-Loses.ensures.looks in
    let cleared = c.lose-in-Loses.ensures.moved.looks in
    let ends = c.lose-in-Loses.ensures.moved.end in
    record {
      settling = settling_loses c.args.self.now c.args.given.now c.args.bound c.scan.new.self c.rules.given c.rules.left c.lose-in-Loses.new.self c.in-Loses.count c.saturating_sub-left-in-Loses.result so_far c.in-Loses.ensures.found c.in-Loses.ensures.past c.lose-in-Loses.ensures.moved c.lose-in-Loses.ensures.counts c.saturating_sub-left-in-Loses.ensures;
      looks = omega arith;
      rose = let up = c.in-Loses.ensures.rose in let on = c.lose-in-Loses.ensures.moved.rose in let started = c.rules.invariant.rose in omega arith;
      members = ap (map is_some) c.lose-in-Loses.ensures.moved.overs ∙ moved_same c.scan.new.self.overs _ ∙ ap members_in c.in-Loses.ensures.same ∙ c.rules.invariant.members;
    }

pub rules-smaller-in-Misses : goal.rules-smaller-in-Misses
rules-smaller-in-Misses c =
    let h = misses-fall c.scan.new.self c.lose.new.self c.rules.left c.saturating_sub-left.result c.in-Misses.count c.in-Misses.ensures.found c.in-Misses.ensures.past c.lose.ensures.moved c.saturating_sub-left.ensures in
    let e : tally waits c.scan.new.self.places.pieces 128 ≡ tally waits c.rules.self.places.pieces 128 = ap (λ (g : GatherFacts). tally waits g.places.pieces 128) c.in-Misses.ensures.same in
    less-same _ _ _ _ h e

pub rules-preserved-in-Misses : goal.rules-preserved-in-Misses
rules-preserved-in-Misses c =
    let so_far = settling_looked c.args.self.now c.args.given.now c.args.bound c.rules.self c.scan.new.self c.rules.given c.rules.left c.scan.new.self.places.looks c.in-Misses.ensures.same c.rules.invariant.settling in
    let end : c.scan.new.self.places.end ≡ c.rules.self.places.end = ap (λ (g : GatherFacts). g.places.end) c.in-Misses.ensures.same in
    let before = c.rules.invariant.looks in
    let seen = c.in-Misses.ensures.looks in
    let cleared = c.lose.ensures.moved.looks in
    let ends = c.lose.ensures.moved.end in
    record {
      settling = settling_misses c.args.self.now c.args.given.now c.args.bound c.scan.new.self c.rules.given c.rules.left c.lose.new.self c.in-Misses.count c.saturating_sub-left.result so_far c.in-Misses.ensures.found c.in-Misses.ensures.past c.lose.ensures.moved c.lose.ensures.counts c.saturating_sub-left.ensures;
      looks = omega arith;
      rose = let up = c.in-Misses.ensures.rose in let on = c.lose.ensures.moved.rose in let started = c.rules.invariant.rose in omega arith;
      members = ap (map is_some) c.lose.ensures.moved.overs ∙ moved_same c.scan.new.self.overs _ ∙ ap members_in c.in-Misses.ensures.same ∙ c.rules.invariant.members;
    }

pub complete-requires : goal.complete-requires
complete-requires c =
    let so_far = settling_looked c.args.self.now c.args.given.now c.args.bound c.rules.self c.scan.new.self c.rules.given c.rules.left c.scan.new.self.places.looks c.in-Completes.ensures.same c.rules.invariant.settling in
    record {
      room = room_for c.args.self.now c.args.given.now c.args.bound c.scan.new.self c.rules.given c.rules.left so_far
          (one-end c.scan.new.self c.rules.left c.in-Completes.count c.in-Completes.ensures.found c.in-Completes.ensures.past) c.requires;
    }

pub rules-smaller : goal.rules-smaller
rules-smaller c =
    let h = completes-fall c.scan.new.self c.complete.new.self c.rules.left c.saturating_sub-left-in-Completes.result c.in-Completes.count c.in-Completes.ensures.found c.in-Completes.ensures.past c.complete.ensures.moved c.saturating_sub-left-in-Completes.ensures in
    let e : tally waits c.scan.new.self.places.pieces 128 ≡ tally waits c.rules.self.places.pieces 128 = ap (λ (g : GatherFacts). tally waits g.places.pieces 128) c.in-Completes.ensures.same in
    less-same _ _ _ _ h e

pub rules-preserved : goal.rules-preserved
rules-preserved c =
    let so_far = settling_looked c.args.self.now c.args.given.now c.args.bound c.rules.self c.scan.new.self c.rules.given c.rules.left c.scan.new.self.places.looks c.in-Completes.ensures.same c.rules.invariant.settling in
    let end : c.scan.new.self.places.end ≡ c.rules.self.places.end = ap (λ (g : GatherFacts). g.places.end) c.in-Completes.ensures.same in
    let before = c.rules.invariant.looks in
    let seen = c.in-Completes.ensures.looks in
    let cleared = c.complete.ensures.moved.looks in
    let ends = c.complete.ensures.moved.end in
    record {
      settling = settling_completes c.args.self.now c.args.given.now c.args.bound c.scan.new.self c.rules.given c.rules.left c.complete.new.self c.complete.new.given c.in-Completes.count c.saturating_sub-left-in-Completes.result so_far c.in-Completes.ensures.found c.in-Completes.ensures.past c.complete.ensures.moved c.complete.ensures.packet c.saturating_sub-left-in-Completes.ensures;
      looks = omega arith;
      rose = let up = c.in-Completes.ensures.rose in let on = c.complete.ensures.moved.rose in let started = c.rules.invariant.rose in omega arith;
      members = ap (map is_some) c.complete.ensures.moved.overs ∙ moved_same c.scan.new.self.overs _ ∙ ap members_in c.in-Completes.ensures.same ∙ c.rules.invariant.members;
    }
