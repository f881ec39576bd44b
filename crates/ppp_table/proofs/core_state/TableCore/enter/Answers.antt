use Rattle.std.proofs.Common.{◌≤◌, ◌<◌, ◌-◌, length, sym, ◌∙◌, arith}
use Rattle.ppp_option_words.specs.LinkValues.{LinkValues}
use Rattle.ppp_unit_parts.specs.Wishes.{IsUnitWish}
use Rattle.ppp_table.proofs.Joins.{makes_where_free}
use Rattle.ppp_table.proofs.Places.{to_found}
use Rattle.ppp_table.proofs.core_state.TableCore.enter.Goals as goal

pub join-requires-clause-told : goal.join-requires-clause-told
join-requires-clause-told g c = sym c.requires.told ∙ c.in-Joins.is

pub make-requires-clause-told : goal.make-requires-clause-told
make-requires-clause-told g c = sym c.requires.told ∙ c.in-Makes.is

pub make-requires-clause-free : goal.make-requires-clause-free
make-requires-clause-free g c = (makes_where_free c.args.told c.args.link c.in-Makes.unit c.args.terms c.args.self.now c.requires.told c.in-Makes.is).0

pub make-requires-clause-room : goal.make-requires-clause-room
make-requires-clause-room g c = (makes_where_free c.args.told c.args.link c.in-Makes.unit c.args.terms c.args.self.now c.requires.told c.in-Makes.is).1

pub returns-in-Makes-clause-part : goal.returns-in-Makes-clause-part
returns-in-Makes-clause-part g c =
    let few : c.args.link ≤ length c.self.inside.links.items = rw (← c.self.view_is) at c.requires.link in
    let at : c.args.link - 1 < length c.self.inside.links.items = grind (arith, few, c.number.ensures.value, c.number.ensures.range) in
    rw c.in-Makes.is (record {
      wish = c.unit_wish-wish.result;
      asks = rw (← c.self.view_is, ← c.number.ensures.value) (to_found (λ (v : LinkValues). IsUnitWish v c.unit_wish-wish.result) c.self.inside.links.items (c.number.result - 1) c.index.result.now
          (rw c.number.ensures.value at) c.index.ensures c.unit_wish-wish.ensures);
      one = c.make.ensures.made;
    })
