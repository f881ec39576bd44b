-- An option takes two octets and its data.
use Rattle.std.proofs.Common.{◌≡◌, ◌+◌, List, [], ◌∷◌, ◌++◌, length, ap, arith, length-append}
use Rattle.ppp_packet.specs.OptionsOf.{Item, item, laid, laid_item}
use Rattle.ppp_packet.proofs.Laying.{laid-append}
use Rattle.ppp_lcp.proofs.ours.push_if.Goals as goal

size_with : (items : List Item) (i : Item) → length (laid (items ++ i ∷ [])) ≡ length (laid items) + (length i.body + 2)
size_with items i = rw laid-append (omega (arith, length-append (laid items) (laid_item i ++ []), length-append i.body []))

pub returns-then-test-clause-grows : goal.returns-then-test-clause-grows
returns-then-test-clause-grows c = omega (arith, ap (λ (x : List Item). length (laid x)) c.push.ensures, size_with c.args.list.now (item c.args.kind c.args.body.now))
