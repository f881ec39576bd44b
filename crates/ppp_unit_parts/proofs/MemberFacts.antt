-- The members of a bundle: who comes in and goes out, and in which order.
use Rattle.std.proofs.Common.{◌≡◌, ℕ, suc, ◌+◌, ◌<◌, ◌≤◌, Bool, true, false, cond, Option, None, Some, is_some, List, [], ◌∷◌, length, refl, ap, sym, subst, ◌∙◌, arith}
use Rattle.std.proofs.lemmas.Bool.Decides.{nat_tests}
use Rattle.std.specs.List.{filter, insert}
use Rattle.std.specs.Prelude.{◌==◌, ◌||◌, nat_lt, not, if◌then◌else◌}
use Rattle.ppp_mp.specs.Members.{AreMembers}
use Rattle.ppp_mp.specs.declared.members.MemberView.{MemberView}
use Rattle.ppp_unit_parts.specs.declared.member.Member.{Member}
use Rattle.ppp_unit_parts.specs.Member.{AreInOrder, below, has_link, is_link, stay_of, views_of, with_member, without}

by_first : (first rest : Bool) (stay : ℕ) (others : Option ℕ) → (if rest then None else others) ≡ None → (if first || rest then None else (if first then Some stay else others)) ≡ None
by_first true rest stay others e = refl
by_first false rest stay others e = e

none_of : (link : ℕ) (members : List Member) → (if has_link link members then None else stay_of link members) ≡ None
none_of link [] = refl
none_of link (m ∷ members) = by_first (is_link link m) (has_link link members) m.stay (stay_of link members) (none_of link members)

-- where all members have gone out
pub all_gone : (members : List Member) (says says' : ℕ → Option ℕ) → ((link : ℕ) → stay_of link members ≡ says link)
    → ((link : ℕ) → says' link ≡ (if has_link link members then None else says link)) → (link : ℕ) → says' link ≡ None
all_gone members says says' before after link = after link ∙ rw (← before link) (none_of link members)

-- IN LINK ORDER

pub or_parts : (a b : Bool) → (a || b) ≡ false → (a ≡ false) × (b ≡ false)
or_parts false false e = (refl, refl)
or_parts false true e = absurd (let f : true ≡ false = e in cc)
or_parts true b e = absurd (let f : true ≡ false = e in cc)

count_to : (low : ℕ) (members : List Member) → AreInOrder low members → low ≤ 16 → length members + low ≤ 16
count_to low [] order most = omega (arith, most)
count_to low (m ∷ members) order most =
    let rest : length members + m.link ≤ 16 = count_to m.link members order.4 order.1 in
    let above : low < m.link = order.0 in
    omega (arith, rest, above)

room_by : (b : Bool) (low link : ℕ) (m : Member) (members : List Member) → nat_lt m.link link ≡ b → ((m.link < link) → length members + m.link < 16) → AreInOrder low (m ∷ members)
    → low < link → (m.link == link) ≡ false → length (m ∷ members) + low < 16
room_by true low link m members e rest order above other =
    let less : m.link < link = grind (arith, nat_tests) in
    let r : length members + m.link < 16 = rest less in
    let low_is : low < m.link = order.0 in
    omega (arith, r, low_is)
room_by false low link m members e rest order above other =
    let more : link < m.link = grind (arith, nat_tests) in
    let r : length members + m.link ≤ 16 = count_to m.link members order.4 order.1 in
    omega (arith, r, more, above)

room_from : (low link : ℕ) (members : List Member) → AreInOrder low members → has_link link members ≡ false → low < link → link ≤ 16 → length members + low < 16
room_from low link [] order other above most = omega (arith, above, most)
room_from low link (m ∷ members) order other above most =
    let parts = or_parts (is_link link m) (has_link link members) other in
    room_by (nat_lt m.link link) low link m members refl (λ less. room_from m.link link members order.4 parts.1 less most) order above parts.0

pub has_room : (m : Member) (members : List Member) → AreInOrder 0 members → has_link m.link members ≡ false → 1 ≤ m.link → m.link ≤ 16 → length members < 16
has_room m members order other some most = let r : length members + 0 < 16 = room_from 0 m.link members order other some most in omega (arith, r)

-- behind a link
pub behind : (low link : ℕ) (members : List Member) → AreInOrder low members → link ≤ low
    → (below link members ≡ 0) × (filter (λ (other : Member). nat_lt other.link link) members ≡ []) × (filter (λ (other : Member). nat_lt link other.link) members ≡ members)
behind low link [] order most = (refl, refl, refl)
behind low link (m ∷ members) order most =
    let above : low < m.link = order.0 in
    let not_below : nat_lt m.link link ≡ false = grind (arith, nat_tests) in
    let is_above : nat_lt link m.link ≡ true = grind (arith, nat_tests) in
    let less : link ≤ m.link = omega (arith, above, most) in
    let rest = behind m.link link members order.4 less in
    (rw not_below rest.0, rw not_below rest.1, rw is_above (ap (λ (ms : List Member). m ∷ ms) rest.2))

insert_by : (b : Bool) (low : ℕ) (new m : Member) (members : List Member) → nat_lt m.link new.link ≡ b → AreInOrder low (m ∷ members) → (m.link == new.link) ≡ false
    → insert members (below new.link members) new ≡ with_member new members → insert (m ∷ members) (below new.link (m ∷ members)) new ≡ with_member new (m ∷ members)
insert_by true low new m members e order other rest =
    let not_above : nat_lt new.link m.link ≡ false = grind (arith, nat_tests) in
    rw (e, not_above) (ap (λ (ms : List Member). m ∷ ms) rest)
insert_by false low new m members e order other rest =
    let is_above : nat_lt new.link m.link ≡ true = grind (arith, nat_tests) in
    let most : new.link ≤ m.link = grind (arith, nat_tests) in
    let b = behind m.link new.link members order.4 most in
    rw (e, is_above, b.0, b.1, b.2) refl

insert_from : (low : ℕ) (new : Member) (members : List Member) → AreInOrder low members → has_link new.link members ≡ false → insert members (below new.link members) new ≡ with_member new members
insert_from low new [] order other = refl
insert_from low new (m ∷ members) order other =
    let parts = or_parts (is_link new.link m) (has_link new.link members) other in
    insert_by (nat_lt m.link new.link) low new m members refl order parts.0 (insert_from m.link new members order.4 parts.1)

pub insert_is : (new : Member) (members : List Member) → AreInOrder 0 members → has_link new.link members ≡ false → insert members (below new.link members) new ≡ with_member new members
insert_is new members order other = insert_from 0 new members order other

-- as packets are cut over them
pub are_members : (low : ℕ) (members : List Member) → AreInOrder low members → AreMembers low (views_of members)
are_members low [] order = tt
are_members low (m ∷ members) order = (order.0, order.1, order.2, order.3, are_members m.link members order.4)

pub lawful_views : (views : List MemberView) (members : List Member) → views ≡ views_of members → AreInOrder 0 members → AreMembers 0 views
lawful_views views members e order = rw e (are_members 0 members order)

-- WITH A MEMBER MORE, AND WITHOUT ONE

order_by : (b : Bool) (low : ℕ) (new m : Member) (members : List Member) → nat_lt m.link new.link ≡ b → low < new.link → new.link ≤ 16 → 128 ≤ new.mru → new.mru ≤ 1500 → AreInOrder low (m ∷ members) → (m.link == new.link) ≡ false
    → (m.link < new.link → AreInOrder m.link (with_member new members)) → AreInOrder low (with_member new (m ∷ members))
order_by true low new m members e above most least few order other rest =
    let not_above : nat_lt new.link m.link ≡ false = grind (arith, nat_tests) in
    let less : m.link < new.link = grind (arith, nat_tests) in
    rw (e, not_above) (order.0, order.1, order.2, order.3, rest less)
order_by false low new m members e above most least few order other rest =
    let is_above : nat_lt new.link m.link ≡ true = grind (arith, nat_tests) in
    let less : new.link < m.link = grind (arith, nat_tests) in
    let before : new.link ≤ m.link = grind (arith, nat_tests) in
    let b = behind m.link new.link members order.4 before in
    rw (e, is_above, b.1, b.2) (above, most, least, few, (less, order.1, order.2, order.3, order.4))

pub order_with : (low : ℕ) (new : Member) (members : List Member) → AreInOrder low members → has_link new.link members ≡ false → low < new.link → new.link ≤ 16 → 128 ≤ new.mru → new.mru ≤ 1500
    → AreInOrder low (with_member new members)
order_with low new [] order other above most least few = (above, most, least, few, tt)
order_with low new (m ∷ members) order other above most least few =
    let parts = or_parts (is_link new.link m) (has_link new.link members) other in
    order_by (nat_lt m.link new.link) low new m members refl above most least few order parts.0 (λ less. order_with m.link new members order.4 parts.1 less most least few)

lower : (low lower : ℕ) (members : List Member) → lower ≤ low → AreInOrder low members → AreInOrder lower members
lower low less [] e order = tt
lower low less (m ∷ members) e order = let above : low < m.link = order.0 in (omega (arith, above, e), order.1, order.2, order.3, order.4)

without_by : (b : Bool) (low : ℕ) (m : Member) (left : List Member) → low < m.link → m.link ≤ 16 → 128 ≤ m.mru → m.mru ≤ 1500 → AreInOrder m.link left → AreInOrder low (cond b (m ∷ left) left)
without_by true low m left above most least few order = (above, most, least, few, order)
without_by false low m left above most least few order = lower m.link low left (omega (arith, above)) order

pub order_without : (low link : ℕ) (members : List Member) → AreInOrder low members → AreInOrder low (without link members)
order_without low link [] order = tt
order_without low link (m ∷ members) order = without_by (not (is_link link m)) low m (without link members) order.0 order.1 order.2 order.3 (order_without m.link link members order.4)

few_by : (b : Bool) (m : Member) (left : List Member) (n : ℕ) → length left ≤ n → length (cond b (m ∷ left) left) ≤ suc n
few_by true m left n few = omega (arith, few)
few_by false m left n few = omega (arith, few)

pub few_without : (link : ℕ) (members : List Member) → length (without link members) ≤ length members
few_without link [] = omega arith
few_without link (m ∷ members) = few_by (not (is_link link m)) m (without link members) (length members) (few_without link members)

-- the stays then
stay_left : (here same there : Bool) (m : Member) (left : List Member) (rest : Option ℕ) (link x : ℕ) → (m.link == link) ≡ here → (link == x) ≡ same → (m.link == x) ≡ there
    → stay_of x left ≡ (if same then None else rest) → stay_of x (cond (not here) (m ∷ left) left) ≡ (if same then None else (if there then Some m.stay else rest))
stay_left true true there m left rest link x e f g h = h
stay_left true false true m left rest link x e f g h = absurd (grind (arith, nat_tests))
stay_left true false false m left rest link x e f g h = h
stay_left false true true m left rest link x e f g h = absurd (grind (arith, nat_tests))
stay_left false true false m left rest link x e f g h = rw g h
stay_left false false true m left rest link x e f g h = rw g refl
stay_left false false false m left rest link x e f g h = rw g h

both_none : (b : Bool) (o : Option ℕ) → o ≡ None → o ≡ (if b then None else o)
both_none true o e = e
both_none false o e = refl

pub stay_without : (link x : ℕ) (members : List Member) → stay_of x (without link members) ≡ (if link == x then None else stay_of x members)
stay_without link x [] = both_none (link == x) None refl
stay_without link x (m ∷ members) =
    stay_left (m.link == link) (link == x) (m.link == x) m (without link members) (stay_of x members) link x refl refl refl (stay_without link x members)

-- a link that is no member has no stay
pub no_stay : (link : ℕ) (members : List Member) → has_link link members ≡ false → stay_of link members ≡ None
no_stay link [] e = refl
no_stay link (m ∷ members) e =
    let parts = or_parts (is_link link m) (has_link link members) e in
    rw parts.0 (no_stay link members parts.1)

stay_more : (less same there : Bool) (low : ℕ) (new m : Member) (x : ℕ) (members : List Member) → nat_lt m.link new.link ≡ less → (new.link == x) ≡ same → (m.link == x) ≡ there → (m.link == new.link) ≡ false
    → AreInOrder low (m ∷ members) → stay_of x (with_member new members) ≡ (if same then Some new.stay else stay_of x members)
    → stay_of x (with_member new (m ∷ members)) ≡ (if same then Some new.stay else (if there then Some m.stay else stay_of x members))
stay_more true same there low new m x members e f g other order rest =
    let not_above : nat_lt new.link m.link ≡ false = grind (arith, nat_tests) in
    rw (e, not_above, g) (either same there f g)
  where
    either : (a b : Bool) → (new.link == x) ≡ a → (m.link == x) ≡ b → (if b then Some m.stay else stay_of x (with_member new members)) ≡ (if a then Some new.stay else (if b then Some m.stay else stay_of x members))
    either true true h i = absurd (grind (arith, nat_tests))
    either true false h i = subst (λ (c : Bool). stay_of x (with_member new members) ≡ (if c then Some new.stay else stay_of x members)) (sym f ∙ h) rest
    either false true h i = refl
    either false false h i = subst (λ (c : Bool). stay_of x (with_member new members) ≡ (if c then Some new.stay else stay_of x members)) (sym f ∙ h) rest
stay_more false same there low new m x members e f g other order rest =
    let is_above : nat_lt new.link m.link ≡ true = grind (arith, nat_tests) in
    let before : new.link ≤ m.link = grind (arith, nat_tests) in
    let b = behind m.link new.link members order.4 before in
    rw (e, is_above, b.1, b.2, f, g) refl

pub stays_from : (low : ℕ) (new : Member) (x : ℕ) (members : List Member) → AreInOrder low members → has_link new.link members ≡ false
    → stay_of x (with_member new members) ≡ (if new.link == x then Some new.stay else stay_of x members)
stays_from low new x [] order other = refl
stays_from low new x (m ∷ members) order other =
    let parts = or_parts (is_link new.link m) (has_link new.link members) other in
    stay_more (nat_lt m.link new.link) (new.link == x) (m.link == x) low new m x members refl refl refl parts.0 order (stays_from m.link new x members order.4 parts.1)

pub stay_with : (new : Member) (x : ℕ) (members : List Member) → AreInOrder 0 members → has_link new.link members ≡ false
    → stay_of x (with_member new members) ≡ (if new.link == x then Some new.stay else stay_of x members)
stay_with new x members order other = stays_from 0 new x members order other

pub count_all : (members : List Member) → AreInOrder 0 members → length members ≤ 16
count_all members order = let c : length members + 0 ≤ 16 = count_to 0 members order (omega arith) in omega (arith, c)

-- a link is a member where it has a stay
has_by : (b : Bool) (stay : ℕ) (rest : Option ℕ) (has : Bool) → has ≡ is_some rest → (b || has) ≡ is_some (if b then Some stay else rest)
has_by true stay rest has e = refl
has_by false stay rest has e = e

pub has_is_some : (link : ℕ) (members : List Member) → has_link link members ≡ is_some (stay_of link members)
has_is_some link [] = refl
has_is_some link (m ∷ members) = has_by (is_link link m) m.stay (stay_of link members) (has_link link members) (has_is_some link members)
