-- The calls over whole histories.
use Rattle.std.proofs.Common.{◌≡◌, ℕ, ◌+◌, ◌-◌, ◌++◌, List, [], Option, None, Some, IsSome, is_some, true, false, slice_set, slice_index_or, refl, sym, ap, subst, ◌∙◌, append-nil, arith}
use Rattle.ppp_mp.specs.Delivered.{Gathering, Entry, Fragment, Joins, Leaves, Delivered, Settles, AtRest, IsMember, Takes, Left, joins, leaves, mark}
use Rattle.ppp_mp.specs.Header.{long_space}
use Rattle.ppp_mp.specs.Moves.{HasTaken, HasSettledNow}
use Rattle.ppp_mp.specs.StandsFor.{GatherNow, KeepsNow, StandsFor, Adds, AddsPiece}
use Rattle.ppp_mp.specs.Facts.{KeepsFacts, now_of, with_looks_at}
use Rattle.ppp_mp.specs.declared.counts.PieceNow.{PieceNow}
use Rattle.ppp_mp.specs.declared.counts.PieceNow.TheVariants.{Stranger}
use Rattle.ppp_mp.specs.declared.facts.GatherFacts.{GatherFacts}
use Rattle.ppp_mp.proofs.Rests.{delivered_rests}
use Rattle.std.specs.List.{AllByRecursion}
use Rattle.ppp_mp.specs.Membership.{IsLink}
use Rattle.ppp_mp.specs.Pieces.{AreInOrder}
use Rattle.ppp_mp.specs.Reached.{Reached, HasReached, MadeOfPieces}
use Rattle.ppp_mp.proofs.Reaching.{delivered_made}
use Rattle.ppp_mp.proofs.Wholes.{delivered_whole}
use Rattle.ppp_mp.proofs.Nows.{now_keeps, facts_keep}
use Rattle.ppp_mp.proofs.Taking.{joins_keeps, leaves_keeps, member-is, is-member}

no-member : (o : Option ℕ) → is_some o ≡ false → ¬ (IsSome o)
no-member None e = λ h. absurd (cc)
no-member (Some n) e = λ h. absurd (cc)

pub joined_stands : (g : GatherNow) (g1 g' : GatherFacts) (past : List Entry) (s : Gathering) (link : ℕ) → now_of g1 ≡ g → is_some (slice_index_or g1.overs (link - 1) None) ≡ false
    → g' ≡ record g1 { overs = slice_set g1.overs (link - 1) (Some 0) } → StandsFor long_space g past s → Adds long_space (now_of g') past s (Joins link) []
joined_stands g g1 g' past s link same out entered stands =
    let now : StandsFor long_space (now_of g1) past s = subst (λ (x : GatherNow). StandsFor long_space x past s) (sym same) stands in
    let facts : KeepsFacts long_space g1 s = facts_keep long_space g1 s now.keeps in
    let none : is_some (slice_index_or s.brought (link - 1) None) ≡ false = sym (member-is g1 s (link - 1) facts) ∙ out in
    let mrru : g'.mrru ≡ g1.mrru = ap (λ (x : GatherFacts). x.mrru) entered in
    let delivered : Delivered long_space g'.mrru past s = subst (λ (m : ℕ). Delivered long_space m past s) (sym mrru) now.delivered in
    let given : (joins s link).given ≡ s.given ++ [] = rw none (sym (append-nil s.given)) in
    (joins s link, record { delivered = (s, delivered, refl); keeps = now_keeps long_space g' (joins s link) (joins_keeps g1 g' s link facts out entered) }, given)

pub left_stands : (g : GatherNow) (g1 g2 g3 : GatherFacts) (packets packets' : List (List ℕ)) (past : List Entry) (s : Gathering) (link : ℕ) → now_of g1 ≡ g → is_some (slice_index_or g1.overs (link - 1) None) ≡ true
    → g2 ≡ record g1 { overs = slice_set g1.overs (link - 1) None } → packets ≡ [] → g3.mrru ≡ g2.mrru → HasSettledNow long_space g2 g3 packets packets' → StandsFor long_space g past s → Adds long_space (now_of g3) past s (Leaves link) packets'
left_stands g g1 g2 g3 packets packets' past s link same in_it left none mrru3 settled stands =
    let now : StandsFor long_space (now_of g1) past s = subst (λ (x : GatherNow). StandsFor long_space x past s) (sym same) stands in
    let facts : KeepsFacts long_space g1 s = facts_keep long_space g1 s now.keeps in
    let keeps = leaves_keeps g1 g2 s link facts left in
    let r = settled s.given (leaves s link) (record { keeps = keeps; given = rw none (sym (append-nil s.given)) }) in
    let mrru2 : g2.mrru ≡ g1.mrru = ap (λ (x : GatherFacts). x.mrru) left in
    let member : IsMember s link = is-member (slice_index_or s.brought (link - 1) None) (sym (member-is g1 s (link - 1) facts) ∙ in_it) in
    let delivered : Delivered long_space g3.mrru past s = subst (λ (m : ℕ). Delivered long_space m past s) (sym (mrru3 ∙ mrru2)) now.delivered in
    let settles : Settles g3.mrru (mark (leaves s link)) (leaves s link) r.0 = subst (λ (m : ℕ). Settles m (mark (leaves s link)) (leaves s link) r.0) (sym mrru3) r.1 in
    let is_left : Left g3.mrru s link r.0 = record { member = λ _. settles; stranger = λ out. absurd (out member) } in
    (r.0, record { delivered = (s, delivered, is_left); keeps = now_keeps long_space g3 r.0 r.2.keeps }, r.2.given)

pub stranger_left : (g : GatherFacts) (packets : List (List ℕ)) (past : List Entry) (s : Gathering) (link : ℕ) → is_some (slice_index_or g.overs (link - 1) None) ≡ false → packets ≡ []
    → StandsFor long_space (now_of g) past s → Adds long_space (now_of g) past s (Leaves link) packets
stranger_left g packets past s link out none stands =
    let no : ¬ (IsMember s link) = no-member (slice_index_or s.brought (link - 1) None) (sym (member-is g s (link - 1) (facts_keep long_space g s stands.keeps)) ∙ out) in
    let is_left : Left g.mrru s link s = record { member = λ member. absurd (no member); stranger = λ _. refl } in
    (s, record { delivered = (s, stands.delivered, is_left); keeps = stands.keeps }, rw none (sym (append-nil s.given)))

pub stranger_came : (g : GatherFacts) (packets : List (List ℕ)) (past : List Entry) (s : Gathering) (link : ℕ) (fragment : Fragment) → is_some (slice_index_or g.overs (link - 1) None) ≡ false → packets ≡ []
    → StandsFor long_space (now_of g) past s → AddsPiece long_space (now_of g) past s link fragment Stranger packets
stranger_came g packets past s link fragment out none stands =
    let no : ¬ (IsMember s link) = no-member (slice_index_or s.brought (link - 1) None) (sym (member-is g s (link - 1) (facts_keep long_space g s stands.keeps)) ∙ out) in
    let takes : Takes long_space g.mrru s link fragment Stranger s = record { member = λ member. absurd (no member); stranger = λ _. (refl, refl) } in
    (s, takes, record { delivered = (s, stands.delivered, Stranger, takes); keeps = stands.keeps }, rw none (sym (append-nil s.given)))

pub piece_stands : (g1 g' : GatherFacts) (packets : List (List ℕ)) (past : List Entry) (s : Gathering) (link at : ℕ) (fragment fragment' : Fragment) (answer : PieceNow) → at + 1 ≡ link → is_some (slice_index_or g1.overs at None) ≡ true
    → fragment ≡ fragment' → g'.mrru ≡ g1.mrru
    → ((s : Gathering) → KeepsFacts long_space g1 s → AtRest g1.mrru (mark s) s → HasTaken long_space g1.mrru s (at + 1) fragment' answer g' packets)
    → StandsFor long_space (now_of g1) past s → AddsPiece long_space (now_of g') past s link fragment answer packets
piece_stands g1 g' packets past s link at fragment fragment' answer link_is in_it fragment_is mrru taken now =
    let facts : KeepsFacts long_space g1 s = facts_keep long_space g1 s now.keeps in
    let rest : AtRest g1.mrru (mark s) s = delivered_rests long_space g1.mrru past s now.delivered in
    let member : IsSome (slice_index_or s.brought at None) = is-member (slice_index_or s.brought at None) (sym (member-is g1 s at facts) ∙ in_it) in
    let at_is : at ≡ at + 1 - 1 = omega arith in
    let member_now : IsMember s (at + 1) = subst (λ (i : ℕ). IsSome (slice_index_or s.brought i None)) at_is member in
    let r = taken s facts rest in
    let P = λ (l : ℕ) (f : Fragment) (m : ℕ). Takes long_space m s l f answer r.0 in
    let takes : Takes long_space g1.mrru s (at + 1) fragment' answer r.0 = record { member = λ _. r.1; stranger = λ out. absurd (out member_now) } in
    let takes_link : Takes long_space g1.mrru s link fragment' answer r.0 = subst (λ (l : ℕ). Takes long_space g1.mrru s l fragment' answer r.0) link_is takes in
    let takes_it : Takes long_space g1.mrru s link fragment answer r.0 = subst (λ (f : Fragment). Takes long_space g1.mrru s link f answer r.0) (sym fragment_is) takes_link in
    let takes_now : Takes long_space g'.mrru s link fragment answer r.0 = subst (λ (m : ℕ). Takes long_space m s link fragment answer r.0) (sym mrru) takes_it in
    let delivered : Delivered long_space g'.mrru past s = subst (λ (m : ℕ). Delivered long_space m past s) (sym mrru) now.delivered in
    (r.0, takes_now, record { delivered = (s, delivered, answer, takes_now); keeps = now_keeps long_space g' r.0 r.2 }, r.3)

-- Each packet that was given is whole.
pub whole_now : (g : GatherNow) (past : List Entry) (s : Gathering) → StandsFor long_space g past s → AreInOrder s.kept 0 s.least s.given
whole_now g past s stands = delivered_whole long_space g.mrru past s stands.delivered

-- Each is made of pieces that came.
pub came_now : (g : GatherNow) (past : List Entry) (reached : List Reached) (s : Gathering) → StandsFor long_space g past s → AllByRecursion IsLink past → HasReached long_space g.mrru past reached → AllByRecursion (MadeOfPieces reached) s.given
came_now g past reached s stands links has = delivered_made long_space g.mrru past reached s links has stands.delivered

-- A gatherer stands for what it stood for, whatever looks are counted.
pub looks_stand : (g : GatherNow) (g1 g' : GatherFacts) (past : List Entry) (s : Gathering) → now_of g1 ≡ g → g' ≡ with_looks_at 0 g1 → StandsFor long_space g past s → StandsFor long_space (now_of g') past s
looks_stand g g1 g' past s is same stands =
    let old : StandsFor long_space (now_of g1) past s = subst (λ (x : GatherNow). StandsFor long_space x past s) (sym is) stands in
    let k : KeepsNow long_space (now_of g1) s = old.keeps in
    let now : StandsFor long_space (now_of (with_looks_at 0 g1)) past s = record {
      delivered = old.delivered;
      keeps = record { least = k.least; raised = k.raised; waiting = k.waiting; rising = k.rising; overs = k.overs; counts = k.counts };
    } in
    subst (λ (x : GatherFacts). StandsFor long_space (now_of x) past s) (sym same) now
