-- A Nak, a Reject and a Nak of our own leave what looking back over them gives.
use Rattle.std.proofs.Common.{◌≡◌, ℕ, Bool, true, false, cond, None, List, [], ◌∷◌, ◌++◌, refl, ap, sym, ◌∙◌}
use Rattle.std.specs.Prelude.{◌&&◌, ◌||◌, not}
use Rattle.ppp_packet.specs.OptionsOf.{Item}
use Rattle.ppp_packet.proofs.Laying.{items_of-laid}
use Rattle.ppp_control.specs.declared.judging.Verdict.{Verdict}
use Rattle.ppp_control.specs.declared.judging.Verdict.TheVariants.{Ack, Nak, Reject}
use Rattle.ppp_control.specs.Changes.{Change, by_nak, by_reject, names_kind, is_left_out, named_in, items_onto}
use Rattle.ppp_control.specs.Rules.{our_nak}
use Rattle.ppp_control.proofs.HeardLemmas.{nak_in}
use Rattle.ppp_lcp.specs.declared.ours.Ours.{Ours}
use Rattle.ppp_lcp.specs.declared.wish.LcpWish.{LcpWish}
use Rattle.ppp_lcp.specs.Magic.{has_magic}
use Rattle.ppp_lcp.specs.Ours.{our_mru, our_map, our_method, our_mrru, names_magic, generator_in, our_number, word_of, skipped, Asked}
use Rattle.ppp_lcp.specs.Taking.{ours_of, asks, nak_items, redrawn, after_nak, after_reject}

-- what the items that were named give
abbrev with_named : LcpWish → List Item → Ours → Ours
with_named wish named o = record o { mru = our_mru wish named; map = our_map wish named; method = our_method wish named; mrru = our_mrru wish named }

named_back : (wish : LcpWish) (items named : List Item) (o : Ours) → nak_items wish (with_named wish named o) items ≡ with_named wish (items_onto items named) o
named_back wish [] named o = refl
named_back wish (i ∷ items) named o = named_back wish items (i ∷ named) o

redrawn_number : (names magic rejected : Bool) (word number : ℕ)
    → cond (names && magic && not rejected) word (cond rejected 0 (cond magic number 0)) ≡ cond rejected 0 (cond magic (cond (names && magic && not rejected) word number) 0)
redrawn_number true true true word number = refl
redrawn_number true true false word number = refl
redrawn_number true false true word number = refl
redrawn_number true false false word number = refl
redrawn_number false true true word number = refl
redrawn_number false true false word number = refl
redrawn_number false false true word number = refl
redrawn_number false false false word number = refl

pub nak_back : (wish : LcpWish) (words : ℕ) (changes : List Change) (items : List Item) → after_nak wish (ours_of wish words changes) items ≡ ours_of wish words (by_nak items ∷ changes)
unfolding after_nak
nak_back wish words changes items =
    let test : Bool = names_magic items && wish.magic && not (is_left_out 5 changes) in
    ap (λ o. redrawn test o) (named_back wish items (named_in changes) (ours_of wish words changes))
    ∙ ap (λ m. record (redrawn test (with_named wish (items_onto items (named_in changes)) (ours_of wish words changes))) { magic = m })
    (redrawn_number (names_magic items) wish.magic (is_left_out 5 changes) (word_of (generator_in wish words changes)) (our_number wish words changes))

rejected_number : (names rejected : Bool) (number : ℕ) → cond names 0 (cond rejected 0 number) ≡ cond (names || rejected) 0 number
rejected_number true rejected number = refl
rejected_number false rejected number = refl

pub reject_back : (wish : LcpWish) (words : ℕ) (changes : List Change) (items : List Item) → after_reject (ours_of wish words changes) items ≡ ours_of wish words (by_reject items ∷ changes)
reject_back wish words changes items =
    ap (λ m. record (after_reject (ours_of wish words changes) items) { magic = m })
    (rejected_number (names_kind 5 items) (is_left_out 5 changes) (cond wish.magic (our_number wish words changes) 0))

-- a Nak of our own, where one is sent
abbrev spent : Bool → Ours → Ours
spent test o = record o { generator = cond test (skipped o.generator) o.generator }

pub our_nak_back : (sends : Bool) (id : ℕ) (v : Verdict) (wish : LcpWish) (words : ℕ) (changes : List Change)
    → spent (has_magic v && sends) (ours_of wish words changes) ≡ ours_of wish words (our_nak (cond sends (nak_in id v) None) ++ changes)
our_nak_back true id Ack wish words changes = refl
our_nak_back true id (Nak items) wish words changes =
    ap (λ b. spent b (ours_of wish words changes)) (and_true (names_magic items) ∙ ap names_magic (sym (items_of-laid items)))
  where
    and_true : (b : Bool) → (b && true) ≡ b
    and_true true = refl
    and_true false = refl
our_nak_back true id (Reject items) wish words changes = refl
our_nak_back false id v wish words changes = ap (λ b. spent b (ours_of wish words changes)) (and_false (has_magic v))
  where
    and_false : (b : Bool) → (b && false) ≡ false
    and_false true = refl
    and_false false = refl

-- What the code asks is what is to be asked.
pub asks_back : (wish : LcpWish) (words : ℕ) (changes : List Change) → asks wish (ours_of wish words changes) ≡ Asked wish words changes
unfolding asks Asked
asks_back wish words changes = refl
