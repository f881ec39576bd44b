-- No packet that is given is longer than our MRRU plus 2.
use Rattle.std.proofs.Common.{◌≡◌, ℕ, ◌+◌, ◌-◌, ◌≤◌, ◌++◌, zero, suc, max, nat_lt, cond, Bool, true, false, List, [], ◌∷◌, length, Option, None, Some, is_some, slice_set, slice_index_or, refl, sym, subst, arith, inl, inr}
use Rattle.std.specs.List.{AllByRecursion}
use Rattle.std.proofs.lemmas.Bool.Decides.{nat_tests}
use Rattle.ppp_mp.specs.Pieces.{Piece, joined}
use Rattle.ppp_mp.specs.Delivered.{Gathering, Entry, Joins, Leaves, Comes, Delivered, Takes, Left, Keeps, Answered, Rule, Rules, Settles, ruled, behind, goes_on, loses, completes, brings, leaves, keeps_piece, mark, numbered}
use Rattle.ppp_mp.specs.declared.counts.PieceNow.{PieceNow}
use Rattle.ppp_mp.specs.declared.counts.PieceNow.TheVariants.{Kept, Old, Doubled, Stranger, BadHeader}
use Rattle.ppp_mp.proofs.Rests.{some_same, member_cases}

abbrev pub Fit : (mrru : ℕ) → List (List ℕ) → Type 0
Fit mrru packets = AllByRecursion (λ (packet : List ℕ). length packet ≤ mrru + 2) packets

fit_more : (mrru : ℕ) (packets : List (List ℕ)) (packet : List ℕ) → Fit mrru packets → length packet ≤ mrru + 2 → Fit mrru (packets ++ packet ∷ [])
fit_more mrru [] packet all fits = (fits, tt)
fit_more mrru (x ∷ packets) packet all fits = (all.0, fit_more mrru packets packet all.1 fits)

completes_fit : (mrru : ℕ) (s : Gathering) (count : ℕ) → Fit mrru s.given → Fit mrru (completes mrru s count).given
completes_fit mrru s count all = by_length (nat_lt (mrru + 2) (length (joined s.kept s.least count))) refl
  where
    by_length : (b : Bool) → nat_lt (mrru + 2) (length (joined s.kept s.least count)) ≡ b
        → Fit mrru (cond b (record s { least = s.least + count; too_long = s.too_long + 1 }) (record s { least = s.least + count; given = s.given ++ joined s.kept s.least count ∷ [] })).given
    by_length true e = all
    by_length false e = fit_more mrru s.given (joined s.kept s.least count) all (let fits : length (joined s.kept s.least count) ≤ mrru + 2 = grind (arith, nat_tests) in fits)

none_fit : (mrru : ℕ) (s new : Gathering) (count : ℕ) (b : Bool) → cond b (Some (loses s count)) None ≡ Some new → Fit mrru s.given → Fit mrru new.given
none_fit mrru s new count true e all = subst (λ (x : Gathering). Fit mrru x.given) (some_same (loses s count) new e) all
none_fit mrru s new count false e all = absurd (cc)

some_fit : (mrru : ℕ) (s new : Gathering) (count most : ℕ) (a b : Bool) → cond a (cond b (Some (completes mrru s count)) None) (Some (loses s most)) ≡ Some new → Fit mrru s.given → Fit mrru new.given
some_fit mrru s new count most true true e all = subst (λ (x : Gathering). Fit mrru x.given) (some_same (completes mrru s count) new e) (completes_fit mrru s count all)
some_fit mrru s new count most true false e all = absurd (cc)
some_fit mrru s new count most false b e all = subst (λ (x : Gathering). Fit mrru x.given) (some_same (loses s most) new e) all

rule_fit : (mrru below : ℕ) (s new : Gathering) (len : ℕ) (o : Option Piece) → ruled mrru below s len o ≡ Some new → Fit mrru s.given → Fit mrru new.given
rule_fit mrru below s new len None e all = none_fit mrru s new (len + 1) (nat_lt (s.least + len) below) e all
rule_fit mrru below s new len (Some p) e all = some_fit mrru s new (len + 1) (max len 1) (goes_on p len) p.last e all

rules_fit : (mrru below : ℕ) (s new : Gathering) (count : ℕ) → Rules mrru below s count new → Fit mrru s.given → Fit mrru new.given
rules_fit mrru below s new zero same all = subst (λ (x : Gathering). Fit mrru x.given) (sym same) all
rules_fit mrru below s new (suc count) rules all =
    let rule : Rule mrru below rules.0 new = rules.2 in
    rule_fit mrru below rules.0 new rule.len (behind rules.0 rule.len) rule.applies (rules_fit mrru below s rules.0 count rules.1 all)

settles_fit : (mrru below : ℕ) (s new : Gathering) → Settles mrru below s new → Fit mrru s.given → Fit mrru new.given
settles_fit mrru below s new settles all = rules_fit mrru below s new settles.count settles.rules all

answered_fit : (mrru : ℕ) (s new : Gathering) (link : ℕ) (p : Piece) (answer : PieceNow) → Answered mrru s link p answer new → Fit mrru s.given → Fit mrru new.given
answered_fit mrru s new link p Old a all = let now : Gathering = record (brings s link p.number) { old = s.old + 1 } in settles_fit mrru (mark now) now new a.1 all
answered_fit mrru s new link p Doubled a all = let now : Gathering = record (brings s link p.number) { doubled = s.doubled + 1 } in settles_fit mrru (mark now) now new a.2 all
answered_fit mrru s new link p Kept a all =
    let keeps : Keeps mrru s link p new = a.2 in
    let now : Gathering = brings (keeps_piece p (loses keeps.mid (p.number - 127 - keeps.mid.least))) link p.number in
    settles_fit mrru (mark now) now new keeps.after (settles_fit mrru (max (mark s) (p.number - 127)) s keeps.mid keeps.before all)
answered_fit mrru s new link p Stranger a all = elim a [ ]
answered_fit mrru s new link p BadHeader a all = elim a [ ]

joins_fit : (mrru : ℕ) (s : Gathering) (link : ℕ) (b : Bool) → Fit mrru s.given → Fit mrru (cond b s (record s { brought = slice_set s.brought (link - 1) (Some (s.least - 1)) })).given
joins_fit mrru s link true all = all
joins_fit mrru s link false all = all

pub delivered_fits : (space mrru : ℕ) (past : List Entry) (s : Gathering) → Delivered space mrru past s → AllByRecursion (λ (packet : List ℕ). length packet ≤ mrru + 2) s.given
delivered_fits space mrru [] s d = subst (λ (x : Gathering). Fit mrru x.given) (sym d) tt
delivered_fits space mrru (Joins link ∷ past) s d =
    subst (λ (x : Gathering). Fit mrru x.given) (sym d.2) (joins_fit mrru d.0 link (is_some (slice_index_or d.0.brought (link - 1) None)) (delivered_fits space mrru past d.0 d.1))
delivered_fits space mrru (Leaves link ∷ past) s d =
    let left : Left mrru d.0 link s = d.2 in
    let all : Fit mrru d.0.given = delivered_fits space mrru past d.0 d.1 in
    elim (member_cases (slice_index_or d.0.brought (link - 1) None)) [
      | inl member ↦ settles_fit mrru (mark (leaves d.0 link)) (leaves d.0 link) s (left.member member) all
      | inr out ↦ subst (λ (x : Gathering). Fit mrru x.given) (sym (left.stranger out)) all
    ]
delivered_fits space mrru (Comes link fragment ∷ past) s d =
    let takes : Takes space mrru d.0 link fragment d.2 s = d.3 in
    let all : Fit mrru d.0.given = delivered_fits space mrru past d.0 d.1 in
    elim (member_cases (slice_index_or d.0.brought (link - 1) None)) [
      | inl member ↦ let of = takes.member member in answered_fit mrru d.0 s link (numbered of.number fragment) d.2 of.answered all
      | inr out ↦ subst (λ (x : Gathering). Fit mrru x.given) (sym (takes.stranger out).1) all
    ]
