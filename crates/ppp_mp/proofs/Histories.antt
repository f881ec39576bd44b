-- Every history delivers something, and only one thing.
use Rattle.std.proofs.Common.{◌≡◌, ◌≢◌, ℕ, ◌+◌, ◌-◌, ◌*◌, ◌<◌, ◌≤◌, ◌⊎◌, zero, suc, max, nat_lt, nat_eq, Bool, true, false, cond, List, [], ◌∷◌, Option, None, Some, is_some, slice_set, slice_index_or, refl, sym, ap, subst, ◌∙◌, arith, inl, inr}
use Rattle.std.proofs.lemmas.Bool.{cases_lt}
use Rattle.std.proofs.lemmas.Bool.Decides.{nat_tests}
use Rattle.ppp_mp.specs.Pieces.{Piece, piece_at, Begun, IsInside}
use Rattle.ppp_mp.specs.Delivered.{Gathering, Entry, Fragment, Joins, Leaves, Comes, Delivered, Takes, Left, Keeps, Answered, Rule, Rules, Settles, AtRest, ruled, behind, goes_on, loses, completes, mark, brings, joins, leaves, keeps_piece, nothing, numbered}
use Rattle.ppp_mp.specs.declared.counts.PieceNow.{PieceNow}
use Rattle.ppp_mp.specs.declared.counts.PieceNow.TheVariants.{Kept, Old, Doubled, Stranger, BadHeader}
use Rattle.ppp_mp.proofs.RuleLemmas.{inside_rests}
use Rattle.ppp_mp.proofs.Rests.{Stays, Rises, rule_rises, rules_stay, member_cases, goes_first}
use Rattle.ppp_mp.proofs.Once.{settles_once}
use Rattle.ppp_mp.proofs.FullNumbers.{full_once, full_some}

-- Only one thing.
keeps_once : (mrru : ℕ) (s new after : Gathering) (link : ℕ) (p : Piece) → Keeps mrru s link p new → Keeps mrru s link p after → new ≡ after
keeps_once mrru s new after link p a b =
    let same : a.mid ≡ b.mid = settles_once mrru (max (mark s) (p.number - 127)) s a.mid b.mid a.before b.before in
    let P = λ (m : Gathering).
    (let now : Gathering = brings (keeps_piece p (loses m (p.number - 127 - m.least))) link p.number in Settles mrru (mark now) now new) in
    let now : Gathering = brings (keeps_piece p (loses b.mid (p.number - 127 - b.mid.least))) link p.number in
    settles_once mrru (mark now) now new after (subst P same a.after) b.after

answered_once : (mrru : ℕ) (s new after : Gathering) (link : ℕ) (p : Piece) (answer other : PieceNow) → Answered mrru s link p answer new → Answered mrru s link p other after → (answer ≡ other) × (new ≡ after)
answered_once mrru s new after link p Old Old a b = let now : Gathering = record (brings s link p.number) { old = s.old + 1 } in (refl, settles_once mrru (mark now) now new after a.1 b.1)
answered_once mrru s new after link p Old Doubled a b = absurd (omega (arith, a.0, b.0))
answered_once mrru s new after link p Old Kept a b = absurd (omega (arith, a.0, b.0))
answered_once mrru s new after link p Doubled Old a b = absurd (omega (arith, a.0, b.0))
answered_once mrru s new after link p Doubled Doubled a b = let now : Gathering = record (brings s link p.number) { doubled = s.doubled + 1 } in (refl, settles_once mrru (mark now) now new after a.2 b.2)
answered_once mrru s new after link p Doubled Kept a b = absurd (a.1 b.1)
answered_once mrru s new after link p Kept Old a b = absurd (omega (arith, a.0, b.0))
answered_once mrru s new after link p Kept Doubled a b = absurd (b.1 a.1)
answered_once mrru s new after link p Kept Kept a b = (refl, keeps_once mrru s new after link p a.2 b.2)
answered_once mrru s new after link p Stranger other a b = elim a [ ]
answered_once mrru s new after link p BadHeader other a b = elim a [ ]
answered_once mrru s new after link p Old Stranger a b = elim b [ ]
answered_once mrru s new after link p Old BadHeader a b = elim b [ ]
answered_once mrru s new after link p Doubled Stranger a b = elim b [ ]
answered_once mrru s new after link p Doubled BadHeader a b = elim b [ ]
answered_once mrru s new after link p Kept Stranger a b = elim b [ ]
answered_once mrru s new after link p Kept BadHeader a b = elim b [ ]

pub takes_once : (space mrru : ℕ) (s : Gathering) (link : ℕ) (fragment : Fragment) (answer other : PieceNow) (new after : Gathering)
    → Takes space mrru s link fragment answer new → Takes space mrru s link fragment other after → (answer ≡ other) × (new ≡ after)
takes_once space mrru s link fragment answer other new after p q = elim (member_cases (slice_index_or s.brought (link - 1) None)) [
  | inl member ↦
      let a = p.member member in
      let b = q.member member in
      let same : a.number ≡ b.number = full_once space s.least fragment.field a.number b.number a.full b.full in
      let P = λ (n : ℕ). Answered mrru s link (numbered n fragment) answer new in
      answered_once mrru s new after link (numbered b.number fragment) answer other (subst P same a.answered) b.answered
  | inr out ↦
      let a = p.stranger out in
      let b = q.stranger out in
      (a.0 ∙ sym b.0, a.1 ∙ sym b.1)
]

left_once : (mrru : ℕ) (s new after : Gathering) (link : ℕ) → Left mrru s link new → Left mrru s link after → new ≡ after
left_once mrru s new after link p q = elim (member_cases (slice_index_or s.brought (link - 1) None)) [
  | inl member ↦ settles_once mrru (mark (leaves s link)) (leaves s link) new after (p.member member) (q.member member)
  | inr out ↦ p.stranger out ∙ sym (q.stranger out)
]

pub delivered_once : (space mrru : ℕ) (past : List Entry) (s other : Gathering) → Delivered space mrru past s → Delivered space mrru past other → s ≡ other
delivered_once space mrru [] s other d e = d ∙ sym e
delivered_once space mrru (Joins link ∷ past) s other d e =
    let same : d.0 ≡ e.0 = delivered_once space mrru past d.0 e.0 d.1 e.1 in
    d.2 ∙ ap (λ x. joins x link) same ∙ sym e.2
delivered_once space mrru (Leaves link ∷ past) s other d e =
    let same : d.0 ≡ e.0 = delivered_once space mrru past d.0 e.0 d.1 e.1 in
    left_once mrru e.0 s other link (subst (λ (x : Gathering). Left mrru x link s) same d.2) e.2
delivered_once space mrru (Comes link fragment ∷ past) s other d e =
    let same : d.0 ≡ e.0 = delivered_once space mrru past d.0 e.0 d.1 e.1 in
    (takes_once space mrru e.0 link fragment d.2 e.2 s other (subst (λ (x : Gathering). Takes space mrru x link fragment d.2 s) same d.3) e.3).1

-- Something: the rules end, since each raises the least number, and beyond all kept numbers none applies.
top_of : List Piece → ℕ
top_of [] = 0
top_of (p ∷ kept) = max (suc p.number) (top_of kept)

none_above : (kept : List Piece) (n : ℕ) → top_of kept ≤ n → piece_at n kept ≡ None
unfolding top_of
none_above [] n le = refl
none_above (p ∷ kept) n le =
    let f : nat_eq p.number n ≡ false = grind (arith, nat_tests) in
    let h : piece_at n kept ≡ None = none_above kept n (omega arith) in
    rw (f, h) refl

pub rest_at : (mrru bound : ℕ) (s : Gathering) (len : ℕ) → Begun s.kept s.least len → behind s len ≡ None → bound ≤ s.least + len → AtRest mrru bound s
rest_at mrru bound s len begun none le = λ other begun'. elim (cases_lt other len) [
  | inl before ↦
      let t = begun other before in
      ap (ruled mrru bound s other) t.1 ∙ inside_rests mrru bound s other t.0 t.2 t.3
  | inr past ↦ elim (cases_lt len other) [
    | inl behind_it ↦
        let t = begun' len behind_it in
        absurd (let e : None ≡ Some t.0 = sym none ∙ t.1 in cc)
    | inr same ↦
        let at : other ≡ len = omega arith in
        let none' : behind s other ≡ None = ap (behind s) at ∙ none in
        let f : nat_lt (s.least + other) bound ≡ false = grind (arith, nat_tests) in
        ap (ruled mrru bound s other) none' ∙ rw f refl
  ]
]

pieces_next : (mrru bound : ℕ) (s : Gathering) (len : ℕ) (p : Piece) (a b : Bool) → Begun s.kept s.least len → behind s len ≡ Some p → goes_on p len ≡ a → p.last ≡ b
    → ((new : Gathering) × Rule mrru bound s new) ⊎ IsInside s.kept s.least len
pieces_next mrru bound s len p true true begun there goes last =
    let made : ruled mrru bound s len (Some p) ≡ Some (completes mrru s (len + 1)) = rw (goes, last) refl in
    inl (completes mrru s (len + 1), record { len = len; begun = begun; applies = ap (ruled mrru bound s len) there ∙ made })
pieces_next mrru bound s len p true false begun there goes last = inr (p, there, goes_first p len goes, last)
pieces_next mrru bound s len p false b begun there goes last =
    let made : ruled mrru bound s len (Some p) ≡ Some (loses s (max len 1)) = rw goes refl in
    inl (loses s (max len 1), record { len = len; begun = begun; applies = ap (ruled mrru bound s len) there ∙ made })

none_next : (mrru bound : ℕ) (s : Gathering) (len : ℕ) → Begun s.kept s.least len → behind s len ≡ None → AtRest mrru bound s ⊎ ((new : Gathering) × Rule mrru bound s new)
none_next mrru bound s len begun none = elim (cases_lt (s.least + len) bound) [
  | inl below ↦
      let f : nat_lt (s.least + len) bound ≡ true = grind (arith, nat_tests) in
      let made : ruled mrru bound s len None ≡ Some (loses s (len + 1)) = rw f refl in
      inr (loses s (len + 1), record { len = len; begun = begun; applies = ap (ruled mrru bound s len) none ∙ made })
  | inr past ↦ inl (rest_at mrru bound s len begun none past)
]

one_next : (mrru bound : ℕ) (s : Gathering) (len : ℕ) (o : Option Piece) → Begun s.kept s.least len → behind s len ≡ o
    → (AtRest mrru bound s ⊎ ((new : Gathering) × Rule mrru bound s new)) ⊎ IsInside s.kept s.least len
one_next mrru bound s len None begun there = inl (none_next mrru bound s len begun there)
one_next mrru bound s len (Some p) begun there = elim (pieces_next mrru bound s len p (goes_on p len) p.last begun there refl refl) [
  | inl rule ↦ inl (inr rule)
  | inr inside ↦ inr inside
]

pub begun_more : (kept : List Piece) (least len : ℕ) → Begun kept least len → IsInside kept least len → Begun kept least (suc len)
begun_more kept least len begun inside = λ i below. elim (cases_lt i len) [
  | inl before ↦ begun i before
  | inr same ↦ let e : len ≡ i = omega arith in subst (λ (n : ℕ). IsInside kept least n) e inside
]

next : (mrru bound : ℕ) (s : Gathering) (fuel len : ℕ) → Begun s.kept s.least len → top_of s.kept ≤ s.least + len + fuel → AtRest mrru bound s ⊎ ((new : Gathering) × Rule mrru bound s new)
next mrru bound s zero len begun top = none_next mrru bound s len begun (none_above s.kept (s.least + len) (omega arith))
next mrru bound s (suc fuel) len begun top = elim (one_next mrru bound s len (behind s len) begun refl) [
  | inl found ↦ found
  | inr inside ↦ next mrru bound s fuel (suc len) (begun_more s.kept s.least len begun inside) (omega arith)
]

settles_from : (mrru bound : ℕ) (s mid : Gathering) (count fuel : ℕ) → Rules mrru bound s count mid → max bound (top_of mid.kept) ≤ mid.least + fuel → (new : Gathering) × Settles mrru bound s new
settles_from mrru bound s mid count zero rules top =
    let none : piece_at (mid.least + 0) mid.kept ≡ None = none_above mid.kept (mid.least + 0) (omega arith) in
    let begun : Begun mid.kept mid.least 0 = λ i below. absurd (omega arith) in
    (mid, record { count = count; rules = rules; rest = rest_at mrru bound mid 0 begun none (omega arith) })
settles_from mrru bound s mid count (suc fuel) rules top = elim (next mrru bound mid (top_of mid.kept) 0 (λ i below. absurd (omega arith)) (omega arith)) [
  | inl rest ↦ (mid, record { count = count; rules = rules; rest = rest })
  | inr found ↦
      let rises : Rises mid found.0 = rule_rises mrru bound mid found.0 found.1 in
      let kept : top_of found.0.kept ≡ top_of mid.kept = ap top_of rises.kept in
      let up : mid.least < found.0.least = rises.least in
      settles_from mrru bound s found.0 (suc count) fuel (mid, rules, found.1) (omega arith)
]

settles_some : (mrru bound : ℕ) (s : Gathering) → (new : Gathering) × Settles mrru bound s new
settles_some mrru bound s = settles_from mrru bound s s 0 (max bound (top_of s.kept)) refl (omega arith)

settles_up : (mrru bound : ℕ) (s new : Gathering) → Settles mrru bound s new → s.least ≤ new.least
settles_up mrru bound s new settles = let stays : Stays s new = rules_stay mrru bound s new settles.count settles.rules in stays.least

joins_up : (s : Gathering) (link : ℕ) (b : Bool) → s.least ≤ (cond b s (record s { brought = slice_set s.brought (link - 1) (Some (s.least - 1)) })).least
joins_up s link true = omega arith
joins_up s link false = omega arith

none_cases : (o : Option Piece) → (o ≡ None) ⊎ (o ≢ None)
none_cases None = inl refl
none_cases (Some p) = inr (λ e. cc)

answered_some : (mrru : ℕ) (s : Gathering) (link : ℕ) (p : Piece) → (answer : PieceNow) × (new : Gathering) × Answered mrru s link p answer new × (s.least ≤ new.least)
answered_some mrru s link p = elim (cases_lt p.number s.least) [
  | inl below ↦
      let now : Gathering = record (brings s link p.number) { old = s.old + 1 } in
      let t = settles_some mrru (mark now) now in
      (Old, t.0, (below, t.1), settles_up mrru (mark now) now t.0 t.1)
  | inr past ↦ elim (none_cases (piece_at p.number s.kept)) [
    | inl none ↦
        let t = settles_some mrru (max (mark s) (p.number - 127)) s in
        let now : Gathering = brings (keeps_piece p (loses t.0 (p.number - 127 - t.0.least))) link p.number in
        let u = settles_some mrru (mark now) now in
        let first : s.least ≤ t.0.least = settles_up mrru (max (mark s) (p.number - 127)) s t.0 t.1 in
        let second : now.least ≤ u.0.least = settles_up mrru (mark now) now u.0 u.1 in
        (Kept, u.0, (past, none, record { mid = t.0; before = t.1; after = u.1 }), omega arith)
    | inr there ↦
        let now : Gathering = record (brings s link p.number) { doubled = s.doubled + 1 } in
        let t = settles_some mrru (mark now) now in
        (Doubled, t.0, (past, there, t.1), settles_up mrru (mark now) now t.0 t.1)
  ]
]

takes_some : (space half mrru : ℕ) (s : Gathering) (link : ℕ) (fragment : Fragment) → space ≡ 2 * half → 0 < half → space ≤ s.least → (answer : PieceNow) × (new : Gathering) × Takes space mrru s link fragment answer new × (s.least ≤ new.least)
takes_some space half mrru s link fragment is some le = elim (member_cases (slice_index_or s.brought (link - 1) None)) [
  | inl member ↦
      let f = full_some space half s.least fragment.field is some le in
      let t = answered_some mrru s link (numbered f.0 fragment) in
      (t.0, t.1, record { member = λ _. record { number = f.0; full = f.1; answered = t.2 }; stranger = λ out. absurd (out member) }, t.3)
  | inr out ↦ (Stranger, s, record { member = λ member. absurd (out member); stranger = λ _. (refl, refl) }, omega arith)
]

left_some : (mrru : ℕ) (s : Gathering) (link : ℕ) → (new : Gathering) × Left mrru s link new × (s.least ≤ new.least)
left_some mrru s link = elim (member_cases (slice_index_or s.brought (link - 1) None)) [
  | inl member ↦
      let t = settles_some mrru (mark (leaves s link)) (leaves s link) in
      (t.0, record { member = λ _. t.1; stranger = λ out. absurd (out member) }, settles_up mrru (mark (leaves s link)) (leaves s link) t.0 t.1)
  | inr out ↦ (s, record { member = λ member. absurd (out member); stranger = λ _. refl }, omega arith)
]

pub raised_some : (space half mrru : ℕ) (past : List Entry) → space ≡ 2 * half → 0 < half → (s : Gathering) × Delivered space mrru past s × (space ≤ s.least)
raised_some space half mrru [] is some = (nothing space, refl, omega arith)
raised_some space half mrru (Joins link ∷ past) is some =
    let t = raised_some space half mrru past is some in
    let up : t.0.least ≤ (joins t.0 link).least = joins_up t.0 link (is_some (slice_index_or t.0.brought (link - 1) None)) in
    let low : space ≤ t.0.least = t.2 in
    (joins t.0 link, (t.0, t.1, refl), omega arith)
raised_some space half mrru (Leaves link ∷ past) is some =
    let t = raised_some space half mrru past is some in
    let u = left_some mrru t.0 link in
    let low : space ≤ t.0.least = t.2 in
    let up : t.0.least ≤ u.0.least = u.2 in
    (u.0, (t.0, t.1, u.1), omega arith)
raised_some space half mrru (Comes link fragment ∷ past) is some =
    let t = raised_some space half mrru past is some in
    let u = takes_some space half mrru t.0 link fragment is some t.2 in
    let low : space ≤ t.0.least = t.2 in
    let up : t.0.least ≤ u.1.least = u.3 in
    (u.1, (t.0, t.1, u.0, u.2), omega arith)

pub delivered_some : (half mrru : ℕ) (past : List Entry) → 0 < half → (s : Gathering) × Delivered (2 * half) mrru past s
delivered_some half mrru past some = let t = raised_some (2 * half) half mrru past refl some in (t.0, t.1)
