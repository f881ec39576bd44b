-- Histories that are worked out by computing: what is computed is what the definitions say.
use Rattle.std.proofs.Common.{◌≡◌, ℕ, ◌+◌, ◌-◌, ◌%◌, ◌<◌, ◌≤◌, zero, suc, max, min, nat_lt, nat_eq, cond, Bool, true, false, List, [], ◌∷◌, Option, None, Some, is_some, IsSome, option_map, slice_index_or, refl, sym, ap, subst, ◌∙◌, arith}
use Rattle.std.proofs.lemmas.Bool.Decides.{nat_tests}
use Rattle.ppp_mp.specs.Pieces.{Piece, piece_at, Begun, IsInside}
use Rattle.ppp_mp.specs.Delivered.{Gathering, Entry, Fragment, Joins, Leaves, Comes, Delivered, Takes, Left, Answered, Rule, Rules, Settles, AtRest, IsFull, ruled, behind, goes_on, loses, completes, mark, brings, joins, leaves, keeps_piece, nothing, numbered}
use Rattle.ppp_mp.specs.Header.{long_space}
use Rattle.ppp_mp.specs.Rows.{Gives, Came}
use Rattle.ppp_mp.specs.Cut.{Cut, IsPiece}
use Rattle.ppp_mp.specs.Schedule.{IsNear}
use Rattle.ppp_mp.specs.declared.counts.PieceNow.{PieceNow}
use Rattle.ppp_mp.specs.declared.counts.PieceNow.TheVariants.{Kept, Old, Doubled, Stranger}
use Rattle.ppp_mp.proofs.Histories.{delivered_once, rest_at, begun_more}
use Rattle.ppp_mp.proofs.Rests.{goes_first}
use Rattle.ppp_mp.proofs.SettlingLemmas.{misses_rules}

-- how a search for the rule that applies ends
pub data Found : Type 0 where
  rule : (new : Gathering) → Found
  rest : Found
  stuck : Found

abbrev pub look_at : (mrru bound : ℕ) (s : Gathering) (len : ℕ) (more : Found) → Option Piece → Found
look_at mrru bound s len more None = cond (nat_lt (s.least + len) bound) (rule (loses s (len + 1))) rest
look_at mrru bound s len more (Some p) = cond (goes_on p len) (cond p.last (rule (completes mrru s (len + 1))) more) (rule (loses s (max len 1)))

abbrev pub look : (mrru bound : ℕ) (s : Gathering) (fuel len : ℕ) → Found
look mrru bound s zero len = stuck
look mrru bound s (suc fuel) len = look_at mrru bound s len (look mrru bound s fuel (suc len)) (behind s len)

abbrev IsFound : (mrru bound : ℕ) (s : Gathering) → Found → Type 0
IsFound mrru bound s (rule new) = Rule mrru bound s new
IsFound mrru bound s rest = AtRest mrru bound s
IsFound mrru bound s stuck = Unit {0}

none_sound : (mrru bound : ℕ) (s : Gathering) (len : ℕ) (t : Bool) → nat_lt (s.least + len) bound ≡ t → Begun s.kept s.least len → behind s len ≡ None → IsFound mrru bound s (cond t (rule (loses s (len + 1))) rest)
none_sound mrru bound s len true e begun there =
    let made : ruled mrru bound s len None ≡ Some (loses s (len + 1)) = rw e refl in
    record { len = len; begun = begun; applies = ap (ruled mrru bound s len) there ∙ made }
none_sound mrru bound s len false e begun there = rest_at mrru bound s len begun there (grind (arith, nat_tests))

some_sound : (mrru bound : ℕ) (s : Gathering) (len : ℕ) (more : Found) (p : Piece) (a b : Bool) → goes_on p len ≡ a → p.last ≡ b → Begun s.kept s.least len → behind s len ≡ Some p → (IsInside s.kept s.least len → IsFound mrru bound s more)
    → IsFound mrru bound s (cond a (cond b (rule (completes mrru s (len + 1))) more) (rule (loses s (max len 1))))
some_sound mrru bound s len more p true true goes last begun there on =
    let made : ruled mrru bound s len (Some p) ≡ Some (completes mrru s (len + 1)) = rw (goes, last) refl in
    record { len = len; begun = begun; applies = ap (ruled mrru bound s len) there ∙ made }
some_sound mrru bound s len more p true false goes last begun there on = on (p, there, goes_first p len goes, last)
some_sound mrru bound s len more p false b goes last begun there on =
    let made : ruled mrru bound s len (Some p) ≡ Some (loses s (max len 1)) = rw goes refl in
    record { len = len; begun = begun; applies = ap (ruled mrru bound s len) there ∙ made }

at_sound : (mrru bound : ℕ) (s : Gathering) (len : ℕ) (more : Found) (o : Option Piece) → Begun s.kept s.least len → behind s len ≡ o → (IsInside s.kept s.least len → IsFound mrru bound s more) → IsFound mrru bound s (look_at mrru bound s len more o)
at_sound mrru bound s len more None begun there on = none_sound mrru bound s len (nat_lt (s.least + len) bound) refl begun there
at_sound mrru bound s len more (Some p) begun there on = some_sound mrru bound s len more p (goes_on p len) p.last refl refl begun there on

look_sound : (mrru bound : ℕ) (s : Gathering) (fuel len : ℕ) → Begun s.kept s.least len → IsFound mrru bound s (look mrru bound s fuel len)
look_sound mrru bound s zero len begun = tt
look_sound mrru bound s (suc fuel) len begun =
    at_sound mrru bound s len (look mrru bound s fuel (suc len)) (behind s len) begun refl (λ inside. look_sound mrru bound s fuel (suc len) (begun_more s.kept s.least len begun inside))

-- the first number from low on that is kept, at most high
abbrev pub next_of : (low : ℕ) → Piece → ℕ → ℕ
next_of low p next = cond (nat_lt p.number low) next (min p.number next)

abbrev pub next_kept : (low high : ℕ) → List Piece → ℕ
next_kept low high [] = high
next_kept low high (p ∷ kept) = next_of low p (next_kept low high kept)

next_low : (low : ℕ) (p : Piece) (next : ℕ) → next_of low p next ≤ next
next_low low p next = by_test (nat_lt p.number low)
  where
    by_test : (t : Bool) → cond t next (min p.number next) ≤ next
    by_test true = omega arith
    by_test false = omega arith

next_most : (low high : ℕ) (kept : List Piece) → next_kept low high kept ≤ high
next_most low high [] = omega arith
next_most low high (p ∷ kept) = let h = next_most low high kept in let l = next_low low p (next_kept low high kept) in omega arith

not_it : (low n : ℕ) (p : Piece) (next : ℕ) → low ≤ n → n < next_of low p next → nat_eq p.number n ≡ false
not_it low n p next le less = by_test (nat_lt p.number low) refl less
  where
    by_test : (t : Bool) → nat_lt p.number low ≡ t → n < cond t next (min p.number next) → nat_eq p.number n ≡ false
    by_test true e less = let b : p.number < low = grind (arith, nat_tests) in grind (arith, nat_tests)
    by_test false e less = let b : n < p.number = omega arith in grind (arith, nat_tests)

none_before : (low high n : ℕ) (kept : List Piece) → low ≤ n → n < next_kept low high kept → piece_at n kept ≡ None
none_before low high n [] le less = refl
none_before low high n (p ∷ kept) le less =
    let l = next_low low p (next_kept low high kept) in
    rw (not_it low n p (next_kept low high kept) le less) (none_before low high n kept le (omega arith))

-- the rules, applied until none does; a missing stretch in front is lost at once
abbrev pub on_found : Gathering → (Gathering → Option Gathering) → Found → Option Gathering
on_found s go (rule new) = go new
on_found s go rest = Some s
on_found s go stuck = None

abbrev pub settle : (mrru bound deep fuel : ℕ) → Gathering → Option Gathering
settle mrru bound deep zero s = None
settle mrru bound deep (suc fuel) s =
    cond (nat_lt s.least (next_kept s.least bound s.kept))
    (settle mrru bound deep fuel (loses s (next_kept s.least bound s.kept - s.least)))
    (on_found s (settle mrru bound deep fuel) (look mrru bound s deep 0))

found_sound : (mrru bound : ℕ) (first s new : Gathering) (count : ℕ) (go : Gathering → Option Gathering) (found : Found) → Rules mrru bound first count s → IsFound mrru bound s found
    → ((mid : Gathering) → Rules mrru bound first (suc count) mid → go mid ≡ Some new → Settles mrru bound first new) → on_found s go found ≡ Some new → Settles mrru bound first new
found_sound mrru bound first s new count go (rule mid) rules is more e = more mid (s, rules, is) e
found_sound mrru bound first s new count go rest rules is more e =
    let same : s ≡ new = cc in
    subst (λ (x : Gathering). Settles mrru bound first x) same (record { count = count; rules = rules; rest = is })
found_sound mrru bound first s new count go stuck rules is more e = absurd (let f : None ≡ Some new = e in cc)

step_sound : (mrru bound deep : ℕ) (first s new : Gathering) (count : ℕ) (go : Gathering → Option Gathering) → Rules mrru bound first count s
    → ((mid : Gathering) (n : ℕ) → Rules mrru bound first n mid → go mid ≡ Some new → Settles mrru bound first new)
    → (t : Bool) → nat_lt s.least (next_kept s.least bound s.kept) ≡ t → cond t (go (loses s (next_kept s.least bound s.kept - s.least))) (on_found s go (look mrru bound s deep 0)) ≡ Some new → Settles mrru bound first new
step_sound mrru bound deep first s new count go rules more true t e =
    let less : s.least < next_kept s.least bound s.kept = grind (arith, nat_tests) in
    let most = next_most s.least bound s.kept in
    let r = misses_rules mrru bound first s count (next_kept s.least bound s.kept - s.least) rules (λ i below. none_before s.least bound (s.least + i) s.kept (omega arith) (omega arith)) (omega arith) in
    more (loses s (next_kept s.least bound s.kept - s.least)) r.0 r.1 e
step_sound mrru bound deep first s new count go rules more false t e =
    found_sound mrru bound first s new count go (look mrru bound s deep 0) rules (look_sound mrru bound s deep 0 (λ i below. absurd (omega arith))) (λ mid on e'. more mid (suc count) on e') e

settle_sound : (mrru bound deep fuel : ℕ) (first s new : Gathering) (count : ℕ) → Rules mrru bound first count s → settle mrru bound deep fuel s ≡ Some new → Settles mrru bound first new
settle_sound mrru bound deep zero first s new count rules e = absurd (let f : None ≡ Some new = e in cc)
settle_sound mrru bound deep (suc fuel) first s new count rules e =
    step_sound mrru bound deep first s new count (settle mrru bound deep fuel) rules (λ mid n on e'. settle_sound mrru bound deep fuel first mid new n on e') (nat_lt s.least (next_kept s.least bound s.kept)) refl e

abbrev pub bind : Option Gathering → (Gathering → Option Gathering) → Option Gathering
bind None go = None
bind (Some s) go = go s

from_bind : (o : Option Gathering) (go : Gathering → Option Gathering) (new : Gathering) → bind o go ≡ Some new → (s : Gathering) × (o ≡ Some s) × (go s ≡ Some new)
from_bind None go new e = absurd (let f : None ≡ Some new = e in cc)
from_bind (Some s) go new e = (s, refl, e)

-- the full number, where the least stands raised
abbrev pub full_of : (least field : ℕ) → ℕ
full_of least field = least - 8388608 + (field + (16777216 - (least - 8388608) % 16777216)) % 16777216

is_full : (least field : ℕ) → 8388608 ≤ least → IsFull long_space least field (full_of least field)
is_full least field raised = record { same = omega arith; above = omega arith; below = omega arith }

abbrev pub kept_now : (mrru deep fuel : ℕ) (s : Gathering) (link : ℕ) → Piece → Gathering → Option Gathering
kept_now mrru deep fuel s link p mid =
    let now : Gathering = brings (keeps_piece p (loses mid (p.number - 127 - mid.least))) link p.number in
    settle mrru (mark now) deep fuel now

abbrev pub old_now : (mrru deep fuel : ℕ) (s : Gathering) (link : ℕ) → Piece → Option Gathering
old_now mrru deep fuel s link p = let now : Gathering = record (brings s link p.number) { old = s.old + 1 } in settle mrru (mark now) deep fuel now

abbrev pub doubled_now : (mrru deep fuel : ℕ) (s : Gathering) (link : ℕ) → Piece → Option Gathering
doubled_now mrru deep fuel s link p = let now : Gathering = record (brings s link p.number) { doubled = s.doubled + 1 } in settle mrru (mark now) deep fuel now

abbrev pub comes : (mrru deep fuel : ℕ) (s : Gathering) (link : ℕ) → Piece → Option Gathering
comes mrru deep fuel s link p =
    cond (nat_lt p.number s.least) (old_now mrru deep fuel s link p)
    (cond (is_some (piece_at p.number s.kept)) (doubled_now mrru deep fuel s link p)
    (bind (settle mrru (max (mark s) (p.number - 127)) deep fuel s) (kept_now mrru deep fuel s link p)))

none_there : (o : Option Piece) → is_some o ≡ false → o ≡ None
none_there None e = refl
none_there (Some p) e = absurd (cc)

some_there : (o : Option Piece) → is_some o ≡ true → o ≡ None → ⊥
some_there None e = λ _. cc
some_there (Some p) e = λ h. (let f : Some p ≡ None = h in cc)

comes_sound : (mrru deep fuel : ℕ) (s new : Gathering) (link : ℕ) (p : Piece) → comes mrru deep fuel s link p ≡ Some new → (answer : PieceNow) × Answered mrru s link p answer new
comes_sound mrru deep fuel s new link p e = by_old (nat_lt p.number s.least) refl e
  where
    by_kept : (t : Bool) → is_some (piece_at p.number s.kept) ≡ t → s.least ≤ p.number
        → cond t (doubled_now mrru deep fuel s link p) (bind (settle mrru (max (mark s) (p.number - 127)) deep fuel s) (kept_now mrru deep fuel s link p)) ≡ Some new → (answer : PieceNow) × Answered mrru s link p answer new
    by_kept true t le e =
        let now : Gathering = record (brings s link p.number) { doubled = s.doubled + 1 } in
        (Doubled, (le, some_there (piece_at p.number s.kept) t, settle_sound mrru (mark now) deep fuel now now new 0 refl e))
    by_kept false t le e =
        let b = from_bind (settle mrru (max (mark s) (p.number - 127)) deep fuel s) (kept_now mrru deep fuel s link p) new e in
        let now : Gathering = brings (keeps_piece p (loses b.0 (p.number - 127 - b.0.least))) link p.number in (
          Kept,
          (
            le,
            none_there (piece_at p.number s.kept) t,
            record {
              mid = b.0;
              before = settle_sound mrru (max (mark s) (p.number - 127)) deep fuel s s b.0 0 refl b.1;
              after = settle_sound mrru (mark now) deep fuel now now new 0 refl b.2;
            },
          ),
        )

    by_old : (t : Bool) → nat_lt p.number s.least ≡ t
        → cond t (old_now mrru deep fuel s link p) (cond (is_some (piece_at p.number s.kept)) (doubled_now mrru deep fuel s link p) (bind (settle mrru (max (mark s) (p.number - 127)) deep fuel s) (kept_now mrru deep fuel s link p))) ≡ Some new
        → (answer : PieceNow) × Answered mrru s link p answer new
    by_old true t e =
        let now : Gathering = record (brings s link p.number) { old = s.old + 1 } in
        let less : p.number < s.least = grind (arith, nat_tests) in
        (Old, (less, settle_sound mrru (mark now) deep fuel now now new 0 refl e))
    by_old false t e = by_kept (is_some (piece_at p.number s.kept)) refl (grind (arith, nat_tests)) e

-- what such a history leaves, computed
abbrev pub leaves_it : (mrru deep fuel link : ℕ) → Gathering → Option Gathering
leaves_it mrru deep fuel link s = cond (is_some (slice_index_or s.brought (link - 1) None)) (settle mrru (mark (leaves s link)) deep fuel (leaves s link)) (Some s)

abbrev pub takes_it : (mrru deep fuel link : ℕ) → Fragment → Gathering → Option Gathering
takes_it mrru deep fuel link fragment s =
    cond (is_some (slice_index_or s.brought (link - 1) None))
    (cond (nat_lt s.least 8388608) None (comes mrru deep fuel s link (numbered (full_of s.least fragment.field) fragment)))
    (Some s)

abbrev pub joins_it : (link : ℕ) → Gathering → Option Gathering
joins_it link s = Some (joins s link)

abbrev pub deliver : (mrru deep fuel : ℕ) → List Entry → Option Gathering
deliver mrru deep fuel [] = Some (nothing long_space)
deliver mrru deep fuel (Joins link ∷ past) = bind (deliver mrru deep fuel past) (joins_it link)
deliver mrru deep fuel (Leaves link ∷ past) = bind (deliver mrru deep fuel past) (leaves_it mrru deep fuel link)
deliver mrru deep fuel (Comes link fragment ∷ past) = bind (deliver mrru deep fuel past) (takes_it mrru deep fuel link fragment)

same_some : (s t : Gathering) → Some s ≡ Some t → t ≡ s
same_some s t e = cc

out_false : (o : Option ℕ) → is_some o ≡ false → IsSome o → ⊥
out_false None e = λ h. cc
out_false (Some n) e = absurd (cc)

left_sound : (mrru deep fuel link : ℕ) (s new : Gathering) → leaves_it mrru deep fuel link s ≡ Some new → Left mrru s link new
left_sound mrru deep fuel link s new e = by_test (is_some (slice_index_or s.brought (link - 1) None)) refl e
  where
    by_test : (t : Bool) → is_some (slice_index_or s.brought (link - 1) None) ≡ t → cond t (settle mrru (mark (leaves s link)) deep fuel (leaves s link)) (Some s) ≡ Some new → Left mrru s link new
    by_test true t e = record { member = λ _. settle_sound mrru (mark (leaves s link)) deep fuel (leaves s link) (leaves s link) new 0 refl e; stranger = λ out. absurd (out t) }
    by_test false t e = record { member = λ member. absurd (out_false (slice_index_or s.brought (link - 1) None) t member); stranger = λ _. same_some s new e }

takes_sound : (mrru deep fuel link : ℕ) (fragment : Fragment) (s new : Gathering) → takes_it mrru deep fuel link fragment s ≡ Some new → (answer : PieceNow) × Takes long_space mrru s link fragment answer new
takes_sound mrru deep fuel link fragment s new e = by_test (is_some (slice_index_or s.brought (link - 1) None)) refl e
  where
    by_least : (t : Bool) → nat_lt s.least 8388608 ≡ t → is_some (slice_index_or s.brought (link - 1) None) ≡ true → cond t None (comes mrru deep fuel s link (numbered (full_of s.least fragment.field) fragment)) ≡ Some new → (answer : PieceNow) × Takes long_space mrru s link fragment answer new
    by_least true t member e = absurd (let f : None ≡ Some new = e in cc)
    by_least false t member e =
        let a = comes_sound mrru deep fuel s new link (numbered (full_of s.least fragment.field) fragment) e in
        let full : IsFull long_space s.least fragment.field (full_of s.least fragment.field) = is_full s.least fragment.field (grind (arith, nat_tests)) in
        (a.0, record { member = λ _. record { number = full_of s.least fragment.field; full = full; answered = a.1 }; stranger = λ out. absurd (out member) })

    by_test : (t : Bool) → is_some (slice_index_or s.brought (link - 1) None) ≡ t → cond t (cond (nat_lt s.least 8388608) None (comes mrru deep fuel s link (numbered (full_of s.least fragment.field) fragment))) (Some s) ≡ Some new
        → (answer : PieceNow) × Takes long_space mrru s link fragment answer new
    by_test true t e = by_least (nat_lt s.least 8388608) refl t e
    by_test false t e = (Stranger, record { member = λ member. absurd (out_false (slice_index_or s.brought (link - 1) None) t member); stranger = λ _. (refl, same_some s new e) })

pub deliver_sound : (mrru deep fuel : ℕ) (past : List Entry) (s : Gathering) → deliver mrru deep fuel past ≡ Some s → Delivered long_space mrru past s
deliver_sound mrru deep fuel [] s e = same_some (nothing long_space) s e
deliver_sound mrru deep fuel (Joins link ∷ past) s e =
    let b = from_bind (deliver mrru deep fuel past) (joins_it link) s e in
    (b.0, deliver_sound mrru deep fuel past b.0 b.1, same_some (joins b.0 link) s b.2)
deliver_sound mrru deep fuel (Leaves link ∷ past) s e =
    let b = from_bind (deliver mrru deep fuel past) (leaves_it mrru deep fuel link) s e in
    (b.0, deliver_sound mrru deep fuel past b.0 b.1, left_sound mrru deep fuel link b.0 s b.2)
deliver_sound mrru deep fuel (Comes link fragment ∷ past) s e =
    let b = from_bind (deliver mrru deep fuel past) (takes_it mrru deep fuel link fragment) s e in
    let t = takes_sound mrru deep fuel link fragment b.0 s b.2 in
    (b.0, deliver_sound mrru deep fuel past b.0 b.1, t.0, t.1)

abbrev pub counts_of : Option Gathering → Option (List (List ℕ) × ℕ × ℕ × ℕ × ℕ)
counts_of None = None
counts_of (Some s) = Some (s.given, s.old, s.doubled, s.lost, s.too_long)

abbrev Tuple : Type 0
Tuple = List (List ℕ) × ℕ × ℕ × ℕ × ℕ

from_counts : (o : Option Gathering) (all : Tuple) → counts_of o ≡ Some all → (s : Gathering) × (o ≡ Some s) × Came s all.0 all.1 all.2 all.3 all.4
from_counts None all e = absurd (let f : None ≡ Some all = e in cc)
from_counts (Some s) all e =
    let is : (s.given, s.old, s.doubled, s.lost, s.too_long) ≡ all = cc in
    (s, refl, record { packets = ap (λ (t : Tuple). t.0) is; old_ones = ap (λ (t : Tuple). t.1) is; doubled_ones = ap (λ (t : Tuple). t.2) is; lost_ones = ap (λ (t : Tuple). t.3) is; too_long_ones = ap (λ (t : Tuple). t.4) is })

pub row : (deep fuel mrru : ℕ) (past : List Entry) (given : List (List ℕ)) (old doubled lost too_long : ℕ) → counts_of (deliver mrru deep fuel past) ≡ Some (given, old, doubled, lost, too_long) → Gives long_space mrru past given old doubled lost too_long
row deep fuel mrru past given old doubled lost too_long e = λ s d.
    let t = from_counts (deliver mrru deep fuel past) (given, old, doubled, lost, too_long) e in
    let same : t.0 ≡ s = delivered_once long_space mrru past t.0 s (deliver_sound mrru deep fuel past t.0 t.1) d in
    subst (λ (x : Gathering). Came x given old doubled lost too_long) same t.2

least_of : (o : Option Gathering) (n : ℕ) → option_map (λ (s : Gathering). s.least) o ≡ Some n → (s : Gathering) × (o ≡ Some s) × (s.least ≡ n)
least_of None n e = absurd (let f : None ≡ Some n = e in cc)
least_of (Some s) n e = (s, refl, cc)

-- The number is near the least that such a history leaves.
pub near_row : (deep fuel mrru : ℕ) (past : List Entry) (n number : ℕ) → option_map (λ (s : Gathering). s.least) (deliver mrru deep fuel past) ≡ Some n → n < 16777216 + number + 8388608 → 16777216 + number < n + 8388608
    → (s : Gathering) → Delivered long_space mrru past s → IsNear long_space s.least number
near_row deep fuel mrru past n number e above below s d =
    let t = least_of (deliver mrru deep fuel past) n e in
    let same : t.0 ≡ s = delivered_once long_space mrru past t.0 s (deliver_sound mrru deep fuel past t.0 t.1) d in
    let least : s.least ≡ n = ap (λ (x : Gathering). x.least) (sym same) ∙ t.2 in
    record { above = omega arith; below = omega arith }

-- A packet of one octet over one member is one piece.
pub one_piece : (turn : ℕ) → Cut 4 1 (record { link = 1; mru = 1500 } ∷ []) turn (record { place = 0; len = 1; link = 1 } ∷ [])
one_piece turn = record {
  each = λ j below other. let e : 0 ≡ j = omega arith in subst (λ (i : ℕ). IsPiece 1 (record { link = 1; mru = 1500 } ∷ []) turn 1 i (slice_index_or (record { place = 0; len = 1; link = 1 } ∷ []) i other)) e (first turn);
  ends = omega arith;
  none_empty = omega arith;
}
  where
    first : (turn : ℕ) → IsPiece 1 (record { link = 1; mru = 1500 } ∷ []) turn 1 0 (record { place = 0; len = 1; link = 1 })
    first turn = record { place = refl; len = refl; link = λ other. let e : 0 ≡ (turn + 0) % 1 = omega arith in ap (λ i. (slice_index_or (record { link = 1; mru = 1500 } ∷ []) i other).link) e }
