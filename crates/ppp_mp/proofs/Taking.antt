-- A piece is taken.
use Rattle.std.proofs.Common.{◌≡◌, ◌≢◌, ℕ, ◌+◌, ◌-◌, ◌%◌, ◌<◌, ◌≤◌, ◌++◌, zero, suc, max, min, nat_lt, nat_eq, cond, append-nil, is_some, IsSome, rules, Bool, true, false, List, [], ◌∷◌, length, map, Option, None, Some, option_map, unwrap_or, slice_set, slice_index_or, refl, sym, ap, subst, ◌∙◌, arith, inl, inr}
use Rattle.std.proofs.Math.ListN.{get_or}
use Rattle.std.proofs.Math.Nat.{mod-add-mod, add-mod_right}
use Rattle.std.specs.List.{fold}
use Rattle.std.proofs.lemmas.Bool.{cases_lt}
use Rattle.std.proofs.lemmas.Bool.Decides.{nat_tests}
use Rattle.ppp_mp.specs.Pieces.{Piece, piece_at, joined, Begun}
use Rattle.ppp_mp.specs.Delivered.{Gathering, AtRest, Keeps, Rule, Rules, Settles, ruled, behind, goes_on, loses, completes, lesser, lowest, mark, brings, joins, leaves, keeps_piece, thrown_to}
use Rattle.ppp_mp.specs.Places.{place}
use Rattle.ppp_mp.specs.Moves.{HasTaken, HasSettledNow, HasSettled, IsMoved, IsKept, Room, MadeRoom, arrived}
use Rattle.ppp_mp.specs.Facts.{KeepsFacts, waiting}
use Rattle.ppp_mp.specs.StandsFor.{stopped, counted, overs_of}
use Rattle.ppp_mp.specs.Header.{long_space}
use Rattle.ppp_mp.specs.declared.slot_piece.SlotPiece.{SlotPiece}
use Rattle.ppp_mp.specs.declared.facts.GatherFacts.{GatherFacts}
use Rattle.ppp_mp.specs.declared.counts.GatherCounts.{GatherCounts}
use Rattle.ppp_mp.specs.declared.counts.PieceNow.TheVariants.{Kept, Old, Doubled}
use Rattle.ppp_mp.proofs.RuleLemmas.{moves, stopped-more}
use Rattle.ppp_mp.proofs.Rests.{some_same, mark_low, rest_for}
use Rattle.ppp_mp.proofs.SettlingLemmas.{lost-counts}

lesser-less : (least : ℕ) (a b : Option ℕ) → lesser (option_map (λ n. n - least) a) (option_map (λ n. n - least) b) ≡ option_map (λ n. n - least) (lesser a b)
lesser-less least None b = refl
lesser-less least (Some n) None = refl
lesser-less least (Some n) (Some m) = let e : min (n - least) (m - least) ≡ min n m - least = omega arith in ap Some e

fold-less : (least : ℕ) (os : List (Option ℕ)) (a : Option ℕ) → fold lesser (option_map (λ n. n - least) a) (map (option_map (λ n. n - least)) os) ≡ option_map (λ n. n - least) (fold lesser a os)
fold-less least [] a = refl
fold-less least (o ∷ os) a = ap (λ x. fold lesser x (map (option_map (λ n. n - least)) os)) (lesser-less least a o) ∙ fold-less least os (lesser a o)

unwrap-less : (least : ℕ) (o : Option ℕ) → unwrap_or (option_map (λ n. n - least) o) 0 ≡ unwrap_or o least - least
unwrap-less least None = omega arith
unwrap-less least (Some n) = refl

pub bound_is : (s : Gathering) → unwrap_or (lowest (overs_of s)) 0 ≡ mark s - s.least
bound_is s = let e : lowest (overs_of s) ≡ option_map (λ n. n - s.least) (lowest s.brought) = fold-less s.least s.brought None in rw e (unwrap-less s.least (lowest s.brought))

map-set : (f : Option ℕ → Option ℕ) (xs : List (Option ℕ)) (i : ℕ) (y : Option ℕ) → map f (slice_set xs i y) ≡ slice_set (map f xs) i (f y)
map-set f [] i y = refl
map-set f (x ∷ xs) zero y = refl
map-set f (x ∷ xs) (suc i) y = ap (λ l. f x ∷ l) (map-set f xs i y)

get-less : (least : ℕ) (os : List (Option ℕ)) (i : ℕ) → slice_index_or (map (option_map (λ n. n - least)) os) i None ≡ option_map (λ n. n - least) (slice_index_or os i None)
get-less least [] i = refl
get-less least (o ∷ os) zero = refl
get-less least (o ∷ os) (suc i) = get-less least os i

unwrap-zero : (least : ℕ) (o : Option ℕ) → unwrap_or (option_map (λ n. n - least) o) 0 ≡ unwrap_or o 0 - least
unwrap-zero least None = omega arith
unwrap-zero least (Some n) = refl

pub overs_brought : (s : Gathering) (overs : List (Option ℕ)) (at n ahead : ℕ) → overs ≡ overs_of s → ahead ≡ n - s.least
    → slice_set overs at (Some (max ahead (unwrap_or (slice_index_or overs at None) 0))) ≡ overs_of (brings s (at + 1) n)
overs_brought s overs at n ahead is ahead_is =
    let f = λ (o : Option ℕ). option_map (λ n. n - s.least) o in
    let at_is : at + 1 - 1 ≡ at = omega arith in
    let u : ℕ = unwrap_or (slice_index_or s.brought at None) 0 in
    let here : unwrap_or (slice_index_or (overs_of s) at None) 0 ≡ unwrap_or (slice_index_or s.brought at None) 0 - s.least = ap (λ o. unwrap_or o 0) (get-less s.least s.brought at) ∙ unwrap-zero s.least (slice_index_or s.brought at None) in
    let most : max (n - s.least) (unwrap_or (slice_index_or s.brought at None) 0 - s.least) ≡ max n (unwrap_or (slice_index_or s.brought at None) 0) - s.least = omega arith in
    rw (is, ahead_is, here, most, at_is) (sym (map-set f s.brought at (Some (max n (unwrap_or (slice_index_or s.brought at None) 0)))))

pub keeps_with : (g g' : GatherFacts) (s s' : Gathering) → KeepsFacts long_space g s → g'.places.base ≡ g.places.base → ((i : ℕ) → place g'.places.pieces i ≡ place g.places.pieces i) → s'.least ≡ s.least → s'.kept ≡ s.kept → g'.overs ≡ overs_of s' → g'.counts ≡ counted s' → KeepsFacts long_space g' s'
keeps_with g g' s s' k base slots least kept overs counts = record {
  base = rw (base, least) k.base;
  raised = rw least k.raised;
  places = λ i. rw (least, kept, slots i) (k.places i);
  overs = overs;
  counts = counts;
}

-- Numbers modulo the number long_space.
pub full_above : (least base ahead field : ℕ) → base ≡ least % long_space → (base + ahead) % long_space ≡ field → (least + ahead) % long_space ≡ field
full_above least base ahead field is same = sym (mod-add-mod least long_space ahead) ∙ rw (← is) same

pub mod_unique : (least a b : ℕ) → least ≤ a → least ≤ b → a < least + long_space → b < least + long_space → a % long_space ≡ b % long_space → a ≡ b
mod_unique least a b la lb ha hb same = omega arith

-- What the rules leave as it is, and how far they go.
pub record Goes (n : ℕ) (s s' : Gathering) : Type 0 where
  pub kept : s'.kept ≡ s.kept
  pub brought : s'.brought ≡ s.brought
  pub least : s'.least ≤ n
  pub more : s.least ≤ s'.least

loses_goes : (n : ℕ) (s s' : Gathering) (count : ℕ) → Some (loses s count) ≡ Some s' → s.least + count ≤ n → Goes n s s'
loses_goes n s s' count e le = let P : Gathering → Type 0 = λ x. Goes n s x in let q : loses s count ≡ s' = cc in subst P q (record { kept = refl; brought = refl; least = le; more = omega arith })

past-run : (s : Gathering) (len n : ℕ) → Begun s.kept s.least len → s.least ≤ n → piece_at n s.kept ≡ None → s.least + len ≤ n
past-run s len n begun le none = elim (cases_lt n (s.least + len)) [
  | inl inside ↦
      let i : ℕ = n - s.least in
      let t = begun (n - s.least) (omega arith) in
      let at : s.least + (n - s.least) ≡ n = omega arith in
      let there : piece_at n s.kept ≡ Some t.0 = rw at at t.1 in
      absurd (let e : None ≡ Some t.0 = sym none ∙ there in cc)
  | inr past ↦ past
]

past-one : (s : Gathering) (len n : ℕ) (p : Piece) → s.least + len ≤ n → behind s len ≡ Some p → piece_at n s.kept ≡ None → s.least + (len + 1) ≤ n
past-one s len n p le there none = elim (cases_lt (s.least + len) n) [
  | inl past ↦ omega arith
  | inr same ↦
      let at : s.least + len ≡ n = omega arith in
      let here : piece_at n s.kept ≡ Some p = rw at at there in
      absurd (let e : None ≡ Some p = sym none ∙ here in cc)
]

completes_goes : (n mrru : ℕ) (s : Gathering) (count : ℕ) → s.least + count ≤ n → Goes n s (completes mrru s count)
completes_goes n mrru s count le = whole (nat_lt (mrru + 2) (length (joined s.kept s.least count)))
  where
    whole : (b : Bool) → Goes n s (cond b (record s { least = s.least + count; too_long = s.too_long + 1 }) (record s { least = s.least + count; given = s.given ++ joined s.kept s.least count ∷ [] }))
    whole true = record { kept = refl; brought = refl; least = le; more = omega arith }
    whole false = record { kept = refl; brought = refl; least = le; more = omega arith }

none_goes : (n : ℕ) (s s' : Gathering) (count : ℕ) (b : Bool) → cond b (Some (loses s count)) None ≡ Some s' → (b ≡ true → s.least + count ≤ n) → Goes n s s'
none_goes n s s' count true e le = loses_goes n s s' count e (le refl)
none_goes n s s' count false e le = absurd (cc)

some_goes : (n mrru : ℕ) (s s' : Gathering) (count most : ℕ) (a b : Bool) → cond a (cond b (Some (completes mrru s count)) None) (Some (loses s most)) ≡ Some s' → s.least + count ≤ n → s.least + most ≤ n → Goes n s s'
some_goes n mrru s s' count most true true e le lm = subst (λ (x : Gathering). Goes n s x) (some_same (completes mrru s count) s' e) (completes_goes n mrru s count le)
some_goes n mrru s s' count most true false e le lm = absurd (cc)
some_goes n mrru s s' count most false b e le lm = loses_goes n s s' most e lm

rule_goes_at : (n mrru below : ℕ) (s s' : Gathering) (len : ℕ) (o : Option Piece) → Begun s.kept s.least len → behind s len ≡ o → ruled mrru below s len o ≡ Some s' → s.least ≤ n → below ≤ n → piece_at n s.kept ≡ None → Goes n s s'
rule_goes_at n mrru below s s' len None begun is e le lb none = none_goes n s s' (len + 1) (nat_lt (s.least + len) below) e (λ h. let l : s.least + len < below = grind (arith, nat_tests) in omega arith)
rule_goes_at n mrru below s s' len (Some p) begun is e le lb none =
    let run = past-run s len n begun le none in
    let one = past-one s len n p run is none in
    some_goes n mrru s s' (len + 1) (max len 1) (goes_on p len) p.last e one (omega arith)

pub rules_go : (n mrru below : ℕ) (s s' : Gathering) (count : ℕ) → Rules mrru below s count s' → s.least ≤ n → below ≤ n → piece_at n s.kept ≡ None → Goes n s s'
rules_go n mrru below s s' zero same le lb none = subst (λ (x : Gathering). Goes n s x) (sym same) (record { kept = refl; brought = refl; least = le; more = omega arith })
rules_go n mrru below s s' (suc count) rules le lb none =
    let mid : Gathering = rules.0 in
    let h : Goes n s rules.0 = rules_go n mrru below s rules.0 count rules.1 le lb none in
    let rule : Rule mrru below rules.0 s' = rules.2 in
    let none' : piece_at n rules.0.kept ≡ None = ap (piece_at n) h.kept ∙ none in
    let g : Goes n rules.0 s' = rule_goes_at n mrru below rules.0 s' rule.len (behind rules.0 rule.len) rule.begun refl rule.applies h.least lb none' in
    record { kept = g.kept ∙ h.kept; brought = g.brought ∙ h.brought; least = g.least; more = omega arith }

old-counts : (g g' : GatherFacts) (s : Gathering) → g.counts ≡ counted s → g'.counts ≡ record g.counts { old = stopped (g.counts.old + 1) } → g'.counts ≡ counted (record s { old = s.old + 1 })
old-counts g g' s before now =
    let more = λ (c : GatherCounts). (let r : GatherCounts = record c { old = stopped (c.old + 1) } in r) in
    let set = λ (n : ℕ). (let r : GatherCounts = record (counted s) { old = n } in r) in
    now ∙ ap more before ∙ ap set (stopped-more s.old 1)

doubled-counts : (g g' : GatherFacts) (s : Gathering) → g.counts ≡ counted s → g'.counts ≡ record g.counts { doubled = stopped (g.counts.doubled + 1) } → g'.counts ≡ counted (record s { doubled = s.doubled + 1 })
doubled-counts g g' s before now =
    let more = λ (c : GatherCounts). (let r : GatherCounts = record c { doubled = stopped (c.doubled + 1) } in r) in
    let set = λ (n : ℕ). (let r : GatherCounts = record (counted s) { doubled = n } in r) in
    now ∙ ap more before ∙ ap set (stopped-more s.doubled 1)

-- the member has brought a piece so far beyond the least number
abbrev pub over_now : GatherFacts → (at ahead : ℕ) → List (Option ℕ)
over_now g at ahead = slice_set g.overs at (Some (max ahead (unwrap_or (slice_index_or g.overs at None) 0)))

pub taken_old : (g g2 g3 : GatherFacts) (packets : List (List ℕ)) (s : Gathering) (at ahead field : ℕ) (p : SlotPiece)
    → KeepsFacts long_space g s → field < long_space → ahead < long_space → (g.places.base + ahead) % long_space ≡ field → 8388608 ≤ ahead
    → g2.mrru ≡ g.mrru → g2.places.base ≡ g.places.base → g2.places.pieces ≡ g.places.pieces → g2.overs ≡ over_now g at 0 → g2.counts ≡ record g.counts { old = stopped (g.counts.old + 1) }
    → HasSettledNow long_space g2 g3 [] packets → HasTaken long_space g.mrru s (at + 1) (arrived field p) Old g3 packets
taken_old g g2 g3 packets s at ahead field p k field_in ahead_in same half mrru base slots overs counts settled =
    let n : ℕ = s.least + ahead - long_space in
    let raised : long_space ≤ s.least = k.raised in
    let s2 : Gathering = record (brings s (at + 1) (s.least + ahead - long_space)) { old = s.old + 1 } in
    let keeps2 : KeepsFacts long_space g2 s2 = keeps_with g g2 s s2 k base (λ i. ap (λ ps. place ps i) slots) refl refl
    (overs ∙ overs_brought s g.overs at (s.least + ahead - long_space) 0 k.overs (omega arith)) (old-counts g g2 s k.counts counts) in
    let r = settled s.given s2 (record { keeps = keeps2; given = sym (append-nil s.given) }) in
    let back : (s.least + ahead - long_space) + long_space ≡ s.least + ahead = omega arith in
    let whole : (s.least + ahead - long_space) % long_space ≡ (s.least + ahead) % long_space = sym (add-mod_right (s.least + ahead - long_space) long_space) ∙ ap (λ m. m % long_space) back in
    let small : field % long_space ≡ field = omega arith in
    let P = λ (m : ℕ). Settles m (mark s2) s2 r.0 in (
      r.0,
      record {
        number = s.least + ahead - long_space;
        full = record { same = whole ∙ full_above s.least g.places.base ahead field k.base same ∙ sym small; above = omega arith; below = omega arith };
        answered = (omega arith, subst P mrru r.1);
      },
      r.2.keeps,
      r.2.given,
    )

some-not-none : (n : ℕ) (o : Option SlotPiece) → is_some o ≡ true → option_map (waiting n) o ≢ None
some-not-none n None e = absurd (cc)
some-not-none n (Some p) e = λ h. cc

none-is : (o : Option SlotPiece) → is_some o ≡ false → o ≡ None
none-is None e = refl
none-is (Some p) e = absurd (cc)

pub taken_doubled : (g g2 g3 : GatherFacts) (packets : List (List ℕ)) (s : Gathering) (at ahead field : ℕ) (p : SlotPiece)
    → KeepsFacts long_space g s → field < long_space → (g.places.base + ahead) % long_space ≡ field → ahead < 8388608 → is_some (place g.places.pieces ahead) ≡ true
    → g2.mrru ≡ g.mrru → g2.places.base ≡ g.places.base → g2.places.pieces ≡ g.places.pieces → g2.overs ≡ over_now g at ahead → g2.counts ≡ record g.counts { doubled = stopped (g.counts.doubled + 1) }
    → HasSettledNow long_space g2 g3 [] packets → HasTaken long_space g.mrru s (at + 1) (arrived field p) Doubled g3 packets
taken_doubled g g2 g3 packets s at ahead field p k field_in same half there mrru base slots overs counts settled =
    let s2 : Gathering = record (brings s (at + 1) (s.least + ahead)) { doubled = s.doubled + 1 } in
    let keeps2 : KeepsFacts long_space g2 s2 = keeps_with g g2 s s2 k base (λ i. ap (λ ps. place ps i) slots) refl refl
    (overs ∙ overs_brought s g.overs at (s.least + ahead) ahead k.overs (omega arith)) (doubled-counts g g2 s k.counts counts) in
    let r = settled s.given s2 (record { keeps = keeps2; given = sym (append-nil s.given) }) in
    let small : field % long_space ≡ field = omega arith in
    let kept : piece_at (s.least + ahead) s.kept ≢ None = λ none. some-not-none (s.least + ahead) (place g.places.pieces ahead) there (sym (k.places ahead) ∙ none) in
    let P = λ (m : ℕ). Settles m (mark s2) s2 r.0 in (
      r.0,
      record {
        number = s.least + ahead;
        full = record { same = full_above s.least g.places.base ahead field k.base same ∙ sym small; above = omega arith; below = omega arith };
        answered = (omega arith, kept, subst P mrru r.1);
      },
      r.2.keeps,
      r.2.given,
    )

number-at : (n l i d : ℕ) → n ≡ l + d → nat_eq n (l + i) ≡ nat_eq i d
number-at n l i d is = grind (arith, nat_tests)

put-case : (n m i d : ℕ) (p : SlotPiece) (o : Option SlotPiece) (old : Option Piece) (b : Bool) → (b ≡ true → n ≡ m) → old ≡ option_map (waiting m) o
    → cond b (Some (waiting n p)) old ≡ option_map (waiting m) (cond b (Some p) o)
put-case n m i d p o old true same is = let e = same refl in rw e refl
put-case n m i d p o old false same is = is

pub put_keeps : (g g' : GatherFacts) (s : Gathering) (n d : ℕ) (p : SlotPiece) → KeepsFacts long_space g s → n ≡ s.least + d → g'.places.base ≡ g.places.base → ((j : ℕ) → place g'.places.pieces j ≡ (cond (nat_eq j d) (Some p) (place g.places.pieces j)))
    → g'.overs ≡ g.overs → g'.counts ≡ g.counts → KeepsFacts long_space g' (keeps_piece (waiting n p) s)
put_keeps g g' s n d p k is base slots overs counts = record {
  base = base ∙ k.base;
  raised = k.raised;
  places = λ i.
      let test : nat_eq n (s.least + i) ≡ nat_eq i d = number-at n s.least i d is in
      let same : nat_eq i d ≡ true → n ≡ s.least + i = λ h. (let e : i ≡ d = grind (arith, nat_tests) in omega arith) in
      let now = put-case n (s.least + i) i d p (place g.places.pieces i) (piece_at (s.least + i) s.kept) (nat_eq i d) same (k.places i) in
      rw (test, slots i) now;
  overs = overs ∙ k.overs;
  counts = counts ∙ k.counts;
}

bound-same : (least ahead m bound b : ℕ) → b ≡ m - least → bound ≡ max b (ahead - 127) → bound ≡ max m (least + ahead - 127) - least
bound-same least ahead m bound b is set = omega arith

nothing-waits : (n : ℕ) (o : Option SlotPiece) → option_map (waiting n) o ≡ None → o ≡ None
nothing-waits n None e = refl
nothing-waits n (Some p) e = absurd (cc)

-- What was settled makes room.
pub room_made : (g g3 g4 : GatherFacts) (packets3 : List (List ℕ)) (ahead field bound left far : ℕ) → field < long_space → (g.places.base + ahead) % long_space ≡ field → ahead < 8388608
    → bound ≡ max (unwrap_or (lowest g.overs) 0) (ahead - 127) → HasSettled long_space bound g g3 [] packets3
    → left < long_space → (g3.places.base + left) % long_space ≡ field → far ≡ left - 127 → IsMoved long_space g3 g4 far → g4.counts ≡ record g3.counts { lost = stopped (g3.counts.lost + far) } → MadeRoom long_space g g4 packets3 ahead (left - far)
room_made g g3 g4 packets3 ahead field bound left far field_in same half bound_set settled3 left_in same3 far_set moved counts4 = λ s k rest none.
    let low : mark s ≤ s.least + ahead = mark_low g.mrru s (s.least + ahead) rest (omega arith) none in
    let bound_now : bound ≡ max (mark s) (s.least + ahead - 127) - s.least =
    bound-same s.least ahead (mark s) bound (unwrap_or (lowest g.overs) 0) (ap (λ os. unwrap_or (lowest os) 0) k.overs ∙ bound_is s) bound_set in
    let r3 = settled3 s.given s (max (mark s) (s.least + ahead - 127)) (record { keeps = k; given = sym (append-nil s.given) }) bound_now in
    let keeps3 : KeepsFacts long_space g3 r3.0 = r3.2.keeps in
    let goes : Goes (s.least + ahead) s r3.0 = rules_go (s.least + ahead) g.mrru (max (mark s) (s.least + ahead - 127)) s r3.0 r3.1.count r3.1.rules (omega arith) (omega arith) none in
    let le : r3.0.least ≤ s.least + ahead = goes.least in
    let up : s.least ≤ r3.0.least = goes.more in
    let number_is : r3.0.least + left ≡ s.least + ahead = mod_unique r3.0.least (r3.0.least + left) (s.least + ahead) (omega arith) le (omega arith) (omega arith)
    (full_above r3.0.least g3.places.base left field keeps3.base same3 ∙ sym (full_above s.least g.places.base ahead field k.base same)) in
    let far_is : far ≡ (s.least + ahead - 127) - r3.0.least = omega arith in
    let keeps4 : KeepsFacts long_space g4 (loses r3.0 far) = moves g3 g4 r3.0 (loses r3.0 far) far keeps3 moved refl refl refl (lost-counts g3 g4 r3.0 far keeps3.counts counts4) in
    record {
      mid = r3.0;
      settles = r3.1;
      keeps = subst (λ (c : ℕ). KeepsFacts long_space g4 (loses r3.0 c)) far_is keeps4;
      given = r3.2.given;
      kept = goes.kept;
      at = omega arith;
    }

loses_none : (s : Gathering) (none : ℕ) → none ≡ 0 → s ≡ loses s none
loses_none s none is =
    let set = λ (n c : ℕ). (let r : Gathering = record s { least = n; lost = c } in r) in
    let least : s.least ≡ s.least + none = omega arith in
    let lost : s.lost ≡ s.lost + none = omega arith in
    ap (λ (n : ℕ). set n s.lost) least ∙ ap (λ (c : ℕ). set (s.least + none) c) lost

-- Where a piece is less than 128 ahead, there is room.
pub room_there : (g : GatherFacts) (packets : List (List ℕ)) (ahead : ℕ) → ahead < 128 → packets ≡ [] → MadeRoom long_space g g packets ahead ahead
room_there g packets ahead near empty = λ s k rest none.
    let count_is : s.least + ahead - 127 - s.least ≡ 0 = omega arith in
    let resting : AtRest g.mrru (max (mark s) (s.least + ahead - 127)) s = rest_for g.mrru (mark s) (max (mark s) (s.least + ahead - 127)) s s rest refl refl (omega arith) in
    record {
      mid = s;
      settles = record { count = 0; rules = refl; rest = resting };
      keeps = subst (λ (x : Gathering). KeepsFacts long_space g x) (loses_none s (s.least + ahead - 127 - s.least) count_is) k;
      given = sym (append-nil s.given) ∙ sym (ap (λ (l : List (List ℕ)). s.given ++ l) empty);
      kept = refl;
      at = omega arith;
    }

pub taken_kept : (g g4 g5 g6 g7 : GatherFacts) (packets3 packets7 : List (List ℕ)) (s : Gathering) (at ahead field d : ℕ) (p : SlotPiece)
    → KeepsFacts long_space g s → AtRest g.mrru (mark s) s → field < long_space → (g.places.base + ahead) % long_space ≡ field → ahead < 8388608 → is_some (place g.places.pieces ahead) ≡ false
    → MadeRoom long_space g g4 packets3 ahead d → g5.places.base ≡ g4.places.base → IsKept g4.places.pieces g5.places.pieces d p → g5.overs ≡ g4.overs → g5.counts ≡ g4.counts
    → g6.mrru ≡ g.mrru → g6.places.base ≡ g5.places.base → g6.places.pieces ≡ g5.places.pieces → g6.overs ≡ over_now g5 at d → g6.counts ≡ g5.counts
    → HasSettledNow long_space g6 g7 packets3 packets7 → HasTaken long_space g.mrru s (at + 1) (arrived field p) Kept g7 packets7
taken_kept g g4 g5 g6 g7 packets3 packets7 s at ahead field d p k rest field_in same half there made base5 places5 overs5 counts5 mrru6 base6 places6 overs6 counts6 settled7 =
    let none : piece_at (s.least + ahead) s.kept ≡ None = k.places ahead ∙ ap (option_map (waiting (s.least + ahead))) (none-is (place g.places.pieces ahead) there) in
    let r : Room long_space g s g4 packets3 (s.least + ahead) d = made s k rest none in
    let s4 : Gathering = thrown_to (s.least + ahead - 127) r.mid in
    let place_is : s.least + ahead ≡ (thrown_to (s.least + ahead - 127) r.mid).least + d = r.at in
    let free : piece_at ((thrown_to (s.least + ahead - 127) r.mid).least + d) r.mid.kept ≡ None = ap (λ n. piece_at n r.mid.kept) (sym place_is) ∙ ap (piece_at (s.least + ahead)) r.kept ∙ none in
    let empty : place g4.places.pieces d ≡ None = nothing-waits (s4.least + d) (place g4.places.pieces d) (sym (r.keeps.places d) ∙ free) in
    let s5 : Gathering = keeps_piece (waiting (s.least + ahead) p) s4 in
    let keeps5 : KeepsFacts long_space g5 (keeps_piece (waiting (s.least + ahead) p) s4) = put_keeps g4 g5 s4 (s.least + ahead) d p r.keeps place_is base5 (places5.empty empty) overs5 counts5 in
    let d_is : d ≡ (s.least + ahead) - s4.least = omega arith in
    let keeps6 : KeepsFacts long_space g6 (brings (keeps_piece (waiting (s.least + ahead) p) s4) (at + 1) (s.least + ahead)) =
    keeps_with g5 g6 s5 (brings s5 (at + 1) (s.least + ahead)) keeps5 base6 (λ i. ap (λ ps. place ps i) places6) refl refl
    (overs6 ∙ overs_brought s5 g5.overs at (s.least + ahead) d keeps5.overs d_is) (counts6 ∙ keeps5.counts) in
    let r7 = settled7 s.given (brings (keeps_piece (waiting (s.least + ahead) p) s4) (at + 1) (s.least + ahead)) (record { keeps = keeps6; given = r.given }) in
    let P7 = λ (m : ℕ). Settles m (mark (brings s5 (at + 1) (s.least + ahead))) (brings s5 (at + 1) (s.least + ahead)) r7.0 in
    let small : field % long_space ≡ field = omega arith in
    let keeping : Keeps g.mrru s (at + 1) (waiting (s.least + ahead) p) r7.0 = record { mid = r.mid; before = r.settles; after = subst P7 mrru6 r7.1 } in (
      r7.0,
      record {
        number = s.least + ahead;
        full = record { same = full_above s.least g.places.base ahead field k.base same ∙ sym small; above = omega arith; below = omega arith };
        answered = (omega arith, none, keeping);
      },
      r7.2.keeps,
      r7.2.given,
    )

pub some-same : {X : Type 0} (f : X → SlotPiece) (o : Option X) (q : Option SlotPiece) → option_map f o ≡ q → is_some q ≡ is_some o
some-same f None q e = rw (← e) refl
some-same f (Some x) q e = rw (← e) refl

abbrev pub counting_old : GatherFacts → GatherFacts
counting_old g = record g { counts = record g.counts { old = stopped (g.counts.old + 1) } }

abbrev pub counting_doubled : GatherFacts → GatherFacts
counting_doubled g = record g { counts = record g.counts { doubled = stopped (g.counts.doubled + 1) } }

is-some-less : (least : ℕ) (o : Option ℕ) → is_some (option_map (λ n. n - least) o) ≡ is_some o
is-some-less least None = refl
is-some-less least (Some n) = refl

-- Whether a link is a member can be told from what is kept.
pub member-is : (g : GatherFacts) (s : Gathering) (i : ℕ) → KeepsFacts long_space g s → is_some (slice_index_or g.overs i None) ≡ is_some (slice_index_or s.brought i None)
member-is g s i k = ap (λ os. is_some (slice_index_or os i None)) k.overs ∙ ap is_some (get-less s.least s.brought i) ∙ is-some-less s.least (slice_index_or s.brought i None)

pub joins_keeps : (g g' : GatherFacts) (s : Gathering) (link : ℕ) → KeepsFacts long_space g s → is_some (slice_index_or g.overs (link - 1) None) ≡ false → g' ≡ record g { overs = slice_set g.overs (link - 1) (Some 0) } → KeepsFacts long_space g' (joins s link)
joins_keeps g g' s link k out is =
    let s' : Gathering = record s { brought = slice_set s.brought (link - 1) (Some (s.least - 1)) } in
    let none : is_some (slice_index_or s.brought (link - 1) None) ≡ false = sym (member-is g s (link - 1) k) ∙ out in
    let f = λ (o : Option ℕ). option_map (λ n. n - s.least) o in
    let zero_is : (s.least - 1) - s.least ≡ 0 = omega arith in
    let overs : g'.overs ≡ overs_of s' =
    ap (λ (x : GatherFacts). x.overs) is ∙ ap (λ os. slice_set os (link - 1) (Some 0)) k.overs ∙ ap (λ n. slice_set (overs_of s) (link - 1) (Some n)) (sym zero_is) ∙ sym (map-set f s.brought (link - 1) (Some (s.least - 1))) in
    let keeps : KeepsFacts long_space g' s' = keeps_with g g' s s' k (ap (λ (x : GatherFacts). x.places.base) is) (λ i. ap (λ (x : GatherFacts). place x.places.pieces i) is) refl refl overs (ap (λ (x : GatherFacts). x.counts) is ∙ k.counts) in
    rw none keeps

pub joins_same : (g : GatherFacts) (s : Gathering) (link : ℕ) → KeepsFacts long_space g s → is_some (slice_index_or g.overs (link - 1) None) ≡ true → KeepsFacts long_space g (joins s link)
joins_same g s link k in_it = let some : is_some (slice_index_or s.brought (link - 1) None) ≡ true = sym (member-is g s (link - 1) k) ∙ in_it in rw some k

pub leaves_keeps : (g g' : GatherFacts) (s : Gathering) (link : ℕ) → KeepsFacts long_space g s → g' ≡ record g { overs = slice_set g.overs (link - 1) None } → KeepsFacts long_space g' (leaves s link)
leaves_keeps g g' s link k is =
    let f = λ (o : Option ℕ). option_map (λ n. n - s.least) o in
    let overs : g'.overs ≡ overs_of (leaves s link) = ap (λ (x : GatherFacts). x.overs) is ∙ ap (λ os. slice_set os (link - 1) None) k.overs ∙ sym (map-set f s.brought (link - 1) None) in
    keeps_with g g' s (leaves s link) k (ap (λ (x : GatherFacts). x.places.base) is) (λ i. ap (λ (x : GatherFacts). place x.places.pieces i) is) refl refl overs (ap (λ (x : GatherFacts). x.counts) is ∙ k.counts)

pub is-member : (o : Option ℕ) → is_some o ≡ true → IsSome o
is-member None e = absurd (cc)
is-member (Some n) e = search rules
