-- Each piece that is kept has reached the bundle, and each packet that is given is made of such.
use Rattle.std.proofs.Common.{◌≤◌, ◌≡◌, ℕ, ◌+◌, ◌-◌, ◌*◌, ◌<◌, ◌==◌, ◌++◌, zero, suc, Bool, true, false, List, [], ◌∷◌, length, None, Some, is_some, slice_get, slice_index_or, refl, sym, ap, subst, ◌∙◌, arith, inl, inr}
use Rattle.std.specs.List.{AllByRecursion}
use Rattle.std.proofs.lemmas.Bool.{cases_lt}
use Rattle.std.proofs.lemmas.Bool.Decides.{nat_tests}
use Rattle.std.proofs.lemmas.Option.{slice_get_within}
use Rattle.ppp_mp.specs.Pieces.{Piece, piece_at, joined, octets_of, Run, AreInOrder}
use Rattle.ppp_mp.specs.Delivered.{Fragment, Gathering, Entry, Joins, Leaves, Comes, Delivered, Takes, Left, IsFull, IsMember, leaves, mark, numbered}
use Rattle.ppp_mp.specs.Membership.{IsLink, is_member_in}
use Rattle.ppp_mp.specs.Reached.{MadeOfPieces, Reached, Brings, Unwrapped, HasReached, CameAsPiece, octets_joined, Whole}
use Rattle.ppp_mp.specs.Reached.HasReached.{nothing_yet, after_join, after_leave, brought, refused, unwrapped}
use Rattle.ppp_mp.proofs.FullNumbers.{full_once, full_some}
use Rattle.ppp_mp.proofs.Histories.{raised_some, delivered_once}
use Rattle.ppp_mp.proofs.MemberOrigins.{member_back}
use Rattle.ppp_mp.proofs.Origins.{answered_kept, joins_kept, settles_kept, all_weaker}
use Rattle.ppp_mp.proofs.Rests.{member_cases}
use Rattle.ppp_mp.proofs.Schedules.{AreThere, run_there, found, joined_head}
use Rattle.ppp_mp.proofs.Wholes.{delivered_whole}

-- Every piece that is kept has reached the bundle, with its full number.
pub kept_came : (space mrru : ℕ) (past : List Entry) (reached : List Reached) → HasReached space mrru past reached → (s : Gathering) → AllByRecursion IsLink past → Delivered space mrru past s → AllByRecursion (CameAsPiece reached) s.kept
kept_came space mrru past reached nothing_yet = λ s links d. subst (λ (x : Gathering). AllByRecursion (CameAsPiece []) x.kept) (sym d) tt
kept_came space mrru past reached (after_join {link = link} {past = before} {reached = all} h) = λ s links d.
    let kept : AllByRecursion (CameAsPiece all) d.0.kept = kept_came space mrru before all h d.0 links.1 d.1 in
    subst (λ (x : Gathering). AllByRecursion (CameAsPiece all) x.kept) (sym d.2) (joins_kept (CameAsPiece all) d.0 link (is_some (slice_index_or d.0.brought (link - 1) None)) kept)
kept_came space mrru past reached (after_leave {link = link} {past = before} {reached = all} h) = λ s links d.
    let kept : AllByRecursion (CameAsPiece all) d.0.kept = kept_came space mrru before all h d.0 links.1 d.1 in
    let gone : Left mrru d.0 link s = d.2 in
    elim (member_cases (slice_index_or d.0.brought (link - 1) None)) [
      | inl member ↦ subst (λ (k : List Piece). AllByRecursion (CameAsPiece all) k) (sym (settles_kept mrru (mark (leaves d.0 link)) (leaves d.0 link) s (gone.member member))) kept
      | inr out ↦ subst (λ (x : Gathering). AllByRecursion (CameAsPiece all) x.kept) (sym (gone.stranger out)) kept
    ]
kept_came space mrru past reached (brought {link = link} {fragment = fragment} {past = before} {reached = all} t number member delivered full h) = λ s links d.
    let kept : AllByRecursion (CameAsPiece all) d.0.kept = kept_came space mrru before all h d.0 links.1 d.1 in
    let now : List Reached = Brings link (numbered number fragment) ∷ all in
    let more : AllByRecursion (CameAsPiece (Brings link (numbered number fragment) ∷ all)) d.0.kept = all_weaker (CameAsPiece all) (CameAsPiece (Brings link (numbered number fragment) ∷ all)) d.0.kept (λ p c. inr c) kept in
    let takes : Takes space mrru d.0 link fragment d.2 s = d.3 in
    elim (member_cases (slice_index_or d.0.brought (link - 1) None)) [
      | inl in_it ↦
          let of = takes.member in_it in
          let same : d.0 ≡ t = delivered_once space mrru before d.0 t d.1 delivered in
          let there : IsFull space d.0.least fragment.field number = subst (λ (x : Gathering). IsFull space x.least fragment.field number) (sym same) full in
          let is : of.number ≡ number = full_once space d.0.least fragment.field of.number number of.full there in
          answered_kept (CameAsPiece (Brings link (numbered number fragment) ∷ all)) mrru d.0 s link (numbered of.number fragment) d.2 of.answered (inl (ap (λ (n : ℕ). numbered n fragment) is)) more
      | inr out ↦ subst (λ (x : Gathering). AllByRecursion (CameAsPiece (Brings link (numbered number fragment) ∷ all)) x.kept) (sym (takes.stranger out).1) more
    ]
kept_came space mrru past reached (refused {link = link} {fragment = fragment} {past = before} {reached = all} outside h) = λ s links d.
    let kept : AllByRecursion (CameAsPiece all) d.0.kept = kept_came space mrru before all h d.0 links.1 d.1 in
    let takes : Takes space mrru d.0 link fragment d.2 s = d.3 in
    elim (member_cases (slice_index_or d.0.brought (link - 1) None)) [
      | inl in_it ↦ let yes : is_member_in link before ≡ true = member_back space mrru before d.0 link links.1 links.0.0 d.1 in_it in absurd (let e : false ≡ true = sym outside ∙ yes in cc)
      | inr out ↦ subst (λ (x : Gathering). AllByRecursion (CameAsPiece all) x.kept) (sym (takes.stranger out).1) kept
    ]
kept_came space mrru past reached (unwrapped {link = link} {packet = packet} {past = same} {reached = all} member h) = λ s links d.
    all_weaker (CameAsPiece all) (CameAsPiece (Unwrapped link packet ∷ all)) s.kept (λ p c. c) (kept_came space mrru same all h s links d)

-- The pieces with so many numbers from n on, where all are kept, and each meets P.
record Row (P : Piece → Type 0) (kept : List Piece) (n len : ℕ) : Type 0 where
  pub pieces : List Piece
  pub long : length pieces ≡ len
  pub each : (i : ℕ) (p : Piece) → slice_get pieces i ≡ Some p → piece_at (n + i) kept ≡ Some p
  pub meet : AllByRecursion P pieces
  pub octets : joined kept n len ≡ octets_joined pieces

each_of : (kept : List Piece) (n : ℕ) (x : Piece) (xs : List Piece) → piece_at (n + 0) kept ≡ Some x → ((i : ℕ) (p : Piece) → slice_get xs i ≡ Some p → piece_at (suc n + i) kept ≡ Some p)
    → (i : ℕ) (p : Piece) → slice_get (x ∷ xs) i ≡ Some p → piece_at (n + i) kept ≡ Some p
each_of kept n x xs first rest zero p e = first ∙ e
each_of kept n x xs first rest (suc i) p e = let at : n + suc i ≡ suc n + i = omega arith in rw at (rest i p e)

row : (P : Piece → Type 0) (kept : List Piece) (n len : ℕ) → AllByRecursion P kept → AreThere n len kept → Row P kept n len
row P kept n zero all there = record { pieces = []; long = refl; each = λ i p e. absurd (let f : None ≡ Some p = e in cc); meet = tt; octets = refl }
row P kept n (suc len) all there =
    let first = there 0 (omega arith) in
    let rest : Row P kept (suc n) len = row P kept (suc n) len all (λ i below. let t = there (suc i) (omega arith) in let e : n + suc i ≡ suc n + i = omega arith in (t.0, subst (λ (m : ℕ). piece_at m kept ≡ Some t.0) e t.1)) in
    let at : n + 0 ≡ n = omega arith in
    let octets : octets_of (piece_at n kept) ≡ first.0.octets = ap octets_of (subst (λ (m : ℕ). piece_at m kept ≡ Some first.0) at first.1) in
    record {
      pieces = first.0 ∷ rest.pieces;
      long = ap suc rest.long;
      each = each_of kept n first.0 rest.pieces first.1 rest.each;
      meet = ((found P kept first.0 (n + 0) all first.1).0, rest.meet);
      octets = joined_head kept n len ∙ ap (λ l. l ++ joined kept (suc n) len) octets ∙ ap (λ l. first.0.octets ++ l) rest.octets;
    }

-- A piece of a run has B exactly where it is the first, and E exactly where it is the last.
in_run : (kept : List Piece) (packet : List ℕ) (w : Run kept packet) (i : ℕ) (p : Piece) → i < suc w.others → piece_at (w.from + i) kept ≡ Some p → (p.first ≡ (i == 0)) × (p.last ≡ (i + 1 == suc w.others))
in_run kept packet w i p below there = elim (cases_lt i w.others) [
  | inl before ↦
      let t = w.begun i before in
      let same : t.0 ≡ p = let e : Some t.0 ≡ Some p = sym t.1 ∙ there in cc in
      let test : (i + 1 == suc w.others) ≡ false = grind (arith, nat_tests) in
      (ap (λ (q : Piece). q.first) (sym same) ∙ t.2, ap (λ (q : Piece). q.last) (sym same) ∙ t.3 ∙ sym test)
  | inr at ↦
      let here : i ≡ w.others = omega arith in
      let there' : piece_at (w.from + w.others) kept ≡ Some p = subst (λ (n : ℕ). piece_at (w.from + n) kept ≡ Some p) here there in
      let same : w.end ≡ p = let e : Some w.end ≡ Some p = sym w.ends ∙ there' in cc in
      let test : (i + 1 == suc w.others) ≡ true = grind (arith, nat_tests) in
      (ap (λ (q : Piece). q.first) (sym same) ∙ w.first ∙ ap (λ n. n == 0) (sym here), ap (λ (q : Piece). q.last) (sym same) ∙ w.last ∙ sym test)
]

run_whole : (reached : List Reached) (kept : List Piece) (packet : List ℕ) → AllByRecursion (CameAsPiece reached) kept → Run kept packet → MadeOfPieces reached packet
run_whole reached kept packet all w =
    let r : Row (CameAsPiece reached) kept w.from (suc w.others) = row (CameAsPiece reached) kept w.from (suc w.others) all (run_there kept w.from w.others w.end w.begun w.ends) in
    let long : length r.pieces ≡ suc w.others = r.long in
    record {
      pieces = r.pieces;
      came = r.meet;
      make = record {
        from = w.from;
        some = omega arith;
        each = λ i p there.
            let within : i < length r.pieces = slice_get_within r.pieces i p there in
            let at : piece_at (w.from + i) kept ≡ Some p = r.each i p there in
            let number = (found (CameAsPiece reached) kept p (w.from + i) all at).1 in
            let is = in_run kept packet w i p (omega arith) at in
            (number, is.0, is.1 ∙ ap (λ n. i + 1 == n) (sym long));
      };
      octets = w.octets ∙ r.octets;
    }

given_whole : (reached : List Reached) (kept : List Piece) (low high : ℕ) (packets : List (List ℕ)) → AllByRecursion (CameAsPiece reached) kept → AreInOrder kept low high packets → AllByRecursion (MadeOfPieces reached) packets
given_whole reached kept low high [] all order = tt
given_whole reached kept low high (packet ∷ packets) all order = (run_whole reached kept packet all order.0, given_whole reached kept (order.0.from + suc order.0.others) high packets all order.2)

-- Every packet that is given is whole.
pub delivered_made : (space mrru : ℕ) (past : List Entry) (reached : List Reached) (s : Gathering) → AllByRecursion IsLink past → HasReached space mrru past reached → Delivered space mrru past s → AllByRecursion (MadeOfPieces reached) s.given
delivered_made space mrru past reached s links h d = given_whole reached s.kept 0 s.least s.given (kept_came space mrru past reached h s links d) (delivered_whole space mrru past s d)

-- Something reaches a bundle in every history.
pub reached_some : (half mrru : ℕ) (past : List Entry) → 0 < half → (reached : List Reached) × HasReached (2 * half) mrru past reached
reached_some half mrru [] some = ([], nothing_yet)
reached_some half mrru (Joins link ∷ past) some = let t = reached_some half mrru past some in (t.0, after_join t.1)
reached_some half mrru (Leaves link ∷ past) some = let t = reached_some half mrru past some in (t.0, after_leave t.1)
reached_some half mrru (Comes link fragment ∷ past) some = by_member (is_member_in link past) refl (reached_some half mrru past some)
  where
    by_member : (b : Bool) → is_member_in link past ≡ b → (t : (before : List Reached) × HasReached (2 * half) mrru past before) → (reached : List Reached) × HasReached (2 * half) mrru (Comes link fragment ∷ past) reached
    by_member true e t =
        let d = raised_some (2 * half) half mrru past refl some in
        let n = full_some (2 * half) half d.0.least fragment.field refl some d.2 in
        (Brings link (numbered n.0 fragment) ∷ t.0, brought d.0 n.0 e d.1 n.1 t.1)
    by_member false e t = (t.0, refused e t.1)

-- A packet that is made of pieces that came is whole.
whole_made : (reached : List Reached) (packets : List (List ℕ)) → AllByRecursion (MadeOfPieces reached) packets → AllByRecursion (Whole reached) packets
whole_made reached [] all = tt
whole_made reached (packet ∷ packets) all = (inl all.0, whole_made reached packets all.1)

pub delivered_reached : (space mrru : ℕ) (past : List Entry) (reached : List Reached) (s : Gathering) → AllByRecursion IsLink past → HasReached space mrru past reached → Delivered space mrru past s → AllByRecursion (Whole reached) s.given
delivered_reached space mrru past reached s links h d = whole_made reached s.given (delivered_made space mrru past reached s links h d)

-- A piece of a member has reached the bundle.
pub reached_more : (space mrru link number : ℕ) (fragment : Fragment) (past : List Entry) (reached : List Reached) (s : Gathering) → AllByRecursion IsLink past → 1 ≤ link → Delivered space mrru past s → IsMember s link
    → IsFull space s.least fragment.field number → HasReached space mrru past reached → HasReached space mrru (Comes link fragment ∷ past) (Brings link (numbered number fragment) ∷ reached)
reached_more space mrru link number fragment past reached s links some d member full h = brought s number (member_back space mrru past s link links some d member) d full h
