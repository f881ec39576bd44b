-- What is taken of pieces of a line is a front of what the line gave.
use Rattle.std.proofs.Common.{refl, sym, ap, subst, ◌∙◌, ◌≡◌, ℕ, ◌+◌, Bool, true, false, List, [], ◌∷◌, ◌++◌, length, drop, if◌then◌else◌, ◌==◌}
use Rattle.std.proofs.Math.Seq.{drop-append_seam}
use Rattle.std.proofs.lemmas.Bool.{eqb-true}
use Rattle.std.proofs.lemmas.List.{append_assoc, length-append}
use Rattle.ppp_link.specs.ErrandValues.{PieceValue}
use Rattle.ppp_link.specs.OneLine.{IsOfLine, AreOfLine, taken_of}

-- Two ways to cut a list at one place leave the same behind it.
pub same_behind : (front left before behind : List ℕ) → front ++ left ≡ before ++ behind → length before ≡ length front → left ≡ behind
same_behind front left before behind whole place =
    sym (drop-append_seam front left) ∙ (ap (λ l. drop (length front) l) whole ∙ (ap (λ n. drop n (before ++ behind)) (sym place) ∙ drop-append_seam before behind))

-- what is taken of what is left of a line, and what stays
pub record Takes (left taken : List ℕ) : Type 0 where
  pub rest : List ℕ
  pub whole : left ≡ taken ++ rest

pub takes_one : (left octets behind taken : List ℕ) → left ≡ octets ++ behind → Takes behind taken → Takes left (octets ++ taken)
takes_one left octets behind taken is t = record { rest = t.rest; whole = is ∙ (ap (λ l. octets ++ l) t.whole ∙ sym (append_assoc octets taken t.rest)) }

abbrev choice : Bool → ℕ → PieceValue → List PieceValue → List ℕ
choice b place piece pieces = if b then piece.octets ++ taken_of (place + length piece.octets) pieces else taken_of place pieces

-- one piece, where the others go on so
pub by_place : (b : Bool) (piece : PieceValue) (pieces : List PieceValue) (all front left : List ℕ) → (piece.offset == length front) ≡ b → all ≡ front ++ left → IsOfLine all piece
    → ((front left : List ℕ) → all ≡ front ++ left → Takes left (taken_of (length front) pieces)) → Takes left (choice b (length front) piece pieces)
by_place true piece pieces all front left is whole one go =
    let behind_is : left ≡ piece.octets ++ one.behind = same_behind front left one.before (piece.octets ++ one.behind) (sym whole ∙ one.whole) (one.place ∙ eqb-true piece.offset (length front) is) in
    let more : Takes one.behind (taken_of (length (front ++ piece.octets)) pieces) =
    go (front ++ piece.octets) one.behind (whole ∙ (ap (λ l. front ++ l) behind_is ∙ sym (append_assoc front piece.octets one.behind))) in
    takes_one left piece.octets one.behind (taken_of (length front + length piece.octets) pieces) behind_is
    (subst (λ n. Takes one.behind (taken_of n pieces)) (length-append front piece.octets) more)
by_place false piece pieces all front left is whole one go = go front left whole

pub a_front : (pieces : List PieceValue) (all front left : List ℕ) → all ≡ front ++ left → AreOfLine all pieces → Takes left (taken_of (length front) pieces)
a_front [] all front left whole are = record { rest = left; whole = refl }
a_front (piece ∷ pieces) all front left whole are =
    by_place (piece.offset == length front) piece pieces all front left refl whole are.0 (λ f l w. a_front pieces all f l w are.1)
