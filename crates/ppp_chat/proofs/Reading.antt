-- Reading the pieces of a part, from left to right.
use Rattle.std.proofs.Common.{ℕ, ◌≡◌, zero, suc, Option, None, Some, List, [], ◌∷◌, ◌++◌, length, ◌-◌, ◌≤◌, take, drop, get_or, refl, sym, ap, ◌∙◌, arith, append_assoc, length-drop}
use Rattle.std.proofs.lemmas.List.{take_all}
use Rattle.ppp_chat.specs.Pieces.{pieces_behind, with_piece, first_piece}
use Rattle.ppp_chat.specs.declared.piece.Piece.{Piece}
use Rattle.ppp_chat.specs.declared.piece.Spelled.{Spelled}

-- these pieces, and then those that are still to be read
abbrev pub before_all : List Piece → Option (List Piece) → Option (List Piece)
before_all read None = None
before_all read (Some pieces) = Some (read ++ pieces)

-- what octets more are passed over
pub pieces-drop : (more : ℕ) (octets : List ℕ) → pieces_behind more octets ≡ pieces_behind 0 (drop more octets)
pieces-drop zero octets = refl
pieces-drop (suc more) [] = refl
pieces-drop (suc more) (octet ∷ octets) = pieces-drop more octets

pub before-all-more : (read : List Piece) (piece : Piece) (rest : Option (List Piece))
    → before_all read (with_piece piece rest) ≡ before_all (read ++ piece ∷ []) rest
before-all-more read piece None = refl
before-all-more read piece (Some pieces) = ap (λ (l : List Piece). Some l) (sym (append_assoc read (piece ∷ []) pieces))

-- a list with a first octet is that octet and the others
pub cons-back : (octets : List ℕ) → 1 ≤ length octets → octets ≡ get_or octets 0 0 ∷ take (length octets - 1) (drop 1 octets)
cons-back [] some = absurd (omega arith)
cons-back (octet ∷ octets) some = ap (λ l. octet ∷ l) (sym (take_all (length (octet ∷ octets) - 1) octets (omega arith)))

-- What stands behind the first piece is read behind it.
pub taken : (octet : ℕ) (others : List ℕ) (s : Spelled) → Some s ≡ first_piece octet others
    → pieces_behind 0 (octet ∷ others) ≡ with_piece s.piece (pieces_behind 0 (take (length others - s.more) (drop s.more others)))
taken octet others s is =
    let all : take (length others - s.more) (drop s.more others) ≡ drop s.more others =
    take_all (length others - s.more) (drop s.more others) (omega (arith, length-drop s.more others)) in
    rw (← is, all) (ap (λ r. with_piece s.piece r) (pieces-drop s.more others))

-- One more piece is read.
pub read_more : (all left : List ℕ) (read : List Piece) (piece : Piece) (behind : List ℕ) → pieces_behind 0 all ≡ before_all read (pieces_behind 0 left)
    → 1 ≤ length left → pieces_behind 0 (get_or left 0 0 ∷ take (length left - 1) (drop 1 left)) ≡ with_piece piece (pieces_behind 0 behind)
    → pieces_behind 0 all ≡ before_all (read ++ piece ∷ []) (pieces_behind 0 behind)
read_more all left read piece behind so_far some next =
    so_far ∙ ap (λ r. before_all read r) (ap (λ octets. pieces_behind 0 octets) (cons-back left some) ∙ next) ∙ before-all-more read piece (pieces_behind 0 behind)
