-- What a multilink bundle sends of a packet are the pieces of its one cut.
use Rattle.std.proofs.Common.{◌≡◌, ℕ, zero, suc, ◌+◌, ◌-◌, ◌*◌, ◌/◌, ◌%◌, ◌<◌, ◌≤◌, Option, None, Some, List, [], ◌∷◌, ◌++◌, length, take, drop, slice_get, slice_index_or, inl, inr, ◌⊎◌, refl, ap, ap₂, sym, subst, ◌∙◌, append_assoc, append-nil, arith}
use Rattle.std.proofs.Math.Nat.{mul-le-mul_right, mul-zero}
use Rattle.std.proofs.lemmas.Bool.{cases_lt}
use Rattle.std.proofs.lemmas.Option.{get_or_from_slice_get, slice_get_within}
use Rattle.std.proofs.lemmas.List.{drop_more, get_or_default}
use Rattle.std.specs.Prelude.{◌==◌}
use Rattle.ppp_base.specs.declared.octets.TheConstants.{MOST_FRAME}
use Rattle.ppp_base.specs.declared.protocol.TheConstants.{MULTILINK}
use Rattle.ppp_mp.specs.declared.cuts.CutPiece.{CutPiece}
use Rattle.ppp_mp.specs.declared.members.MemberView.{MemberView}
use Rattle.ppp_mp.specs.Cut.{Cut, IsPiece, least_mru, piece_size, share}
use Rattle.ppp_mp.specs.Header.{long_octets, long_space}
use Rattle.ppp_mp.specs.Members.{AreMembers}
use Rattle.ppp_mp.specs.Schedule.{FitsFrame, SendingNow, SentPiece, information_of, sending_after, sent_of}
use Rattle.ppp_mp.proofs.CutLaws.{pieces_frame}
use Rattle.ppp_mp.proofs.CutLemmas.{count-ends, is_cut, least-wide, none-empty, share-reaches}
use Rattle.ppp_mp.proofs.Sends.{sent_at}
use Rattle.ppp_unit_parts.specs.declared.outbox.Sending.{Sending}
use Rattle.ppp_unit_parts.specs.Pieces.{after_pieces, cut_at, cut_of, cuts_from, pieces_of, sending, with_headers}

-- THE CUT

piece_is : (len size : ℕ) (members : List MemberView) (turn j : ℕ) (p : CutPiece) → IsPiece len members turn size j p → p ≡ cut_at len size members turn j
piece_is len size members turn j p is =
    ap (λ (n : ℕ). record p { place = n }) is.place
    ∙ ap (λ (n : ℕ). record p { place = j * size; len = n }) is.len
    ∙ ap (λ (n : ℕ). record (cut_at len size members turn j) { link = n }) (is.link (record { link = 1; mru = 128 }))

cuts_are : (len size : ℕ) (members : List MemberView) (turn j : ℕ) (pieces : List CutPiece)
    → ((i : ℕ) → i < length pieces → (other : CutPiece) → IsPiece len members turn size (j + i) (slice_index_or pieces i other))
    → pieces ≡ cuts_from len size members turn j (length pieces)
cuts_are len size members turn j [] each = refl
cuts_are len size members turn j (piece ∷ pieces) each =
    let at : j + 0 ≡ j = omega arith in
    let here : IsPiece len members turn size j piece = subst (λ (n : ℕ). IsPiece len members turn size n piece) at (each 0 (omega arith) piece) in
    let rest : pieces ≡ cuts_from len size members turn (j + 1) (length pieces) =
    cuts_are len size members turn (j + 1) pieces
    (λ i below other. let e : j + suc i ≡ j + 1 + i = omega arith in subst (λ (n : ℕ). IsPiece len members turn size n (slice_index_or pieces i other)) e (each (suc i) (omega arith) other)) in
    ap (λ (p : CutPiece). p ∷ pieces) (piece_is len size members turn j piece here) ∙ ap (λ (ps : List CutPiece). cut_at len size members turn j ∷ ps) rest

some_size : (len count size : ℕ) → len ≤ count * size → (count - 1) * size < len → 0 < size
some_size len count zero ends last = let e : count * 0 ≡ 0 = mul-zero count in absurd (omega arith)
some_size len count (suc size) ends last = omega arith

no_more : (len size count quotient : ℕ) → 0 < size → len ≤ count * size → (j : ℕ) → ((i : ℕ) → i < quotient → i * size < len) → count < quotient → ⊥
no_more len size count quotient some ends j below less = let b : count * size < len = below count less in absurd (omega arith)

no_less : (len size count quotient : ℕ) → (count - 1) * size < len → len ≤ quotient * size → quotient < count → ⊥
no_less len size count quotient last ends less =
    let before : quotient ≤ count - 1 = omega arith in
    let most : quotient * size ≤ (count - 1) * size = mul-le-mul_right size before in
    absurd (omega arith)

count_is : (len size count : ℕ) → len ≤ count * size → (count - 1) * size < len → count ≡ (len + size - 1) / size
count_is len size count ends last = by_case (cases_lt count ((len + size - 1) / size)) (cases_lt ((len + size - 1) / size) count)
  where
    some : 0 < size
    some = some_size len count size ends last

    by_case : (count < (len + size - 1) / size) ⊎ ((len + size - 1) / size ≤ count) → ((len + size - 1) / size < count) ⊎ (count ≤ (len + size - 1) / size) → count ≡ (len + size - 1) / size
    by_case (inl less) other = absurd (no_more len size count ((len + size - 1) / size) some ends 0 (λ i b. none-empty len size i some b) less)
    by_case (inr most) (inl less) = absurd (no_less len size count ((len + size - 1) / size) last (count-ends len size some) less)
    by_case (inr most) (inr least) = omega arith

-- Only one list of pieces is the cut of a packet.
pub cut_is : (len turn : ℕ) (members : List MemberView) (pieces : List CutPiece) → Cut long_octets len members turn pieces → pieces ≡ cut_of len members turn
cut_is len turn members pieces is =
    let size : ℕ = piece_size long_octets len members in
    let all : pieces ≡ cuts_from len (piece_size long_octets len members) members turn 0 (length pieces) =
    cuts_are len (piece_size long_octets len members) members turn 0 pieces
    (λ i below other. let e : i ≡ 0 + i = omega arith in subst (λ (n : ℕ). IsPiece len members turn (piece_size long_octets len members) n (slice_index_or pieces i other)) e (is.each i below other)) in
    all ∙ ap (λ (n : ℕ). cuts_from len (piece_size long_octets len members) members turn 0 n) (count_is len (piece_size long_octets len members) (length pieces) is.ends is.none_empty)

-- And it is one.
members_to : (low : ℕ) (members : List MemberView) → AreMembers low members → low ≤ 16 → length members + low ≤ 16
members_to low [] all most = omega (arith, most)
members_to low (m ∷ members) all most =
    let rest : length members + m.link ≤ 16 = members_to m.link members all.4 all.1 in
    let above : low < m.link = all.0 in
    omega (arith, rest, above)

cut_there : (len size : ℕ) (members : List MemberView) (turn j count k : ℕ) (other : CutPiece) → k < count → slice_index_or (cuts_from len size members turn j count) k other ≡ cut_at len size members turn (j + k)
cut_there len size members turn j zero k other below = absurd (omega (arith, below))
cut_there len size members turn j (suc count) zero other below = let e : j ≡ j + 0 = omega arith in ap (λ (n : ℕ). cut_at len size members turn n) e
cut_there len size members turn j (suc count) (suc k) other below =
    let e : j + 1 + k ≡ j + suc k = omega arith in
    cut_there len size members turn (j + 1) count k other (omega (arith, below)) ∙ ap (λ (n : ℕ). cut_at len size members turn n) e

cut_length : (len size : ℕ) (members : List MemberView) (turn j count : ℕ) → length (cuts_from len size members turn j count) ≡ count
cut_length len size members turn j zero = refl
cut_length len size members turn j (suc count) = ap suc (cut_length len size members turn (j + 1) count)

is_piece : (len size : ℕ) (members : List MemberView) (turn j : ℕ) → 0 < length members → IsPiece len members turn size j (cut_at len size members turn j)
is_piece len size members turn j some =
    let below : (turn + j) % length members < length members = omega (arith, some) in
    record { place = refl; len = refl; link = λ other. ap (λ (m : MemberView). m.link) (get_or_default members ((turn + j) % length members) (record { link = 1; mru = 128 }) other below) }

pub cut_of_is : (len turn : ℕ) (members : List MemberView) → 0 < len → 0 < length members → AreMembers 0 members → Cut long_octets len members turn (cut_of len members turn)
cut_of_is len turn members len_some some lawful =
    let size : ℕ = piece_size long_octets len members in
    let few : length members + 0 ≤ 16 = members_to 0 members lawful (omega arith) in
    let reaches = share-reaches len (length members) len_some some (omega (arith, few)) in
    let wide : 128 ≤ least_mru members = least-wide members lawful in
    let share_some : 0 < share len (length members) = reaches.0 in
    let size_some : 0 < piece_size long_octets len members = omega (arith, wide, share_some) in
    is_cut long_octets len members members turn (piece_size long_octets len members) ((len + piece_size long_octets len members - 1) / piece_size long_octets len members) (cut_of len members turn)
    refl refl size_some len_some (cut_length len (piece_size long_octets len members) members turn 0 ((len + piece_size long_octets len members - 1) / piece_size long_octets len members)) refl
    (λ k below other.
    (let e : k ≡ 0 + k = omega arith in
    subst (λ (p : CutPiece). IsPiece len members turn (piece_size long_octets len members) k p)
    (ap (λ (n : ℕ). cut_at len (piece_size long_octets len members) members turn n) e
    ∙ sym (cut_there len (piece_size long_octets len members) members turn 0 ((len + piece_size long_octets len members - 1) / piece_size long_octets len members) k other below))
    (is_piece len (piece_size long_octets len members) members turn k some)))

pub pieces_are : (now : SendingNow) (members : List MemberView) (packet : List ℕ) (pieces : List CutPiece) → 0 < length members → Cut long_octets (length packet) members now.turn pieces
    → with_headers now.number (sent_of packet (length pieces) 0 pieces) ≡ pieces_of now members packet
pieces_are now [] packet pieces some is = absurd (omega (arith, some))
pieces_are now (m ∷ members) packet pieces some is =
    ap (λ (ps : List CutPiece). with_headers now.number (sent_of packet (length ps) 0 ps)) (cut_is (length packet) now.turn (m ∷ members) pieces is)

pub after_are : (now : SendingNow) (members : List MemberView) (packet : List ℕ) (pieces : List CutPiece) → 0 < length members → Cut long_octets (length packet) members now.turn pieces
    → sending_after long_space now (length members) (length pieces) ≡ after_pieces now members packet
after_are now [] packet pieces some is = absurd (omega (arith, some))
after_are now (m ∷ members) packet pieces some is =
    ap (λ (ps : List CutPiece). sending_after long_space now (length (m ∷ members)) (length ps)) (cut_is (length packet) now.turn (m ∷ members) pieces is)

-- where there is no member
pub nothing_sent : (now : SendingNow) (members : List MemberView) (packet : List ℕ) (sent : List Sending) → length members ≡ 0 → sent ≡ sent ++ pieces_of now members packet
nothing_sent now [] packet sent e = sym (append-nil sent)
nothing_sent now (m ∷ members) packet sent e = absurd (omega (arith, e))

pub nothing_after : (now : SendingNow) (members : List MemberView) (packet : List ℕ) → length members ≡ 0 → now ≡ after_pieces now members packet
nothing_after now [] packet e = refl
nothing_after now (m ∷ members) packet e = absurd (omega (arith, e))

-- THE PIECES

there_at : (pieces : List CutPiece) (at : ℕ) → at < length pieces → (p : CutPiece) × (slice_get pieces at ≡ Some p)
there_at [] at below = absurd (omega arith)
there_at (p ∷ pieces) zero below = (p, refl)
there_at (p ∷ pieces) (suc at) below = there_at pieces at (omega arith)

pub all_fit : (packet : List ℕ) (turn : ℕ) (members : List MemberView) (pieces : List CutPiece) → 0 < length members → AreMembers 0 members → Cut long_octets (length packet) members turn pieces
    → (at : ℕ) → at < length pieces → FitsFrame long_octets MOST_FRAME packet (slice_get pieces at)
all_fit packet turn members pieces some lawful is at below =
    let p = there_at pieces at below in
    pieces_frame long_octets packet turn members pieces some lawful is at p.0 p.1

fits_some : (o : Option CutPiece) (header most : ℕ) (packet : List ℕ) → FitsFrame header most packet o → o ≡ None → ⊥
fits_some None header most packet f e = absurd f
fits_some (Some p) header most packet f e = absurd (let g : Some p ≡ None = e in cc)

pub piece_there : (o : Option CutPiece) (packet : List ℕ) → FitsFrame long_octets MOST_FRAME packet o → o ≡ None → ⊥
piece_there o packet f e = fits_some o long_octets MOST_FRAME packet f e

pub link_is : (packet : List ℕ) (count at : ℕ) (pieces : List CutPiece) (p : CutPiece) (piece : SentPiece) → slice_get pieces at ≡ Some p → slice_get (sent_of packet count 0 pieces) at ≡ Some piece → piece.link ≡ p.link
link_is packet count at pieces p piece there is = ap (λ (x : SentPiece). x.link) (sent_at packet count 0 at pieces p piece there is)

sent_there : (packet : List ℕ) (count j at : ℕ) (pieces : List CutPiece) → at < length pieces → (piece : SentPiece) × (slice_get (sent_of packet count j pieces) at ≡ Some piece)
sent_there packet count j at [] below = absurd (omega arith)
sent_there packet count j zero (p ∷ pieces) below = (record { link = p.link; first = j == 0; last = j + 1 == count; octets = take p.len (drop p.place packet) }, refl)
sent_there packet count j (suc at) (p ∷ pieces) below = sent_there packet count (j + 1) at pieces (omega arith)

pub drop_get : {X : Type 0} (xs : List X) (i : ℕ) (x : X) → slice_get xs i ≡ Some x → drop i xs ≡ x ∷ drop (i + 1) xs
drop_get xs i x e = drop_more xs i x (slice_get_within xs i x e) ∙ ap (λ z. z ∷ drop (i + 1) xs) (get_or_from_slice_get xs i x x e)

drop_whole : {X : Type 0} (xs : List X) → drop (length xs) xs ≡ []
drop_whole [] = refl
drop_whole (x ∷ xs) = drop_whole xs

sent_length : (packet : List ℕ) (count j : ℕ) (pieces : List CutPiece) → length (sent_of packet count j pieces) ≡ length pieces
sent_length packet count j [] = refl
sent_length packet count j (p ∷ pieces) = ap suc (sent_length packet count (j + 1) pieces)

abbrev pub sent_pieces : List ℕ → List CutPiece → List SentPiece
sent_pieces packet pieces = sent_of packet (length pieces) 0 pieces

-- so many pieces wait, and with those that are left they are all
pub record Puts (number at : ℕ) (packet : List ℕ) (pieces : List CutPiece) (old now : List Sending) : Type 0 where
  pub rest : now ++ with_headers (number + at) (drop at (sent_pieces packet pieces)) ≡ old ++ with_headers number (sent_pieces packet pieces)
  pub few : length now ≤ length old + at

pub put_first : (number : ℕ) (packet : List ℕ) (pieces : List CutPiece) (old : List Sending) → Puts number 0 packet pieces old old
put_first number packet pieces old =
    let e : number + 0 ≡ number = omega arith in
    record { rest = ap (λ (n : ℕ). old ++ with_headers n (sent_pieces packet pieces)) e; few = omega arith }

pub put_step : (number at : ℕ) (packet : List ℕ) (pieces : List CutPiece) (old now new : List Sending) → at < length pieces
    → ((piece : SentPiece) → slice_get (sent_of packet (length pieces) 0 pieces) at ≡ Some piece → new ≡ now ++ sending piece.link MULTILINK (information_of long_space long_octets (number + at) piece) ∷ [])
    → length new ≤ length now + 1 → Puts number at packet pieces old now → Puts number (at + 1) packet pieces old new
put_step number at packet pieces old now new below is more puts =
    let p = sent_there packet (length pieces) 0 at pieces below in
    let s : Sending = sending p.0.link MULTILINK (information_of long_space long_octets (number + at) p.0) in
    let left : List SentPiece = drop (at + 1) (sent_pieces packet pieces) in
    let next : number + at + 1 ≡ number + (at + 1) = omega arith in
    let front : drop at (sent_pieces packet pieces) ≡ p.0 ∷ left = drop_get (sent_pieces packet pieces) at p.0 p.1 in
    record {
      rest = ap₂ (λ (x : List Sending) (n : ℕ). x ++ with_headers n left) (is p.0 p.1) (sym next)
          ∙ append_assoc now (s ∷ []) (with_headers (number + at + 1) left)
          ∙ ap (λ (ps : List SentPiece). now ++ with_headers (number + at) ps) (sym front)
          ∙ puts.rest;
      few = omega (arith, more, puts.few);
    }

pub put_all : (number at : ℕ) (packet : List ℕ) (pieces : List CutPiece) (old now : List Sending) → at ≡ length pieces → Puts number at packet pieces old now
    → now ≡ old ++ with_headers number (sent_of packet (length pieces) 0 pieces)
put_all number at packet pieces old now e puts =
    let none : drop at (sent_pieces packet pieces) ≡ [] =
    ap (λ (n : ℕ). drop n (sent_pieces packet pieces)) (e ∙ sym (sent_length packet (length pieces) 0 pieces)) ∙ drop_whole (sent_pieces packet pieces) in
    sym (append-nil now) ∙ ap (λ (ps : List SentPiece). now ++ with_headers (number + at) ps) (sym none) ∙ puts.rest
