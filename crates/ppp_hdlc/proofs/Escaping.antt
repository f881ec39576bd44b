-- Octets escaped one after another.
use Rattle.std.proofs.Common.{◌≡◌, ℕ, suc, ◌+◌, ◌-◌, ◌*◌, ◌<◌, ◌≤◌, true, false, cond, List, [], ◌∷◌, ◌++◌, length, take, drop, get_or, refl, sym, ap, ◌∙◌, arith, append-nil, length-append, length-drop, length-take-le, take-append-drop, lit≤}
use Rattle.std.specs.Prelude.{bit_xor}
use Rattle.std.proofs.Math.Seq.{take-add}
use Rattle.std.proofs.lemmas.List.{take_more, get_or-take, get_or-drop}
use Rattle.std.proofs.lemmas.List.Folds.{length-flat_map-take}
use Rattle.std.proofs.lemmas.Grind.{flat_map-append}
use Rattle.ppp_hdlc.specs.Encoding.{escape, escaped, is_escaped, flagged, enclosed, with_fcs, body, fcs_octets, address, protocol_field}
use Rattle.ppp_base.specs.declared.send_settings.SendSettings.{SendSettings}

pub escaped-none : (map : ℕ) → escaped map [] ≡ []
unfolding escaped
escaped-none map = refl

pub escaped-cons : (map x : ℕ) (xs : List ℕ) → escaped map (x ∷ xs) ≡ escape map x ++ escaped map xs
unfolding escaped
escaped-cons map x xs = refl

pub escaped-append : (map : ℕ) (xs ys : List ℕ) → escaped map (xs ++ ys) ≡ escaped map xs ++ escaped map ys
unfolding escaped
escaped-append map xs ys = flat_map-append (escape map) xs ys

pub escaped-more : (map : ℕ) (xs : List ℕ) (i : ℕ) → i < length xs → escaped map (take (i + 1) xs) ≡ escaped map (take i xs) ++ escape map (get_or xs i 0)
escaped-more map xs i within =
    ap (λ l. escaped map l) (take_more xs i 0 within) ∙ escaped-append map (take i xs) (get_or xs i 0 ∷ [])
    ∙ ap (λ l. escaped map (take i xs) ++ l) (escaped-cons map (get_or xs i 0) [] ∙ ap (λ l. escape map (get_or xs i 0) ++ l) (escaped-none map) ∙ append-nil (escape map (get_or xs i 0)))

-- what the front and one more take is not above the whole
pub escaped-fits : (map : ℕ) (xs : List ℕ) (i : ℕ) → i < length xs → length (escaped map (take i xs)) + length (escape map (get_or xs i 0)) ≤ length (escaped map xs)
unfolding escaped
escaped-fits map xs i within = length-flat_map-take (escape map) xs i 0 within

-- the octets between two flags, in three pieces
pub flagged-pieces : (map : ℕ) (front information back : List ℕ) → flagged map ((front ++ information) ++ back) ≡ 0x7e ∷ (((escaped map front ++ escaped map information) ++ escaped map back) ++ 0x7e ∷ [])
unfolding flagged
flagged-pieces map front information back =
    ap (λ l. 0x7e ∷ (l ++ 0x7e ∷ [])) (escaped-append map (front ++ information) back ∙ ap (λ l. l ++ escaped map back) (escaped-append map front information))

pub length-flagged : (map : ℕ) (front information back : List ℕ) → length (flagged map ((front ++ information) ++ back)) ≡ 2 + length (escaped map front) + length (escaped map information) + length (escaped map back)
length-flagged map front information back =
    let f = escaped map front in
    let i = escaped map information in
    let b = escaped map back in
    ap length (flagged-pieces map front information back)
    ∙ omega (arith, length-append ((escaped map front ++ escaped map information) ++ escaped map back) (0x7e ∷ []), length-append (escaped map front ++ escaped map information) (escaped map back), length-append (escaped map front) (escaped map information))

pub enclosed-is : (settings : SendSettings) (protocol : ℕ) (information : List ℕ) → enclosed settings protocol information ≡ flagged settings.map (((address settings protocol ++ protocol_field settings protocol) ++ information) ++ fcs_octets ((address settings protocol ++ protocol_field settings protocol) ++ information))
unfolding enclosed with_fcs body
enclosed-is settings protocol information = refl

-- an octet is written as two at most
pub length-escape-le : (map x : ℕ) → length (escape map x) ≤ 2
length-escape-le map x = elim (is_escaped map x) as (λ b. length (cond b (0x7d ∷ bit_xor x 32 ∷ []) (x ∷ [])) ≤ 2) [ true ↦ lit≤ tt | false ↦ lit≤ tt ]

pub length-escaped-le : (map : ℕ) (xs : List ℕ) → length (escaped map xs) ≤ 2 * length xs
length-escaped-le map [] = omega (arith, ap length (escaped-none map))
length-escaped-le map (x ∷ xs) = omega (arith, ap length (escaped-cons map x xs), length-append (escape map x) (escaped map xs), length-escape-le map x, length-escaped-le map xs)

-- octets that go over the line as they are
escape-plain : (map x : ℕ) → is_escaped map x ≡ false → escape map x ≡ x ∷ []
escape-plain map x plain = rw plain refl

escaped-plain : (map : ℕ) (xs : List ℕ) → ((k : ℕ) → k < length xs → is_escaped map (get_or xs k 0) ≡ false) → escaped map xs ≡ xs
escaped-plain map [] plain = escaped-none map
escaped-plain map (x ∷ xs) plain =
    escaped-cons map x xs
    ∙ ap (λ l. l ++ escaped map xs) (escape-plain map x (plain 0 (omega arith)))
    ∙ ap (λ l. x ∷ l) (escaped-plain map xs (λ k within. plain (suc k) (omega arith)))

pub escaped-part : (map at n : ℕ) (xs : List ℕ) → escaped map (take at xs) ++ escaped map (take n (drop at xs)) ≡ escaped map (take (at + n) xs)
escaped-part map at n xs = sym (escaped-append map (take at xs) (take n (drop at xs))) ∙ ap (λ l. escaped map l) (sym (take-add at n xs))

pub escaped-run : (map at run : ℕ) (xs : List ℕ) → at + 16 ≤ length xs → run ≤ 16 → ((k : ℕ) → k < run → is_escaped map (get_or xs (at + k) 0) ≡ false)
    → escaped map (take at xs) ++ take run (drop at xs) ≡ escaped map (take (at + run) xs)
escaped-run map at run xs sixteen short plain =
    let long : length (take run (drop at xs)) ≡ run = length-take-le run (drop at xs) (omega (arith, length-drop at xs)) in
    ap (λ l. escaped map (take at xs) ++ l)
    (sym (escaped-plain map (take run (drop at xs)) (λ k below. rw (get_or-take run (drop at xs) k 0 (omega (arith, long)), get_or-drop at xs k 0) (plain k (omega (arith, long))))))
    ∙ escaped-part map at run xs

-- a front takes no more room than the whole
pub escaped-front-le : (map at : ℕ) (xs : List ℕ) → length (escaped map (take at xs)) + length (escaped map (drop at xs)) ≡ length (escaped map xs)
escaped-front-le map at xs =
    sym (length-append (escaped map (take at xs)) (escaped map (drop at xs)))
    ∙ ap length (sym (escaped-append map (take at xs) (drop at xs)) ∙ ap (λ l. escaped map l) (take-append-drop at xs))

pub escaped-to : (map at end : ℕ) (xs : List ℕ) → at ≤ end → escaped map (take at xs) ++ escaped map (take (end - at) (drop at xs)) ≡ escaped map (take end xs)
escaped-to map at end xs ordered =
    let there : at + (end - at) ≡ end = omega arith in
    escaped-part map at (end - at) xs ∙ ap (λ n. escaped map (take n xs)) there

pub escaped-to-le : (map at end : ℕ) (xs : List ℕ) → at ≤ end → length (escaped map (take at xs)) + length (escaped map (take (end - at) (drop at xs))) ≤ length (escaped map xs)
escaped-to-le map at end xs ordered =
    omega (arith, ap length (escaped-to map at end xs ordered), length-append (escaped map (take at xs)) (escaped map (take (end - at) (drop at xs))), escaped-front-le map end xs)

-- a front of a piece in a room
pub front-le : (map at : ℕ) (xs : List ℕ) → at ≤ length xs → length (escaped map (take at xs)) ≤ 2 * at
front-le map at xs within = omega (arith, length-escaped-le map (take at xs), length-take-le at xs within)
