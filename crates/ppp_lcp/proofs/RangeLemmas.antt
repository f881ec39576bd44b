-- The MRU that is told as agreed is 128 to 1500, because no smaller one is acknowledged.
use Rattle.std.proofs.Common.{◌≡◌, ℕ, Bool, true, false, cond, Option, Some, None, List, [], ◌∷◌, refl, ap, sym, ◌∙◌, subst, arith}
use Rattle.std.specs.Prelude.{◌==◌, nat_le, min, length, option_map}
use Rattle.std.specs.Int.{to_be_bytes, w32}
use Rattle.std.proofs.lemmas.Bool.{leb-true}
use Rattle.ppp_packet.specs.declared.packet.Packet.{Packet}
use Rattle.ppp_packet.specs.declared.agreed.Agreed.{Agreed}
use Rattle.ppp_packet.specs.OptionsOf.{Item}
use Rattle.ppp_control.specs.Answers.{Judgement, acks, names, rejects, is_rejected, is_named, rejected, named}
use Rattle.ppp_control.specs.Changes.{last_from, last_body}
use Rattle.ppp_control.specs.OwnPackets.{packet}
use Rattle.ppp_control.specs.Past.{Agreement, next_id_after, options_in, last_acked, last_of, sent_in}
use Rattle.ppp_control.specs.Rules.{Call, by_itself, ticks, hears, rejects as Rejecting, aside, happened_in}
use Rattle.ppp_control.proofs.AckSentLemmas.{AllCarry, clash, no_ack, ack_fits}
use Rattle.ppp_lcp.specs.declared.wish.LcpWish.{LcpWish}
use Rattle.ppp_lcp.specs.declared.lcp.Lcp.{Lcp}
use Rattle.ppp_lcp.specs.Last.{number2_or, agreed_by, IsInRange}
use Rattle.ppp_lcp.specs.Session.{LcpCall, is_open_in, is_lost, magic_in, peer_mru_in, echo_after, unanswered_in, rules, agreed_after, StandsFor}
use Rattle.ppp_lcp.specs.Magic.{cut_information}
use Rattle.ppp_lcp.specs.Table.{judged_where, mru_judged, number2}
use Rattle.ppp_timer.specs.Due.{has_come}

-- an MRU of at least 128, or none
abbrev FitsOne : Option (List ℕ) → Type 0
FitsOne found = nat_le 128 (number2_or found 1500) ≡ true

abbrev Fits : List Item → Type 0
Fits items = FitsOne (last_body 1 items)

abbrev two : List Item → List Item → Agreement
two ours theirs = record { ours = ours; theirs = theirs }

-- an item that is neither rejected nor named
neither : (judge : Item → Judgement) (i : Item) (items : List Item) → rejected judge (i ∷ items) ≡ [] → named judge (i ∷ items) ≡ []
    → (is_rejected (judge i) ≡ false) × (is_named (judge i) ≡ false) × (rejected judge items ≡ []) × (named judge items ≡ [])
neither judge i items e f = let one = kept (is_rejected (judge i)) i (rejected judge items) e in let two = kept (is_named (judge i)) i (named judge items) f in (one.0, two.0, one.1, two.1)
  where
    kept : (b : Bool) (i : Item) (rest : List Item) → cond b (i ∷ rest) rest ≡ [] → (b ≡ false) × (rest ≡ [])
    kept true i rest e = absurd (let x : i ∷ rest ≡ [] = e in cc)
    kept false i rest e = (refl, e)

two_octets : (two enough : Bool) → is_rejected (cond two (cond enough acks (names (0 ∷ 128 ∷ []))) rejects) ≡ false → is_named (cond two (cond enough acks (names (0 ∷ 128 ∷ []))) rejects) ≡ false → (two ≡ true) × (enough ≡ true)
two_octets true true e f = (refl, refl)
two_octets true false e f = clash (sym f)
two_octets false enough e f = clash (sym e)

-- an MRU that is acknowledged
one_fits : (wish : LcpWish) (multilink : Bool) (ours word : ℕ) (i : Item) → (i.kind == 1) ≡ true → is_rejected (judged_where wish multilink ours word i) ≡ false → is_named (judged_where wish multilink ours word i) ≡ false
    → FitsOne (Some i.body)
one_fits wish multilink ours word i e f g =
    let same : judged_where wish multilink ours word i ≡ mru_judged i.body = first (i.kind == 1) (mru_judged i.body) _ e in
    let both = two_octets (length i.body == 2) (nat_le 128 (number2 i.body)) (ap is_rejected (sym same) ∙ f) (ap is_named (sym same) ∙ g) in
    ap (λ b. nat_le 128 (cond b (number2 i.body) 1500)) both.0 ∙ both.1
  where
    first : (b : Bool) (x y : Judgement) → b ≡ true → cond b x y ≡ x
    first true x y e = refl
    first false x y e = clash e

fits_from : (wish : LcpWish) (multilink : Bool) (ours word : ℕ) (items : List Item) (found : Option (List ℕ)) → rejected (judged_where wish multilink ours word) items ≡ [] → named (judged_where wish multilink ours word) items ≡ []
    → FitsOne found → FitsOne (last_from found 1 items)
fits_from wish multilink ours word [] found e f h = h
fits_from wish multilink ours word (i ∷ items) found e f h =
    let n = neither (judged_where wish multilink ours word) i items e f in
    fits_from wish multilink ours word items (cond (i.kind == 1) (Some i.body) found) n.2 n.3 (one (i.kind == 1) refl n.0 n.1)
  where
    one : (b : Bool) → (i.kind == 1) ≡ b → is_rejected (judged_where wish multilink ours word i) ≡ false → is_named (judged_where wish multilink ours word i) ≡ false → FitsOne (cond b (Some i.body) found)
    one true k r m = one_fits wish multilink ours word i k r m
    one false k r m = h

-- LCP sends no Ack beside events
if_carries : (b : Bool) (xs ys : List Packet) → AllCarry Fits xs → AllCarry Fits ys → AllCarry Fits (cond b xs ys)
if_carries true xs ys h k = h
if_carries false xs ys h k = k

quiet : (wish : LcpWish) (words : ℕ) (past : List LcpCall) (now : ℕ) (call : Call (Unit {0})) → AllCarry Fits (aside (rules wish words) past now call)
quiet wish words past now (by_itself own) = tt
quiet wish words past now ticks =
    let echo : Packet = packet 9 (next_id_after (happened_in past)) (to_be_bytes w32 (magic_in wish words past)) in
    let lost : Bool = is_lost wish (min (unanswered_in wish words past) 255) in
    if_carries (has_come now (echo_after wish past)) (cond lost [] (echo ∷ [])) [] (if_carries lost [] (echo ∷ []) tt (no_ack Fits echo refl)) tt
quiet wish words past now (hears p a) = tt
quiet wish words past now (Rejecting protocol information) =
    let rejection : Packet = packet 8 (next_id_after (happened_in past)) (cut_information (peer_mru_in past) protocol information) in
    if_carries (is_open_in wish past) (rejection ∷ []) [] (no_ack Fits rejection refl) tt

in_range : (opened : Bool) (ours theirs : List Item) → Fits theirs → IsInRange (option_map (λ both. agreed_by both.ours both.theirs) (cond opened (Some (two ours theirs)) None))
in_range true ours theirs h = (omega (arith, leb-true _ _ h), omega arith)
in_range false ours theirs h = tt

pub agreed_range : (wish : LcpWish) (words : ℕ) (l : Lcp) (past : List LcpCall) (told : Option Agreed) → told ≡ agreed_after wish past → StandsFor wish words l past → IsInRange told
agreed_range wish words l past told e s =
    let fits : Fits (options_in (last_of 2 (sent_in (happened_in past)))) =
    ack_fits (rules wish words) Fits (λ before a items r n. fits_from wish _ _ _ items None r n refl) refl (quiet wish words) past s.negotiates.lawful in
    subst IsInRange (sym e) (in_range (is_open_in wish past) (options_in (last_acked (happened_in past))) _ fits)
