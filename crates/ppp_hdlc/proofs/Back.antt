-- A frame that was written is heard as it was.
use Rattle.std.proofs.Common.{◌≡◌, ℕ, ◌-◌, ◌≤◌, ◌==◌, true, false, nat_lt, List, [], ◌∷◌, ◌++◌, length, map, take, refl, sym, ap, ◌∙◌, arith, append_assoc, length-append}
use Rattle.std.specs.List.{AllByRecursion}
use Rattle.std.proofs.Math.Seq.{take-append_seam}
use Rattle.std.proofs.lemmas.Bool.{eq-eqb}
use Rattle.std.proofs.lemmas.Bool.Decides.{nat_tests}
use Rattle.ppp_base.specs.declared.send_settings.SendSettings.{SendSettings}
use Rattle.ppp_hdlc.specs.declared.heard.Heard.TheVariants.{Frame}
use Rattle.ppp_hdlc.specs.Residue.{Residue, good_residue}
use Rattle.ppp_hdlc.specs.Frames.{Received, Frames, answer, unescaped, framed}
use Rattle.ppp_hdlc.specs.Encoding.{enclosed, escaped, settings_for, with_fcs, body, flagged}
use Rattle.ppp_hdlc.specs.Arrives.{Arrives, IsWithin, IsFramable}
use Rattle.ppp_hdlc.proofs.Steps.{opened, opened-flag, frames-flag}
use Rattle.ppp_hdlc.proofs.Quiet.{IsSafe, safe-escaped, unescaped-escaped, escaping-escaped, quiet}
use Rattle.ppp_hdlc.proofs.Judging.{answer_judged, judged_whole}
use Rattle.ppp_hdlc.proofs.GoodResidue.{good}
use Rattle.ppp_hdlc.proofs.Headers.{content-back}

-- what was received, up to its last octet
record Parted (rs : List Received) (xs : List ℕ) (y : ℕ) : Type 0 where
  mid : List Received
  last : Received
  whole : rs ≡ mid ++ last ∷ []
  front : map (λ (r : Received). r.0) mid ≡ xs
  back : last.0 ≡ y

parted : (rs : List Received) (xs : List ℕ) (y : ℕ) → map (λ (r : Received). r.0) rs ≡ xs ++ y ∷ [] → Parted rs xs y
parted [] [] y same = absurd (cc)
parted [] (x ∷ xs) y same = absurd (cc)
parted (r ∷ []) [] y same = record { mid = []; last = r; whole = refl; front = refl; back = cc }
parted (r ∷ s ∷ rs) [] y same = absurd (cc)
parted (r ∷ rs) (x ∷ xs) y same =
    let first : r.0 ≡ x = cc in
    let others : map (λ (r : Received). r.0) rs ≡ xs ++ y ∷ [] = cc in
    let rest : Parted rs xs y = parted rs xs y others in
    record {
      mid = r ∷ rest.mid;
      last = rest.last;
      whole = ap (λ l. r ∷ l) rest.whole;
      front = rw (first, rest.front) refl;
      back = rest.back;
    }

within_front : (sending : ℕ) (xs ys : List Received) → AllByRecursion (λ (r : Received). IsWithin r.1 sending) (xs ++ ys) → AllByRecursion (λ (r : Received). IsWithin r.1 sending) xs
within_front sending [] ys within = tt
within_front sending (x ∷ xs) ys within = (within.0, within_front sending xs ys within.1)

enclosed-flat : (settings : SendSettings) (protocol : ℕ) (information : List ℕ) → enclosed settings protocol information ≡ 0x7e ∷ (escaped settings.map (with_fcs (body settings protocol information)) ++ 0x7e ∷ [])
unfolding enclosed flagged
enclosed-flat settings protocol information = refl

-- the answer for a frame that was written
answered : (settings : SendSettings) (protocol : ℕ) (information : List ℕ) → IsFramable protocol → 4 ≤ length (with_fcs (body settings protocol information)) → length (with_fcs (body settings protocol information)) ≤ 1508
    → answer (escaped settings.map (with_fcs (body settings protocol information))) ≡ Frame protocol information
answered settings protocol information framable long short =
    let octets = with_fcs (body settings protocol information) in
    let back : unescaped (escaped settings.map (with_fcs (body settings protocol information))) ≡ with_fcs (body settings protocol information) = unescaped-escaped settings.map (with_fcs (body settings protocol information)) in
    let fits : nat_lt 1508 (length (with_fcs (body settings protocol information))) ≡ false = grind (arith, nat_tests) in
    let enough : nat_lt (length (with_fcs (body settings protocol information))) 4 ≡ false = grind (arith, nat_tests) in
    let right : (Residue (with_fcs (body settings protocol information)) == good_residue) ≡ true = eq-eqb _ _ (good (body settings protocol information)) in
    answer_judged (escaped settings.map (with_fcs (body settings protocol information))) (escaping-escaped settings.map (with_fcs (body settings protocol information))) (rw back fits) (rw back (omega arith))
    ∙ ap judged_whole back ∙ rw (enough, right) (ap framed (content-back settings protocol information framable))

-- the list without its last one
before_last : (xs : List Received) (y : Received) → take (length (xs ++ y ∷ []) - 1) (xs ++ y ∷ []) ≡ xs
before_last xs y =
    let count : length (xs ++ y ∷ []) - 1 ≡ length xs = omega (arith, length-append xs (y ∷ [])) in
    rw count (take-append_seam xs (y ∷ []))

-- what a frame gives behind its first flag, before its last octet and at it
record Comes (stream sent : List Received) (protocol : ℕ) (information : List ℕ) : Type 0 where
  whole : Frames (stream ++ sent) ≡ Frames (stream ++ take 1 sent) ++ Frame protocol information ∷ []
  before : Frames (stream ++ take (length sent - 1) sent) ≡ Frames (stream ++ take 1 sent)

-- a frame that comes under the settings that count for it
comes : (stream sent : List Received) (settings : SendSettings) (protocol : ℕ) (information : List ℕ) → IsFramable protocol → 4 ≤ length (with_fcs (body settings protocol information)) → length (with_fcs (body settings protocol information)) ≤ 1508
    → map (λ (r : Received). r.0) sent ≡ enclosed settings protocol information → AllByRecursion (λ (r : Received). IsWithin r.1 settings.map) sent
    → Comes stream sent protocol information
comes stream [] settings protocol information framable long short octets_are maps_are = absurd (cc (enclosed-flat settings protocol information, octets_are))
comes stream (r ∷ rest) settings protocol information framable long short octets_are maps_are =
    let all : r.0 ∷ map (λ (r : Received). r.0) rest ≡ 0x7e ∷ (escaped settings.map (with_fcs (body settings protocol information)) ++ 0x7e ∷ []) = octets_are ∙ enclosed-flat settings protocol information in
    let flag : r.0 ≡ 0x7e = cc in
    let others : map (λ (r : Received). r.0) rest ≡ escaped settings.map (with_fcs (body settings protocol information)) ++ 0x7e ∷ [] = cc in
    let p : Parted rest (escaped settings.map (with_fcs (body settings protocol information))) 0x7e = parted rest (escaped settings.map (with_fcs (body settings protocol information))) 0x7e others in
    let within : AllByRecursion (λ (r : Received). IsWithin r.1 settings.map) p.mid = within_front settings.map p.mid (p.last ∷ []) (rw p.whole at maps_are.1) in
    let safe : AllByRecursion (IsSafe settings.map) (map (λ (r : Received). r.0) p.mid) = rw p.front (safe-escaped settings.map (with_fcs (body settings protocol information))) in
    let q = quiet settings.map p.mid (stream ++ r ∷ []) within safe in
    let moved : stream ++ r ∷ rest ≡ ((stream ++ r ∷ []) ++ p.mid) ++ p.last ∷ [] =
    ap (λ l. stream ++ r ∷ l) p.whole ∙ sym (append_assoc stream (r ∷ []) (p.mid ++ p.last ∷ [])) ∙ sym (append_assoc (stream ++ r ∷ []) p.mid (p.last ∷ [])) in
    let part : opened ((stream ++ r ∷ []) ++ p.mid) ≡ escaped settings.map (with_fcs (body settings protocol information)) = q.1 ∙ rw (opened-flag stream r.0 r.1 flag) p.front in
    let front : take (length (r ∷ rest) - 1) (r ∷ rest) ≡ r ∷ p.mid = ap (λ l. take (length l - 1) l) (ap (λ l. r ∷ l) p.whole) ∙ before_last (r ∷ p.mid) p.last in
    record {
      whole = ap Frames moved
          ∙ frames-flag ((stream ++ r ∷ []) ++ p.mid) p.last.0 p.last.1 p.back
          ∙ ap (λ l. l ++ answer (opened ((stream ++ r ∷ []) ++ p.mid)) ∷ []) q.0
          ∙ ap (λ a. Frames (stream ++ r ∷ []) ++ a ∷ []) (ap answer part ∙ answered settings protocol information framable long short);
      before = ap (λ l. Frames (stream ++ l)) front ∙ ap Frames (sym (append_assoc stream (r ∷ []) p.mid)) ∙ q.0;
    }

arrived : (stream sent : List Received) (settings : SendSettings) (protocol : ℕ) (information : List ℕ) → Arrives settings protocol information sent → Comes stream sent protocol information
arrived stream sent settings protocol information arrives =
    comes stream sent (settings_for settings protocol information) protocol information arrives.is_framable arrives.is_long arrives.is_short arrives.octets_are arrives.maps_are

pub back : (stream sent : List Received) (settings : SendSettings) (protocol : ℕ) (information : List ℕ) → Arrives settings protocol information sent
    → Frames (stream ++ sent) ≡ Frames (stream ++ take 1 sent) ++ Frame protocol information ∷ []
back stream sent settings protocol information arrives = (arrived stream sent settings protocol information arrives).whole

pub quiet_before_last : (stream sent : List Received) (settings : SendSettings) (protocol : ℕ) (information : List ℕ) → Arrives settings protocol information sent
    → Frames (stream ++ take (length sent - 1) sent) ≡ Frames (stream ++ take 1 sent)
quiet_before_last stream sent settings protocol information arrives = (arrived stream sent settings protocol information arrives).before
