-- Which parts are answered by a frame.
use Rattle.std.proofs.Common.{◌≡◌, ℕ, ◌==◌, true, false, nat_lt, List, length, refl, sym, ap, ◌∙◌, arith, inl, inr, Option, Some, None}
use Rattle.std.proofs.lemmas.Bool.{eq-eqb, eqb-true, cases_lt}
use Rattle.std.proofs.lemmas.Bool.Decides.{nat_tests}
use Rattle.ppp_hdlc.specs.declared.fault.FrameFault.TheVariants.{Short, BadFcs}
use Rattle.ppp_hdlc.specs.declared.heard.Heard.TheVariants.{Frame, Dropped}
use Rattle.ppp_hdlc.specs.Residue.{Residue, good_residue}
use Rattle.ppp_hdlc.specs.Frames.{answer, unescaped, ends_escaping, content, framed}
use Rattle.ppp_hdlc.specs.IsRight.{IsRight}
use Rattle.ppp_hdlc.proofs.Judging.{bool_cases, judged_whole, answer_aborted, answer_long, answer_empty, answer_judged}

pub passes : (part : List ℕ) (protocol : ℕ) (information : List ℕ) → IsRight part protocol information → answer part ≡ Frame protocol information
passes part protocol information right =
    let fits : nat_lt 1508 (length (unescaped part)) ≡ false = grind (arith, nat_tests, right.is_short) in
    let enough : nat_lt (length (unescaped part)) 4 ≡ false = grind (arith, nat_tests, right.is_long) in
    let good : (Residue (unescaped part) == good_residue) ≡ true = eq-eqb _ _ right.fcs_is_right in
    answer_judged part right.is_whole fits (omega (arith, right.is_long)) ∙ rw (enough, good) (ap framed right.content_is)

judged_whole-short : (octets : List ℕ) → nat_lt (length octets) 4 ≡ true → judged_whole octets ≡ Dropped Short
judged_whole-short octets short = rw short refl

judged_whole-bad : (octets : List ℕ) → nat_lt (length octets) 4 ≡ false → (Residue octets == good_residue) ≡ false → judged_whole octets ≡ Dropped BadFcs
judged_whole-bad octets enough bad = rw (enough, bad) refl

judged_whole-good : (octets : List ℕ) → nat_lt (length octets) 4 ≡ false → (Residue octets == good_residue) ≡ true → judged_whole octets ≡ framed (content octets)
judged_whole-good octets enough good = rw (enough, good) refl

framed_found : (found : Option (ℕ × List ℕ)) (protocol : ℕ) (information : List ℕ) → framed found ≡ Frame protocol information → found ≡ Some (protocol, information)
framed_found None protocol information same = absurd (cc)
framed_found (Some (p, i)) protocol information same =
    let first : p ≡ protocol = cc in
    let second : i ≡ information = cc in
    rw (first, second) refl

right_octets : (part : List ℕ) (protocol : ℕ) (information : List ℕ) → ends_escaping part ≡ false → nat_lt 1508 (length (unescaped part)) ≡ false → judged_whole (unescaped part) ≡ Frame protocol information → IsRight part protocol information
right_octets part protocol information whole fits same =
    elim (bool_cases (nat_lt (length (unescaped part)) 4)) [
      | inl short ↦ absurd (cc (judged_whole-short (unescaped part) short, same))
      | inr enough ↦
          elim (bool_cases (Residue (unescaped part) == good_residue)) [
            | inl good ↦ record {
              is_whole = whole;
              is_long = grind (arith, nat_tests, enough);
              is_short = grind (arith, nat_tests, fits);
              fcs_is_right = eqb-true _ _ good;
              content_is = framed_found (content (unescaped part)) protocol information (sym (judged_whole-good (unescaped part) enough good) ∙ same);
            }
            | inr bad ↦ absurd (cc (judged_whole-bad (unescaped part) enough bad, same))
          ]
    ]

pub passed : (part : List ℕ) (protocol : ℕ) (information : List ℕ) → answer part ≡ Frame protocol information → IsRight part protocol information
passed part protocol information same =
    elim (bool_cases (ends_escaping part)) [
      | inl aborted ↦ absurd (cc (answer_aborted part aborted, same))
      | inr whole ↦
          elim (bool_cases (nat_lt 1508 (length (unescaped part)))) [
            | inl long ↦ absurd (cc (answer_long part whole long, same))
            | inr fits ↦
                elim (cases_lt 0 (length (unescaped part))) [
                  | inl some ↦ right_octets part protocol information whole fits (sym (answer_judged part whole fits some) ∙ same)
                  | inr empty ↦ absurd (cc (answer_empty part whole (omega arith), same))
                ]
          ]
    ]
