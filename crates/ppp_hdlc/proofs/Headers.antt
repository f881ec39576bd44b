-- The header of a frame that was written is found again.
use Rattle.std.proofs.Common.{◌≡◌, ◌≢◌, ℕ, ◌+◌, ◌-◌, ◌*◌, ◌/◌, ◌%◌, ◌==◌, false, not, nat_lt, nat_eq, List, ◌∷◌, ◌++◌, length, refl, ap, ◌∙◌, arith, inl, inr, Some, length-append}
use Rattle.std.specs.Prelude.{◌&&◌}
use Rattle.std.proofs.Math.Seq.{take-append_seam}
use Rattle.std.proofs.lemmas.Bool.Decides.{nat_tests}
use Rattle.ppp_base.specs.declared.protocol.TheConstants.{LCP}
use Rattle.ppp_base.specs.declared.send_settings.SendSettings.{SendSettings}
use Rattle.ppp_hdlc.specs.Frames.{content, protocol_of, without_address, without_fcs}
use Rattle.ppp_hdlc.specs.Encoding.{address, protocol_field, body, with_fcs, fcs_octets}
use Rattle.ppp_hdlc.specs.Arrives.{IsFramable}
use Rattle.ppp_hdlc.proofs.Judging.{bool_cases}

without-with : (octets : List ℕ) → without_fcs (with_fcs octets) ≡ octets
unfolding with_fcs fcs_octets
without-with octets =
    let same : length (octets ++ fcs_octets octets) - 2 ≡ length octets = omega (arith, length-append octets (fcs_octets octets)) in
    rw same (take-append_seam octets (fcs_octets octets))

-- an even octet before an odd one
two : (first second : ℕ) (information : List ℕ) → first % 2 ≡ 0 → second % 2 ≡ 1 → protocol_of (first ∷ second ∷ information) ≡ Some (first * 256 + second, information)
two first second information even odd =
    let other : nat_eq first 0xff ≡ false = grind (arith, nat_tests) in
    rw (other, even, odd) refl

one : (first : ℕ) (information : List ℕ) → first % 2 ≡ 1 → first ≢ 0xff → protocol_of (first ∷ information) ≡ Some (first, information)
one first information odd not_all =
    let other : nat_eq first 0xff ≡ false = grind (arith, nat_tests) in
    rw (other, odd) refl

-- what doesn't begin with ff is no address
no_address : (first : ℕ) (others : List ℕ) → first ≢ 0xff → without_address (first ∷ others) ≡ first ∷ others
no_address first others other =
    let no : nat_eq 0xff first ≡ false = grind (arith, nat_tests) in
    rw no refl

field_found : (settings : SendSettings) (protocol : ℕ) (information : List ℕ) → IsFramable protocol → protocol_of (protocol_field settings protocol ++ information) ≡ Some (protocol, information)
field_found settings protocol information framable =
    elim (bool_cases (settings.pfc && nat_lt protocol 0x100)) [
      | inl short ↦
          rw short (one protocol information (omega (arith, framable.second_is_odd)) framable.is_other)
      | inr long ↦
          let whole : protocol / 256 * 256 + protocol % 256 ≡ protocol = omega arith in
          rw long (two (protocol / 256) (protocol % 256) information framable.first_is_even framable.second_is_odd ∙ ap (λ p. Some (p, information)) whole)
    ]

field_alone : (settings : SendSettings) (protocol : ℕ) (information : List ℕ) → IsFramable protocol → without_address (protocol_field settings protocol ++ information) ≡ protocol_field settings protocol ++ information
field_alone settings protocol information framable =
    elim (bool_cases (settings.pfc && nat_lt protocol 0x100)) [
      | inl short ↦ rw short (no_address protocol information framable.is_other)
      | inr long ↦ rw long (no_address (protocol / 256) (protocol % 256 ∷ information) (λ all. absurd (omega (arith, all, framable.first_is_even))))
    ]

pub content-back : (settings : SendSettings) (protocol : ℕ) (information : List ℕ) → IsFramable protocol → content (with_fcs (body settings protocol information)) ≡ Some (protocol, information)
unfolding body
content-back settings protocol information framable =
    rw (without-with ((address settings protocol ++ protocol_field settings protocol) ++ information))
    (elim (bool_cases (settings.acfc && not (protocol == LCP))) [
      | inl none ↦ rw none (rw (field_alone settings protocol information framable) (field_found settings protocol information framable))
      | inr some ↦ rw some (field_found settings protocol information framable)
    ])
