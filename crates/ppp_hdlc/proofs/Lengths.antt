-- That frames arrive, and how long they are.
use Rattle.std.proofs.Common.{◌≡◌, ℕ, ◌+◌, ◌≤◌, ◌==◌, not, nat_lt, List, [], ◌∷◌, ◌++◌, length, map, refl, ap, ◌∙◌, arith, inl, inr, length-append, lit≤}
use Rattle.std.specs.Prelude.{◌&&◌}
use Rattle.std.specs.List.{AllByRecursion}
use Rattle.ppp_base.specs.declared.protocol.TheConstants.{LCP}
use Rattle.ppp_base.specs.declared.send_settings.SendSettings.{SendSettings}
use Rattle.ppp_hdlc.specs.Frames.{Received, stamped}
use Rattle.ppp_hdlc.specs.Encoding.{encoding, settings_for, with_fcs, body, fcs_octets, address, protocol_field}
use Rattle.ppp_hdlc.specs.Arrives.{Arrives, IsFramable, IsWithin, framed_length}
use Rattle.ppp_hdlc.proofs.Judging.{bool_cases}

octets-stamped : (receiving : ℕ) (octets : List ℕ) → map (λ (r : Received). r.0) (stamped receiving octets) ≡ octets
octets-stamped receiving [] = refl
octets-stamped receiving (x ∷ octets) = ap (λ l. x ∷ l) (octets-stamped receiving octets)

maps-stamped : (receiving sending : ℕ) (octets : List ℕ) → IsWithin receiving sending → AllByRecursion (λ (r : Received). IsWithin r.1 sending) (stamped receiving octets)
maps-stamped receiving sending [] within = tt
maps-stamped receiving sending (x ∷ octets) within = (within, maps-stamped receiving sending octets within)

pub arrives : (settings : SendSettings) (protocol : ℕ) (information : List ℕ) (receiving : ℕ)
    → IsFramable protocol → 4 ≤ framed_length settings protocol information → framed_length settings protocol information ≤ 1508
    → IsWithin receiving (settings_for settings protocol information).map
    → Arrives settings protocol information (stamped receiving (encoding settings protocol information))
arrives settings protocol information receiving framable long short within = record {
  is_framable = framable;
  is_long = long;
  is_short = short;
  octets_are = octets-stamped receiving (encoding settings protocol information);
  maps_are = maps-stamped receiving (settings_for settings protocol information).map (encoding settings protocol information) within;
}

-- how many octets stand before the information
record Front (settings : SendSettings) (protocol : ℕ) : Type 0 where
  some : 1 ≤ length (address settings protocol ++ protocol_field settings protocol)
  few : length (address settings protocol ++ protocol_field settings protocol) ≤ 4

front : (settings : SendSettings) (protocol : ℕ) → Front settings protocol
front settings protocol =
    elim (bool_cases (settings.acfc && not (protocol == LCP))) [
      | inl none ↦
          elim (bool_cases (settings.pfc && nat_lt protocol 0x100)) [
            | inl short ↦ record { some = rw (none, short) (lit≤ tt); few = rw (none, short) (lit≤ tt) }
            | inr long ↦ record { some = rw (none, long) (lit≤ tt); few = rw (none, long) (lit≤ tt) }
          ]
      | inr both ↦
          elim (bool_cases (settings.pfc && nat_lt protocol 0x100)) [
            | inl short ↦ record { some = rw (both, short) (lit≤ tt); few = rw (both, short) (lit≤ tt) }
            | inr long ↦ record { some = rw (both, long) (lit≤ tt); few = rw (both, long) (lit≤ tt) }
          ]
    ]

length-framed : (settings : SendSettings) (protocol : ℕ) (information : List ℕ) → length (with_fcs (body settings protocol information)) ≡ length (address settings protocol ++ protocol_field settings protocol) + length information + 2
unfolding with_fcs body fcs_octets
length-framed settings protocol information =
    length-append ((address settings protocol ++ protocol_field settings protocol) ++ information) (fcs_octets ((address settings protocol ++ protocol_field settings protocol) ++ information))
    ∙ ap (λ n. n + 2) (length-append (address settings protocol ++ protocol_field settings protocol) information)

pub at_least : (settings : SendSettings) (protocol : ℕ) (information : List ℕ) → length information + 3 ≤ framed_length settings protocol information
at_least settings protocol information =
    let now = settings_for settings protocol information in
    omega (arith, length-framed (settings_for settings protocol information) protocol information, (front (settings_for settings protocol information) protocol).some)

pub at_most : (settings : SendSettings) (protocol : ℕ) (information : List ℕ) → framed_length settings protocol information ≤ length information + 6
at_most settings protocol information =
    omega (arith, length-framed (settings_for settings protocol information) protocol information, (front (settings_for settings protocol information) protocol).few)
