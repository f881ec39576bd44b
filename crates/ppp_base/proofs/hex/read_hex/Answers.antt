-- Octet by octet, until all are read or two are no digits.
use Rattle.std.proofs.Common.{◌≡◌, ◌/◌, ◌+◌, length, arith, subst, sym, refl}
use Rattle.ppp_base.proofs.HexLemmas.{IsReadTo, read_none, read_one, read_text, read_octets}
use Rattle.ppp_base.proofs.hex.read_hex.Goals as goal

pub reading-init : goal.reading-init
reading-init c = subst (λ octets. IsReadTo c.args.text.now octets 0) (sym c.new-octets.ensures) (read_none c.args.text.now)

pub push-requires : goal.push-requires
push-requires c = omega (arith, c.reading.invariant.size, c.reading-test.true, c.if-text.false)

pub reading-preserved : goal.reading-preserved
reading-preserved c = subst (λ octets. IsReadTo c.args.text.now octets (c.reading.i + 1)) (sym c.push.ensures) (read_one c.args.text.now c.reading.octets c.reading.i c.in-Some.octet c.reading.invariant c.in-Some.ensures.0 c.in-Some.ensures.1 c.in-Some.ensures.2)

pub returns-clause-readable : goal.returns-clause-readable
returns-clause-readable c =
    let all : c.reading.i ≡ length c.args.text.now / 2 = omega (arith, c.reading-test.false, c.reading.auto.i-end) in
    let h : IsReadTo c.args.text.now c.reading.octets (length c.args.text.now / 2) = subst (λ i. IsReadTo c.args.text.now c.reading.octets i) all c.reading.invariant in
    (λ _. (read_text c.args.text.now c.reading.octets h (c.if-not-is_multiple_of.ensures.0 refl), c.if-text.false), λ _. refl)

pub returns-clause-octets : goal.returns-clause-octets
returns-clause-octets c =
    let all : c.reading.i ≡ length c.args.text.now / 2 = omega (arith, c.reading-test.false, c.reading.auto.i-end) in
    let h : IsReadTo c.args.text.now c.reading.octets (length c.args.text.now / 2) = subst (λ i. IsReadTo c.args.text.now c.reading.octets i) all c.reading.invariant in
    read_octets c.args.text.now c.reading.octets h (c.if-not-is_multiple_of.ensures.0 refl)
