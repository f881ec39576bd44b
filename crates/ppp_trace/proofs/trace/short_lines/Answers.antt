use Rattle.std.proofs.Common.{◌≡◌, ◌∙◌, ◌+◌, ◌<◌, ◌^◌, ℕ, ap, min, subst, sym, arith}
use Rattle.ppp_trace.specs.Parts.{TellsLong}
use Rattle.ppp_trace.specs.declared.fault.FaultKind.TheVariants as kind
use Rattle.ppp_trace.specs.declared.fault.TraceFault.{TraceFault}
use Rattle.ppp_trace.specs.declared.fault.TraceFault.TheVariants as fault
use Rattle.ppp_trace.proofs.trace.short_lines.Goals as goal

tells : (n place first at : ℕ) (told : TraceFault) → first ≡ min (n + 1) 18446744073709551615 → at ≡ min (first + place) 18446744073709551615
    → (at < 2 ^ 32 → told ≡ fault.Bad (record { line = at; kind = kind.Long })) → n + 1 + place < 2 ^ 32 → told ≡ fault.Bad (record { line = n + 1 + place; kind = kind.Long })
tells n place first at told first_is at_is is small =
    let here : at ≡ n + 1 + place = omega (arith, first_is, at_is, small) in
    is (omega (arith, here, small)) ∙ ap (λ l. fault.Bad (record { line = l; kind = kind.Long })) here

pub returns-in-Some : goal.returns-in-Some
returns-in-Some c =
    subst (λ long. TellsLong c.args.line long c.bad_at.result) (sym c.in-Some.is)
    (tells c.args.line c.in-Some.place c.saturating_add.result c.saturating_add-in-Some.result c.bad_at.result c.saturating_add.ensures c.saturating_add-in-Some.ensures c.bad_at.ensures)
