-- A machine that hears octets stays calm.
use Rattle.std.proofs.Common.{ℕ, List}
use Rattle.ppp_link_rules.specs.Hearing.{octet_taken, octets_taken}
use Rattle.ppp_link_core.specs.Standing.{Does}
use Rattle.ppp_link_core.specs.declared.link_core.LinkCore.{LinkCore}
use Rattle.ppp_link_steps.proofs.DialFacts.{calm_does}
use Rattle.ppp_link_steps.proofs.HearLemmas.{octet_calm, octets_calm}
use Rattle.ppp_link_steps.specs.Calm.{Calm}

pub octet_stays_calm : {S : Type 0} {a b : LinkCore S} (octet : ℕ) → Does (octet_taken octet) a b → Calm a → Calm b
octet_stays_calm octet d calm = calm_does (λ s c. octet_calm octet s c) d calm

pub octets_stay_calm : {S : Type 0} {a b : LinkCore S} (octets : List ℕ) → Does (octets_taken octets) a b → Calm a → Calm b
octets_stay_calm octets d calm = calm_does (λ s c. octets_calm octets s c) d calm
