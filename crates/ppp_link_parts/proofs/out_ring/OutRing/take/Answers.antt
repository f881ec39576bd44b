use Rattle.std.proofs.Common.{refl, ap, ◌∙◌, ℕ, List, ◌++◌, take}
use Rattle.ppp_link_parts.proofs.OutLemmas.{behind_taken, front_taken}
use Rattle.ppp_link_parts.proofs.out_ring.OutRing.take.Goals as goal

pub returns-clause-octets : goal.returns-clause-octets
returns-clause-octets c = rw (← c.self.view_is) (
    c.append.ensures ∙ (ap (λ (l : List ℕ). l ++ take c.read_into-count.result c.read_into-count.new.dst) c.new-octets.ensures
    ∙ front_taken c.self.inside.octets.items _ c.read_into-count.new.dst c.read_into-count.result c.read_into-count.ensures.count c.read_into-count.ensures.read)
    )

pub returns-clause-new : goal.returns-clause-new
returns-clause-new c = rw (← c.self.view_is, c.read_into-count.ensures.items, behind_taken c.self.inside.octets.items c.read_into-count.result c.read_into-count.ensures.count) refl
