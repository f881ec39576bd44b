-- The table of phase and protocol, kind by kind.
use Rattle.std.proofs.Common.{◌≡◌, Bool, true, false, refl, ap, sym, ◌∙◌}
use Rattle.std.specs.Prelude.{◌&&◌}
use Rattle.ppp_link_rules.specs.Phase.{Kind as KindOf, OfLcp, OfAuth, OfOtherAuth, OfTable, Unknown, Treatment, ToLcp, ToAuth, ToTable, ToReject, Discarded, phase_by, treatment}
use Rattle.ppp_link_hearing.specs.declared.way.Kind.{Kind}
use Rattle.ppp_link_hearing.specs.declared.way.Kind.TheVariants as kind
use Rattle.ppp_link_hearing.specs.Heard.{kind_by}

at_kind : {k x : Kind} {t : Treatment} (o p : Bool) → k ≡ x → t ≡ treatment (phase_by o p) (kind_by x) → t ≡ treatment (phase_by o p) (kind_by k)
at_kind o p e h = h ∙ ap (λ y. treatment (phase_by o p) (kind_by y)) (sym e)

lcp_is : (o p : Bool) → ToLcp ≡ treatment (phase_by o p) OfLcp
lcp_is false p = refl
lcp_is true false = refl
lcp_is true true = refl

pub lcp_always : {k : Kind} (o p : Bool) → k ≡ kind.Lcp → ToLcp ≡ treatment (phase_by o p) (kind_by k)
lcp_always o p e = at_kind o p e (lcp_is o p)

auth_is : (o p : Bool) → o ≡ true → ToAuth ≡ treatment (phase_by o p) OfAuth
auth_is false p h = absurd (let z : false ≡ true = h in cc)
auth_is true false h = refl
auth_is true true h = refl

pub auth_open : {k : Kind} {o : Bool} (p : Bool) → k ≡ kind.Auth → o ≡ true → ToAuth ≡ treatment (phase_by o p) (kind_by k)
auth_open {o = o} p e h = at_kind o p e (auth_is o p h)

no_auth : (o p : Bool) → o ≡ false → Discarded ≡ treatment (phase_by o p) OfAuth
no_auth false p h = refl
no_auth true p h = absurd (let z : true ≡ false = h in cc)

pub auth_shut : {k : Kind} {o : Bool} (p : Bool) → k ≡ kind.Auth → o ≡ false → Discarded ≡ treatment (phase_by o p) (kind_by k)
auth_shut {o = o} p e h = at_kind o p e (no_auth o p h)

other_is : (o p : Bool) → Discarded ≡ treatment (phase_by o p) OfOtherAuth
other_is false p = refl
other_is true false = refl
other_is true true = refl

pub other_never : {k : Kind} (o p : Bool) → k ≡ kind.OtherAuth → Discarded ≡ treatment (phase_by o p) (kind_by k)
other_never o p e = at_kind o p e (other_is o p)

-- in the network phase, and before it
networked : (o p : Bool) → (o && p) ≡ true → (phase_by o p) ≡ phase_by true true
networked false p h = absurd (let z : false ≡ true = h in cc)
networked true false h = absurd (let z : false ≡ true = h in cc)
networked true true h = refl

no_table : (o p : Bool) → (o && p) ≡ false → Discarded ≡ treatment (phase_by o p) OfTable
no_table false p h = refl
no_table true false h = refl
no_table true true h = absurd (let z : true ≡ false = h in cc)

no_reject : (o p : Bool) → (o && p) ≡ false → Discarded ≡ treatment (phase_by o p) Unknown
no_reject false p h = refl
no_reject true false h = refl
no_reject true true h = absurd (let z : true ≡ false = h in cc)

pub table_then : {k : Kind} {n : Bool} (o p : Bool) → k ≡ kind.Table → n ≡ (o && p) → n ≡ true → ToTable ≡ treatment (phase_by o p) (kind_by k)
table_then o p e f h = at_kind o p e (ap (λ x. treatment x OfTable) (sym (networked o p (sym f ∙ h))))

pub table_else : {k : Kind} {n : Bool} (o p : Bool) → k ≡ kind.Table → n ≡ (o && p) → n ≡ false → Discarded ≡ treatment (phase_by o p) (kind_by k)
table_else o p e f h = at_kind o p e (no_table o p (sym f ∙ h))

pub unknown_then : {k : Kind} {n : Bool} (o p : Bool) → k ≡ kind.Unknown → n ≡ (o && p) → n ≡ true → ToReject ≡ treatment (phase_by o p) (kind_by k)
unknown_then o p e f h = at_kind o p e (ap (λ x. treatment x Unknown) (sym (networked o p (sym f ∙ h))))

pub unknown_else : {k : Kind} {n : Bool} (o p : Bool) → k ≡ kind.Unknown → n ≡ (o && p) → n ≡ false → Discarded ≡ treatment (phase_by o p) (kind_by k)
unknown_else o p e f h = at_kind o p e (no_reject o p (sym f ∙ h))
