-- Which octets are options.
use Rattle.std.proofs.Common.{◌≡◌, ℕ, Bool, true, false, cond, nat_eq, Some, None, List, refl, ap, ◌∙◌}
use Rattle.std.specs.Cmp.Lexicographic.{pointwise, same_text, other_text}
use Rattle.ppp_packet.specs.OptionsOf.{Item, laid, OptionsOf, FaultOf}
use Rattle.ppp_packet.specs.OptionList.{items_of, read_options}
use Rattle.ppp_packet.specs.declared.fault.OptionFault.{OptionFault}
use Rattle.ppp_packet.proofs.Laying.{items_of-laid, laid-is, no_fault_behind}

same : (xs ys : List ℕ) → xs ≡ ys → pointwise nat_eq xs ys ≡ true
same xs ys h = by_case (pointwise nat_eq xs ys) refl
  where
    by_case : (b : Bool) → b ≡ pointwise nat_eq xs ys → b ≡ true
    by_case true e = refl
    by_case false e = absurd (other_text xs ys e h)

other : (xs ys : List ℕ) → (xs ≡ ys → ⊥) → pointwise nat_eq xs ys ≡ false
other xs ys h = by_case (pointwise nat_eq xs ys) refl
  where
    by_case : (b : Bool) → b ≡ pointwise nat_eq xs ys → b ≡ false
    by_case true e = absurd (h (same_text xs ys e))
    by_case false e = refl

-- What the options are is read.
pub read-items : (octets : List ℕ) (items : List Item) → OptionsOf octets items → read_options octets ≡ Some items
unfolding read_options
read-items octets items h =
    ap (λ b. cond b (Some (items_of octets)) None) (same (laid (items_of octets)) octets (laid-is octets items h.are).are)
    ∙ ap Some (ap items_of h.are ∙ items_of-laid items)

-- Where a fault is, nothing is read.
pub read-fault : (octets : List ℕ) (fault : OptionFault) → FaultOf octets fault → read_options octets ≡ None
unfolding read_options
read-fault octets fault h =
    ap (λ b. cond b (Some (items_of octets)) None) (other (laid (items_of octets)) octets (λ e. no_fault_behind (items_of octets) h.items h.rest fault (e ∙ h.are) h.begins))
