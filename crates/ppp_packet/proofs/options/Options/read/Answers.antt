-- The options are read, and where a fault is, nothing.
use Rattle.std.proofs.Common.{◌≡◌, Result, Ok, Err, List, ℕ, ap, sym, ◌∙◌, MatchResult}
use Rattle.std.specs.Result.{result_ok}
use Rattle.ppp_packet.specs.declared.fault.OptionFault.{OptionFault}
use Rattle.ppp_packet.specs.OptionsOf.{Item, OptionsOf, FaultOf}
use Rattle.ppp_packet.specs.OptionList.{read_options}
use Rattle.ppp_packet.proofs.Laying.{one_reading, one_fault, no_fault_behind}
use Rattle.ppp_packet.proofs.Reading.{read-items, read-fault}
use Rattle.ppp_packet.proofs.options.Options.read.Goals as goal

not_both : (octets : List ℕ) (items : List Item) (fault : OptionFault) → OptionsOf octets items → FaultOf octets fault → ⊥
not_both octets items fault h k = no_fault_behind items k.items k.rest fault (sym h.are ∙ k.are) k.begins

read-result : (octets : List ℕ) (r : Result (List Item) OptionFault) → MatchResult r (λ list. OptionsOf octets list) (λ fault. FaultOf octets fault) → result_ok r ≡ read_options octets
read-result octets (Ok list) h = sym (read-items octets list h)
read-result octets (Err fault) h = sym (read-fault octets fault h)

read-alone : (octets : List ℕ) (r : Result (List Item) OptionFault) → MatchResult r (λ list. OptionsOf octets list) (λ fault. FaultOf octets fault) → (items : List Item) → OptionsOf octets items → r ≡ Ok items
read-alone octets (Ok list) h items k = ap Ok (one_reading list items (sym h.are ∙ k.are))
read-alone octets (Err fault) h items k = absurd (not_both octets items fault k h)

read-first : (octets : List ℕ) (r : Result (List Item) OptionFault) → MatchResult r (λ list. OptionsOf octets list) (λ fault. FaultOf octets fault) → (fault : OptionFault) → FaultOf octets fault → r ≡ Err fault
read-first octets (Ok list) h fault k = absurd (not_both octets list fault h k)
read-first octets (Err found) h fault k = ap Err (one_fault h.items k.items h.rest k.rest found fault (sym h.are ∙ k.are) h.begins k.begins)

pub returns-clause-alone : goal.returns-clause-alone
returns-clause-alone c = read-alone c.args.bytes.now c.find.result c.find.ensures

pub returns-clause-first_fault : goal.returns-clause-first_fault
returns-clause-first_fault c = read-first c.args.bytes.now c.find.result c.find.ensures

pub returns-clause-function : goal.returns-clause-function
returns-clause-function c = read-result c.args.bytes.now c.find.result c.find.ensures
