-- A request's options as far as they have been judged.
use Rattle.std.specs.Prelude.{◌+◌, ◌-◌, nat_le, not, ◌&&◌, Bool, true, false, if◌then◌else◌, List, [], ◌∷◌, ◌++◌, length}
use Rattle.ppp_packet.specs.declared.body.TheConstants.{MOST_BODY}
use Rattle.ppp_packet.specs.OptionsOf.{Item, item, laid}
use Rattle.ppp_control.specs.declared.sorting.Sorting.{Sorting}
use Rattle.ppp_control.specs.Answers.{Judgement, acks, names, rejects, Answer, acknowledges, suggests, refuses, rejected_or}

abbrev pub renamed_with : Sorting → Item → Sorting
renamed_with s i = if not s.is_full && nat_le (length i.body + 2) (MOST_BODY - length (laid s.renamed)) then record s { renamed = s.renamed ++ i ∷ [] } else record s { is_full = true }

-- after one more option, of which this is thought
abbrev pub sorted_with : Sorting → Item → Judgement → Sorting
sorted_with s i acks = s
sorted_with s i (names value) = renamed_with (record s { named = s.named ++ i ∷ [] }) (item i.kind value)
sorted_with s i rejects = record s { rejected = s.rejected ++ i ∷ [] }

abbrev pub named_answer : Bool → List Item → List Item → Answer
named_answer spent [] values = acknowledges
named_answer true (i ∷ items) values = refuses (i ∷ items)
named_answer false (i ∷ items) values = suggests values

abbrev pub sorted_answer : Bool → Sorting → Answer
sorted_answer spent s = rejected_or s.rejected (named_answer spent s.named s.renamed)
