-- What one call of a control in memory does to what it tells.
use Rattle.std.proofs.Common.{ℕ, List, [], ◌∷◌, Option, Some, None, Bool, true, false, if◌then◌else◌, filter_map, refl, rules}
use Rattle.std.specs.List.{cons_option}
use Rattle.ppp_base.specs.declared.signal_word.SignalWord.{SignalWord}
use Rattle.ppp_outside.specs.Calls.{is_listed}
use Rattle.ppp_outside.specs.Control.{HearsWord, failed, is_end, is_signal}
use Rattle.ppp_outside.specs.Counts.{counted}
use Rattle.ppp_outside.specs.SignalNames.{signal_of}
use Rattle.ppp_outside.specs.declared.control.Word.TheVariants as word
use Rattle.ppp_memory.specs.Control.{ControlInMemory, after_next, answer_of, heard_as, signal_or_quiet, state_of}

-- a word that names this signal, or none
hears_text : (named : Option SignalWord) (text : List ℕ) (rest : List (List ℕ)) (signals ends faults : ℕ) → HearsWord (record { left = Some (cons_option named (filter_map signal_of rest)); signals = signals; ends = ends; faults = faults }) (record { left = Some (filter_map signal_of (if failed (signal_or_quiet named) then text ∷ rest else rest)); signals = counted (is_signal (signal_or_quiet named)) signals; ends = counted (is_end (signal_or_quiet named)) ends; faults = counted (failed (signal_or_quiet named)) faults }) (signal_or_quiet named)
hears_text None text rest signals ends faults = record { left = refl; ends_empty = tt; signals = refl; ends = refl; faults = refl }
hears_text (Some signal) text rest signals ends faults = record { left = refl; ends_empty = tt; signals = refl; ends = refl; faults = refl }

hears_next : (words : List (List ℕ)) (failing : List ℕ) (calls signals ends faults : ℕ) → let s : ControlInMemory = record { words = words; failing = failing; calls = calls; signals = signals; ends = ends; faults = faults } in HearsWord (state_of s) (state_of (after_next s (heard_as words))) (heard_as words)
hears_next [] failing calls signals ends faults = record { left = refl; ends_empty = refl; signals = refl; ends = refl; faults = refl }
hears_next (text ∷ rest) failing calls signals ends faults = hears_text (signal_of text) text rest signals ends faults

hears_by : (listed : Bool) (s : ControlInMemory) → HearsWord (state_of s) (state_of (after_next s (if listed then word.Failed else heard_as s.words))) (if listed then word.Failed else heard_as s.words)
hears_by true s = record { left = refl; ends_empty = tt; signals = refl; ends = refl; faults = search rules }
hears_by false s = hears_next s.words s.failing s.calls s.signals s.ends s.faults

pub hears : (s : ControlInMemory) → HearsWord (state_of s) (state_of (after_next s (answer_of s))) (answer_of s)
hears s = hears_by (is_listed s.calls s.failing) s
