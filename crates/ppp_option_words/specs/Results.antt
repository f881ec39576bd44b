-- One result behind another.
use Rattle.std.specs.Prelude.{Option, None, Some, Result, Ok, Err}
use Rattle.ppp_option_words.specs.declared.fault.OptionsFault.{OptionsFault}

abbrev pub ok_then : {X Y : Type 0} → Result X OptionsFault → (X → Result Y OptionsFault) → Result Y OptionsFault
ok_then (Ok x) rest = rest x
ok_then (Err fault) rest = Err fault

abbrev pub ok_map : {X Y : Type 0} → (X → Y) → Result X OptionsFault → Result Y OptionsFault
ok_map f (Ok x) = Ok (f x)
ok_map f (Err fault) = Err fault

abbrev pub unless_fault : {X : Type 0} → Option OptionsFault → X → Result X OptionsFault
unless_fault None x = Ok x
unless_fault (Some fault) x = Err fault
