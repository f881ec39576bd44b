-- What a machine answers to an event.
use Rattle.std.specs.Prelude.{⊤}
use Rattle.ppp_base.specs.declared.stepped.Stepped.{Stepped}
use Rattle.ppp_base.specs.declared.stepped.Stepped.TheVariants.{Taken, Stale}

-- the event was taken
abbrev pub IsTaken : {E : Type 0} → Stepped E → Type 0
IsTaken Taken = ⊤
IsTaken (Stale event) = ⊥

-- this holds where the event was taken
abbrev pub OnTaken : {E : Type 0} → Stepped E → Type 0 → Type 0
OnTaken Taken fact = fact
OnTaken (Stale event) fact = ⊤

-- this holds of the event where it came back
abbrev pub IfStale : {E : Type 0} → Stepped E → (E → Type 0) → Type 0
IfStale Taken Fact = ⊤
IfStale (Stale event) Fact = Fact event
