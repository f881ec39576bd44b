-- What contracts see of a kit in memory.
use Rattle.std.specs.Prelude.{◌≡◌, ℕ, [], Some, false}
use Rattle.ppp_outside.specs.Clock.{IsNewClock}
use Rattle.ppp_outside.specs.Control.{IsNewControl}
use Rattle.ppp_outside.specs.Dialer.{IsNewDialer}
use Rattle.ppp_outside.specs.Iface.{IsNewIfaceIn, IsNewIfaceOut}
use Rattle.ppp_outside.specs.Kit.{KitState}
use Rattle.ppp_outside.specs.MemorySpawner.{Recorded}
use Rattle.ppp_outside.specs.Spawner.{IsNewSpawner}
use Rattle.ppp_outside.specs.declared.dialer.DialNext.TheVariants as dial
use Rattle.ppp_outside.specs.declared.spawner.ScriptEnd.TheVariants.{Exit}
use Rattle.ppp_memory.specs.Clock.{ClockInMemory, state_of as clock_state_of}
use Rattle.ppp_memory.specs.Control.{ControlInMemory, state_of as control_state_of}
use Rattle.ppp_memory.specs.Dialer.{DialerInMemory, state_of as dialer_state_of}
use Rattle.ppp_memory.specs.Files.{FilesInMemory}
use Rattle.ppp_memory.specs.Iface.{IfaceInInMemory, IfaceOutInMemory, out_state_of, state_of as in_state_of}

-- the objects that it gives at the next calls, the random word, and what it gave and was given
pub record KitInMemory : Type 0 where
  pub files : FilesInMemory
  pub clock : ClockInMemory
  pub seed : ℕ
  pub dialer : DialerInMemory
  pub spawner : Recorded
  pub iface_in : IfaceInInMemory
  pub iface_out : IfaceOutInMemory
  pub control : ControlInMemory
  pub told : KitState

-- None of its objects was used.
pub record AreNew (files : FilesInMemory) (clock : ClockInMemory) (dialer : DialerInMemory) (spawner : Recorded) (iface_in : IfaceInInMemory) (iface_out : IfaceOutInMemory) (control : ControlInMemory) : Type 0 where
  pub new_files : files.faults ≡ 0
  pub new_clock : IsNewClock (clock_state_of clock)
  pub new_dialer : IsNewDialer (dialer_state_of dialer)
  pub new_spawner : IsNewSpawner spawner.tries spawner.faults (Some spawner.runs)
  pub new_iface_in : IsNewIfaceIn (in_state_of iface_in)
  pub new_iface_out : IsNewIfaceOut (out_state_of iface_out)
  pub new_control : IsNewControl (control_state_of control)

-- what it gives once an object was made: no files, a clock that stands at 0, no lines, no room, no messages, no words
abbrev pub no_files : FilesInMemory
no_files = record { files = []; failing = []; calls = 0; faults = 0 }

abbrev pub no_clock : ClockInMemory
no_clock = record { first = 0; later = []; at = 0; past = false; latest = 0 }

abbrev pub no_dialer : DialerInMemory
no_dialer = record { lines = []; asked = []; failing = []; next = dial.Line; tries = 0; faults = 0 }

abbrev pub no_spawner : Recorded
no_spawner = record { runs = []; room = 0; failing = []; next = Exit 0; tries = 0; faults = 0 }

abbrev pub no_iface_in : IfaceInInMemory
no_iface_in = record { messages = []; failing = []; calls = 0; packets = 0; faults = 0 }

abbrev pub no_iface_out : IfaceOutInMemory
no_iface_out = record { written = []; room = 0; failing = []; tries = 0; faults = 0 }

abbrev pub no_control : ControlInMemory
no_control = record { words = []; failing = []; calls = 0; signals = 0; ends = 0; faults = 0 }
