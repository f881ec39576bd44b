-- What the objects in memory answer, by computing with the definitions alone.
use Rattle.std.proofs.Common.{◌≡◌, ℕ, true, false, List, [], ◌∷◌, None, Some, refl}
use Rattle.std.specs.Prelude.{codes}
use Rattle.ppp_base.specs.declared.signal_word.SignalWord.TheVariants.{Hup, Usr2}
use Rattle.ppp_memory.specs.Clock.{ClockInMemory, after_reading, reading_of, state_of as clock_state_of}
use Rattle.ppp_memory.specs.Control.{ControlInMemory, answer_of as word_of, after_next}
use Rattle.ppp_memory.specs.Dialer.{is_refused}
use Rattle.ppp_memory.specs.Iface.{IfaceInInMemory, answer_of as packet_answer, buffer_after}
use Rattle.ppp_outside.specs.Messages.{packet_of}
use Rattle.ppp_memory.specs.Line.{LineInMemory, after_read, answer_of, buffer_with}
use Rattle.ppp_memory.specs.declared.line.LineTurn.{LineTurn}
use Rattle.ppp_memory.specs.declared.line.LineTurn.TheVariants as turn
use Rattle.ppp_outside.specs.Files.{file_of}
use Rattle.ppp_outside.specs.declared.control.Word.TheVariants as word
use Rattle.ppp_outside.specs.declared.dialer.DialNext.TheVariants as next
use Rattle.ppp_outside.specs.declared.iface.IfaceGot.TheVariants as packet
use Rattle.ppp_outside.specs.declared.line_in.LineGot.TheVariants as got

-- a line after so many calls, whose second call fails and whose fourth is quiet, and which gives two octets at a time
abbrev line : LineTurn → ℕ → List ℕ → LineInMemory
line set calls left = record {
  left = left;
  piece = 2;
  failing = 2 ∷ [];
  quiet = 4 ∷ [];
  next = set;
  answers = [];
  room = 7;
  overrun = false;
  calls = calls;
  taken = 0;
  faults = 0;
  quiets = 0;
  ends = 0;
}

two_at_a_time : answer_of (line turn.Gives 0 (97 ∷ 98 ∷ 99 ∷ [])) 3 ≡ got.Got 2
two_at_a_time = refl

one_into_one : answer_of (line turn.Gives 0 (97 ∷ 98 ∷ 99 ∷ [])) 1 ≡ got.Got 1
one_into_one = refl

none_into_none : answer_of (line turn.Gives 0 (97 ∷ [])) 0 ≡ got.Quiet
none_into_none = refl

second_fails : answer_of (line turn.Gives 1 (97 ∷ [])) 3 ≡ got.Failed
second_fails = refl

fourth_is_quiet : answer_of (line turn.Gives 3 (97 ∷ [])) 3 ≡ got.Quiet
fourth_is_quiet = refl

fails_by_the_fault_that_was_set : answer_of (line turn.Fails 3 (97 ∷ [])) 3 ≡ got.Failed
fails_by_the_fault_that_was_set = refl

quiet_as_was_set : answer_of (line turn.Quiet 0 (97 ∷ [])) 3 ≡ got.Quiet
quiet_as_was_set = refl

end_where_nothing_is_left : answer_of (line turn.Gives 0 []) 3 ≡ got.End
end_where_nothing_is_left = refl

full_record_fails : answer_of (record (line turn.Gives 0 (97 ∷ [])) { room = 0 }) 3 ≡ got.Failed
full_record_fails = refl

two_are_taken : (after_read (line turn.Gives 0 (97 ∷ 98 ∷ 99 ∷ [])) (got.Got 2)).left ≡ 99 ∷ []
two_are_taken = refl

two_are_at_the_front : buffer_with (got.Got 2) (97 ∷ 98 ∷ 99 ∷ []) (0 ∷ 0 ∷ 0 ∷ []) ≡ 97 ∷ 98 ∷ 0 ∷ []
two_are_at_the_front = refl

-- a clock with the readings 5, 9 and 7 after so many calls
abbrev clock : ℕ → ℕ → ClockInMemory
clock at latest = record { first = 5; later = 9 ∷ 7 ∷ []; at = at; past = false; latest = latest }

second_reading : reading_of (clock 1 5) ≡ 9
second_reading = refl

a_smaller_reading : (after_reading (clock 2 9)).latest ≡ 9
a_smaller_reading = refl

last_reading_again : reading_of (clock 3 9) ≡ 7
last_reading_again = refl

no_longer_told : (clock_state_of (after_reading (clock 3 9))).readings ≡ None
no_longer_told = refl

-- a control that hears these words, whose second call fails
abbrev control : ℕ → List (List ℕ) → ControlInMemory
control calls words = record { words = words; failing = 2 ∷ []; calls = calls; signals = 0; ends = 0; faults = 0 }

a_signal : word_of (control 0 (codes "HUP" ∷ [])) ≡ word.Signal Hup
a_signal = refl

another_signal : word_of (control 0 (codes "USR2" ∷ codes "HUP" ∷ [])) ≡ word.Signal Usr2
another_signal = refl

no_signal : word_of (control 0 (codes "QUIT" ∷ [])) ≡ word.Quiet
no_signal = refl

no_word : word_of (control 0 []) ≡ word.End
no_word = refl

a_fault_keeps_the_word : (after_next (control 1 (codes "HUP" ∷ [])) (word_of (control 1 (codes "HUP" ∷ [])))).words ≡ codes "HUP" ∷ []
a_fault_keeps_the_word = refl

a_packet : packet_of (15 ∷ 97 ∷ []) ≡ Some (record { unit = 15; datagram = 97 ∷ [] })
a_packet = refl

no_such_unit : packet_of (16 ∷ 97 ∷ []) ≡ None
no_such_unit = refl

no_octet : packet_of (0 ∷ []) ≡ None
no_octet = refl

-- a socket with these messages, whose second call fails
abbrev socket : ℕ → List (List ℕ) → IfaceInInMemory
socket calls messages = record { messages = messages; failing = 2 ∷ []; calls = calls; packets = 0; faults = 0 }

a_fault_leaves_the_buffer : buffer_after (socket 1 ((0 ∷ 97 ∷ []) ∷ [])) (98 ∷ []) ≡ 98 ∷ []
a_fault_leaves_the_buffer = refl

a_packet_is_taken : packet_answer (socket 0 ((3 ∷ 97 ∷ []) ∷ [])) ≡ packet.Packet 3
a_packet_is_taken = refl

first_of_a_name : file_of (codes "a") (record { name = codes "b"; octets = [] } ∷ record { name = codes "a"; octets = 1 ∷ [] } ∷ record { name = codes "a"; octets = 2 ∷ [] } ∷ [])
    ≡ Some (1 ∷ [])
first_of_a_name = refl

no_line_left : is_refused (record { lines = []; asked = []; failing = []; next = next.Line; tries = 0; faults = 0 }) ≡ true
no_line_left = refl
