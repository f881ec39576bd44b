-- Why a session ends, and the exit status of a link that finishes with it (pppd(8), "EXIT STATUS").
use Rattle.std.specs.Prelude.{ℕ, ◌==◌, Bool, if◌then◌else◌, Option, None, Some, List, [], ◌∷◌}
use Rattle.ppp_base.specs.declared.posts.CloseCause.{CloseCause}
use Rattle.ppp_base.specs.declared.posts.Refusal.{Refusal}
use Rattle.ppp_base.specs.Posts.{cause_number, refusal_number}
use Rattle.ppp_outside.specs.declared.line_words.LineWords.{LineWords}
use Rattle.ppp_outside.specs.declared.line_words.LineWords.TheVariants.{Socket, Pty}
use Rattle.ppp_mark.specs.declared.mark.Mark.{Mark}
use Rattle.ppp_mark.specs.Marks.{close_detail}
use Rattle.ppp_link_rules.specs.declared.cause.Cause.{Cause}
use Rattle.ppp_link_rules.specs.Marks.{doing_in, status_by}

abbrev pub cause : ℕ → ℕ → Cause
cause number detail = record { number = number; detail = detail }

-- The dial failed. The chat timed out, or was aborted by its string of this number.
abbrev pub dial_failed : Cause
dial_failed = cause 1 0

abbrev pub chat_timed_out : Cause
chat_timed_out = cause 2 0

abbrev pub chat_aborted : ℕ → Cause
chat_aborted number = cause 3 number

-- LCP gave up, or was refused what it can't do without; ten requests in a row had our own magic number.
abbrev pub gave_up : Cause
gave_up = cause 4 1

abbrev pub refused : Cause
refused = cause 4 2

abbrev pub looped : Cause
looped = cause 5 10

-- The peer didn't prove itself, or refused to; or we didn't.
abbrev pub peer_failed : Cause
peer_failed = cause 6 0

abbrev pub we_failed : Cause
we_failed = cause 7 0

-- The table refused the link. So many echoes went unanswered.
abbrev pub join_refused : Refusal → Cause
join_refused reason = cause 8 (refusal_number reason)

abbrev pub no_echo : ℕ → Cause
no_echo count = cause 9 count

-- The line is at its end, a read failed, or a write.
abbrev pub line_ended : Cause
line_ended = cause 10 0

abbrev pub read_failed : Cause
read_failed = cause 10 1

abbrev pub write_failed : Cause
write_failed = cause 10 2

-- A signal came: HUP 1, INT 2 or TERM 3.
abbrev pub signalled : ℕ → Cause
signalled number = cause 11 number

-- The bundle was closed: 12 to 16.
abbrev pub closed_by : CloseCause → Cause
closed_by why = cause (cause_number why) (close_detail why)

-- The peer ended LCP. The session has too many marks.
abbrev pub peer_ended : Cause
peer_ended = cause 15 0

abbrev pub too_many_marks : Cause
too_many_marks = cause 16 0

-- a cause with its status
pub record Row : Type 0 where
  pub cause : ℕ
  pub status : ℕ

abbrev pub row : ℕ → ℕ → Row
row cause status = record { cause = cause; status = status }

-- a line that can't be dialled
abbrev pub dial_status : LineWords → ℕ
dial_status (Socket text) = 7
dial_status (Pty command) = 9

-- The table. It has a status for a dial that failed by what was dialled, for a Join that was refused by why (3: no room), and for an end by the peer by
-- whether the session was live.
abbrev pub table : LineWords → Bool → ℕ → List Row
table line live detail =
    row 1 (dial_status line)
    ∷ row 2 8
    ∷ row 3 8
    ∷ row 4 10
    ∷ row 5 17
    ∷ row 6 11
    ∷ row 7 19
    ∷ row 8 (if detail == 3 then 34 else 10)
    ∷ row 9 15
    ∷ row 10 16
    ∷ row 11 5
    ∷ row 12 12
    ∷ row 13 13
    ∷ row 14 10
    ∷ row 15 (if live then 0 else 10)
    ∷ row 16 36
    ∷ []

abbrev pub status_in : List Row → ℕ → ℕ
status_in [] number = 0
status_in (r ∷ rows) number = if r.cause == number then r.status else status_in rows number

abbrev pub CauseStatus : LineWords → Bool → Option Cause → ℕ
CauseStatus line live None = 0
CauseStatus line live (Some c) = status_in (table line live c.detail) c.number

-- The status of a link that has finished: x of its finished mark.
abbrev pub StatusOf : List Mark → Option ℕ
StatusOf past = status_by (doing_in past)
