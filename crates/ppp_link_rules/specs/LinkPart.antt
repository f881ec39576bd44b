-- One event of a link: which are stale, and what the others leave. A stale one comes back, and nothing has changed.
use Rattle.std.specs.Prelude.{ℕ, ◌≡◌, ◌&&◌, not, Bool, true, false, List, length}
use Rattle.ppp_dial.specs.declared.call.CallKind.TheVariants.{Start}
use Rattle.ppp_hooks.specs.HookFacts.{settled, with_end}
use Rattle.ppp_mark.specs.ScriptLog.{log_ended}
use Rattle.ppp_outside.specs.Counts.{raised}
use Rattle.ppp_outside.specs.declared.spawner.ScriptEnd.{ScriptEnd}
use Rattle.ppp_link_rules.specs.declared.errand.Errand.TheVariants.{Waiting}
use Rattle.ppp_link_rules.specs.declared.errand.ReadEnd.{ReadEnd}
use Rattle.ppp_link_rules.specs.declared.errand.ReadEnd.TheVariants as read
use Rattle.ppp_link_rules.specs.declared.errand.SentEnd.{SentEnd}
use Rattle.ppp_link_rules.specs.declared.errand.SentEnd.TheVariants as sent
use Rattle.ppp_link_rules.specs.CauseStatus.{line_ended, read_failed, write_failed}
use Rattle.ppp_link_rules.specs.Dialling.{dial_says}
use Rattle.ppp_link_rules.specs.Errands.{is_dial_out, is_job_out, is_next, is_reading_out, is_writing_out}
use Rattle.ppp_link_rules.specs.Hearing.{octets_taken}
use Rattle.ppp_link_rules.specs.LinkEvent.{Event, Begin, Dialled, Bytes, LineOver, Flushed, Tick, Signal, FromTable, HookOver}
use Rattle.ppp_link_rules.specs.LinkState.{LinkState, control, wants_line}
use Rattle.ppp_link_rules.specs.Marks.{is_new}
use Rattle.ppp_link_rules.specs.Posts.{names_present, post_taken, stay_of}
use Rattle.ppp_link_rules.specs.Sessions.{at_end, dial_answered, dial_come, line_lost}
use Rattle.ppp_link_rules.specs.Signals.{signal_taken}
use Rattle.ppp_link_rules.specs.Ticking.{ticked}

-- A reading that was left comes back only where the line isn't wanted.
abbrev pub may_come_back : ReadEnd → LinkState → Bool
may_come_back read.End s = true
may_come_back read.Failed s = true
may_come_back read.Left s = not (wants_line s)

-- Whether an event is taken: it is of the link's present session, errand, octet, stay or job.
abbrev pub is_present : Event → LinkState → Bool
is_present Begin s = true
is_present (Dialled link session failed came) s = is_dial_out link session failed s
is_present (Bytes link session offset octets) s = is_next link session offset s
is_present (LineOver link session how) s = is_reading_out link session s && may_come_back how s
is_present (Flushed link session how) s = is_writing_out link session s
is_present (Tick now) s = true
is_present (Signal word) s = true
is_present (FromTable post) s = names_present (stay_of post) (control s).stay
is_present (HookOver target job not_started answer) s = is_job_out target job not_started s

-- The first Begin starts the dial.
abbrev pub begun : LinkState → LinkState
begun s = dial_answered (dial_says Start s) s

-- The octets of a piece are counted, and heard by who listens.
abbrev pub bytes_taken : List ℕ → LinkState → LinkState
bytes_taken octets s = octets_taken octets (record s { taken = raised s.taken (length octets) })

-- A reading comes back at the line's end, after a fault, or because it was left.
abbrev pub reading_back : ReadEnd → LinkState → LinkState
reading_back read.End s = line_lost line_ended s
reading_back read.Failed s = line_lost read_failed s
reading_back read.Left s = s

-- A writing comes back. The octets of one that failed are lost.
abbrev pub writing_back : SentEnd → LinkState → LinkState
writing_back sent.All s = s
writing_back (sent.Failed count) s = line_lost write_failed s

-- A script has ended, and the one that is due then is started.
abbrev pub job_ended : ScriptEnd → LinkState → LinkState
job_ended answer s = record s { log = log_ended s.time answer s.log; scripts = settled (with_end s.scripts answer); job_out = false }

-- what an event does
abbrev pub happened : Event → LinkState → LinkState
happened Begin s = begun s
happened (Dialled link session failed came) s = dial_come came s
happened (Bytes link session offset octets) s = bytes_taken octets s
happened (LineOver link session how) s = reading_back how (record s { reading = Waiting })
happened (Flushed link session how) s = writing_back how (record s { writing = Waiting })
happened (Tick now) s = ticked now s
happened (Signal word) s = signal_taken word s
happened (FromTable post) s = post_taken post s
happened (HookOver target job not_started answer) s = job_ended answer s

-- A second Begin does nothing at all.
abbrev pub is_nothing : Event → LinkState → Bool
is_nothing Begin s = not (is_new (control s).doing)
is_nothing _ s = false

abbrev pub after_unless : Bool → Event → LinkState → LinkState
after_unless true event s = s
after_unless false event s = at_end (happened event s)

-- what an event leaves that isn't stale
unfoldable pub after : Event → LinkState → LinkState
after event s = after_unless (is_nothing event s) event s

abbrev pub after_if : Bool → Event → LinkState → LinkState
after_if true event s = after event s
after_if false event s = s

pub record LinkPart (old : LinkState) (event : Event) (new : LinkState) (taken : Bool) : Type 0 where
  pub told : taken ≡ is_present event old
  pub left : new ≡ after_if taken event old
