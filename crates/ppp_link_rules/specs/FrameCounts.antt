-- How many frames came, and how often the octets between two flags were none.
use Rattle.std.specs.Prelude.{ℕ, Bool, true, false, List}
use Rattle.std.specs.List.{count_by}
use Rattle.ppp_hdlc.specs.declared.fault.FrameFault.{FrameFault}
use Rattle.ppp_hdlc.specs.declared.fault.FrameFault.TheVariants.{Aborted, TooLong, Short, BadFcs, BadHeader}
use Rattle.ppp_hdlc.specs.declared.heard.Heard.{Heard}
use Rattle.ppp_hdlc.specs.declared.heard.Heard.TheVariants.{Nothing, Frame, Dropped}
use Rattle.ppp_outside.specs.Counts.{raised}
use Rattle.ppp_base.specs.RingAfter.{one_more}
use Rattle.ppp_link_rules.specs.declared.counts.FrameCounts.{FrameCounts}

abbrev pub no_counts : FrameCounts
no_counts = record { frames = 0; aborted = 0; too_long = 0; short = 0; bad_fcs = 0; bad_header = 0 }

-- with one answer of the deframer
abbrev pub with_fault : FrameFault → FrameCounts → FrameCounts
with_fault Aborted c = record c { aborted = one_more c.aborted }
with_fault TooLong c = record c { too_long = one_more c.too_long }
with_fault Short c = record c { short = one_more c.short }
with_fault BadFcs c = record c { bad_fcs = one_more c.bad_fcs }
with_fault BadHeader c = record c { bad_header = one_more c.bad_header }

abbrev pub counted : Heard → FrameCounts → FrameCounts
counted Nothing c = c
counted (Frame protocol information) c = record c { frames = one_more c.frames }
counted (Dropped fault) c = with_fault fault c

-- THE COUNTS OF A WHOLE STREAM

abbrev pub is_frame : Heard → Bool
is_frame Nothing = false
is_frame (Frame protocol information) = true
is_frame (Dropped fault) = false

abbrev pub is_aborted : Heard → Bool
is_aborted (Dropped Aborted) = true
is_aborted _ = false

abbrev pub is_too_long : Heard → Bool
is_too_long (Dropped TooLong) = true
is_too_long _ = false

abbrev pub is_short : Heard → Bool
is_short (Dropped Short) = true
is_short _ = false

abbrev pub is_bad_fcs : Heard → Bool
is_bad_fcs (Dropped BadFcs) = true
is_bad_fcs _ = false

abbrev pub is_bad_header : Heard → Bool
is_bad_header (Dropped BadHeader) = true
is_bad_header _ = false

-- how often one of these is among what was heard, behind so many, as far as a count goes
abbrev pub count_from : ℕ → (Heard → Bool) → List Heard → ℕ
count_from before is_it heards = raised before (count_by is_it heards)

-- The counts behind a session in which this was heard, from what they were before it.
abbrev pub counts_from : FrameCounts → List Heard → FrameCounts
counts_from before heards = record {
  frames = count_from before.frames is_frame heards;
  aborted = count_from before.aborted is_aborted heards;
  too_long = count_from before.too_long is_too_long heards;
  short = count_from before.short is_short heards;
  bad_fcs = count_from before.bad_fcs is_bad_fcs heards;
  bad_header = count_from before.bad_header is_bad_header heards;
}
