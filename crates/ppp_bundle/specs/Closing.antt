-- How a bundle ends.
use Rattle.std.specs.Prelude.{ℕ, nat_le, Option, None, Some, List, [], ◌∷◌, if◌then◌else◌}
use Rattle.ppp_base.specs.declared.posts.CloseCause.TheVariants.{Idle, ConnectTime, TooManyChanges}
use Rattle.ppp_base.specs.Posts.{cause_number}
use Rattle.ppp_mark.specs.declared.mark.Mark.{Mark}
use Rattle.ppp_mark.specs.Marks.{close_detail, close_elapsed, close_mark, out_mark, unmade_mark}
use Rattle.ppp_mark.specs.ScriptLog.{ScriptLogState}
use Rattle.ppp_unit_parts.specs.declared.live.Live.{Live}
use Rattle.ppp_unit_parts.specs.declared.member.Member.{Member}
use Rattle.ppp_unit_parts.specs.declared.outbox.BundleEnd.{BundleEnd}
use Rattle.ppp_unit_parts.specs.declared.outbox.Ending.{Ending}
use Rattle.ppp_bundle.specs.Replay.{since_made}
use Rattle.ppp_bundle.specs.ScriptParts.{marked, shut}
use Rattle.ppp_bundle.specs.State.{UnitState}
use Rattle.ppp_unit_parts.specs.Live.{ending, over_limit}

-- all members go out, in link order
abbrev pub outs : {S : Type 0} → ℕ → List Member → ScriptLogState S → ScriptLogState S
outs time [] s = s
outs time (m ∷ members) s = outs time members (marked (out_mark time m.link m.stay) s)

-- IPCP goes down, so that IP is closed; the members go out; and the bundle is unmade.
abbrev pub unmade : {S : Type 0} → Live → ℕ → ScriptLogState S → ScriptLogState S
unmade l time s = marked (unmade_mark time l.number) (outs time l.members (shut time s))

abbrev pub end_of : Ending → Live → BundleEnd
end_of e l = record { cause = cause_number e.cause; y = close_detail e.cause; elapsed_ms = close_elapsed e.cause e.elapsed_ms; live = l.was_open }

-- The bundle is closed at once.
abbrev pub closed_of : {S : Type 0} → Option Live → Ending → UnitState S → UnitState S
closed_of None e u = u
closed_of (Some l) e u = record u {
  scripts = unmade l u.time (marked (close_mark u.time e.cause e.elapsed_ms) u.scripts);
  live = None;
  ended = Some (end_of e l);
}

abbrev pub closed : {S : Type 0} → Ending → UnitState S → UnitState S
closed e u = closed_of u.live e u

abbrev pub closed_if : {S : Type 0} → Option Ending → UnitState S → UnitState S
closed_if None u = u
closed_if (Some e) u = closed e u

-- No datagram passed for `idle` seconds (pppd(8), idle).
abbrev pub idle_end : ℕ → Option Live → Option Ending
idle_end now None = None
idle_end now (Some l) = over_limit Idle l.wish.idle_s now l.passed_at l

-- Opened began `maxconnect` seconds ago (pppd(8), maxconnect).
abbrev pub connect_end : ℕ → Option Live → Option Ending
connect_end now None = None
connect_end now (Some l) = over_limit ConnectTime l.wish.maxconnect_s now l.opened_at l

-- 900 marks or more were made since the bundle was made.
abbrev pub crowded_end : List Mark → Option Ending
crowded_end past = if nat_le 900 (since_made past) then Some (ending TooManyChanges 0) else None

abbrev pub idled : {S : Type 0} → UnitState S → UnitState S
idled u = closed_if (idle_end u.time u.live) u

abbrev pub connected_long : {S : Type 0} → UnitState S → UnitState S
connected_long u = closed_if (connect_end u.time u.live) u

abbrev pub looked : {S : Type 0} → UnitState S → UnitState S
looked u = closed_if (crowded_end u.scripts.log.past) u
