-- What an event comes with, as values.
use Rattle.std.specs.Prelude.{ℕ, ◌-◌, min, Bool, List, [], Option, Some, None, take}
use Rattle.ppp_base.specs.declared.octets.TheConstants.{MOST_FRAME}
use Rattle.ppp_fsm.specs.declared.event.FsmEvent.{FsmEvent}
use Rattle.ppp_packet.specs.declared.packet.Packet.{Packet}
use Rattle.ppp_packet.specs.OptionsOf.{Item}
use Rattle.ppp_packet.specs.PacketOf.{laid_packet}
use Rattle.ppp_control.specs.declared.parts.Parts.{Parts}
use Rattle.ppp_control.specs.declared.judging.Verdict.{Verdict}
use Rattle.ppp_control.specs.declared.judging.Verdict.TheVariants.{Ack}
use Rattle.ppp_control.specs.Verdict.{event_on}
use Rattle.ppp_control.specs.Past.{is_timeout}

-- The moment and the restart time; whether what was sent is sent again; what a new request asks for; and of the
-- packet that was heard its identifier, its options, the answer to them, what a Code-Reject of it carries and what an Echo-Reply to it carries, if it has one.
pub record Given : Type 0 where
  pub now : ℕ
  pub restart_ms : ℕ
  pub repeats : Bool
  pub asked : List Item
  pub id : ℕ
  pub theirs : List Item
  pub verdict : Verdict
  pub rejected : List ℕ
  pub reply : Option (List ℕ)

abbrev pub given : Parts → Given
given o = record { now = o.now; restart_ms = o.restart_ms; repeats = o.repeats; asked = o.asked.now; id = o.id; theirs = o.theirs.now; verdict = o.verdict.now; rejected = o.rejected.now; reply = o.reply.now }

-- What a Code-Reject carries: as much of the rejected packet as makes one of at most so many octets, 1,508 at most (RFC 1661, section 5.6).
abbrev pub cut_packet : ℕ → Packet → List ℕ
cut_packet limit packet = take (min limit MOST_FRAME - 4) (laid_packet packet)

-- No packet was heard.
abbrev pub alone : ℕ → FsmEvent → List Item → ℕ → Given
alone restart_ms event asked now =
    record { now = now; restart_ms = restart_ms; repeats = is_timeout (Some event); asked = asked; id = 0; theirs = []; verdict = Ack; rejected = []; reply = None }

-- A packet other than a request was heard.
abbrev pub by_packet : ℕ → FsmEvent → List Item → ℕ → Packet → ℕ → Option (List ℕ) → Given
by_packet restart_ms event asked now p limit reply =
    record { now = now; restart_ms = restart_ms; repeats = is_timeout (Some event); asked = asked; id = p.id; theirs = []; verdict = Ack; rejected = cut_packet limit p; reply = reply }

-- A request was heard, which has this answer.
abbrev pub by_request : ℕ → List Item → ℕ → ℕ → List Item → Verdict → Given
by_request restart_ms asked now id items verdict =
    record { now = now; restart_ms = restart_ms; repeats = is_timeout (Some (event_on verdict)); asked = asked; id = id; theirs = items; verdict = verdict; rejected = []; reply = None }
