-- What a reader sees of LCP as it stands.
use Rattle.std.specs.Prelude.{ℕ, ◌==◌, ◌&&◌, not, if◌then◌else◌, Option, is_some, option_map, List}
use Rattle.ppp_base.specs.declared.mrru.TheConstants.{DEFAULT_MRU}
use Rattle.ppp_packet.specs.declared.agreed.Agreed.{Agreed}
use Rattle.ppp_packet.specs.OptionsOf.{Item}
use Rattle.ppp_control.specs.declared.judging.Verdict.{Verdict}
use Rattle.ppp_control.specs.Start.{agreement}
use Rattle.ppp_lcp.specs.declared.lcp.Lcp.{Lcp}
use Rattle.ppp_lcp.specs.Last.{agreed_by}
use Rattle.ppp_lcp.specs.Ours.{word_of}
use Rattle.ppp_lcp.specs.Session.{in_force, mru_in}
use Rattle.ppp_lcp.specs.Verdict.{verdict_where}

-- our magic number, 0 where none is in force
abbrev pub magic_now : Lcp → ℕ
magic_now l = in_force (is_some l.core.request) l.ours.magic

-- the most octets of a packet to the peer
abbrev pub limit_of : Lcp → ℕ
limit_of l = if l.core.fsm.state == 9 then mru_in l.core.acknowledged else DEFAULT_MRU

-- The answer to a request, where a Nak of a magic number carries the generator's next word.
abbrev pub verdict_on : Lcp → List Item → Verdict
verdict_on l items = verdict_where items l.wish (l.wish.multilink && not l.ours.left_out.mrru) (magic_now l) (word_of l.ours.generator) l.core.naks

-- What has been agreed on is told in Opened alone.
abbrev pub agreed_in : Lcp → Option Agreed
agreed_in l = option_map (λ both. agreed_by both.ours both.theirs) (agreement l.core)
