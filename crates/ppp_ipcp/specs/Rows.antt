-- Worked sessions of IPCP, as calls with what they answer.
use Rattle.std.specs.Prelude.{ℕ, true, false, Some, None, List, [], ◌∷◌, ◌++◌, replicate}
use Rattle.ppp_base.specs.declared.allow.Allow.TheVariants.{Any, Pap, Chap}
use Rattle.ppp_fsm.specs.declared.event.FsmEvent.TheVariants.{Up, Open, Timeout, RcrGood, RcrBad, Rca, Rcn, Rtr, Ruc}
use Rattle.ppp_fsm.specs.declared.acts.Act.TheVariants.{Tlu, Tld, Tls, Tlf, Irc, Zrc, Scr, Sca, Scn, Sta, Scj}
use Rattle.ppp_fsm.specs.declared.fsm.Limits.{Limits}
use Rattle.ppp_secrets.specs.declared.address_word.Cover.TheVariants.{Subnet}
use Rattle.ppp_secrets.specs.declared.secrets.SecretsPair.{SecretsPair}
use Rattle.ppp_secrets.specs.SecretLine.{SecretLine}
use Rattle.ppp_control.specs.OwnPackets.{packet}
use Rattle.ppp_control.specs.Rules.{by_itself, opens, comes_up, ticks, hears, called_with}
use Rattle.ppp_ipcp.specs.declared.wish.IpWish.{IpWish}
use Rattle.ppp_ipcp.specs.Around.{Around, around}
use Rattle.ppp_ipcp.specs.Session.{IpcpCall}

-- an IP-Address of 10.0.0.n, and one of 11.0.0.n
abbrev pub ten : ℕ → List ℕ
ten n = 3 ∷ 6 ∷ 10 ∷ 0 ∷ 0 ∷ n ∷ []

abbrev pub eleven : ℕ → List ℕ
eleven n = 3 ∷ 6 ∷ 11 ∷ 0 ∷ 0 ∷ n ∷ []

abbrev pub zeros : List ℕ
zeros = 3 ∷ 6 ∷ 0 ∷ 0 ∷ 0 ∷ 0 ∷ []

-- we are 10.0.0.1 and the peer is 10.0.0.2
abbrev pub fixed : Limits → IpWish
fixed limits = record {
  local = 10 ∷ 0 ∷ 0 ∷ 1 ∷ [];
  remote = Some (10 ∷ 0 ∷ 0 ∷ 2 ∷ []);
  accept_local = false;
  accept_remote = false;
  restart_s = 3;
  limits = limits;
  max_failure = 10;
}

-- both ends have the addresses that the peer names
abbrev pub named_by_peer : Limits → IpWish
named_by_peer limits = record (fixed limits) { local = 0 ∷ 0 ∷ 0 ∷ 0 ∷ []; remote = None }

-- the first line of PAP's secrets allows 10.0.0.0/8, and that of CHAP's 11.0.0.0/8.
abbrev pub line_of : ℕ → SecretLine
line_of network = record { number = 1; client = 97 ∷ []; server = 98 ∷ []; secret = 99 ∷ []; addresses = (record { allows = true; cover = Subnet network 8 }) ∷ [] }

abbrev pub pair : SecretsPair
pair = record { pap = line_of 167772160 ∷ []; chap = line_of 184549376 ∷ [] }

abbrev pub any : Around
any = around Any pair 1500

abbrev pub by_pap : Around
by_pap = around (Pap 1) pair 1500

abbrev pub by_chap : Around
by_chap = around (Chap 1) pair 1500

-- From Open to Req-Sent: the first request.
abbrev pub begun : List ℕ → List IpcpCall
begun asked =
    called_with (by_itself comes_up) 0 (Some Up) (Irc ∷ Scr ∷ []) (packet 1 1 asked ∷ [])
    ∷ called_with (by_itself opens) 0 (Some Open) (Tls ∷ []) []
    ∷ []

-- It is sent again after three seconds, with its identifier, and not before.
abbrev pub repeated : List IpcpCall
repeated =
    called_with ticks 3000 (Some Timeout) (Scr ∷ []) (packet 1 1 (ten 1) ∷ [])
    ∷ called_with ticks 2999 None [] []
    ∷ begun (ten 1)

-- The wished address is acknowledged and every other named the wished one; IP-Compression-Protocol and an address of
-- three octets are rejected; a request for nothing is acknowledged; and the codes of LCP alone aren't known.
abbrev pub answered : List IpcpCall
answered =
    called_with (hears (packet 9 3 (0 ∷ 0 ∷ 0 ∷ 0 ∷ [])) any) 1 (Some Ruc) (Scj ∷ []) (packet 7 3 (9 ∷ 3 ∷ 0 ∷ 8 ∷ 0 ∷ 0 ∷ 0 ∷ 0 ∷ []) ∷ [])
    ∷ called_with (hears (packet 8 9 []) any) 1 (Some Ruc) (Scj ∷ []) (packet 7 2 (8 ∷ 9 ∷ 0 ∷ 4 ∷ []) ∷ [])
    ∷ called_with (hears (packet 1 6 (3 ∷ 5 ∷ 10 ∷ 0 ∷ 0 ∷ [])) any) 1 (Some RcrBad) (Scn ∷ []) (packet 4 6 (3 ∷ 5 ∷ 10 ∷ 0 ∷ 0 ∷ []) ∷ [])
    ∷ called_with (hears (packet 1 5 (2 ∷ 6 ∷ 0 ∷ 0x2d ∷ 15 ∷ 1 ∷ ten 9)) any) 1 (Some RcrBad) (Scn ∷ []) (packet 4 5 (2 ∷ 6 ∷ 0 ∷ 0x2d ∷ 15 ∷ 1 ∷ []) ∷ [])
    ∷ called_with (hears (packet 1 4 (ten 9)) any) 1 (Some RcrBad) (Scn ∷ []) (packet 3 4 (ten 2) ∷ [])
    ∷ called_with (hears (packet 1 3 []) any) 1 (Some RcrGood) (Sca ∷ []) (packet 2 3 [] ∷ [])
    ∷ called_with (hears (packet 1 1 zeros) any) 1 (Some RcrBad) (Scn ∷ []) (packet 3 1 (ten 2) ∷ [])
    ∷ called_with (hears (packet 1 1 (ten 2)) any) 1 (Some RcrGood) (Sca ∷ []) (packet 2 1 (ten 2) ∷ [])
    ∷ begun (ten 1)

-- A packet of 134 octets, where the peer takes 128: its Code-Reject has as many.
abbrev pub cut : List IpcpCall
cut =
    called_with (hears (packet 9 4 (replicate 130 1)) (around Any pair 128)) 1 (Some Ruc) (Scj ∷ []) (packet 7 2 (9 ∷ 4 ∷ 0 ∷ 134 ∷ replicate 120 1) ∷ [])
    ∷ begun (ten 1)

-- Where no address is wished, each that the line allows is acknowledged, and any other and 0.0.0.0 rejected.
abbrev pub allowed_by_lines : List IpcpCall
allowed_by_lines =
    called_with (hears (packet 1 6 zeros) any) 1 (Some RcrBad) (Scn ∷ []) (packet 4 6 zeros ∷ [])
    ∷ called_with (hears (packet 1 5 (eleven 1)) any) 1 (Some RcrGood) (Sca ∷ []) (packet 2 5 (eleven 1) ∷ [])
    ∷ called_with (hears (packet 1 4 (ten 1)) by_chap) 1 (Some RcrBad) (Scn ∷ []) (packet 4 4 (ten 1) ∷ [])
    ∷ called_with (hears (packet 1 3 (eleven 1)) by_chap) 1 (Some RcrGood) (Sca ∷ []) (packet 2 3 (eleven 1) ∷ [])
    ∷ called_with (hears (packet 1 2 (ten 1)) by_pap) 1 (Some RcrGood) (Sca ∷ []) (packet 2 2 (ten 1) ∷ [])
    ∷ called_with (hears (packet 1 1 (eleven 1)) by_pap) 1 (Some RcrBad) (Scn ∷ []) (packet 4 1 (eleven 1) ∷ [])
    ∷ begun zeros

-- Where the peer may take another address than the wished one, each that the line allows is acknowledged, and for any
-- other the wished one is named, whether the line allows that or not.
abbrev pub other_remote : Limits → IpWish
other_remote limits = record (fixed limits) { accept_remote = true; max_failure = 1 }

-- The second Nak in a row is a Reject; an Ack ends the row.
abbrev pub others : List IpcpCall
others =
    called_with (hears (packet 1 5 zeros) by_chap) 1 (Some RcrBad) (Scn ∷ []) (packet 3 5 (ten 2) ∷ [])
    ∷ called_with (hears (packet 1 4 (eleven 7)) by_chap) 1 (Some RcrGood) (Sca ∷ []) (packet 2 4 (eleven 7) ∷ [])
    ∷ called_with (hears (packet 1 3 (eleven 2 ++ ten 3)) by_pap) 1 (Some RcrBad) (Scn ∷ []) (packet 4 3 (eleven 2) ∷ [])
    ∷ called_with (hears (packet 1 2 (eleven 2)) by_pap) 1 (Some RcrBad) (Scn ∷ []) (packet 3 2 (ten 2) ∷ [])
    ∷ called_with (hears (packet 1 1 (ten 3)) by_pap) 1 (Some RcrGood) (Sca ∷ []) (packet 2 1 (ten 3) ∷ [])
    ∷ begun (ten 1)

-- Our address is fixed: a Nak's is not taken. It is ours also where it was rejected, and then it isn't asked for.
abbrev pub kept : List IpcpCall
kept =
    called_with (hears (packet 1 7 []) any) 2 (Some RcrGood) (Sca ∷ Tlu ∷ []) (packet 2 7 [] ∷ [])
    ∷ called_with (hears (packet 2 3 []) any) 2 (Some Rca) (Irc ∷ []) []
    ∷ called_with (hears (packet 4 2 (ten 1)) any) 2 (Some Rcn) (Irc ∷ Scr ∷ []) (packet 1 3 [] ∷ [])
    ∷ called_with (hears (packet 3 1 (ten 9)) any) 1 (Some Rcn) (Irc ∷ Scr ∷ []) (packet 1 2 (ten 1) ∷ [])
    ∷ begun (ten 1)

-- A life: the peer names our address twice in one Nak, of which the later holds; both requests are acknowledged; the peer's end.
abbrev pub acked_by_us : List IpcpCall
acked_by_us =
    called_with (hears (packet 1 5 (ten 1)) by_pap) 2 (Some RcrGood) (Sca ∷ []) (packet 2 5 (ten 1) ∷ [])
    ∷ called_with (hears (packet 3 1 (ten 6 ++ ten 7)) by_pap) 1 (Some Rcn) (Irc ∷ Scr ∷ []) (packet 1 2 (ten 7) ∷ [])
    ∷ begun zeros

abbrev pub opened : List IpcpCall
opened = called_with (hears (packet 2 2 (ten 7)) by_pap) 3 (Some Rca) (Irc ∷ Tlu ∷ []) [] ∷ acked_by_us

abbrev pub ended : List IpcpCall
ended =
    called_with ticks 3004 (Some Timeout) (Tlf ∷ []) []
    ∷ called_with (hears (packet 5 9 []) by_pap) 4 (Some Rtr) (Tld ∷ Zrc ∷ Sta ∷ []) (packet 6 9 [] ∷ [])
    ∷ opened
