-- Worked sessions of LCP, as calls with what they answer.
use Rattle.std.specs.Prelude.{ℕ, ◌≡◌, zero, suc, true, false, Some, None, List, [], ◌∷◌}
use Rattle.ppp_fsm.specs.declared.event.FsmEvent.TheVariants.{Up, Open, Timeout, RcrGood, RcrBad, Rca, Rcn, Rtr, Ruc, Rxr}
use Rattle.ppp_fsm.specs.declared.acts.Act.TheVariants.{Tlu, Tld, Tls, Tlf, Irc, Zrc, Scr, Sca, Scn, Sta, Scj, Ser}
use Rattle.ppp_fsm.specs.declared.fsm.Limits.{Limits}
use Rattle.ppp_packet.specs.OptionsOf.{Item, item}
use Rattle.ppp_control.specs.declared.judging.Verdict.{Verdict}
use Rattle.ppp_control.specs.declared.judging.Verdict.TheVariants.{Ack, Nak, Reject}
use Rattle.ppp_control.specs.OwnPackets.{packet}
use Rattle.ppp_control.specs.Past.{Happened}
use Rattle.ppp_control.specs.Rules.{by_itself, opens, comes_up, ticks, hears, rejects, called_with}
use Rattle.ppp_lcp.specs.declared.wish.LcpWish.{LcpWish}
use Rattle.ppp_lcp.specs.Session.{LcpCall}
use Rattle.ppp_lcp.specs.Verdict.{verdict_to}

-- the default options of a link
abbrev pub usual : Limits → LcpWish
usual limits = record {
  mru = 1500;
  map = 0;
  default_map = false;
  magic = true;
  pfc = true;
  acfc = true;
  multilink = false;
  mrru = 1500;
  disc = None;
  want_pap = false;
  want_chap = false;
  refuse_pap = false;
  refuse_chap = false;
  echo_interval_s = 30;
  echo_failure = 1;
  restart_s = 3;
  limits = limits;
  max_failure = 10;
}

-- a generator's state from which the next word is 11223344 in hexadecimal
abbrev pub first_words : ℕ
first_words = 16761096584570294293

abbrev pub usual_options : List ℕ
usual_options = 2 ∷ 6 ∷ 0 ∷ 0 ∷ 0 ∷ 0 ∷ 5 ∷ 6 ∷ 0x11 ∷ 0x22 ∷ 0x33 ∷ 0x44 ∷ 7 ∷ 2 ∷ 8 ∷ 2 ∷ []

-- From Open to Req-Sent: the request, and it again after three seconds.
abbrev pub begun : List LcpCall
begun =
    called_with (by_itself comes_up) 0 (Some Up) (Irc ∷ Scr ∷ []) (packet 1 1 usual_options ∷ [])
    ∷ called_with (by_itself opens) 0 (Some Open) (Tls ∷ []) []
    ∷ []

abbrev pub repeated : List LcpCall
repeated =
    called_with ticks 3000 (Some Timeout) (Scr ∷ []) (packet 1 1 usual_options ∷ [])
    ∷ called_with ticks 2999 None [] []
    ∷ begun

-- The answers to requests that are refused, and a code that isn't known.
abbrev pub refused : List LcpCall
refused =
    called_with (hears (packet 5 4 []) tt) 1 (Some Rtr) (Sta ∷ []) (packet 6 4 [] ∷ [])
    ∷ called_with (hears (packet 13 4 []) tt) 1 (Some Ruc) (Scj ∷ []) (packet 7 3 (13 ∷ 4 ∷ 0 ∷ 4 ∷ []) ∷ [])
    ∷ called_with (hears (packet 12 3 []) tt) 1 (Some Ruc) (Scj ∷ []) (packet 7 2 (12 ∷ 3 ∷ 0 ∷ 4 ∷ []) ∷ [])
    ∷ called_with (hears (packet 1 6 (1 ∷ 4 ∷ 0 ∷ 0x40 ∷ [])) tt) 1 (Some RcrBad) (Scn ∷ []) (packet 3 6 (1 ∷ 4 ∷ 0 ∷ 0x80 ∷ []) ∷ [])
    ∷ called_with (hears (packet 1 5 (1 ∷ 4 ∷ 0 ∷ 0x40 ∷ 13 ∷ 3 ∷ 0 ∷ [])) tt) 1 (Some RcrBad) (Scn ∷ []) (packet 4 5 (13 ∷ 3 ∷ 0 ∷ []) ∷ [])
    ∷ begun

-- Both requests acknowledged, ours after a Nak of its MRU.
abbrev pub agreed : List LcpCall
agreed =
    called_with (hears (packet 2 2 (1 ∷ 4 ∷ 5 ∷ 0x78 ∷ usual_options)) tt) 2 (Some Rca) (Irc ∷ Tlu ∷ []) []
    ∷ called_with (hears (packet 2 2 usual_options) tt) 2 None [] []
    ∷ called_with (hears (packet 3 1 (1 ∷ 4 ∷ 5 ∷ 0x78 ∷ [])) tt) 1 (Some Rcn) (Irc ∷ Scr ∷ []) (packet 1 2 (1 ∷ 4 ∷ 5 ∷ 0x78 ∷ usual_options) ∷ [])
    ∷ called_with (hears (packet 1 9 (1 ∷ 4 ∷ 5 ∷ 0 ∷ [])) tt) 1 (Some RcrGood) (Sca ∷ []) (packet 2 9 (1 ∷ 4 ∷ 5 ∷ 0 ∷ []) ∷ [])
    ∷ begun

-- A life: both requests acknowledged, an echo each way, a protocol rejected, and the peer's end.
abbrev pub lived : List LcpCall
lived =
    called_with ticks 33004 (Some Timeout) (Tlf ∷ []) []
    ∷ called_with ticks 33003 None [] []
    ∷ called_with (hears (packet 5 9 []) tt) 30004 (Some Rtr) (Tld ∷ Zrc ∷ Sta ∷ []) (packet 6 9 [] ∷ [])
    ∷ called_with (rejects 0x80fd (1 ∷ 1 ∷ 0 ∷ 4 ∷ [])) 0 None [] (packet 8 4 (0x80 ∷ 0xfd ∷ 1 ∷ 1 ∷ 0 ∷ 4 ∷ []) ∷ [])
    ∷ called_with (hears (packet 9 7 (0 ∷ 0 ∷ 0 ∷ 0 ∷ 5 ∷ [])) tt) 30003 (Some Rxr) (Ser ∷ []) (packet 10 7 (0x11 ∷ 0x22 ∷ 0x33 ∷ 0x44 ∷ 5 ∷ []) ∷ [])
    ∷ called_with ticks 30002 None [] (packet 9 3 (0x11 ∷ 0x22 ∷ 0x33 ∷ 0x44 ∷ []) ∷ [])
    ∷ called_with ticks 30001 None [] []
    ∷ agreed

-- The peer's requests have our own number, twice, and each is named another one; a Nak that names one gives us a new one, and then theirs is
-- another. A Reject takes ours away. The generator's words are 11223344, 150b3a72, b5ca8af5 and 09882836.
abbrev pub looped : List LcpCall
looped =
    called_with (hears (packet 1 6 (5 ∷ 6 ∷ 0x11 ∷ 0x22 ∷ 0x33 ∷ 0x44 ∷ [])) tt) 1 (Some RcrBad) (Scn ∷ []) (packet 3 6 (5 ∷ 6 ∷ 0xb5 ∷ 0xca ∷ 0x8a ∷ 0xf5 ∷ []) ∷ [])
    ∷ called_with (hears (packet 1 5 (5 ∷ 6 ∷ 0x11 ∷ 0x22 ∷ 0x33 ∷ 0x44 ∷ [])) tt) 1 (Some RcrBad) (Scn ∷ []) (packet 3 5 (5 ∷ 6 ∷ 0x15 ∷ 0x0b ∷ 0x3a ∷ 0x72 ∷ []) ∷ [])
    ∷ begun

abbrev pub unlooped : List LcpCall
unlooped =
    called_with (hears (packet 4 2 (5 ∷ 6 ∷ 0x09 ∷ 0x88 ∷ 0x28 ∷ 0x36 ∷ [])) tt) 1 (Some Rcn) (Irc ∷ Scr ∷ []) (packet 1 3 (2 ∷ 6 ∷ 0 ∷ 0 ∷ 0 ∷ 0 ∷ 7 ∷ 2 ∷ 8 ∷ 2 ∷ []) ∷ [])
    ∷ called_with (hears (packet 1 7 (5 ∷ 6 ∷ 0x11 ∷ 0x22 ∷ 0x33 ∷ 0x44 ∷ [])) tt) 1 (Some RcrGood) (Sca ∷ []) (packet 2 7 (5 ∷ 6 ∷ 0x11 ∷ 0x22 ∷ 0x33 ∷ 0x44 ∷ []) ∷ [])
    ∷ called_with (hears (packet 3 1 (5 ∷ 6 ∷ 0 ∷ 0 ∷ 0 ∷ 9 ∷ [])) tt) 1 (Some Rcn) (Irc ∷ Scr ∷ []) (packet 1 2 (2 ∷ 6 ∷ 0 ∷ 0 ∷ 0 ∷ 0 ∷ 5 ∷ 6 ∷ 0x09 ∷ 0x88 ∷ 0x28 ∷ 0x36 ∷ 7 ∷ 2 ∷ 8 ∷ 2 ∷ []) ∷ [])
    ∷ looped

-- An echo has gone out; then a reply with another number is heard, or one with our own, which is none.
abbrev pub echoed : List LcpCall
echoed = called_with ticks 30002 None [] (packet 9 3 (0x11 ∷ 0x22 ∷ 0x33 ∷ 0x44 ∷ []) ∷ []) ∷ agreed

abbrev pub replied : List ℕ → List LcpCall
replied number = called_with (hears (packet 10 3 number) tt) 30003 (Some Rxr) (Ser ∷ []) [] ∷ echoed

-- so many packets that take an identifier, one a call
abbrev pub numbered : ℕ → List Happened
numbered zero = []
numbered (suc n) = record { now = 0; event = Some Ruc; acts = Scj ∷ []; packets = packet 7 0 [] ∷ [] } ∷ numbered n

-- Requests with their answers, where our number is 5 and the next word 9, after so many Naks.
pub record Answered : Type 0 where
  pub wish : LcpWish
  pub naks : ℕ
  pub request : List Item
  pub answer : Verdict

abbrev pub row : LcpWish → ℕ → List Item → Verdict → Answered
row wish naks request answer = record { wish = wish; naks = naks; request = request; answer = answer }

abbrev pub AllAnswered : List Answered → Type 0
AllAnswered [] = Unit {0}
AllAnswered (r ∷ rows) = (verdict_to r.request r.wish 5 9 r.naks ≡ r.answer) × AllAnswered rows

-- one option of each kind of request
abbrev pub acked : LcpWish → ℕ → List ℕ → Answered
acked wish kind body = row wish 0 (item kind body ∷ []) Ack

abbrev pub refused_one : LcpWish → ℕ → List ℕ → Answered
refused_one wish kind body = row wish 0 (item kind body ∷ []) (Reject (item kind body ∷ []))

abbrev pub named_one : LcpWish → ℕ → List ℕ → List ℕ → Answered
named_one wish kind body value = row wish 0 (item kind body ∷ []) (Nak (item kind value ∷ []))

abbrev pub chap : List ℕ
chap = 0xc2 ∷ 0x23 ∷ 0x05 ∷ []

abbrev pub pap : List ℕ
pap = 0xc0 ∷ 0x23 ∷ []

abbrev pub small : Item
small = item 1 (0 ∷ 64 ∷ [])

-- Each line of the table in each column, and each kind of length.
abbrev pub by_table : Limits → List Answered
by_table limits =
    let wish : LcpWish = usual limits in
    let many : LcpWish = record (usual limits) { multilink = true } in
    acked wish 1 (0 ∷ 128 ∷ []) ∷ named_one wish 1 (0 ∷ 127 ∷ []) (0 ∷ 128 ∷ []) ∷ refused_one wish 1 (128 ∷ [])
    ∷ acked wish 2 (0 ∷ 0 ∷ 0 ∷ 0 ∷ []) ∷ refused_one wish 2 (0 ∷ 0 ∷ 0 ∷ [])
    ∷ acked wish 3 chap ∷ acked wish 3 pap ∷ named_one wish 3 (0xc2 ∷ 0x23 ∷ 0x80 ∷ []) chap ∷ refused_one wish 3 (0xc2 ∷ [])
    ∷ named_one (record wish { refuse_chap = true }) 3 chap pap ∷ named_one (record wish { refuse_pap = true }) 3 pap chap ∷ refused_one (record wish { refuse_pap = true; refuse_chap = true }) 3 chap
    ∷ acked wish 5 (0 ∷ 0 ∷ 0 ∷ 6 ∷ []) ∷ named_one wish 5 (0 ∷ 0 ∷ 0 ∷ 0 ∷ []) (0 ∷ 0 ∷ 0 ∷ 9 ∷ []) ∷ named_one wish 5 (0 ∷ 0 ∷ 0 ∷ 5 ∷ []) (0 ∷ 0 ∷ 0 ∷ 9 ∷ [])
    ∷ refused_one (record wish { magic = false }) 5 (0 ∷ 0 ∷ 0 ∷ 6 ∷ []) ∷ refused_one wish 5 (0 ∷ 0 ∷ 0 ∷ 6 ∷ 0 ∷ [])
    ∷ acked wish 7 [] ∷ refused_one (record wish { pfc = false }) 7 [] ∷ refused_one wish 7 (0 ∷ [])
    ∷ acked wish 8 [] ∷ refused_one (record wish { acfc = false }) 8 [] ∷ refused_one wish 8 (0 ∷ [])
    ∷ acked many 17 (0x05 ∷ 0xdc ∷ []) ∷ named_one many 17 (0x05 ∷ 0xdb ∷ []) (0x05 ∷ 0xdc ∷ []) ∷ refused_one many 17 (5 ∷ []) ∷ refused_one wish 17 (0x05 ∷ 0xdc ∷ [])
    ∷ refused_one many 18 []
    ∷ acked many 19 (1 ∷ 2 ∷ []) ∷ refused_one many 19 [] ∷ refused_one wish 19 (1 ∷ 2 ∷ [])
    ∷ refused_one many 13 (0 ∷ []) ∷ refused_one many 4 []
    ∷ []

-- What is rejected goes before what is named, and ten Naks before a Reject of the same options; of two of one type each is judged.
abbrev pub in_order : Limits → List Answered
in_order limits =
    let wish : LcpWish = usual limits in
    row wish 0 (small ∷ item 13 (0 ∷ []) ∷ item 7 [] ∷ []) (Reject (item 13 (0 ∷ []) ∷ []))
    ∷ row wish 0 (small ∷ item 7 [] ∷ []) (Nak (item 1 (0 ∷ 128 ∷ []) ∷ []))
    ∷ row wish 9 (small ∷ []) (Nak (item 1 (0 ∷ 128 ∷ []) ∷ []))
    ∷ row wish 10 (small ∷ item 7 [] ∷ []) (Reject (small ∷ []))
    ∷ row wish 0 (small ∷ item 1 (5 ∷ 0 ∷ []) ∷ []) (Nak (item 1 (0 ∷ 128 ∷ []) ∷ []))
    ∷ row wish 10 [] Ack
    ∷ []

-- so many of one option
abbrev pub times : ℕ → Item → List Item
times zero i = []
times (suc n) i = i ∷ times n i
