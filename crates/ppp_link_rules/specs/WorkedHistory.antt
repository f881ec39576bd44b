-- What happened in worked sessions since their attempt, the newest first.
use Rattle.std.specs.Prelude.{ℕ, true, None, Some, List, [], ◌∷◌, ◌++◌, map, reverse}
use Rattle.ppp_base.specs.declared.signal_word.SignalWord.TheVariants.{Term}
use Rattle.ppp_control.specs.OwnPackets.{packet}
use Rattle.ppp_control.specs.Rules.{by_itself, opens, closes, comes_up, hears, called_with}
use Rattle.ppp_fsm.specs.declared.acts.Act.TheVariants.{Tls, Irc, Scr, Str, Sca}
use Rattle.ppp_fsm.specs.declared.event.FsmEvent.TheVariants.{Up, Open, Close, RcrGood}
use Rattle.ppp_hdlc.specs.Encoding.{encoding}
use Rattle.ppp_link_rules.specs.CauseStatus.{signalled}
use Rattle.ppp_link_rules.specs.History.{Moment, Comes, Hears, Negotiates, Ends}
use Rattle.ppp_link_rules.specs.LinkEvent.{Bytes, Dialled, Signal}
use Rattle.ppp_link_rules.specs.Rows.{our_options}
use Rattle.ppp_link_rules.specs.Sending.{plain_settings}

-- The line comes, and LCP gets Open and Up.
abbrev pub begun : List Moment
begun =
    Negotiates (called_with (by_itself comes_up) 0 (Some Up) (Irc ∷ Scr ∷ []) (packet 1 1 our_options ∷ []))
    ∷ Negotiates (called_with (by_itself opens) 0 (Some Open) (Tls ∷ []) [])
    ∷ Comes (Dialled 1 1 0 true) None
    ∷ []

-- TERM, its cause behind three marks, and the Close.
abbrev pub stopped : List Moment
stopped =
    Negotiates (called_with (by_itself closes) 0 (Some Close) (Irc ∷ Str ∷ []) (packet 5 2 [] ∷ []))
    ∷ Ends (signalled 3) 3
    ∷ Comes (Signal Term) None
    ∷ begun

-- The peer's request comes in one piece, and is acknowledged.
abbrev pub request : List ℕ
request = encoding plain_settings 0xc021 (1 ∷ 1 ∷ 0 ∷ 4 ∷ [])

abbrev pub asked : List Moment
asked =
    Negotiates (called_with (hears (packet 1 1 []) tt) 0 (Some RcrGood) (Sca ∷ []) (packet 2 1 [] ∷ []))
    ∷ reverse (map Hears request) ++ Comes (Bytes 1 1 0 request) None
    ∷ begun
