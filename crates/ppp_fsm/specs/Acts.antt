-- Which acts are among some.
use Rattle.std.specs.Prelude.{ℕ, ◌==◌, ◌||◌, Bool, false, List, [], ◌∷◌}
use Rattle.ppp_fsm.specs.declared.acts.Act.{Act}
use Rattle.ppp_fsm.specs.declared.acts.Act.TheVariants.{Tlu, Tld, Tls, Tlf, Irc, Zrc, Scr, Sca, Scn, Str, Sta, Scj, Ser}

-- the acts in the order in which RFC 1661 lists them (section 4.4)
abbrev pub place_of : Act → ℕ
place_of Tlu = 0
place_of Tld = 1
place_of Tls = 2
place_of Tlf = 3
place_of Irc = 4
place_of Zrc = 5
place_of Scr = 6
place_of Sca = 7
place_of Scn = 8
place_of Str = 9
place_of Sta = 10
place_of Scj = 11
place_of Ser = 12

-- whether an act is among some
abbrev pub has : Act → List Act → Bool
has act [] = false
has act (first ∷ acts) = place_of first == place_of act || has act acts
