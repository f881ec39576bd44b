-- The names of acts (RFC 1661, section 4.1), in lower case.
use Rattle.std.specs.Prelude.{ℕ, List, codes}
use Rattle.ppp_fsm.specs.declared.acts.Act.{Act}
use Rattle.ppp_fsm.specs.declared.acts.Act.TheVariants.{Tlu, Tld, Tls, Tlf, Irc, Zrc, Scr, Sca, Scn, Str, Sta, Scj, Ser}

unfoldable pub name_of : Act → List ℕ
name_of Tlu = codes "tlu"
name_of Tld = codes "tld"
name_of Tls = codes "tls"
name_of Tlf = codes "tlf"
name_of Irc = codes "irc"
name_of Zrc = codes "zrc"
name_of Scr = codes "scr"
name_of Sca = codes "sca"
name_of Scn = codes "scn"
name_of Str = codes "str"
name_of Sta = codes "sta"
name_of Scj = codes "scj"
name_of Ser = codes "ser"
