-- The table of option words: how each is spelled, what it is, and the range and default of its value (pppd(8), "Options").
use Rattle.std.specs.Prelude.{ℕ, ◌≤◌, List, codes, Option, Some, None}
use Rattle.std.specs.List.{find}
use Rattle.std.specs.Str.{bytes_eq}
use Rattle.ppp_option_words.specs.declared.kind.TheConstants.{KINDS}
use Rattle.ppp_option_words.specs.declared.flag.Flag.{Flag}
use Rattle.ppp_option_words.specs.declared.flag.Flag.TheVariants as flag
use Rattle.ppp_option_words.specs.declared.ignored.Ignored.{Ignored}
use Rattle.ppp_option_words.specs.declared.ignored.Ignored.TheVariants as ignored
use Rattle.ppp_option_words.specs.declared.number.Number.{Number}
use Rattle.ppp_option_words.specs.declared.number.Number.TheVariants as number
use Rattle.ppp_option_words.specs.declared.text.Text.{Text}
use Rattle.ppp_option_words.specs.declared.text.Text.TheVariants as text
use Rattle.ppp_option_words.specs.declared.kind.Included.{Included}
use Rattle.ppp_option_words.specs.declared.kind.Included.TheVariants as included
use Rattle.ppp_option_words.specs.declared.kind.Valued.{Valued}
use Rattle.ppp_option_words.specs.declared.kind.Valued.TheVariants as valued
use Rattle.ppp_option_words.specs.declared.kind.Kind.{Kind}
use Rattle.ppp_option_words.specs.declared.kind.Kind.TheVariants as kind

-- words without a value that set or clear something of a link
abbrev pub flag_spelled : Flag → List ℕ
flag_spelled flag.DefaultAsyncmap = codes "default-asyncmap"
flag_spelled flag.Nomagic = codes "nomagic"
flag_spelled flag.Nopcomp = codes "nopcomp"
flag_spelled flag.Noaccomp = codes "noaccomp"
flag_spelled flag.Multilink = codes "multilink"
flag_spelled flag.Mp = codes "mp"
flag_spelled flag.Nomultilink = codes "nomultilink"
flag_spelled flag.Auth = codes "auth"
flag_spelled flag.Noauth = codes "noauth"
flag_spelled flag.RequirePap = codes "require-pap"
flag_spelled flag.RequireChap = codes "require-chap"
flag_spelled flag.RefusePap = codes "refuse-pap"
flag_spelled flag.RefuseChap = codes "refuse-chap"
flag_spelled flag.IpcpAcceptLocal = codes "ipcp-accept-local"
flag_spelled flag.IpcpAcceptRemote = codes "ipcp-accept-remote"
flag_spelled flag.Persist = codes "persist"
flag_spelled flag.Nopersist = codes "nopersist"
flag_spelled flag.Demand = codes "demand"

-- words that are accepted without effect
abbrev pub ignored_spelled : Ignored → List ℕ
ignored_spelled ignored.Crtscts = codes "crtscts"
ignored_spelled ignored.Nocrtscts = codes "nocrtscts"
ignored_spelled ignored.Lock = codes "lock"
ignored_spelled ignored.Modem = codes "modem"
ignored_spelled ignored.Local = codes "local"
ignored_spelled ignored.Noccp = codes "noccp"
ignored_spelled ignored.Novj = codes "novj"
ignored_spelled ignored.Nobsdcomp = codes "nobsdcomp"
ignored_spelled ignored.Nodeflate = codes "nodeflate"
ignored_spelled ignored.Nodetach = codes "nodetach"
ignored_spelled ignored.Noipdefault = codes "noipdefault"
ignored_spelled ignored.Defaultroute = codes "defaultroute"
ignored_spelled ignored.Usepeerdns = codes "usepeerdns"
ignored_spelled ignored.Debug = codes "debug"

-- words with a number behind them
abbrev pub number_spelled : Number → List ℕ
number_spelled number.Mru = codes "mru"
number_spelled number.Mrru = codes "mrru"
number_spelled number.Unit = codes "unit"
number_spelled number.LcpEchoInterval = codes "lcp-echo-interval"
number_spelled number.LcpEchoFailure = codes "lcp-echo-failure"
number_spelled number.LcpRestart = codes "lcp-restart"
number_spelled number.IpcpRestart = codes "ipcp-restart"
number_spelled number.LcpMaxConfigure = codes "lcp-max-configure"
number_spelled number.IpcpMaxConfigure = codes "ipcp-max-configure"
number_spelled number.LcpMaxTerminate = codes "lcp-max-terminate"
number_spelled number.IpcpMaxTerminate = codes "ipcp-max-terminate"
number_spelled number.LcpMaxFailure = codes "lcp-max-failure"
number_spelled number.IpcpMaxFailure = codes "ipcp-max-failure"
number_spelled number.Holdoff = codes "holdoff"
number_spelled number.Maxfail = codes "maxfail"
number_spelled number.Idle = codes "idle"
number_spelled number.Maxconnect = codes "maxconnect"
number_spelled number.Loglimit = codes "loglimit"

-- the least that the number may be
abbrev pub least_of : Number → ℕ
least_of number.Mru = 128
least_of number.Mrru = 1500
least_of number.Unit = 0
least_of number.LcpEchoInterval = 0
least_of number.LcpEchoFailure = 0
least_of number.LcpRestart = 1
least_of number.IpcpRestart = 1
least_of number.LcpMaxConfigure = 1
least_of number.IpcpMaxConfigure = 1
least_of number.LcpMaxTerminate = 1
least_of number.IpcpMaxTerminate = 1
least_of number.LcpMaxFailure = 1
least_of number.IpcpMaxFailure = 1
least_of number.Holdoff = 0
least_of number.Maxfail = 0
least_of number.Idle = 0
least_of number.Maxconnect = 0
least_of number.Loglimit = 4096

-- the most that it may be
abbrev pub most_of : Number → ℕ
most_of number.Mru = 1500
most_of number.Mrru = 2048
most_of number.Unit = 15
most_of number.LcpEchoInterval = 65535
most_of number.LcpEchoFailure = 255
most_of number.LcpRestart = 255
most_of number.IpcpRestart = 255
most_of number.LcpMaxConfigure = 255
most_of number.IpcpMaxConfigure = 255
most_of number.LcpMaxTerminate = 255
most_of number.IpcpMaxTerminate = 255
most_of number.LcpMaxFailure = 255
most_of number.IpcpMaxFailure = 255
most_of number.Holdoff = 65535
most_of number.Maxfail = 65535
most_of number.Idle = 65535
most_of number.Maxconnect = 65535
most_of number.Loglimit = 1048576

-- what it is where no word says it; without `unit` a link has no unit of its own, and there is no default
abbrev pub default_of : Number → Option ℕ
default_of number.Mru = Some 1500
default_of number.Mrru = Some 1500
default_of number.Unit = None
default_of number.LcpEchoInterval = Some 0
default_of number.LcpEchoFailure = Some 0
default_of number.LcpRestart = Some 3
default_of number.IpcpRestart = Some 3
default_of number.LcpMaxConfigure = Some 10
default_of number.IpcpMaxConfigure = Some 10
default_of number.LcpMaxTerminate = Some 3
default_of number.IpcpMaxTerminate = Some 3
default_of number.LcpMaxFailure = Some 10
default_of number.IpcpMaxFailure = Some 10
default_of number.Holdoff = Some 30
default_of number.Maxfail = Some 10
default_of number.Idle = Some 0
default_of number.Maxconnect = Some 0
default_of number.Loglimit = Some 65536

abbrev pub IsWithin : Number → ℕ → Type 0
IsWithin word n = (least_of word ≤ n) × (n ≤ most_of word)

-- words with a text of at most 255 octets behind them
abbrev pub text_spelled : Text → List ℕ
text_spelled text.Socket = codes "socket"
text_spelled text.Name = codes "name"
text_spelled text.User = codes "user"
text_spelled text.Remotename = codes "remotename"
text_spelled text.Password = codes "password"
text_spelled text.Ipparam = codes "ipparam"
text_spelled text.PapSecrets = codes "pap-secrets"
text_spelled text.ChapSecrets = codes "chap-secrets"
text_spelled text.HookIpUp = codes "hook-ip-up"
text_spelled text.HookIpDown = codes "hook-ip-down"
text_spelled text.HookAuthUp = codes "hook-auth-up"
text_spelled text.HookAuthDown = codes "hook-auth-down"
text_spelled text.Control = codes "control"
text_spelled text.Packets = codes "packets"

-- words whose value names a file of words
abbrev pub included_spelled : Included → List ℕ
included_spelled included.File = codes "file"
included_spelled included.Call = codes "call"

-- words with a value behind them
abbrev pub valued_spelled : Valued → List ℕ
valued_spelled (valued.Number word) = number_spelled word
valued_spelled (valued.Text word) = text_spelled word
valued_spelled valued.Pty = codes "pty"
valued_spelled valued.Connect = codes "connect"
valued_spelled valued.Asyncmap = codes "asyncmap"
valued_spelled valued.Endpoint = codes "endpoint"

-- all words of the table
abbrev pub spelled : Kind → List ℕ
spelled kind.Link = codes "link"
spelled (kind.Included word) = included_spelled word
spelled (kind.Valued word) = valued_spelled word
spelled (kind.Flag word) = flag_spelled word
spelled (kind.Ignored word) = ignored_spelled word

-- what a word is, if it is one of the table's
abbrev pub kind_of : List ℕ → Option Kind
kind_of word = find (λ (kind : Kind). bytes_eq (spelled kind) word) KINDS
