-- What option words say of one link (pppd(8), "Options").
use Rattle.std.specs.Prelude.{ℕ, Bool, false, List, [], ◌∷◌, codes, bit_or, None, unwrap_or}
use Rattle.ppp_outside.specs.declared.line_words.LineWords.{LineWords}
use Rattle.ppp_outside.specs.declared.line_words.LineWords.TheVariants.{Socket}
use Rattle.ppp_options.specs.Last.{last_of}
use Rattle.ppp_option_words.specs.Picks.{asyncmap_in, endpoint_in, line_in, local_in, number_in, remote_in, script_in, switch_in, text_in}
use Rattle.ppp_option_words.specs.Table.{default_of}
use Rattle.ppp_option_words.specs.LinkValues.{LinkValues}
use Rattle.ppp_option_words.specs.declared.flag.Flag.{Flag}
use Rattle.ppp_option_words.specs.declared.flag.Flag.TheVariants as flag
use Rattle.ppp_option_words.specs.declared.number.Number.{Number}
use Rattle.ppp_option_words.specs.declared.number.Number.TheVariants as number
use Rattle.ppp_option_words.specs.declared.text.Text.TheVariants as text
use Rattle.ppp_option_words.specs.declared.item.Item.{Item}

-- the number of the last word, or the default; 0 where the word has none
abbrev pub number_of : Number → List Item → ℕ
number_of word scope = unwrap_or (last_of (number_in word) scope) (unwrap_or (default_of word) 0)

-- whether the last of the words that switch something on or off switches it on
abbrev pub switched : List Flag → List Flag → List Item → Bool
switched on off scope = unwrap_or (last_of (switch_in on off) scope) false

-- whether the word stands there
abbrev pub on : Flag → List Item → Bool
on said scope = switched (said ∷ []) [] scope

abbrev pub line_of : List Item → LineWords
line_of scope = unwrap_or (last_of line_in scope) (Socket [])

abbrev pub name_of : List Item → List ℕ
name_of scope = unwrap_or (last_of (text_in text.Name) scope) (codes "localhost")

-- the octets of all `asyncmap` words
abbrev pub asyncmap_of : List Item → ℕ
asyncmap_of [] = 0
asyncmap_of (said ∷ scope) = bit_or (asyncmap_in said) (asyncmap_of scope)

-- The value of each option is that of its last word in its scope, looked for from the end; asyncmaps are joined.
abbrev pub link_of : List Item → LinkValues
link_of scope = record {
  line = line_of scope;
  script = last_of script_in scope;
  mru = number_of number.Mru scope;
  asyncmap = asyncmap_of scope;
  default_asyncmap = on flag.DefaultAsyncmap scope;
  nomagic = on flag.Nomagic scope;
  nopcomp = on flag.Nopcomp scope;
  noaccomp = on flag.Noaccomp scope;
  multilink = switched (flag.Multilink ∷ flag.Mp ∷ []) (flag.Nomultilink ∷ []) scope;
  mrru = number_of number.Mrru scope;
  endpoint = last_of endpoint_in scope;
  auth = switched (flag.Auth ∷ flag.RequirePap ∷ flag.RequireChap ∷ []) (flag.Noauth ∷ []) scope;
  require_pap = on flag.RequirePap scope;
  require_chap = on flag.RequireChap scope;
  refuse_pap = on flag.RefusePap scope;
  refuse_chap = on flag.RefuseChap scope;
  name = name_of scope;
  user = unwrap_or (last_of (text_in text.User) scope) (name_of scope);
  remotename = last_of (text_in text.Remotename) scope;
  password = last_of (text_in text.Password) scope;
  local = unwrap_or (last_of local_in scope) (0 ∷ 0 ∷ 0 ∷ 0 ∷ []);
  remote = unwrap_or (last_of remote_in scope) None;
  ipcp_accept_local = on flag.IpcpAcceptLocal scope;
  ipcp_accept_remote = on flag.IpcpAcceptRemote scope;
  ipparam = unwrap_or (last_of (text_in text.Ipparam) scope) [];
  unit = last_of (number_in number.Unit) scope;
  lcp_echo_interval = number_of number.LcpEchoInterval scope;
  lcp_echo_failure = number_of number.LcpEchoFailure scope;
  lcp_restart = number_of number.LcpRestart scope;
  lcp_max_configure = number_of number.LcpMaxConfigure scope;
  lcp_max_terminate = number_of number.LcpMaxTerminate scope;
  lcp_max_failure = number_of number.LcpMaxFailure scope;
  ipcp_restart = number_of number.IpcpRestart scope;
  ipcp_max_configure = number_of number.IpcpMaxConfigure scope;
  ipcp_max_terminate = number_of number.IpcpMaxTerminate scope;
  ipcp_max_failure = number_of number.IpcpMaxFailure scope;
  persist = switched (flag.Persist ∷ flag.Demand ∷ []) (flag.Nopersist ∷ []) scope;
  demand = on flag.Demand scope;
  holdoff = number_of number.Holdoff scope;
  maxfail = number_of number.Maxfail scope;
  idle = number_of number.Idle scope;
  maxconnect = number_of number.Maxconnect scope;
}
