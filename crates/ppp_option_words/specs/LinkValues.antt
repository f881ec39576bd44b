-- What a clause sees of the options of one link.
use Rattle.std.specs.Prelude.{ℕ, ◌≤◌, Bool, List, Option}
use Rattle.ppp_base.specs.Disc.{Discriminator}
use Rattle.ppp_chat.specs.Script.{ChatScript}
use Rattle.ppp_outside.specs.declared.line_words.LineWords.{LineWords}

pub record LinkValues : Type 0 where
  pub line : LineWords
  pub script : Option ChatScript
  pub mru : ℕ
  pub asyncmap : ℕ
  pub default_asyncmap : Bool
  pub nomagic : Bool
  pub nopcomp : Bool
  pub noaccomp : Bool
  pub multilink : Bool
  pub mrru : ℕ
  pub endpoint : Option Discriminator
  pub auth : Bool
  pub require_pap : Bool
  pub require_chap : Bool
  pub refuse_pap : Bool
  pub refuse_chap : Bool
  pub name : List ℕ
  pub user : List ℕ
  pub remotename : Option (List ℕ)
  pub password : Option (List ℕ)
  pub local : List ℕ
  pub remote : Option (List ℕ)
  pub ipcp_accept_local : Bool
  pub ipcp_accept_remote : Bool
  pub ipparam : List ℕ
  pub unit : Option ℕ
  pub lcp_echo_interval : ℕ
  pub lcp_echo_failure : ℕ
  pub lcp_restart : ℕ
  pub lcp_max_configure : ℕ
  pub lcp_max_terminate : ℕ
  pub lcp_max_failure : ℕ
  pub ipcp_restart : ℕ
  pub ipcp_max_configure : ℕ
  pub ipcp_max_terminate : ℕ
  pub ipcp_max_failure : ℕ
  pub persist : Bool
  pub demand : Bool
  pub holdoff : ℕ
  pub maxfail : ℕ
  pub idle : ℕ
  pub maxconnect : ℕ
