-- What the options of a link ask of its parts (pppd(8)).
use Rattle.std.specs.Prelude.{ℕ, ◌≡◌, ◌&&◌, ◌||◌, not, Bool, List, [], ◌∷◌}
use Rattle.ppp_fsm.specs.declared.fsm.Limits.{Limits}
use Rattle.ppp_lcp.specs.declared.wish.LcpWish.{LcpWish}
use Rattle.ppp_auth.specs.declared.config.AuthConfig.{AuthConfig}
use Rattle.ppp_dial.specs.declared.policy.DialPolicy.{DialPolicy}
use Rattle.ppp_outside.specs.declared.hook_words.HookArgs.{HookArgs}
use Rattle.ppp_option_words.specs.Home.{device_of, home_unit}
use Rattle.ppp_option_words.specs.LinkValues.{LinkValues}

-- With `auth` alone the peer may prove itself by either method; where one is required, by what is required alone.
abbrev pub wants : Bool → Bool → Bool → Bool
wants auth required other = auth && (required || not other)

-- The limits of requests are values of their own.
abbrev pub lcp_wish : Limits → LinkValues → LcpWish
lcp_wish limits c = record {
  mru = c.mru;
  map = c.asyncmap;
  default_map = c.default_asyncmap;
  magic = not c.nomagic;
  pfc = not c.nopcomp;
  acfc = not c.noaccomp;
  multilink = c.multilink;
  mrru = c.mrru;
  disc = c.endpoint;
  want_pap = wants c.auth c.require_pap c.require_chap;
  want_chap = wants c.auth c.require_chap c.require_pap;
  refuse_pap = c.refuse_pap;
  refuse_chap = c.refuse_chap;
  echo_interval_s = c.lcp_echo_interval;
  echo_failure = c.lcp_echo_failure;
  restart_s = c.lcp_restart;
  limits = limits;
  max_failure = c.lcp_max_failure;
}

-- What LCP is asked for is what these options say.
pub record IsWish (c : LinkValues) (wish : LcpWish) : Type 0 where
  pub all : wish ≡ lcp_wish wish.limits c
  pub configure : wish.limits.configure ≡ c.lcp_max_configure
  pub terminate : wish.limits.terminate ≡ c.lcp_max_terminate

abbrev pub auth_config : LinkValues → AuthConfig
auth_config c = record { name = c.name; user = c.user; password = c.password; remotename = c.remotename }

abbrev pub dial_policy : LinkValues → DialPolicy
dial_policy c = record { persist = c.persist; demand = c.demand; holdoff_s = c.holdoff; maxfail = c.maxfail }

-- What the auth scripts are told of a peer that has proved itself by this name.
abbrev pub script_args : ℕ → LinkValues → List ℕ → HookArgs
script_args link c peer = record {
  unit = home_unit link c.unit;
  device = device_of c.line;
  peer = peer;
  local = 0 ∷ 0 ∷ 0 ∷ 0 ∷ [];
  remote = 0 ∷ 0 ∷ 0 ∷ 0 ∷ [];
  param = [];
}
