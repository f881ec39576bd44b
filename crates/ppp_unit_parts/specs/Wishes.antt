-- What the options of a bundle's maker ask of the bundle (pppd(8)).
use Rattle.std.specs.Prelude.{◌≡◌}
use Rattle.ppp_fsm.specs.declared.fsm.Limits.{Limits}
use Rattle.ppp_ipcp.specs.declared.wish.IpWish.{IpWish}
use Rattle.ppp_option_words.specs.Home.{device_of}
use Rattle.ppp_option_words.specs.LinkValues.{LinkValues}
use Rattle.ppp_unit_parts.specs.declared.wish.UnitWish.{UnitWish}

-- Of IPCP: our address and the peer's of the last word `A:B`, whether the peer may name others, and how often and how long a request is sent. The limits
-- of requests are values of their own.
abbrev pub ip_wish : Limits → LinkValues → IpWish
ip_wish limits c = record {
  local = c.local;
  remote = c.remote;
  accept_local = c.ipcp_accept_local;
  accept_remote = c.ipcp_accept_remote;
  restart_s = c.ipcp_restart;
  limits = limits;
  max_failure = c.ipcp_max_failure;
}

-- What is asked of a bundle is what these options say: of IPCP, how long it lasts, and what its scripts are told.
pub record IsUnitWish (c : LinkValues) (wish : UnitWish) : Type 0 where
  pub ip : wish.ip ≡ ip_wish wish.ip.limits c
  pub configure : wish.ip.limits.configure ≡ c.ipcp_max_configure
  pub terminate : wish.ip.limits.terminate ≡ c.ipcp_max_terminate
  pub idle : wish.idle_s ≡ c.idle
  pub maxconnect : wish.maxconnect_s ≡ c.maxconnect
  pub device : wish.device ≡ device_of c.line
  pub param : wish.param ≡ c.ipparam
