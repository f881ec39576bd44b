-- Which address a peer may have, said as what is so of it (RFC 1332, section 3.3; pppd(8): ipcp-accept-remote, and the addresses of a secrets line).
use Rattle.std.specs.Prelude.{ℕ, ◌≡◌, ◌≢◌, ◌⊎◌, true, false, Some, List, [], ◌∷◌, length}
use Rattle.std.specs.Int.{from_be_bytes, w32}
use Rattle.ppp_base.specs.declared.allow.Allow.{Allow}
use Rattle.ppp_packet.specs.OptionsOf.{Item}
use Rattle.ppp_secrets.specs.declared.secrets.SecretsPair.{SecretsPair}
use Rattle.ppp_secrets.specs.Allows.{pair_allows}
use Rattle.ppp_control.specs.Rules.{Call, by_itself, ticks, hears, rejects}
use Rattle.ppp_ipcp.specs.declared.judge.TheConstants.{IP_ADDRESS}
use Rattle.ppp_ipcp.specs.declared.wish.IpWish.{IpWish}
use Rattle.ppp_ipcp.specs.Address.{no_address}
use Rattle.ppp_ipcp.specs.Agreed.{wished_remote}
use Rattle.ppp_ipcp.specs.Around.{Around}
use Rattle.ppp_ipcp.specs.Session.{IpcpCall}

-- It isn't 0.0.0.0; the line of the peer's secret allows it; and it is the wished one, where one is wished and no other may be taken.
pub record MayHave (wish : IpWish) (allow : Allow) (secrets : SecretsPair) (address : List ℕ) : Type 0 where
  pub some : address ≢ no_address
  pub allowed : pair_allows secrets.pap secrets.chap allow (from_be_bytes w32 address) ≡ true
  pub wished : (other : List ℕ) → wish.remote ≡ Some other → wish.accept_remote ≡ false → address ≡ other

-- an IP-Address option, which has four octets
pub record IsAddress (i : Item) : Type 0 where
  pub kind : i.kind ≡ IP_ADDRESS
  pub size : length i.body ≡ 4

-- Each packet was heard with these secrets and this line of them.
abbrev pub IsWith : Allow → SecretsPair → Call Around → Type 0
IsWith allow secrets (by_itself own) = Unit {0}
IsWith allow secrets ticks = Unit {0}
IsWith allow secrets (hears p a) = (a.allow ≡ allow) × (a.secrets ≡ secrets)
IsWith allow secrets (rejects protocol information) = Unit {0}

abbrev pub AllWith : Allow → SecretsPair → List IpcpCall → Type 0
AllWith allow secrets [] = Unit {0}
AllWith allow secrets (c ∷ past) = IsWith allow secrets c.call × AllWith allow secrets past

-- What the peer has in Opened: an address that it may have; or, where its request names none, the wished one, or 0.0.0.0 where none is wished.
abbrev pub HasWhatItMay : IpWish → Allow → SecretsPair → List ℕ → Type 0
HasWhatItMay wish allow secrets remote = MayHave wish allow secrets remote ⊎ (remote ≡ wished_remote wish)
