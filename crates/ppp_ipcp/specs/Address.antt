-- Which address a peer may take (RFC 1332, section 3.3; pppd(8): ipcp-accept-remote, and the addresses of a secrets line).
use Rattle.std.specs.Prelude.{ℕ, ◌==◌, nat_eq, not, ◌&&◌, ◌||◌, Bool, true, if◌then◌else◌, Option, Some, None, List, [], ◌∷◌, length}
use Rattle.std.specs.Cmp.Lexicographic.{pointwise}
use Rattle.std.specs.Int.{from_be_bytes, w32}
use Rattle.ppp_base.specs.declared.allow.Allow.{Allow}
use Rattle.ppp_packet.specs.OptionsOf.{Item}
use Rattle.ppp_secrets.specs.declared.secrets.SecretsPair.{SecretsPair}
use Rattle.ppp_secrets.specs.Allows.{pair_allows}
use Rattle.ppp_control.specs.Answers.{Judgement, acks, names, rejects}
use Rattle.ppp_ipcp.specs.declared.judge.TheConstants.{IP_ADDRESS}
use Rattle.ppp_ipcp.specs.declared.wish.IpWish.{IpWish}

-- 0.0.0.0, which stands for no address
abbrev pub no_address : List ℕ
no_address = 0 ∷ 0 ∷ 0 ∷ 0 ∷ []

abbrev pub same_address : List ℕ → List ℕ → Bool
same_address a b = pointwise nat_eq a b

-- the address that an option's data are: four octets
abbrev pub address_in : List ℕ → Option (List ℕ)
address_in body = if length body == 4 then Some body else None

-- the address of an option, if it is an IP-Address
abbrev pub address_of : Item → Option (List ℕ)
address_of i = if i.kind == IP_ADDRESS then address_in i.body else None

-- Whether it is the wished address, or another may be taken; where none is wished, any is as good.
abbrev pub is_wished : Option (List ℕ) → Bool → List ℕ → Bool
is_wished None any address = true
is_wished (Some wished) any address = same_address address wished || any

-- Whether a peer may have an address: it isn't 0.0.0.0, the line of the peer's secret allows it, and it is wished.
abbrev pub may_have : IpWish → Allow → SecretsPair → List ℕ → Bool
may_have wish allow secrets address =
    not (same_address address no_address) && pair_allows secrets.pap secrets.chap allow (from_be_bytes w32 address) && is_wished wish.remote wish.accept_remote address

-- For an address that the peer may not have the wished one is named, if one is wished. All other options are rejected.
abbrev pub wished_or_none : Option (List ℕ) → Judgement
wished_or_none None = rejects
wished_or_none (Some wished) = names wished

abbrev pub judged_as : IpWish → Allow → SecretsPair → Option (List ℕ) → Judgement
judged_as wish allow secrets None = rejects
judged_as wish allow secrets (Some address) = if may_have wish allow secrets address then acks else wished_or_none wish.remote

abbrev pub judged_where : IpWish → Allow → SecretsPair → Item → Judgement
judged_where wish allow secrets i = judged_as wish allow secrets (address_of i)
