-- A link that hasn't begun is calm.
use Rattle.std.proofs.Common.{ℕ, refl, arith}
use Rattle.ppp_lcp.specs.declared.wish.LcpWish.{LcpWish}
use Rattle.ppp_option_words.specs.LinkValues.{LinkValues}
use Rattle.ppp_secrets.specs.declared.secrets.SecretsPair.{SecretsPair}
use Rattle.ppp_link_rules.specs.NewLink.{new_link}
use Rattle.ppp_link_rules.specs.Wishes.{IsWish}
use Rattle.ppp_link_core.specs.Standing.{StandsFor}
use Rattle.ppp_link_core.specs.declared.link_core.LinkCore.{LinkCore}
use Rattle.ppp_link_steps.specs.Calm.{Calm, IsCalm}

nothing_yet : (id seed limit : ℕ) (config : LinkValues) (wish : LcpWish) (secrets : SecretsPair) → IsCalm (new_link id config wish secrets seed limit)
nothing_yet id seed limit config wish secrets = record { still = λ _. record { shut = refl; hushed = refl }; few = omega arith }

pub new_calm : {S : Type 0} {c : LinkCore S} {id seed limit : ℕ} {config : LinkValues} {secrets : SecretsPair} {wish : LcpWish}
    → IsWish config wish → ((w : LcpWish) → IsWish config w → StandsFor c (new_link id config w secrets seed limit)) → Calm c
new_calm {id = id} {seed = seed} {limit = limit} {config = config} {secrets = secrets} {wish = wish} e h = record {
  state = new_link id config wish secrets seed limit;
  stands = h wish e;
  calm = nothing_yet id seed limit config wish secrets;
}
