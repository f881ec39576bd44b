use Rattle.std.proofs.Common.{subst}
use Rattle.ppp_packet.specs.declared.auth_out.AuthOutcome.{AuthOutcome}
use Rattle.ppp_packet.specs.declared.auth_out.AuthOutcome.TheVariants.{Waiting, Passed, Refused}
use Rattle.ppp_chap.proofs.PeerLemmas.{Means, means, same}
use Rattle.ppp_chap.proofs.laws.peer.results_decide.Goals as goal

pub returns-clause-passed : goal.returns-clause-passed
returns-clause-passed c = λ name password past who line. (
  λ e. subst (λ (o : AuthOutcome). Means name password past o) e (means name password past),
  λ m. same name password past _ (Passed who line) (means name password past) m,
)

pub returns-clause-refused : goal.returns-clause-refused
returns-clause-refused c = λ name password past who. (
  λ e. subst (λ (o : AuthOutcome). Means name password past o) e (means name password past),
  λ m. same name password past _ (Refused who) (means name password past) m,
)

pub returns-clause-waits : goal.returns-clause-waits
returns-clause-waits c = λ name password past. (
  λ e. subst (λ (o : AuthOutcome). Means name password past o) e (means name password past),
  λ m. same name password past _ Waiting (means name password past) m,
)

pub returns-clause-never : goal.returns-clause-never
returns-clause-never c = λ name password past times e. subst (λ (o : AuthOutcome). Means name password past o) e (means name password past)
