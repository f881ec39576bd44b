use Rattle.std.proofs.Common.{subst}
use Rattle.ppp_packet.specs.declared.auth_out.AuthOutcome.{AuthOutcome}
use Rattle.ppp_packet.specs.declared.auth_out.AuthOutcome.TheVariants.{Waiting, Passed, Refused, Unanswered}
use Rattle.ppp_pap.proofs.PeerLemmas.{Means, means, same}
use Rattle.ppp_pap.proofs.laws.peer.answers_decide.Goals as goal

pub returns-clause-passed : goal.returns-clause-passed
returns-clause-passed c = λ name past who line.
    (λ e. subst (λ (o : AuthOutcome). Means name past o) e (means name past), λ m. same name past _ (Passed who line) (means name past) m)

pub returns-clause-refused : goal.returns-clause-refused
returns-clause-refused c = λ name past who.
    (λ e. subst (λ (o : AuthOutcome). Means name past o) e (means name past), λ m. same name past _ (Refused who) (means name past) m)

pub returns-clause-unanswered : goal.returns-clause-unanswered
returns-clause-unanswered c = λ name past times.
    (λ e. subst (λ (o : AuthOutcome). Means name past o) e (means name past), λ m. same name past _ (Unanswered times) (means name past) m)

pub returns-clause-waits : goal.returns-clause-waits
returns-clause-waits c = λ name past.
    (λ e. subst (λ (o : AuthOutcome). Means name past o) e (means name past), λ m. same name past _ Waiting (means name past) m)
