use Rattle.std.proofs.Common.{◌≡◌, true, subst}
use Rattle.ppp_dial.specs.declared.now.DialNow.{DialNow}
use Rattle.ppp_dial.specs.DialLaw.{is_allowed}
use Rattle.ppp_dial.specs.LookingBack.{so_far}
use Rattle.ppp_dial.proofs.FinishLemmas.{goes_on, why_finished}
use Rattle.ppp_dial.proofs.PassingLemmas.{passed_over}
use Rattle.ppp_dial.proofs.PlaceLemmas.{allowed-at, attempt_follows, hold_follows, nothing_follows, wait_follows}
use Rattle.ppp_dial.proofs.laws.each_in_its_place.Goals as goal

pub returns-clause-attempt : goal.returns-clause-attempt
returns-clause-attempt c policy before later earlier h law is =
    attempt_follows policy (so_far before earlier) h.call
    (subst (λ (a : DialNow). is_allowed policy (so_far before earlier) h.call a ≡ true) is (allowed-at policy before later earlier h law))

pub returns-clause-wait : goal.returns-clause-wait
returns-clause-wait c policy before later earlier h law is =
    wait_follows policy (so_far before earlier) h.call
    (subst (λ (a : DialNow). is_allowed policy (so_far before earlier) h.call a ≡ true) is (allowed-at policy before later earlier h law))

pub returns-clause-hold : goal.returns-clause-hold
returns-clause-hold c policy before later earlier h ms law is =
    hold_follows policy (so_far before earlier) h.call ms
    (subst (λ (a : DialNow). is_allowed policy (so_far before earlier) h.call a ≡ true) is (allowed-at policy before later earlier h law))

pub returns-clause-goes_on : goal.returns-clause-goes_on
returns-clause-goes_on c policy before later earlier h law over not_end =
    goes_on policy before earlier h over not_end (allowed-at policy before later earlier h law)

pub returns-clause-finish : goal.returns-clause-finish
returns-clause-finish c policy before later earlier h status law is =
    why_finished policy before earlier h status
    (subst (λ (a : DialNow). is_allowed policy (so_far before earlier) h.call a ≡ true) is (allowed-at policy before later earlier h law))

pub returns-clause-nothing : goal.returns-clause-nothing
returns-clause-nothing c policy before later earlier h law is =
    passed_over policy (so_far before earlier) h.call
    (subst (λ (a : DialNow). is_allowed policy (so_far before earlier) h.call a ≡ true) is (allowed-at policy before later earlier h law))

pub returns-clause-finished : goal.returns-clause-finished
returns-clause-finished c policy before later earlier h status law is =
    nothing_follows policy (so_far before earlier) h.call h.answer status is (allowed-at policy before later earlier h law)
