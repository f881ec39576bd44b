-- A send, and where a call that has sent stops.
use Rattle.std.proofs.Common.{ℕ, ◌≡◌, true, false, nat_eq, IfSome, Option, None, Some, List, [], ◌∷◌, ◌++◌, length, refl, sym, ◌∙◌, arith}
use Rattle.std.proofs.lemmas.Bool.Decides.{nat_tests}
use Rattle.ppp_chat.specs.Settings.{Settings}
use Rattle.ppp_chat.specs.ChatOf.{Course}
use Rattle.ppp_chat.specs.Course.{sending, at_next}
use Rattle.ppp_chat.specs.ChatState.{rest}
use Rattle.ppp_chat.specs.Event.{Event}
use Rattle.ppp_chat.specs.Walking.{so_far}
use Rattle.ppp_chat.specs.declared.directives.Directives.{Directives}
use Rattle.ppp_chat.specs.declared.stage.Stage.{Stage}
use Rattle.ppp_chat.specs.declared.stage.Stage.TheVariants.{Waiting}
use Rattle.ppp_chat.specs.declared.step.Step.{Step}
use Rattle.ppp_chat.specs.declared.step.Step.TheVariants.{Send}
use Rattle.ppp_chat.specs.declared.walk.Turn.{Turn}

is_some : (x : ℕ) (xs : List ℕ) → nat_eq (length (x ∷ xs)) 0 ≡ false
is_some x xs = grind (arith, nat_tests)

true_is_not_false : true ≡ false → ⊥
true_is_not_false e = cc

next_same : (f g : ℕ → List Event → Course) (later : List Event) → ((now : ℕ) (more : List Event) → f now more ≡ g now more) → at_next f later ≡ at_next g later
next_same f g [] same = refl
next_same f g (event ∷ later) same = same event.at later

waits : (sent octets : List ℕ) (left : List Step) (s : Settings) (now : ℕ) (later : List Event)
    → nat_eq (length octets) 0 ≡ false → nat_eq (length sent) 0 ≡ false
    → so_far (record { met = false; sent = sent }) (Send octets ∷ left) s now later ≡ sending sent (rest Waiting (Send octets ∷ left) s [] later)
waits sent [] left s now later some has = cc
waits [] (o ∷ octets) left s now later some has = cc
waits (x ∷ sent) (o ∷ octets) left s now later some has = refl

sends : (sent octets : List ℕ) (left : List Step) (s : Settings) (now : ℕ) (later : List Event)
    → nat_eq (length octets) 0 ≡ false → nat_eq (length sent) 0 ≡ true
    → so_far (record { met = false; sent = sent }) (Send octets ∷ left) s now later ≡ so_far (record { met = false; sent = octets }) left s now later
sends sent [] left s now later some has = cc
sends [] (o ∷ octets) left s now later some has = refl
sends (x ∷ sent) (o ∷ octets) left s now later some has = absurd (true_is_not_false (sym has ∙ is_some x sent))

-- where this call has sent others, the octets wait
pub send_waits : (turn : Turn) (octets : List ℕ) (left : List Step) (s : Settings) (now : ℕ) (later : List Event) → turn.met ≡ false
    → nat_eq (length octets) 0 ≡ false → nat_eq (length turn.sent) 0 ≡ false
    → so_far turn (Send octets ∷ left) s now later ≡ sending turn.sent (rest Waiting (Send octets ∷ left) s [] later)
send_waits turn octets left s now later met some has = rw met (waits turn.sent octets left s now later some has)

-- where it has sent none, they are sent
pub send_sends : (turn : Turn) (octets : List ℕ) (left : List Step) (s : Settings) (now : ℕ) (later : List Event) → turn.met ≡ false
    → nat_eq (length octets) 0 ≡ false → nat_eq (length turn.sent) 0 ≡ true
    → so_far turn (Send octets ∷ left) s now later ≡ so_far (record { met = turn.met; sent = octets }) left s now later
send_sends turn octets left s now later met some has = rw met (sends turn.sent octets left s now later some has)

-- what stays is so, where a call stops
pub stays_where_stopped : (o : Option Stage) (d : Directives) → IfSome o (λ _. d ≡ d)
stays_where_stopped None d = tt
stays_where_stopped (Some stage) d = refl

-- behind no octets others stand alone
pub none_before : (sent octets : List ℕ) → nat_eq (length sent) 0 ≡ true → sent ++ octets ≡ octets
none_before [] octets none = refl
none_before (x ∷ sent) octets none = absurd (true_is_not_false (sym none ∙ is_some x sent))
