-- A judge's outcome is what the first call that decides says.
use Rattle.std.proofs.Common.{◌≡◌, Bool, true, false, List, [], ◌∷◌, ◌++◌, refl, sym, ap, ◌∙◌}
use Rattle.ppp_packet.specs.declared.auth_out.AuthOutcome.{AuthOutcome}
use Rattle.ppp_packet.specs.declared.auth_out.AuthOutcome.TheVariants.{Waiting, Passed, Refused, Unanswered}
use Rattle.ppp_proving.specs.Calls.{Answered, first_of, is_waiting}
use Rattle.ppp_proving.specs.Which.{NoneOf, IsFirst}

-- An outcome is made call by call of what each call says, and a call says something where it decides.
pub record Judges (out : List Answered → AuthOutcome) (said : List Answered → Answered → AuthOutcome) (Decides : Answered → List Answered → Type 0) : Type 0 where
  pub none : out [] ≡ Waiting
  pub more : (h : Answered) (past : List Answered) → out (h ∷ past) ≡ first_of (out past) (said past h)
  pub quiet : (h : Answered) (past : List Answered) → (Decides h past → ⊥) → said past h ≡ Waiting
  pub loud : (h : Answered) (past : List Answered) → said past h ≡ Waiting → Decides h past → ⊥
  pub decided : (h : Answered) (past : List Answered) → is_waiting (said past h) ≡ false → Decides h past

both_wait : (before later : AuthOutcome) → first_of before later ≡ Waiting → (before ≡ Waiting) × (later ≡ Waiting)
both_wait Waiting later e = (refl, e)
both_wait (Passed name line) later e = absurd cc
both_wait (Refused name) later e = absurd cc
both_wait (Unanswered times) later e = absurd cc

stays_once : (before later : AuthOutcome) → is_waiting before ≡ false → first_of before later ≡ before
stays_once Waiting later e = absurd cc
stays_once (Passed name line) later e = refl
stays_once (Refused name) later e = refl
stays_once (Unanswered times) later e = refl

waits : (o : AuthOutcome) → is_waiting o ≡ true → o ≡ Waiting
waits Waiting e = refl
waits (Passed name line) e = absurd cc
waits (Refused name) e = absurd cc
waits (Unanswered times) e = absurd cc

not_waiting : (o : AuthOutcome) → (o ≡ Waiting → ⊥) → is_waiting o ≡ false
not_waiting Waiting not = absurd (not refl)
not_waiting (Passed name line) not = refl
not_waiting (Refused name) not = refl
not_waiting (Unanswered times) not = refl

-- Nothing is known where no call decides.
pub waiting_none : {out : List Answered → AuthOutcome} {said : List Answered → Answered → AuthOutcome} {Decides : Answered → List Answered → Type 0} →
    Judges out said Decides → (past : List Answered) → out past ≡ Waiting → NoneOf Decides past
waiting_none j [] e = tt
waiting_none j (h ∷ past) e =
    let both = both_wait _ _ (sym (j.more h past) ∙ e) in
    (j.loud h past both.1, waiting_none j past both.0)

pub none_waiting : {out : List Answered → AuthOutcome} {said : List Answered → Answered → AuthOutcome} {Decides : Answered → List Answered → Type 0} →
    Judges out said Decides → (past : List Answered) → NoneOf Decides past → out past ≡ Waiting
none_waiting j [] n = j.none
none_waiting {said = said} j (h ∷ past) n = j.more h past ∙ ap (λ o. first_of o (said past h)) (none_waiting j past n.1) ∙ j.quiet h past n.0

-- An outcome stays.
pub stays : {out : List Answered → AuthOutcome} {said : List Answered → Answered → AuthOutcome} {Decides : Answered → List Answered → Type 0} →
    Judges out said Decides → (later past : List Answered) → is_waiting (out past) ≡ false → out (later ++ past) ≡ out past
stays j [] past e = refl
stays {said = said} j (h ∷ later) past e =
    let before = stays j later past e in
    j.more h (later ++ past) ∙ ap (λ o. first_of o (said (later ++ past) h)) before ∙ stays_once _ _ e

-- Where there is an outcome, the first call that decides says it.
pub first_says : {out : List Answered → AuthOutcome} {said : List Answered → Answered → AuthOutcome} {Decides : Answered → List Answered → Type 0} →
    Judges out said Decides → (past : List Answered) → is_waiting (out past) ≡ false →
    (call : Answered) × (earlier : List Answered) × IsFirst Decides past call earlier × (out past ≡ said earlier call)
first_says j [] e = absurd (cc (j.none, e))
first_says {out = out} {said = said} {Decides = Decides} j (h ∷ past) e = go (is_waiting (out past)) refl (first_says j past)
  where
    go : (test : Bool) → is_waiting (out past) ≡ test →
        (is_waiting (out past) ≡ false → (call : Answered) × (earlier : List Answered) × IsFirst Decides past call earlier × (out past ≡ said earlier call)) →
        (call : Answered) × (earlier : List Answered) × IsFirst Decides (h ∷ past) call earlier × (out (h ∷ past) ≡ said earlier call)
    go true t rest =
        let nothing : out past ≡ Waiting = waits _ t in
        let says : out (h ∷ past) ≡ said past h = j.more h past ∙ ap (λ o. first_of o (said past h)) nothing in
        (h, past, record { later = []; split = refl; does = j.decided h past (sym (ap is_waiting says) ∙ e); none = waiting_none j past nothing }, says)
    go false t rest =
        let r = rest t in (
          r.0,
          r.1,
          record { later = h ∷ r.2.later; split = ap (λ calls. h ∷ calls) r.2.split; does = r.2.does; none = r.2.none },
          j.more h past ∙ stays_once _ _ t ∙ r.3,
        )

-- What the first call that decides says is the outcome.
pub said_first : {out : List Answered → AuthOutcome} {said : List Answered → Answered → AuthOutcome} {Decides : Answered → List Answered → Type 0} →
    Judges out said Decides → (past : List Answered) (call : Answered) (earlier : List Answered) → IsFirst Decides past call earlier → out past ≡ said earlier call
said_first {out = out} {said = said} j past call earlier f =
    let here : out (call ∷ earlier) ≡ said earlier call = j.more call earlier ∙ ap (λ o. first_of o (said earlier call)) (none_waiting j earlier f.none) in
    let known : is_waiting (out (call ∷ earlier)) ≡ false = ap is_waiting here ∙ not_waiting _ (λ e. j.loud call earlier e f.does) in
    ap out f.split ∙ stays j f.later (call ∷ earlier) known ∙ here
