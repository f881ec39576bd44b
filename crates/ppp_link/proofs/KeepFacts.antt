-- A link stays whole: its objects are where its errands say, and the counts of its dialer are those of its sessions.
use Rattle.std.proofs.Common.{arith, refl, ap, sym, subst, ◌∙◌, ◌≡◌, ℕ, ◌+◌, ◌-◌, ◌<◌, ◌≤◌, Bool, true, false, not, Option, None, Some, List, is_some}
use Rattle.std.specs.Prelude.{IfSome}
use Rattle.ppp_hooks.specs.HookState.{WasHandedIn}
use Rattle.ppp_outside.specs.Dialer.{DialerState}
use Rattle.ppp_outside.specs.Line.{LineState}
use Rattle.ppp_link_core.specs.declared.link_core.LinkCore.{LinkCore}
use Rattle.ppp_link_core.specs.Standing.{StandsFor}
use Rattle.ppp_link_events.specs.Going.{Goes, IsGoing, Takes as Took}
use Rattle.ppp_link_facts.specs.LinkStands.{LinkStands}
use Rattle.ppp_link_parts.specs.Records.{told}
use Rattle.ppp_link_rules.specs.declared.errand.Errand.{Errand}
use Rattle.ppp_link_rules.proofs.CountLemmas.{each_event}
use Rattle.ppp_link_rules.specs.LinkEvent.{Bytes, Event}
use Rattle.ppp_link_rules.specs.LinkPart.{after, is_present}
use Rattle.ppp_link_rules.specs.LinkState.{LinkState, control, is_out, is_waiting}
use Rattle.ppp_link.specs.declared.body.LinkBody.{LinkBody}
use Rattle.ppp_link.specs.Between.{IsInStep, MovesTo, brings_nothing, dials_made, made_by}
use Rattle.ppp_link.specs.Link.{IsWhole, dials_of, halves_kept, kept_if, with_core}
use Rattle.ppp_link.specs.Steps.{Takes}
use Rattle.ppp_link.proofs.DialFacts.{each-moves}

-- WHAT IS SO OF A STATE

-- a link that stands has its dial in step
pub in_step : (s : LinkState) → LinkStands s → IsInStep s
in_step s h = record { said = h.steps.stands.said; dials = λ e. h.errands.dial ∙ ap not e }

pub dial_is : {S : Type 0} {c : LinkCore S} {s : LinkState} → StandsFor c s → c.dial ≡ s.dial
dial_is k = ap (λ (y : LinkState). y.dial) k.is

pub reading_is : {S : Type 0} {c : LinkCore S} {s : LinkState} → StandsFor c s → c.reading ≡ s.reading
reading_is k = ap (λ (y : LinkState). y.reading) k.is

pub writing_is : {S : Type 0} {c : LinkCore S} {s : LinkState} → StandsFor c s → c.writing ≡ s.writing
writing_is k = ap (λ (y : LinkState). y.writing) k.is

pub failed_is : {S : Type 0} {c : LinkCore S} {s : LinkState} → StandsFor c s → c.failed_dials ≡ s.failed_dials
failed_is k = ap (λ (y : LinkState). y.failed_dials) k.is

pub session_is : {S : Type 0} {c : LinkCore S} {s : LinkState} → StandsFor c s → (told c.records).session ≡ (control s).session
session_is k = ap (λ (y : LinkState). (control y).session) k.is

pub dials_is : {S : Type 0} {c : LinkCore S} {s : LinkState} → StandsFor c s → dials_of c ≡ dials_made s
dials_is k = ap (λ (y : LinkState). dials_made y) k.is

-- OBJECTS

pub kept_some : {A : Type 0} (w : Bool) (o : Option A) → (w ≡ true → is_some o ≡ true) → is_some (kept_if w o) ≡ w
kept_some true o h = h refl
kept_some false o h = refl

pub kept_holds : {A : Type 0} (w : Bool) (o : Option A) (P : A → Type 0) → IfSome o P → IfSome (kept_if w o) P
kept_holds true o P h = h
kept_holds false o P h = tt

pub counts_to : {D : Type 0} (P : D → ℕ → ℕ → Type 0) (o : Option D) {a b c d : ℕ} → a ≡ b → c ≡ d → IfSome o (λ x. P x a c) → IfSome o (λ x. P x b d)
counts_to P o {a = a} {b = b} {c = c} {d = d} e f h = subst (λ (y : ℕ). IfSome o (λ x. P x b y)) f (subst (λ (y : ℕ). IfSome o (λ x. P x y c)) e h)

-- The counts of a dialer, as a relation of two numbers.
abbrev pub Tried : {D : Type 0} → (D → DialerState) → D → ℕ → ℕ → Type 0
Tried dialer_of d dials failed = WasHandedIn (dialer_of d).tries (dialer_of d).faults dials failed

-- The objects fit a state, in which each half of the line that waits to be taken is there.
pub record Fits {D I O S : Type 0} (dialer_of : D → DialerState) (line_of : I → LineState) (m : LinkState) (l : LinkBody D I O S) : Type 0 where
  pub dialer : is_some l.dialer ≡ not (is_out m.dial)
  pub input : is_waiting m.reading ≡ true → is_some l.input ≡ true
  pub output : is_waiting m.writing ≡ true → is_some l.output ≡ true
  pub counts : IfSome l.dialer (λ d. Tried dialer_of d (dials_made m) m.failed_dials)
  pub given : IfSome l.input (λ i. l.given ≡ (line_of i).taken)

-- What moves on from there keeps them, but for the halves whose errand doesn't wait.
pub whole_by : {D I O S : Type 0} {f : D → DialerState} {g : I → LineState} {m t : LinkState} {l : LinkBody D I O S} {c : LinkCore S}
    → Fits f g m l → MovesTo m t → StandsFor c t → Goes c → IsWhole f g (halves_kept (with_core c l))
whole_by {f = f} {g = g} {m = m} {t = t} {l = l} {c = c} fits to k goes = record {
  goes = goes;
  dialer = fits.dialer ∙ ap not (sym to.out ∙ ap is_out (sym (dial_is k)));
  input = kept_some (is_waiting c.reading) l.input (λ e. fits.input (to.reading (ap is_waiting (sym (reading_is k)) ∙ e)));
  output = kept_some (is_waiting c.writing) l.output (λ e. fits.output (to.writing (ap is_waiting (sym (writing_is k)) ∙ e)));
  counts = counts_to (Tried f) l.dialer (sym to.made ∙ sym (dials_is k)) (sym to.failed ∙ sym (failed_is k)) fits.counts;
  given = kept_holds (is_waiting c.reading) l.input (λ i. l.given ≡ (g i).taken) fits.given;
}

pub fits_whole : {D I O S : Type 0} {f : D → DialerState} {g : I → LineState} {s : LinkState} {l : LinkBody D I O S}
    → IsWhole f g l → StandsFor l.core s → Fits f g s l
fits_whole {f = f} {l = l} w k = record {
  dialer = w.dialer ∙ ap not (ap is_out (dial_is k));
  input = λ e. w.input ∙ (ap is_waiting (reading_is k) ∙ e);
  output = λ e. w.output ∙ (ap is_waiting (writing_is k) ∙ e);
  counts = counts_to (Tried f) l.dialer (dials_is k) (failed_is k) w.counts;
  given = w.given;
}

-- EVENTS WITH WHICH NO OBJECT COMES

-- An event is present at each state that a machine goes in.
abbrev pub IsThere : {S : Type 0} → Event → LinkCore S → Type 0
IsThere event c = (s : LinkState) → IsGoing c s → is_present event s ≡ true

pub told_whole : {D I O S : Type 0} {f : D → DialerState} {g : I → LineState} {l : LinkBody D I O S} {c : LinkCore S} (event : Event)
    → brings_nothing event ≡ true → IsThere event l.core → Took event l.core c → Goes c → IsWhole f g l → IsWhole f g (halves_kept (with_core c l))
told_whole event b there took goes w =
    let s : LinkState = w.goes.state in
    let k : IsGoing _ s = w.goes.going in
    whole_by (fits_whole w k.stands) (each-moves event s b (in_step s k.holds)) (took.leaves s k (there s k)).stands goes

pub told_takes : {D I O S : Type 0} {l : LinkBody D I O S} {c : LinkCore S} (event : Event)
    → IsThere event l.core → Took event l.core c → Takes event l l (halves_kept (with_core c l))
told_takes event there took = record { leaves = λ s k. took.leaves s k (there s k); holds = refl }

pub takes_by : {D I O S : Type 0} {l n : LinkBody D I O S} {c : LinkCore S} (event : Event) → n ≡ halves_kept (with_core c l)
    → IsThere event l.core → Took event l.core c → Takes event l l n
takes_by {l = l} event is there took = subst (λ x. Takes event l l x) (sym is) (told_takes event there took)

pub whole_told : {D I O S : Type 0} {f : D → DialerState} {g : I → LineState} {l n : LinkBody D I O S} {c : LinkCore S} (event : Event) → n ≡ halves_kept (with_core c l)
    → brings_nothing event ≡ true → IsThere event l.core → Took event l.core c → Goes c → IsWhole f g l → IsWhole f g n
whole_told {f = f} {g = g} event is b there took goes w = subst (λ x. IsWhole f g x) (sym is) (told_whole event b there took goes w)

-- its number stays
pub id_is : {S : Type 0} {c : LinkCore S} {s : LinkState} → StandsFor c s → c.id ≡ s.id
id_is k = ap (λ (y : LinkState). y.id) k.is

pub same_id : {S : Type 0} {a b : LinkCore S} (event : Event) → IsThere event a → Took event a b → Goes a → b.id ≡ a.id
same_id event there took goes =
    let s : LinkState = goes.state in
    id_is (took.leaves s goes.going (there s goes.going)).stands ∙ ((each_event event s).id ∙ sym (id_is goes.going.stands))

pub same_id_by : {D I O S : Type 0} {n : LinkBody D I O S} {c : LinkCore S} (l : LinkBody D I O S) (event : Event) → n ≡ halves_kept (with_core c l) → IsThere event l.core → Took event l.core c → Goes l.core → n.core.id ≡ l.core.id
same_id_by {D = D} {I = I} {O = O} {S = S} l event is there took goes = ap (λ (x : LinkBody D I O S). x.core.id) is ∙ same_id event there took goes

-- octets that were heard are those of a piece
pub took_bytes : {S : Type 0} {a b : LinkCore S} {heard octets : List ℕ} (link session offset : ℕ) → heard ≡ octets → ((link session offset : ℕ) → Took (Bytes link session offset heard) a b) → Took (Bytes link session offset octets) a b
took_bytes {a = a} {b = b} link session offset e took = subst (λ (x : List ℕ). Took (Bytes link session offset x) a b) e (took link session offset)
