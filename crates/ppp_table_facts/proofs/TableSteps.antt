-- A table that stands goes on to stand, by all but a post.
use Rattle.std.proofs.Common.{◌≡◌, ◌⊎◌, ◌≤◌, ◌<◌, ◌+◌, ◌-◌, ℕ, zero, suc, Bool, true, false, Option, None, Some, IfSome, List, [], ◌∷◌, length, slice_get, slice_set, inl, inr, refl, ap, sym, subst, ◌∙◌, arith}
use Rattle.std.specs.Prelude.{⊤, if◌then◌else◌}
use Rattle.ppp_base.specs.RingAfter.{Ring}
use Rattle.ppp_hooks.specs.HookState.{JobState}
use Rattle.ppp_option_words.specs.ConfigValues.{ConfigValues}
use Rattle.ppp_ring.specs.Pieces.{Piece}
use Rattle.ppp_secrets.specs.declared.secrets.SecretsPair.{SecretsPair}
use Rattle.ppp_unit_parts.specs.declared.outbox.Sending.{Sending}
use Rattle.ppp_bundle.specs.declared.event.BundleEvent.{BundleEvent}
use Rattle.ppp_bundle.specs.declared.event.BundleEvent.TheVariants as unit_event
use Rattle.ppp_bundle.specs.Sound.{IsSound}
use Rattle.ppp_bundle.specs.State.{UnitState}
use Rattle.ppp_bundle.specs.UnitPart.{IsFresh, IsLinkNumber, MayCome}
use Rattle.ppp_bundle.proofs.UnitFacts.{new_unit}
use Rattle.ppp_table_parts.specs.Side.{SideState, after_first, emptied, with_frame}
use Rattle.ppp_table_parts.specs.Sides.{at_link, each_link}
use Rattle.ppp_table_parts.proofs.TermLemmas.{SameTerms, kept_at, kept_taken}
use Rattle.ppp_table.specs.declared.event.TableEvent.{TableEvent}
use Rattle.ppp_table.specs.declared.event.TableEvent.TheVariants.{Packet, Tick, HookOver}
use Rattle.ppp_table.specs.Asking.{woken, woken_one}
use Rattle.ppp_table.specs.Begins.{AreNewUnits, IsNew, IsNewUnit}
use Rattle.ppp_table.specs.Jobs.{TakesJob, TakesJobOf}
use Rattle.ppp_table.specs.TablePart.{IsFreshAt, TablePart, TicksBelow, counted, is_open_in}
use Rattle.ppp_table.specs.TableState.{AreDrained, TableState}
use Rattle.ppp_table.specs.Told.{before, news_of, posted, told}
use Rattle.ppp_table.specs.UnitStep.{IsQuiet, UnitStep}
use Rattle.ppp_table_facts.specs.TableStands.{AllKeep, TableStands, UnitKeeps}
use Rattle.ppp_table.proofs.Apart.{set_get}
use Rattle.ppp_table.proofs.Fitting.{woken_terms}
use Rattle.ppp_table.proofs.NewUnits.{new_whole}
use Rattle.ppp_table.proofs.Places.{drained_at, drained_set, length_set}
use Rattle.ppp_table_facts.proofs.UnitSteps.{emptied_keeps, job_keeps, keeps_on}
use Rattle.ppp_table.proofs.Wholes.{whole_keeps, whole_set, whole_sides}

-- ONE OF THE UNITS

pub keep_at : {S : Type 0} (n : ℕ) (u : UnitState S) (units : List (UnitState S)) → slice_get units n ≡ Some u → AllKeep units → UnitKeeps u
keep_at {S = S} n u units there all = subst (λ (o : Option (UnitState S)). IfSome o UnitKeeps) there (all n)

pub keep_set : {S : Type 0} (n : ℕ) (was now : UnitState S) (units : List (UnitState S)) → slice_get units n ≡ Some was → UnitKeeps now → AllKeep units → AllKeep (slice_set units n now)
keep_set {S = S} n was now units there h all a = by_place (set_get units n a now was there)
  where
    by_place : ((a ≡ n) × (slice_get (slice_set units n now) a ≡ Some now)) ⊎ ((a ≡ n → ⊥) × (slice_get (slice_set units n now) a ≡ slice_get units a))
        → IfSome (slice_get (slice_set units n now) a) UnitKeeps
    by_place (inl f) = subst (λ (o : Option (UnitState S)). IfSome o UnitKeeps) (sym f.1) h
    by_place (inr f) = subst (λ (o : Option (UnitState S)). IfSome o UnitKeeps) (sym f.1) (all a)

each_length : (change : ℕ → SideState → SideState) (link : ℕ) (sides : List SideState) → length (each_link change link sides) ≡ length sides
each_length change link [] = refl
each_length change link (side ∷ sides) = ap suc (each_length change (link + 1) sides)

posted_length : (sent : List Sending) (sides : List SideState) → length (posted sent sides) ≡ length sides
posted_length [] sides = refl
posted_length (s ∷ sent) sides = posted_length sent (at_link s.link (with_frame (record { protocol = s.protocol; rejected = s.rejected }) s.information) sides) ∙ length_set sides (s.link - 1) _

-- What may come to a unit at a place.
abbrev pub MayAt : {S : Type 0} → ℕ → BundleEvent S → TableState S → Type 0
MayAt n event t = IfSome (slice_get t.units n) (MayCome event)

abbrev pub FreshAt : {S : Type 0} → ℕ → BundleEvent S → TableState S → Type 0
FreshAt n event t = IfSome (slice_get t.units n) (IsFresh event)

-- what a step of one unit keeps, apart from the whole
pub record Goes {S : Type 0} (old new : TableState S) : Type 0 where
  pub units : AllKeep new.units
  pub sides : length new.sides ≡ length old.sides
  pub sixteen : length new.units ≡ length old.units
  pub drained : AreDrained new.units

pub step_goes : {S : Type 0} (n : ℕ) (event : BundleEvent S) (old new : TableState S) → UnitStep n event old new → IsLinkNumber event → MayAt n event old → FreshAt n event old
    → AreDrained old.units → AllKeep old.units → Goes old new
step_goes {S = S} n event old new s number may fresh drained all =
    let d : (s.was.sent ≡ []) × (s.was.given ≡ []) = drained_at old.units n s.was drained s.there in
    let may_now : MayCome event s.was = subst (λ (o : Option (UnitState S)). IfSome o (MayCome event)) s.there may in
    let fresh_now : IsFresh event s.was = subst (λ (o : Option (UnitState S)). IfSome o (IsFresh event)) s.there fresh in
    let is : UnitKeeps s.goes.is = keeps_on old.secrets event s.was s.goes.is number may_now fresh_now d.0 d.1 s.goes.part (keep_at n s.was old.units s.there all) in
    let now : UnitKeeps s.now = emptied_keeps s.goes.is s.now s.goes.emptied is in
    let units : new.units ≡ slice_set old.units n s.now = ap (λ (t : TableState S). t.units) s.after in
    record {
      units = subst (λ (us : List (UnitState S)). AllKeep us) (sym units) (keep_set n s.was s.now old.units s.there now all);
      sides = ap (λ (sides : List SideState). length sides) s.goes.told ∙ each_length (told (news_of n (before s.was event) s.goes.is)) 1 (posted s.goes.is.sent old.sides) ∙ posted_length s.goes.is.sent old.sides;
      sixteen = ap (λ (us : List (UnitState S)). length us) units ∙ length_set old.units n s.now;
      drained = subst (λ (us : List (UnitState S)). AreDrained us) (sym units)
          (drained_set old.units n s.now drained (ap (λ (u : UnitState S). u.sent) s.goes.emptied) (ap (λ (u : UnitState S). u.given) s.goes.emptied));
    }

pub quiet_stands : {S : Type 0} (n : ℕ) (event : BundleEvent S) (old new : TableState S) → UnitStep n event old new → IsQuiet event → IsLinkNumber event → MayAt n event old → FreshAt n event old
    → TableStands old → TableStands new
quiet_stands n event old new s quiet number may fresh h =
    let g : Goes old new = step_goes n event old new s number may fresh h.whole.drained h.units in
    record {
      whole = whole_keeps n event old new s h.whole quiet (g.sixteen ∙ h.whole.sixteen) g.drained;
      units = g.units;
      sides = g.sides ∙ h.sides;
    }

-- what may always come
pub always : {A : Type 0} (o : Option A) → IfSome o (λ a. ⊤)
always None = tt
always (Some a) = tt

-- WHAT WAITS

pub sides_stand : {S : Type 0} (t : TableState S) (sides : List SideState) → length sides ≡ length t.sides → SameTerms t.sides sides → TableStands t → TableStands (record t { sides = sides })
sides_stand t sides many same h = record { whole = whole_sides t (record t { sides = sides }) refl same h.whole; units = h.units; sides = many ∙ h.sides }

pub first_stands : {S : Type 0} (link : ℕ) (t : TableState S) → TableStands t → TableStands (record t { sides = at_link link after_first t.sides })
first_stands link t h = sides_stand t (at_link link after_first t.sides) (length_set t.sides (link - 1) _) (kept_taken link t.sides) h

pub emptied_stands : {S : Type 0} (link : ℕ) (t : TableState S) → TableStands t → TableStands (record t { sides = at_link link emptied t.sides })
emptied_stands link t h = sides_stand t (at_link link emptied t.sides) (length_set t.sides (link - 1) _) (kept_at link emptied t.sides (λ side. refl)) h

woken_stands : {S : Type 0} (unit : ℕ) (t : TableState S) → TableStands t → TableStands (woken unit t)
woken_stands unit t h = sides_stand t (each_link (woken_one unit t.links) 1 t.sides) (each_length (woken_one unit t.links) 1 t.sides) (woken_terms unit t.links t.sides) h

-- the rest is not looked at
pub rest_stands : {S : Type 0} (t : TableState S) (deliveries : Ring (Piece ℕ)) (stranger packets taken : ℕ) → TableStands t
    → TableStands (record t { deliveries = deliveries; stranger = stranger; packets = packets; taken = taken })
rest_stands t deliveries stranger packets taken h = record {
  whole = record { sixteen = h.whole.sixteen; drained = h.whole.drained; apart = h.whole.apart; fits = h.whole.fits; together = h.whole.together };
  units = h.units;
  sides = h.sides;
}

-- EACH EVENT

packet_if : {S : Type 0} (b : Bool) (unit : ℕ) (mid : TableState S) → TableStands mid → TableStands (if b then mid else woken unit mid)
packet_if true unit mid h = h
packet_if false unit mid h = woken_stands unit mid h

counted_stands : {S : Type 0} (t : TableState S) → TableStands t → TableStands (counted t)
counted_stands t h = rest_stands t t.deliveries t.stranger _ t.taken h

ticks_stand : {S : Type 0} (count now : ℕ) (old new : TableState S) → (t : TicksBelow count now old new) → TableStands old → (n : ℕ) → n ≤ count → TableStands (t.states n)
ticks_stand {S = S} count now old new t h zero few = subst (λ (x : TableState S). TableStands x) (sym t.first) h
ticks_stand {S = S} count now old new t h (suc n) few =
    let next : suc n ≡ n + 1 = grind arith in
    let less : n < count = grind (arith, few) in
    rw next (quiet_stands n (unit_event.Tick now) (t.states n) (t.states (n + 1)) (t.each n less) tt tt (always (slice_get (t.states n).units n)) (always (slice_get (t.states n).units n))
    (ticks_stand count now old new t h n (grind (arith, few))))

pub event_stands : {S : Type 0} (event : TableEvent S) (old new : TableState S) → TablePart event old new → IsFreshAt event old → TableStands old → TableStands new
event_stands {S = S} (Packet unit datagram) old new p fresh h =
    subst (λ (x : TableState S). TableStands x) (sym p.after)
    (counted_stands _ (packet_if (is_open_in (slice_get old.units unit)) unit p.mid
    (quiet_stands unit (unit_event.Datagram datagram) old p.mid p.step tt tt (always (slice_get old.units unit)) (always (slice_get old.units unit)) h)))
event_stands {S = S} (Tick now) old new t fresh h = subst (λ (x : TableState S). TableStands x) t.last (ticks_stand 16 now old new t h 16 (omega arith))
event_stands (HookOver unit done) old new s fresh h = quiet_stands unit (unit_event.HookOver done) old new s tt tt (always (slice_get old.units unit)) fresh h

-- A JOB

job_same : {S : Type 0} (job : Option (JobState S)) (was now : UnitState S) → TakesJob job was now → (now.live ≡ was.live) × (now.sent ≡ was.sent) × (now.given ≡ was.given)
job_same {S = S} None was now t = (ap (λ (u : UnitState S). u.live) t.none, ap (λ (u : UnitState S). u.sent) t.none, ap (λ (u : UnitState S). u.given) t.none)
job_same {S = S} (Some j) was now t = (ap (λ (u : UnitState S). u.live) t.taken, ap (λ (u : UnitState S). u.sent) t.taken, ap (λ (u : UnitState S). u.given) t.taken)

pub job_stands : {S : Type 0} (unit : ℕ) (job : Option (JobState S)) (old new : TableState S) → TakesJobOf unit job old new → TableStands old → TableStands new
job_stands {S = S} unit job old new j h =
    let same : _ = job_same job j.was j.now j.takes in
    let units : new.units ≡ slice_set old.units unit j.now = ap (λ (t : TableState S). t.units) j.after in
    let sides : new.sides ≡ old.sides = ap (λ (t : TableState S). t.sides) j.after in
    record {
      whole = whole_set unit j.was j.now old new j.there same.0 same.1 same.2 units sides h.whole;
      units = subst (λ (us : List (UnitState S)). AllKeep us) (sym units)
          (keep_set unit j.was j.now old.units j.there (job_keeps job j.was j.now j.takes (keep_at unit j.was old.units j.there h.units)) h.units);
      sides = ap (λ (sides : List SideState). length sides) sides ∙ h.sides;
    }

-- THE START

new_sound : {S : Type 0} (number limit : ℕ) (spawner : S) (u : UnitState S) → 4096 ≤ limit → IsNewUnit number limit spawner u → IsSound u
new_sound number limit spawner u enough n = record {
  agrees = record {
    target = rw (n.scripts, n.number) refl;
    opened = rw (n.scripts, n.live) refl;
    since = rw n.live tt;
    room = rw n.live tt;
    fits = rw n.live tt;
    says = rw n.scripts (record { local = tt; remote = tt; openings = refl });
    bundle = rw (n.scripts, n.live) refl;
    stays = λ link. rw (n.scripts, n.live) refl;
    session = rw n.live tt;
    time = rw n.time (omega arith);
  };
  few = rw n.live tt;
  owes = λ e. rw n.scripts (omega (arith, enough));
}

new_keeps : {S : Type 0} (number limit : ℕ) (spawner : S) (u : UnitState S) → 4096 ≤ limit → IsNewUnit number limit spawner u → UnitKeeps u
new_keeps {S = S} number limit spawner u enough n = record {
  unit = new_unit u (new_sound number limit spawner u enough n) n.live (rw n.scripts refl) (rw (n.scripts, n.number) refl) n.bundles;
  scripts = rw n.scripts (record {
    stands = record { keeps = record { now_open = refl; last = refl; greatest = refl; starts = refl; ends = refl; not_started = refl; lawful = tt }; settled = λ e. tt };
    directions = tt;
    out = λ e. absurd (let f : Some spawner ≡ None = e in cc);
  });
}

all_new : {S : Type 0} (number limit : ℕ) (spawners : List S) (units : List (UnitState S)) → 4096 ≤ limit → AreNewUnits number limit spawners units → AllKeep units
all_new number limit spawners [] enough new a = tt
all_new number limit [] (u ∷ units) enough new a = absurd new
all_new number limit (s ∷ spawners) (u ∷ units) enough new zero = new_keeps number limit s u enough new.0
all_new number limit (s ∷ spawners) (u ∷ units) enough new (suc a) = all_new (number + 1) limit spawners units enough new.1 a

pub new_stands : {S : Type 0} (config : ConfigValues) (secrets : SecretsPair) (spawners : List S) (t : TableState S) → length spawners ≡ 16 → 4096 ≤ config.loglimit → IsNew config secrets spawners t → TableStands t
new_stands config secrets spawners t sixteen enough new = record {
  whole = new_whole config.loglimit spawners t.units t refl new.units sixteen;
  units = all_new 0 config.loglimit spawners t.units enough new.units;
  sides = rw new.sides refl;
}

-- EACH UNIT

pub each_unit : {S : Type 0} (P : UnitState S → Type 0) → ((u : UnitState S) → UnitKeeps u → P u) → (unit : ℕ) (t : TableState S) → TableStands t → IfSome (slice_get t.units unit) P
each_unit P f unit t h = to_each (slice_get t.units unit) (h.units unit)
  where
    to_each : (o : Option (UnitState _)) → IfSome o UnitKeeps → IfSome o P
    to_each None k = tt
    to_each (Some u) k = f u k
