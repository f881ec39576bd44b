-- A unit that is kept is kept by a step, and has all that its contracts say of it.
use Rattle.std.proofs.Common.{◌≡◌, ℕ, ◌<◌, ◌≤◌, Bool, true, false, Option, None, Some, List, [], ◌∷◌, length, refl, ap, sym, ◌∙◌, subst, arith}
use Rattle.std.proofs.lemmas.Bool.Decides.{nat_tests}
use Rattle.std.specs.Prelude.{IfSome, nat_le, option_map, option_to_list}
use Rattle.ppp_base.specs.Mrru.{MrruPair}
use Rattle.ppp_base.specs.declared.posts.CloseCause.TheVariants.{TooManyChanges}
use Rattle.ppp_base.specs.declared.stepped.Stepped.TheVariants.{Taken}
use Rattle.ppp_hooks.specs.declared.facts.Opening.{Opening}
use Rattle.ppp_hooks.specs.HookFacts.{opening_number}
use Rattle.ppp_hooks.specs.HookPast.{ends_in, open_in, starts_in}
use Rattle.ppp_hooks.specs.HookState.{JobState}
use Rattle.ppp_hooks.proofs.Places.{law_of_past, settled_of_past}
use Rattle.ppp_mark.specs.Log.{room_of}
use Rattle.ppp_mark.specs.Marks.{address_number}
use Rattle.ppp_mark.specs.Scripts.{LogLaw, LogSettled, said_in}
use Rattle.ppp_mp.specs.declared.members.MemberView.{MemberView}
use Rattle.ppp_secrets.specs.declared.secrets.SecretsPair.{SecretsPair}
use Rattle.ppp_unit_parts.specs.declared.live.Live.{Live}
use Rattle.ppp_unit_parts.specs.declared.member.Member.{Member}
use Rattle.ppp_unit_parts.specs.Fits.{Fits, HasSoMany}
use Rattle.ppp_unit_parts.specs.Live.{SomeSession}
use Rattle.ppp_unit_parts.specs.Member.{AreInOrder, views_of}
use Rattle.ppp_unit_parts.proofs.MemberFacts.{count_all}
use Rattle.ppp_ipcp.specs.declared.wish.IpWish.{IpWish}
use Rattle.ppp_ipcp.specs.Session.{StandsFor as IpcpStandsFor}
use Rattle.ppp_bundle.specs.declared.event.BundleEvent.{BundleEvent}
use Rattle.ppp_bundle.specs.Closing.{looked}
use Rattle.ppp_bundle.specs.History.{Moment, calls_in, entered_in}
use Rattle.ppp_bundle.specs.Lives.{HasHistory, HasItsHistory, HasMember}
use Rattle.ppp_bundle.specs.MayStand.{Kind, UnitStands, number_of}
use Rattle.ppp_bundle.specs.Replay.{IpOpening, local_in, opening_of, remote_in, since_made}
use Rattle.ppp_bundle.specs.Sound.{IsSound}
use Rattle.ppp_bundle.specs.State.{UnitState, is_open, members_of}
use Rattle.ppp_bundle.specs.UnitPart.{IsFresh, IsLinkNumber, MayCome, UnitPart, after_event}
use Rattle.ppp_bundle.proofs.AskFacts.{fresh_asked, may_asked}
use Rattle.ppp_bundle.proofs.GoesFacts.{history_step}
use Rattle.ppp_bundle.proofs.SoundFacts.{at_some}
use Rattle.ppp_bundle.proofs.StandSteps.{step_stands}
use Rattle.ppp_bundle.proofs.UnitFacts.{unit_after, without_job}
use Rattle.ppp_table.specs.Fits.{IsItself}
use Rattle.ppp_table.specs.Jobs.{TakesJob}
use Rattle.ppp_table_facts.specs.TableStands.{ScriptsKeep, UnitKeeps}
use Rattle.ppp_table_facts.proofs.Events.{calm, event_at, looked_at, untouched}
use Rattle.ppp_table_facts.proofs.Pieces.{At, still}

-- BEFORE A STEP

stays_none : {S : Type 0} (u : UnitState S) → UnitKeeps u → (IfSome u.live (λ l. 0 ≤ room_of u.scripts.log)) → At 0 u
stays_none u h spare = record {
  says = record { keeps = h.scripts; target = h.unit.sound.agrees.target; is_open = h.unit.sound.agrees.opened; says = h.unit.sound.agrees.says };
  order = h.unit.marks.order;
  since = h.unit.sound.agrees.since;
  limit = h.unit.sound.agrees.room;
  spare = spare;
  owes = h.unit.sound.owes;
  time = h.unit.sound.agrees.time;
}

stays_by : {S : Type 0} (o : Option Live) (u : UnitState S) → u.live ≡ o → UnitKeeps u → At 124 u
stays_by None u live h = still 0 124 (is_open u.live) u live (stays_none u h (rw live tt))
stays_by (Some l) u live h = calm 0 (is_open u.live) u (at_some u.live l _ live h.unit.sound.few) (stays_none u h (rw live (omega arith)))

pub stays_of : {S : Type 0} (u : UnitState S) → UnitKeeps u → At 124 u
stays_of u h = stays_by u.live u refl h

-- IT IS SOUND

few_views : (members : List Member) (o : Option MemberView) → views_of members ≡ option_to_list o → length members ≤ 1
few_views [] o e = omega arith
few_views (m ∷ []) o e = omega arith
few_views (m ∷ n ∷ members) None e = absurd (cc e)
few_views (m ∷ n ∷ members) (Some v) e = absurd (cc e)

many : (o : Option MrruPair) (members : List Member) (past : List Moment) → AreInOrder 0 members → HasMember o members past → HasSoMany o members
many None members past order h = few_views members (entered_in past) h
many (Some mrru) members past order h = count_all members order

-- what its history says of a bundle that lives
pub record Tells (marks : ℕ) (l : Live) : Type 0 where
  pub fits : Fits l
  pub session : SomeSession l
  pub few : marks < 900

not_crowded : (b : Bool) (n : ℕ) → nat_le 900 n ≡ b → (900 ≤ n → ⊥) → n < 900
not_crowded true n e f = absurd (f (grind (arith, nat_tests)))
not_crowded false n e f = grind (arith, nat_tests)

tells : {S : Type 0} (u : UnitState S) (l : Live) → AreInOrder 0 l.members → HasHistory (since_made u.scripts.log.past) u.time u.gather l → Tells (since_made u.scripts.log.past) l
tells u l order h = record {
  fits = record { order = order; count = subst (λ (o : Option MrruPair). HasSoMany o l.members) (sym h.lives.reached.mrru) (many h.terms.mrru l.members h.past order h.lives.reached.some) };
  session = record { past = calls_in h.past; stands = subst (λ (w : IpWish). IpcpStandsFor w l.ipcp (calls_in h.past)) (sym (ap (λ w. w.ip) h.lives.reached.wish)) h.lives.reached.ipcp };
  few = not_crowded (nat_le 900 (since_made u.scripts.log.past)) (since_made u.scripts.log.past) refl (λ many. h.lives.no_reason TooManyChanges 0 many);
}

tells_by : {S : Type 0} (o : Option Live) (u : UnitState S) → AreInOrder 0 (members_of o) → IfSome o (HasHistory (since_made u.scripts.log.past) u.time u.gather) → IfSome o (Tells (since_made u.scripts.log.past))
tells_by None u order h = tt
tells_by (Some l) u order h = tells u l order h

of_each : {A : Type 0} {P Q : A → Type 0} (o : Option A) → ((a : A) → P a → Q a) → IfSome o P → IfSome o Q
of_each None f h = tt
of_each (Some a) f h = f a h

number_map : (o : Option Live) → option_map (λ (l : Live). l.number) o ≡ number_of o
number_map None = refl
number_map (Some l) = refl

pub sound_of : {S : Type 0} {k : Kind} (room : ℕ) (u : UnitState S) → HasItsHistory u → UnitStands k u → At room u → IsSound u
sound_of {S = S} room u history marks h =
    let says : IfSome u.live (Tells (since_made u.scripts.log.past)) = tells_by u.live u h.order history in
    record {
      agrees = record {
        target = marks.target;
        opened = h.says.is_open;
        since = h.since;
        room = h.limit;
        fits = of_each u.live (λ l t. t.fits) says;
        says = h.says.says;
        bundle = number_map u.live ∙ sym marks.stands.bundle;
        stays = λ link. sym (marks.stands.stays_are link);
        session = of_each u.live (λ l t. t.session) says;
        time = h.time;
      };
      few = of_each u.live (λ l t. t.few) says;
      owes = h.owes;
    }

-- BY A STEP

pub keeps_on : {S : Type 0} (secrets : SecretsPair) (event : BundleEvent S) (was is : UnitState S) → IsLinkNumber event → MayCome event was → IsFresh event was → was.sent ≡ [] → was.given ≡ []
    → UnitPart secrets event was is → UnitKeeps was → UnitKeeps is
keeps_on {S = S} secrets event was is number may fresh sent given part h =
    let asked : UnitState S = record was { gather = part.gathered.gather; ended = None } in
    let mid : UnitState S = after_event secrets event part.gathered.packets asked in
    let then : At 124 asked = untouched 124 was asked refl refl refl refl (stays_of was h) in
    let there : At 124 (looked mid) =
    looked_at 100 mid (omega arith) (event_at secrets event part.gathered.packets asked number (may_asked event was asked refl refl may) ((fresh_asked event was asked refl).0 fresh) then) in
    let here : At 124 is = subst (λ (v : UnitState S). At 124 v) (sym part.after) there in
    let k : Kind = _ in
    let marks : UnitStands k is = subst (λ (v : UnitState S). UnitStands k v) (sym part.after) (step_stands secrets event part.gathered was number may h.unit.marks) in
    let history : HasItsHistory is = subst (λ (v : UnitState S). HasItsHistory v) (sym part.after)
    (history_step secrets event part.gathered was was.live refl h.unit.history h.unit.marks.target part.gathers may number sent given) in
    record {
      unit = unit_after Taken secrets event was is h.unit (sound_of 124 is history marks here) number may sent given part tt;
      scripts = here.says.keeps;
    }

-- What it sent and gave is taken.
pub emptied_keeps : {S : Type 0} (is now : UnitState S) → now ≡ record is { sent = []; given = [] } → UnitKeeps is → UnitKeeps now
emptied_keeps {S = S} is now e h =
    let a = h.unit.sound.agrees in
    subst (λ (v : UnitState S). UnitKeeps v) (sym e) (record {
      unit = record {
        sound = record {
          agrees = record {
            target = a.target;
            opened = a.opened;
            since = a.since;
            room = a.room;
            fits = a.fits;
            says = a.says;
            bundle = a.bundle;
            stays = a.stays;
            session = a.session;
            time = a.time;
          };
          few = h.unit.sound.few;
          owes = h.unit.sound.owes;
        };
        history = h.unit.history;
        marks = record { stands = h.unit.marks.stands; order = h.unit.marks.order; target = h.unit.marks.target; kind = h.unit.marks.kind; gather_is = h.unit.marks.gather_is };
      };
      scripts = h.scripts;
    })

-- A job is taken.
without_spawner : {S : Type 0} (u : UnitState S) → ends_in (said_in u.scripts.log.past) < starts_in (said_in u.scripts.log.past) → ScriptsKeep u.scripts
    → ScriptsKeep (record u.scripts { machine = record u.scripts.machine { spawner = None } })
without_spawner u runs h = record { stands = h.stands; directions = h.directions; out = λ e. runs }

job_scripts : {S : Type 0} (job : Option (JobState S)) (was now : UnitState S) → TakesJob job was now → ScriptsKeep was.scripts → ScriptsKeep now.scripts
job_scripts {S = S} None was now t h = subst (λ (v : UnitState S). ScriptsKeep v.scripts) (sym t.none) h
job_scripts {S = S} (Some j) was now t h = subst (λ (v : UnitState S). ScriptsKeep v.scripts) (sym t.taken) (without_spawner was (t.some.0 refl).1 h)

pub job_keeps : {S : Type 0} (job : Option (JobState S)) (was now : UnitState S) → TakesJob job was now → UnitKeeps was → UnitKeeps now
job_keeps job was now t h = record { unit = without_job job was now t.taken t.none h.unit; scripts = job_scripts job was now t h.scripts }

-- WHAT IT SAYS OF ITSELF

abbrev ip_opening : ℕ → ℕ → ℕ → IpOpening
ip_opening local remote n = record { number = n; local = local; remote = remote }

opening_by : (o : Option Opening) (n : Option ℕ) (local remote : ℕ) → opening_number o ≡ n → IfSome o (λ x. address_number x.args.local ≡ local)
    → IfSome o (λ x. address_number x.args.remote ≡ remote) → option_map opening_of o ≡ option_map (ip_opening local remote) n
opening_by None n local remote e l r = rw (← e) refl
opening_by (Some o) n local remote e l r = rw (← e, l, r) refl

pub itself : {S : Type 0} (u : UnitState S) → UnitKeeps u → IsItself u
itself u h =
    let a = h.unit.sound.agrees in
    let k = h.scripts.stands.keeps in
    record {
      settled = subst (λ (b : Bool). LogSettled u.scripts.log.past b) a.opened (settled_of_past (said_in u.scripts.log.past) h.scripts.stands.settled);
      replay = record {
        bundle = a.bundle;
        members = a.stays;
        opening = opening_by u.scripts.machine.facts.now_open (open_in (said_in u.scripts.log.past)) (local_in u.scripts.log.past) (remote_in u.scripts.log.past) k.now_open a.says.local a.says.remote;
        greatest = a.says.openings;
        last = k.last;
        starts = k.starts;
        ends = k.ends;
        since = a.since;
      };
      marks = h.unit.marks.stands.all;
      history = h.unit.history;
    }

pub lawful : {S : Type 0} (u : UnitState S) → UnitKeeps u → LogLaw 0 u.scripts.log.past
lawful u h = record { directions = h.scripts.directions; law = law_of_past (said_in u.scripts.log.past) h.scripts.stands.keeps.lawful }
