-- What a step of a unit gives came to its bundle.
use Rattle.std.proofs.Common.{◌≡◌, ℕ, ◌==◌, Bool, true, false, Option, None, Some, List, [], ◌∷◌, ◌++◌, refl, ap, sym, subst, ◌∙◌, arith}
use Rattle.std.proofs.lemmas.Bool.Decides.{nat_tests}
use Rattle.std.specs.List.{AllByRecursion}
use Rattle.std.specs.Prelude.{IfSome, is_some, not, if◌then◌else◌}
use Rattle.ppp_mp.specs.Membership.{IsLink}
use Rattle.ppp_secrets.specs.declared.secrets.SecretsPair.{SecretsPair}
use Rattle.ppp_unit_parts.specs.declared.live.Live.{Live}
use Rattle.ppp_unit_parts.specs.declared.member.Member.{Member}
use Rattle.ppp_unit_parts.specs.declared.outbox.BundleEnd.{BundleEnd}
use Rattle.ppp_unit_parts.specs.declared.outbox.Ending.{Ending}
use Rattle.ppp_unit_parts.specs.Live.{most_of_ours}
use Rattle.ppp_unit_parts.specs.Member.{is_link, without}
use Rattle.ppp_bundle.specs.declared.event.BundleEvent.{BundleEvent}
use Rattle.ppp_bundle.specs.declared.event.BundleEvent.TheVariants.{Make, In, Out, Frame, Datagram, Tick, HookOver}
use Rattle.ppp_bundle.specs.Closing.{closed_if, crowded_end}
use Rattle.ppp_bundle.specs.History.{Moment, Enters, Goes, Brings, Gathered, Carries, Passes, Calls, Terms, entries_in, given_in, is_member_in, mru_in}
use Rattle.ppp_bundle.specs.Lives.{Empties, GoesOn, Lives, LivesOrEnds, mru_of, own_in, own_of}
use Rattle.ppp_bundle.specs.Replay.{since_made}
use Rattle.ppp_bundle.specs.State.{UnitState}
use Rattle.ppp_bundle.specs.UnitPart.{UnitPart, left_by, left_of}
use Rattle.ppp_table_facts.specs.Came.{Came, GivesWhatCame}
use Rattle.ppp_table_facts.proofs.Came.{all_came_from}

-- WHERE THE LAST MEMBER WENT OUT NOTHING IS GIVEN

no_more_given : {A : Type 0} (one other : List A) → one ++ other ≡ one → other ≡ []
no_more_given [] other e = e
no_more_given (x ∷ one) other e = no_more_given one other (let f : x ∷ (one ++ other) ≡ x ∷ one = e in cc)

-- a member that stays
pub record Remains (link : ℕ) (m : Member) (members : List Member) : Type 0 where
  pub other : (link == m.link) ≡ false
  pub still : is_some (mru_of m.link members) ≡ true

some_if : (b : Bool) (n : ℕ) (o : Option ℕ) → is_some o ≡ true → is_some (if b then Some n else o) ≡ true
some_if true n o e = refl
some_if false n o e = e

same_is : (n : ℕ) → (n == n) ≡ true
same_is n = grind (arith, nat_tests)

remains : (link : ℕ) (m : Member) (rest members : List Member) → without link members ≡ m ∷ rest → Remains link m members
remains link m rest [] e = absurd (let f : [] ≡ m ∷ rest = e in cc)
remains link m rest (x ∷ members) e = by_link (is_link link x) refl e (remains link m rest members)
  where
    by_link : (b : Bool) → is_link link x ≡ b → (if not b then x ∷ without link members else without link members) ≡ m ∷ rest → (without link members ≡ m ∷ rest → Remains link m members)
        → Remains link m (x ∷ members)
    by_link true f g more =
        let r : Remains link m members = more g in
        record { other = r.other; still = some_if (is_link m.link x) x.mru (mru_of m.link members) r.still }
    by_link false f g more =
        let same : x ≡ m = (let h : x ∷ without link members ≡ m ∷ rest = g in cc) in
        subst (λ (y : Member). Remains link y (x ∷ members)) same
        (record { other = (let d : (x.link == link) ≡ false = f in grind (arith, nat_tests)); still = rw (same_is x.link) refl })

-- nothing of its own happened
quiet_mru : (link : ℕ) (others past : List Moment) → own_in others ≡ [] → mru_in link (others ++ past) ≡ mru_in link past
quiet_mru link [] past e = refl
quiet_mru link (Gathered secrets packet ∷ others) past e = quiet_mru link others past e
quiet_mru link (Calls call ∷ others) past e = quiet_mru link others past e
quiet_mru link (Enters other mru ∷ others) past e = absurd (let f : Enters other mru ∷ own_in others ≡ [] = e in cc)
quiet_mru link (Goes other ∷ others) past e = absurd (let f : Goes other ∷ own_in others ≡ [] = e in cc)
quiet_mru link (Brings secrets other protocol information ∷ others) past e = absurd (let f : Brings secrets other protocol information ∷ own_in others ≡ [] = e in cc)
quiet_mru link (Carries datagram ∷ others) past e = absurd (let f : Carries datagram ∷ own_in others ≡ [] = e in cc)
quiet_mru link (Passes now ∷ others) past e = absurd (let f : Passes now ∷ own_in others ≡ [] = e in cc)

if_given : {S : Type 0} (e : Option Ending) (u : UnitState S) → u.live ≡ None → (closed_if e u).given ≡ u.given
if_given None u live = refl
if_given {S = S} (Some e) u live = rw live refl

last_given : {S : Type 0} (left : List Member) (secrets : SecretsPair) (link stay : ℕ) (l : Live) (was is : UnitState S) → (part : UnitPart secrets (Out link stay) was is) → was.live ≡ Some l → without link l.members ≡ left → left ≡ []
    → is.given ≡ was.given
last_given {S = S} left secrets link stay l was is part live same none =
    let asked : UnitState S = record was { gather = part.gathered.gather; ended = None } in
    let mid : UnitState S = left_of was.live secrets link stay part.gathered.packets asked in
    let is_mid : mid ≡ left_by [] secrets l link stay part.gathered.packets asked =
    ap (λ (o : Option Live). left_of o secrets link stay part.gathered.packets asked) live ∙ ap (λ (ms : List Member). left_by ms secrets l link stay part.gathered.packets asked) (same ∙ none) in
    ap (λ (u : UnitState S). u.given) part.after ∙ if_given (crowded_end mid.scripts.log.past) mid (ap (λ (u : UnitState S). u.live) is_mid) ∙ ap (λ (u : UnitState S). u.given) is_mid

out_given : {S : Type 0} (left : List Member) (secrets : SecretsPair) (link stay : ℕ) (l : Live) (was is : UnitState S) (others past : List Moment) → UnitPart secrets (Out link stay) was is → was.live ≡ Some l → without link l.members ≡ left
    → ((x : ℕ) → mru_of x l.members ≡ mru_in x past) → own_in others ≡ [] → ((x : ℕ) → is_member_in x (Goes link ∷ others ++ past) ≡ false) → was.given ≡ [] → is.given ≡ []
out_given [] secrets link stay l was is others past part live same members quiet none empty = last_given [] secrets link stay l was is part live same refl ∙ empty
out_given (m ∷ rest) secrets link stay l was is others past part live same members quiet none empty =
    let r : Remains link m l.members = remains link m rest l.members same in
    let there : is_some (mru_in m.link (others ++ past)) ≡ true = ap (λ (o : Option ℕ). is_some o) (quiet_mru m.link others past quiet ∙ sym (members m.link)) ∙ r.still in
    let here : is_some (if link == m.link then None else mru_in m.link (others ++ past)) ≡ true = rw r.other there in
    absurd (let f : true ≡ false = sym here ∙ none m.link in cc)

-- by which event
event_given : {S : Type 0} (event : BundleEvent S) (secrets : SecretsPair) (link : ℕ) (l : Live) (was is : UnitState S) (others past : List Moment) → UnitPart secrets event was is → was.live ≡ Some l
    → ((x : ℕ) → mru_of x l.members ≡ mru_in x past) → Goes link ∷ own_in others ≡ own_of secrets event was → ((x : ℕ) → is_member_in x (Goes link ∷ others ++ past) ≡ false) → was.given ≡ [] → is.given ≡ []
event_given (Out other stay) secrets link l was is others past part live members own none empty =
    let same : link ≡ other = (let f : Goes link ∷ own_in others ≡ Goes other ∷ [] = own in cc) in
    let quiet : own_in others ≡ [] = (let f : Goes link ∷ own_in others ≡ Goes other ∷ [] = own in cc) in
    out_given (without other l.members) secrets other stay l was is others past part live refl members quiet (subst (λ (n : ℕ). (x : ℕ) → is_member_in x (Goes n ∷ others ++ past) ≡ false) same none) empty
event_given (Make number maker wish mrru allow) secrets link l was is others past part live members own none empty = absurd (let f : Goes link ∷ own_in others ≡ [] = own in cc)
event_given (In other stay mru) secrets link l was is others past part live members own none empty = absurd (let f : Goes link ∷ own_in others ≡ Enters other mru ∷ [] = own in cc)
event_given (Frame other protocol information) secrets link l was is others past part live members own none empty =
    absurd (let f : Goes link ∷ own_in others ≡ Brings secrets other protocol information ∷ [] = own in cc)
event_given (Datagram datagram) secrets link l was is others past part live members own none empty = absurd (let f : Goes link ∷ own_in others ≡ Carries datagram ∷ [] = own in cc)
event_given (Tick now) secrets link l was is others past part live members own none empty = absurd (let f : Goes link ∷ own_in others ≡ Passes _ ∷ [] = own in cc)
event_given (HookOver done) secrets link l was is others past part live members own none empty = absurd (let f : Goes link ∷ own_in others ≡ [] = own in cc)

empties_given : {S : Type 0} (event : BundleEvent S) (secrets : SecretsPair) (terms : Terms) (since past : List Moment) (l : Live) (was is : UnitState S) → UnitPart secrets event was is → was.live ≡ Some l
    → ((x : ℕ) → mru_of x l.members ≡ mru_in x past) → own_in since ≡ own_of secrets event was → Empties terms (since ++ past) → given_in terms past ++ is.given ≡ given_in terms (since ++ past) → was.given ≡ [] → is.given ≡ []
empties_given event secrets terms [] past l was is part live members own e gives empty = no_more_given (given_in terms past) is.given gives
empties_given event secrets terms (Goes link ∷ others) past l was is part live members own e gives empty = event_given event secrets link l was is others past part live members own e.none empty
empties_given event secrets terms (Gathered s packet ∷ others) past l was is part live members own e gives empty = absurd e.last
empties_given event secrets terms (Calls call ∷ others) past l was is part live members own e gives empty = absurd e.last
empties_given event secrets terms (Enters other mru ∷ others) past l was is part live members own e gives empty = absurd e.last
empties_given event secrets terms (Brings s other protocol information ∷ others) past l was is part live members own e gives empty = absurd e.last
empties_given event secrets terms (Carries datagram ∷ others) past l was is part live members own e gives empty = absurd e.last
empties_given event secrets terms (Passes now ∷ others) past l was is part live members own e gives empty = absurd e.last

-- EACH STEP

none_came : (terms : Terms) (moments : List Moment) (given : List (List ℕ)) → given ≡ [] → AllByRecursion (Came (most_of_ours terms.mrru) moments) given
none_came terms moments given e = subst (λ (xs : List (List ℕ)). AllByRecursion (Came (most_of_ours terms.mrru) moments) xs) (sym e) tt

came_by_end : {S : Type 0} (o : Option Live) (e : Option BundleEnd) (event : BundleEvent S) (secrets : SecretsPair) (terms : Terms) (since past : List Moment) (left : List (List ℕ)) (l : Live) (was is : UnitState S)
    → UnitPart secrets event was is → was.live ≡ Some l → ((x : ℕ) → mru_of x l.members ≡ mru_in x past) → own_in since ≡ own_of secrets event was → LivesOrEnds terms (since ++ past) left is o e
    → given_in terms past ++ is.given ≡ given_in terms (since ++ past) → was.given ≡ [] → AllByRecursion IsLink (entries_in (since ++ past)) → AllByRecursion (Came (most_of_ours terms.mrru) (since ++ past)) is.given
came_by_end (Some k) None event secrets terms since past left l was is part live members own goes gives empty links = all_came_from terms is.gather past (since ++ past) [] is.given goes.0.reached.gathers links gives
came_by_end (Some k) (Some e) event secrets terms since past left l was is part live members own goes gives empty links = absurd goes
came_by_end None (Some e) event secrets terms since past left l was is part live members own goes gives empty links = all_came_from terms is.gather past (since ++ past) left is.given goes.gathers links gives
came_by_end None None event secrets terms since past left l was is part live members own goes gives empty links =
    none_came terms (since ++ past) is.given (empties_given event secrets terms since past l was is part live members own goes.0 gives empty)

gives_by : {S : Type 0} (secrets : SecretsPair) (terms : Terms) (past : List Moment) (event : BundleEvent S) (l : Live) (was is : UnitState S) → UnitPart secrets event was is → was.live ≡ Some l → was.given ≡ []
    → Lives terms (since_made was.scripts.log.past) was.time was.gather l past → GoesOn terms past secrets event was is → GivesWhatCame secrets terms past event was is
gives_by secrets terms past event l was is part live empty lives g = record {
  since = g.since;
  own = g.own;
  came = λ links. came_by_end is.live is.ended event secrets terms g.since past g.left l was is part live lives.reached.members g.own g.goes g.gives empty links;
}

pub gives_all : {S : Type 0} (secrets : SecretsPair) (terms : Terms) (past : List Moment) (event : BundleEvent S) (o : Option Live) (was is : UnitState S) → UnitPart secrets event was is → was.live ≡ o → was.given ≡ []
    → IfSome o (λ l. Lives terms (since_made was.scripts.log.past) was.time was.gather l past → GoesOn terms past secrets event was is)
    → IfSome o (λ l. Lives terms (since_made was.scripts.log.past) was.time was.gather l past → GivesWhatCame secrets terms past event was is)
gives_all secrets terms past event None was is part live empty goes = tt
gives_all secrets terms past event (Some l) was is part live empty goes = λ lives. gives_by secrets terms past event l was is part live empty lives (goes lives)
