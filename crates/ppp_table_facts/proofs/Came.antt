-- Each datagram that a unit gives came from members.
use Rattle.std.proofs.Common.{◌≡◌, inl, inr, ℕ, Bool, true, false, Option, None, Some, List, [], ◌∷◌, ◌++◌, length, refl, ap, sym, subst, arith}
use Rattle.std.specs.List.{AllByRecursion}
use Rattle.std.specs.Prelude.{nat_le, if◌then◌else◌}
use Rattle.ppp_base.specs.Mrru.{MrruPair}
use Rattle.ppp_base.specs.declared.protocol.TheConstants.{IP}
use Rattle.ppp_mp.specs.Header.{long_space}
use Rattle.ppp_mp.specs.Membership.{IsLink}
use Rattle.ppp_mp.specs.Reached.{HasReached, Reached, Whole}
use Rattle.ppp_mp.specs.StandsFor.{GatherNow}
use Rattle.ppp_mp.proofs.Reaching.{reached_some}
use Rattle.ppp_unit_parts.specs.Live.{most_of_ours}
use Rattle.ppp_bundle.specs.Frames.{Inner, inner, inner_of}
use Rattle.ppp_bundle.specs.History.{CameIn, Moment, Enters, Goes, Brings, Gathered, Carries, Passes, Calls, Terms, brought_by, entries_in, gathered_in, given_in, is_member_in, within}
use Rattle.ppp_bundle.specs.Lives.{GathersAll}
use Rattle.ppp_bundle.proofs.LawFacts.{all_came, gathered_whole}
use Rattle.ppp_table_facts.specs.Came.{Came, CameAmong, CameAt, IsGathered}

-- LISTS

front : {X : Type 0} (P : X → Type 0) (one other : List X) → AllByRecursion P (one ++ other) → AllByRecursion P one
front P [] other all = tt
front P (x ∷ one) other all = (all.0, front P one other all.1)

back : {X : Type 0} (P : X → Type 0) (one other : List X) → AllByRecursion P (one ++ other) → AllByRecursion P other
back P [] other all = all
back P (x ∷ one) other all = back P one other all.1

each : {X : Type 0} (P Q : X → Type 0) (xs : List X) → ((x : X) → P x → Q x) → AllByRecursion P xs → AllByRecursion Q xs
each P Q [] to all = tt
each P Q (x ∷ xs) to all = (to x all.0, each P Q xs to all.1)

-- WHAT WAS GATHERED IS WHOLE

pub all_gathered : (o : Option MrruPair) (gather : GatherNow) (moments : List Moment) (left : List (List ℕ)) → GathersAll o gather moments left → AllByRecursion IsLink (entries_in moments)
    → AllByRecursion (IsGathered (most_of_ours o) moments) (gathered_in moments)
all_gathered None gather moments left h links = subst (λ (packets : List (List ℕ)). AllByRecursion (IsGathered 0 moments) packets) (sym h.0) tt
all_gathered (Some mrru) gather moments left h links =
    let r : (reached : List Reached) × HasReached long_space mrru.ours (entries_in moments) reached = reached_some 8388608 mrru.ours (entries_in moments) (omega arith) in
    let has : HasReached long_space gather.mrru (entries_in moments) r.0 = subst (λ (n : ℕ). HasReached long_space n (entries_in moments) r.0) (sym h.3) r.1 in
    each (Whole r.0) (IsGathered mrru.ours moments) (gathered_in moments) (λ packet whole. record { reached = r.0; has = r.1; whole = whole })
    (gathered_whole mrru gather moments left r.0 h links has)

-- WHERE A DATAGRAM CAME

framed_at : (b : Bool) (protocol : ℕ) (information datagram : List ℕ) → (if b then Some (inner protocol information) else None) ≡ Some (inner IP datagram)
    → (b ≡ true) × (protocol ≡ IP) × (information ≡ datagram)
framed_at true protocol information datagram e =
    let same : inner protocol information ≡ inner IP datagram = (let f : Some (inner protocol information) ≡ Some (inner IP datagram) = e in cc) in
    (refl, ap (λ (i : Inner). i.protocol) same, ap (λ (i : Inner). i.information) same)
framed_at false protocol information datagram e = absurd (let f : None ≡ Some (inner IP datagram) = e in cc)

if_within : (b : Bool) (i j : Inner) → (if b then Some i else None) ≡ Some j → Some i ≡ Some j
if_within true i j e = e
if_within false i j e = absurd (let f : None ≡ Some j = e in cc)

is_within : (most : ℕ) (o : Option Inner) (j : Inner) → within most o ≡ Some j → o ≡ Some j
is_within most None j e = absurd (let f : None ≡ Some j = e in cc)
is_within most (Some i) j e = if_within (nat_le (length i.information) most) i j e

none_brought : (datagram : List ℕ) → None ≡ Some (inner IP datagram) → ⊥
none_brought datagram e = absurd (let f : None ≡ Some (inner IP datagram) = e in cc)

came_now : (terms : Terms) (mrru : ℕ) (moments : List Moment) (m : Moment) (before : List Moment) (datagram : List ℕ) → AllByRecursion (IsGathered mrru moments) (gathered_in (m ∷ before))
    → brought_by terms m before ≡ Some (inner IP datagram) → CameAt mrru moments m before datagram
came_now terms mrru moments (Brings secrets link protocol information) before datagram all e = framed_at (is_member_in link before) protocol information datagram e
came_now terms mrru moments (Gathered secrets packet) before datagram all e =
    (is_within (most_of_ours terms.mrru) (inner_of packet) (inner IP datagram) e, (back (IsGathered mrru moments) (gathered_in before) (packet ∷ []) all).0)
came_now terms mrru moments (Enters link mru) before datagram all e = none_brought datagram e
came_now terms mrru moments (Goes link) before datagram all e = none_brought datagram e
came_now terms mrru moments (Carries other) before datagram all e = none_brought datagram e
came_now terms mrru moments (Passes now) before datagram all e = none_brought datagram e
came_now terms mrru moments (Calls call) before datagram all e = none_brought datagram e

gathered_before : (mrru : ℕ) (moments : List Moment) (m : Moment) (before : List Moment) → AllByRecursion (IsGathered mrru moments) (gathered_in (m ∷ before)) → AllByRecursion (IsGathered mrru moments) (gathered_in before)
gathered_before mrru moments (Gathered secrets packet) before all = front (IsGathered mrru moments) (gathered_in before) (packet ∷ []) all
gathered_before mrru moments (Brings secrets link protocol information) before all = all
gathered_before mrru moments (Enters link mru) before all = all
gathered_before mrru moments (Goes link) before all = all
gathered_before mrru moments (Carries other) before all = all
gathered_before mrru moments (Passes now) before all = all
gathered_before mrru moments (Calls call) before all = all

came_by : (terms : Terms) (mrru : ℕ) (moments until : List Moment) (datagram : List ℕ) → AllByRecursion (IsGathered mrru moments) (gathered_in until) → CameIn terms until datagram → CameAmong mrru moments until datagram
came_by terms mrru moments [] datagram all c = c
came_by terms mrru moments (m ∷ before) datagram all (inl e) = inl (came_now terms mrru moments m before datagram all e)
came_by terms mrru moments (m ∷ before) datagram all (inr c) = inr (came_by terms mrru moments before datagram (gathered_before mrru moments m before all) c)

pub all_came_from : (terms : Terms) (gather : GatherNow) (past moments : List Moment) (left given : List (List ℕ)) → GathersAll terms.mrru gather moments left → AllByRecursion IsLink (entries_in moments)
    → given_in terms past ++ given ≡ given_in terms moments → AllByRecursion (Came (most_of_ours terms.mrru) moments) given
all_came_from terms gather past moments left given h links gives =
    each (CameIn terms moments) (Came (most_of_ours terms.mrru) moments) given (λ datagram c. came_by terms (most_of_ours terms.mrru) moments moments datagram (all_gathered terms.mrru gather moments left h links) c)
    (back (CameIn terms moments) (given_in terms past) given (subst (λ (xs : List (List ℕ)). AllByRecursion (CameIn terms moments) xs) (sym gives) (all_came terms moments)))
