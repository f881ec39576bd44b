-- What follows of every history of a bundle: what was given came to it, in a frame of a link that was a member then, or in pieces of such links; and when a bundle has too many marks.
use Rattle.std.proofs.Common.{◌≡◌, inl, inr, ℕ, Bool, true, false, Option, None, Some, List, [], ◌∷◌, ◌++◌, refl, ap, subst, ◌∙◌, arith}
use Rattle.std.proofs.lemmas.Bool.Decides.{nat_tests}
use Rattle.std.specs.List.{AllByRecursion}
use Rattle.std.specs.Prelude.{◌==◌, if◌then◌else◌, nat_le}
use Rattle.ppp_base.specs.Mrru.{MrruPair}
use Rattle.ppp_base.specs.declared.posts.CloseCause.TheVariants.{TooManyChanges}
use Rattle.ppp_base.specs.declared.protocol.TheConstants.{IP}
use Rattle.ppp_mark.specs.declared.mark.Mark.{Mark}
use Rattle.ppp_mp.specs.Header.{long_space}
use Rattle.ppp_mp.specs.Membership.{IsLink}
use Rattle.ppp_mp.specs.Reached.{HasReached, Reached, Whole}
use Rattle.ppp_mp.specs.StandsFor.{GatherNow}
use Rattle.ppp_mp.proofs.Reaching.{delivered_reached}
use Rattle.ppp_bundle.specs.Closing.{crowded_end}
use Rattle.ppp_bundle.specs.Frames.{Inner}
use Rattle.ppp_bundle.specs.History.{CameIn, Moment, Terms, brought_by, datagram_of, entries_in, gathered_in, given_by, given_in, is_up_in}
use Rattle.ppp_bundle.specs.Lives.{GathersAll}
use Rattle.ppp_bundle.specs.Replay.{since_made}

front : {X : Type 0} (P : X → Type 0) (one other : List X) → AllByRecursion P (one ++ other) → AllByRecursion P one
front P [] other all = tt
front P (x ∷ one) other all = (all.0, front P one other all.1)

both : {X : Type 0} (P : X → Type 0) (one other : List X) → AllByRecursion P one → AllByRecursion P other → AllByRecursion P (one ++ other)
both P [] other a b = b
both P (x ∷ one) other a b = (a.0, both P one other a.1 b)

each : {X : Type 0} (P Q : X → Type 0) (xs : List X) → ((x : X) → P x → Q x) → AllByRecursion P xs → AllByRecursion Q xs
each P Q [] to all = tt
each P Q (x ∷ xs) to all = (to x all.0, each P Q xs to all.1)

pub gathered_whole : (mrru : MrruPair) (gather : GatherNow) (past : List Moment) (left : List (List ℕ)) (reached : List Reached) → GathersAll (Some mrru) gather past left → AllByRecursion IsLink (entries_in past)
    → HasReached long_space gather.mrru (entries_in past) reached → AllByRecursion (Whole reached) (gathered_in past)
gathered_whole mrru gather past left reached h links has =
    front (Whole reached) (gathered_in past) left
    (subst (λ (x : List (List ℕ)). AllByRecursion (Whole reached) x) h.2 (delivered_reached long_space gather.mrru (entries_in past) reached h.0 links has h.1.delivered))

datagram_by : (terms : Terms) (m : Moment) (past : List Moment) (found : Option Inner) → brought_by terms m past ≡ found → AllByRecursion (CameIn terms (m ∷ past)) (datagram_of found)
datagram_by terms m past None e = tt
datagram_by terms m past (Some i) e = by_protocol (i.protocol == IP) refl
  where
    by_protocol : (is : Bool) → (i.protocol == IP) ≡ is → AllByRecursion (CameIn terms (m ∷ past)) (if is then i.information ∷ [] else [])
    by_protocol true f =
        let same : i.protocol ≡ IP = grind (arith, nat_tests) in
        (inl (e ∙ ap (λ (n : ℕ). Some (record i { protocol = n })) same), tt)
    by_protocol false f = tt

given_came : (terms : Terms) (m : Moment) (past : List Moment) (up : Bool) → AllByRecursion (CameIn terms (m ∷ past)) (if up then datagram_of (brought_by terms m past) else [])
given_came terms m past true = datagram_by terms m past (brought_by terms m past) refl
given_came terms m past false = tt

pub all_came : (terms : Terms) (past : List Moment) → AllByRecursion (CameIn terms past) (given_in terms past)
all_came terms [] = tt
all_came terms (m ∷ past) =
    both (CameIn terms (m ∷ past)) (given_in terms past) (given_by terms m past)
    (each (CameIn terms past) (CameIn terms (m ∷ past)) (given_in terms past) (λ x came. inr came) (all_came terms past))
    (given_came terms m past (is_up_in terms past))

-- 900 marks close a bundle, and one less doesn't
pub closes_at : (past : List Mark) → since_made past ≡ 900 → crowded_end past ≡ Some (record { cause = TooManyChanges; elapsed_ms = 0 })
closes_at past e = let le : nat_le 900 (since_made past) ≡ true = grind (arith, nat_tests) in rw le refl

pub stays_at : (past : List Mark) → since_made past ≡ 899 → crowded_end past ≡ None
stays_at past e = let le : nat_le 900 (since_made past) ≡ false = grind (arith, nat_tests) in rw le refl
