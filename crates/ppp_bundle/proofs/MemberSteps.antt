-- A link that comes in and one that goes out leave a unit that agrees with its log.
use Rattle.std.proofs.Common.{◌≡◌, ℕ, suc, ◌≤◌, Bool, true, false, Option, None, Some, List, [], ◌∷◌, length, refl, ap, sym, subst, ◌∙◌, arith}
use Rattle.std.proofs.lemmas.Bool.Decides.{nat_tests}
use Rattle.std.specs.Prelude.{◌==◌, IfSome, not, if◌then◌else◌}
use Rattle.ppp_base.specs.Mrru.{MrruPair}
use Rattle.ppp_mark.specs.Marks.{in_mark, out_mark}
use Rattle.ppp_secrets.specs.declared.secrets.SecretsPair.{SecretsPair}
use Rattle.ppp_unit_parts.specs.declared.live.IpCall.TheVariants.{ComesUp, Opens}
use Rattle.ppp_unit_parts.specs.declared.live.Live.{Live}
use Rattle.ppp_unit_parts.specs.declared.member.Member.{Member}
use Rattle.ppp_bundle.specs.Closing.{unmade}
use Rattle.ppp_unit_parts.specs.Fits.{Fits, HasSoMany}
use Rattle.ppp_bundle.specs.Frames.{used_all}
use Rattle.ppp_bundle.specs.IpCalls.{called}
use Rattle.ppp_unit_parts.specs.Member.{AreInOrder, member, with_member, without}
use Rattle.ppp_bundle.specs.ScriptParts.{marked}
use Rattle.ppp_bundle.specs.Sound.{Agrees}
use Rattle.ppp_bundle.specs.State.{UnitState, members_of}
use Rattle.ppp_bundle.specs.UnitPart.{MayEnter, begun, entered, entered_of, left_by, left_of}
use Rattle.ppp_unit_parts.proofs.MemberFacts.{count_all, few_without, order_with, order_without, stay_with, stay_without}

no_length : (n : ℕ) → (suc n == 0) ≡ false
no_length n = grind (arith, nat_tests)

-- A LINK COMES IN

abbrev pub with_link : {S : Type 0} → (link stay mru : ℕ) → Live → UnitState S → UnitState S
with_link link stay mru l u = record u {
  scripts = marked (in_mark u.time link stay) u.scripts;
  live = Some (record l { members = with_member (member link stay mru) l.members });
}

many_with : (m : Option MrruPair) (new : Member) (members : List Member) → (m ≡ None → members ≡ []) → AreInOrder 0 (with_member new members) → HasSoMany m (with_member new members)
many_with None new members none order = rw (none refl) (omega arith)
many_with (Some mrru) new members none order = count_all (with_member new members) order

pub fits_with : (link stay mru : ℕ) (l : Live) → Fits l → MayEnter (Some l) link mru → 1 ≤ link → link ≤ 16 → Fits (record l { members = with_member (member link stay mru) l.members })
fits_with link stay mru l fits may some most =
    let order = order_with 0 (member link stay mru) l.members fits.order may.1 some most may.2 may.3 in
    record { order = order; count = many_with l.mrru (member link stay mru) l.members may.0 order }

more_stays : (link : ℕ) (b : Bool) (stay : ℕ) (o o' : Option ℕ) → o ≡ o' → (if b then Some stay else o) ≡ (if b then Some stay else (if false then None else o'))
more_stays link true stay o o' e = refl
more_stays link false stay o o' e = e

with_at : {S : Type 0} (link stay mru : ℕ) (l : Live) (u : UnitState S) → MayEnter (Some l) link mru → 1 ≤ link → link ≤ 16 → Agrees (record u { live = Some l }) → Agrees (with_link link stay mru l u)
with_at link stay mru l u may some most a = record {
  target = a.target;
  opened = a.opened;
  since = (let s = a.since in omega (arith, s));
  room = a.room;
  fits = fits_with link stay mru l a.fits may some most;
  says = record { local = a.says.local; remote = a.says.remote; openings = a.says.openings };
  bundle = a.bundle;
  stays = λ x. stay_with (member link stay mru) x l.members a.fits.order may.1 ∙ more_stays link (link == x) stay _ _ (a.stays x);
  session = record { past = a.session.past; stands = a.session.stands };
  time = a.time;
}

with_by : {S : Type 0} (link stay mru : ℕ) (o : Option Live) (old new : UnitState S) → old.live ≡ o → MayEnter o link mru → 1 ≤ link → link ≤ 16 → Agrees old → IfSome o (λ l. new ≡ with_link link stay mru l old) → Agrees new
with_by link stay mru None old new live may some most a is = absurd may
with_by {S = S} link stay mru (Some l) old new live may some most a is =
    let here : old ≡ record old { live = Some l } = ap (λ (o : Option Live). record old { live = o }) live in
    subst (λ (v : UnitState S). Agrees v) (sym is) (with_at link stay mru l old may some most (subst (λ (v : UnitState S). Agrees v) here a))

pub agrees_with : {S : Type 0} (link stay mru : ℕ) (old new : UnitState S) → MayEnter old.live link mru → 1 ≤ link → link ≤ 16 → Agrees old → IfSome old.live (λ l. new ≡ with_link link stay mru l old) → Agrees new
agrees_with link stay mru old new may some most a is = with_by link stay mru old.live old new refl may some most a is

pub agrees_with_some : {S : Type 0} (link stay mru : ℕ) (l : Live) (old new : UnitState S) → old.live ≡ Some l → MayEnter old.live link mru → 1 ≤ link → link ≤ 16 → Agrees old → new ≡ with_link link stay mru l old → Agrees new
agrees_with_some {S = S} link stay mru l old new live may some most a is =
    with_by link stay mru (Some l) old new live (subst (λ (o : Option Live). MayEnter o link mru) live may) some most a is

first_by : {S : Type 0} (secrets : SecretsPair) (members : List Member) (v : UnitState S) → (length members == 0) ≡ true → called secrets ComesUp (called secrets Opens v) ≡ begun members secrets v
first_by secrets [] v e = refl
first_by secrets (m ∷ members) v e = absurd (let f : false ≡ true = sym (no_length (length members)) ∙ e in cc)

more_by : {S : Type 0} (secrets : SecretsPair) (members : List Member) (v : UnitState S) → (length members == 0) ≡ false → v ≡ begun members secrets v
more_by secrets [] v e = absurd (let f : true ≡ false = e in cc)
more_by secrets (m ∷ members) v e = refl

enters_by : {S : Type 0} (secrets : SecretsPair) (link stay mru : ℕ) (o : Option Live) (old mid new : UnitState S) → old.live ≡ o → MayEnter o link mru → IfSome o (λ l. mid ≡ with_link link stay mru l old)
    → ((members : List Member) → members ≡ members_of o → new ≡ begun members secrets mid) → new ≡ entered secrets link stay mru old
enters_by secrets link stay mru None old mid new live may is next = absurd may
enters_by {S = S} secrets link stay mru (Some l) old mid new live may is next =
    next l.members refl ∙ ap (λ (v : UnitState S). begun l.members secrets v) is ∙ ap (λ (o : Option Live). entered_of o secrets link stay mru old) (sym live)

pub enters_first : {S : Type 0} (secrets : SecretsPair) (link stay mru : ℕ) (old mid new : UnitState S) → MayEnter old.live link mru → (length (members_of old.live) == 0) ≡ true → IfSome old.live (λ l. mid ≡ with_link link stay mru l old)
    → new ≡ called secrets ComesUp (called secrets Opens mid) → new ≡ entered secrets link stay mru old
enters_first secrets link stay mru old mid new may first is next =
    enters_by secrets link stay mru old.live old mid new refl may is (λ members e. next ∙ first_by secrets members mid (ap (λ (ms : List Member). length ms == 0) e ∙ first))

pub enters_more : {S : Type 0} (secrets : SecretsPair) (link stay mru : ℕ) (old new : UnitState S) → MayEnter old.live link mru → (length (members_of old.live) == 0) ≡ false → IfSome old.live (λ l. new ≡ with_link link stay mru l old)
    → new ≡ entered secrets link stay mru old
enters_more secrets link stay mru old new may first is =
    enters_by secrets link stay mru old.live old new new refl may is (λ members e. more_by secrets members new (ap (λ (ms : List Member). length ms == 0) e ∙ first))

-- A LINK GOES OUT

abbrev pub without_link : {S : Type 0} → (link stay : ℕ) → Live → UnitState S → UnitState S
without_link link stay l u = record u {
  scripts = marked (out_mark u.time link stay) u.scripts;
  live = Some (record l { members = without link l.members });
}

fewer : (m : Option MrruPair) (link : ℕ) (members : List Member) → HasSoMany m members → HasSoMany m (without link members)
fewer None link members many = let few = few_without link members in omega (arith, few, many)
fewer (Some mrru) link members many = let few = few_without link members in omega (arith, few, many)

fewer_stays : (b : Bool) (o o' : Option ℕ) → o ≡ o' → (if b then None else o) ≡ (if b then None else o')
fewer_stays true o o' e = refl
fewer_stays false o o' e = e

without_at : {S : Type 0} (link stay : ℕ) (l : Live) (u : UnitState S) → Agrees (record u { live = Some l }) → Agrees (without_link link stay l u)
without_at link stay l u a = record {
  target = a.target;
  opened = a.opened;
  since = (let s = a.since in omega (arith, s));
  room = a.room;
  fits = record { order = order_without 0 link l.members a.fits.order; count = fewer l.mrru link l.members a.fits.count };
  says = record { local = a.says.local; remote = a.says.remote; openings = a.says.openings };
  bundle = a.bundle;
  stays = λ x. stay_without link x l.members ∙ fewer_stays (link == x) _ _ (a.stays x);
  session = record { past = a.session.past; stands = a.session.stands };
  time = a.time;
}

pub agrees_without : {S : Type 0} (link stay : ℕ) (l : Live) (old new : UnitState S) → old.live ≡ Some l → Agrees old → new ≡ without_link link stay l old → Agrees new
agrees_without {S = S} link stay l old new live a is =
    let here : old ≡ record old { live = Some l } = ap (λ (o : Option Live). record old { live = o }) live in
    subst (λ (v : UnitState S). Agrees v) (sym is) (without_at link stay l old (subst (λ (v : UnitState S). Agrees v) here a))

last_by : {S : Type 0} (secrets : SecretsPair) (left : List Member) (l : Live) (link stay : ℕ) (u : UnitState S) → (length left == 0) ≡ true
    → record u { scripts = unmade l u.time u.scripts; live = None } ≡ left_by left secrets l link stay [] u
last_by secrets [] l link stay u e = refl
last_by secrets (m ∷ left) l link stay u e = absurd (let f : false ≡ true = sym (no_length (length left)) ∙ e in cc)

others_by : {S : Type 0} (secrets : SecretsPair) (left : List Member) (l : Live) (link stay : ℕ) (u : UnitState S) → (length left == 0) ≡ false
    → record u { scripts = marked (out_mark u.time link stay) u.scripts; live = Some (record l { members = left }) } ≡ left_by left secrets l link stay [] u
others_by secrets [] l link stay u e = absurd (let f : true ≡ false = e in cc)
others_by secrets (m ∷ left) l link stay u e = refl

pub leaves_last : {S : Type 0} (secrets : SecretsPair) (link stay : ℕ) (l : Live) (old new : UnitState S) → old.live ≡ Some l → (length (without link l.members) == 0) ≡ true
    → new ≡ record old { scripts = unmade l old.time old.scripts; live = None } → new ≡ left_of old.live secrets link stay [] old
leaves_last secrets link stay l old new live e is =
    is ∙ last_by secrets (without link l.members) l link stay old e ∙ ap (λ (o : Option Live). left_of o secrets link stay [] old) (sym live)

pub leaves_others : {S : Type 0} (secrets : SecretsPair) (link stay : ℕ) (l : Live) (old new : UnitState S) → old.live ≡ Some l → (length (without link l.members) == 0) ≡ false
    → new ≡ without_link link stay l old → new ≡ left_of old.live secrets link stay [] old
leaves_others secrets link stay l old new live e is =
    is ∙ others_by secrets (without link l.members) l link stay old e ∙ ap (λ (o : Option Live). left_of o secrets link stay [] old) (sym live)

used_by : {S : Type 0} (secrets : SecretsPair) (left : List Member) (l : Live) (link stay : ℕ) (packets : List (List ℕ)) (u : UnitState S) → (length left == 0) ≡ false
    → used_all secrets packets (left_by left secrets l link stay [] u) ≡ left_by left secrets l link stay packets u
used_by secrets [] l link stay packets u e = absurd (let f : true ≡ false = e in cc)
used_by secrets (m ∷ left) l link stay packets u e = refl

unused_by : {S : Type 0} (secrets : SecretsPair) (left : List Member) (l : Live) (link stay : ℕ) (packets : List (List ℕ)) (u : UnitState S) → (length left == 0) ≡ true
    → left_by left secrets l link stay [] u ≡ left_by left secrets l link stay packets u
unused_by secrets [] l link stay packets u e = refl
unused_by secrets (m ∷ left) l link stay packets u e = absurd (let f : false ≡ true = sym (no_length (length left)) ∙ e in cc)

other_of : (b : Bool) → not b ≡ true → b ≡ false
other_of true e = absurd (let f : false ≡ true = e in cc)
other_of false e = refl

same_of : (b : Bool) → not b ≡ false → b ≡ true
same_of true e = refl
same_of false e = absurd (let f : true ≡ false = e in cc)

more_from : {S : Type 0} (secrets : SecretsPair) (link stay : ℕ) (packets : List (List ℕ)) (o : Option Live) (u : UnitState S) → not (length (without link (members_of o)) == 0) ≡ true
    → used_all secrets packets (left_of o secrets link stay [] u) ≡ left_of o secrets link stay packets u
more_from secrets link stay packets None u e = absurd (let f : false ≡ true = e in cc)
more_from secrets link stay packets (Some l) u e = used_by secrets (without link l.members) l link stay packets u (other_of (length (without link l.members) == 0) e)

last_from : {S : Type 0} (secrets : SecretsPair) (link stay : ℕ) (packets : List (List ℕ)) (o : Option Live) (u : UnitState S) → not (length (without link (members_of o)) == 0) ≡ false
    → left_of o secrets link stay [] u ≡ left_of o secrets link stay packets u
last_from secrets link stay packets None u e = refl
last_from secrets link stay packets (Some l) u e = unused_by secrets (without link l.members) l link stay packets u (same_of (length (without link l.members) == 0) e)

pub left_more : {S : Type 0} (secrets : SecretsPair) (link stay : ℕ) (packets : List (List ℕ)) (old mid new : UnitState S) → not (length (without link (members_of old.live)) == 0) ≡ true
    → mid ≡ left_of old.live secrets link stay [] old → new ≡ used_all secrets packets mid → new ≡ left_of old.live secrets link stay packets old
left_more {S = S} secrets link stay packets old mid new e is next = next ∙ ap (λ (v : UnitState S). used_all secrets packets v) is ∙ more_from secrets link stay packets old.live old e

pub left_last : {S : Type 0} (secrets : SecretsPair) (link stay : ℕ) (packets : List (List ℕ)) (old new : UnitState S) → not (length (without link (members_of old.live)) == 0) ≡ false
    → new ≡ left_of old.live secrets link stay [] old → new ≡ left_of old.live secrets link stay packets old
left_last secrets link stay packets old new e is = is ∙ last_from secrets link stay packets old.live old e
