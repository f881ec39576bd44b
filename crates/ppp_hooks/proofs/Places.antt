-- What a lawful and settled past, whose newest mark comes first, says of each place in its list from the oldest mark on.
use Rattle.std.proofs.Common.{ℕ, ◌+◌, ◌≡◌, ◌⊎◌, inl, inr, Bool, true, false, not, Option, None, Some, is_some, List, [], ◌∷◌, ◌++◌, refl, ap, ◌∙◌, sym, subst, arith, cond, count_by, append_assoc}
use mathlib.Core.List.{reverse}
use Rattle.std.proofs.lemmas.List.{reverse-append, reverse-reverse, append-nil}
use Rattle.std.proofs.lemmas.List.Sums.{sum_by-append, sum_by-cons}
use Rattle.ppp_hooks.specs.HookMark.{HookMark, Opened, Closed, Started, Ended, is_opening, is_closing, is_start, is_end, directions}
use Rattle.ppp_hooks.specs.HookLaw.{Alternate, IsOpenAfter, LastStartIs, IsInPlace, HookLaw}
use Rattle.ppp_hooks.specs.HookPast.{starts_in, ends_in, open_in, last_in, IsLawful, IsSettled, IsDown, Matches}
use Rattle.ppp_hooks.specs.Settled.{NoneRuns, IsPresentOpening, Settled}

pub count_by-append : (p : HookMark → Bool) (xs ys : List HookMark) → count_by p (xs ++ ys) ≡ count_by p xs + count_by p ys
count_by-append p xs ys = sum_by-append (λ x. cond (p x) 1 0) xs ys

pub count_by-cons : (p : HookMark → Bool) (x : HookMark) (xs : List HookMark) → count_by p (x ∷ xs) ≡ cond (p x) 1 0 + count_by p xs
count_by-cons p x xs = sum_by-cons (λ y. cond (p y) 1 0) x xs

-- turned round: the newest mark is the last
pub reverse-cons : (x : HookMark) (xs : List HookMark) → reverse (x ∷ xs) ≡ reverse xs ++ x ∷ []
reverse-cons x xs = reverse-append (x ∷ []) xs

reverse-nil : reverse {A = HookMark} [] ≡ []
reverse-nil = refl

pub count_by-reverse : (p : HookMark → Bool) (xs : List HookMark) → count_by p (reverse xs) ≡ count_by p xs
count_by-reverse p [] = ap (count_by p) reverse-nil
count_by-reverse p (x ∷ xs) =
    ap (count_by p) (reverse-cons x xs) ∙ omega (arith, count_by-append p (reverse xs) (x ∷ []), count_by-reverse p xs, count_by-cons p x xs, count_by-cons p x [])

lawful-rest : (xs ys : List HookMark) → IsLawful (xs ++ ys) → IsLawful ys
lawful-rest [] ys l = l
lawful-rest (x ∷ xs) ys l = lawful-rest xs ys l.1

pub starts_are : (xs : List HookMark) → starts_in xs ≡ count_by is_start xs
starts_are [] = refl
starts_are (Opened n ∷ xs) = omega (arith, starts_are xs, count_by-cons is_start (Opened n) xs)
starts_are (Closed n ∷ xs) = omega (arith, starts_are xs, count_by-cons is_start (Closed n) xs)
starts_are (Started up n ∷ xs) = omega (arith, starts_are xs, count_by-cons is_start (Started up n) xs)
starts_are (Ended answer job ∷ xs) = omega (arith, starts_are xs, count_by-cons is_start (Ended answer job) xs)

pub ends_are : (xs : List HookMark) → ends_in xs ≡ count_by is_end xs
ends_are [] = refl
ends_are (Opened n ∷ xs) = omega (arith, ends_are xs, count_by-cons is_end (Opened n) xs)
ends_are (Closed n ∷ xs) = omega (arith, ends_are xs, count_by-cons is_end (Closed n) xs)
ends_are (Started up n ∷ xs) = omega (arith, ends_are xs, count_by-cons is_end (Started up n) xs)
ends_are (Ended answer job ∷ xs) = omega (arith, ends_are xs, count_by-cons is_end (Ended answer job) xs)

-- what is open in a past was opened, and nothing was opened or closed since
pub opened-in : (past : List HookMark) (n : ℕ) → open_in past ≡ Some n
    → (later : List HookMark) × (earlier : List HookMark) × (past ≡ later ++ Opened n ∷ earlier) × (count_by is_closing later ≡ 0) × (count_by is_opening later ≡ 0)
opened-in [] n e = absurd (cc e)
opened-in (Opened m ∷ past) n e = let same : m ≡ n = cc e in ([], past, ap (λ k. Opened k ∷ past) same, refl, refl)
opened-in (Closed m ∷ past) n e = absurd (cc e)
opened-in (Started up m ∷ past) n e =
    let r = opened-in past n e in (
      Started up m ∷ r.0,
      r.1,
      ap (λ xs. Started up m ∷ xs) r.2,
      omega (arith, r.3, count_by-cons is_closing (Started up m) r.0),
      omega (arith, r.4, count_by-cons is_opening (Started up m) r.0),
    )
opened-in (Ended answer job ∷ past) n e =
    let r = opened-in past n e in (
      Ended answer job ∷ r.0,
      r.1,
      ap (λ xs. Ended answer job ∷ xs) r.2,
      omega (arith, r.3, count_by-cons is_closing (Ended answer job) r.0),
      omega (arith, r.4, count_by-cons is_opening (Ended answer job) r.0),
    )

-- the last start of a past
started-in : (past : List HookMark) (up : Bool) (n : ℕ) → last_in past ≡ Some (up, n)
    → (later : List HookMark) × (earlier : List HookMark) × (past ≡ later ++ Started up n ∷ earlier) × (count_by is_start later ≡ 0)
started-in [] up n e = absurd (cc e)
started-in (Opened m ∷ past) up n e =
    let r = started-in past up n e in (Opened m ∷ r.0, r.1, ap (λ xs. Opened m ∷ xs) r.2, omega (arith, r.3, count_by-cons is_start (Opened m) r.0))
started-in (Closed m ∷ past) up n e =
    let r = started-in past up n e in (Closed m ∷ r.0, r.1, ap (λ xs. Closed m ∷ xs) r.2, omega (arith, r.3, count_by-cons is_start (Closed m) r.0))
started-in (Started was m ∷ past) up n e =
    let pair : (was, m) ≡ (up, n) = cc e in
    let same : m ≡ n = ap (λ (p : Bool × ℕ). p.1) pair in
    let ups : was ≡ up = ap (λ (p : Bool × ℕ). p.0) pair in
    ([], past, ap (λ k. Started was k ∷ past) same ∙ ap (λ b. Started b n ∷ past) ups, refl)
started-in (Ended answer job ∷ past) up n e =
    let r = started-in past up n e in (Ended answer job ∷ r.0, r.1, ap (λ xs. Ended answer job ∷ xs) r.2, omega (arith, r.3, count_by-cons is_start (Ended answer job) r.0))

-- what was opened, and not closed since, is open
open-since : (later earlier : List HookMark) (n : ℕ) → IsLawful (later ++ Opened n ∷ earlier)
    → count_by is_closing later ≡ 0 → open_in (later ++ Opened n ∷ earlier) ≡ Some n
open-since [] earlier n l none = refl
open-since (Opened m ∷ later) earlier n l none =
    let e : open_in (later ++ Opened n ∷ earlier) ≡ Some n = open-since later earlier n l.1 (omega (arith, none, count_by-cons is_closing (Opened m) later)) in
    let shut : open_in (later ++ Opened n ∷ earlier) ≡ None = l.0.0 in absurd (cc (e, shut))
open-since (Closed m ∷ later) earlier n l none = absurd (omega (arith, none, count_by-cons is_closing (Closed m) later))
open-since (Started up m ∷ later) earlier n l none = open-since later earlier n l.1 (omega (arith, none, count_by-cons is_closing (Started up m) later))
open-since (Ended answer job ∷ later) earlier n l none = open-since later earlier n l.1 (omega (arith, none, count_by-cons is_closing (Ended answer job) later))

-- the direction that comes after these
unfoldable pub turn_after : Bool → List Bool → Bool
turn_after first [] = first
turn_after first (up ∷ ups) = turn_after (not first) ups

Alternate-more : (first : Bool) (ups : List Bool) (up : Bool) → Alternate first ups → up ≡ turn_after first ups → Alternate first (ups ++ up ∷ [])
unfolding turn_after
Alternate-more first [] up t e = (e, tt)
Alternate-more first (u ∷ us) up t e = (t.0, Alternate-more (not first) us up t.1 e)

pub turn_after-more : (first : Bool) (ups : List Bool) (up : Bool) → turn_after first (ups ++ up ∷ []) ≡ not (turn_after first ups)
unfolding turn_after
turn_after-more first [] up = refl
turn_after-more first (u ∷ us) up = turn_after-more (not first) us up

pub directions-append : (xs ys : List HookMark) → directions (xs ++ ys) ≡ directions xs ++ directions ys
directions-append [] ys = refl
directions-append (Opened n ∷ xs) ys = directions-append xs ys
directions-append (Closed n ∷ xs) ys = directions-append xs ys
directions-append (Started up n ∷ xs) ys = ap (λ ds. up ∷ ds) (directions-append xs ys)
directions-append (Ended answer job ∷ xs) ys = directions-append xs ys

pub directions-reverse : (x : HookMark) (xs : List HookMark) → directions (reverse (x ∷ xs)) ≡ directions (reverse xs) ++ directions (x ∷ [])
directions-reverse x xs = ap directions (reverse-cons x xs) ∙ directions-append (reverse xs) (x ∷ [])

-- the direction of the next start
abbrev pub next_of : Option (Bool × ℕ) → Bool
next_of None = true
next_of (Some s) = not s.0

next_of-down : (last : Option (Bool × ℕ)) → IsDown last → true ≡ next_of last
next_of-down None down = refl
next_of-down (Some s) down = sym (ap not down)

-- the directions so far, and which comes next
abbrev Turns : Bool → List Bool → Type 0
Turns next ds = Alternate true ds × (turn_after true ds ≡ next)

turns-same : (next : Bool) (x : HookMark) (past : List HookMark) → directions (x ∷ []) ≡ [] → Turns next (directions (reverse past)) → Turns next (directions (reverse (x ∷ past)))
turns-same next x past none t =
    let e : directions (reverse (x ∷ past)) ≡ directions (reverse past) =
    directions-reverse x past ∙ ap (λ ds. directions (reverse past) ++ ds) none ∙ append-nil (directions (reverse past))
    in
    subst (λ (ds : List Bool). Turns next ds) (sym e) t

turns-more : (up : Bool) (n : ℕ) (next : Bool) (past : List HookMark) → up ≡ next → Turns next (directions (reverse past))
    → Turns (not up) (directions (reverse (Started up n ∷ past)))
turns-more up n next past e t =
    subst (λ (ds : List Bool). Turns (not up) ds) (sym (directions-reverse (Started up n) past)) (
      Alternate-more true (directions (reverse past)) up t.0 (e ∙ sym t.1),
      turn_after-more true (directions (reverse past)) up ∙ ap not (t.1 ∙ sym e),
    )

turns-in : (past : List HookMark) → IsLawful past → Turns (next_of (last_in past)) (directions (reverse past))
turns-in [] l = subst (λ (xs : List HookMark). Turns true (directions xs)) (sym reverse-nil) (tt, unfold turn_after in refl)
turns-in (Opened n ∷ past) l = turns-same _ (Opened n) past refl (turns-in past l.1)
turns-in (Closed n ∷ past) l = turns-same _ (Closed n) past refl (turns-in past l.1)
turns-in (Started true n ∷ past) l = turns-more true n _ past (next_of-down (last_in past) l.0.1) (turns-in past l.1)
turns-in (Started false n ∷ past) l = turns-more false n _ past (sym (ap next_of l.0.1)) (turns-in past l.1)
turns-in (Ended answer job ∷ past) l = turns-same _ (Ended answer job) past refl (turns-in past l.1)

pub turned : (a b : List HookMark) (x : HookMark) → reverse (a ++ x ∷ b) ≡ reverse b ++ x ∷ reverse a
turned a b x = reverse-append a (x ∷ b) ∙ ap (λ xs. xs ++ reverse a) (reverse-cons x b) ∙ append_assoc (reverse b) (x ∷ []) (reverse a)

pub starts-before : (before : List HookMark) → starts_in (reverse before) ≡ count_by is_start before
starts-before before = starts_are (reverse before) ∙ count_by-reverse is_start before

pub ends-before : (before : List HookMark) → ends_in (reverse before) ≡ count_by is_end before
ends-before before = ends_are (reverse before) ∙ count_by-reverse is_end before

pub open-before : (before : List HookMark) (n : ℕ) → open_in (reverse before) ≡ Some n → IsOpenAfter before n
open-before before n e =
    let r = opened-in (reverse before) n e in (
      reverse r.1,
      reverse r.0,
      sym (reverse-reverse before) ∙ ap reverse r.2 ∙ turned r.0 r.1 (Opened n),
      count_by-reverse is_closing r.0 ∙ r.3,
    )

pub last-start : (past : List HookMark) (up : Bool) (n : ℕ) → last_in past ≡ Some (up, n) → LastStartIs (reverse past) up n
last-start past up n e =
    let r = started-in past up n e in
    (reverse r.1, reverse r.0, ap reverse r.2 ∙ turned r.0 r.1 (Started up n), count_by-reverse is_start r.0 ∙ r.3)

up-before : (before : List HookMark) (n : ℕ) → last_in (reverse before) ≡ Some (true, n) → LastStartIs before true n
up-before before n e =
    subst (λ (marks : List HookMark). LastStartIs marks true n) (reverse-reverse before) (last-start (reverse before) true n e)

still-open : (before : List HookMark) (n : ℕ) → IsLawful (reverse before) → IsOpenAfter before n → open_in (reverse before) ≡ Some n
still-open before n l h =
    let e : reverse before ≡ reverse h.1 ++ Opened n ∷ reverse h.0 = ap reverse h.2 ∙ turned h.0 h.1 (Opened n) in
    ap open_in e ∙ open-since (reverse h.1) (reverse h.0) n (subst IsLawful e l) (count_by-reverse is_closing h.1 ∙ h.3)

in-place : (before : List HookMark) (mark : HookMark) → IsLawful (mark ∷ reverse before) → IsInPlace 0 before mark
in-place before (Opened n) l = tt
in-place before (Closed n) l = tt
in-place before (Started true n) l = (sym (ends-before before) ∙ l.0.0 ∙ starts-before before, open-before before n l.0.2)
in-place before (Started false n) l = (
  sym (ends-before before) ∙ l.0.0 ∙ starts-before before,
  up-before before n l.0.1,
  λ h. l.0.2 (still-open before n l.1 h),
)
in-place before (Ended answer job) l =
    (omega (arith, l.0.1, ends-before before), omega (arith, l.0.0, l.0.1, ends-before before, starts-before before))

-- The law of site scripts, of a lawful past that is read from its oldest mark on.
pub law_of_past : (past : List HookMark) → IsLawful past → HookLaw 0 (reverse past)
law_of_past past l = record {
  alternate = (turns-in past l).0;
  places = λ before after mark e.
      let whole : past ≡ reverse after ++ mark ∷ reverse before = sym (reverse-reverse past) ∙ ap reverse e ∙ turned before after mark in
      in-place before mark (lawful-rest (reverse after) (mark ∷ reverse before) (subst IsLawful whole l));
}

no-start : (past : List HookMark) → last_in past ≡ None → starts_in past ≡ 0
no-start [] e = refl
no-start (Opened n ∷ past) e = no-start past e
no-start (Closed n ∷ past) e = no-start past e
no-start (Started up n ∷ past) e = absurd (cc e)
no-start (Ended answer job ∷ past) e = no-start past e

pub none-runs : (past : List HookMark) → NoneRuns (reverse past) → ends_in past ≡ starts_in past
none-runs past e =
    ends_are past ∙ sym (count_by-reverse is_end past) ∙ e ∙ count_by-reverse is_start past ∙ sym (starts_are past)

pub present : (past : List HookMark) (n : ℕ) → open_in past ≡ Some n → IsPresentOpening (reverse past) n
present past n e =
    let r = opened-in past n e in
    (reverse r.1, reverse r.0, ap reverse r.2 ∙ turned r.0 r.1 (Opened n), count_by-reverse is_opening r.0 ∙ r.4)

settled-up : (past : List HookMark) (now : Option ℕ) → open_in past ≡ now → is_some now ≡ true → Matches (last_in past) now
    → (n : ℕ) × IsPresentOpening (reverse past) n × LastStartIs (reverse past) true n
settled-up past None e is m = absurd (cc is)
settled-up past (Some n) e is m = (n, present past n e, last-start past true n m)

is-down : (last : Option (Bool × ℕ)) (now : Option ℕ) → is_some now ≡ false → Matches last now → IsDown last
is-down last None is m = m
is-down last (Some n) is m = absurd (cc is)

settled-down : (past : List HookMark) (last : Option (Bool × ℕ)) → last_in past ≡ last → IsDown last
    → (count_by is_start (reverse past) ≡ 0) ⊎ ((n : ℕ) × LastStartIs (reverse past) false n)
settled-down past None e down = inl (count_by-reverse is_start past ∙ sym (starts_are past) ∙ no-start past e)
settled-down past (Some start) e down = inr (start.1, last-start past false start.1 (e ∙ ap (λ up. Some (up, start.1)) down))

-- The scripts agree with the protocol, of a settled past that is read from its oldest mark on.
pub settled_of_past : (past : List HookMark) → IsSettled past → Settled (reverse past) (is_some (open_in past))
settled_of_past past s = record {
  while_open = λ is none. settled-up past (open_in past) refl is (s (none-runs past none));
  while_closed = λ is none. settled-down past (last_in past) refl (is-down (last_in past) (open_in past) is (s (none-runs past none)));
}
