-- The law of site scripts of one more mark, and that it leaves no choice of what is started.
use Rattle.std.proofs.Common.{ℕ, ◌+◌, ◌≤◌, ◌≡◌, ◌⊎◌, inl, inr, Bool, true, false, not, Option, None, Some, is_some, List, [], ◌∷◌, ◌++◌, refl, ap, ◌∙◌, sym, subst, arith, cond, count_by, append_assoc}
use Rattle.std.specs.Prelude.{◌↔◌, ◌==◌, ◌||◌}
use mathlib.Core.List.{reverse}
use Rattle.std.proofs.lemmas.Bool.Decides.{nat_tests}
use Rattle.std.proofs.lemmas.List.{reverse-reverse, append-nil}
use Rattle.ppp_hooks.specs.HookMark.{HookMark, Opened, Closed, Started, Ended, is_opening, is_closing, is_start, is_end, directions}
use Rattle.ppp_hooks.specs.HookLaw.{Alternate, IsOpenAfter, LastStartIs, IsInPlace, HookLaw}
use Rattle.ppp_hooks.specs.HookPast.{starts_in, ends_in, open_in, last_in, IsLawful, IsSettled, IsDown, Matches}
use Rattle.ppp_hooks.specs.HookPlace.{openings_in, is_among, MayStand, AreStarts}
use Rattle.ppp_hooks.specs.HookRule.{due_after, due_for, is_open, start_marks, with_due}
use Rattle.ppp_hooks.specs.Settled.{NoneRuns, IsPresentOpening, Settled}
use Rattle.ppp_hooks.proofs.Calls.{due_keeps}
use Rattle.ppp_hooks.proofs.Places.{count_by-cons, reverse-cons, count_by-reverse, starts_are, ends_are, turn_after, turn_after-more, directions-append, directions-reverse, next_of, turned, last-start, law_of_past, settled_of_past}

-- ---- one more mark at the end

Alternate-front : (first : Bool) (ups : List Bool) (up : Bool) → Alternate first (ups ++ up ∷ []) → Alternate first ups × (up ≡ turn_after first ups)
unfolding turn_after
Alternate-front first [] up a = (tt, a.0)
Alternate-front first (u ∷ us) up a = let r = Alternate-front (not first) us up a.1 in ((a.0, r.0), r.1)

Alternate-back : (first : Bool) (ups : List Bool) (up : Bool) → Alternate first ups → up ≡ turn_after first ups → Alternate first (ups ++ up ∷ [])
unfolding turn_after
Alternate-back first [] up a e = (e, tt)
Alternate-back first (u ∷ us) up a e = (a.0, Alternate-back (not first) us up a.1 e)

-- the last of a list
record Split (marks : List HookMark) (more : HookMark) (before : List HookMark) (mark : HookMark) (after : List HookMark) : Type 0 where
  how : ((before ≡ marks) × (mark ≡ more)) ⊎ ((rest : List HookMark) × (marks ≡ before ++ mark ∷ rest))

no_more : (x : HookMark) (xs : List HookMark) → [] ≡ x ∷ xs → ⊥
no_more x xs e = absurd (cc e)

behind_none : (before : List HookMark) (m : HookMark) (after : List HookMark) → [] ≡ before ++ m ∷ after → ⊥
behind_none [] m after e = absurd (cc e)
behind_none (b ∷ before) m after e = absurd (cc e)

split : (marks : List HookMark) (more : HookMark) (before : List HookMark) (mark : HookMark) (after : List HookMark)
    → marks ++ more ∷ [] ≡ before ++ mark ∷ after → Split marks more before mark after
split [] more [] mark after e = record { how = inl (refl, cc e) }
split [] more (b ∷ before) mark after e = absurd (behind_none before mark after (cc e))
split (m ∷ marks) more [] mark after e = let same : m ≡ mark = cc e in record { how = inr (marks, ap (λ x. x ∷ marks) same) }
split (m ∷ marks) more (b ∷ before) mark after e =
    let same : m ≡ b = cc e in
    elim (split marks more before mark after (cc e)).how [
      | inl is ↦ record { how = inl (ap (λ xs. b ∷ xs) is.0 ∙ ap (λ x. x ∷ marks) (sym same), is.1) }
      | inr is ↦ record { how = inr (is.0, ap (λ x. x ∷ marks) same ∙ ap (λ xs. b ∷ xs) is.1) }
    ]

-- the direction of one more mark is that whose turn it is
abbrev IsTurn : List HookMark → HookMark → Type 0
IsTurn marks mark = Alternate true (directions (marks ++ mark ∷ []))

law-front : (b : ℕ) (marks : List HookMark) (mark : HookMark) → HookLaw b (marks ++ mark ∷ []) → Alternate true (directions marks) → HookLaw b marks
law-front b marks mark l a = record {
  alternate = a;
  places = λ before after m e. l.places before (after ++ mark ∷ []) m (ap (λ xs. xs ++ mark ∷ []) e ∙ append_assoc before (m ∷ after) (mark ∷ []));
}

law-back : (b : ℕ) (marks : List HookMark) (mark : HookMark) → HookLaw b marks → IsTurn marks mark → IsInPlace b marks mark → HookLaw b (marks ++ mark ∷ [])
law-back b marks mark l turn in_place = record {
  alternate = turn;
  places = λ before after m e.
      elim (split marks mark before m after e).how [
        | inl is ↦ subst (λ (x : HookMark). IsInPlace b before x) (sym is.1) (subst (λ (xs : List HookMark). IsInPlace b xs mark) (sym is.0) in_place)
        | inr is ↦ l.places before is.0 m is.1
      ];
}

-- ---- read back from the newest mark

starts-back : (past : List HookMark) → count_by is_start (reverse past) ≡ starts_in past
starts-back past = count_by-reverse is_start past ∙ sym (starts_are past)

ends-back : (past : List HookMark) → count_by is_end (reverse past) ≡ ends_in past
ends-back past = count_by-reverse is_end past ∙ sym (ends_are past)

last-behind : (later earlier : List HookMark) (up : Bool) (n : ℕ) → count_by is_start later ≡ 0 → last_in (later ++ Started up n ∷ earlier) ≡ Some (up, n)
last-behind [] earlier up n e = refl
last-behind (Opened m ∷ later) earlier up n e = last-behind later earlier up n (omega (arith, e, count_by-cons is_start (Opened m) later))
last-behind (Closed m ∷ later) earlier up n e = last-behind later earlier up n (omega (arith, e, count_by-cons is_start (Closed m) later))
last-behind (Started was m ∷ later) earlier up n e = absurd (omega (arith, e, count_by-cons is_start (Started was m) later))
last-behind (Ended answer job ∷ later) earlier up n e = last-behind later earlier up n (omega (arith, e, count_by-cons is_start (Ended answer job) later))

pub last-back : (past : List HookMark) (up : Bool) (n : ℕ) → LastStartIs (reverse past) up n → last_in past ≡ Some (up, n)
last-back past up n h =
    let e : past ≡ reverse h.1 ++ Started up n ∷ reverse h.0 = sym (reverse-reverse past) ∙ ap reverse h.2 ∙ turned h.0 h.1 (Started up n) in
    ap last_in e ∙ last-behind (reverse h.1) (reverse h.0) up n (count_by-reverse is_start h.1 ∙ h.3)

among-behind : (later earlier : List HookMark) (n : ℕ) → count_by is_closing later ≡ 0 → is_among n (openings_in (later ++ Opened n ∷ earlier)) ≡ true
among-behind [] earlier n e = grind (arith, nat_tests)
among-behind (Opened m ∷ later) earlier n e =
    let r = among-behind later earlier n (omega (arith, e, count_by-cons is_closing (Opened m) later)) in grind (arith, nat_tests, r)
among-behind (Closed m ∷ later) earlier n e = absurd (omega (arith, e, count_by-cons is_closing (Closed m) later))
among-behind (Started up m ∷ later) earlier n e = among-behind later earlier n (omega (arith, e, count_by-cons is_closing (Started up m) later))
among-behind (Ended answer job ∷ later) earlier n e = among-behind later earlier n (omega (arith, e, count_by-cons is_closing (Ended answer job) later))

pub among-back : (past : List HookMark) (n : ℕ) → IsOpenAfter (reverse past) n → is_among n (openings_in past) ≡ true
among-back past n h =
    let e : past ≡ reverse h.1 ++ Opened n ∷ reverse h.0 = sym (reverse-reverse past) ∙ ap reverse h.2 ∙ turned h.0 h.1 (Opened n) in
    ap (λ xs. is_among n (openings_in xs)) e ∙ among-behind (reverse h.1) (reverse h.0) n (count_by-reverse is_closing h.1 ∙ h.3)

-- an opening in a past behind which nothing closed
record OpenIn (past : List HookMark) (n : ℕ) : Type 0 where
  later : List HookMark
  earlier : List HookMark
  is : past ≡ later ++ Opened n ∷ earlier
  none : count_by is_closing later ≡ 0

none-more : (b : Bool) (whole rest : ℕ) → b ≡ false → whole ≡ cond b 1 0 + rest → rest ≡ 0 → whole ≡ 0
none-more true whole rest quiet e none = absurd (cc quiet)
none-more false whole rest quiet e none = omega (arith, e, none)

open-more : (x : HookMark) (past : List HookMark) (n : ℕ) → is_closing x ≡ false → OpenIn past n → OpenIn (x ∷ past) n
open-more x past n quiet o = record {
  later = x ∷ o.later;
  earlier = o.earlier;
  is = ap (λ xs. x ∷ xs) o.is;
  none = none-more (is_closing x) _ _ quiet (count_by-cons is_closing x o.later) o.none;
}

either-open : (b : Bool) (m n : ℕ) (past : List HookMark) → (m == n) ≡ b → (b || is_among n (openings_in past)) ≡ true
    → (is_among n (openings_in past) ≡ true → OpenIn past n) → OpenIn (Opened m ∷ past) n
either-open true m n past e a r =
    let same : m ≡ n = grind (arith, nat_tests, e) in
    record { later = []; earlier = past; is = ap (λ k. Opened k ∷ past) same; none = refl }
either-open false m n past e a r = open-more (Opened m) past n refl (r a)

among-in : (past : List HookMark) (n : ℕ) → is_among n (openings_in past) ≡ true → OpenIn past n
among-in [] n a = absurd (cc a)
among-in (Opened m ∷ past) n a = either-open (m == n) m n past refl a (λ more. among-in past n more)
among-in (Closed m ∷ past) n a = absurd (cc a)
among-in (Started up m ∷ past) n a = open-more (Started up m) past n refl (among-in past n a)
among-in (Ended answer job ∷ past) n a = open-more (Ended answer job) past n refl (among-in past n a)

pub open-back : (past : List HookMark) (n : ℕ) → is_among n (openings_in past) ≡ true → IsOpenAfter (reverse past) n
open-back past n a =
    let r = among-in past n a in
    (reverse r.earlier, reverse r.later, ap reverse r.is ∙ turned r.later r.earlier (Opened n), count_by-reverse is_closing r.later ∙ r.none)

true_or : (b : Bool) → (b ≡ true → ⊥) → b ≡ false
true_or true f = absurd (f refl)
true_or false f = refl

not_both : (b : Bool) → b ≡ true → b ≡ false → ⊥
not_both b e f = absurd (cc (sym e ∙ f))

-- whose turn it is
turn-back : (past : List HookMark) → Alternate true (directions (reverse past)) → turn_after true (directions (reverse past)) ≡ next_of (last_in past)
unfolding turn_after
turn-back [] a = refl
turn-back (Opened n ∷ past) a =
    let e : directions (reverse (Opened n ∷ past)) ≡ directions (reverse past) = directions-reverse (Opened n) past ∙ append-nil (directions (reverse past)) in
    ap (turn_after true) e ∙ turn-back past (subst (λ ds. Alternate true ds) e a)
turn-back (Closed n ∷ past) a =
    let e : directions (reverse (Closed n ∷ past)) ≡ directions (reverse past) = directions-reverse (Closed n) past ∙ append-nil (directions (reverse past)) in
    ap (turn_after true) e ∙ turn-back past (subst (λ ds. Alternate true ds) e a)
turn-back (Started up n ∷ past) a =
    let ds : List Bool = directions (reverse past) in
    let e : directions (reverse (Started up n ∷ past)) ≡ ds ++ up ∷ [] = directions-reverse (Started up n) past in
    let r = Alternate-front true ds up (subst (λ xs. Alternate true xs) e a) in
    ap (turn_after true) e ∙ turn_after-more true ds up ∙ ap not (sym r.1)
turn-back (Ended answer job ∷ past) a =
    let e : directions (reverse (Ended answer job ∷ past)) ≡ directions (reverse past) = directions-reverse (Ended answer job) past ∙ append-nil (directions (reverse past)) in
    ap (turn_after true) e ∙ turn-back past (subst (λ ds. Alternate true ds) e a)

down-next : (last : Option (Bool × ℕ)) → IsDown last → true ≡ next_of last
down-next None down = refl
down-next (Some s) down = sym (ap not down)

not_not : (b : Bool) → b ≡ not (not b)
not_not true = refl
not_not false = refl

next-down : (last : Option (Bool × ℕ)) → true ≡ next_of last → IsDown last
next-down None e = tt
next-down (Some s) e = let f : not (not s.0) ≡ false = ap not (sym e) in not_not s.0 ∙ f

directions-more : (marks : List HookMark) (x : HookMark) → directions (marks ++ x ∷ []) ≡ directions marks ++ directions (x ∷ [])
directions-more marks x = directions-append marks (x ∷ [])

quiet-turn : (marks : List HookMark) (x : HookMark) → directions (x ∷ []) ≡ [] → directions (marks ++ x ∷ []) ≡ directions marks
quiet-turn marks x none = directions-more marks x ∙ ap (λ ds. directions marks ++ ds) none ∙ append-nil (directions marks)

-- what a mark's place says of its place in the list from the oldest on
pub more-law : (b : ℕ) (past : List HookMark) (mark : HookMark) → HookLaw b (reverse past) → MayStand b past mark → HookLaw b (reverse past ++ mark ∷ [])
more-law b past (Opened n) l m = law-back b (reverse past) (Opened n) l (subst (λ ds. Alternate true ds) (sym (quiet-turn (reverse past) (Opened n) refl)) l.alternate) tt
more-law b past (Closed n) l m = law-back b (reverse past) (Closed n) l (subst (λ ds. Alternate true ds) (sym (quiet-turn (reverse past) (Closed n) refl)) l.alternate) tt
more-law b past (Started true n) l m =
    law-back b (reverse past) (Started true n) l
    (subst (λ ds. Alternate true ds) (sym (directions-more (reverse past) (Started true n))) (Alternate-back true (directions (reverse past)) true l.alternate (down-next (last_in past) m.1 ∙ sym (turn-back past l.alternate))))
    (ends-back past ∙ m.0 ∙ sym (starts-back past), open-back past n m.2)
more-law b past (Started false n) l m =
    law-back b (reverse past) (Started false n) l
    (subst (λ ds. Alternate true ds) (sym (directions-more (reverse past) (Started false n))) (Alternate-back true (directions (reverse past)) false l.alternate (sym (turn-back past l.alternate ∙ ap next_of m.1))))
    (ends-back past ∙ m.0 ∙ sym (starts-back past), last-start past true n m.1, λ h. not_both _ (among-back past n h) m.2)
more-law b past (Ended answer job) l m =
    law-back b (reverse past) (Ended answer job) l (subst (λ ds. Alternate true ds) (sym (quiet-turn (reverse past) (Ended answer job) refl)) l.alternate)
    (omega (arith, m.1, ends-back past), omega (arith, m.0, ends-back past, starts-back past))

stand : (b : ℕ) (past : List HookMark) (mark : HookMark) → Alternate true (directions (reverse past)) → IsTurn (reverse past) mark → IsInPlace b (reverse past) mark → MayStand b past mark
stand b past (Opened n) a t p = tt
stand b past (Closed n) a t p = tt
stand b past (Started true n) a t p =
    let turn = Alternate-front true (directions (reverse past)) true (subst (λ ds. Alternate true ds) (directions-more (reverse past) (Started true n)) t) in
    (sym (ends-back past) ∙ p.0 ∙ starts-back past, next-down (last_in past) (turn.1 ∙ turn-back past a), among-back past n p.1)
stand b past (Started false n) a t p =
    (sym (ends-back past) ∙ p.0 ∙ starts-back past, last-back past true n p.1, true_or _ (λ e. p.2 (open-back past n e)))
stand b past (Ended answer job) a t p = (omega (arith, p.1, ends-back past, starts-back past), omega (arith, p.0, ends-back past))

front-alternates : (marks : List HookMark) (mark : HookMark) → IsTurn marks mark → Alternate true (directions marks)
front-alternates marks (Opened n) t = subst (λ ds. Alternate true ds) (quiet-turn marks (Opened n) refl) t
front-alternates marks (Closed n) t = subst (λ ds. Alternate true ds) (quiet-turn marks (Closed n) refl) t
front-alternates marks (Started up n) t = (Alternate-front true (directions marks) up (subst (λ ds. Alternate true ds) (directions-more marks (Started up n)) t)).0
front-alternates marks (Ended answer job) t = subst (λ ds. Alternate true ds) (quiet-turn marks (Ended answer job) refl) t

pub law-more : (b : ℕ) (past : List HookMark) (mark : HookMark) → HookLaw b (reverse past ++ mark ∷ []) → HookLaw b (reverse past) × MayStand b past mark
law-more b past mark l =
    let a = front-alternates (reverse past) mark l.alternate in
    (law-front b (reverse past) mark l a, stand b past mark a l.alternate (l.places (reverse past) [] mark refl))

pub one_more : (b : ℕ) (past : List HookMark) (mark : HookMark) → HookLaw b (reverse (mark ∷ past)) ↔ (HookLaw b (reverse past) × MayStand b past mark)
one_more b past mark = (
  λ l. law-more b past mark (subst (λ xs. HookLaw b xs) (reverse-cons mark past) l),
  λ h. subst (λ xs. HookLaw b xs) (sym (reverse-cons mark past)) (more-law b past mark h.0 h.1),
)

pub none_yet : (b : ℕ) → HookLaw b []
none_yet b = record { alternate = tt; places = λ before after mark e. absurd (behind_none before mark after e) }

-- ---- no other choice

-- what is open in a lawful past is the one opening since the last closing
of_option : Option ℕ → List ℕ
of_option None = []
of_option (Some n) = n ∷ []

one_opening : (past : List HookMark) → IsLawful past → openings_in past ≡ of_option (open_in past)
unfolding of_option
one_opening [] l = refl
one_opening (Opened n ∷ past) l = ap (λ ms. n ∷ ms) (one_opening past l.1 ∙ ap of_option l.0.0)
one_opening (Closed n ∷ past) l = refl
one_opening (Started up n ∷ past) l = one_opening past l.1
one_opening (Ended answer job ∷ past) l = one_opening past l.1

or-false : (b : Bool) → (b || false) ≡ b
or-false true = refl
or-false false = refl

among-one : (o : Option ℕ) (n : ℕ) → is_among n (of_option o) ≡ is_open n o
unfolding of_option
among-one None n = refl
among-one (Some m) n = or-false (m == n)

among_is : (past : List HookMark) (n : ℕ) → IsLawful past → is_among n (openings_in past) ≡ is_open n (open_in past)
among_is past n l = ap (is_among n) (one_opening past l) ∙ among-one (open_in past) n

pub few_ends : (past : List HookMark) → IsLawful past → ends_in past ≤ starts_in past
few_ends [] l = omega arith
few_ends (Opened n ∷ past) l = few_ends past l.1
few_ends (Closed n ∷ past) l = few_ends past l.1
few_ends (Started up n ∷ past) l = omega (arith, few_ends past l.1)
few_ends (Ended answer job ∷ past) l = omega (arith, l.0.0)

-- only starts, and so no more ends
starts-only : (starts past : List HookMark) → AreStarts starts → (ends_in (starts ++ past) ≡ ends_in past) × (starts_in past ≤ starts_in (starts ++ past))
starts-only [] past a = (refl, omega arith)
starts-only (Opened n ∷ starts) past a = absurd a
starts-only (Closed n ∷ starts) past a = absurd a
starts-only (Started up n ∷ starts) past a = let r = starts-only starts past a in (r.0, omega (arith, r.1))
starts-only (Ended answer job ∷ starts) past a = absurd a

open-is : (n : ℕ) (o : Option ℕ) → is_open n o ≡ true → o ≡ Some n
open-is n None e = absurd (cc e)
open-is n (Some m) e = let same : m ≡ n = grind (arith, nat_tests, e) in ap Some same

up-due : (last : Option (Bool × ℕ)) (n : ℕ) → IsDown last → due_for last (Some n) ≡ Some (true, n)
up-due None n down = refl
up-due (Some s) n down = ap (λ b. cond b (cond (is_open s.1 (Some n)) None (Some (false, s.1))) (Some (true, n))) down

due-none : (past : List HookMark) → ends_in past ≡ starts_in past → due_after past ≡ start_marks (due_for (last_in past) (open_in past))
due-none past e = grind (arith, nat_tests, e)

-- the start that may stand behind a lawful past is the one that is due
start-due : (past : List HookMark) (up : Bool) (n : ℕ) → IsLawful past → MayStand 0 past (Started up n) → due_after past ≡ Started up n ∷ []
start-due past true n l m =
    let now : open_in past ≡ Some n = open-is n (open_in past) (sym (among_is past n l) ∙ m.2) in
    due-none past m.0 ∙ ap (λ o. start_marks (due_for (last_in past) o)) now ∙ ap start_marks (up-due (last_in past) n m.1)
start-due past false n l m =
    let shut : is_open n (open_in past) ≡ false = sym (among_is past n l) ∙ m.2 in
    due-none past m.0 ∙ ap (λ last. start_marks (due_for last (open_in past))) m.1
    ∙ ap (λ (b : Bool). start_marks (cond b None (Some (false, n)))) shut

same-number : (n : ℕ) → (n == n) ≡ true
same-number n = grind (arith, nat_tests)

matches-none : (last : Option (Bool × ℕ)) (now : Option ℕ) → Matches last now → start_marks (due_for last now) ≡ []
matches-none None None m = refl
matches-none None (Some n) m = absurd (cc m)
matches-none (Some s) None m = ap (λ b. start_marks (cond b (Some (false, s.1)) None)) m
matches-none (Some s) (Some n) m =
    ap (λ last. start_marks (due_for last (Some n))) m ∙ ap (λ (b : Bool). start_marks (cond b None (Some (false, n)))) (same-number n)

none-due-by : (b : Bool) (ends starts : ℕ) → (ends == starts) ≡ b → (marks : List HookMark) → (ends ≡ starts → marks ≡ []) → cond b marks [] ≡ []
none-due-by true ends starts e marks none = none (grind (arith, nat_tests, e))
none-due-by false ends starts e marks none = refl

two-run : (up : Bool) (n : ℕ) (past : List HookMark) → MayStand 0 past (Started up n) → ends_in past ≡ starts_in past
two-run true n past m = m.0
two-run false n past m = m.0

none-due : (past : List HookMark) → IsSettled past → due_after past ≡ []
none-due past s = none-due-by (ends_in past == starts_in past) (ends_in past) (starts_in past) refl _ (λ e. matches-none (last_in past) (open_in past) (s e))

pub only_due : (past starts : List HookMark) → IsLawful past → AreStarts starts → HookLaw 0 (reverse (starts ++ past)) → IsSettled (starts ++ past) → starts ≡ due_after past
only_due past [] l a law s = sym (none-due past s)
only_due past (Opened n ∷ starts) l a law s = absurd a
only_due past (Closed n ∷ starts) l a law s = absurd a
only_due past (Started up n ∷ []) l a law s = sym (start-due past up n l ((one_more 0 past (Started up n)).0 law).1)
only_due past (Started up n ∷ Opened m ∷ starts) l a law s = absurd a
only_due past (Started up n ∷ Closed m ∷ starts) l a law s = absurd a
only_due past (Started up n ∷ Started was m ∷ starts) l a law s =
    let may = ((one_more 0 (Started was m ∷ starts ++ past) (Started up n)).0 law).1 in
    let counts = starts-only starts past a in
    absurd (omega (arith, two-run up n (Started was m ∷ starts ++ past) may, counts.0, counts.1, few_ends past l))
only_due past (Started up n ∷ Ended answer job ∷ starts) l a law s = absurd a
only_due past (Ended answer job ∷ starts) l a law s = absurd a

-- ---- settled, read back

first-open : (later earlier : List HookMark) (n m : ℕ) → count_by is_opening later ≡ 0 → open_in (later ++ Opened n ∷ earlier) ≡ Some m → m ≡ n
first-open [] earlier n m none e = cc e
first-open (Opened k ∷ later) earlier n m none e = absurd (omega (arith, none, count_by-cons is_opening (Opened k) later))
first-open (Closed k ∷ later) earlier n m none e = absurd (cc e)
first-open (Started up k ∷ later) earlier n m none e = first-open later earlier n m (omega (arith, none, count_by-cons is_opening (Started up k) later)) e
first-open (Ended answer job ∷ later) earlier n m none e = first-open later earlier n m (omega (arith, none, count_by-cons is_opening (Ended answer job) later)) e

opened-back : (past : List HookMark) (n : ℕ) → IsPresentOpening (reverse past) n → (m : ℕ) → open_in past ≡ Some m → m ≡ n
opened-back past n h m e =
    let is : past ≡ reverse h.1 ++ Opened n ∷ reverse h.0 = sym (reverse-reverse past) ∙ ap reverse h.2 ∙ turned h.0 h.1 (Opened n) in
    first-open (reverse h.1) (reverse h.0) n m (count_by-reverse is_opening h.1 ∙ h.3) (ap open_in (sym is) ∙ e)

runs-none : (past : List HookMark) → ends_in past ≡ starts_in past → NoneRuns (reverse past)
runs-none past e = ends-back past ∙ e ∙ sym (starts-back past)

no-start-last : (past : List HookMark) → starts_in past ≡ 0 → last_in past ≡ None
no-start-last [] e = refl
no-start-last (Opened n ∷ past) e = no-start-last past e
no-start-last (Closed n ∷ past) e = no-start-last past e
no-start-last (Started up n ∷ past) e = absurd (omega (arith, e))
no-start-last (Ended answer job ∷ past) e = no-start-last past e

matches : (past : List HookMark) (now : Option ℕ) → open_in past ≡ now → Settled (reverse past) (is_some now) → ends_in past ≡ starts_in past → Matches (last_in past) now
matches past None e s none =
    elim (s.while_closed refl (runs-none past none)) [
      | inl zero ↦ subst IsDown (sym (no-start-last past (sym (starts-back past) ∙ zero))) tt
      | inr down ↦ subst IsDown (sym (last-back past false down.0 down.1)) refl
    ]
matches past (Some m) e s none =
    let r = s.while_open refl (runs-none past none) in
    let same : m ≡ r.0 = opened-back past r.0 r.1 m e in
    last-back past true r.0 r.2 ∙ ap (λ k. Some (true, k)) (sym same)

pub settled_back : (past : List HookMark) → Settled (reverse past) (is_some (open_in past)) → IsSettled past
settled_back past s = λ none. matches past (open_in past) refl s none

pub settled_is : (past : List HookMark) → Settled (reverse past) (is_some (open_in past)) ↔ IsSettled past
settled_is past = (λ s. settled_back past s, λ s. settled_of_past past s)

-- what opening is open is not changed by starts
starts-open : (starts past : List HookMark) → AreStarts starts → open_in (starts ++ past) ≡ open_in past
starts-open [] past a = refl
starts-open (Opened n ∷ starts) past a = absurd a
starts-open (Closed n ∷ starts) past a = absurd a
starts-open (Started up n ∷ starts) past a = starts-open starts past a
starts-open (Ended answer job ∷ starts) past a = absurd a

pub no_choice : (past starts : List HookMark) (is_open : Bool) → IsLawful past → is_some (open_in past) ≡ is_open → AreStarts starts
    → HookLaw 0 (reverse (starts ++ past)) → Settled (reverse (starts ++ past)) is_open → starts ≡ due_after past
no_choice past starts is_open l e a law s =
    let now : is_open ≡ is_some (open_in (starts ++ past)) = sym e ∙ ap is_some (sym (starts-open starts past a)) in
    only_due past starts l a law (settled_back (starts ++ past) (subst (λ b. Settled (reverse (starts ++ past)) b) now s))

pub due_keeps_both : (past : List HookMark) → IsLawful past
    → HookLaw 0 (reverse (with_due past)) × Settled (reverse (with_due past)) (is_some (open_in past))
due_keeps_both past l =
    let k = due_keeps past l in
    let now : open_in (with_due past) ≡ open_in past = grind (arith, nat_tests) in
    (law_of_past (with_due past) k.0, subst (λ o. Settled (reverse (with_due past)) (is_some o)) now (settled_of_past (with_due past) k.1))
