-- Where a reader of a report stands: what it has seen has no fault, and what may follow.
use Rattle.std.proofs.Common.{◌≡◌, ◌+◌, ◌≤◌, ◌<◌, ◌⊎◌, inl, inr, ℕ, suc, zero, List, [], ◌∷◌, ◌++◌, length, map, take, drop, refl, sym, ap, ◌∙◌, subst, arith, append_assoc, append-nil, length-append}
use Rattle.std.specs.Prelude.{◌↔◌, is_some}
use mathlib.Core.List.{reverse}
use Rattle.std.proofs.lemmas.List.{reverse-append, reverse-reverse, length-reverse}
use Rattle.std.proofs.Math.Seq.{drop-append_seam, take-append_seam}
use Rattle.ppp_hooks.specs.HookPast.{open_in}
use Rattle.ppp_hooks.proofs.OneMore.{settled_is}
use Rattle.ppp_mark.specs.declared.mark.Mark.{Mark}
use Rattle.ppp_mark.specs.declared.report.LogName.{LogName}
use Rattle.ppp_mark.specs.declared.report.LogName.TheVariants.{Link, Unit as OfUnit}
use Rattle.ppp_mark.specs.Scripts.{LogLaw, LogSettled, said_in}
use Rattle.ppp_report.specs.BadLine.{AreMarksOf, BreaksLaw, Disagrees, HasFault, IsFirstBad, LinkUnsettled, NoEnd, NoLine, UnitUnsettled, back}
use Rattle.ppp_report.specs.Report.{AreFit, IsObject, MayCome, end_word, heading, mark_word, status_word}
use Rattle.ppp_report.specs.Places.{At, FromMarks, FromNext, In, Line, onto}
use Rattle.ppp_report.proofs.FrontLemmas.{ends_marks, ends_next, heading_end, heading_status, mark_end, mark_heading, mark_status, may_is_object, name_one, next_heading, next_mark, next_status, no_first, no_next, no_status, nothing_behind_end, status_end, unit_over}
use Rattle.ppp_report.proofs.MarkLemmas.{fit_one}
use Rattle.ppp_report.proofs.SectionLemmas.{nothing_yet}
use Rattle.ppp_mark.specs.Lines.{lines_of}
use Rattle.ppp_mark.proofs.LawLemmas.{one_more_mark}
use Rattle.ppp_mark.proofs.LinesLemmas.{no_lines}
use Rattle.ppp_report.specs.Reads.{HowEnd, behind_marks}
use Rattle.ppp_report.specs.declared.section.MarksEnd.TheVariants as end

-- ---- lines that were seen, the last of them first

onto_is : (seen tail : List Line) → onto seen tail ≡ reverse seen ++ tail
onto_is [] tail = refl
onto_is (l ∷ seen) tail =
    let front : reverse (l ∷ seen) ≡ reverse seen ++ l ∷ [] = reverse-append (l ∷ []) seen in
    onto_is seen (l ∷ tail) ∙ sym (append_assoc (reverse seen) (l ∷ []) tail) ∙ ap (λ ls. ls ++ tail) (sym front)

take_is : (lines seen tail : List Line) (n : ℕ) → lines ≡ onto seen tail → n ≡ length seen → take n lines ≡ reverse seen
take_is lines seen tail n is counted =
    let place : n ≡ length (reverse seen) = counted ∙ sym (length-reverse seen) in
    ap (λ ls. take n ls) (is ∙ onto_is seen tail) ∙ ap (λ k. take k (reverse seen ++ tail)) place ∙ take-append_seam (reverse seen) tail

drop_is : (lines seen tail : List Line) (n : ℕ) → lines ≡ onto seen tail → n ≡ length seen → drop n lines ≡ tail
drop_is lines seen tail n is counted =
    let place : n ≡ length (reverse seen) = counted ∙ sym (length-reverse seen) in
    ap (λ ls. drop n ls) (is ∙ onto_is seen tail) ∙ ap (λ k. drop k (reverse seen ++ tail)) place ∙ drop-append_seam (reverse seen) tail

back_is : (lines seen tail : List Line) (n : ℕ) → lines ≡ onto seen tail → n ≡ length seen → back lines n ≡ seen
back_is lines seen tail n is counted = ap reverse (take_is lines seen tail n is counted) ∙ reverse-reverse seen

long_is : (lines seen tail : List Line) → lines ≡ onto seen tail → length lines ≡ length seen + length tail
long_is lines seen tail is = ap length (is ∙ onto_is seen tail) ∙ length-append (reverse seen) tail ∙ ap (λ n. n + length tail) (length-reverse seen)

-- a report goes on behind them, or none does
front_no : (lines seen tail more : List Line) (n : ℕ) → lines ≡ onto seen tail → n ≡ length seen → FromNext 0 0 (onto seen more) → NoLine lines n → ⊥
front_no lines seen tail more n is counted f x = x.other (record {
  sections = f.sections;
  rest = more;
  are = f.are;
  text = sym f.text ∙ onto_is seen more ∙ ap (λ ls. ls ++ more) (sym (take_is lines seen tail n is counted));
})

no_line : (lines seen tail : List Line) (n : ℕ) → lines ≡ onto seen tail → n ≡ length seen → 0 < n → ((more : List Line) → FromNext 0 0 (onto seen more) → ⊥) → NoLine lines n
no_line lines seen tail n is counted some none = record {
  from_one = some;
  there = omega (arith, counted, long_is lines seen tail is);
  other = λ front. none front.rest (record {
    sections = front.sections;
    are = front.are;
    text = onto_is seen front.rest ∙ ap (λ ls. ls ++ front.rest) (sym (take_is lines seen tail n is counted)) ∙ sym front.text;
  });
}

end_later : (lines seen tail : List Line) (n : ℕ) → lines ≡ onto seen tail → n ≤ length seen → NoEnd lines n → ⊥
end_later lines seen tail n is low x = omega (arith, x.number, low, long_is lines seen tail is)

-- ---- the last line that was seen

head_is : (a b : Line) (xs ys : List Line) → a ∷ xs ≡ b ∷ ys → a ≡ b
head_is a b xs ys e = cc e

tail_is : (a b : Line) (xs ys : List Line) → a ∷ xs ≡ b ∷ ys → xs ≡ ys
tail_is a b xs ys e = cc e

status_last : (name : LogName) (past : List Mark) (s : ℕ) (before earlier : List Line) → AreFit name past
    → status_word s ∷ before ≡ map mark_word past ++ heading name ∷ earlier → ⊥
status_last name [] s before earlier fit e = heading_status name s (sym (head_is _ _ _ _ e))
status_last name (m ∷ past) s before earlier fit e = mark_status name s m (fit.0, fit.1, tt) (head_is _ _ _ _ e)

end_last : (name : LogName) (past : List Mark) (before earlier : List Line) → AreFit name past
    → end_word ∷ before ≡ map mark_word past ++ heading name ∷ earlier → ⊥
end_last name [] before earlier fit e = heading_end name (sym (head_is _ _ _ _ e))
end_last name (m ∷ past) before earlier fit e = mark_end name m (fit.0, fit.1, tt) (head_is _ _ _ _ e)

heading_last : (name other : LogName) (past : List Mark) (before earlier : List Line) → IsObject name → IsObject other → AreFit other past
    → heading name ∷ before ≡ map mark_word past ++ heading other ∷ earlier → (other ≡ name) × (past ≡ [])
heading_last name other [] before earlier object is fit e = (name_one other name is object (sym (head_is _ _ _ _ e)), refl)
heading_last name other (m ∷ past) before earlier object is fit e = absurd (mark_heading other name m (fit.0, fit.1, tt) (head_is _ _ _ _ e))

pub record LastMark (name : LogName) (m : Mark) (other : LogName) (past : List Mark) (before : List Line) : Type 0 where
  mark : Mark
  older : List Mark
  is : past ≡ mark ∷ older
  fit : AreFit other (mark ∷ [])
  line : mark_word m ≡ mark_word mark
  marks : AreMarksOf other older before

mark_last : (name other : LogName) (m : Mark) (past : List Mark) (before earlier : List Line) → AreFit name (m ∷ []) → IsObject other → AreFit other past
    → mark_word m ∷ before ≡ map mark_word past ++ heading other ∷ earlier → LastMark name m other past before
mark_last name other m [] before earlier fit object fits e = absurd (mark_heading name other m fit (sym (head_is _ _ _ _ e)))
mark_last name other m (n ∷ past) before earlier fit object fits e = record {
  mark = n;
  older = past;
  is = refl;
  fit = (fits.0, fits.1, tt);
  line = head_is _ _ _ _ e;
  marks = record { object = object; fit = fits.2; earlier = earlier; text = tail_is _ _ _ _ e };
}

-- ---- places

two : (P Q R : Type 0) → P ↔ Q → Q ↔ R → P ↔ R
two P Q R a b = (λ p. b.0 (a.0 p), λ r. a.1 (b.1 r))

at_most : (other n : ℕ) → (other < n → ⊥) → n ≤ other
at_most other zero never = omega arith
at_most zero (suc n) never = absurd (never (omega arith))
at_most (suc other) (suc n) never = omega (arith, at_most other n (λ h. never (omega (arith, h))))

bad_at : (lines : List Line) (n : ℕ) → HasFault lines n → ((other : ℕ) → other < n → HasFault lines other → ⊥) → IsFirstBad lines n
bad_at lines n fault none = record { fault = fault; first = λ other is. at_most other n (λ low. none other low is) }

last_or : (n count : ℕ) → n < count + 1 → (n < count) ⊎ (n ≡ count)
last_or zero zero h = inr refl
last_or zero (suc count) h = inl (omega arith)
last_or (suc n) zero h = absurd (omega (arith, h))
last_or (suc n) (suc count) h = elim (last_or n count (omega (arith, h))) [ inl low ↦ inl (omega (arith, low)) | inr same ↦ inr (ap suc same) ]

no_fault : (lines : List Line) (n : ℕ) → (NoLine lines n → ⊥) → (BreaksLaw lines n → ⊥) → (LinkUnsettled lines n → ⊥) → (UnitUnsettled lines n → ⊥) → (NoEnd lines n → ⊥)
    → HasFault lines n → ⊥
no_fault lines n a b c d e (inl x) = a x
no_fault lines n a b c d e (inr (inl x)) = b x
no_fault lines n a b c d e (inr (inr (inl x))) = c x
no_fault lines n a b c d e (inr (inr (inr (inl x)))) = d x
no_fault lines n a b c d e (inr (inr (inr (inr x)))) = e x

-- with the last line none is bad
passed : (lines : List Line) (count : ℕ) → ((n : ℕ) → n < count → HasFault lines n → ⊥) → (HasFault lines count → ⊥) → (n : ℕ) → n < count + 1 → HasFault lines n → ⊥
passed lines count before last n low fault = elim (last_or n count low) [
  | inl lower ↦ before n lower fault
  | inr same ↦ last (subst (λ k. HasFault lines k) same fault)
]

-- an object's last line is not bad where the object may not end unsettled with it
passed_in : (lines : List Line) (links least : ℕ) (name : LogName) (past : List Mark) (rest : List Line) (count : ℕ) → In lines links least name past rest count
    → (UnitUnsettled lines count → ⊥) → (n : ℕ) → n < count + 1 → HasFault lines n → ⊥
passed_in lines links least name past rest count i settled =
    passed lines count i.before (no_fault lines count i.front i.lawful i.no_link settled (end_later lines i.seen rest count i.is (omega (arith, i.counted))))

-- what a unit that ends unsettled says of where we are
unit_here : (lines : List Line) (links least : ℕ) (name : LogName) (past : List Mark) (rest : List Line) (count : ℕ) → In lines links least name past rest count
    → (u : UnitUnsettled lines count) → (OfUnit u.unit ≡ name) × (u.past ≡ past)
unit_here lines links least name past rest count i u =
    i.latest (OfUnit u.unit) u.past (subst (λ ls. AreMarksOf (OfUnit u.unit) u.past ls) (back_is lines i.seen rest count i.is i.counted) u.marks)

passed_settled : (lines : List Line) (links least : ℕ) (name : LogName) (past : List Mark) (rest : List Line) (count : ℕ) → In lines links least name past rest count
    → LogSettled past (is_some (open_in (said_in past))) → (n : ℕ) → n < count + 1 → HasFault lines n → ⊥
passed_settled lines links least name past rest count i settled = passed_in lines links least name past rest count i
    (λ u. subst (λ p. Disagrees p) (unit_here lines links least name past rest count i u).1 u.unsettled settled)

link_unit : (link unit : ℕ) → OfUnit unit ≡ Link link → ⊥
link_unit link unit e = cc e

passed_link : (lines : List Line) (links least link : ℕ) (past : List Mark) (rest : List Line) (count : ℕ) → In lines links least (Link link) past rest count
    → (n : ℕ) → n < count + 1 → HasFault lines n → ⊥
passed_link lines links least link past rest count i = passed_in lines links least (Link link) past rest count i
    (λ u. link_unit link u.unit (unit_here lines links least (Link link) past rest count i u).0)

passed_mark : (lines : List Line) (links least : ℕ) (name : LogName) (past : List Mark) (m : Mark) (rest : List Line) (count : ℕ)
    → In lines links least name past (mark_word m ∷ rest) count → AreFit name (m ∷ []) → (n : ℕ) → n < count + 1 → HasFault lines n → ⊥
passed_mark lines links least name past m rest count i fit = passed_in lines links least name past (mark_word m ∷ rest) count i
    (λ u. u.over m rest (subst (λ n. AreFit n (m ∷ [])) (sym (unit_here lines links least name past (mark_word m ∷ rest) count i u).0) fit)
    (drop_is lines i.seen (mark_word m ∷ rest) count i.is i.counted))

-- ---- one line more

pub begin : (lines : List Line) → At lines 0 0 lines 0
begin lines = record {
  seen = [];
  is = refl;
  counted = refl;
  clean = λ n low. no_fault lines n
      (λ x. omega (arith, x.from_one, low))
      (λ x. none_in x.name x.past x.marks.earlier (subst (λ ls. ls ≡ map mark_word x.past ++ heading x.name ∷ x.marks.earlier) (empty n low) x.marks.text))
      (λ x. no_lines_in x.status x.before (subst (λ ls. ls ≡ status_word x.status ∷ x.before) (empty n low) x.line))
      (λ x. none_in (OfUnit x.unit) x.past x.marks.earlier (subst (λ ls. ls ≡ map mark_word x.past ++ heading (OfUnit x.unit) ∷ x.marks.earlier) (empty n low) x.marks.text))
      (λ x. omega (arith, x.number, low));
  fits = λ line more tail is. (λ f. f, λ f. f);
  no_end = λ earlier e. absurd (cc e);
}
  where
    none_in : (name : LogName) (past : List Mark) (earlier : List Line) → [] ≡ map mark_word past ++ heading name ∷ earlier → ⊥
    none_in name [] earlier e = absurd (cc e)
    none_in name (m ∷ past) earlier e = absurd (cc e)

    no_lines_in : (s : ℕ) (before : List Line) → [] ≡ status_word s ∷ before → ⊥
    no_lines_in s before e = absurd (cc e)

    zero_is : (n : ℕ) → n ≤ 0 → n ≡ 0
    zero_is n low = omega (arith, low)

    empty : (n : ℕ) → n ≤ 0 → back lines n ≡ []
    empty n low = ap (λ k. back lines k) (zero_is n low)

pub start : (lines : List Line) (links least : ℕ) (name : LogName) (rest : List Line) (count : ℕ) → At lines links least (heading name ∷ rest) count → MayCome links least name
    → In lines links least name [] rest (count + 1)
start lines links least name rest count a may =
    let object = may_is_object links least name may in
    let seen : List Line = heading name ∷ a.seen in
    let counted : count + 1 ≡ length seen = omega (arith, a.counted) in
    let back_seen : back lines (count + 1) ≡ seen = back_is lines seen rest (count + 1) a.is counted in
    let fits : (tail : List Line) → FromNext 0 0 (onto seen tail) ↔ FromMarks links least name [] tail =
    λ tail. two _ _ _ (a.fits (heading name) rest tail refl) (next_heading links least name tail may) in
    let more = ends_marks links least name [] in
    let latest : (other : LogName) (marks : List Mark) → AreMarksOf other marks seen → (other ≡ name) × (marks ≡ []) =
    λ other marks are. heading_last name other marks a.seen are.earlier object are.object are.fit are.text in
    record {
      seen = seen;
      is = a.is;
      counted = counted;
      before = λ n low. a.clean n (omega (arith, low));
      front = front_no lines seen rest more.tail (count + 1) a.is counted ((fits more.tail).1 more.may);
      lawful = λ x. subst (λ p. ¬ LogLaw 0 p) (latest x.name x.past (subst (λ ls. AreMarksOf x.name x.past ls) back_seen x.marks)).1 x.breaks nothing_yet;
      no_link = λ x. heading_status name x.status (head_is _ _ _ _ (sym back_seen ∙ x.line));
      latest = latest;
      marks = record { object = object; fit = tt; earlier = a.seen; text = refl };
      law = nothing_yet;
      fits = fits;
    }

same_marks : (name other : LogName) (m : Mark) (past older all : List Mark) (mark : Mark) → other ≡ name → older ≡ past → all ≡ mark ∷ older → AreFit name (m ∷ []) → AreFit other (mark ∷ [])
    → mark_word m ≡ mark_word mark → all ≡ m ∷ past
same_marks name other m past older all mark same before is fit fits line =
    let one : mark ≡ m = fit_one name mark m (subst (λ n. AreFit n (mark ∷ [])) same fits) fit (sym line) in
    is ∙ ap (λ n. n ∷ older) one ∙ ap (λ ms. m ∷ ms) before

pub add : (lines : List Line) (links least : ℕ) (name : LogName) (past : List Mark) (m : Mark) (rest : List Line) (count : ℕ)
    → In lines links least name past (mark_word m ∷ rest) count → AreFit name (m ∷ []) → LogLaw 0 (m ∷ past) → In lines links least name (m ∷ past) rest (count + 1)
add lines links least name past m rest count i fit law =
    let seen : List Line = mark_word m ∷ i.seen in
    let counted : count + 1 ≡ length seen = omega (arith, i.counted) in
    let back_seen : back lines (count + 1) ≡ seen = back_is lines seen rest (count + 1) i.is counted in
    let fits : (tail : List Line) → FromNext 0 0 (onto seen tail) ↔ FromMarks links least name (m ∷ past) tail =
    λ tail. two _ _ _ (i.fits (mark_word m ∷ tail)) (next_mark links least name past m tail fit) in
    let more = ends_marks links least name (m ∷ past) in
    let latest : (other : LogName) (marks : List Mark) → AreMarksOf other marks seen → (other ≡ name) × (marks ≡ m ∷ past) =
    λ other marks are.
    let l = mark_last name other m marks i.seen are.earlier fit are.object are.fit are.text in
    let before = i.latest other l.older l.marks in
    (before.0, same_marks name other m past l.older marks l.mark before.0 before.1 l.is fit l.fit l.line) in
    record {
      seen = seen;
      is = i.is;
      counted = counted;
      before = passed_mark lines links least name past m rest count i fit;
      front = front_no lines seen rest more.tail (count + 1) i.is counted ((fits more.tail).1 more.may);
      lawful = λ x. subst (λ p. ¬ LogLaw 0 p) (latest x.name x.past (subst (λ ls. AreMarksOf x.name x.past ls) back_seen x.marks)).1 x.breaks law;
      no_link = λ x. mark_status name x.status m fit (sym (head_is _ _ _ _ (sym back_seen ∙ x.line)));
      latest = latest;
      marks = record { object = i.marks.object; fit = (fit.0, fit.1, i.marks.fit); earlier = i.marks.earlier; text = ap (λ ls. mark_word m ∷ ls) i.marks.text };
      law = law;
      fits = fits;
    }

pub broken : (lines : List Line) (links least : ℕ) (name : LogName) (past : List Mark) (m : Mark) (rest : List Line) (count : ℕ)
    → In lines links least name past (mark_word m ∷ rest) count → AreFit name (m ∷ []) → ¬ LogLaw 0 (m ∷ past) → IsFirstBad lines (count + 1)
broken lines links least name past m rest count i fit breaks =
    let seen : List Line = mark_word m ∷ i.seen in
    let counted : count + 1 ≡ length seen = omega (arith, i.counted) in
    bad_at lines (count + 1) (inr (inl (record {
      there = omega (arith, counted, long_is lines seen rest i.is);
      name = name;
      past = m ∷ past;
      marks = record {
        object = i.marks.object;
        fit = (fit.0, fit.1, i.marks.fit);
        earlier = i.marks.earlier;
        text = back_is lines seen rest (count + 1) i.is counted ∙ ap (λ ls. mark_word m ∷ ls) i.marks.text;
      };
      breaks = breaks;
    }))) (passed_mark lines links least name past m rest count i fit)

-- ---- the end of a link's section

link_here : (lines : List Line) (links least link : ℕ) (past : List Mark) (s : ℕ) (rest : List Line) (count : ℕ) → In lines links least (Link link) past (status_word s ∷ rest) count
    → (x : LinkUnsettled lines (count + 1)) → x.past ≡ past
link_here lines links least link past s rest count i x =
    let back_seen : back lines (count + 1) ≡ status_word s ∷ i.seen = back_is lines (status_word s ∷ i.seen) rest (count + 1) i.is (omega (arith, i.counted)) in
    let before : i.seen ≡ x.before = tail_is _ _ _ _ (sym back_seen ∙ x.line) in
    (i.latest (Link x.link) x.past (subst (λ ls. AreMarksOf (Link x.link) x.past ls) (sym before) x.marks)).1

pub status_taken : (lines : List Line) (links least link : ℕ) (past : List Mark) (s : ℕ) (rest : List Line) (count : ℕ)
    → In lines links least (Link link) past (status_word s ∷ rest) count → s < 256 → LogSettled past (is_some (open_in (said_in past))) → At lines link least rest (count + 1)
status_taken lines links least link past s rest count i small settled =
    let seen : List Line = status_word s ∷ i.seen in
    let counted : count + 1 ≡ length seen = omega (arith, i.counted) in
    let back_seen : back lines (count + 1) ≡ seen = back_is lines seen rest (count + 1) i.is counted in
    let fits : (tail : List Line) → FromNext 0 0 (onto seen tail) ↔ FromNext link least tail =
    λ tail. two _ _ _ (i.fits (status_word s ∷ tail)) (next_status links least link s past tail small) in
    let none : (name : LogName) (marks : List Mark) → AreMarksOf name marks (back lines (count + 1)) → ⊥ =
    λ name marks are. status_last name marks s i.seen are.earlier are.fit (sym back_seen ∙ are.text) in
    record {
      seen = seen;
      is = i.is;
      counted = counted;
      clean = λ n low. passed lines (count + 1) (passed_link lines links least link past (status_word s ∷ rest) count i)
          (no_fault lines (count + 1)
          (front_no lines seen rest (end_word ∷ []) (count + 1) i.is counted ((fits (end_word ∷ [])).1 (ends_next link least)))
          (λ x. none x.name x.past x.marks)
          (λ x. subst (λ p. Disagrees p) (link_here lines links least link past s rest count i x) x.unsettled settled)
          (λ x. none (OfUnit x.unit) x.past x.marks)
          (end_later lines seen rest (count + 1) i.is (omega (arith, counted)))) n (omega (arith, low));
      fits = λ line more tail is. fits (line ∷ tail);
      no_end = λ earlier e. status_end s (head_is _ _ _ _ e);
    }

pub status_unsettled : (lines : List Line) (links least link : ℕ) (past : List Mark) (s : ℕ) (rest : List Line) (count : ℕ)
    → In lines links least (Link link) past (status_word s ∷ rest) count → Disagrees past → IsFirstBad lines (count + 1)
status_unsettled lines links least link past s rest count i unsettled =
    let seen : List Line = status_word s ∷ i.seen in
    let counted : count + 1 ≡ length seen = omega (arith, i.counted) in
    bad_at lines (count + 1) (inr (inr (inl (record {
      there = omega (arith, counted, long_is lines seen rest i.is);
      link = link;
      past = past;
      status = s;
      before = i.seen;
      line = back_is lines seen rest (count + 1) i.is counted;
      marks = i.marks;
      unsettled = unsettled;
    })))) (passed_link lines links least link past (status_word s ∷ rest) count i)

pub status_bad : (lines : List Line) (links least link : ℕ) (past : List Mark) (line : Line) (rest : List Line) (count : ℕ)
    → In lines links least (Link link) past (line ∷ rest) count → ((n : Mark) → AreFit (Link link) (n ∷ []) → line ≡ mark_word n → ⊥)
    → ((s : ℕ) → s < 256 → line ≡ status_word s → ⊥) → IsFirstBad lines (count + 1)
status_bad lines links least link past line rest count i no_mark no_word =
    bad_at lines (count + 1)
    (inl (no_line lines (line ∷ i.seen) rest (count + 1) i.is (omega (arith, i.counted)) (omega arith)
    (λ more f. no_status links least link past line more no_mark no_word ((i.fits (line ∷ more)).0 f))))
    (passed_link lines links least link past (line ∷ rest) count i)

-- ---- nothing is left

behind_end : (lines seen : List Line) → lines ≡ onto seen [] → ((earlier : List Line) → seen ≡ end_word ∷ earlier → ⊥) → NoEnd lines (length seen + 1)
behind_end lines seen is no_end = record {
  number = omega (arith, long_is lines seen [] is);
  other = λ earlier e.
      let all : reverse seen ≡ earlier ++ end_word ∷ [] = sym (append-nil (reverse seen)) ∙ sym (onto_is seen []) ∙ sym is ∙ e in
      no_end (reverse earlier) (sym (reverse-reverse seen) ∙ ap reverse all ∙ reverse-append earlier (end_word ∷ []));
}

marks_no_end : (name : LogName) (past : List Mark) (seen earlier before : List Line) → AreFit name past → seen ≡ map mark_word past ++ heading name ∷ before → seen ≡ end_word ∷ earlier → ⊥
marks_no_end name past seen earlier before fit is e = end_last name past earlier before fit (sym e ∙ is)

none_left_in : (lines : List Line) (links least : ℕ) (name : LogName) (past : List Mark) (count : ℕ) → In lines links least name past [] count
    → ((n : ℕ) → n < count + 1 → HasFault lines n → ⊥) → IsFirstBad lines (count + 1)
none_left_in lines links least name past count i clean =
    bad_at lines (count + 1)
    (inr (inr (inr (inr (subst (λ n. NoEnd lines (n + 1)) (sym i.counted)
    (behind_end lines i.seen i.is (λ earlier e. marks_no_end name past i.seen earlier i.marks.earlier i.marks.fit i.marks.text e)))))))
    clean

pub link_left : (lines : List Line) (links least link : ℕ) (past : List Mark) (count : ℕ) → In lines links least (Link link) past [] count → IsFirstBad lines (count + 1)
link_left lines links least link past count i = none_left_in lines links least (Link link) past count i (passed_link lines links least link past [] count i)

empty_settled : LogSettled [] (is_some (open_in (said_in [])))
empty_settled = (settled_is []).1 (λ e. tt)

pub unit_left : (lines : List Line) (links least unit : ℕ) (count : ℕ) → In lines links least (OfUnit unit) [] [] count → IsFirstBad lines (count + 1)
unit_left lines links least unit count i =
    none_left_in lines links least (OfUnit unit) [] count i (passed_settled lines links least (OfUnit unit) [] [] count i empty_settled)

pub at_left : (lines : List Line) (links least : ℕ) (count : ℕ) → At lines links least [] count → IsFirstBad lines (count + 1)
at_left lines links least count a =
    bad_at lines (count + 1) (inr (inr (inr (inr (subst (λ n. NoEnd lines (n + 1)) (sym a.counted) (behind_end lines a.seen a.is a.no_end))))))
    (λ n low. a.clean n (omega (arith, low)))

-- ---- the end of a unit's section

pub unit_bad : (lines : List Line) (links least unit : ℕ) (line : Line) (rest : List Line) (count : ℕ) → In lines links least (OfUnit unit) [] (line ∷ rest) count
    → ((n : Mark) → AreFit (OfUnit unit) (n ∷ []) → line ≡ mark_word n → ⊥) → IsFirstBad lines (count + 1)
unit_bad lines links least unit line rest count i no_mark =
    bad_at lines (count + 1)
    (inl (no_line lines (line ∷ i.seen) rest (count + 1) i.is (omega (arith, i.counted)) (omega arith)
    (λ more f. no_first links least unit line more no_mark ((i.fits (line ∷ more)).0 f))))
    (passed_settled lines links least (OfUnit unit) [] (line ∷ rest) count i empty_settled)

pub unit_unsettled : (lines : List Line) (links least unit : ℕ) (past : List Mark) (rest : List Line) (count : ℕ) → In lines links least (OfUnit unit) past rest count
    → ((n : Mark) (more : List Line) → AreFit (OfUnit unit) (n ∷ []) → rest ≡ mark_word n ∷ more → ⊥) → Disagrees past → IsFirstBad lines count
unit_unsettled lines links least unit past rest count i no_mark unsettled =
    bad_at lines count (inr (inr (inr (inl (record {
      there = omega (arith, i.counted, long_is lines i.seen rest i.is);
      unit = unit;
      past = past;
      marks = subst (λ ls. AreMarksOf (OfUnit unit) past ls) (sym (back_is lines i.seen rest count i.is i.counted)) i.marks;
      over = λ m more fit e. no_mark m more fit (sym (drop_is lines i.seen rest count i.is i.counted) ∙ e);
      unsettled = unsettled;
    }))))) i.before

pub unit_taken : (lines : List Line) (links least unit : ℕ) (m : Mark) (past : List Mark) (rest : List Line) (count : ℕ) → In lines links least (OfUnit unit) (m ∷ past) rest count
    → ((n : Mark) (more : List Line) → AreFit (OfUnit unit) (n ∷ []) → rest ≡ mark_word n ∷ more → ⊥) → LogSettled (m ∷ past) (is_some (open_in (said_in (m ∷ past))))
    → At lines links (unit + 1) rest count
unit_taken lines links least unit m past rest count i no_mark settled = record {
  seen = i.seen;
  is = i.is;
  counted = i.counted;
  clean = λ n low. passed_settled lines links least (OfUnit unit) (m ∷ past) rest count i settled n (omega (arith, low));
  fits = λ line more tail is. two _ _ _ (i.fits (line ∷ tail))
      (unit_over links least unit m past line tail (λ n fit e. no_mark n more fit (is ∙ ap (λ l. l ∷ more) e)));
  no_end = λ earlier e. marks_no_end (OfUnit unit) (m ∷ past) i.seen earlier i.marks.earlier i.marks.fit i.marks.text e;
}

-- ---- between sections

pub no_heading : (lines : List Line) (links least : ℕ) (line : Line) (rest : List Line) (count : ℕ) → At lines links least (line ∷ rest) count
    → (line ≡ end_word → ⊥) → ((name : LogName) → MayCome links least name → line ≡ heading name → ⊥) → IsFirstBad lines (count + 1)
no_heading lines links least line rest count a no_end no_name =
    bad_at lines (count + 1)
    (inl (no_line lines (line ∷ a.seen) rest (count + 1) a.is (omega (arith, a.counted)) (omega arith)
    (λ more f. no_next links least line more no_end no_name ((a.fits line rest more refl).0 f))))
    (λ n low. a.clean n (omega (arith, low)))

end_passed : (lines : List Line) (links least : ℕ) (rest : List Line) (count : ℕ) → At lines links least (end_word ∷ rest) count
    → (n : ℕ) → n < count + 2 → HasFault lines n → ⊥
end_passed lines links least rest count a n low =
    let seen : List Line = end_word ∷ a.seen in
    let counted : count + 1 ≡ length seen = omega (arith, a.counted) in
    let back_seen : back lines (count + 1) ≡ seen = back_is lines seen rest (count + 1) a.is counted in
    let none : (name : LogName) (marks : List Mark) → AreMarksOf name marks (back lines (count + 1)) → ⊥ =
    λ name marks are. end_last name marks a.seen are.earlier are.fit (sym back_seen ∙ are.text) in
    passed lines (count + 1) (λ k h. a.clean k (omega (arith, h)))
    (no_fault lines (count + 1)
    (front_no lines seen rest [] (count + 1) a.is counted ((a.fits end_word rest [] refl).1 (ends_next links least)))
    (λ x. none x.name x.past x.marks)
    (λ x. status_end x.status (sym (head_is _ _ _ _ (sym back_seen ∙ x.line))))
    (λ x. none (OfUnit x.unit) x.past x.marks)
    (end_later lines seen rest (count + 1) a.is (omega (arith, counted)))) n (omega (arith, low))

pub more_behind_end : (lines : List Line) (links least : ℕ) (line : Line) (rest : List Line) (count : ℕ) → At lines links least (end_word ∷ line ∷ rest) count → IsFirstBad lines (count + 2)
more_behind_end lines links least line rest count a =
    bad_at lines (count + 2)
    (inl (no_line lines (line ∷ end_word ∷ a.seen) rest (count + 2) a.is (omega (arith, a.counted)) (omega arith)
    (λ more f. nothing_behind_end links least line more ((a.fits end_word (line ∷ rest) (line ∷ more) refl).0 f))))
    (end_passed lines links least (line ∷ rest) count a)

in_lines : (lines : List Line) (n : ℕ) → HasFault lines n → (n ≤ length lines) ⊎ NoEnd lines n
in_lines lines n (inl x) = inl x.there
in_lines lines n (inr (inl x)) = inl x.there
in_lines lines n (inr (inr (inl x))) = inl x.there
in_lines lines n (inr (inr (inr (inl x)))) = inl x.there
in_lines lines n (inr (inr (inr (inr x)))) = inr x

pub finished : (lines : List Line) (links least : ℕ) (count : ℕ) → At lines links least (end_word ∷ []) count → (n : ℕ) → HasFault lines n → ⊥
finished lines links least count a n fault = elim (in_lines lines n fault) [
  | inl there ↦ end_passed lines links least [] count a n (omega (arith, there, a.counted, long_is lines a.seen (end_word ∷ []) a.is)) fault
  | inr x ↦ x.other (reverse a.seen) (a.is ∙ onto_is a.seen (end_word ∷ []))
]

-- ---- the marks of a section

-- these marks, one by one
pub marks_in : (lines : List Line) (links least : ℕ) (name : LogName) (past : List Mark) (rest : List Line) (count : ℕ) → AreFit name past → LogLaw 0 past
    → In lines links least name [] (behind_marks past rest) count → In lines links least name past rest (count + length past)
marks_in lines links least name [] rest count fit law i = subst (λ n. In lines links least name [] rest n) (omega arith) i
marks_in lines links least name (m ∷ past) rest count fit law i =
    let older : LogLaw 0 past = ((one_more_mark 0 past m).0 law).0 in
    let before = marks_in lines links least name past (mark_word m ∷ rest) count fit.2 older i in
    let now = add lines links least name past m rest (count + length past) before (fit.0, fit.1, tt) law in
    subst (λ n. In lines links least name (m ∷ past) rest n) (omega arith) now

-- the marks up to one at which the law fails
pub marks_broken : (lines : List Line) (links least : ℕ) (name : LogName) (past : List Mark) (rest : List ℕ) (count : ℕ) → AreFit name past
    → HowEnd end.Broken name past rest → In lines links least name [] (behind_marks past (lines_of rest)) count → IsFirstBad lines (count + length past)
marks_broken lines links least name [] rest count fit how i = absurd how
marks_broken lines links least name (m ∷ past) rest count fit how i =
    let before = marks_in lines links least name past (mark_word m ∷ lines_of rest) count fit.2 how.0 i in
    subst (λ n. IsFirstBad lines n) (omega arith) (broken lines links least name past m (lines_of rest) (count + length past) before (fit.0, fit.1, tt) how.1)

-- ---- by octets

pub nil_is : {A : Type 0} (xs : List A) → length xs ≡ 0 → xs ≡ []
nil_is [] e = refl
nil_is (x ∷ xs) e = absurd (omega (arith, e))

pub no_lines_left : (text : List ℕ) → length text ≡ 0 → lines_of text ≡ []
no_lines_left text e = ap lines_of (nil_is text e)

unit_empty_in : (lines : List Line) (links least unit : ℕ) (rest : List Line) (count : ℕ) → In lines links least (OfUnit unit) [] rest count
    → ((n : Mark) (more : List Line) → AreFit (OfUnit unit) (n ∷ []) → rest ≡ mark_word n ∷ more → ⊥) → IsFirstBad lines (count + 1)
unit_empty_in lines links least unit [] count i no_mark = unit_left lines links least unit count i
unit_empty_in lines links least unit (line ∷ more) count i no_mark =
    unit_bad lines links least unit line more count i (λ n fit e. no_mark n more fit (ap (λ l. l ∷ more) e))

pub unit_empty : (lines : List Line) (links least unit : ℕ) (past : List Mark) (rest : List Line) (count : ℕ) → In lines links least (OfUnit unit) past rest count
    → length past ≡ 0 → ((n : Mark) (more : List Line) → AreFit (OfUnit unit) (n ∷ []) → rest ≡ mark_word n ∷ more → ⊥) → IsFirstBad lines (count + 1)
unit_empty lines links least unit past rest count i none no_mark =
    unit_empty_in lines links least unit rest count (subst (λ p. In lines links least (OfUnit unit) p rest count) (nil_is past none) i) no_mark

pub unit_some : (lines : List Line) (links least unit : ℕ) (past : List Mark) (rest : List Line) (count : ℕ) → In lines links least (OfUnit unit) past rest count
    → 0 < length past → ((n : Mark) (more : List Line) → AreFit (OfUnit unit) (n ∷ []) → rest ≡ mark_word n ∷ more → ⊥)
    → LogSettled past (is_some (open_in (said_in past))) → At lines links (unit + 1) rest count
unit_some lines links least unit [] rest count i some no_mark settled = absurd (omega (arith, some))
unit_some lines links least unit (m ∷ past) rest count i some no_mark settled = unit_taken lines links least unit m past rest count i no_mark settled

end_behind_in : (lines : List Line) (links least : ℕ) (rest : List Line) (count : ℕ) → At lines links least (end_word ∷ rest) count → 0 < length rest → IsFirstBad lines (count + 2)
end_behind_in lines links least [] count a some = absurd (omega (arith, some))
end_behind_in lines links least (line ∷ rest) count a some = more_behind_end lines links least line rest count a

some_lines : (text : List ℕ) (rest : List Line) → lines_of text ≡ rest → 0 < length text → 0 < length rest
some_lines text [] e some = absurd (omega (arith, some, ap length (no_lines text e)))
some_lines text (line ∷ rest) e some = omega arith

pub end_behind : (lines : List Line) (links least : ℕ) (text : List ℕ) (count : ℕ) → At lines links least (end_word ∷ lines_of text) count → 0 < length text → IsFirstBad lines (count + 2)
end_behind lines links least text count a some = end_behind_in lines links least (lines_of text) count a (some_lines text (lines_of text) refl some)

pub finished_at : (lines : List Line) (links least : ℕ) (text : List ℕ) (count : ℕ) → At lines links least (end_word ∷ lines_of text) count → length text ≡ 0
    → (n : ℕ) → HasFault lines n → ⊥
finished_at lines links least text count a none =
    finished lines links least count (subst (λ ls. At lines links least (end_word ∷ ls) count) (no_lines_left text none) a)
