use Rattle.std.proofs.Common.{◌≡◌, ◌<◌, ◌++◌, ℕ, true, List, [], ◌∷◌, refl, ap, ap₂, ◌∙◌, subst, arith, inl, inr, codes, decimal, drop}
use Rattle.std.specs.Prelude.{is_some}
use Rattle.std.specs.List.{list_all}
use Rattle.std.proofs.lemmas.Fmt.{decimal_digit}
use Rattle.ppp_base.specs.Numbers.{is_digit}
use Rattle.ppp_hooks.specs.HookPast.{open_in}
use Rattle.ppp_hooks.proofs.OneMore.{settled_is}
use Rattle.ppp_mark.specs.declared.mark.Mark.{Mark}
use Rattle.ppp_mark.specs.declared.report.LogName.TheVariants.{Link, Unit as OfUnit}
use Rattle.ppp_mark.specs.Marks.{mark}
use Rattle.ppp_mark.specs.Scripts.{LogLaw, LogSettled, MayStandMark, said_in}
use Rattle.ppp_mark.proofs.LawLemmas.{one_more_mark}
use Rattle.ppp_report.specs.BadLine.{Disagrees, HasFault, IsFirstBad}
use Rattle.ppp_report.specs.Places.{At, Line}
use Rattle.ppp_report.specs.Report.{AreFit, MayCome, end_word, heading, mark_word, status_word}
use Rattle.ppp_report.proofs.MarkLemmas.{no_mark}
use Rattle.ppp_report.proofs.NumberLemmas.{all_digits}
use Rattle.ppp_report.proofs.PlaceLemmas.{add, at_left, begin, broken, finished, link_left, more_behind_end, start, status_bad, status_taken, unit_bad, unit_unsettled}
use Rattle.ppp_report.proofs.SectionLemmas.{nothing_yet}
use Rattle.ppp_report.proofs.laws.rows.Goals as goal

-- ---- how they are spelled

zero_is : decimal 0 ≡ codes "0"
zero_is = decimal_digit 0 (omega arith)

one_is : decimal 1 ≡ codes "1"
one_is = decimal_digit 1 (omega arith)

five_is : decimal 5 ≡ codes "5"
five_is = decimal_digit 5 (omega arith)

link_is : heading (Link 1) ≡ codes "link 1"
link_is = ap (λ d. codes "link " ++ d) one_is

unit_is : heading (OfUnit 0) ≡ codes "unit 0"
unit_is = ap (λ d. codes "unit " ++ d) zero_is

status_is : status_word 5 ≡ codes "status 5"
status_is = ap (λ d. codes "status " ++ d) five_is

attempt_is : mark_word (mark 0 1 0 0 1) ≡ codes "0 attempt 0 0 1"
attempt_is = rw (zero_is, one_is) refl

open_is : mark_word (mark 0 35 0 0 1) ≡ codes "0 ip-open 0 0 1"
open_is = rw (zero_is, one_is) refl

up_is : mark_word (mark 0 7 1 0 1) ≡ codes "0 start 1 0 1"
up_is = rw (zero_is, one_is) refl

-- ---- what may stand

empty_settled : LogSettled [] (is_some (open_in (said_in [])))
empty_settled = (settled_is []).1 (λ e. tt)

link_one : MayCome 0 0 (Link 1)
link_one = (refl, refl, omega arith)

unit_zero : MayCome 0 0 (OfUnit 0)
unit_zero = (omega arith, omega arith)

attempt_fits : AreFit (Link 1) (mark 0 1 0 0 1 ∷ [])
attempt_fits = ((omega arith, omega arith, omega arith, omega arith), refl, tt)

open_fits : AreFit (OfUnit 0) (mark 0 35 0 0 1 ∷ [])
open_fits = ((omega arith, omega arith, omega arith, omega arith), refl, tt)

up_fits : AreFit (OfUnit 0) (mark 0 7 1 0 1 ∷ [])
up_fits = ((omega arith, omega arith, omega arith, omega arith), refl, tt)

more : (past : List Mark) (m : Mark) → LogLaw 0 past → MayStandMark 0 (said_in past) m → LogLaw 0 (m ∷ past)
more past m law may = (one_more_mark 0 past m).1 (law, may)

attempt_law : LogLaw 0 (mark 0 1 0 0 1 ∷ [])
attempt_law = more [] (mark 0 1 0 0 1) nothing_yet (record { start = λ e. absurd (omega (arith, e)); ended = λ e. absurd (omega (arith, e)) })

open_law : LogLaw 0 (mark 0 35 0 0 1 ∷ [])
open_law = more [] (mark 0 35 0 0 1) nothing_yet (record { start = λ e. absurd (omega (arith, e)); ended = λ e. absurd (omega (arith, e)) })

up_law : LogLaw 0 (mark 0 7 1 0 1 ∷ mark 0 35 0 0 1 ∷ [])
up_law = more (mark 0 35 0 0 1 ∷ []) (mark 0 7 1 0 1) open_law (record { start = λ e. inl (refl, (refl, tt, refl)); ended = λ e. absurd (omega (arith, e)) })

no_second : LogLaw 0 (mark 0 7 1 0 1 ∷ mark 0 7 1 0 1 ∷ mark 0 35 0 0 1 ∷ []) → ⊥
no_second law = elim ((((one_more_mark 0 (mark 0 7 1 0 1 ∷ mark 0 35 0 0 1 ∷ []) (mark 0 7 1 0 1)).0 law).1).start refl) [
  | inl one ↦ let none_runs : 0 ≡ 1 = one.1.0 in omega (arith, none_runs)
  | inr two ↦ omega (arith, two.0)
]

open_unsettled : Disagrees (mark 0 35 0 0 1 ∷ [])
open_unsettled settled = absurd (cc ((settled_is (said_in (mark 0 35 0 0 1 ∷ []))).0 settled refl))

-- ---- rows

one_link : At (heading (Link 1) ∷ status_word 5 ∷ end_word ∷ []) 1 0 (end_word ∷ []) 2
one_link =
    let lines : List Line = heading (Link 1) ∷ status_word 5 ∷ end_word ∷ [] in
    status_taken lines 0 0 1 [] 5 (end_word ∷ []) 1 (start lines 0 0 (Link 1) (status_word 5 ∷ end_word ∷ []) 0 (begin lines) link_one) (omega arith) empty_settled

lawful_link : (n : ℕ) → HasFault (codes "link 1" ∷ codes "status 5" ∷ codes "end" ∷ []) n → ⊥
lawful_link = subst (λ ls. (n : ℕ) → HasFault ls n → ⊥) (ap₂ (λ a b. a ∷ b ∷ codes "end" ∷ []) link_is status_is)
    (finished (heading (Link 1) ∷ status_word 5 ∷ end_word ∷ []) 1 0 2 one_link)

pub returns-clause-lawful : goal.returns-clause-lawful
returns-clause-lawful c = (lawful_link, lawful_link, finished (end_word ∷ []) 0 0 0 (begin (end_word ∷ [])))

no_status_none : (s : ℕ) → s < 256 → codes "status none" ≡ status_word s → ⊥
no_status_none s small e =
    let digits : list_all is_digit (codes "none") ≡ true = ap (list_all is_digit) (ap (drop 7) e) ∙ all_digits s (omega (arith, small)) in
    absurd (cc digits)

pub returns-clause-status : goal.returns-clause-status
returns-clause-status c =
    let lines : List Line = heading (Link 1) ∷ mark_word (mark 0 1 0 0 1) ∷ codes "status none" ∷ end_word ∷ [] in
    let begun = start lines 0 0 (Link 1) (mark_word (mark 0 1 0 0 1) ∷ codes "status none" ∷ end_word ∷ []) 0 (begin lines) link_one in
    let marked = add lines 0 0 (Link 1) [] (mark 0 1 0 0 1) (codes "status none" ∷ end_word ∷ []) 1 begun attempt_fits attempt_law in
    let bad = status_bad lines 0 0 1 (mark 0 1 0 0 1 ∷ []) (codes "status none") (end_word ∷ []) 2 marked (λ n fit e. no_mark n (codes "status none") fit.0 refl e) no_status_none in
    subst (λ ls. IsFirstBad ls 3) (ap₂ (λ a b. a ∷ b ∷ codes "status none" ∷ codes "end" ∷ []) link_is attempt_is) bad

pub returns-clause-second_start : goal.returns-clause-second_start
returns-clause-second_start c =
    let a = mark 0 35 0 0 1 in
    let b = mark 0 7 1 0 1 in
    let lines : List Line = heading (OfUnit 0) ∷ mark_word a ∷ mark_word b ∷ mark_word b ∷ [] in
    let begun = start lines 0 0 (OfUnit 0) (mark_word a ∷ mark_word b ∷ mark_word b ∷ []) 0 (begin lines) unit_zero in
    let opened = add lines 0 0 (OfUnit 0) [] a (mark_word b ∷ mark_word b ∷ []) 1 begun open_fits open_law in
    let up = add lines 0 0 (OfUnit 0) (a ∷ []) b (mark_word b ∷ []) 2 opened up_fits up_law in
    let bad = broken lines 0 0 (OfUnit 0) (b ∷ a ∷ []) b [] 3 up up_fits no_second in
    subst (λ ls. IsFirstBad ls 4) (ap₂ (λ h o. h ∷ o ∷ mark_word b ∷ mark_word b ∷ []) unit_is open_is ∙ ap (λ s. codes "unit 0" ∷ codes "0 ip-open 0 0 1" ∷ s ∷ s ∷ []) up_is) bad

pub returns-clause-up_is_missing : goal.returns-clause-up_is_missing
returns-clause-up_is_missing c =
    let a = mark 0 35 0 0 1 in
    let lines : List Line = heading (OfUnit 0) ∷ mark_word a ∷ [] in
    let begun = start lines 0 0 (OfUnit 0) (mark_word a ∷ []) 0 (begin lines) unit_zero in
    let opened = add lines 0 0 (OfUnit 0) [] a [] 1 begun open_fits open_law in
    let bad = unit_unsettled lines 0 0 0 (a ∷ []) [] 2 opened (λ n others fit e. absurd (cc e)) open_unsettled in
    subst (λ ls. IsFirstBad ls 2) (ap₂ (λ h o. h ∷ o ∷ []) unit_is open_is) bad

pub returns-clause-nothing : goal.returns-clause-nothing
returns-clause-nothing c = at_left [] 0 0 0 (begin [])

pub returns-clause-cut_off : goal.returns-clause-cut_off
returns-clause-cut_off c =
    let lines : List Line = heading (Link 1) ∷ [] in
    subst (λ ls. IsFirstBad ls 2) (ap (λ h. h ∷ []) link_is) (link_left lines 0 0 1 [] 1 (start lines 0 0 (Link 1) [] 0 (begin lines) link_one))

pub returns-clause-behind_end : goal.returns-clause-behind_end
returns-clause-behind_end c = let lines : List Line = end_word ∷ [] ∷ [] in more_behind_end lines 0 0 [] [] 0 (begin lines)

pub returns-clause-no_marks : goal.returns-clause-no_marks
returns-clause-no_marks c =
    let lines : List Line = heading (OfUnit 0) ∷ end_word ∷ [] in
    subst (λ ls. IsFirstBad ls 2) (ap (λ h. h ∷ codes "end" ∷ []) unit_is)
    (unit_bad lines 0 0 0 end_word [] 1 (start lines 0 0 (OfUnit 0) (end_word ∷ []) 0 (begin lines) unit_zero) (λ n fit e. no_mark n end_word fit.0 refl e))
