-- The report of lawful logs is lawful.
use Rattle.std.proofs.Common.{◌≡◌, ◌+◌, ℕ, true, List, [], ◌∷◌, ◌++◌, length, map, Option, Some, None, refl, sym, ap, ◌∙◌, subst, arith, append_assoc, decimal, codes}
use mathlib.Core.List.{reverse}
use Rattle.std.proofs.lemmas.List.{reverse-append, length-reverse}
use Rattle.ppp_mark.specs.declared.mark.Mark.{Mark}
use Rattle.ppp_mark.specs.declared.report.LogName.{LogName}
use Rattle.ppp_mark.specs.declared.report.LogName.TheVariants.{Link, Unit as OfUnit}
use Rattle.ppp_mark.specs.Lines.{lines_of}
use Rattle.ppp_mark.specs.Report.{mark_line, mark_lines, section_text, status_text, word_line}
use Rattle.ppp_mark.specs.ScriptLog.{KeepsLaw}
use Rattle.ppp_mark.specs.Table.{name_of}
use Rattle.ppp_mark.proofs.LinesLemmas.{is_free, line_then, number_line, word_is_clean}
use Rattle.ppp_report.specs.BadLine.{HasFault}
use Rattle.ppp_report.specs.Lawful.{KeepLaw}
use Rattle.ppp_report.specs.Places.{At, In, Line}
use Rattle.ppp_report.specs.Reads.{behind_marks}
use Rattle.ppp_report.specs.Report.{AreFit, AreSections, Fills, MayCome, Section, heading, least_after, links_after, mark_word, report_lines, report_text, status_lines, status_word, target_of}
use Rattle.ppp_report.proofs.FrontLemmas.{mark_end, mark_heading}
use Rattle.ppp_report.proofs.KindLemmas.{stands_is_kind}
use Rattle.ppp_report.proofs.MarkLemmas.{mark_is_word}
use Rattle.ppp_report.proofs.PlaceLemmas.{begin, finished, marks_in, start, status_taken, unit_some}

-- ---- a report's lines

line_more : (line rest : List ℕ) → is_free 10 line ≡ true → lines_of ((line ++ 10 ∷ []) ++ rest) ≡ line ∷ lines_of rest
line_more line rest free = ap lines_of (append_assoc line (10 ∷ []) rest) ∙ line_then line rest free

mark_line_is : (m : Mark) → mark_line m ≡ mark_word m ++ 10 ∷ []
mark_line_is m =
    let s = codes " " in
    let t = decimal m.time in
    let n = name_of m.kind in
    let x = decimal m.x in
    let y = decimal m.y in
    let z = decimal m.z in
    ap (λ l. l ++ 10 ∷ []) (
    append_assoc (((((((t ++ s) ++ n) ++ s) ++ x) ++ s) ++ y)) s z
    ∙ append_assoc ((((((t ++ s) ++ n) ++ s) ++ x) ++ s)) y (s ++ z)
    ∙ append_assoc (((((t ++ s) ++ n) ++ s) ++ x)) s (y ++ (s ++ z))
    ∙ append_assoc ((((t ++ s) ++ n) ++ s)) x (s ++ (y ++ (s ++ z)))
    ∙ append_assoc (((t ++ s) ++ n)) s (x ++ (s ++ (y ++ (s ++ z))))
    ∙ append_assoc ((t ++ s)) n (s ++ (x ++ (s ++ (y ++ (s ++ z)))))
    ∙ append_assoc t s (n ++ (s ++ (x ++ (s ++ (y ++ (s ++ z))))))
    )

lines_of_marks : (name : LogName) (marks : List Mark) (rest : List ℕ) → AreFit name marks → lines_of (mark_lines marks ++ rest) ≡ map mark_word marks ++ lines_of rest
lines_of_marks name [] rest fit = refl
lines_of_marks name (m ∷ marks) rest fit =
    let free = word_is_clean (mark_word m) (mark_is_word m fit.0 (stands_is_kind (target_of name) m.kind fit.1)) in
    ap lines_of (append_assoc (mark_line m) (mark_lines marks) rest ∙ ap (λ l. l ++ (mark_lines marks ++ rest)) (mark_line_is m))
    ∙ line_more (mark_word m) (mark_lines marks ++ rest) free
    ∙ ap (λ ls. mark_word m ∷ ls) (lines_of_marks name marks rest fit.2)

section_is : (links least : ℕ) (name : LogName) (marks : List Mark) (status : Option ℕ) (rest : List ℕ) → MayCome links least name → Fills name marks status → AreFit name marks
    → lines_of (section_text name marks status ++ rest) ≡ heading name ∷ (map mark_word marks ++ (status_lines status ++ lines_of rest))
section_is links least (Link link) marks None rest may fills fit = absurd fills
section_is links least (Link link) marks (Some s) rest may fills fit =
    ap lines_of (append_assoc (word_line (codes "link ") link ++ mark_lines marks) (status_text (Some s)) rest
    ∙ append_assoc (word_line (codes "link ") link) (mark_lines marks) (status_text (Some s) ++ rest))
    ∙ line_more (heading (Link link)) (mark_lines marks ++ (status_text (Some s) ++ rest)) (number_line link (omega (arith, may.2)))
    ∙ ap (λ ls. heading (Link link) ∷ ls) (lines_of_marks (Link link) marks (status_text (Some s) ++ rest) fit
    ∙ ap (λ ls. map mark_word marks ++ ls) (line_more (status_word s) rest (number_line s (omega (arith, fills)))))
section_is links least (OfUnit unit) [] status rest may fills fit = absurd fills
section_is links least (OfUnit unit) (m ∷ marks) (Some s) rest may fills fit = absurd fills
section_is links least (OfUnit unit) (m ∷ marks) None rest may fills fit =
    ap lines_of (append_assoc (word_line (codes "unit ") unit) (mark_lines (m ∷ marks)) rest)
    ∙ line_more (heading (OfUnit unit)) (mark_lines (m ∷ marks) ++ rest) (number_line unit (omega (arith, may.1)))
    ∙ ap (λ ls. heading (OfUnit unit) ∷ ls) (lines_of_marks (OfUnit unit) (m ∷ marks) rest fit)

pub report_is : (links least : ℕ) (sections : List Section) → AreSections links least sections → lines_of (report_text sections) ≡ report_lines sections
report_is links least [] are = refl
report_is links least (s ∷ ss) are =
    section_is links least s.name s.marks s.status (report_text ss) are.0 are.1 are.2
    ∙ ap (λ ls. heading s.name ∷ (map mark_word s.marks ++ (status_lines s.status ++ ls))) (report_is (links_after links s.name) (least_after least s.name) ss are.3)

-- ---- no line of it is bad

behind_append : (xs ys : List Mark) (rest : List Line) → behind_marks (xs ++ ys) rest ≡ behind_marks ys (behind_marks xs rest)
behind_append [] ys rest = refl
behind_append (x ∷ xs) ys rest = behind_append xs ys (mark_word x ∷ rest)

behind_reverse : (marks : List Mark) (rest : List Line) → behind_marks (reverse marks) rest ≡ map mark_word marks ++ rest
behind_reverse [] rest = refl
behind_reverse (m ∷ marks) rest =
    let front : reverse (m ∷ marks) ≡ reverse marks ++ m ∷ [] = reverse-append (m ∷ []) marks in
    ap (λ ms. behind_marks ms rest) front ∙ behind_append (reverse marks) (m ∷ []) rest ∙ ap (λ ls. mark_word m ∷ ls) (behind_reverse marks rest)

fit_append : (name : LogName) (xs ys : List Mark) → AreFit name xs → AreFit name ys → AreFit name (xs ++ ys)
fit_append name [] ys a b = b
fit_append name (x ∷ xs) ys a b = (a.0, a.1, fit_append name xs ys a.2 b)

fit_reverse : (name : LogName) (marks : List Mark) → AreFit name marks → AreFit name (reverse marks)
fit_reverse name [] fit = tt
fit_reverse name (m ∷ marks) fit =
    let front : reverse (m ∷ marks) ≡ reverse marks ++ m ∷ [] = reverse-append (m ∷ []) marks in
    subst (AreFit name) (sym front) (fit_append name (reverse marks) (m ∷ []) (fit_reverse name marks fit.2) (fit.0, fit.1, tt))

no_mark_first : (name : LogName) (sections : List Section) (m : Mark) (more : List Line) → AreFit name (m ∷ []) → report_lines sections ≡ mark_word m ∷ more → ⊥
no_mark_first name [] m more fit e = mark_end name m fit (cc e)
no_mark_first name (s ∷ ss) m more fit e = mark_heading name s.name m fit (cc e)

section_in : (lines : List Line) (links least : ℕ) (name : LogName) (marks : List Mark) (status : Option ℕ) (rest : List Line) (count : ℕ)
    → At lines links least (heading name ∷ (map mark_word marks ++ (status_lines status ++ rest))) count → MayCome links least name → AreFit name marks → KeepsLaw (reverse marks)
    → In lines links least name (reverse marks) (status_lines status ++ rest) (count + 1 + length (reverse marks))
section_in lines links least name marks status rest count a may fit law =
    marks_in lines links least name (reverse marks) (status_lines status ++ rest) (count + 1) (fit_reverse name marks fit) law.law
    (subst (λ ls. In lines links least name [] ls (count + 1)) (sym (behind_reverse marks (status_lines status ++ rest)))
    (start lines links least name (map mark_word marks ++ (status_lines status ++ rest)) count a may))

record Later (lines : List Line) (links least : ℕ) (rest : List Line) : Type 0 where
  count : ℕ
  at : At lines links least rest count

section_over : (lines : List Line) (links least : ℕ) (name : LogName) (marks : List Mark) (status : Option ℕ) (sections : List Section) (count : ℕ)
    → At lines links least (heading name ∷ (map mark_word marks ++ (status_lines status ++ report_lines sections))) count → MayCome links least name → Fills name marks status
    → AreFit name marks → KeepsLaw (reverse marks) → Later lines (links_after links name) (least_after least name) (report_lines sections)
section_over lines links least (Link link) marks None sections count a may fills fit law = absurd fills
section_over lines links least (Link link) marks (Some s) sections count a may fills fit law =
    let i = section_in lines links least (Link link) marks (Some s) (report_lines sections) count a may fit law in
    record { count = count + 1 + length (reverse marks) + 1; at = status_taken lines links least link (reverse marks) s (report_lines sections) (count + 1 + length (reverse marks)) i fills law.settled }
section_over lines links least (OfUnit unit) [] status sections count a may fills fit law = absurd fills
section_over lines links least (OfUnit unit) (m ∷ marks) (Some s) sections count a may fills fit law = absurd fills
section_over lines links least (OfUnit unit) (m ∷ marks) None sections count a may fills fit law =
    let i = section_in lines links least (OfUnit unit) (m ∷ marks) None (report_lines sections) count a may fit law in
    record {
      count = count + 1 + length (reverse (m ∷ marks));
      at = unit_some lines links least unit (reverse (m ∷ marks)) (report_lines sections) (count + 1 + length (reverse (m ∷ marks))) i
          (omega (arith, length-reverse (m ∷ marks))) (λ n more fits e. no_mark_first (OfUnit unit) sections n more fits e) law.settled;
    }

lawful_from : (lines : List Line) (links least : ℕ) (sections : List Section) (count : ℕ) → At lines links least (report_lines sections) count → AreSections links least sections
    → KeepLaw sections → (n : ℕ) → HasFault lines n → ⊥
lawful_from lines links least [] count a are law = finished lines links least count a
lawful_from lines links least (s ∷ ss) count a are law =
    let later = section_over lines links least s.name s.marks s.status ss count a are.0 are.1 are.2 law.0 in
    lawful_from lines (links_after links s.name) (least_after least s.name) ss later.count later.at are.3 law.1

pub lawful : (sections : List Section) → AreSections 0 0 sections → KeepLaw sections → (n : ℕ) → HasFault (lines_of (report_text sections)) n → ⊥
lawful sections are law =
    subst (λ lines. (n : ℕ) → HasFault lines n → ⊥) (sym (report_is 0 0 sections are))
    (lawful_from (report_lines sections) 0 0 sections 0 (begin (report_lines sections)) are law)
