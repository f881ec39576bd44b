-- Two lists of sections with the same lines are the same.
use Rattle.std.proofs.Common.{◌≡◌, ℕ, List, [], ◌∷◌, ◌++◌, map, drop, Option, Some, None, refl, sym, ap, ap₂, ◌∙◌, subst, arith}
use Rattle.std.proofs.lemmas.Fmt.{decimal_injective}
use Rattle.ppp_mark.specs.declared.mark.Mark.{Mark}
use Rattle.ppp_mark.specs.declared.report.LogName.{LogName}
use Rattle.ppp_mark.specs.declared.report.LogName.TheVariants.{Link, Unit as OfUnit}
use Rattle.ppp_mark.specs.Lines.{lines_of}
use Rattle.ppp_report.specs.Report.{AreFit, AreSections, Fills, Section, least_after, links_after, mark_word, report_lines, report_text, status_lines}
use Rattle.ppp_report.proofs.FrontLemmas.{head_is, heading_end, mark_not_next, may_is_object, name_one, tail_is}
use Rattle.ppp_report.proofs.LawfulLemmas.{report_is}
use Rattle.ppp_report.proofs.MarkLemmas.{fit_one}

marks_same : (name : LogName) (ms ns : List Mark) (s t : Option ℕ) (ss ts : List Section) → AreFit name ms → AreFit name ns
    → map mark_word ms ++ (status_lines s ++ report_lines ss) ≡ map mark_word ns ++ (status_lines t ++ report_lines ts)
    → (ms ≡ ns) × (status_lines s ++ report_lines ss ≡ status_lines t ++ report_lines ts)
marks_same name [] [] s t ss ts f g e = (refl, e)
marks_same name (m ∷ ms) [] s t ss ts f g e = absurd (mark_not_next name m (map mark_word ms ++ (status_lines s ++ report_lines ss)) t ts (f.0, f.1, tt) e)
marks_same name [] (n ∷ ns) s t ss ts f g e = absurd (mark_not_next name n (map mark_word ns ++ (status_lines t ++ report_lines ts)) s ss (g.0, g.1, tt) (sym e))
marks_same name (m ∷ ms) (n ∷ ns) s t ss ts f g e =
    let rest = marks_same name ms ns s t ss ts f.2 g.2 (tail_is _ _ _ _ e) in
    (ap₂ (λ x xs. x ∷ xs) (fit_one name m n (f.0, f.1, tt) (g.0, g.1, tt) (head_is _ _ _ _ e)) rest.0, rest.1)

status_same : (name : LogName) (ms ns : List Mark) (s t : Option ℕ) (ss ts : List Section) → Fills name ms s → Fills name ns t
    → status_lines s ++ report_lines ss ≡ status_lines t ++ report_lines ts → (s ≡ t) × (report_lines ss ≡ report_lines ts)
status_same (Link link) ms ns None t ss ts f g e = absurd f
status_same (Link link) ms ns (Some s) None ss ts f g e = absurd g
status_same (Link link) ms ns (Some s) (Some t) ss ts f g e =
    (ap Some (decimal_injective s t (omega (arith, f)) (omega (arith, g)) (ap (drop 7) (head_is _ _ _ _ e))), tail_is _ _ _ _ e)
status_same (OfUnit unit) [] ns s t ss ts f g e = absurd f
status_same (OfUnit unit) (m ∷ ms) ns (Some s) t ss ts f g e = absurd f
status_same (OfUnit unit) (m ∷ ms) [] None t ss ts f g e = absurd g
status_same (OfUnit unit) (m ∷ ms) (n ∷ ns) None (Some t) ss ts f g e = absurd g
status_same (OfUnit unit) (m ∷ ms) (n ∷ ns) None None ss ts f g e = (refl, e)

same_section : (a b : Section) → a.name ≡ b.name → a.marks ≡ b.marks → a.status ≡ b.status → a ≡ b
same_section a b n m s = ap (λ v. record a { name = v }) n ∙ ap (λ v. record a { name = b.name; marks = v }) m ∙ ap (λ v. record a { name = b.name; marks = b.marks; status = v }) s

sections_same : (links least : ℕ) (a b : List Section) → AreSections links least a → AreSections links least b → report_lines a ≡ report_lines b → a ≡ b
sections_same links least [] [] f g e = refl
sections_same links least [] (t ∷ ts) f g e = absurd (heading_end t.name (sym (head_is _ _ _ _ e)))
sections_same links least (s ∷ ss) [] f g e = absurd (heading_end s.name (head_is _ _ _ _ e))
sections_same links least (s ∷ ss) (t ∷ ts) f g e =
    let name : s.name ≡ t.name = name_one s.name t.name (may_is_object links least s.name f.0) (may_is_object links least t.name g.0) (head_is _ _ _ _ e) in
    let fit : AreFit s.name t.marks = subst (λ n. AreFit n t.marks) (sym name) g.2 in
    let fills : Fills s.name t.marks t.status = subst (λ n. Fills n t.marks t.status) (sym name) g.1 in
    let marks = marks_same s.name s.marks t.marks s.status t.status ss ts f.2 fit (tail_is _ _ _ _ e) in
    let status = status_same s.name s.marks t.marks s.status t.status ss ts f.1 fills marks.1 in
    let are : AreSections (links_after links s.name) (least_after least s.name) ts =
    subst (λ n. AreSections (links_after links n) (least_after least n) ts) (sym name) g.3 in
    ap₂ (λ x xs. x ∷ xs) (same_section s t name marks.0 status.0) (sections_same (links_after links s.name) (least_after least s.name) ss ts f.3 are status.1)

pub text_same : (a b : List Section) → AreSections 0 0 a → AreSections 0 0 b → report_text a ≡ report_text b → a ≡ b
text_same a b f g e = sections_same 0 0 a b f g (sym (report_is 0 0 a f) ∙ ap lines_of e ∙ report_is 0 0 b g)
