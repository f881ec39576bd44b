-- Marks of the table, read from either end.
use Rattle.std.proofs.Common.{◌≡◌, ◌≤◌, ℕ, List, [], ◌∷◌, ◌++◌, length, refl, sym, subst, arith}
use Rattle.std.specs.Prelude.{None, codes}
use mathlib.Core.List.{reverse}
use Rattle.std.proofs.lemmas.List.{reverse-append}
use Rattle.ppp_mark.specs.declared.mark.Mark.{Mark}
use Rattle.ppp_mark.specs.declared.report.LogName.TheVariants.{Unit as OfUnit}
use Rattle.ppp_mark.specs.Log.{AreMarks}
use Rattle.ppp_mark.specs.Report.{mark_lines, section_text, word_line}

are-append : (xs ys : List Mark) → AreMarks xs → AreMarks ys → AreMarks (xs ++ ys)
are-append [] ys a b = b
are-append (x ∷ xs) ys a b = (a.0, are-append xs ys a.1 b)

pub are-reverse : (xs : List Mark) → AreMarks xs → AreMarks (reverse xs)
are-reverse [] a = a
are-reverse (x ∷ xs) a =
    let e : reverse (x ∷ xs) ≡ reverse xs ++ x ∷ [] = reverse-append (x ∷ []) xs in
    subst AreMarks (sym e) (are-append (reverse xs) (x ∷ []) (are-reverse xs a.1) (a.0, tt))

-- the section of a unit's log that has marks
pub unit_text : (unit : ℕ) (marks : List Mark) → 1 ≤ length marks → section_text (OfUnit unit) marks None ≡ word_line (codes "unit ") unit ++ mark_lines marks
unit_text unit [] some = absurd (omega (arith, some))
unit_text unit (m ∷ marks) some = refl
