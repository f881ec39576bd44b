use Rattle.std.proofs.Common.{◌≡◌, ℕ, List, ◌∷◌, ◌++◌, ap, sym, ◌∙◌, arith, decimal}
use Rattle.ppp_mark.specs.declared.mark.Mark.{Mark}
use Rattle.ppp_mark.specs.Lines.{lines_of}
use Rattle.ppp_mark.specs.Table.{name_of}
use Rattle.ppp_report.specs.Report.{mark_word, target_of}
use Rattle.ppp_report.proofs.KindLemmas.{stands_is_kind}
use Rattle.ppp_report.proofs.MarkLemmas.{line_ended, line_front, mark_is_word, same_mark, spell, spelled}
use Rattle.ppp_report.proofs.mark_line.first_mark.Goals as goal

-- what follows the time, the name, x and y of a mark
abbrev behind_time : Mark → List ℕ → List ℕ
behind_time m after = name_of m.kind ++ 32 ∷ (decimal m.x ++ 32 ∷ (decimal m.y ++ 32 ∷ (decimal m.z ++ after)))

abbrev behind_name : Mark → List ℕ → List ℕ
behind_name m after = decimal m.x ++ 32 ∷ (decimal m.y ++ 32 ∷ (decimal m.z ++ after))

abbrev behind_x : Mark → List ℕ → List ℕ
behind_x m after = decimal m.y ++ 32 ∷ (decimal m.z ++ after)

abbrev behind_y : Mark → List ℕ → List ℕ
behind_y m after = decimal m.z ++ after

pub returns-in_default-clause-found : goal.returns-in_default-clause-found
returns-in_default-clause-found c = λ m others fit lines.
    let f = line_front c.args.text.now (mark_word m) others lines in
    c.in_default.ensures.found m.time (behind_time m f.after) (omega (arith, fit.0.3)) (f.is ∙ spelled m f.after)

pub returns-in_default-named-clause-found : goal.returns-in_default-named-clause-found
returns-in_default-named-clause-found c = λ m others fit lines.
    let f = line_front c.args.text.now (mark_word m) others lines in
    let t = c.in-Some.ensures.found m.time (behind_time m f.after) (omega (arith, fit.0.3)) (f.is ∙ spelled m f.after) in
    c.in_default-named.ensures.found m.kind (behind_name m f.after) fit.1 t.1

pub returns-in_default-number_then-clause-found : goal.returns-in_default-number_then-clause-found
returns-in_default-number_then-clause-found c = λ m others fit lines.
    let f = line_front c.args.text.now (mark_word m) others lines in
    let t = c.in-Some.ensures.found m.time (behind_time m f.after) (omega (arith, fit.0.3)) (f.is ∙ spelled m f.after) in
    let k = c.in-Some-named.ensures.found m.kind (behind_name m f.after) fit.1 t.1 in
    c.in_default-number_then.ensures.found m.x (behind_x m f.after) (omega (arith, fit.0.0)) k.1

pub returns-in_default-number_then-2-clause-found : goal.returns-in_default-number_then-2-clause-found
returns-in_default-number_then-2-clause-found c = λ m others fit lines.
    let f = line_front c.args.text.now (mark_word m) others lines in
    let t = c.in-Some.ensures.found m.time (behind_time m f.after) (omega (arith, fit.0.3)) (f.is ∙ spelled m f.after) in
    let k = c.in-Some-named.ensures.found m.kind (behind_name m f.after) fit.1 t.1 in
    let x = c.in-Some-number_then.ensures.found m.x (behind_x m f.after) (omega (arith, fit.0.0)) k.1 in
    c.in_default-number_then-2.ensures.found m.y (behind_y m f.after) (omega (arith, fit.0.1)) x.1

pub returns-in_default-last_number-clause-found : goal.returns-in_default-last_number-clause-found
returns-in_default-last_number-clause-found c = λ m others fit lines.
    let f = line_front c.args.text.now (mark_word m) others lines in
    let t = c.in-Some.ensures.found m.time (behind_time m f.after) (omega (arith, fit.0.3)) (f.is ∙ spelled m f.after) in
    let k = c.in-Some-named.ensures.found m.kind (behind_name m f.after) fit.1 t.1 in
    let x = c.in-Some-number_then.ensures.found m.x (behind_x m f.after) (omega (arith, fit.0.0)) k.1 in
    let y = c.in-Some-number_then-2.ensures.found m.y (behind_y m f.after) (omega (arith, fit.0.1)) x.1 in
    c.in_default-last_number.ensures.found m.z f.after f.rest (omega (arith, fit.0.2)) f.over y.1

pub returns-clause-lines : goal.returns-clause-lines
returns-clause-lines c =
    let t = c.in-Some.ensures.sound in
    let k = c.in-Some-named.ensures.sound in
    let x = c.in-Some-number_then.ensures.sound in
    let y = c.in-Some-number_then-2.ensures.sound in
    let z = c.in-Some-last_number.ensures.sound in
    let m : Mark = record { kind = c.in-Some-named.kind; x = c.in-Some-number_then.x; y = c.in-Some-number_then-2.y; z = c.in-Some-last_number.z; time = c.in-Some.time } in
    let after = z.1.0 in
    let is : c.args.text.now ≡ spell m after =
    t.1 ∙ ap (λ xs. decimal m.time ++ 32 ∷ xs) (k.1 ∙ ap (λ xs. name_of m.kind ++ 32 ∷ xs) (x.1 ∙ ap (λ xs. decimal m.x ++ 32 ∷ xs) (y.1 ∙ ap (λ xs. decimal m.y ++ 32 ∷ xs) z.1.1))) in
    let kind = stands_is_kind (target_of c.args.of.now) m.kind k.0 in
    ap lines_of (is ∙ sym (spelled m after))
    ∙ line_ended (mark_word m) after c.in-Some-last_number.rest.now
    (mark_is_word m (omega (arith, x.0), omega (arith, y.0), omega (arith, z.0), omega (arith, t.0)) kind) z.1.2

pub returns-clause-found : goal.returns-clause-found
returns-clause-found c = λ m others fit lines.
    let f = line_front c.args.text.now (mark_word m) others lines in
    let t = c.in-Some.ensures.found m.time (behind_time m f.after) (omega (arith, fit.0.3)) (f.is ∙ spelled m f.after) in
    let k = c.in-Some-named.ensures.found m.kind (behind_name m f.after) fit.1 t.1 in
    let x = c.in-Some-number_then.ensures.found m.x (behind_x m f.after) (omega (arith, fit.0.0)) k.1 in
    let y = c.in-Some-number_then-2.ensures.found m.y (behind_y m f.after) (omega (arith, fit.0.1)) x.1 in
    let z = c.in-Some-last_number.ensures.found m.z f.after f.rest (omega (arith, fit.0.2)) f.over y.1 in
    (same_mark _ m k.0 x.0 y.0 z.0 t.0, ap lines_of z.1 ∙ f.lines)
