use Rattle.std.proofs.Common.{rules, ◌≡◌, ◌∙◌, ◌++◌, ◌<◌, ℕ, List, [], length, drop, Some, None, ap, sym, arith, decimal, append-nil}
use Rattle.std.specs.Cmp.{unsigned_Decides}
use Rattle.std.proofs.lemmas.Slice.Eq.{strip_prefix_is}
use Rattle.std.proofs.Math.Seq.{drop-append_seam}
use Rattle.ppp_report.proofs.PlaceLemmas.{nil_is}
use Rattle.ppp_report.proofs.check.numbered.Goals as goal

cancel : (xs ys zs : List ℕ) → xs ++ ys ≡ xs ++ zs → ys ≡ zs
cancel xs ys zs e = sym (drop-append_seam xs ys) ∙ ap (drop (length xs)) e ∙ drop-append_seam xs zs

pub returns-in_default-clause-found : goal.returns-in_default-clause-found
returns-in_default-clause-found c = λ n low is. strip_prefix_is unsigned_Decides c.args.line.now c.args.word.now None c.in_default.ensures.cases (decimal n) is

pub returns-in_default-number-clause-found : goal.returns-in_default-number-clause-found
returns-in_default-number-clause-found c = λ n low is.
    let text = strip_prefix_is unsigned_Decides c.args.line.now c.args.word.now (Some c.in-Some.digits) c.in-Some.ensures.cases in
    let digits : c.in-Some.digits.now ≡ decimal n = cancel c.args.word.now c.in-Some.digits.now (decimal n) (sym text ∙ is) in
    c.in_default-number.ensures.found n [] low tt (digits ∙ sym (append-nil (decimal n)))

pub returns-then-not-is_empty-clause-found : goal.returns-then-not-is_empty-clause-found
returns-then-not-is_empty-clause-found c = λ n low is.
    let text = strip_prefix_is unsigned_Decides c.args.line.now c.args.word.now (Some c.in-Some.digits) c.in-Some.ensures.cases in
    let digits : c.in-Some.digits.now ≡ decimal n = cancel c.args.word.now c.in-Some.digits.now (decimal n) (sym text ∙ is) in
    let found = c.in-Some-number.ensures.found n [] low tt (digits ∙ sym (append-nil (decimal n))) in
    let some : 0 < length c.in-Some-number.rest.now = search rules in
    omega (arith, some, ap length found.1)

pub returns-clause-sound : goal.returns-clause-sound
returns-clause-sound c =
    let text = strip_prefix_is unsigned_Decides c.args.line.now c.args.word.now (Some c.in-Some.digits) c.in-Some.ensures.cases in
    let sound = c.in-Some-number.ensures.sound in
    let none : length c.in-Some-number.rest.now ≡ 0 = search rules in
    (sound.0, text ∙ ap (λ ds. c.args.word.now ++ ds) (sound.1 ∙ ap (λ xs. decimal c.in-Some-number.number ++ xs) (nil_is c.in-Some-number.rest.now none) ∙ append-nil (decimal c.in-Some-number.number)))
