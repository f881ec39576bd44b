use Rattle.std.proofs.Common.{◌∙◌, None, ap, sym, take, decimal, arith, ◌++◌, drop}
use Rattle.std.proofs.lemmas.Option.{none-some, same_Some}
use Rattle.std.proofs.lemmas.List.{take-append-drop}
use Rattle.ppp_mark.proofs.LinesLemmas.{rest_is}
use Rattle.ppp_report.proofs.NumberLemmas.{is_read, number_parts, was_read}
use Rattle.ppp_report.proofs.number.any_number.Goals as goal

pub returns-in_default-clause-found : goal.returns-in_default-clause-found
returns-in_default-clause-found c = λ n rest low other is.
    let end = c.digits-end in
    let parts = number_parts c.args.text.now rest n end.result (omega (arith, low, c.ranges.most.fits)) other is end.ensures.within end.ensures.digits end.ensures.end in
    none-some n (is_read (take end.result c.args.text.now) n c.args.most None c.in_default.ensures.value parts.0 low c.ranges.most.fits)

pub returns-clause-sound : goal.returns-clause-sound
returns-clause-sound c =
    let end = c.digits-end.result in
    let read = was_read (take end c.args.text.now) c.in-Some.value c.args.most c.in-Some.ensures.value c.ranges.most.fits in
    (read.0, sym (take-append-drop end c.args.text.now) ∙ ap (λ xs. xs ++ drop end c.args.text.now) read.1 ∙ ap (λ xs. decimal c.in-Some.value ++ xs) (sym (rest_is end c.args.text.now)))

pub returns-clause-found : goal.returns-clause-found
returns-clause-found c = λ n rest low other is.
    let end = c.digits-end in
    let parts = number_parts c.args.text.now rest n end.result (omega (arith, low, c.ranges.most.fits)) other is end.ensures.within end.ensures.digits end.ensures.end in (
      same_Some _ _ (is_read (take end.result c.args.text.now) n c.args.most _ c.in-Some.ensures.value parts.0 low c.ranges.most.fits),
      rest_is end.result c.args.text.now ∙ parts.1,
    )
