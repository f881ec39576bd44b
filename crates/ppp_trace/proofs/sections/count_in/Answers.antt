use Rattle.std.proofs.Common.{Some, None, ◌∷◌, []}
use Rattle.std.specs.Cmp.{unsigned_Decides}
use Rattle.std.proofs.lemmas.Slice.Eq.{strip_prefix_is}
use Rattle.ppp_trace.proofs.SectionLemmas.{count_cases, not_named, not_spaced}
use Rattle.ppp_trace.proofs.sections.count_in.Goals as goal

pub returns-in_default : goal.returns-in_default
returns-in_default c = not_named c.args.name.now c.args.line.now (strip_prefix_is unsigned_Decides c.args.line.now c.args.name.now None c.in_default.ensures.cases)

pub returns-in_default-strip_prefix : goal.returns-in_default-strip_prefix
returns-in_default-strip_prefix c =
    not_spaced c.args.name.now c.args.line.now c.in-Some.behind.now (strip_prefix_is unsigned_Decides c.args.line.now c.args.name.now (Some c.in-Some.behind) c.in-Some.ensures.cases)
    (strip_prefix_is unsigned_Decides c.in-Some.behind.now (32 ∷ []) None c.in_default-strip_prefix.ensures.cases)

pub returns : goal.returns
returns c =
    count_cases c.args.name.now c.args.line.now c.in-Some.behind.now c.in-Some-strip_prefix.digits.now c.count_of.result
    (strip_prefix_is unsigned_Decides c.args.line.now c.args.name.now (Some c.in-Some.behind) c.in-Some.ensures.cases)
    (strip_prefix_is unsigned_Decides c.in-Some.behind.now (32 ∷ []) (Some c.in-Some-strip_prefix.digits) c.in-Some-strip_prefix.ensures.cases)
    c.count_of.ensures
