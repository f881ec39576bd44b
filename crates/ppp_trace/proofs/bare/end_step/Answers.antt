use Rattle.std.proofs.Common.{◌≡◌, ◌+◌, ◌++◌, ◌∙◌, Some, codes}
use Rattle.std.specs.Cmp.{unsigned_Decides}
use Rattle.std.proofs.lemmas.Slice.Eq.{strip_prefix_is}
use Rattle.ppp_mark.proofs.LinesLemmas.{rest_is}
use Rattle.ppp_trace.proofs.StepLemmas.{end_parts}
use Rattle.ppp_trace.proofs.bare.end_step.Goals as goal

pub returns-in_default : goal.returns-in_default
returns-in_default c =
    λ job a spells.
    let text : c.args.line.now ≡ codes "end " ++ c.in_ok-words.words.now = strip_prefix_is unsigned_Decides c.args.line.now (codes "end ") (Some c.in_ok-words.words) c.in_ok-words.ensures.cases in
    let parts = end_parts c.args.line.now c.in_ok-words.words.now c.place-space.result text c.place-space.ensures.within c.place-space.ensures.none c.place-space.ensures.found job a spells in
    c.in_default.ensures job parts.0 parts.2

pub returns-in_default-answer : goal.returns-in_default-answer
returns-in_default-answer c =
    λ job a spells.
    let text : c.args.line.now ≡ codes "end " ++ c.in_ok-words.words.now = strip_prefix_is unsigned_Decides c.args.line.now (codes "end ") (Some c.in_ok-words.words) c.in_ok-words.ensures.cases in
    let parts = end_parts c.args.line.now c.in_ok-words.words.now c.place-space.result text c.place-space.ensures.within c.place-space.ensures.none c.place-space.ensures.found job a spells in
    c.in_default-answer.ensures a parts.1 (rest_is (c.place-space.result + 1) c.in_ok-words.words.now ∙ parts.3)
