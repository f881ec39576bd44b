use Rattle.std.proofs.Common.{◌≡◌, ◌∙◌, ◌-◌, ◌+◌, sym, ap, List, ℕ, ◌∷◌, take, drop, length, arith, length-drop}
use Rattle.std.specs.List.{slice_split}
use Rattle.std.proofs.lemmas.List.{take_all}
use Rattle.ppp_chat.specs.Words.{is_hyphen}
use Rattle.ppp_chat.proofs.PartsRead.{parts-none, parts-some}
use Rattle.ppp_chat.proofs.parts.first_part.Goals as goal

pub returns-in-None-clause-parts : goal.returns-in-None-clause-parts
returns-in-None-clause-parts c = parts-none c.args.word.now (sym c.first_hyphen.ensures ∙ c.in-None.is)

pub returns-in-Some-clause-parts : goal.returns-in-Some-clause-parts
returns-in-Some-clause-parts c =
    let behind = drop (c.in-Some.place + 1) c.args.word.now in
    let all : take (length c.args.word.now - (c.in-Some.place + 1)) behind ≡ behind =
    take_all (length c.args.word.now - (c.in-Some.place + 1)) behind (omega (arith, length-drop (c.in-Some.place + 1) c.args.word.now)) in
    parts-some c.args.word.now c.in-Some.place (sym c.first_hyphen.ensures ∙ c.in-Some.is)
    ∙ ap (λ (l : List ℕ). take c.in-Some.place c.args.word.now ∷ slice_split is_hyphen l) (sym all)
