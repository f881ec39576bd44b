-- What a run came to, in one line.
use Rattle.std.specs.Prelude.{ℕ, ◌+◌, List, [], ◌∷◌, ◌++◌, length, codes, if◌then◌else◌}
use Rattle.std.specs.Fmt.{decimal}
use Rattle.ppp_world_rules.specs.WorldPart.{Output}

-- how many steps were taken, and how many were stale
abbrev pub taken_in : List Output → ℕ
taken_in [] = 0
taken_in (out ∷ outs) = (if out.answer.taken then 1 else 0) + taken_in outs

abbrev pub stale_in : List Output → ℕ
stale_in [] = 0
stale_in (out ∷ outs) = (if out.answer.taken then 0 else 1) + stale_in outs

-- how many marks are new, and how many datagrams were given
abbrev pub marks_in : List Output → ℕ
marks_in [] = 0
marks_in (out ∷ outs) = length out.marks + marks_in outs

abbrev pub given_in : List Output → ℕ
given_in [] = 0
given_in (out ∷ outs) = length out.given + given_in outs

-- the line
abbrev pub summary_line : List Output → List ℕ
summary_line outs =
    codes "steps " ++ decimal (length outs) ++ codes " taken " ++ decimal (taken_in outs) ++ codes " stale " ++ decimal (stale_in outs) ++ codes " marks " ++ decimal (marks_in outs)
    ++ codes " given " ++ decimal (given_in outs) ++ codes "\n"
