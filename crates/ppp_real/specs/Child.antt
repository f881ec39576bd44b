-- How the command of a line is run (pppd(8), "pty").
use Rattle.std.specs.Prelude.{ℕ, List, [], ◌∷◌, codes}

-- the shell
abbrev pub shell : List ℕ
shell = codes "/bin/sh"

-- its arguments, of which the last is the command
abbrev pub shell_words : List ℕ → List (List ℕ)
shell_words command = codes "-c" ∷ command ∷ []
