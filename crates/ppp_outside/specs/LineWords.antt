-- Which words of a line are the path of a Unix socket.
use Rattle.std.specs.Prelude.{◌≡◌, ℕ, List, ◌∷◌}
use Rattle.ppp_outside.specs.declared.line_words.LineWords.{LineWords}
use Rattle.ppp_outside.specs.declared.line_words.LineWords.TheVariants.{Socket, Pty}

-- The text of a socket begins with a slash, whose code is 47.
abbrev pub IsUnixPath : LineWords → Type 0
IsUnixPath (Socket text) = (rest : List ℕ) × (text ≡ 47 ∷ rest)
IsUnixPath (Pty command) = ⊥
