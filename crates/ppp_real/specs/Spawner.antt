-- Where a site script lies (pppd(8), "Scripts"), and how it ended.
use Rattle.std.specs.Prelude.{◌≡◌, ℕ, List, [], ◌∷◌, ℤ, pos, Option, Some, None}
use Rattle.ppp_outside.specs.declared.hook_paths.HookPaths.{HookPaths}
use Rattle.ppp_outside.specs.declared.hook_words.HookScript.{HookScript}
use Rattle.ppp_outside.specs.declared.hook_words.HookScript.TheVariants.{IpUp, IpDown, AuthUp, AuthDown}
use Rattle.ppp_outside.specs.declared.spawner.ScriptEnd.{ScriptEnd}
use Rattle.ppp_outside.specs.declared.spawner.ScriptEnd.TheVariants.{Exit, Killed}

-- where a script lies
abbrev pub path_of : HookPaths → HookScript → List ℕ
path_of paths IpUp = paths.ip_up
path_of paths IpDown = paths.ip_down
path_of paths AuthUp = paths.auth_up
path_of paths AuthDown = paths.auth_down

-- a text as a list, none as the empty one
abbrev pub listed : Option (List ℕ) → List (List ℕ)
listed None = []
listed (Some text) = text ∷ []

-- A program that ended by itself has its exit code as the status, and any other was killed.
abbrev pub IsEndOf : Option ℤ → ScriptEnd → Type 0
IsEndOf (Some code) end = (status : ℕ) × (code ≡ pos status) × (end ≡ Exit status)
IsEndOf None end = end ≡ Killed
