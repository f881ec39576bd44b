-- What a clause sees of a configuration.
use Rattle.std.specs.Prelude.{ℕ, List, Option}
use Rattle.ppp_outside.specs.declared.hook_paths.HookPaths.{HookPaths}
use Rattle.ppp_option_words.specs.LinkValues.{LinkValues}

pub record ConfigValues : Type 0 where
  pub links : List LinkValues
  pub control : Option (List ℕ)
  pub packets : Option (List ℕ)
  pub pap_file : Option (List ℕ)
  pub chap_file : Option (List ℕ)
  pub hooks : HookPaths
  pub loglimit : ℕ
