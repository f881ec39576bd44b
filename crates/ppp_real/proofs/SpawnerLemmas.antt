-- The arguments of a script, one by one.
use Rattle.std.proofs.Common.{◌≡◌, [], ◌++◌, slice_get, refl}
use Rattle.ppp_outside.specs.HookWords.{texts_of}
use Rattle.ppp_outside.specs.declared.hook_words.HookWords.{HookWords}
use Rattle.ppp_outside.specs.declared.hook_words.HookArgs.{HookArgs}
use Rattle.ppp_outside.specs.declared.hook_words.HookScript.{HookScript}
use Rattle.ppp_outside.specs.declared.hook_words.HookScript.TheVariants.{IpUp, IpDown, AuthUp, AuthDown}
use Rattle.ppp_real.specs.Spawner.{listed}

listed_for : (script : HookScript) (args : HookArgs) → let w : HookWords = record { script = script; args = args } in (((((([] ++ listed (slice_get (texts_of w) 0)) ++ listed (slice_get (texts_of w) 1)) ++ listed (slice_get (texts_of w) 2)) ++ listed (slice_get (texts_of w) 3)) ++ listed (slice_get (texts_of w) 4)) ++ listed (slice_get (texts_of w) 5)) ≡ texts_of w
listed_for IpUp args = refl
listed_for IpDown args = refl
listed_for AuthUp args = refl
listed_for AuthDown args = refl

pub all_listed : (w : HookWords) → (((((([] ++ listed (slice_get (texts_of w) 0)) ++ listed (slice_get (texts_of w) 1)) ++ listed (slice_get (texts_of w) 2)) ++ listed (slice_get (texts_of w) 3)) ++ listed (slice_get (texts_of w) 4)) ++ listed (slice_get (texts_of w) 5)) ≡ texts_of w
all_listed w = listed_for w.script w.args
