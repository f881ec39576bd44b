-- The arguments of site scripts (pppd(8), "Scripts").
use Rattle.std.specs.Prelude.{ℕ, List, [], ◌∷◌, ◌++◌, codes, decimal, slice_index}
use Rattle.ppp_outside.specs.declared.hook_words.HookWords.{HookWords}
use Rattle.ppp_outside.specs.declared.hook_words.HookArgs.{HookArgs}
use Rattle.ppp_outside.specs.declared.hook_words.HookScript.{HookScript}
use Rattle.ppp_outside.specs.declared.hook_words.HookScript.TheVariants.{IpUp, IpDown, AuthUp, AuthDown}

-- an IP address as its four octets in decimal with dots between them
abbrev pub dotted : List ℕ → List ℕ
dotted address =
    decimal (slice_index address 0)
    ++ codes "."
    ++ decimal (slice_index address 1)
    ++ codes "."
    ++ decimal (slice_index address 2)
    ++ codes "."
    ++ decimal (slice_index address 3)

-- the interface of a unit
abbrev pub interface_of : ℕ → List ℕ
interface_of unit = codes "ppp" ++ decimal unit

-- ip-up and ip-down: interface, device, speed (which is always 0), local address, remote address, ipparam
abbrev pub ip_texts : HookArgs → List (List ℕ)
ip_texts args =
    interface_of args.unit ∷ args.device ∷ codes "0" ∷ dotted args.local ∷ dotted args.remote ∷ args.param ∷ []

-- auth-up and auth-down: interface, peer name, user name (which is always -), device, speed (which is always 0)
abbrev pub auth_texts : HookArgs → List (List ℕ)
auth_texts args = interface_of args.unit ∷ args.peer ∷ codes "-" ∷ args.device ∷ codes "0" ∷ []

abbrev pub texts_for : HookScript → HookArgs → List (List ℕ)
texts_for IpUp args = ip_texts args
texts_for IpDown args = ip_texts args
texts_for AuthUp args = auth_texts args
texts_for AuthDown args = auth_texts args

-- the arguments of a script, in order
abbrev pub texts_of : HookWords → List (List ℕ)
texts_of words = texts_for words.script words.args
