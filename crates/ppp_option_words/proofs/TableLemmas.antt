-- Each word of the table is found by its spelling.
use Rattle.std.proofs.Common.{◌≡◌, refl, ℕ, Bool, true, false, cond, List, [], ◌∷◌, Option, Some, None}
use Rattle.std.proofs.lemmas.Slice.Eq.{bytes_eq-Decides}
use Rattle.std.specs.List.{find}
use Rattle.std.specs.Str.{bytes_eq}
use Rattle.ppp_option_words.specs.Table.{kind_of, spelled}
use Rattle.ppp_option_words.specs.declared.kind.TheConstants.{KINDS}
use Rattle.ppp_option_words.specs.declared.flag.Flag.TheVariants as flag
use Rattle.ppp_option_words.specs.declared.ignored.Ignored.TheVariants as ignored
use Rattle.ppp_option_words.specs.declared.number.Number.TheVariants as number
use Rattle.ppp_option_words.specs.declared.text.Text.TheVariants as text
use Rattle.ppp_option_words.specs.declared.kind.Included.TheVariants as included
use Rattle.ppp_option_words.specs.declared.kind.Valued.TheVariants as valued
use Rattle.ppp_option_words.specs.declared.kind.Kind.{Kind}
use Rattle.ppp_option_words.specs.declared.kind.Kind.TheVariants as kind

pub found : (known : Kind) → kind_of (spelled known) ≡ Some known
found kind.Link = refl
found (kind.Included included.File) = refl
found (kind.Included included.Call) = refl
found (kind.Valued valued.Pty) = refl
found (kind.Valued valued.Connect) = refl
found (kind.Valued valued.Asyncmap) = refl
found (kind.Valued valued.Endpoint) = refl
found (kind.Valued (valued.Number number.Mru)) = refl
found (kind.Valued (valued.Number number.Mrru)) = refl
found (kind.Valued (valued.Number number.Unit)) = refl
found (kind.Valued (valued.Number number.LcpEchoInterval)) = refl
found (kind.Valued (valued.Number number.LcpEchoFailure)) = refl
found (kind.Valued (valued.Number number.LcpRestart)) = refl
found (kind.Valued (valued.Number number.IpcpRestart)) = refl
found (kind.Valued (valued.Number number.LcpMaxConfigure)) = refl
found (kind.Valued (valued.Number number.IpcpMaxConfigure)) = refl
found (kind.Valued (valued.Number number.LcpMaxTerminate)) = refl
found (kind.Valued (valued.Number number.IpcpMaxTerminate)) = refl
found (kind.Valued (valued.Number number.LcpMaxFailure)) = refl
found (kind.Valued (valued.Number number.IpcpMaxFailure)) = refl
found (kind.Valued (valued.Number number.Holdoff)) = refl
found (kind.Valued (valued.Number number.Maxfail)) = refl
found (kind.Valued (valued.Number number.Idle)) = refl
found (kind.Valued (valued.Number number.Maxconnect)) = refl
found (kind.Valued (valued.Number number.Loglimit)) = refl
found (kind.Valued (valued.Text text.Socket)) = refl
found (kind.Valued (valued.Text text.Name)) = refl
found (kind.Valued (valued.Text text.User)) = refl
found (kind.Valued (valued.Text text.Remotename)) = refl
found (kind.Valued (valued.Text text.Password)) = refl
found (kind.Valued (valued.Text text.Ipparam)) = refl
found (kind.Valued (valued.Text text.PapSecrets)) = refl
found (kind.Valued (valued.Text text.ChapSecrets)) = refl
found (kind.Valued (valued.Text text.HookIpUp)) = refl
found (kind.Valued (valued.Text text.HookIpDown)) = refl
found (kind.Valued (valued.Text text.HookAuthUp)) = refl
found (kind.Valued (valued.Text text.HookAuthDown)) = refl
found (kind.Valued (valued.Text text.Control)) = refl
found (kind.Valued (valued.Text text.Packets)) = refl
found (kind.Flag flag.DefaultAsyncmap) = refl
found (kind.Flag flag.Nomagic) = refl
found (kind.Flag flag.Nopcomp) = refl
found (kind.Flag flag.Noaccomp) = refl
found (kind.Flag flag.Multilink) = refl
found (kind.Flag flag.Mp) = refl
found (kind.Flag flag.Nomultilink) = refl
found (kind.Flag flag.Auth) = refl
found (kind.Flag flag.Noauth) = refl
found (kind.Flag flag.RequirePap) = refl
found (kind.Flag flag.RequireChap) = refl
found (kind.Flag flag.RefusePap) = refl
found (kind.Flag flag.RefuseChap) = refl
found (kind.Flag flag.IpcpAcceptLocal) = refl
found (kind.Flag flag.IpcpAcceptRemote) = refl
found (kind.Flag flag.Persist) = refl
found (kind.Flag flag.Nopersist) = refl
found (kind.Flag flag.Demand) = refl
found (kind.Ignored ignored.Crtscts) = refl
found (kind.Ignored ignored.Nocrtscts) = refl
found (kind.Ignored ignored.Lock) = refl
found (kind.Ignored ignored.Modem) = refl
found (kind.Ignored ignored.Local) = refl
found (kind.Ignored ignored.Noccp) = refl
found (kind.Ignored ignored.Novj) = refl
found (kind.Ignored ignored.Nobsdcomp) = refl
found (kind.Ignored ignored.Nodeflate) = refl
found (kind.Ignored ignored.Nodetach) = refl
found (kind.Ignored ignored.Noipdefault) = refl
found (kind.Ignored ignored.Defaultroute) = refl
found (kind.Ignored ignored.Usepeerdns) = refl
found (kind.Ignored ignored.Debug) = refl

-- what is found passes the test
find_holds : {X : Type 0} (p : X → Bool) (xs : List X) (x : X) → find p xs ≡ Some x → p x ≡ true
find_holds p [] x is = cc
find_holds p (y ∷ ys) x is = go (p y) refl (find_holds p ys x) is
  where
    go : (test : Bool) → p y ≡ test → (find p ys ≡ Some x → p x ≡ true) → cond test (Some y) (find p ys) ≡ Some x → p x ≡ true
    go true holds rest is = let same : y ≡ x = cc in rw (← same) holds
    go false fails rest is = rest is

pub only : (word : List ℕ) (known : Kind) → kind_of word ≡ Some known → spelled known ≡ word
only word known is =
    (bytes_eq-Decides (spelled known) word).0 (find_holds (λ (other : Kind). bytes_eq (spelled other) word) KINDS known is)
