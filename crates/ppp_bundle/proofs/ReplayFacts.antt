-- What a unit keeps is what its log says.
use Rattle.std.proofs.Common.{◌≡◌, ℕ, Option, None, Some, refl}
use Rattle.std.specs.Prelude.{IfSome, option_map}
use Rattle.ppp_hooks.specs.declared.facts.Opening.{Opening}
use Rattle.ppp_hooks.specs.HookFacts.{opening_number}
use Rattle.ppp_hooks.specs.HookPast.{open_in}
use Rattle.ppp_mark.specs.Marks.{address_number}
use Rattle.ppp_mark.specs.ScriptLog.{IsKept}
use Rattle.ppp_mark.specs.Scripts.{said_in}
use Rattle.ppp_bundle.specs.Replay.{IpOpening, Replay, local_in, opening_of, remote_in}
use Rattle.ppp_bundle.specs.Sound.{Agrees}
use Rattle.ppp_bundle.specs.State.{UnitState}

abbrev ip_opening : ℕ → ℕ → ℕ → IpOpening
ip_opening local remote n = record { number = n; local = local; remote = remote }

opening_by : (o : Option Opening) (n : Option ℕ) (local remote : ℕ) → opening_number o ≡ n → IfSome o (λ x. address_number x.args.local ≡ local)
    → IfSome o (λ x. address_number x.args.remote ≡ remote) → option_map opening_of o ≡ option_map (ip_opening local remote) n
opening_by None n local remote e l r = rw (← e) refl
opening_by (Some o) n local remote e l r = rw (← e, l, r) refl

pub replay_of : {S : Type 0} (u : UnitState S) → Agrees u → IsKept u.scripts.machine u.scripts.log → Replay u u.scripts.log.past
replay_of u agrees kept = record {
  bundle = agrees.bundle;
  members = agrees.stays;
  opening = opening_by u.scripts.machine.facts.now_open (open_in (said_in u.scripts.log.past)) (local_in u.scripts.log.past) (remote_in u.scripts.log.past) kept.stands.keeps.now_open agrees.says.local agrees.says.remote;
  greatest = agrees.says.openings;
  last = kept.stands.keeps.last;
  starts = kept.stands.keeps.starts;
  ends = kept.stands.keeps.ends;
  since = agrees.since;
}
