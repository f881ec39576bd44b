use Rattle.std.specs.Prelude.{if◌then◌else◌}
use Rattle.std.proofs.Common.{◌≡◌, ℕ, None, List, drop}
use Rattle.ppp_mark.specs.ScriptLog.{ScriptLogState}
use Rattle.ppp_unit_parts.specs.declared.member.Member.{Member}
use Rattle.ppp_bundle.specs.Closing.{outs}
use Rattle.ppp_unit_parts.specs.Member.{has_link}
use Rattle.ppp_bundle.specs.Replay.{LogSays, bundle_in, stay_in}
use Rattle.ppp_bundle.specs.Sound.{Moves, is_open_in}
use Rattle.ppp_bundle.proofs.scripts.put_outs.Given as goal

pub record Going {S : Type 0} (time index : ℕ) (members : List Member) (old now : ScriptLogState S) : Type 0 where
  pub rest : outs time (drop index members) now ≡ outs time members old
  pub is_open : is_open_in now ≡ is_open_in old
  pub moves : Moves index old now
  pub says : LogSays now
  pub bundle : bundle_in now.log.past ≡ bundle_in old.log.past
  pub stays : (link : ℕ) → (if has_link link (drop index members) then None else stay_in link now.log.past) ≡ (if has_link link members then None else stay_in link old.log.past)

abbrev pub invariant-going : goal.invariant-going
invariant-going g l = Going l.time l.member-index l.members l.fn.scripts l.scripts
