-- Worked rows of a unit, as events with the marks that stand behind them.
use Rattle.std.specs.Prelude.{ℕ, ◌≤◌, true, false, Some, None, List, [], ◌∷◌}
use Rattle.ppp_base.specs.declared.allow.Allow.TheVariants.{Any}
use Rattle.ppp_base.specs.declared.hook_target.HookTarget.TheVariants.{Unit as OfUnit}
use Rattle.ppp_base.specs.declared.protocol.TheConstants.{IPCP, MULTILINK}
use Rattle.ppp_fsm.specs.declared.fsm.Limits.{Limits}
use Rattle.ppp_hooks.specs.HookFacts.{no_facts}
use Rattle.ppp_mark.specs.declared.mark.Mark.{Mark}
use Rattle.ppp_mark.specs.Log.{marks_of, no_marks}
use Rattle.ppp_mark.specs.Marks.{in_mark, ip_open_mark, local_mark, made_mark, remote_mark, started_mark}
use Rattle.ppp_mp.specs.StandsFor.{GatherNow}
use Rattle.ppp_outside.specs.declared.spawner.ScriptEnd.TheVariants.{Exit}
use Rattle.ppp_secrets.specs.declared.secrets.SecretsPair.{SecretsPair}
use Rattle.ppp_bundle.specs.declared.event.BundleEvent.{BundleEvent}
use Rattle.ppp_bundle.specs.declared.event.BundleEvent.TheVariants.{Make, In, Frame, HookOver}
use Rattle.ppp_unit_parts.specs.declared.outbox.Sending.{Sending}
use Rattle.ppp_unit_parts.specs.declared.wish.UnitWish.{UnitWish}
use Rattle.ppp_bundle.specs.State.{UnitState}
use Rattle.ppp_bundle.specs.UnitPart.{after_step}

-- a spawner of which nothing is known
pub data Silent : Type 0 where
  silent : Silent

abbrev pub no_secrets : SecretsPair
no_secrets = record { pap = []; chap = [] }

-- 10.0.0.n
abbrev pub ten : ℕ → List ℕ
ten n = 10 ∷ 0 ∷ 0 ∷ n ∷ []

-- what a wish's type asks of its numbers here
abbrev pub Lawful : Type 0
Lawful = (1 ≤ 3) × (1 ≤ 10)

-- We are 10.0.0.1 and the peer is 10.0.0.2.
abbrev pub wish : Lawful → Limits → (idle maxconnect : ℕ) → UnitWish
wish lawful limits idle maxconnect = record {
  ip = record {
    local = ten 1;
    remote = Some (ten 2);
    accept_local = false;
    accept_remote = false;
    restart_s = 3;
    limits = limits;
    max_failure = 10;
  };
  idle_s = idle;
  maxconnect_s = maxconnect;
  device = [];
  param = [];
  restart = lawful.0;
  max_failure = lawful.1;
}

-- a unit without a bundle
abbrev pub fresh : GatherNow → UnitState Silent
fresh gather = record {
  unit = 0;
  time = 0;
  scripts = record { machine = record { target = OfUnit 0; facts = no_facts; spawner = Some silent }; log = no_marks 4096 };
  bundles = 0;
  live = None;
  gather = gather;
  sent = [];
  given = [];
  ended = None;
  counts = record { not_open = 0; stranger = 0; too_big = 0; bad_inner = 0 };
}

-- An event of a plain bundle, before which all that waited was taken.
abbrev pub next : BundleEvent Silent → UnitState Silent → UnitState Silent
next event u = after_step no_secrets event (record { gather = u.gather; packets = [] }) (record u { sent = []; given = [] })

abbrev pub all_of : List (BundleEvent Silent) → UnitState Silent → UnitState Silent
all_of [] u = u
all_of (event ∷ events) u = all_of events (next event u)

abbrev pub marks_in : UnitState Silent → List Mark
marks_in u = marks_of u.scripts.log

-- the code, the identifier, the length and the data of a packet of IPCP that link 1 brings
abbrev pub ipcp : List ℕ → BundleEvent Silent
ipcp octets = Frame 1 IPCP octets

abbrev pub address : ℕ → List ℕ
address n = 3 ∷ 6 ∷ ten n

-- A bundle is made, and link 1 comes in.
abbrev pub begins : Lawful → Limits → (idle maxconnect : ℕ) → List (BundleEvent Silent)
begins lawful limits idle maxconnect = Make 1 1 (wish lawful limits idle maxconnect) None Any ∷ In 1 1 1500 ∷ []

-- The peer asks for its address, which we acknowledge, and acknowledges ours.
abbrev pub negotiates : List (BundleEvent Silent)
negotiates = ipcp (1 ∷ 7 ∷ 0 ∷ 10 ∷ address 2) ∷ ipcp (2 ∷ 1 ∷ 0 ∷ 10 ∷ address 1) ∷ []

abbrev pub at_open : (time : ℕ) → List Mark
at_open time = ip_open_mark time 1 ∷ started_mark time true 1 ∷ local_mark time (ten 1) ∷ remote_mark time (ten 2) ∷ []

abbrev pub first_marks : List Mark
first_marks = made_mark 0 1 1 ∷ in_mark 0 1 1 ∷ []

-- the script that was started first has run, and ended well
abbrev pub script_ends : ℕ → BundleEvent Silent
script_ends job = HookOver (record { target = OfUnit 0; number = job; not_started = 0; answer = Exit 0; spawner = silent })

-- The peer rejects the code of our request.
abbrev pub code_reject : BundleEvent Silent
code_reject = ipcp (7 ∷ 1 ∷ 0 ∷ 8 ∷ 1 ∷ 1 ∷ 0 ∷ 4 ∷ [])

-- The peer's Terminate-Request.
abbrev pub peer_ends : BundleEvent Silent
peer_ends = ipcp (5 ∷ 9 ∷ 0 ∷ 4 ∷ [])

-- A multilink bundle is made, and links 1 and 2 come in.
abbrev pub begins_with_two : Lawful → Limits → List (BundleEvent Silent)
begins_with_two lawful limits = Make 1 1 (wish lawful limits 0 0) (Some (record { ours = 1500; theirs = 1500 })) Any ∷ In 1 1 1500 ∷ In 2 1 1500 ∷ []

-- a piece to a link: B, E and the number's three octets, and what stands behind them
abbrev pub piece : (link marks number : ℕ) → List ℕ → Sending
piece link marks number octets = record { link = link; protocol = MULTILINK; information = marks ∷ 0 ∷ 0 ∷ number ∷ octets; rejected = false }
