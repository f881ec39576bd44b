-- What the marks of a unit's log say of it, read back from the newest: each is a count, a last or a first. The numbers so far are those of marks that
-- stood before these: 0 where there were none.
use Rattle.std.specs.Prelude.{ℕ, ◌+◌, ◌==◌, ◌≡◌, ◌&&◌, Option, None, Some, IfSome, option_map, List, [], ◌∷◌, length, if◌then◌else◌}
use Rattle.ppp_hooks.specs.declared.facts.Opening.{Opening}
use Rattle.ppp_hooks.specs.HookFacts.{start_key}
use Rattle.ppp_hooks.specs.HookPast.{ends_in, last_in, open_in, starts_in}
use Rattle.ppp_mark.specs.declared.mark.Mark.{Mark}
use Rattle.ppp_mark.specs.declared.kind.TheConstants.{MADE, UNMADE, IN, OUT, IP_OPEN, LOCAL, REMOTE}
use Rattle.ppp_mark.specs.Marks.{address_number}
use Rattle.ppp_mark.specs.ScriptLog.{ScriptLogState}
use Rattle.ppp_mark.specs.Scripts.{said_in}
use Rattle.ppp_unit_parts.specs.Member.{stay_of}
use Rattle.ppp_bundle.specs.State.{UnitState, members_of}

-- how many bundles were made
abbrev pub bundles_in : (so_far : ℕ) → List Mark → ℕ
bundles_in so_far [] = so_far
bundles_in so_far (m ∷ past) = if m.kind == MADE then bundles_in so_far past + 1 else bundles_in so_far past

-- how many times IP was opened
abbrev pub openings_in : (so_far : ℕ) → List Mark → ℕ
openings_in so_far [] = so_far
openings_in so_far (m ∷ past) = if m.kind == IP_OPEN then openings_in so_far past + 1 else openings_in so_far past

-- the number of the bundle that lives: the last that was made, unless it was unmade
abbrev pub bundle_in : List Mark → Option ℕ
bundle_in [] = None
bundle_in (m ∷ past) = if m.kind == MADE then Some m.z else if m.kind == UNMADE then None else bundle_in past

-- the stay of a link where it is a member: it came in and hasn't gone out
abbrev pub stay_in : (link : ℕ) → List Mark → Option ℕ
stay_in link [] = None
stay_in link (m ∷ past) = if m.kind == IN && m.x == link then Some m.z else if m.kind == OUT && m.x == link then None else stay_in link past

-- the last address of ours, and of the peer's
abbrev pub local_in : List Mark → ℕ
local_in [] = 0
local_in (m ∷ past) = if m.kind == LOCAL then m.z else local_in past

abbrev pub remote_in : List Mark → ℕ
remote_in [] = 0
remote_in (m ∷ past) = if m.kind == REMOTE then m.z else remote_in past

-- an opening: its number and its two addresses
pub record IpOpening : Type 0 where
  pub number : ℕ
  pub local : ℕ
  pub remote : ℕ

-- the opening that is open
abbrev pub opening_in : List Mark → Option IpOpening
opening_in past = option_map (λ n. record { number = n; local = local_in past; remote = remote_in past }) (open_in (said_in past))

-- how many marks there are since the last bundle was made, its own counted with them
abbrev pub since_made : List Mark → ℕ
since_made [] = 0
since_made (m ∷ past) = if m.kind == MADE then 1 else since_made past + 1

-- What a unit keeps of the opening that is open.
abbrev pub opening_of : Opening → IpOpening
opening_of o = record { number = o.number; local = address_number o.args.local; remote = address_number o.args.remote }

-- The log says the addresses of the opening that is open, and how many openings there were.
pub record LogSays {S : Type 0} (s : ScriptLogState S) : Type 0 where
  pub local : IfSome s.machine.facts.now_open (λ o. address_number o.args.local ≡ local_in s.log.past)
  pub remote : IfSome s.machine.facts.now_open (λ o. address_number o.args.remote ≡ remote_in s.log.past)
  pub openings : s.machine.facts.greatest ≡ openings_in 0 s.log.past

-- what a log says of bundles and members stays
pub record SaysSame (old new : List Mark) : Type 0 where
  pub bundle : bundle_in new ≡ bundle_in old
  pub stays : (link : ℕ) → stay_in link new ≡ stay_in link old

-- What a unit keeps is what its log says: the bundle that lives, its members with their stays, the opening that is open, the scripts, and the marks since
-- the bundle was made.
pub record Replay {S : Type 0} (u : UnitState S) (past : List Mark) : Type 0 where
  pub bundle : option_map (λ l. l.number) u.live ≡ bundle_in past
  pub members : (link : ℕ) → stay_of link (members_of u.live) ≡ stay_in link past
  pub opening : option_map opening_of u.scripts.machine.facts.now_open ≡ opening_in past
  pub greatest : u.scripts.machine.facts.greatest ≡ openings_in 0 past
  pub last : option_map start_key u.scripts.machine.facts.last ≡ last_in (said_in past)
  pub starts : u.scripts.machine.facts.starts ≡ starts_in (said_in past)
  pub ends : u.scripts.machine.facts.ends ≡ ends_in (said_in past)
  pub since : IfSome u.live (λ l. length past ≡ l.made_at + since_made past)
