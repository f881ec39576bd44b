-- What each piece of a step leaves of a unit: its scripts say whether IP is open, and its log has room.
use Rattle.std.proofs.Common.{◌≡◌, ℕ, ◌+◌, ◌≤◌, ◌^◌, Bool, true, false, Option, None, Some, List, [], ◌∷◌, length, refl, ap, sym, ◌∙◌, subst, arith}
use Rattle.std.specs.Prelude.{⊤, IfSome, is_some}
use Rattle.ppp_base.specs.declared.protocol.TheConstants.{IPCP}
use Rattle.ppp_base.specs.Mrru.{MrruPair}
use Rattle.ppp_control.specs.declared.negotiation.StepOut.{StepOut}
use Rattle.ppp_ipcp.specs.Object.{agreed_in}
use Rattle.ppp_mark.specs.Log.{room_of}
use Rattle.ppp_mark.specs.Marks.{close_mark}
use Rattle.ppp_mark.specs.ScriptLog.{ScriptLogState}
use Rattle.ppp_packet.specs.declared.packet.Packet.{Packet}
use Rattle.ppp_packet.specs.PacketOf.{laid_packet}
use Rattle.ppp_secrets.specs.declared.secrets.SecretsPair.{SecretsPair}
use Rattle.ppp_unit_parts.specs.declared.live.IpCall.{IpCall}
use Rattle.ppp_unit_parts.specs.declared.live.Live.{Live}
use Rattle.ppp_unit_parts.specs.declared.member.Member.{Member}
use Rattle.ppp_unit_parts.specs.declared.outbox.Ending.{Ending}
use Rattle.ppp_unit_parts.specs.Calls.{args_of, has_finished, live_left, live_tells, or_none}
use Rattle.ppp_unit_parts.specs.Live.{is_up}
use Rattle.ppp_unit_parts.specs.Member.{AreInOrder}
use Rattle.ppp_unit_parts.specs.Pieces.{left_by_sending}
use Rattle.ppp_unit_parts.proofs.MemberFacts.{count_all}
use Rattle.ppp_bundle.specs.Closing.{closed, closed_if, closed_of, outs, unmade}
use Rattle.ppp_bundle.specs.IpCalls.{called, called_of, finish_of, finished, followed, sends_all, turned, went_up_of}
use Rattle.ppp_bundle.specs.Replay.{since_made}
use Rattle.ppp_bundle.specs.ScriptParts.{marked, opened, shut}
use Rattle.ppp_bundle.specs.Sends.{sends, sends_of}
use Rattle.ppp_bundle.specs.Sound.{Adds, owed}
use Rattle.ppp_bundle.specs.State.{UnitState, is_open, members_of}
use Rattle.ppp_bundle.proofs.SoundFacts.{at_some, by_none, owed_most}
use Rattle.ppp_table_facts.proofs.Scripts.{Says, adds_both, adds_most, close_adds, close_says, opened_adds, opened_says, outs_add, outs_say, shut_adds, shut_says, unmade_adds, unmade_says}

-- While a bundle lives its log has so much room, and while none does it has what its scripts still owe. By the log IP is open or not.
pub record Stays {S : Type 0} (room : ℕ) (up : Bool) (u : UnitState S) : Type 0 where
  pub says : Says u.unit up u.scripts
  pub order : AreInOrder 0 (members_of u.live)
  pub since : IfSome u.live (λ l. length u.scripts.log.past ≡ l.made_at + since_made u.scripts.log.past)
  pub limit : IfSome u.live (λ l. l.made_at + 1024 ≤ u.scripts.log.limit)
  pub spare : IfSome u.live (λ l. room ≤ room_of u.scripts.log)
  pub owes : u.live ≡ None → owed u.scripts.machine.facts + 2 ≤ room_of u.scripts.log
  pub time : u.time ≤ 2 ^ 56

-- as IPCP is in Opened or not
abbrev pub At : {S : Type 0} → ℕ → UnitState S → Type 0
At room u = Stays room (is_open u.live) u

-- A bundle with the same members, made at the same place of the log.
abbrev pub SameLive : (old new : Option Live) → Type 0
SameLive None None = ⊤
SameLive None (Some l) = ⊥
SameLive (Some k) None = ⊥
SameLive (Some k) (Some l) = (l.members ≡ k.members) × (l.made_at ≡ k.made_at)

pub same_live : (o : Option Live) → SameLive o o
same_live None = tt
same_live (Some l) = (refl, refl)

if_same : (P : ℕ → Type 0) (o p : Option Live) → SameLive o p → IfSome o (λ l. P l.made_at) → IfSome p (λ l. P l.made_at)
if_same P None None s h = tt
if_same P None (Some l) s h = absurd s
if_same P (Some k) None s h = tt
if_same P (Some k) (Some l) s h = subst P (sym s.1) h

order_same : (o p : Option Live) → SameLive o p → AreInOrder 0 (members_of o) → AreInOrder 0 (members_of p)
order_same None None s h = h
order_same None (Some l) s h = absurd s
order_same (Some k) None s h = absurd s
order_same (Some k) (Some l) s h = subst (λ (ms : List Member). AreInOrder 0 ms) (sym s.0) h

none_same : (o p : Option Live) → SameLive o p → p ≡ None → o ≡ None
none_same None p s e = refl
none_same (Some k) None s e = absurd s
none_same (Some k) (Some l) s e = absurd (let f : Some l ≡ None = e in cc)

-- the same log, unit and time
pub again : {S : Type 0} (room : ℕ) (up : Bool) (u v : UnitState S) → v.scripts ≡ u.scripts → v.unit ≡ u.unit → v.time ≡ u.time → SameLive u.live v.live → Stays room up u → Stays room up v
again {S = S} room up u v scripts unit time live h = record {
  says = rw (scripts, unit) h.says;
  order = order_same u.live v.live live h.order;
  since = rw scripts (if_same (λ (n : ℕ). length u.scripts.log.past ≡ n + since_made u.scripts.log.past) u.live v.live live h.since);
  limit = rw scripts (if_same (λ (n : ℕ). n + 1024 ≤ u.scripts.log.limit) u.live v.live live h.limit);
  spare = rw scripts (if_same (λ (n : ℕ). room ≤ room_of u.scripts.log) u.live v.live live h.spare);
  owes = λ e. rw scripts (h.owes (none_same u.live v.live live e));
  time = rw time h.time;
}

pub less_room : {S : Type 0} (a b : ℕ) (up : Bool) (u : UnitState S) → b ≤ a → Stays a up u → Stays b up u
less_room a b up u le h = record {
  says = h.says;
  order = h.order;
  since = h.since;
  limit = h.limit;
  spare = less u.live h.spare;
  owes = h.owes;
  time = h.time;
}
  where
    less : (o : Option Live) → IfSome o (λ l. a ≤ room_of u.scripts.log) → IfSome o (λ l. b ≤ room_of u.scripts.log)
    less None s = tt
    less (Some l) s = omega (arith, s, le)

-- marks were added while a bundle lives on
pub longer : {S : Type 0} (more room : ℕ) (was is : Bool) (u : UnitState S) (l k : Live) (s : ScriptLogState S) → u.live ≡ Some l → Adds more u.scripts s → Says u.unit is s
    → AreInOrder 0 k.members → k.made_at ≡ l.made_at → Stays (room + more) was u → Stays room is (record u { scripts = s; live = Some k })
longer more room was is u l k s e adds says order place h =
    let since : length u.scripts.log.past ≡ l.made_at + since_made u.scripts.log.past = at_some u.live l _ e h.since in
    let limit : l.made_at + 1024 ≤ u.scripts.log.limit = at_some u.live l _ e h.limit in
    let spare : room + more ≤ room_of u.scripts.log = at_some u.live l _ e h.spare in
    let few : length s.log.past ≤ length u.scripts.log.past + more = adds.few in
    let same : s.log.limit ≡ u.scripts.log.limit = adds.limit in
    let since_then : since_made s.log.past + length u.scripts.log.past ≡ since_made u.scripts.log.past + length s.log.past = adds.since in
    record {
      says = says;
      order = order;
      since = omega (arith, since, since_then, place);
      limit = omega (arith, limit, same, place);
      spare = omega (arith, spare, few, same);
      owes = λ f. absurd (let g : Some k ≡ None = f in cc);
      time = h.time;
    }

-- A BUNDLE IS CLOSED

pub unmade_says_so : {S : Type 0} (unit time : ℕ) (up : Bool) (l : Live) (s : ScriptLogState S) → Says unit up s → Says unit false (unmade l time s)
unmade_says_so unit time up l s h =
    unmade_says unit false (outs time l.members (shut time s)) time l.number (outs_say unit false time l.members (shut time s) (shut_says unit time up s h))

pub unmade_adds_so : {S : Type 0} (unit time : ℕ) (up : Bool) (l : Live) (s : ScriptLogState S) → AreInOrder 0 l.members → Says unit up s → Adds 19 s (unmade l time s)
unmade_adds_so {S = S} unit time up l s order h =
    let a : ScriptLogState S = shut time s in
    let b : ScriptLogState S = outs time l.members a in
    let few : length l.members ≤ 16 = count_all l.members order in
    adds_most (2 + length l.members + 1) 19 s (unmade l time s)
    (adds_both (2 + length l.members) 1 s b (unmade l time s) (adds_both 2 (length l.members) s a b (shut_adds unit time s h.target) (outs_add time l.members a)) (unmade_adds b time l.number)) (omega (arith, few))

-- it lives no more, and what is owed has room
pub gone : {S : Type 0} (more room any : ℕ) (up : Bool) (u v : UnitState S) (l : Live) → u.live ≡ Some l → Adds more u.scripts v.scripts → Says v.unit false v.scripts → v.live ≡ None → v.time ≡ u.time → more + 6 ≤ room
    → Stays room up u → Stays any false v
gone more room any up u v l e adds says none time enough h =
    let spare : room ≤ room_of u.scripts.log = at_some u.live l _ e h.spare in
    let few : length v.scripts.log.past ≤ length u.scripts.log.past + more = adds.few in
    let same : v.scripts.log.limit ≡ u.scripts.log.limit = adds.limit in
    let most : owed v.scripts.machine.facts ≤ 4 = owed_most v.scripts.machine.facts in
    record {
      says = says;
      order = rw none tt;
      since = by_none v.live _ none;
      limit = by_none v.live _ none;
      spare = by_none v.live _ none;
      owes = λ f. omega (arith, spare, few, same, most, enough);
      time = rw time h.time;
    }

-- where no bundle lives nothing changes
pub still : {S : Type 0} (room any : ℕ) (up : Bool) (u : UnitState S) → u.live ≡ None → Stays room up u → Stays any up u
still room any up u e h = record { says = h.says; order = h.order; since = h.since; limit = h.limit; spare = by_none u.live _ e; owes = h.owes; time = h.time }

closed_by : {S : Type 0} (o : Option Live) (room any : ℕ) (e : Ending) (u : UnitState S) → u.live ≡ o → 26 ≤ room → At room u → At any (closed_of o e u)
closed_by None room any e u live enough h = still room any (is_open u.live) u live h
closed_by {S = S} (Some l) room any e u live enough h =
    let s : ScriptLogState S = marked (close_mark u.time e.cause e.elapsed_ms) u.scripts in
    let order : AreInOrder 0 l.members = subst (λ (o : Option Live). AreInOrder 0 (members_of o)) live h.order in
    let says : Says u.unit (is_open u.live) s = close_says u.unit (is_open u.live) u.scripts u.time e.cause e.elapsed_ms h.says in
    gone 20 room any (is_open u.live) u (closed_of (Some l) e u) l live
    (adds_both 1 19 u.scripts s (unmade l u.time s) (close_adds u.scripts u.time e.cause e.elapsed_ms) (unmade_adds_so u.unit u.time (is_open u.live) l s order says))
    (unmade_says_so u.unit u.time (is_open u.live) l s says) refl refl (omega (arith, enough)) h

pub closed_at : {S : Type 0} (room any : ℕ) (e : Ending) (u : UnitState S) → 26 ≤ room → At room u → At any (closed e u)
closed_at room any e u enough h = closed_by u.live room any e u refl enough h

pub closed_if_at : {S : Type 0} (room : ℕ) (e : Option Ending) (u : UnitState S) → 26 ≤ room → At room u → At room (closed_if e u)
closed_if_at room None u enough h = h
closed_if_at room (Some e) u enough h = closed_at room room e u enough h

-- IPCP IS CALLED

sending_same : (l : Live) (m : Option MrruPair) (protocol : ℕ) (information : List ℕ) → SameLive (Some l) (Some (left_by_sending l m protocol information))
sending_same l None protocol information = (refl, refl)
sending_same l (Some m) protocol information = (refl, refl)

sending_up : (l : Live) (m : Option MrruPair) (protocol : ℕ) (information : List ℕ) → is_up (left_by_sending l m protocol information) ≡ is_up l
sending_up l None protocol information = refl
sending_up l (Some m) protocol information = refl

is_same : (o p : Option Live) → p ≡ o → SameLive p o
is_same o p e = subst (λ (x : Option Live). SameLive p x) e (same_live p)

pub sends_stay : {S : Type 0} (o : Option Live) (room : ℕ) (up : Bool) (protocol : ℕ) (information : List ℕ) (u : UnitState S) → u.live ≡ o → Stays room up u → Stays room up (sends_of o protocol information u)
sends_stay None room up protocol information u e h = h
sends_stay (Some l) room up protocol information u e h =
    again room up u (sends_of (Some l) protocol information u) refl refl refl
    (subst (λ (x : Option Live). SameLive x (Some (left_by_sending l l.mrru protocol information))) (sym e) (sending_same l l.mrru protocol information)) h

pub sends_open : {S : Type 0} (o : Option Live) (protocol : ℕ) (information : List ℕ) (u : UnitState S) → u.live ≡ o → is_open (sends_of o protocol information u).live ≡ is_open o
sends_open None protocol information u e = ap is_open e
sends_open (Some l) protocol information u e = sending_up l l.mrru protocol information

all_stay : {S : Type 0} (room : ℕ) (up : Bool) (packets : List Packet) (u : UnitState S) → Stays room up u → Stays room up (sends_all packets u)
all_stay room up [] u h = h
all_stay room up (p ∷ packets) u h = all_stay room up packets (sends IPCP (laid_packet p) u) (sends_stay u.live room up IPCP (laid_packet p) u refl h)

all_open : {S : Type 0} (packets : List Packet) (u : UnitState S) → is_open (sends_all packets u).live ≡ is_open u.live
all_open [] u = refl
all_open (p ∷ packets) u = all_open packets (sends IPCP (laid_packet p) u) ∙ sends_open u.live IPCP (laid_packet p) u refl

up_by : {S : Type 0} (o : Option Live) (room : ℕ) (u : UnitState S) → u.live ≡ o → is_open u.live ≡ true → Stays (room + 4) false u → At room (went_up_of o u)
up_by None room u live up h = absurd (let f : false ≡ true = sym (ap is_open live) ∙ up in cc)
up_by {S = S} (Some l) room u live up h =
    let args : _ = args_of u.unit (or_none (agreed_in l.ipcp)) l in
    let order : AreInOrder 0 l.members = subst (λ (o : Option Live). AreInOrder 0 (members_of o)) live h.order in
    let k : Live = record l { was_open = true; opened_at = u.time; passed_at = u.time } in
    let is : is_up l ≡ true = sym (ap is_open live) ∙ up in
    subst (λ (b : Bool). Stays room b (went_up_of (Some l) u)) (sym is)
    (longer 4 room false true u l k (opened args u.time u.scripts) live (opened_adds u.unit u.time args u.scripts h.says.target) (opened_says u.unit u.time args u.scripts h.says) order refl h)

shut_by : {S : Type 0} (o : Option Live) (room : ℕ) (u : UnitState S) → u.live ≡ o → is_some o ≡ true → Stays (room + 4) true u → Stays room false (record u { scripts = shut u.time u.scripts })
shut_by None room u live some h = absurd (let f : false ≡ true = some in cc)
shut_by {S = S} (Some l) room u live some h =
    let order : AreInOrder 0 l.members = subst (λ (o : Option Live). AreInOrder 0 (members_of o)) live h.order in
    subst (λ (o : Option Live). Stays room false (record u { scripts = shut u.time u.scripts; live = o })) (sym live)
    (longer 2 room true false u l l (shut u.time u.scripts) live (shut_adds u.unit u.time u.scripts h.says.target) (shut_says u.unit u.time true u.scripts h.says) order refl (less_room (room + 4) (room + 2) true u (omega arith) h))

turned_by : {S : Type 0} (was is : Bool) (room : ℕ) (u : UnitState S) → is_some u.live ≡ true → is_open u.live ≡ is → Stays (room + 4) was u → At room (turned was is u)
turned_by false false room u some up h = rw up (less_room (room + 4) room false u (omega arith) h)
turned_by true true room u some up h = rw up (less_room (room + 4) room true u (omega arith) h)
turned_by true false room u some up h = rw up (shut_by u.live room u refl some h)
turned_by false true room u some up h = up_by u.live room u refl up h

finished_at : {S : Type 0} (has by_peer : Bool) (room : ℕ) (u : UnitState S) → 26 ≤ room → At room u → At room (finished has by_peer u)
finished_at true by_peer room u enough h = closed_at room room (finish_of by_peer) u enough h
finished_at false by_peer room u enough h = h

sends_some : {S : Type 0} (o : Option Live) (protocol : ℕ) (information : List ℕ) (u : UnitState S) → u.live ≡ o → is_some o ≡ true → is_some (sends_of o protocol information u).live ≡ true
sends_some None protocol information u e some = absurd (let f : false ≡ true = some in cc)
sends_some (Some l) protocol information u e some = refl

all_some : {S : Type 0} (packets : List Packet) (u : UnitState S) → is_some u.live ≡ true → is_some (sends_all packets u).live ≡ true
all_some [] u some = some
all_some (p ∷ packets) u some = all_some packets (sends IPCP (laid_packet p) u) (sends_some u.live IPCP (laid_packet p) u refl some)

followed_at : {S : Type 0} (was : Bool) (l : Live) (out : StepOut) (room : ℕ) (u : UnitState S) → 26 ≤ room → Stays (room + 4) was (record u { live = Some l }) → At room (followed was l out u)
followed_at {S = S} was l out room u enough h =
    let v : UnitState S = record u { live = Some l } in
    let w : UnitState S = sends_all out.packets v in
    let x : UnitState S = turned was (is_up l) w in
    finished_at (has_finished out.acts) l.by_peer room x enough
    (turned_by was (is_up l) room w (all_some out.packets v refl) (all_open out.packets v) (all_stay (room + 4) was out.packets v h))

call_by : {S : Type 0} (o : Option Live) (secrets : SecretsPair) (call : IpCall) (room : ℕ) (u : UnitState S) → u.live ≡ o → 26 ≤ room → At (room + 4) u → At room (called_of o secrets call u)
call_by None secrets call room u live enough h = less_room (room + 4) room (is_open u.live) u (omega arith) h
call_by {S = S} (Some l) secrets call room u live enough h =
    let k : Live = live_left secrets u.time call l in
    followed_at (is_up l) k (live_tells secrets u.time call l) room u enough
    (subst (λ (b : Bool). Stays (room + 4) b (record u { live = Some k })) (ap is_open live)
    (again (room + 4) (is_open u.live) u (record u { live = Some k }) refl refl refl (subst (λ (x : Option Live). SameLive x (Some k)) (sym live) (refl, refl)) h))

pub called_at : {S : Type 0} (secrets : SecretsPair) (call : IpCall) (room : ℕ) (u : UnitState S) → 26 ≤ room → At (room + 4) u → At room (called secrets call u)
called_at secrets call room u enough h = call_by u.live secrets call room u refl enough h
