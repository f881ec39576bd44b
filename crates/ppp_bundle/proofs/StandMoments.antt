-- Each piece of a step leaves the marks of its unit where they may stand.
use Rattle.std.proofs.Common.{◌≡◌, ℕ, ◌+◌, ◌<◌, ◌≤◌, Bool, true, false, Option, None, Some, List, [], ◌∷◌, ◌++◌, length, refl, ap, sym, subst, ◌∙◌, arith}
use Rattle.std.proofs.lemmas.Bool.Decides.{nat_tests}
use Rattle.std.specs.Prelude.{◌==◌, ◌||◌, nat_le, nat_lt, IfSome, if◌then◌else◌}
use Rattle.ppp_base.specs.declared.hook_target.HookTarget.TheVariants.{Unit as OfUnit}
use Rattle.ppp_base.specs.declared.protocol.TheConstants.{IP, IPCP, LCP}
use Rattle.ppp_base.specs.Mrru.{MrruPair}
use Rattle.ppp_hooks.specs.HookPast.{ends_in, last_in, open_in}
use Rattle.ppp_hooks.specs.HookRule.{due_for}
use Rattle.ppp_hooks.specs.HookState.{DoneState}
use Rattle.ppp_mark.specs.declared.mark.Mark.{Mark}
use Rattle.ppp_mark.specs.Marks.{close_mark, ended_mark, out_mark}
use Rattle.ppp_mark.specs.ScriptLog.{ScriptLogState}
use Rattle.ppp_mark.specs.Scripts.{said_in}
use Rattle.ppp_outside.specs.declared.hook_words.HookArgs.{HookArgs}
use Rattle.ppp_secrets.specs.declared.secrets.SecretsPair.{SecretsPair}
use Rattle.ppp_packet.specs.declared.packet.Packet.{Packet}
use Rattle.ppp_packet.specs.PacketOf.{packet_in}
use Rattle.ppp_unit_parts.specs.declared.live.IpCall.{IpCall}
use Rattle.ppp_unit_parts.specs.declared.live.IpCall.TheVariants.{Hears}
use Rattle.ppp_unit_parts.specs.declared.live.Live.{Live}
use Rattle.ppp_unit_parts.specs.declared.member.Member.{Member}
use Rattle.ppp_unit_parts.specs.declared.outbox.Ending.{Ending}
use Rattle.ppp_unit_parts.specs.declared.outbox.UnitCounts.{UnitCounts}
use Rattle.ppp_bundle.specs.Closing.{closed_if, closed_of, crowded_end, looked, outs, unmade}
use Rattle.ppp_bundle.specs.IpCalls.{called, finish_of, finished}
use Rattle.ppp_unit_parts.specs.Calls.{has_finished, live_left, live_tells}
use Rattle.ppp_bundle.specs.Frames.{Inner, bad_inner, brought, carried_by, gave, heard, inner_of, not_open, passed, rejected, too_big, used, used_all, used_inner, used_of, with_pass}
use Rattle.ppp_unit_parts.specs.Live.{most_of_ours, is_up, most_to_peer}
use Rattle.ppp_unit_parts.specs.Member.{AreInOrder, stay_of}
use Rattle.ppp_bundle.specs.MayStand.{IsKind, Kind, Stands, UnitStands, number_of}
use Rattle.ppp_bundle.specs.Sends.{sends, sends_of}
use Rattle.ppp_unit_parts.specs.Pieces.{left_by_sending, sent_as}
use Rattle.ppp_bundle.specs.UnitPart.{script_over}
use Rattle.ppp_bundle.specs.ScriptParts.{marked, shut}
use Rattle.ppp_bundle.specs.State.{UnitState, is_open, members_of}
use Rattle.ppp_bundle.proofs.CallMoments.{args_then, scripts_turned, target_turned}
use Rattle.ppp_bundle.proofs.CallFacts.{one_left}
use Rattle.ppp_bundle.proofs.MidMoments.{after_call, call_is}
use Rattle.ppp_bundle.proofs.StandFacts.{Shut, close_stands, due_stands, ended_stands, opened_stands, out_stands, shut_stands, unmade_stands}

pub same_number : (n : ℕ) → (n == n) ≡ true
same_number n = grind (arith, nat_tests)

others_out : {bundles : ℕ} (number : Option ℕ) (stays stays' : ℕ → Option ℕ) (closing : Bool) (past : List Mark) → ((x : ℕ) → stays x ≡ stays' x) → Shut bundles number stays closing past → Shut bundles number stays' closing past
others_out number stays stays' closing past e s = record {
  stands = record { all = s.stands.all; made_are = s.stands.made_are; bundle = s.stands.bundle; stays_are = λ x. s.stands.stays_are x ∙ e x; closing_is = s.stands.closing_is; openings = s.stands.openings };
  shut = s.shut;
}

-- a link below all members is none
none_below : (x low : ℕ) (members : List Member) → AreInOrder low members → x ≤ low → stay_of x members ≡ None
none_below x low [] order below = refl
none_below x low (m ∷ members) order below =
    let above : low < m.link = order.0 in
    let other : (m.link == x) ≡ false = grind (arith, nat_tests) in
    rw other (none_below x m.link members order.4 (omega (arith, above, below)))

first_out : (b : Bool) (stay : ℕ) (x link : ℕ) (rest : Option ℕ) → (link == x) ≡ b → (link ≡ x → rest ≡ None) → (if b then None else (if b then Some stay else rest)) ≡ rest
first_out true stay x link rest e none = sym (none (grind (arith, nat_tests)))
first_out false stay x link rest e none = refl

outs_stand : {S : Type 0} {bundles : ℕ} (number : Option ℕ) (members : List Member) (closing : Bool) (time low : ℕ) (s : ScriptLogState S) → AreInOrder low members
    → Shut bundles number (λ x. stay_of x members) closing s.log.past → Shut bundles number (λ x. None) closing (outs time members s).log.past
outs_stand number [] closing time low s order h = h
outs_stand number (m ∷ members) closing time low s order h =
    outs_stand number members closing time m.link (marked (out_mark time m.link m.stay) s) order.4
    (others_out number _ (λ x. stay_of x members) closing _
    (λ x. first_out (m.link == x) m.stay x m.link (stay_of x members) refl (λ same. none_below x m.link members order.4 (omega (arith, same))))
    (out_stands number (λ x. stay_of x (m ∷ members)) closing s.log.past time m.link m.stay h (ap (λ (b : Bool). if b then Some m.stay else stay_of m.link members) (same_number m.link))))

pub unmade_stand : {S : Type 0} {bundles : ℕ} (l : Live) (closing : Bool) (unit time : ℕ) (s : ScriptLogState S) → s.machine.target ≡ OfUnit unit → AreInOrder 0 l.members
    → Stands bundles (Some l.number) (λ x. stay_of x l.members) closing s.log.past → Stands bundles None (λ x. None) false (unmade l time s).log.past
unmade_stand l closing unit time s target order h =
    unmade_stands l.number (λ x. None) closing _ time
    (outs_stand (Some l.number) l.members closing time 0 (shut time s) order
    (shut_stands s.machine.target (open_in (said_in s.log.past)) unit (Some l.number) (λ x. stay_of x l.members) closing time s.log target refl h))
    (λ x. refl)

pub outs_target : {S : Type 0} (members : List Member) (time : ℕ) (s : ScriptLogState S) → (outs time members s).machine.target ≡ s.machine.target
outs_target [] time s = refl
outs_target (m ∷ members) time s = outs_target members time (marked (out_mark time m.link m.stay) s)

pub closed_stand : {S : Type 0} {m : Kind} (o : Option Live) (end : Ending) (u : UnitState S) → u.live ≡ o → UnitStands m u → UnitStands m (closed_of o end u)
closed_stand None end u e h = h
closed_stand {S = S} (Some l) end u e h =
    let s = marked (close_mark u.time end.cause end.elapsed_ms) u.scripts in
    let before : Stands u.bundles (Some l.number) (λ x. stay_of x l.members) false u.scripts.log.past = subst (λ (o : Option Live). Stands u.bundles (number_of o) (λ x. stay_of x (members_of o)) false u.scripts.log.past) e h.stands in
    record {
      stands = unmade_stand l true u.unit u.time s h.target (subst (λ (o : Option Live). AreInOrder 0 (members_of o)) e h.order)
          (close_stands l.number (λ x. stay_of x l.members) u.scripts.log.past u.time end.cause end.elapsed_ms before);
      order = tt;
      target = outs_target l.members u.time (shut u.time s) ∙ h.target;
      kind = tt;
      gather_is = h.gather_is;
    }

pub closed_if_stands : {S : Type 0} {m : Kind} (found : Option Ending) (u : UnitState S) → UnitStands m u → UnitStands m (closed_if found u)
closed_if_stands None u h = h
closed_if_stands (Some end) u h = closed_stand u.live end u refl h

finished_stands : {S : Type 0} {m : Kind} (has by : Bool) (u : UnitState S) → UnitStands m u → UnitStands m (finished has by u)
finished_stands false by u h = h
finished_stands true by u h = closed_stand u.live (finish_of by) u refl h

scripts_stand : {S : Type 0} {bundles : ℕ} (was is : Bool) (args : HookArgs) (unit time number : ℕ) (stays : ℕ → Option ℕ) (s : ScriptLogState S) → s.machine.target ≡ OfUnit unit → Stands bundles (Some number) stays false s.log.past
    → Stands bundles (Some number) stays false (scripts_turned was is args time s).log.past
scripts_stand false false args unit time number stays s target h = h
scripts_stand false true args unit time number stays s target h = opened_stands s.machine.target unit number stays time args s.log target h
scripts_stand true false args unit time number stays s target h =
    (shut_stands s.machine.target (open_in (said_in s.log.past)) unit (Some number) stays false time s.log target refl h).stands
scripts_stand true true args unit time number stays s target h = h

-- a call of IPCP
call_stands : {S : Type 0} {m : Kind} (secrets : SecretsPair) (call : IpCall) (l : Live) (u : UnitState S) → UnitStands m (record u { live = Some l }) → UnitStands m (called secrets call (record u { live = Some l }))
call_stands {S = S} {m = m} secrets call l u h =
    let l1 : Live = live_left secrets u.time call l in
    subst (λ (v : UnitState S). UnitStands m v) (sym (call_is secrets call l u))
    (finished_stands (has_finished (live_tells secrets u.time call l).acts) l1.by_peer (after_call secrets call l u)
    (record {
      stands = scripts_stand (is_up l) (is_up l1) (args_then u.unit l1) u.unit u.time l.number (λ x. stay_of x l.members) u.scripts h.target h.stands;
      order = h.order;
      target = target_turned (is_up l) (is_up l1) (args_then u.unit l1) u.time u.scripts ∙ h.target;
      kind = h.kind;
      gather_is = h.gather_is;
    }))

pub called_stands : {S : Type 0} {m : Kind} (secrets : SecretsPair) (call : IpCall) (o : Option Live) (u : UnitState S) → u.live ≡ o → UnitStands m u → UnitStands m (called secrets call u)
called_stands {S = S} {m = m} secrets call None u e h =
    let same : u ≡ record u { live = None } = ap (λ (x : Option Live). record u { live = x }) e in
    subst (λ (v : UnitState S). UnitStands m (called secrets call v)) (sym same) (subst (λ (v : UnitState S). UnitStands m v) same h)
called_stands {S = S} {m = m} secrets call (Some l) u e h =
    let same : u ≡ record u { live = Some l } = ap (λ (x : Option Live). record u { live = x }) e in
    subst (λ (v : UnitState S). UnitStands m (called secrets call v)) (sym same) (call_stands secrets call l u (subst (λ (v : UnitState S). UnitStands m v) same h))

-- EACH EVENT

-- what changes neither the log, how many bundles were made, the number, members and MRRU of the bundle, nor the machine
pub same_stands : {S : Type 0} {m : Kind} (old new : UnitState S) → UnitStands m old → number_of new.live ≡ number_of old.live → members_of new.live ≡ members_of old.live → new.scripts ≡ old.scripts → new.unit ≡ old.unit
    → new.bundles ≡ old.bundles → new.gather ≡ old.gather → IfSome new.live (IsKind m) → UnitStands m new
same_stands {S = S} old new h n ms s i b g k = record {
  stands = rw (n, ms, s, b) h.stands;
  order = rw ms h.order;
  target = rw (s, i) h.target;
  kind = k;
  gather_is = g ∙ h.gather_is;
}

pub either_stands : {S : Type 0} {m : Kind} (b : Bool) (x y : UnitState S) → UnitStands m x → UnitStands m y → UnitStands m (if b then x else y)
either_stands true x y h k = h
either_stands false x y h k = k

pass_stands : {S : Type 0} {m : Kind} (o : Option Live) (u : UnitState S) → u.live ≡ o → UnitStands m u → UnitStands m (record u { live = passed u.time o })
pass_stands None u e h = same_stands u (record u { live = None }) h (ap number_of (sym e)) (ap members_of (sym e)) refl refl refl refl tt
pass_stands {m = m} (Some l) u e h = same_stands u (record u { live = Some (record l { passed_at = u.time }) }) h (ap number_of (sym e)) (ap members_of (sym e)) refl refl refl refl
    (subst (λ (x : Option Live). IfSome x (IsKind m)) e h.kind)

send_stands : {S : Type 0} {m : Kind} (o : Option Live) (protocol : ℕ) (information : List ℕ) (u : UnitState S) → u.live ≡ o → UnitStands m u → UnitStands m (sends_of o protocol information u)
send_stands None protocol information u e h = h
send_stands {S = S} {m = m} (Some l) protocol information u e h =
    let l1 : Live = record l { pieces = (left_by_sending l l.mrru protocol information).pieces } in
    subst (λ (x : Live). UnitStands m (record u { sent = u.sent ++ sent_as l l.mrru protocol information; live = Some x })) (sym (one_left l.mrru l protocol information))
    (same_stands u (record u { sent = u.sent ++ sent_as l l.mrru protocol information; live = Some l1 }) h (ap number_of (sym e)) (ap members_of (sym e)) refl refl refl refl
    (subst (λ (x : Option Live). IfSome x (IsKind m)) e h.kind))

pub counted_stands : {S : Type 0} {m : Kind} (u : UnitState S) (counts : UnitCounts) → UnitStands m u → UnitStands m (record u { counts = counts })
counted_stands u counts h = same_stands u (record u { counts = counts }) h refl refl refl refl refl refl h.kind

pub gave_stands : {S : Type 0} {m : Kind} (datagram : List ℕ) (u : UnitState S) → UnitStands m u → UnitStands m (gave datagram u)
gave_stands {S = S} datagram u h =
    let v : UnitState S = record u { given = u.given ++ datagram ∷ [] } in
    either_stands (is_open u.live) (with_pass v) (not_open u) (pass_stands v.live v refl (same_stands u v h refl refl refl refl refl refl h.kind)) (counted_stands u (not_open u).counts h)

pub heard_stands : {S : Type 0} {m : Kind} (secrets : SecretsPair) (p : Option Packet) (u : UnitState S) → UnitStands m u → UnitStands m (heard secrets p u)
heard_stands secrets None u h = h
heard_stands secrets (Some p) u h = called_stands secrets (Hears p) u.live u refl h

pub brought_stands : {S : Type 0} {m : Kind} (secrets : SecretsPair) (protocol : ℕ) (information : List ℕ) (u : UnitState S) → UnitStands m u → UnitStands m (brought secrets protocol information u)
brought_stands secrets protocol information u h =
    either_stands (protocol == IPCP) (heard secrets (packet_in information) u) _ (heard_stands secrets (packet_in information) u h)
    (either_stands (protocol == IP) (gave information u) u (gave_stands information u h) h)

inner_stands : {S : Type 0} {m : Kind} (secrets : SecretsPair) (mrru : Option MrruPair) (i : Option Inner) (u : UnitState S) → UnitStands m u → UnitStands m (used_inner secrets mrru i u)
inner_stands secrets mrru None u h = counted_stands u (bad_inner u).counts h
inner_stands secrets mrru (Some i) u h =
    either_stands (nat_lt (most_of_ours mrru) (length i.information)) (too_big u) _ (counted_stands u (too_big u).counts h)
    (either_stands (i.protocol == IPCP || i.protocol == IP) _ _ (brought_stands secrets i.protocol i.information u h)
    (either_stands (i.protocol == LCP) u _ h (same_stands u (rejected i.protocol i.information u) h refl refl refl refl refl refl h.kind)))

used_stands : {S : Type 0} {m : Kind} (secrets : SecretsPair) (packet : List ℕ) (o : Option Live) (u : UnitState S) → UnitStands m u → UnitStands m (used_of o secrets packet u)
used_stands secrets packet None u h = counted_stands u (not_open u).counts h
used_stands secrets packet (Some l) u h = inner_stands secrets l.mrru (inner_of packet) u h

pub all_used_stand : {S : Type 0} {m : Kind} (secrets : SecretsPair) (packets : List (List ℕ)) (u : UnitState S) → UnitStands m u → UnitStands m (used_all secrets packets u)
all_used_stand secrets [] u h = h
all_used_stand {S = S} secrets (packet ∷ packets) u h =
    let v : UnitState S = used secrets packet u in
    all_used_stand secrets packets (looked v) (closed_if_stands (crowded_end v.scripts.log.past) v (used_stands secrets packet u.live u h))

pub carried_stands : {S : Type 0} {m : Kind} (datagram : List ℕ) (o : Option Live) (u : UnitState S) → u.live ≡ o → UnitStands m u → UnitStands m (if is_open o then carried_by o datagram u else not_open u)
carried_stands datagram None u e h = counted_stands u (not_open u).counts h
carried_stands {S = S} datagram (Some l) u e h =
    let v : UnitState S = sends IP datagram u in
    let k = send_stands u.live IP datagram u refl h in
    either_stands (is_up l) _ (not_open u)
    (either_stands (nat_le (length datagram) (most_to_peer l)) (with_pass v) (too_big u) (pass_stands v.live v refl k) (counted_stands u (too_big u).counts h))
    (counted_stands u (not_open u).counts h)

pub over_stands : {S : Type 0} {m : Kind} (done : DoneState S) (u : UnitState S) → UnitStands m u → UnitStands m (script_over done u)
over_stands done u h =
    let past = ended_mark u.time done.answer (ends_in (said_in u.scripts.log.past) + 1) ∷ u.scripts.log.past in
    record {
      stands = due_stands (number_of u.live) (λ x. stay_of x (members_of u.live)) false past _ (due_for (last_in (said_in past)) (open_in (said_in past))) u.time
          (ended_stands (number_of u.live) (λ x. stay_of x (members_of u.live)) false u.scripts.log.past u.time done.answer (ends_in (said_in u.scripts.log.past) + 1) h.stands);
      order = h.order;
      target = h.target;
      kind = h.kind;
      gather_is = h.gather_is;
    }
