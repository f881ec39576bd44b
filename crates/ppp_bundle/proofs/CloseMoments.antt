-- How a bundle's end follows from what has happened to it.
use Rattle.std.proofs.Common.{◌≡◌, ℕ, Bool, true, false, cond, Option, None, Some, List, [], ◌∷◌, ◌++◌, refl, ap, sym, subst, ◌∙◌}
use Rattle.std.specs.Prelude.{◌||◌}
use Rattle.std.specs.List.{list_any}
use Rattle.ppp_base.specs.declared.hook_target.HookTarget.{HookTarget}
use Rattle.ppp_base.specs.declared.hook_target.HookTarget.TheVariants.{Link, Unit as OfUnit}
use Rattle.ppp_hooks.specs.HookPast.{last_in, open_in}
use Rattle.ppp_hooks.specs.HookRule.{due_for, start_marks}
use Rattle.ppp_mark.specs.declared.mark.Mark.{Mark}
use Rattle.ppp_mark.specs.Log.{LogState}
use Rattle.ppp_mark.specs.Marks.{close_mark, ip_closed_mark, out_mark, started_mark, unmade_mark}
use Rattle.ppp_mark.specs.ScriptLog.{ScriptLogState, log_closed_at}
use Rattle.ppp_mark.specs.Scripts.{marks_at, said_in}
use Rattle.ppp_unit_parts.specs.declared.live.Live.{Live}
use Rattle.ppp_unit_parts.specs.declared.member.Member.{Member}
use Rattle.ppp_unit_parts.specs.declared.outbox.BundleEnd.{BundleEnd}
use Rattle.ppp_unit_parts.specs.declared.outbox.Ending.{Ending}
use Rattle.ppp_bundle.specs.Closing.{closed, closed_of, end_of, outs, unmade}
use Rattle.ppp_bundle.specs.History.{Moment, Terms, HasReason, asked_in}
use Rattle.ppp_bundle.specs.Lives.{Ends, Reached, is_made_or_close}
use Rattle.ppp_bundle.specs.Replay.{since_made}
use Rattle.ppp_bundle.specs.ScriptParts.{marked, shut}
use Rattle.ppp_bundle.specs.State.{UnitState}

-- Marks that stand behind others, of which none makes or closes a bundle.
pub record Behind (old new : List Mark) : Type 0 where
  pub some : List Mark
  pub is : new ≡ some ++ old
  pub quiet : list_any is_made_or_close some ≡ false

one_more : (m : Mark) (old new : List Mark) → Behind old new → is_made_or_close m ≡ false → Behind old (m ∷ new)
one_more m old new b e = record {
  some = m ∷ b.some;
  is = ap (λ (p : List Mark). m ∷ p) b.is;
  quiet = ap (λ (t : Bool). t || list_any is_made_or_close b.some) e ∙ b.quiet;
}

due_behind : (due : Bool) (start : Option (Bool × ℕ)) (time : ℕ) (old new : List Mark) → Behind old new → Behind old (marks_at time (cond due (start_marks start) []) ++ new)
due_behind true None time old new b = b
due_behind true (Some s) time old new b = one_more (started_mark time s.0 s.1) old new b refl
due_behind false start time old new b = b

shut_behind : (target : HookTarget) (n : Option ℕ) (unit time : ℕ) (log : LogState) (old : List Mark) → target ≡ OfUnit unit → Behind old log.past
    → Behind old (log_closed_at target time n log).past
shut_behind target None unit time log old e b = b
shut_behind (OfUnit u) (Some n) unit time log old e b =
    let past = ip_closed_mark time n ∷ log.past in
    due_behind _ (due_for (last_in (said_in past)) (open_in (said_in past))) time old past (one_more (ip_closed_mark time n) old log.past b refl)
shut_behind (Link l) (Some n) unit time log old e b = absurd (cc e)

outs_behind : {S : Type 0} (members : List Member) (time : ℕ) (s : ScriptLogState S) (old : List Mark) → Behind old s.log.past → Behind old (outs time members s).log.past
outs_behind [] time s old b = b
outs_behind (m ∷ members) time s old b =
    outs_behind members time (marked (out_mark time m.link m.stay) s) old (one_more (out_mark time m.link m.stay) old s.log.past b refl)

unmade_behind : {S : Type 0} (l : Live) (unit time : ℕ) (s : ScriptLogState S) → s.machine.target ≡ OfUnit unit → Behind s.log.past (unmade l time s).log.past
unmade_behind l unit time s e =
    one_more (unmade_mark time l.number) s.log.past _
    (outs_behind l.members time (shut time s) s.log.past
    (shut_behind s.machine.target (open_in (said_in s.log.past)) unit time s.log s.log.past e (record { some = []; is = refl; quiet = refl })))
    refl

-- A unit without a bundle, which was closed by this, with these packets left.
pub record Over {S : Type 0} (terms : Terms) (past : List Moment) (left : List (List ℕ)) (u : UnitState S) : Type 0 where
  pub end : BundleEnd
  pub live : u.live ≡ None
  pub ended : u.ended ≡ Some end
  pub ends : Ends terms past left u end

over_of : {S : Type 0} (terms : Terms) (past : List Moment) (left : List (List ℕ)) (u : UnitState S) (l : Live) (end : Ending)
    → u.scripts.machine.target ≡ OfUnit u.unit → Reached terms u.time u.gather l past left → asked_in terms past ≡ []
    → HasReason terms past (since_made u.scripts.log.past) end.cause end.elapsed_ms → Over terms past left (closed_of (Some l) end u)
over_of terms past left u l end target r done reason =
    let s = marked (close_mark u.time end.cause end.elapsed_ms) u.scripts in
    let b = unmade_behind l u.unit u.time s target in
    record {
      end = end_of end l;
      live = refl;
      ended = refl;
      ends = record {
        cause = end.cause;
        elapsed = end.elapsed_ms;
        ipcp = l.ipcp;
        before = u.scripts.log.past;
        behind = b.some;
        order = r.order;
        done = done;
        called = r.ipcp;
        gathers = r.gathers;
        place = b.is;
        last = b.quiet;
        reason = reason;
        told = ap (λ (ever : Bool). record (end_of end l) { live = ever }) r.was_open;
      };
    }

pub closed_over : {S : Type 0} (terms : Terms) (past : List Moment) (left : List (List ℕ)) (u : UnitState S) (l : Live) (end : Ending)
    → u.live ≡ Some l → u.scripts.machine.target ≡ OfUnit u.unit → Reached terms u.time u.gather l past left → asked_in terms past ≡ []
    → HasReason terms past (since_made u.scripts.log.past) end.cause end.elapsed_ms → Over terms past left (closed end u)
closed_over {S = S} terms past left u l end live target r done reason =
    subst (λ (v : UnitState S). Over terms past left v) (sym (ap (λ (o : Option Live). closed_of o end u) live)) (over_of terms past left u l end target r done reason)
