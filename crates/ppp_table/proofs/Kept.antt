-- What calls leave of the counts of calls.
use Rattle.std.proofs.Common.{◌≡◌, ◌<◌, ◌≤◌, ◌+◌, ◌↔◌, ℕ, zero, suc, Bool, true, false, Option, None, Some, IfSome, List, refl, ap, sym, subst, ◌∙◌, arith}
use Rattle.std.specs.Prelude.{if◌then◌else◌, nat_le, length, slice_get, ◌-◌}
use Rattle.ppp_base.specs.RingAfter.{one_more}
use Rattle.ppp_base.specs.Stepped.{IfStale, IsTaken, OnTaken}
use Rattle.ppp_base.specs.declared.allow.Allow.{Allow}
use Rattle.ppp_base.specs.declared.posts.UpPost.{UpPost}
use Rattle.ppp_base.specs.declared.posts.UpPost.TheVariants as up
use Rattle.ppp_base.specs.declared.stepped.Stepped.{Stepped}
use Rattle.ppp_base.specs.declared.stepped.Stepped.TheVariants.{Taken, Stale}
use Rattle.ppp_bundle.specs.declared.event.BundleEvent.{BundleEvent}
use Rattle.ppp_bundle.specs.declared.event.BundleEvent.TheVariants as unit_event
use Rattle.ppp_hooks.specs.HookState.{JobState}
use Rattle.ppp_table_parts.specs.Key.{Terms}
use Rattle.ppp_table.specs.Asking.{woken}
use Rattle.ppp_table.specs.Counts.{CountsAt, CountsKept}
use Rattle.ppp_table.specs.Jobs.{TakesJobOf}
use Rattle.ppp_table.specs.PostPart.{Enters, FramePart, GoesOut, JoinPart, MakesBy, PostPart, Posts, PostsOf, same_stay, terms_of}
use Rattle.ppp_table.specs.TablePart.{IsFreshAt, TablePart, TicksBelow, is_open_in}
use Rattle.ppp_table.specs.TableState.{TableState, stay_in}
use Rattle.ppp_table.specs.UnitStep.{UnitStep}
use Rattle.ppp_table.specs.Verdicts.{verdict}
use Rattle.ppp_table.specs.declared.event.TableEvent.{TableEvent}
use Rattle.ppp_table.specs.declared.event.TableEvent.TheVariants.{Packet, Tick, HookOver}
use Rattle.ppp_table.specs.declared.stays.Stay.{Stay}
use Rattle.ppp_table.specs.declared.verdict.Verdict.{Verdict}
use Rattle.ppp_table.specs.declared.verdict.Verdict.TheVariants.{Joins, Makes, Refuses}

same_counts : {S : Type 0} (old new : TableState S) → new.packets ≡ old.packets → new.taken ≡ old.taken → CountsKept old new
same_counts old new p t = record { packets = p; taken = t }

then_kept : {S : Type 0} (a b c : TableState S) → CountsKept a b → CountsKept b c → CountsKept a c
then_kept a b c f g = record { packets = g.packets ∙ f.packets; taken = g.taken ∙ f.taken }

is_kept : {S : Type 0} (old new : TableState S) → new ≡ old → CountsKept old new
is_kept old new e = record { packets = ap (λ t. t.packets) e; taken = ap (λ t. t.taken) e }

step_kept : {S : Type 0} (n : ℕ) (event : BundleEvent S) (old new : TableState S) → UnitStep n event old new → CountsKept old new
step_kept n event old new s = record { packets = ap (λ t. t.packets) s.after; taken = ap (λ t. t.taken) s.after }

pub job_kept : {S : Type 0} (unit : ℕ) (job : Option (JobState S)) (old new : TableState S) → TakesJobOf unit job old new → CountsKept old new
job_kept unit job old new j = record { packets = ap (λ t. t.packets) j.after; taken = ap (λ t. t.taken) j.after }

-- BY A POST

out_kept : {S : Type 0} (stay : Option Stay) (link : ℕ) (old new : TableState S) → GoesOut stay link old new → CountsKept old new
out_kept None link old new g = is_kept old new g
out_kept (Some s) link old new g = step_kept s.unit _ old new g

made_kept : {S : Type 0} (unit link : ℕ) (terms : Terms) (stay mru : ℕ) (allow : Allow) (old new : TableState S) → MakesBy unit link terms stay mru allow old new → CountsKept old new
made_kept unit link terms stay mru allow old new m =
    let first : _ = step_kept unit _ _ m.one.mid m.one.makes in
    let second : _ = step_kept unit _ m.one.mid new m.one.comes in
    record { packets = second.packets ∙ first.packets; taken = second.taken ∙ first.taken }

enters_kept : {S : Type 0} (v : Verdict) (link : ℕ) (terms : Terms) (stay mru : ℕ) (allow : Allow) (old new : TableState S) → Enters v link terms stay mru allow old new → CountsKept old new
enters_kept (Joins unit) link terms stay mru allow old new e = let k : _ = step_kept unit _ _ new e in record { packets = k.packets; taken = k.taken }
enters_kept (Makes unit) link terms stay mru allow old new e = made_kept unit link terms stay mru allow old new e
enters_kept (Refuses reason) link terms stay mru allow old new e = record { packets = ap (λ t. t.packets) e; taken = ap (λ t. t.taken) e }

frame_kept : {S : Type 0} (stay : Option Stay) (link protocol : ℕ) (information : List ℕ) (old new : TableState S) → FramePart stay link protocol information old new → CountsKept old new
frame_kept None link protocol information old new f = record { packets = ap (λ t. t.packets) f; taken = ap (λ t. t.taken) f }
frame_kept (Some s) link protocol information old new f = step_kept s.unit _ old new f

posts_kept : {S : Type 0} (link : ℕ) (p : UpPost) (old new : TableState S) → Posts link p old new → CountsKept old new
posts_kept link (up.Join j) old new f =
    then_kept old f.mid new (out_kept (stay_in link old) link old f.mid f.out) (enters_kept (verdict link (terms_of j) f.mid) link (terms_of j) j.stay j.mru j.allow f.mid new f.enters)
posts_kept link (up.Frame protocol information) old new f = frame_kept (stay_in link old) link protocol information old new f
posts_kept link (up.Leave stay) old new f = out_kept (same_stay stay (stay_in link old)) link old new f

by_there : {S : Type 0} (b : Bool) (link : ℕ) (p : UpPost) (old new : TableState S) → PostsOf b link p old new → CountsKept old new
by_there false link p old new f = is_kept old new f
by_there true link p old new f = posts_kept link p old new f

pub post_kept : {S : Type 0} (link : ℕ) (p : UpPost) (old new : TableState S) → PostPart link p old new → CountsKept old new
post_kept link p old new f = by_there (nat_le link (length old.links)) link p old new f

-- BY AN EVENT

ticks_kept : {S : Type 0} (count now : ℕ) (old new : TableState S) → (t : TicksBelow count now old new) → (n : ℕ) → n ≤ count → CountsKept old (t.states n)
ticks_kept count now old new t zero few = is_kept old (t.states 0) t.first
ticks_kept count now old new t (suc n) few =
    let next : suc n ≡ n + 1 = grind arith in
    let less : n < count = grind (arith, few) in
    rw next (then_kept old (t.states n) (t.states (n + 1)) (ticks_kept count now old new t n (grind (arith, few))) (step_kept n (unit_event.Tick now) (t.states n) (t.states (n + 1)) (t.each n less)))

packet_if : {S : Type 0} (b : Bool) (unit : ℕ) (old mid : TableState S) → CountsKept old mid → CountsKept old (if b then mid else woken unit mid)
packet_if true unit old mid k = k
packet_if false unit old mid k = record { packets = k.packets; taken = k.taken }

event_kept : {S : Type 0} (event : TableEvent S) (old new : TableState S) → TablePart event old new → CountsAt event old new
event_kept (Packet unit datagram) old new p =
    let k : _ = packet_if (is_open_in (slice_get old.units unit)) unit old p.mid (step_kept unit _ old p.mid p.step) in
    record { packets = ap (λ t. t.packets) p.after ∙ ap one_more k.packets; taken = ap (λ t. t.taken) p.after ∙ k.taken }
event_kept (Tick now) old new t = let k : _ = ticks_kept 16 now old new t 16 (grind arith) in record { packets = ap (λ u. u.packets) (sym t.last) ∙ k.packets; taken = ap (λ u. u.taken) (sym t.last) ∙ k.taken }
event_kept (HookOver unit done) old new s = let k : _ = step_kept unit _ old new s in record { packets = k.packets; taken = k.taken }

stale_kept : {S : Type 0} (event : TableEvent S) (old new : TableState S) → (IsFreshAt event old → ⊥) → new ≡ old → CountsAt event old new
stale_kept (Packet unit datagram) old new f e = absurd (f tt)
stale_kept (Tick now) old new f e = absurd (f tt)
stale_kept (HookOver unit done) old new f e = record { packets = ap (λ t. t.packets) e; taken = ap (λ t. t.taken) e }

pub step_counts : {S : Type 0} (r : Stepped (TableEvent S)) (event : TableEvent S) (old new : TableState S) → (IsTaken r ↔ IsFreshAt event old) → OnTaken r (TablePart event old new)
    → IfStale r (λ back. (back ≡ event) × (new ≡ old)) → CountsAt event old new
step_counts Taken event old new t p s = event_kept event old new p
step_counts (Stale e) event old new t p s = stale_kept event old new t.1 s.1
