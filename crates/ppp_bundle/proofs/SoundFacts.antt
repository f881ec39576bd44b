-- A unit stays sound from step to step.
use Rattle.std.proofs.Common.{◌≡◌, ℕ, ◌+◌, ◌<◌, ◌≤◌, Bool, true, false, cond, Option, None, Some, length, refl, ap, sym, ◌∙◌, subst, arith}
use Rattle.std.proofs.lemmas.Bool.Decides.{nat_tests}
use Rattle.std.specs.Prelude.{◌==◌, nat_le, is_some, IfSome}
use Rattle.ppp_hooks.specs.declared.facts.HookFacts.{HookFacts}
use Rattle.ppp_hooks.specs.declared.facts.Opening.{Opening}
use Rattle.ppp_hooks.specs.declared.facts.Start.{Start}
use Rattle.ppp_hooks.specs.HookFacts.{settled, with_end, with_start, start_due}
use Rattle.ppp_hooks.specs.HookState.{DoneState}
use Rattle.ppp_mark.specs.Log.{room_of}
use Rattle.ppp_mark.specs.ScriptLog.{ScriptLogState}
use Rattle.ppp_unit_parts.specs.declared.live.Live.{Live}
use Rattle.ppp_unit_parts.specs.declared.outbox.Ending.{Ending}
use Rattle.ppp_bundle.specs.Closing.{closed_if, crowded_end, looked}
use Rattle.ppp_bundle.specs.Replay.{since_made}
use Rattle.ppp_bundle.specs.Sound.{Adds, Agrees, Goes, IsGoing, IsSound, owed, owed_by}
use Rattle.ppp_bundle.specs.State.{UnitState, is_open}
use Rattle.ppp_bundle.specs.UnitPart.{script_over}

pub if_some : {T : Type 0} (o : Option T) (P : Type 0) → P → IfSome o (λ x. P)
if_some None P p = tt
if_some (Some x) P p = p

pub by_none : {T : Type 0} (o : Option T) (P : T → Type 0) → o ≡ None → IfSome o P
by_none None P e = tt
by_none (Some x) P e = absurd (let f : Some x ≡ None = e in cc)

none_some : {T : Type 0} (o : Option T) (x : T) → o ≡ Some x → o ≡ None → ⊥
none_some o x e f = absurd (let g : Some x ≡ None = sym e ∙ f in cc)

pub at_some : {T : Type 0} (o : Option T) (x : T) (P : T → Type 0) → o ≡ Some x → IfSome o P → P x
at_some {T = T} o x P e h = subst (λ (y : Option T). IfSome y P) e h

pub owed_most : (f : HookFacts) → owed f ≤ 4
owed_most f = most (f.ends == f.starts) f.last
  where
    most : (b : Bool) (last : Option Start) → cond b 0 (owed_by last) ≤ 4
    most true last = omega arith
    most false None = omega arith
    most false (Some s) = by_up s.up
      where
        by_up : (up : Bool) → cond up 4 2 ≤ 4
        by_up true = omega arith
        by_up false = omega arith

-- after a piece of a step
going_by : {S : Type 0} (o : Option Live) (most : ℕ) (old new : UnitState S) → old.live ≡ o → most ≤ 70 → IsSound old → Agrees new → Goes most old new → IsGoing new
going_by {S = S} None most old new e few sound agrees goes =
    let none = goes.none e in
    let same : new.scripts ≡ old.scripts = none.1 in
    record {
      agrees = agrees;
      left = by_none new.live _ none.0;
      owes = λ _. subst (λ (s : ScriptLogState S). owed s.machine.facts + 2 ≤ room_of s.log) (sym same) (sound.owes e);
    }
going_by (Some l) most old new e few sound agrees goes =
    let room : l.made_at + 1024 ≤ old.scripts.log.limit = at_some old.live l _ e sound.agrees.room in
    let count : since_made old.scripts.log.past < 900 = at_some old.live l _ e sound.few in
    let since : length old.scripts.log.past ≡ l.made_at + since_made old.scripts.log.past = at_some old.live l _ e sound.agrees.since in
    let moved : length new.scripts.log.past ≤ length old.scripts.log.past + most = goes.moves.few in
    let limit : new.scripts.log.limit ≡ old.scripts.log.limit = goes.moves.limit in
    record {
      agrees = agrees;
      left = if_some new.live _ (omega arith);
      owes = λ _. omega (arith, owed_most new.scripts.machine.facts);
    }

pub going : {S : Type 0} (most : ℕ) (old new : UnitState S) → most ≤ 70 → IsSound old → Agrees new → Goes most old new → IsGoing new
going most old new few sound agrees goes = going_by old.live most old new refl few sound agrees goes

-- after the marks were counted
look_by : {S : Type 0} (o : Option Live) (found : Option Ending) (old new : UnitState S) → old.live ≡ o → IfSome old.live (λ l. found ≡ crowded_end old.scripts.log.past)
    → (old.live ≡ None → found ≡ None) → new ≡ closed_if found old → new ≡ looked old
look_by {S = S} None found old new e lives none is =
    is ∙ ap (λ (f : Option Ending). closed_if f old) (none e) ∙ sym (nothing (crowded_end old.scripts.log.past) e)
  where
    nothing : (end : Option Ending) → old.live ≡ None → closed_if end old ≡ old
    nothing None e = refl
    nothing (Some x) e = rw e refl
look_by (Some l) found old new e lives none is = is ∙ ap (λ (f : Option Ending). closed_if f old) (at_some old.live l _ e lives)

pub look_is : {S : Type 0} (found : Option Ending) (old new : UnitState S) → IfSome old.live (λ l. found ≡ crowded_end old.scripts.log.past)
    → (old.live ≡ None → found ≡ None) → new ≡ closed_if found old → new ≡ looked old
look_is found old new lives none is = look_by old.live found old new refl lives none is

not_crowded : (b : Bool) (since : ℕ) (e : Ending) → nat_le 900 since ≡ b → cond b (Some e) None ≡ None → since < 900
not_crowded true since e is f = absurd (let g : Some e ≡ None = f in cc)
not_crowded false since e is f = grind (arith, nat_tests)

sound_by : {S : Type 0} (found : Option Ending) (o : Option Live) (old new : UnitState S) → IfSome old.live (λ l. found ≡ crowded_end old.scripts.log.past) → old.live ≡ o
    → IsGoing old → Agrees new → Goes 20 old new → (is_some found ≡ true → new.live ≡ None) → (found ≡ None → new ≡ old) → IsSound new
sound_by {S = S} None None old new is e going agrees goes none same =
    subst (λ (u : UnitState S). IsSound u) (sym (same refl)) (record { agrees = going.agrees; few = by_none old.live _ e; owes = going.owes })
sound_by {S = S} None (Some l) old new is e going agrees goes none same =
    let few : since_made old.scripts.log.past < 900 = not_crowded (nat_le 900 (since_made old.scripts.log.past)) (since_made old.scripts.log.past) _ refl (sym (at_some old.live l _ e is)) in
    subst (λ (u : UnitState S). IsSound u) (sym (same refl)) (record { agrees = going.agrees; few = if_some old.live _ few; owes = going.owes })
sound_by {S = S} (Some x) None old new is e going agrees goes none same =
    let gone = goes.none e in
    record {
      agrees = agrees;
      few = by_none new.live _ gone.0;
      owes = λ _. subst (λ (s : ScriptLogState S). owed s.machine.facts + 2 ≤ room_of s.log) (sym gone.1) (going.owes e);
    }
sound_by (Some x) (Some l) old new is e going agrees goes none same =
    let gone : new.live ≡ None = none refl in
    let room : 40 ≤ room_of old.scripts.log = at_some old.live l _ e going.left in
    let moved : length new.scripts.log.past ≤ length old.scripts.log.past + 20 = goes.moves.few in
    let limit : new.scripts.log.limit ≡ old.scripts.log.limit = goes.moves.limit in
    record {
      agrees = agrees;
      few = by_none new.live _ gone;
      owes = λ _. omega (arith, owed_most new.scripts.machine.facts);
    }

pub look_sound : {S : Type 0} (found : Option Ending) (old new : UnitState S) → IfSome old.live (λ l. found ≡ crowded_end old.scripts.log.past)
    → IsGoing old → Agrees new → Goes 20 old new → (is_some found ≡ true → new.live ≡ None) → (found ≡ None → new ≡ old) → IsSound new
look_sound found old new is going agrees goes none same = sound_by found old.live old new is refl going agrees goes none same

-- after the end of a script: an up's down is owed, and then nothing
same_number : (n : ℕ) → (n == n) ≡ true
same_number n = grind (arith, nat_tests)

below : (n : ℕ) → (n == n + 1) ≡ false
below n = grind (arith, nat_tests)

up_or_down : (up : Bool) (o : Opening) (greatest ends more : ℕ)
    → owed (with_start (record { now_open = None; last = Some (record { up = up; opening = o }); greatest = greatest; starts = ends + 1; ends = ends + 1; not_started = more }) (start_due (Some (record { up = up; opening = o })) None)) + 2 ≤ cond up 4 2
up_or_down true o greatest ends more = rw (below (ends + 1)) (omega arith)
up_or_down false o greatest ends more = rw (same_number (ends + 1)) (omega arith)

owed_next : (last : Option Start) (greatest ends not_started more : ℕ)
    → owed (settled (record { now_open = None; last = last; greatest = greatest; starts = ends + 1; ends = ends + 1; not_started = more })) + 2
    ≤ owed (record { now_open = None; last = last; greatest = greatest; starts = ends + 1; ends = ends; not_started = not_started })
owed_next None greatest ends not_started more = rw (same_number (ends + 1), below ends) (rw (same_number (ends + 1)) (omega arith))
owed_next (Some s) greatest ends not_started more = rw (same_number (ends + 1), below ends) (up_or_down s.up s.opening greatest ends more)

owed_more : (now_open : Option Opening) (last : Option Start) (greatest starts ends not_started more : ℕ) → is_some now_open ≡ false → ends + 1 ≡ starts
    → owed (settled (record { now_open = now_open; last = last; greatest = greatest; starts = starts; ends = ends + 1; not_started = more })) + 2
    ≤ owed (record { now_open = now_open; last = last; greatest = greatest; starts = starts; ends = ends; not_started = not_started })
owed_more None last greatest starts ends not_started more e f = rw (← f) (owed_next last greatest ends not_started more)
owed_more (Some o) last greatest starts ends not_started more e f = absurd (let g : true ≡ false = e in cc)

over_by : {S : Type 0} (o : Option Live) (done : DoneState S) (old new : UnitState S) → old.live ≡ o → new ≡ script_over done old
    → IsSound old → Agrees new → Adds 2 old.scripts new.scripts → old.scripts.machine.facts.ends + 1 ≡ old.scripts.machine.facts.starts
    → is_some old.scripts.machine.facts.now_open ≡ is_open old.live → IsGoing new
over_by {S = S} None done old new e is sound agrees moves ran shut =
    let f : HookFacts = old.scripts.machine.facts in
    let live : new.live ≡ None = ap (λ (u : UnitState S). u.live) is ∙ e in
    let facts : new.scripts.machine.facts ≡ settled (with_end f done.answer) = ap (λ (u : UnitState S). u.scripts.machine.facts) is in
    let closed : is_some f.now_open ≡ false = shut ∙ ap is_open e in
    let less : owed (settled (with_end f done.answer)) + 2 ≤ owed f = owed_more f.now_open f.last f.greatest f.starts f.ends f.not_started _ closed ran in
    let before : owed f + 2 ≤ room_of old.scripts.log = sound.owes e in
    let few : length new.scripts.log.past ≤ length old.scripts.log.past + 2 = moves.few in
    let limit : new.scripts.log.limit ≡ old.scripts.log.limit = moves.limit in
    let after : owed (settled (with_end f done.answer)) + 2 ≤ room_of new.scripts.log = omega arith in
    record {
      agrees = agrees;
      left = by_none new.live _ live;
      owes = λ _. subst (λ (x : HookFacts). owed x + 2 ≤ room_of new.scripts.log) (sym facts) after;
    }
over_by {S = S} (Some l) done old new e is sound agrees moves ran shut =
    let room : l.made_at + 1024 ≤ old.scripts.log.limit = at_some old.live l _ e sound.agrees.room in
    let count : since_made old.scripts.log.past < 900 = at_some old.live l _ e sound.few in
    let since : length old.scripts.log.past ≡ l.made_at + since_made old.scripts.log.past = at_some old.live l _ e sound.agrees.since in
    let moved : length new.scripts.log.past ≤ length old.scripts.log.past + 2 = moves.few in
    let limit : new.scripts.log.limit ≡ old.scripts.log.limit = moves.limit in
    record {
      agrees = agrees;
      left = if_some new.live _ (omega arith);
      owes = λ _. omega (arith, owed_most new.scripts.machine.facts);
    }

pub over_going : {S : Type 0} (done : DoneState S) (old new : UnitState S) → new ≡ script_over done old
    → IsSound old → Agrees new → Adds 2 old.scripts new.scripts → old.scripts.machine.facts.ends + 1 ≡ old.scripts.machine.facts.starts
    → is_some old.scripts.machine.facts.now_open ≡ is_open old.live → IsGoing new
over_going done old new is sound agrees moves ran shut = over_by old.live done old new refl is sound agrees moves ran shut
