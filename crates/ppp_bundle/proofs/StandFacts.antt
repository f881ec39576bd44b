-- The marks of a unit stand where they may.
use Rattle.std.proofs.Common.{◌≡◌, ℕ, ◌+◌, Bool, true, false, cond, Option, None, Some, List, [], ◌∷◌, ◌++◌, refl, ap, sym, subst, ◌∙◌, arith}
use Rattle.std.proofs.lemmas.Bool.Decides.{nat_tests}
use Rattle.std.specs.Prelude.{◌==◌, IsSome, if◌then◌else◌}
use Rattle.ppp_base.specs.declared.posts.CloseCause.{CloseCause}
use Rattle.ppp_base.specs.declared.hook_target.HookTarget.{HookTarget}
use Rattle.ppp_base.specs.declared.hook_target.HookTarget.TheVariants.{Link, Unit as OfUnit}
use Rattle.ppp_hooks.specs.HookPast.{greatest_in, last_in, open_in}
use Rattle.ppp_hooks.specs.HookRule.{due_for, start_marks}
use Rattle.ppp_mark.specs.declared.mark.Mark.{Mark}
use Rattle.ppp_mark.specs.declared.kind.TheConstants.{CLOSE, IN, IP_OPEN, MADE, OUT, UNMADE}
use Rattle.ppp_mark.specs.Log.{LogState}
use Rattle.ppp_mark.specs.Marks.{close_mark, ended_mark, in_mark, ip_closed_mark, ip_open_mark, local_mark, made_mark, out_mark, remote_mark, started_mark, unmade_mark}
use Rattle.ppp_mark.specs.ScriptLog.{log_closed_at, log_opened, next_opening, with_addresses}
use Rattle.ppp_mark.specs.Scripts.{marks_at, said_in}
use Rattle.ppp_outside.specs.declared.hook_words.HookArgs.{HookArgs}
use Rattle.ppp_outside.specs.declared.spawner.ScriptEnd.{ScriptEnd}
use Rattle.ppp_bundle.specs.MayStand.{MayStandHere, Stands}
use Rattle.ppp_bundle.specs.Replay.{bundles_in}

pub not_kind : {P : Type 0} (a b : ℕ) → (a == b) ≡ false → a ≡ b → P
not_kind a b e f = absurd (grind (arith, nat_tests))

-- a mark of another kind
quiet_mark : (past : List Mark) (m : Mark) → (m.kind == MADE) ≡ false → (m.kind == IN) ≡ false → (m.kind == IP_OPEN) ≡ false → (m.kind == CLOSE) ≡ false → (m.kind == OUT) ≡ false → (m.kind == UNMADE) ≡ false
    → MayStandHere past m
quiet_mark past m a b c d e f = record {
  made = not_kind m.kind MADE a;
  comes = not_kind m.kind IN b;
  opens = not_kind m.kind IP_OPEN c;
  closes = not_kind m.kind CLOSE d;
  goes = not_kind m.kind OUT e;
  unmade = not_kind m.kind UNMADE f;
}

pub started_stands : {bundles : ℕ} (number : Option ℕ) (stays : ℕ → Option ℕ) (closing : Bool) (past : List Mark) (time : ℕ) (up : Bool) (n : ℕ) → Stands bundles number stays closing past → Stands bundles number stays closing (started_mark time up n ∷ past)
started_stands number stays closing past time up n s =
    record { all = (quiet_mark past (started_mark time up n) refl refl refl refl refl refl, s.all); made_are = s.made_are; bundle = s.bundle; stays_are = s.stays_are; closing_is = s.closing_is; openings = s.openings }

pub due_stands : {bundles : ℕ} (number : Option ℕ) (stays : ℕ → Option ℕ) (closing : Bool) (past : List Mark) (due : Bool) (start : Option (Bool × ℕ)) (time : ℕ) → Stands bundles number stays closing past
    → Stands bundles number stays closing (marks_at time (cond due (start_marks start) []) ++ past)
due_stands number stays closing past true None time s = s
due_stands number stays closing past true (Some x) time s = started_stands number stays closing past time x.0 x.1 s
due_stands number stays closing past false start time s = s

pub ended_stands : {bundles : ℕ} (number : Option ℕ) (stays : ℕ → Option ℕ) (closing : Bool) (past : List Mark) (time : ℕ) (answer : ScriptEnd) (job : ℕ) → Stands bundles number stays closing past
    → Stands bundles number stays closing (ended_mark time answer job ∷ past)
ended_stands number stays closing past time answer job s =
    record { all = (quiet_mark past (ended_mark time answer job) refl refl refl refl refl refl, s.all); made_are = s.made_are; bundle = s.bundle; stays_are = s.stays_are; closing_is = s.closing_is; openings = s.openings }

closed_stands : {bundles : ℕ} (number : Option ℕ) (stays : ℕ → Option ℕ) (closing : Bool) (past : List Mark) (time n : ℕ) → Stands bundles number stays closing past → Stands bundles number stays closing (ip_closed_mark time n ∷ past)
closed_stands number stays closing past time n s =
    record { all = (quiet_mark past (ip_closed_mark time n) refl refl refl refl refl refl, s.all); made_are = s.made_are; bundle = s.bundle; stays_are = s.stays_are; closing_is = s.closing_is; openings = s.openings }

-- IP opens
opens_stands : {bundles : ℕ} (number : ℕ) (stays : ℕ → Option ℕ) (past : List Mark) (time : ℕ) → Stands bundles (Some number) stays false past → Stands bundles (Some number) stays false (ip_open_mark time (greatest_in (said_in past) + 1) ∷ past)
opens_stands number stays past time s = record {
  all = (
    record {
      made = not_kind IP_OPEN MADE refl;
      comes = not_kind IP_OPEN IN refl;
      opens = λ e. (subst (λ (o : Option ℕ). IsSome o) (sym s.bundle) refl, s.closing_is, ap (λ (n : ℕ). n + 1) s.openings);
      closes = not_kind IP_OPEN CLOSE refl;
      goes = not_kind IP_OPEN OUT refl;
      unmade = not_kind IP_OPEN UNMADE refl;
    },
    s.all,
  );
  made_are = s.made_are;
  bundle = s.bundle;
  stays_are = s.stays_are;
  closing_is = s.closing_is;
  openings = ap (λ (n : ℕ). n + 1) s.openings;
}

addresses_stand : {bundles : ℕ} (number : Option ℕ) (stays : ℕ → Option ℕ) (closing : Bool) (past : List Mark) (time : ℕ) (args : HookArgs) → Stands bundles number stays closing past
    → Stands bundles number stays closing (remote_mark time args.remote ∷ local_mark time args.local ∷ past)
addresses_stand number stays closing past time args s = record {
  all = (quiet_mark (local_mark time args.local ∷ past) (remote_mark time args.remote) refl refl refl refl refl refl, (quiet_mark past (local_mark time args.local) refl refl refl refl refl refl, s.all));
  made_are = s.made_are;
  bundle = s.bundle;
  stays_are = s.stays_are;
  closing_is = s.closing_is;
  openings = s.openings;
}

pub opened_stands : {bundles : ℕ} (target : HookTarget) (unit : ℕ) (number : ℕ) (stays : ℕ → Option ℕ) (time : ℕ) (args : HookArgs) (log : LogState) → target ≡ OfUnit unit → Stands bundles (Some number) stays false log.past
    → Stands bundles (Some number) stays false (with_addresses time args (log_opened target time log)).past
opened_stands (OfUnit u) unit number stays time args log e s =
    let past = ip_open_mark time (next_opening log) ∷ log.past in
    addresses_stand (Some number) stays false _ time args
    (due_stands (Some number) stays false past _ (due_for (last_in (said_in past)) (open_in (said_in past))) time (opens_stands number stays log.past time s))
opened_stands (Link l) unit number stays time args log e s = absurd (cc e)

-- IP closes, after which it isn't open
pub record Shut (bundles : ℕ) (number : Option ℕ) (stays : ℕ → Option ℕ) (closing : Bool) (past : List Mark) : Type 0 where
  pub stands : Stands bundles number stays closing past
  pub shut : open_in (said_in past) ≡ None

due_shut : (due : Bool) (start : Option (Bool × ℕ)) (time : ℕ) (past : List Mark) → open_in (said_in past) ≡ None → open_in (said_in (marks_at time (cond due (start_marks start) []) ++ past)) ≡ None
due_shut true None time past e = e
due_shut true (Some x) time past e = e
due_shut false start time past e = e

pub shut_stands : {bundles : ℕ} (target : HookTarget) (n : Option ℕ) (unit : ℕ) (number : Option ℕ) (stays : ℕ → Option ℕ) (closing : Bool) (time : ℕ) (log : LogState) → target ≡ OfUnit unit → open_in (said_in log.past) ≡ n
    → Stands bundles number stays closing log.past → Shut bundles number stays closing (log_closed_at target time n log).past
shut_stands target None unit number stays closing time log e f s = record { stands = s; shut = f }
shut_stands (OfUnit u) (Some n) unit number stays closing time log e f s =
    let past = ip_closed_mark time n ∷ log.past in
    record {
      stands = due_stands number stays closing past _ (due_for (last_in (said_in past)) (open_in (said_in past))) time (closed_stands number stays closing log.past time n s);
      shut = due_shut _ (due_for (last_in (said_in past)) (open_in (said_in past))) time past refl;
    }
shut_stands (Link l) (Some n) unit number stays closing time log e f s = absurd (cc e)

-- the marks of bundles and members
pub close_stands : {bundles : ℕ} (number : ℕ) (stays : ℕ → Option ℕ) (past : List Mark) (time : ℕ) (cause : CloseCause) (elapsed : ℕ) → Stands bundles (Some number) stays false past → Stands bundles (Some number) stays true (close_mark time cause elapsed ∷ past)
close_stands number stays past time cause elapsed s = record {
  all = (
    record {
      made = not_kind CLOSE MADE refl;
      comes = not_kind CLOSE IN refl;
      opens = not_kind CLOSE IP_OPEN refl;
      closes = λ e. (subst (λ (o : Option ℕ). IsSome o) (sym s.bundle) refl, s.closing_is);
      goes = not_kind CLOSE OUT refl;
      unmade = not_kind CLOSE UNMADE refl;
    },
    s.all,
  );
  made_are = s.made_are;
  bundle = s.bundle;
  stays_are = s.stays_are;
  closing_is = refl;
  openings = s.openings;
}

pub out_stands : {bundles : ℕ} (number : Option ℕ) (stays : ℕ → Option ℕ) (closing : Bool) (past : List Mark) (time link stay : ℕ) → Shut bundles number stays closing past → stays link ≡ Some stay
    → Shut bundles number (λ x. if link == x then None else stays x) closing (out_mark time link stay ∷ past)
out_stands number stays closing past time link stay s e = record {
  stands = record {
    all = (
      record {
        made = not_kind OUT MADE refl;
        comes = not_kind OUT IN refl;
        opens = not_kind OUT IP_OPEN refl;
        closes = not_kind OUT CLOSE refl;
        goes = λ f. (s.stands.stays_are link ∙ e, λ g. s.shut);
        unmade = not_kind OUT UNMADE refl;
      },
      s.stands.all,
    );
    made_are = s.stands.made_are;
    bundle = s.stands.bundle;
    stays_are = λ x. ap (λ (o : Option ℕ). if link == x then None else o) (s.stands.stays_are x);
    closing_is = s.stands.closing_is;
    openings = s.stands.openings;
  };
  shut = s.shut;
}

pub unmade_stands : {bundles : ℕ} (number : ℕ) (stays : ℕ → Option ℕ) (closing : Bool) (past : List Mark) (time : ℕ) → Shut bundles (Some number) stays closing past → ((link : ℕ) → stays link ≡ None)
    → Stands bundles None (λ x. None) false (unmade_mark time number ∷ past)
unmade_stands number stays closing past time s e = record {
  all = (
    record {
      made = not_kind UNMADE MADE refl;
      comes = not_kind UNMADE IN refl;
      opens = not_kind UNMADE IP_OPEN refl;
      closes = not_kind UNMADE CLOSE refl;
      goes = not_kind UNMADE OUT refl;
      unmade = λ f. (s.stands.bundle, λ link. s.stands.stays_are link ∙ e link, s.shut);
    },
    s.stands.all,
  );
  made_are = s.stands.made_are;
  bundle = refl;
  stays_are = λ x. s.stands.stays_are x ∙ e x;
  closing_is = refl;
  openings = s.stands.openings;
}

pub made_stands : {bundles : ℕ} (stays : ℕ → Option ℕ) (past : List Mark) (time maker number : ℕ) → Stands bundles None stays false past → number ≡ bundles_in 0 past + 1 → Stands number (Some number) stays false (made_mark time maker number ∷ past)
made_stands stays past time maker number s e = record {
  all = (
    record {
      made = λ f. (s.bundle, e);
      comes = not_kind MADE IN refl;
      opens = not_kind MADE IP_OPEN refl;
      closes = not_kind MADE CLOSE refl;
      goes = not_kind MADE OUT refl;
      unmade = not_kind MADE UNMADE refl;
    },
    s.all,
  );
  made_are = sym e;
  bundle = refl;
  stays_are = s.stays_are;
  closing_is = refl;
  openings = s.openings;
}

pub in_stands : {bundles : ℕ} (number : ℕ) (stays : ℕ → Option ℕ) (past : List Mark) (time link stay : ℕ) → Stands bundles (Some number) stays false past → stays link ≡ None
    → Stands bundles (Some number) (λ x. if link == x then Some stay else stays x) false (in_mark time link stay ∷ past)
in_stands number stays past time link stay s e = record {
  all = (
    record {
      made = not_kind IN MADE refl;
      comes = λ f. (subst (λ (o : Option ℕ). IsSome o) (sym s.bundle) refl, s.stays_are link ∙ e, s.closing_is);
      opens = not_kind IN IP_OPEN refl;
      closes = not_kind IN CLOSE refl;
      goes = not_kind IN OUT refl;
      unmade = not_kind IN UNMADE refl;
    },
    s.all,
  );
  made_are = s.made_are;
  bundle = s.bundle;
  stays_are = λ x. in_is (link == x) (s.stays_are x);
  closing_is = s.closing_is;
  openings = s.openings;
}
  where
    in_is : (b : Bool) {o o' : Option ℕ} → o ≡ o' → (if b then Some stay else (if false then None else o)) ≡ (if b then Some stay else o')
    in_is b f = ap (λ (x : Option ℕ). if b then Some stay else x) f
