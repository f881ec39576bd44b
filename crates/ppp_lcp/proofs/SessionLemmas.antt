-- A call leaves what looking back over it gives, where the negotiation does.
use Rattle.std.proofs.Common.{◌≡◌, ℕ, ◌+◌, Bool, true, false, cond, Option, Some, None, List, [], ◌∷◌, ◌++◌, refl, ap, sym, ◌∙◌, arith}
use Rattle.std.specs.Prelude.{◌==◌, ◌&&◌, ◌||◌, not, min}
use Rattle.ppp_fsm.specs.declared.event.FsmEvent.{FsmEvent}
use Rattle.ppp_fsm.specs.Fsm.{acts_of}
use Rattle.ppp_control.specs.declared.negotiation.Negotiation.{Negotiation}
use Rattle.ppp_control.specs.Given.{Given}
use Rattle.ppp_control.specs.Step.{stepped, step_sends}
use Rattle.ppp_control.specs.Rules.{Call, changes_by, changes_in, aside, event_in, comes_with}
use Rattle.ppp_control.proofs.HeardLemmas.{step_sends_no_echo}
use Rattle.ppp_control.proofs.RulesLemmas.{steps_so, quiet_so}
use Rattle.ppp_lcp.specs.declared.lcp.Lcp.{Lcp}
use Rattle.ppp_lcp.specs.declared.ours.Ours.{Ours}
use Rattle.ppp_lcp.specs.declared.wish.LcpWish.{LcpWish}
use Rattle.ppp_lcp.specs.Negotiating.{settled}
use Rattle.ppp_lcp.specs.Taking.{ours_of}
use Rattle.ppp_lcp.specs.Session.{LcpCall, is_open_in, own_at, own_requests, in_a_row, next_echo, sends_echo, echo_after, is_reply_at, unanswered_in, rules, StandsFor}

-- sessions with the same parts are the same
pub same_lcp : (a b : Lcp) → a.wish ≡ b.wish → a.ours ≡ b.ours → a.core ≡ b.core → a.loops ≡ b.loops → a.echo_at ≡ b.echo_at → a.unanswered ≡ b.unanswered → a ≡ b
same_lcp a b e1 e2 e3 e4 e5 e6 =
    ap (λ x. record a { wish = x }) e1
    ∙ ap (λ x. record a { wish = b.wish; ours = x }) e2
    ∙ ap (λ x. record a { wish = b.wish; ours = b.ours; core = x }) e3
    ∙ ap (λ x. record a { wish = b.wish; ours = b.ours; core = b.core; loops = x }) e4
    ∙ ap (λ x. record a { wish = b.wish; ours = b.ours; core = b.core; loops = b.loops; echo_at = x }) e5
    ∙ ap (λ x. record b { unanswered = x }) e6

entered : (now was : Bool) (kept begun : Option ℕ) → cond now (cond was kept begun) None ≡ cond now (cond (false || not was) begun kept) None
entered now true kept begun = refl
entered now false kept begun = refl

pub unanswered_of : (opened replied : Bool) (n : ℕ) → cond opened 0 (cond replied 0 (min n 255)) ≡ min (cond opened 0 (cond replied 0 (cond false (n + 1) n))) 255
unanswered_of true replied n = refl
unanswered_of false true n = refl
unanswered_of false false n = refl

pub one_loop : (n : ℕ) → min (min n 255 + 1) 255 ≡ min (n + 1) 255
one_loop n = omega arith

-- what is left at an event, with these options, loops and echoes
abbrev pub left_at : FsmEvent → Given → ℕ → Lcp → Ours → ℕ → ℕ → Lcp
left_at event g now l o loops count = settled (l.core.fsm.state == 9) now (record { wish = l.wish; ours = o; core = stepped g event l.core; loops = loops; echo_at = l.echo_at; unanswered = count })

-- what happened at an event
abbrev pub step_call : Call (Unit {0}) → ℕ → Given → FsmEvent → Lcp → LcpCall
step_call call now g event l = record { call = call; happened = record { now = now; event = Some event; acts = acts_of l.core.fsm event; packets = step_sends g event l.core } }

pub step_stands : (words : ℕ) (past : List LcpCall) (now : ℕ) (call : Call (Unit {0})) (event : FsmEvent) (g : Given) (l : Lcp) (o : Ours) (loops count : ℕ) → StandsFor l.wish words l past
    → event_in (rules l.wish words) past now call ≡ Some event
    → g ≡ comes_with (rules l.wish words) past now event call
    → o ≡ ours_of l.wish words (changes_by true call (step_sends g event l.core) past ++ changes_in true past)
    → loops ≡ min (in_a_row (own_at call l.wish words past ++ own_requests l.wish words past)) 255
    → count ≡ cond (is_reply_at call l.wish words past) 0 (min (unanswered_in l.wish words past) 255)
    → StandsFor l.wish words (left_at event g now l o loops count) (step_call call now g event l ∷ past)
step_stands words past now call event g l o loops count s e f ours row answered =
    let wish : LcpWish = l.wish in
    let c : LcpCall = step_call call now g event l in
    let steps = steps_so (rules wish words) past l.core now call event g s.negotiates e f in
    let now_open : ((stepped g event l.core).fsm.state == 9) ≡ is_open_in wish (c ∷ past) = ap (λ (n : Negotiation). n.fsm.state == 9) steps.state in
    let was_open : (l.core.fsm.state == 9) ≡ is_open_in wish past = ap (λ (n : Negotiation). n.fsm.state == 9) s.negotiates.state in
    let echo : l.echo_at ≡ echo_after wish past = ap (λ (x : Lcp). x.echo_at) s.session in
    let quiet : sends_echo c.happened.packets ≡ false = step_sends_no_echo g event l.core in
    let opened : Bool = is_open_in wish (c ∷ past) in
    let was : Bool = is_open_in wish past in
    let begins_at : Option ℕ = next_echo wish now in
    record {
      negotiates = record { state = steps.state; acked = steps.acked; lawful = steps.lawful };
      session = same_lcp _ _ refl ours steps.state row
          (ap (λ x. cond x (cond (l.core.fsm.state == 9) l.echo_at begins_at) None) now_open
          ∙ ap (λ x. cond opened (cond x l.echo_at begins_at) None) was_open
          ∙ ap (λ x. cond opened (cond was x begins_at) None) echo
          ∙ entered opened was (echo_after wish past) begins_at
          ∙ ap (λ x. cond opened (cond (x || not was) begins_at (echo_after wish past)) None) (sym quiet))
          (ap (λ x. cond (x && not (l.core.fsm.state == 9)) 0 count) now_open
          ∙ ap (λ x. cond (opened && not x) 0 count) was_open
          ∙ ap (λ x. cond (opened && not was) 0 x) answered
          ∙ unanswered_of (opened && not was) (is_reply_at call wish words past) (unanswered_in wish words past)
          ∙ ap (λ x. min (cond (opened && not was) 0 (cond (is_reply_at call wish words past) 0 (cond x (unanswered_in wish words past + 1) (unanswered_in wish words past)))) 255) (sym quiet));
    }

-- Outside Opened no echo is due.
pub closed_echo : (wish : LcpWish) (past : List LcpCall) → is_open_in wish past ≡ false → echo_after wish past ≡ None
closed_echo wish [] e = refl
closed_echo wish (c ∷ past) e = closed (is_open_in wish (c ∷ past)) _ e
  where
    closed : (b : Bool) (x : Option ℕ) → b ≡ false → cond b x None ≡ None
    closed true x q = absurd (let r : true ≡ false = q in cc)
    closed false x q = refl

pub stays : (was : Bool) (begun kept : Option ℕ) → (was ≡ false → kept ≡ None) → cond was (cond (false || not was) begun kept) None ≡ kept
stays true begun kept f = refl
stays false begun kept f = sym (f refl)

pub not_entered : (was : Bool) (n : ℕ) → cond (was && not was) 0 n ≡ n
not_entered true n = refl
not_entered false n = refl

-- A call at which nothing happens.
abbrev pub nothing : Call (Unit {0}) → ℕ → LcpCall
nothing call now = record { call = call; happened = record { now = now; event = None; acts = []; packets = [] } }

pub quiet_stands : (words : ℕ) (past : List LcpCall) (now : ℕ) (call : Call (Unit {0})) (l : Lcp) → StandsFor l.wish words l past
    → event_in (rules l.wish words) past now call ≡ None → aside (rules l.wish words) past now call ≡ [] → changes_by true call [] past ≡ [] → own_at call l.wish words past ≡ [] → is_reply_at call l.wish words past ≡ false
    → StandsFor l.wish words l (nothing call now ∷ past)
quiet_stands words past now call l s e f unchanged other unanswered =
    let wish : LcpWish = l.wish in
    let n = quiet_so (rules wish words) past l.core now call s.negotiates e f in
    record {
      negotiates = record { state = n.state; acked = n.acked; lawful = n.lawful };
      session = same_lcp _ _ refl
          (ap (λ (x : Lcp). x.ours) s.session ∙ ap (λ changes. ours_of wish words (changes ++ changes_in true past)) (sym unchanged))
          n.state
          (ap (λ (x : Lcp). x.loops) s.session ∙ ap (λ own. min (in_a_row (own ++ own_requests wish words past)) 255) (sym other))
          (ap (λ (x : Lcp). x.echo_at) s.session ∙ sym (stays (is_open_in wish past) (next_echo wish now) (echo_after wish past) (closed_echo wish past)))
          (ap (λ (x : Lcp). x.unanswered) s.session ∙ ap (λ x. min x 255) (sym (not_entered (is_open_in wish past) _ ∙ ap (λ b. cond b 0 (unanswered_in wish words past)) unanswered)));
    }
