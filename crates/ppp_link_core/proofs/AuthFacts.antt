-- The phase of authentication: what the machine stands for behind each piece.
use Rattle.std.proofs.Common.{◌≡◌, ℕ, Bool, true, false, cond, Option, None, Some, List, [], ◌∷◌, ◌++◌, refl, ap, sym, subst, ◌∙◌}
use Rattle.std.specs.Prelude.{is_some, option_to_list}
use Rattle.ppp_auth.specs.Judged.{JudgeStands, judge_lost, judge_outcome, judged_in}
use Rattle.ppp_auth.specs.Outcome.{passed_by, peer_passed}
use Rattle.ppp_auth.specs.declared.config.AuthConfig.{AuthConfig}
use Rattle.ppp_auth.specs.declared.judging.JudgePart.{JudgePart}
use Rattle.ppp_auth.specs.declared.judging.JudgePart.TheVariants as judge
use Rattle.ppp_packet.specs.declared.agreed.Method.{Method}
use Rattle.ppp_packet.specs.declared.agreed.Method.TheVariants.{Pap, Chap}
use Rattle.ppp_auth.specs.Phase.{StandsFor as IsPhase, name_of, setting_of, told_at}
use Rattle.ppp_auth.specs.Setting.{PhaseAt, PhaseCall, Setting, starts, takes}
use Rattle.ppp_auth.specs.declared.out.PhaseOut.{PhaseOut}
use Rattle.ppp_auth.specs.declared.outcome.AuthNow.{AuthNow}
use Rattle.ppp_auth.specs.declared.outcome.AuthNow.TheVariants as now
use Rattle.ppp_auth.specs.declared.phase.AuthPhase.{AuthPhase}
use Rattle.ppp_auth.proofs.EndLemmas.{names_are}
use Rattle.ppp_base.specs.declared.hook_target.HookTarget.TheVariants.{Link}
use Rattle.ppp_base.specs.RandomWords.{challenge_of, state_after}
use Rattle.ppp_base.specs.declared.allow.Allow.{Allow}
use Rattle.ppp_hooks.specs.HookFacts.{settled, with_open}
use Rattle.ppp_hooks.specs.HookPast.{open_in}
use Rattle.ppp_hooks.specs.HookRule.{due_after}
use Rattle.ppp_mark.specs.ScriptLog.{log_opened, next_opening, opened_mark}
use Rattle.ppp_mark.specs.Log.{LogState}
use Rattle.ppp_mark.specs.Scripts.{said_in}
use Rattle.ppp_outside.specs.declared.hook_words.HookArgs.{HookArgs}
use Rattle.ppp_outside.specs.declared.line_words.LineWords.{LineWords}
use Rattle.ppp_packet.specs.declared.agreed.Agreed.{Agreed}
use Rattle.ppp_packet.specs.declared.packet.Packet.{Packet}
use Rattle.ppp_link_parts.specs.Records.{DialStands, RecordsNow, told}
use Rattle.ppp_link_rules.specs.Authentication.{auth_opened, called_part, ended_by_outcome, new_phase, opened_for, phase_begun, phase_begun_by, phase_called, phase_heard, phase_told, setting_by}
use Rattle.ppp_link_rules.specs.CauseStatus.{peer_failed, we_failed}
use Rattle.ppp_link_rules.specs.Ending.{ended_by}
use Rattle.ppp_link_rules.specs.Facts.{peer_of}
use Rattle.ppp_link_rules.specs.LinkState.{AuthPart, LinkState, agreed, outcome_of}
use Rattle.ppp_link_rules.specs.Marks.{stay_in}
use Rattle.ppp_link_rules.specs.Sending.{phase_sent}
use Rattle.ppp_link_rules.specs.Wishes.{auth_config, script_args}
use Rattle.ppp_link_core.specs.declared.link_core.LinkCore.{LinkCore}
use Rattle.ppp_link_core.specs.Standing.{AuthStands, Does, Lives, Named, Sits, StandsFor, histories_of, opened, state_of}
use Rattle.ppp_link_core.specs.Told.{phase_answer, phase_answer_by, phase_asked, phase_asked_by, phase_followed}
use Rattle.ppp_link_core.proofs.StandFacts.{at_state, lives_after}
use Rattle.ppp_link_core.proofs.EndFacts.{starts_stay}

-- A PEER PASSES ONCE

record Once (was_told was is : Option (List ℕ)) : Type 0 where
  stays : is_some was ≡ true → is_some is ≡ true
  fresh : is_some was_told ≡ true → is_some was ≡ false
  named : is_some was_told ≡ true → is_some is ≡ true

once : (was_told was is : Option (List ℕ)) → option_to_list was_told ++ option_to_list was ≡ option_to_list is → Once was_told was is
once None None is e = record { stays = λ h. absurd (let x : false ≡ true = h in cc); fresh = λ h. refl; named = λ h. absurd (let x : false ≡ true = h in cc) }
once None (Some n) None e = absurd (cc e)
once None (Some n) (Some m) e = record { stays = λ h. refl; fresh = λ h. absurd (let x : false ≡ true = h in cc); named = λ h. refl }
once (Some t) None None e = absurd (cc e)
once (Some t) None (Some m) e = record { stays = λ h. refl; fresh = λ h. refl; named = λ h. refl }
once (Some t) (Some n) None e = absurd (cc e)
once (Some t) (Some n) (Some m) e = absurd (cc e)

once_at : (s : Setting) (c : PhaseAt) (past : List PhaseAt) → Once (told_at s c past).peer_passed (name_of (peer_passed s.peer_proves s past)) (name_of (peer_passed s.peer_proves s (c ∷ past)))
once_at s c past = once _ _ _ (ap (λ ns. option_to_list (told_at s c past).peer_passed ++ ns) (sym (names_are s past)) ∙ names_are s (c ∷ past))

-- what an answered call of a phase says
record Asked (p new : AuthPhase) (at : ℕ) (call : PhaseCall) (out : PhaseOut) : Type 0 where
  stands : (past : List PhaseAt) → IsPhase p past → IsPhase new (record { now = at; call = call } ∷ past)
  told : (past : List PhaseAt) → IsPhase p past → out ≡ told_at (setting_of p) (record { now = at; call = call }) past
  kept : setting_of new ≡ setting_of p

abbrev called_at : ℕ → PhaseCall → PhaseAt
called_at at call = record { now = at; call = call }

asked_by : {S : Type 0} (c : LinkCore S) (p new : AuthPhase) (at : ℕ) (call : PhaseCall) (out : PhaseOut) (s : LinkState) (o : Option AuthPart)
    → s.auth ≡ o → at ≡ s.time → AuthStands (Some p) o → Asked p new at call out → StandsFor c s → StandsFor (record c { auth = Some new }) (phase_asked_by call s o)
asked_by c p new at call out s None e t h a k = absurd h
asked_by c p new at call out s (Some part) e t h a k =
    let here : PhaseAt = called_at s.time call in
    record {
      is = ap (λ (y : LinkState). record y { auth = Some (record part { calls = here ∷ part.calls }) }) k.is;
      id = k.id;
      moment = k.moment;
      asks = k.asks;
      listens = k.listens;
      negotiates = k.negotiates;
      proves = (subst (λ n. IsPhase new (called_at n call ∷ part.calls)) t (a.stands part.calls h.0), a.kept ∙ h.1);
      dials = k.dials;
      policy = k.policy;
      fits = k.fits;
      passes = λ was. (once_at part.setting here part.calls).stays (ap (λ x. is_some (peer_of x)) (sym e) ∙ k.passes was);
    }

told_by : (p new : AuthPhase) (at : ℕ) (call : PhaseCall) (out : PhaseOut) (s : LinkState) (part : AuthPart) → at ≡ s.time → AuthStands (Some p) (Some part) → Asked p new at call out
    → out ≡ told_at part.setting (called_at s.time call) part.calls
told_by p new at call out s part t h a = a.told part.calls h.0 ∙ ap (λ x. told_at x (called_at at call) part.calls) h.1 ∙ ap (λ n. told_at part.setting (called_at n call) part.calls) t

answer_by : (p new : AuthPhase) (at : ℕ) (call : PhaseCall) (out : PhaseOut) (s : LinkState) (o : Option AuthPart) → at ≡ s.time → AuthStands (Some p) o → Asked p new at call out → Some out ≡ phase_answer_by call s o
answer_by p new at call out s None t h a = absurd h
answer_by p new at call out s (Some part) t h a = ap Some (told_by p new at call out s part t h a)

named_at : (p new : AuthPhase) (at : ℕ) (call : PhaseCall) (out : PhaseOut) (s : LinkState) (o : Option AuthPart) → at ≡ s.time → AuthStands (Some p) o → Asked p new at call out
    → is_some out.peer_passed ≡ true → Named (Some new)
named_at p new at call out s None t h a e = absurd h
named_at p new at call out s (Some part) t h a e = record {
  part = Some (record part { calls = called_at s.time call ∷ part.calls });
  proves = (subst (λ n. IsPhase new (called_at n call ∷ part.calls)) t (a.stands part.calls h.0), a.kept ∙ h.1);
  named = (once_at part.setting (called_at s.time call) part.calls).named (ap (λ (x : PhaseOut). is_some x.peer_passed) (sym (told_by p new at call out s part t h a)) ∙ e);
}

unnamed_at : (p new : AuthPhase) (at : ℕ) (call : PhaseCall) (out : PhaseOut) (s : LinkState) (o : Option AuthPart) → at ≡ s.time → AuthStands (Some p) o → Asked p new at call out
    → is_some out.peer_passed ≡ true → is_some (peer_of o) ≡ false
unnamed_at p new at call out s None t h a e = absurd h
unnamed_at p new at call out s (Some part) t h a e =
    (once_at part.setting (called_at s.time call) part.calls).fresh (ap (λ (x : PhaseOut). is_some x.peer_passed) (sym (told_by p new at call out s part t h a)) ∙ e)

there : {S : Type 0} (c : LinkCore S) (o : Option AuthPhase) (s : LinkState) → c.auth ≡ o → StandsFor c s → AuthStands o s.auth
there c o s e k = subst (λ x. AuthStands x s.auth) e k.proves

time_is : {S : Type 0} (c : LinkCore S) (s : LinkState) → StandsFor c s → c.time ≡ s.time
time_is c s k = ap (λ (y : LinkState). y.time) k.is

pub asked_does : {S : Type 0} {c : LinkCore S} {p new : AuthPhase} {call : PhaseCall} {out : PhaseOut} → c.auth ≡ Some p
    → ((past : List PhaseAt) → IsPhase p past → IsPhase new (record { now = c.time; call = call } ∷ past))
    → ((past : List PhaseAt) → IsPhase p past → out ≡ told_at (setting_of p) (record { now = c.time; call = call }) past)
    → setting_of new ≡ setting_of p → Does (phase_asked call) c (record c { auth = Some new })
asked_does {c = c} {p = p} {new = new} {call = call} {out = out} e f g h = record {
  stands = λ s k. asked_by c p new c.time call out s s.auth refl (time_is c s k) (there c (Some p) s e k) (record { stands = f; told = g; kept = h }) k;
}

pub asked_told : {S : Type 0} {c : LinkCore S} {p new : AuthPhase} {call : PhaseCall} {out : PhaseOut} → c.auth ≡ Some p
    → ((past : List PhaseAt) → IsPhase p past → IsPhase new (record { now = c.time; call = call } ∷ past))
    → ((past : List PhaseAt) → IsPhase p past → out ≡ told_at (setting_of p) (record { now = c.time; call = call }) past)
    → setting_of new ≡ setting_of p → (s : LinkState) → StandsFor c s → Some out ≡ phase_answer call s
asked_told {c = c} {p = p} {new = new} {call = call} {out = out} e f g h s k =
    answer_by p new c.time call out s s.auth (time_is c s k) (there c (Some p) s e k) (record { stands = f; told = g; kept = h })

pub named_by : {S : Type 0} {c : LinkCore S} {p new : AuthPhase} {call : PhaseCall} {out : PhaseOut} → c.auth ≡ Some p
    → ((past : List PhaseAt) → IsPhase p past → IsPhase new (record { now = c.time; call = call } ∷ past))
    → ((past : List PhaseAt) → IsPhase p past → out ≡ told_at (setting_of p) (record { now = c.time; call = call }) past)
    → setting_of new ≡ setting_of p → Lives c → is_some out.peer_passed ≡ true → Named (Some new)
named_by {c = c} {p = p} {new = new} {call = call} {out = out} e f g h l =
    named_at p new c.time call out l.state l.state.auth (time_is c l.state l.stands) (there c (Some p) l.state e l.stands) (record { stands = f; told = g; kept = h })

shut_unless : (o : Option ℕ) → (is_some o ≡ true → ⊥) → o ≡ None
shut_unless None h = refl
shut_unless (Some n) h = absurd (h refl)

pub closed_by : {S : Type 0} {c : LinkCore S} {p new : AuthPhase} {call : PhaseCall} {out : PhaseOut} → c.auth ≡ Some p
    → ((past : List PhaseAt) → IsPhase p past → IsPhase new (record { now = c.time; call = call } ∷ past))
    → ((past : List PhaseAt) → IsPhase p past → out ≡ told_at (setting_of p) (record { now = c.time; call = call }) past)
    → setting_of new ≡ setting_of p → Lives c → is_some out.peer_passed ≡ true → open_in (said_in c.records.scripts.log.past) ≡ None
closed_by {c = c} {p = p} {new = new} {call = call} {out = out} e f g h l some =
    let s : LinkState = l.state in
    let unnamed = unnamed_at p new c.time call out s s.auth (time_is c s l.stands) (there c (Some p) s e l.stands) (record { stands = f; told = g; kept = h }) some in
    shut_unless _ (λ was. let x : false ≡ true = sym unnamed ∙ l.stands.passes (ap (λ (y : LinkState). is_some (open_in (said_in y.log.past))) (sym l.stands.is) ∙ was) in cc)

pub lives_asked : {S : Type 0} {c : LinkCore S} {p new : AuthPhase} {call : PhaseCall} {out : PhaseOut} → c.auth ≡ Some p
    → ((past : List PhaseAt) → IsPhase p past → IsPhase new (record { now = c.time; call = call } ∷ past))
    → ((past : List PhaseAt) → IsPhase p past → out ≡ told_at (setting_of p) (record { now = c.time; call = call }) past)
    → setting_of new ≡ setting_of p → Lives c → Lives (record c { auth = Some new })
lives_asked e f g h l = lives_after (asked_does e f g h) l

nothing_by : {S : Type 0} (c : LinkCore S) (call : PhaseCall) (s : LinkState) (o : Option AuthPart) → AuthStands None o → StandsFor c s → StandsFor c (phase_asked_by call s o)
nothing_by c call s None h k = k
nothing_by c call s (Some part) h k = absurd h

untold_by : (call : PhaseCall) (s : LinkState) (o : Option AuthPart) → AuthStands None o → None ≡ phase_answer_by call s o
untold_by call s None h = refl
untold_by call s (Some part) h = absurd h

pub none_does : {S : Type 0} {c : LinkCore S} (call : PhaseCall) → c.auth ≡ None → Does (phase_asked call) c c
none_does {c = c} call e = record { stands = λ s k. nothing_by c call s s.auth (there c None s e k) k }

pub none_told : {S : Type 0} {c : LinkCore S} (call : PhaseCall) → c.auth ≡ None → (s : LinkState) → StandsFor c s → None ≡ phase_answer call s
none_told {c = c} call e s k = untold_by call s s.auth (there c None s e k)

-- AUTHENTICATION OPENS

lost_name : (b : Bool) (n : AuthNow) → b ≡ true → name_of (cond b now.Going n) ≡ None
lost_name b n e = ap (λ x. name_of (cond x now.Going n)) e

kept_name : (b : Bool) (n : AuthNow) → b ≡ false → name_of (cond b now.Going n) ≡ name_of n
kept_name b n e = ap (λ x. name_of (cond x now.Going n)) e

same_by : (s : Setting) (m : Option Method) (j : JudgePart) (x y : List PhaseAt) → s.peer_proves ≡ m → JudgeStands s j x → JudgeStands s j y → name_of (peer_passed m s x) ≡ name_of (peer_passed m s y)
same_by s None j x y e h i = refl
same_by s (Some m) judge.NotNeeded x y e h i = absurd (let z : Some m ≡ None = sym e ∙ h in cc)
same_by s (Some m) judge.Lost x y e h i =
    lost_name (judge_lost (Some m) s x) _ (ap (λ o. judge_lost o s x) (sym e) ∙ h) ∙ sym (lost_name (judge_lost (Some m) s y) _ (ap (λ o. judge_lost o s y) (sym e) ∙ i))
same_by s (Some Pap) (judge.Pap j) x y e h i =
    kept_name (judge_lost (Some Pap) s x) _ h.1 ∙ ap (λ o. name_of (passed_by Pap o)) (sym h.2.outcome_is ∙ i.2.outcome_is) ∙ sym (kept_name (judge_lost (Some Pap) s y) _ i.1)
same_by s (Some Chap) (judge.Pap j) x y e h i = absurd (let z : Some Chap ≡ Some Pap = sym e ∙ h.0 in cc)
same_by s (Some Chap) (judge.Chap j) x y e h i =
    kept_name (judge_lost (Some Chap) s x) _ h.1
    ∙ ap (λ o. name_of (passed_by Chap o)) (ap (λ ch. judge_outcome Chap (record s { challenge = ch }) (judged_in Chap s x)) (sym h.3) ∙ sym h.4.outcome_is ∙ i.4.outcome_is ∙ ap (λ ch. judge_outcome Chap (record s { challenge = ch }) (judged_in Chap s y)) i.3)
    ∙ sym (kept_name (judge_lost (Some Chap) s y) _ i.1)
same_by s (Some Pap) (judge.Chap j) x y e h i = absurd (let z : Some Pap ≡ Some Chap = sym e ∙ h.0 in cc)

same_name : (phase : Option AuthPhase) (a b : Option AuthPart) → AuthStands phase a → AuthStands phase b → peer_of a ≡ peer_of b
same_name None None None h i = refl
same_name None None (Some b) h i = absurd i
same_name None (Some a) b h i = absurd h
same_name (Some p) None b h i = absurd h
same_name (Some p) (Some a) None h i = absurd i
same_name (Some p) (Some a) (Some b) h i =
    ap (λ (s : Setting). name_of (peer_passed s.peer_proves s a.calls)) (sym h.1)
    ∙ same_by (setting_of p) p.peer_proves p.judge a.calls b.calls refl h.0.judge i.0.judge
    ∙ ap (λ (s : Setting). name_of (peer_passed s.peer_proves s b.calls)) i.1

abbrev scripts_opened : {S : Type 0} → HookArgs → ℕ → RecordsNow S → RecordsNow S
scripts_opened args time r = record r {
  scripts = record r.scripts {
    machine = record r.scripts.machine { facts = settled (with_open r.scripts.machine.facts (next_opening r.scripts.log) args) };
    log = log_opened (Link r.id) time r.scripts.log;
  };
}

opened_stay : (id time : ℕ) (log : LogState) → stay_in (log_opened (Link id) time log).past ≡ stay_in log.past
opened_stay id time log =
    starts_stay time (due_after (said_in (opened_mark (Link id) time (next_opening log) ∷ log.past))) (opened_mark (Link id) time (next_opening log) ∷ log.past)

pub opened_does : {S : Type 0} {c : LinkCore S} {r : RecordsNow S} {args : HookArgs} {peer : List ℕ}
    → args ≡ script_args c.id c.config peer → Named c.auth
    → r ≡ scripts_opened args c.time c.records
    → ((line : LineWords) → DialStands line c.records → DialStands line r)
    → Does (auth_opened peer) c (record c { records = r })
opened_does {c = c} {r = r} {args = args} {peer = peer} f n e dials = record {
  stands = λ s k. record {
    is = at_state c s (λ y. state_of (record c { records = r }) (histories_of (auth_opened peer y)) ≡ auth_opened peer y) k (rw (e, f) refl);
    id = rw e k.id;
    moment = k.moment;
    asks = k.asks;
    listens = k.listens;
    negotiates = k.negotiates;
    proves = k.proves;
    dials = dials c.config.line k.dials;
    policy = rw e k.policy;
    fits = λ h. k.fits (ap is_some (sym (opened_stay s.id s.time s.log)) ∙ h);
    passes = λ h. ap is_some (same_name c.auth s.auth n.part k.proves n.proves) ∙ n.named;
  };
}

pub opened_some : {S : Type 0} {a b : LinkCore S} {o : Option (List ℕ)} {peer : List ℕ} → o ≡ Some peer → Does (auth_opened peer) a b → Does (opened_for o) a b
opened_some {b = b} e d = record { stands = λ s k. subst (λ x. StandsFor b (opened_for x s)) (sym e) (d.stands s k) }

pub opened_none : {S : Type 0} {a : LinkCore S} {o : Option (List ℕ)} → o ≡ None → Does (opened_for o) a a
opened_none {a = a} e = record { stands = λ s k. subst (λ x. StandsFor a (opened_for x s)) (sym e) k }

-- WHAT AN ANSWER LEADS TO

pub outcome_peer : {S : Type 0} {a b : LinkCore S} {n : AuthNow} → n ≡ now.PeerFailed → Does (ended_by peer_failed) a b → Does (ended_by_outcome n) a b
outcome_peer {b = b} e d = record { stands = λ s k. subst (λ x. StandsFor b (ended_by_outcome x s)) (sym e) (d.stands s k) }

pub outcome_ours : {S : Type 0} {a b : LinkCore S} {n : AuthNow} → n ≡ now.WeFailed → Does (ended_by we_failed) a b → Does (ended_by_outcome n) a b
outcome_ours {b = b} e d = record { stands = λ s k. subst (λ x. StandsFor b (ended_by_outcome x s)) (sym e) (d.stands s k) }

pub outcome_going : {S : Type 0} {a : LinkCore S} {n : AuthNow} → n ≡ now.Going → Does (ended_by_outcome n) a a
outcome_going {a = a} e = record { stands = λ s k. subst (λ x. StandsFor a (ended_by_outcome x s)) (sym e) k }

pub outcome_passed : {S : Type 0} {a : LinkCore S} {n : AuthNow} {peer : Option (List ℕ)} {allow : Allow} → n ≡ now.Passed peer allow → Does (ended_by_outcome n) a a
outcome_passed {a = a} e = record { stands = λ s k. subst (λ x. StandsFor a (ended_by_outcome x s)) (sym e) k }

pub told_does : {S : Type 0} {a b c d : LinkCore S} (out : PhaseOut) (n : AuthNow)
    → Does (phase_sent out.packets) a b → Does (opened_for out.peer_passed) b c → Does (ended_by_outcome n) c d → Does (phase_told out n) a d
told_does out n x y z = record { stands = λ s k. z.stands (opened_for out.peer_passed (phase_sent out.packets s)) (y.stands (phase_sent out.packets s) (x.stands s k)) }

pub sits_on : {S : Type 0} {a b c : LinkCore S} → b ≡ record a { out = b.out } → c ≡ record b { records = c.records } → Sits (opened a.lcp) a → Sits (opened c.lcp) c
sits_on {S = S} {a = a} {b = b} {c = c} e f h =
    let lcp : c.lcp ≡ a.lcp = ap (λ (x : LinkCore S). x.lcp) f ∙ ap (λ (x : LinkCore S). x.lcp) e in
    let auth : c.auth ≡ a.auth = ap (λ (x : LinkCore S). x.auth) f ∙ ap (λ (x : LinkCore S). x.auth) e in
    record { none = λ g. ap is_some auth ∙ h.none (ap opened (sym lcp) ∙ g) }

pub named_on : {S : Type 0} {b : LinkCore S} (a : LinkCore S) (o : Option (List ℕ)) → b ≡ record a { out = b.out } → (is_some o ≡ true → Named a.auth) → is_some o ≡ true → Named b.auth
named_on {S = S} a o e h t = subst Named (sym (ap (λ (x : LinkCore S). x.auth) e)) (h t)

pub closed_on : {S : Type 0} {b : LinkCore S} (a : LinkCore S) (o : Option (List ℕ)) → b ≡ record a { out = b.out } → (is_some o ≡ true → open_in (said_in a.records.scripts.log.past) ≡ None)
    → is_some o ≡ true → open_in (said_in b.records.scripts.log.past) ≡ None
closed_on {S = S} a o e h t = ap (λ (x : LinkCore S). open_in (said_in x.records.scripts.log.past)) e ∙ h t

pub followed_some : {S : Type 0} {a b : LinkCore S} {o : Option PhaseOut} {out : PhaseOut} {n : AuthNow}
    → o ≡ Some out → ((s : LinkState) → StandsFor a s → outcome_of s.auth ≡ n) → Does (phase_told out n) a b → Does (phase_followed o) a b
followed_some {b = b} {out = out} e h d = record {
  stands = λ s k. subst (λ x. StandsFor b (phase_followed x s)) (sym e) (subst (λ x. StandsFor b (phase_told out x s)) (sym (h s k)) (d.stands s k));
}

pub followed_none : {S : Type 0} {a : LinkCore S} {o : Option PhaseOut} → o ≡ None → Does (phase_followed o) a a
followed_none {a = a} e = record { stands = λ s k. subst (λ x. StandsFor a (phase_followed x s)) (sym e) k }

called_is : (call : PhaseCall) (s : LinkState) (o : Option AuthPart) → phase_followed (phase_answer_by call s o) (phase_asked_by call s o) ≡ called_part call o s
called_is call s None = refl
called_is call s (Some part) = refl

pub called_does : {S : Type 0} {a b c : LinkCore S} {call : PhaseCall} {o : Option PhaseOut}
    → Does (phase_asked call) a b → ((s : LinkState) → StandsFor a s → o ≡ phase_answer call s) → Does (phase_followed o) b c → Does (phase_called call) a c
unfolding phase_called
called_does {c = c} {call = call} {o = o} x told y = record {
  stands = λ s k.
      subst (λ z. StandsFor c z) (called_is call s s.auth)
      (subst (λ z. StandsFor c (phase_followed z (phase_asked call s))) (told s k) (y.stands (phase_asked call s) (x.stands s k)));
}

pub sits_with : {S : Type 0} {a b : LinkCore S} → b ≡ record a { auth = b.auth } → is_some b.auth ≡ is_some a.auth → Sits (opened a.lcp) a → Sits (opened b.lcp) b
sits_with {S = S} {a = a} {b = b} e f h = record { none = λ g. f ∙ h.none (ap (λ (x : LinkCore S). opened x.lcp) (sym e) ∙ g) }

pub heard_some : {S : Type 0} {a b : LinkCore S} {o : Option Packet} {packet : Packet} (protocol : ℕ)
    → o ≡ Some packet → Does (phase_called (takes protocol packet a.secrets)) a b → Does (phase_heard protocol o) a b
heard_some {a = a} {b = b} {packet = packet} protocol e d = record {
  stands = λ s k. subst (λ x. StandsFor b (phase_heard protocol x s)) (sym e)
      (subst (λ x. StandsFor b (phase_called (takes protocol packet x) s)) (ap (λ (y : LinkState). y.secrets) k.is) (d.stands s k));
}

pub heard_none : {S : Type 0} {a : LinkCore S} {o : Option Packet} (protocol : ℕ) → o ≡ None → Does (phase_heard protocol o) a a
heard_none {a = a} protocol e = record { stands = λ s k. subst (λ x. StandsFor a (phase_heard protocol x s)) (sym e) k }

-- THE PHASE BEGINS

unbegun : (o : Option AuthPart) → AuthStands None o → is_some (peer_of o) ≡ false
unbegun None h = refl
unbegun (Some part) h = absurd h

pub none_of : (o : Option AuthPhase) (p : Option AuthPart) → is_some o ≡ false → AuthStands o p → is_some (peer_of p) ≡ false
none_of None p e h = unbegun p h
none_of (Some x) p e h = absurd (let z : true ≡ false = e in cc)

pub new_does : {S : Type 0} {c : LinkCore S} {p : AuthPhase} {w words : ℕ} {challenge : List ℕ} {config : AuthConfig} (terms : Agreed)
    → is_some c.auth ≡ false
    → words ≡ c.words → challenge ≡ challenge_of words → w ≡ state_after 4 words → config ≡ auth_config c.config
    → (p.peer_proves ≡ terms.peer_proves) × (p.we_prove ≡ terms.we_prove) → (p.config ≡ config) × (p.challenge ≡ challenge) → IsPhase p []
    → Does (new_phase terms) c (record c { auth = Some p; words = w })
new_does {c = c} {p = p} {w = w} terms none e f g h m n stands = record {
  stands = λ s k. record {
    is = at_state c s (λ y. state_of (record c { auth = Some p; words = w }) (histories_of (new_phase terms y)) ≡ new_phase terms y) k (rw (g, e) refl);
    id = k.id;
    moment = k.moment;
    asks = k.asks;
    listens = k.listens;
    negotiates = k.negotiates;
    proves = (stands, at_state c s (λ y. setting_of p ≡ setting_by y terms) k (rw (m.0, m.1, n.0, n.1, h, f, e) refl));
    dials = k.dials;
    policy = k.policy;
    fits = k.fits;
    passes = λ was. absurd (let z : false ≡ true = sym (none_of c.auth s.auth none k.proves) ∙ k.passes was in cc);
  };
}

pub begun_some : {S : Type 0} {a b c d : LinkCore S} {o : Option PhaseOut} (terms : Agreed)
    → Does (new_phase terms) a b → Does (phase_asked (starts b.secrets)) b c → ((s : LinkState) → StandsFor b s → o ≡ phase_answer (starts b.secrets) s)
    → Does (phase_followed o) c d → Does (phase_begun_by (Some terms)) a d
begun_some {b = b} {d = d} terms x y told z = record {
  stands = λ s k.
      let n : StandsFor b (new_phase terms s) = x.stands s k in
      subst (λ pair. StandsFor d (phase_called (starts pair) (new_phase terms s))) (ap (λ (t : LinkState). t.secrets) n.is) ((called_does y told z).stands (new_phase terms s) n);
}

pub sits_opened : {S : Type 0} {b c : LinkCore S} (a : LinkCore S) → b ≡ record a { auth = b.auth; words = b.words } → c ≡ record b { auth = c.auth } → opened a.lcp ≡ true → Sits (opened c.lcp) c
sits_opened {S = S} {b = b} {c = c} a e f h =
    let lcp : c.lcp ≡ a.lcp = ap (λ (x : LinkCore S). x.lcp) f ∙ ap (λ (x : LinkCore S). x.lcp) e in
    record { none = λ g. absurd (let z : true ≡ false = sym h ∙ ap opened (sym lcp) ∙ g in cc) }

pub begun_then : {S : Type 0} {a b : LinkCore S} {o : Option Agreed} {terms : Agreed}
    → o ≡ Some terms → ((s : LinkState) → StandsFor a s → agreed s ≡ o) → Does (phase_begun_by (Some terms)) a b → Does phase_begun a b
unfolding phase_begun
begun_then {b = b} e h d = record { stands = λ s k. subst (λ x. StandsFor b (phase_begun_by x s)) (sym (h s k ∙ e)) (d.stands s k) }

pub begun_else : {S : Type 0} {a : LinkCore S} {o : Option Agreed} → o ≡ None → ((s : LinkState) → StandsFor a s → agreed s ≡ o) → Does phase_begun a a
unfolding phase_begun
begun_else {a = a} e h = record { stands = λ s k. subst (λ x. StandsFor a (phase_begun_by x s)) (sym (h s k ∙ e)) k }

pub new_lives : {S : Type 0} {c : LinkCore S} {p : AuthPhase} {w words : ℕ} {challenge : List ℕ} {config : AuthConfig} (terms : Agreed)
    → is_some c.auth ≡ false
    → words ≡ c.words → challenge ≡ challenge_of words → w ≡ state_after 4 words → config ≡ auth_config c.config
    → (p.peer_proves ≡ terms.peer_proves) × (p.we_prove ≡ terms.we_prove) → (p.config ≡ config) × (p.challenge ≡ challenge) → IsPhase p []
    → Lives c → Lives (record c { auth = Some p; words = w })
new_lives terms p0 p1 p2 p3 p4 p5 p6 p7 l = lives_after (new_does terms p0 p1 p2 p3 p4 p5 p6 p7) l
