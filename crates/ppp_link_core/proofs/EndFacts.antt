-- How a session ends: what the machine stands for behind each piece.
use Rattle.std.proofs.Common.{◌≡◌, ℕ, Bool, true, false, Option, None, Some, List, [], ◌∷◌, ◌++◌, refl, ap, sym, subst, ◌∙◌}
use Rattle.std.specs.Prelude.{is_some}
use Rattle.ppp_base.specs.declared.hook_target.HookTarget.TheVariants.{Link}
use Rattle.ppp_base.specs.declared.posts.UpPost.{UpPost}
use Rattle.ppp_base.specs.RingAfter.{Ring}
use Rattle.ppp_base.specs.declared.send_settings.TheConstants.{DEFAULT_MAP}
use Rattle.ppp_control.specs.Rules.{by_itself, closes}
use Rattle.ppp_hdlc.specs.Deframing.{Deframing}
use Rattle.ppp_hooks.specs.HookMark.{HookMark, Opened, Closed, Started, Ended}
use Rattle.ppp_hooks.specs.HookPast.{open_in}
use Rattle.ppp_hooks.specs.HookRule.{due_after}
use Rattle.ppp_lcp.specs.declared.lcp.Lcp.{Lcp}
use Rattle.ppp_lcp.specs.declared.out.LcpOut.{LcpOut}
use Rattle.ppp_mark.specs.declared.mark.Mark.{Mark}
use Rattle.ppp_mark.specs.Log.{LogState}
use Rattle.ppp_mark.specs.Marks.{cause_mark, lcp_closed_mark, left_mark}
use Rattle.ppp_mark.specs.ScriptLog.{closed_facts, closed_mark, log_closed, log_closed_at}
use Rattle.ppp_mark.specs.Scripts.{marks_at, said_in}
use Rattle.ppp_link_parts.specs.Records.{DialStands, RecordsNow, marked_with, told}
use Rattle.ppp_link_parts.specs.Talk.{Listens, TalkNow}
use Rattle.ppp_link_parts.specs.UpRing.{has_leave, ring_of, values_of}
use Rattle.ppp_chat.specs.Script.{ChatScript}
use Rattle.ppp_outside.specs.declared.line_words.LineWords.{LineWords}
use Rattle.ppp_link_rules.specs.declared.cause.Cause.{Cause}
use Rattle.ppp_link_rules.specs.Ending.{auth_closed, caused, closed_if, closed_marked, ended_by, ended_if, first_caused, first_caused_by, given_up, lcp_closed, lcp_left, left_by, left_if, stay_left}
use Rattle.ppp_link_rules.specs.LinkState.{LcpPart, LinkState, Listener, control, is_busy, is_open}
use Rattle.ppp_link_rules.specs.Marks.{stay_in}
use Rattle.ppp_link_rules.specs.Rings.{put_control}
use Rattle.ppp_link_rules.specs.Sending.{packets_sent}
use Rattle.ppp_link_rules.specs.UpValue.{Leaves}
use Rattle.ppp_link_core.specs.declared.link_core.LinkCore.{LinkCore}
use Rattle.ppp_link_core.specs.Standing.{Does, Lives, Sits, StandsFor, histories_of, opened, state_of}
use Rattle.ppp_link_core.specs.Told.{closed_told, lcp_asked_by, lcp_asked_now, lcp_told, lcp_told_by}
use Rattle.ppp_link_core.proofs.StandFacts.{at_state, lives_after}

-- THE FIRST CAUSE

pub caused_does : {S : Type 0} {c : LinkCore S} {x : Cause} {r : RecordsNow S} {t : TalkNow}
    → r ≡ marked_with (cause_mark c.time x.number x.detail (told c.records).session) c.records
    → ((line : LineWords) → DialStands line c.records → DialStands line r)
    → ((script : Option ChatScript) (listener : Listener) → Listens script c.talk listener → Listens script t (given_up listener))
    → Does (caused x) c (record c { records = r; talk = t })
unfolding caused
caused_does {c = c} {x = x} {r = r} {t = t} e d l = record {
  stands = λ s k. record {
    is = at_state c s (λ y. state_of (record c { records = r; talk = t }) (histories_of (caused x y)) ≡ caused x y) k (rw e refl);
    id = rw e k.id;
    moment = k.moment;
    asks = k.asks;
    listens = l c.config.script s.listener k.listens;
    negotiates = k.negotiates;
    proves = k.proves;
    dials = d c.config.line k.dials;
    policy = rw e k.policy;
    fits = k.fits;
    passes = k.passes;
  };
}

pub none_caused : {S : Type 0} {c : LinkCore S} {o : Option Cause} (first : Bool) → o ≡ None → Does (first_caused_by o first) c c
none_caused {c = c} first e = record { stands = λ s k. subst (λ o. StandsFor c (first_caused_by o first s)) (sym e) k }

pub not_caused : {S : Type 0} {c : LinkCore S} {o : Option Cause} {x : Cause} {first : Bool} → o ≡ Some x → first ≡ false → Does (first_caused_by o first) c c
not_caused {c = c} {x = x} e f = record { stands = λ s k. rw (e, f) k }

pub first_is : {S : Type 0} {a b : LinkCore S} {o : Option Cause} {x : Cause} {first : Bool} → o ≡ Some x → first ≡ true → Does (caused x) a b → Does (first_caused_by o first) a b
first_is {b = b} {x = x} e f d = record { stands = λ s k. rw (e, f) (d.stands s k) }

pub first_does : {S : Type 0} {a b : LinkCore S} {first : Bool} (o : Option Cause)
    → ((s : LinkState) → StandsFor a s → is_busy s ≡ first) → Does (first_caused_by o first) a b → Does (first_caused o) a b
first_does {b = b} o busy d = record { stands = λ s k. subst (λ x. StandsFor b (first_caused_by o x s)) (sym (busy s k)) (d.stands s k) }

-- LCP LEAVES OPENED

pub marked_does : {S : Type 0} {c : LinkCore S} {r : RecordsNow S} {d : Deframing}
    → r ≡ marked_with (lcp_closed_mark c.time (told c.records).openings) c.records
    → ((line : LineWords) → DialStands line c.records → DialStands line r)
    → d ≡ record c.deframer { map = DEFAULT_MAP }
    → Does closed_marked c (record c { records = r; deframer = d })
marked_does {c = c} {r = r} {d = d} e dials f = record {
  stands = λ s k. record {
    is = at_state c s (λ y. state_of (record c { records = r; deframer = d }) (histories_of (closed_marked y)) ≡ closed_marked y) k (rw (e, f) refl);
    id = rw e k.id;
    moment = k.moment;
    asks = k.asks;
    listens = k.listens;
    negotiates = k.negotiates;
    proves = k.proves;
    dials = dials c.config.line k.dials;
    policy = rw e k.policy;
    fits = k.fits;
    passes = k.passes;
  };
}

-- the marks of starts tell nothing of the stay, nor of what is open
pub starts_stay : (time : ℕ) (hooks : List HookMark) (past : List Mark) → stay_in (marks_at time hooks ++ past) ≡ stay_in past
starts_stay time [] past = refl
starts_stay time (Opened n ∷ hooks) past = starts_stay time hooks past
starts_stay time (Closed n ∷ hooks) past = starts_stay time hooks past
starts_stay time (Started true n ∷ hooks) past = starts_stay time hooks past
starts_stay time (Started false n ∷ hooks) past = starts_stay time hooks past
starts_stay time (Ended answer job ∷ hooks) past = starts_stay time hooks past

pub starts_open : (time : ℕ) (hooks : List HookMark) (past : List Mark) → open_in (said_in (marks_at time hooks ++ past)) ≡ open_in (said_in past)
starts_open time [] past = refl
starts_open time (Opened n ∷ hooks) past = starts_open time hooks past
starts_open time (Closed n ∷ hooks) past = starts_open time hooks past
starts_open time (Started true n ∷ hooks) past = starts_open time hooks past
starts_open time (Started false n ∷ hooks) past = starts_open time hooks past
starts_open time (Ended answer job ∷ hooks) past = starts_open time hooks past

closed_stay : (id time : ℕ) (o : Option ℕ) (log : LogState) → stay_in (log_closed_at (Link id) time o log).past ≡ stay_in log.past
closed_stay id time None log = refl
closed_stay id time (Some n) log = starts_stay time (due_after (said_in (closed_mark (Link id) time n ∷ log.past))) (closed_mark (Link id) time n ∷ log.past)

closed_open : (id time : ℕ) (o : Option ℕ) (log : LogState) → open_in (said_in log.past) ≡ o → open_in (said_in (log_closed_at (Link id) time o log).past) ≡ None
closed_open id time None log e = e
closed_open id time (Some n) log e = starts_open time (due_after (said_in (closed_mark (Link id) time n ∷ log.past))) (closed_mark (Link id) time n ∷ log.past)

pub shut_by : (id time : ℕ) (log : LogState) → open_in (said_in (log_closed (Link id) time log).past) ≡ None
shut_by id time log = closed_open id time (open_in (said_in log.past)) log refl

pub same_stay : (id time : ℕ) (log : LogState) → stay_in (log_closed (Link id) time log).past ≡ stay_in log.past
same_stay id time log = closed_stay id time (open_in (said_in log.past)) log

abbrev scripts_closed : {S : Type 0} → ℕ → RecordsNow S → RecordsNow S
scripts_closed time r = record r {
  scripts = record r.scripts {
    machine = record r.scripts.machine { facts = closed_facts r.scripts.machine.facts };
    log = log_closed (Link r.id) time r.scripts.log;
  };
}

pub auth_closed_does : {S : Type 0} {c : LinkCore S} {r : RecordsNow S}
    → r ≡ scripts_closed c.time c.records
    → ((line : LineWords) → DialStands line c.records → DialStands line r)
    → Does auth_closed c (record c { records = r; auth = None })
auth_closed_does {c = c} {r = r} e dials = record {
  stands = λ s k. record {
    is = at_state c s (λ y. state_of (record c { records = r; auth = None }) (histories_of (auth_closed y)) ≡ auth_closed y) k (rw (e, k.id) refl);
    id = rw e k.id;
    moment = k.moment;
    asks = k.asks;
    listens = k.listens;
    negotiates = k.negotiates;
    proves = tt;
    dials = dials c.config.line k.dials;
    policy = rw e k.policy;
    fits = λ h. k.fits (ap is_some (sym (same_stay s.id s.time s.log)) ∙ h);
    passes = λ h. absurd (let x : false ≡ true = ap is_some (sym (shut_by s.id s.time s.log)) ∙ h in cc);
  };
}

pub no_leave : {S : Type 0} {c : LinkCore S} {stay : ℕ} → Lives c → (told c.records).stay ≡ Some stay → has_leave (values_of c.up.waiting) ≡ false
no_leave {c = c} l e =
    ap (λ (y : LinkState). has_leave y.up.waiting) l.stands.is ∙ l.stands.fits (ap (λ (y : LinkState). is_some (control y).stay) (sym l.stands.is) ∙ ap is_some e)

pub left_does : {S : Type 0} {c : LinkCore S} {stay : ℕ} {r : RecordsNow S} {u : Ring UpPost}
    → (told c.records).stay ≡ Some stay
    → r ≡ marked_with (left_mark c.time stay) c.records
    → ((line : LineWords) → DialStands line c.records → DialStands line r)
    → ring_of u ≡ put_control (Leaves stay) (ring_of c.up)
    → Does stay_left c (record c { records = r; up = u })
left_does {c = c} {stay = stay} {r = r} {u = u} there e dials f = record {
  stands = λ s k.
      let now : LinkState → LinkState = left_by (Some stay) in
      let is : (control s).stay ≡ Some stay = ap (λ (y : LinkState). (control y).stay) (sym k.is) ∙ there in
      subst (λ o. StandsFor (record c { records = r; up = u }) (left_by o s)) (sym is) (record {
        is = at_state c s (λ y. state_of (record c { records = r; up = u }) (histories_of (left_by (Some stay) y)) ≡ left_by (Some stay) y) k (rw (e, f) refl);
        id = rw e k.id;
        moment = k.moment;
        asks = k.asks;
        listens = k.listens;
        negotiates = k.negotiates;
        proves = k.proves;
        dials = dials c.config.line k.dials;
        policy = rw e k.policy;
        fits = λ h. absurd (let x : false ≡ true = h in cc);
        passes = k.passes;
      });
}

pub no_stay : {S : Type 0} {c : LinkCore S} → (told c.records).stay ≡ None → Does stay_left c c
no_stay {c = c} e = record {
  stands = λ s k. subst (λ o. StandsFor c (left_by o s)) (sym (ap (λ (y : LinkState). (control y).stay) (sym k.is) ∙ e)) k;
}

pub lcp_left_does : {S : Type 0} {a b c d : LinkCore S} → Does closed_marked a b → Does auth_closed b c → Does stay_left c d → Does lcp_left a d
unfolding lcp_left
lcp_left_does x y z = record { stands = λ s k. z.stands (auth_closed (closed_marked s)) (y.stands (closed_marked s) (x.stands s k)) }

pub left_then : {S : Type 0} {a b : LinkCore S} {was : Bool} → was ≡ true → Does lcp_left a b → Does (left_if was) a b
left_then {b = b} e d = record { stands = λ s k. subst (λ x. StandsFor b (left_if x s)) (sym e) (d.stands s k) }

pub left_else : {S : Type 0} {a : LinkCore S} {was : Bool} → was ≡ false → Does (left_if was) a a
left_else {a = a} e = record { stands = λ s k. subst (λ x. StandsFor a (left_if x s)) (sym e) k }

-- LCP IS CLOSED

pub closed_some : {S : Type 0} {a b c : LinkCore S} {o : Option LcpOut} {out : LcpOut} (was : Bool)
    → o ≡ Some out → Does (packets_sent out.packets) a b → Does (left_if was) b c → Does (closed_told was o) a c
closed_some {c = c} {out = out} was e x y = record {
  stands = λ s k. subst (λ o. StandsFor c (closed_told was o s)) (sym e) (y.stands (packets_sent out.packets s) (x.stands s k));
}

pub closed_none : {S : Type 0} {a : LinkCore S} {o : Option LcpOut} (was : Bool) → o ≡ None → Does (closed_told was o) a a
closed_none {a = a} was e = record { stands = λ s k. subst (λ o. StandsFor a (closed_told was o s)) (sym e) k }

closed_is : (s : LinkState) (o : Option LcpPart) → s.lcp ≡ o
    → closed_told (is_open s) (lcp_told_by (by_itself closes) s.time s o) (lcp_asked_by (by_itself closes) s.time s o) ≡ lcp_closed s
unfolding lcp_closed
closed_is s None e = rw e refl
closed_is s (Some part) e = rw e refl

pub lcp_closed_does : {S : Type 0} {a b c : LinkCore S} {was : Bool} {o : Option LcpOut}
    → ((s : LinkState) → StandsFor a s → is_open s ≡ was)
    → ((s : LinkState) → StandsFor a s → o ≡ lcp_told (by_itself closes) s.time s)
    → Does (lcp_asked_now (by_itself closes)) a b → Does (closed_told was o) b c → Does lcp_closed a c
lcp_closed_does {c = c} {was = was} {o = o} is told x y = record {
  stands = λ s k.
      let t : StandsFor c (closed_told was o (lcp_asked_now (by_itself closes) s)) = y.stands (lcp_asked_now (by_itself closes) s) (x.stands s k) in
      subst (λ z. StandsFor c z) (closed_is s s.lcp refl)
      (subst (λ z. StandsFor c (closed_told z (lcp_told (by_itself closes) s.time s) (lcp_asked_now (by_itself closes) s))) (sym (is s k))
      (subst (λ z. StandsFor c (closed_told was z (lcp_asked_now (by_itself closes) s))) (told s k) t));
}

pub closed_then : {S : Type 0} {a b : LinkCore S} {first : Bool} → first ≡ true → Does lcp_closed a b → Does (closed_if first) a b
closed_then {b = b} e d = record { stands = λ s k. subst (λ x. StandsFor b (closed_if x s)) (sym e) (d.stands s k) }

pub closed_else : {S : Type 0} {a : LinkCore S} {first : Bool} → first ≡ false → Does (closed_if first) a a
closed_else {a = a} e = record { stands = λ s k. subst (λ x. StandsFor a (closed_if x s)) (sym e) k }

pub ended_then : {S : Type 0} {a b c : LinkCore S} {busy : Bool} (x : Cause) → busy ≡ true → Does (caused x) a b → Does lcp_closed b c → Does (ended_if busy x) a c
ended_then {c = c} x e d f = record { stands = λ s k. subst (λ b. StandsFor c (ended_if b x s)) (sym e) (f.stands (caused x s) (d.stands s k)) }

pub ended_else : {S : Type 0} {a : LinkCore S} {busy : Bool} (x : Cause) → busy ≡ false → Does (ended_if busy x) a a
ended_else {a = a} x e = record { stands = λ s k. subst (λ b. StandsFor a (ended_if b x s)) (sym e) k }

pub ended_does : {S : Type 0} {a b : LinkCore S} {busy : Bool} (x : Cause) → ((s : LinkState) → StandsFor a s → is_busy s ≡ busy) → Does (ended_if busy x) a b → Does (ended_by x) a b
unfolding ended_by
ended_does {b = b} x is d = record { stands = λ s k. subst (λ y. StandsFor b (ended_if y x s)) (sym (is s k)) (d.stands s k) }

pub sits_without : {S : Type 0} {c : LinkCore S} {was : Bool} → is_some c.auth ≡ false → Sits was c
sits_without e = record { none = λ _. e }

none_opened : (o : Option Lcp) → is_some o ≡ false → opened o ≡ false
none_opened None e = refl
none_opened (Some l) e = absurd (let x : true ≡ false = e in cc)

pub no_phase : {S : Type 0} {a b : LinkCore S} (o : Option LcpOut) → is_some o ≡ is_some a.lcp → b ≡ record a { lcp = b.lcp } → Sits (opened a.lcp) a → is_some o ≡ false → is_some b.auth ≡ false
no_phase {S = S} {a = a} o e f h g = ap (λ (x : LinkCore S). is_some x.auth) f ∙ h.none (none_opened a.lcp (sym e ∙ g))

pub sits_behind : {S : Type 0} {a b : LinkCore S} {was : Bool} → was ≡ opened a.lcp → b ≡ record a { lcp = b.lcp } → Sits (opened a.lcp) a → Sits was b
sits_behind {S = S} e f h = record { none = λ g. ap (λ (x : LinkCore S). is_some x.auth) f ∙ h.none (sym e ∙ g) }

pub caused_lives : {S : Type 0} {c : LinkCore S} {x : Cause} {r : RecordsNow S} {t : TalkNow}
    → r ≡ marked_with (cause_mark c.time x.number x.detail (told c.records).session) c.records
    → ((line : LineWords) → DialStands line c.records → DialStands line r)
    → ((script : Option ChatScript) (listener : Listener) → Listens script c.talk listener → Listens script t (given_up listener))
    → Lives c → Lives (record c { records = r; talk = t })
caused_lives p0 p1 p2 l = lives_after (caused_does p0 p1 p2) l

pub marked_lives : {S : Type 0} {c : LinkCore S} {r : RecordsNow S} {d : Deframing}
    → r ≡ marked_with (lcp_closed_mark c.time (told c.records).openings) c.records
    → ((line : LineWords) → DialStands line c.records → DialStands line r)
    → d ≡ record c.deframer { map = DEFAULT_MAP }
    → Lives c → Lives (record c { records = r; deframer = d })
marked_lives p0 p1 p2 l = lives_after (marked_does p0 p1 p2) l

pub auth_closed_lives : {S : Type 0} {c : LinkCore S} {r : RecordsNow S}
    → r ≡ scripts_closed c.time c.records
    → ((line : LineWords) → DialStands line c.records → DialStands line r)
    → Lives c → Lives (record c { records = r; auth = None })
auth_closed_lives p0 p1 l = lives_after (auth_closed_does p0 p1) l

pub left_lives : {S : Type 0} {c : LinkCore S} {stay : ℕ} {r : RecordsNow S} {u : Ring UpPost}
    → (told c.records).stay ≡ Some stay
    → r ≡ marked_with (left_mark c.time stay) c.records
    → ((line : LineWords) → DialStands line c.records → DialStands line r)
    → ring_of u ≡ put_control (Leaves stay) (ring_of c.up)
    → Lives c → Lives (record c { records = r; up = u })
left_lives p0 p1 p2 p3 l = lives_after (left_does p0 p1 p2 p3) l
