-- Jobs: what the machine stands for behind each piece.
use Rattle.std.proofs.Common.{◌≡◌, ℕ, Bool, Option, None, Some, ◌∷◌, refl, ap, sym, subst, ◌∙◌}
use Rattle.std.specs.Prelude.{◌+◌, ◌&&◌, Err, IfNone, Ok, OnErr, OnOk, OnSome, Result, is_none, is_some, not}
use Rattle.ppp_hooks.specs.HookFacts.{settled, with_end}
use Rattle.ppp_hooks.specs.HookPast.{ends_in, open_in}
use Rattle.ppp_hooks.specs.HookRule.{due_after}
use Rattle.ppp_mark.specs.Log.{LogState}
use Rattle.ppp_mark.specs.Marks.{ended_mark}
use Rattle.ppp_mark.specs.ScriptLog.{log_ended}
use Rattle.ppp_mark.specs.Scripts.{said_in}
use Rattle.ppp_outside.specs.declared.line_words.LineWords.{LineWords}
use Rattle.ppp_outside.specs.declared.spawner.ScriptEnd.{ScriptEnd}
use Rattle.ppp_link_parts.specs.Records.{DialStands, RecordsNow, told}
use Rattle.ppp_link_rules.specs.Errands.{gives_job, with_job_out}
use Rattle.ppp_link_rules.specs.LinkPart.{job_ended}
use Rattle.ppp_link_rules.specs.LinkState.{LinkState}
use Rattle.ppp_link_rules.specs.Marks.{stay_in}
use Rattle.ppp_link_core.proofs.EndFacts.{starts_open, starts_stay}
use Rattle.ppp_link_core.proofs.StandFacts.{at_state, lives_after}
use Rattle.ppp_link_core.specs.Standing.{Does, Lives, Sits, StandsFor, histories_of, state_of}
use Rattle.ppp_link_core.specs.declared.link_core.LinkCore.{LinkCore}
use Rattle.ppp_link_steps.proofs.CalmLemmas.{calm_keeps, due_attempt, due_cause, due_doing, keeps_same}
use Rattle.ppp_link_steps.proofs.DialFacts.{calm_does}
use Rattle.ppp_link_steps.specs.Calm.{Calm}

-- A JOB IS TAKEN

given : {A : Type 0} (running : Bool) (o : Option A) → (running && not (is_none o)) ≡ (running && is_some o)
given running None = refl
given running (Some x) = refl

pub gives_is : {S A : Type 0} {c : LinkCore S} (job : Option A) → is_some job ≡ (is_some (told c.records).running && is_some c.records.scripts.machine.spawner)
    → (s : LinkState) → StandsFor c s → gives_job s ≡ is_some job
gives_is {c = c} job e s k = ap (λ (y : LinkState). gives_job y) (sym k.is) ∙ given (is_some (told c.records).running) c.records.scripts.machine.spawner ∙ sym e

abbrev without_job : {S : Type 0} → RecordsNow S → RecordsNow S
without_job r = record r { scripts = record r.scripts { machine = record r.scripts.machine { spawner = None } } }

out_does : {S : Type 0} {c : LinkCore S} {r : RecordsNow S} → r ≡ without_job c.records → ((line : LineWords) → DialStands line c.records → DialStands line r) → Does with_job_out c (record c { records = r })
out_does {c = c} {r = r} e dials = record {
  stands = λ s k. record {
    is = at_state c s (λ y. state_of (record c { records = r }) (histories_of (with_job_out y)) ≡ with_job_out y) k (rw e refl);
    id = rw e k.id;
    moment = k.moment;
    asks = k.asks;
    listens = k.listens;
    negotiates = k.negotiates;
    proves = k.proves;
    dials = dials c.config.line k.dials;
    policy = rw e k.policy;
    fits = k.fits;
    passes = k.passes;
  };
}

pub taken_does : {S A : Type 0} {r : RecordsNow S} (c : LinkCore S) (job : Option A) → OnSome job (r ≡ without_job c.records) → ((line : LineWords) → DialStands line c.records → DialStands line r)
    → OnSome job (Does with_job_out c (record c { records = r }))
taken_does c None e dials = e
taken_does c (Some x) e dials = out_does e dials

-- with other records, the session's parts are the same
pub taken_sits : {S : Type 0} {c : LinkCore S} {r : RecordsNow S} {was : Bool} → Sits was c → Sits was (record c { records = r })
taken_sits h = record { none = h.none }

same_records : {S : Type 0} {c : LinkCore S} {r : RecordsNow S} → r ≡ c.records → (record c { records = r }) ≡ c
same_records {c = c} e = ap (λ x. record c { records = x }) e

pub taken_lives : {S A : Type 0} {r : RecordsNow S} (c : LinkCore S) (job : Option A) → OnSome job (r ≡ without_job c.records) → IfNone job (r ≡ c.records)
    → ((line : LineWords) → DialStands line c.records → DialStands line r) → Lives c → Lives (record c { records = r })
taken_lives c None e f dials l = subst Lives (sym (same_records f)) l
taken_lives c (Some x) e f dials l = lives_after (out_does e dials) l

out_calm : {S : Type 0} {a b : LinkCore S} → Does with_job_out a b → Calm a → Calm b
out_calm d calm = calm_does (λ s c. calm_keeps (keeps_same (record { doing = refl; cause = refl; session = refl; dial = refl; failed = refl; lcp = refl; wish = refl; listener = refl })) c) d calm

pub taken_calm : {S A : Type 0} {r : RecordsNow S} (c : LinkCore S) (job : Option A) → OnSome job (r ≡ without_job c.records) → IfNone job (r ≡ c.records)
    → ((line : LineWords) → DialStands line c.records → DialStands line r) → Calm c → Calm (record c { records = r })
taken_calm c None e f dials l = subst Calm (sym (same_records f)) l
taken_calm c (Some x) e f dials l = out_calm (out_does e dials) l

-- A JOB HAS ENDED

ended_stay : (time : ℕ) (answer : ScriptEnd) (log : LogState) → stay_in (log_ended time answer log).past ≡ stay_in log.past
ended_stay time answer log = starts_stay time (due_after (said_in (ended_mark time answer (ends_in (said_in log.past) + 1) ∷ log.past))) (ended_mark time answer (ends_in (said_in log.past) + 1) ∷ log.past)

ended_open : (time : ℕ) (answer : ScriptEnd) (log : LogState) → open_in (said_in (log_ended time answer log).past) ≡ open_in (said_in log.past)
ended_open time answer log = starts_open time (due_after (said_in (ended_mark time answer (ends_in (said_in log.past) + 1) ∷ log.past))) (ended_mark time answer (ends_in (said_in log.past) + 1) ∷ log.past)

abbrev with_ended : {S : Type 0} → ℕ → ScriptEnd → S → RecordsNow S → RecordsNow S
with_ended time answer spawner r = record r {
  scripts = record r.scripts {
    machine = record r.scripts.machine { facts = settled (with_end r.scripts.machine.facts answer); spawner = Some spawner };
    log = log_ended time answer r.scripts.log;
  };
}

in_does : {S : Type 0} {r : RecordsNow S} (c : LinkCore S) (answer : ScriptEnd) (spawner : S) → r ≡ with_ended c.time answer spawner c.records
    → ((line : LineWords) → DialStands line c.records → DialStands line r) → Does (job_ended answer) c (record c { records = r })
in_does {r = r} c answer spawner e dials = record {
  stands = λ s k. record {
    is = at_state c s (λ y. state_of (record c { records = r }) (histories_of (job_ended answer y)) ≡ job_ended answer y) k (rw e refl);
    id = rw e k.id;
    moment = k.moment;
    asks = k.asks;
    listens = k.listens;
    negotiates = k.negotiates;
    proves = k.proves;
    dials = dials c.config.line k.dials;
    policy = rw e k.policy;
    fits = λ h. k.fits (ap is_some (sym (ended_stay s.time answer s.log)) ∙ h);
    passes = λ h. k.passes (ap is_some (sym (ended_open s.time answer s.log)) ∙ h);
  };
}

pub ended_does : {S A B : Type 0} {r : RecordsNow S} (c : LinkCore S) (answer : ScriptEnd) (spawner : S) (result : Result A B) → OnOk result (r ≡ with_ended c.time answer spawner c.records)
    → ((line : LineWords) → DialStands line c.records → DialStands line r) → OnOk result (Does (job_ended answer) c (record c { records = r }))
ended_does c answer spawner (Ok x) e dials = in_does c answer spawner e dials
ended_does c answer spawner (Err x) e dials = e

pub ended_lives : {S A B : Type 0} {r : RecordsNow S} (c : LinkCore S) (answer : ScriptEnd) (spawner : S) (result : Result A B) → OnOk result (r ≡ with_ended c.time answer spawner c.records) → OnErr result (r ≡ c.records)
    → ((line : LineWords) → DialStands line c.records → DialStands line r) → Lives c → Lives (record c { records = r })
ended_lives c answer spawner (Ok x) e f dials l = lives_after (in_does c answer spawner e dials) l
ended_lives c answer spawner (Err x) e f dials l = subst Lives (sym (same_records f)) l

in_calm : {S : Type 0} {a b : LinkCore S} (answer : ScriptEnd) → Does (job_ended answer) a b → Calm a → Calm b
in_calm answer d calm = calm_does (λ s c. calm_keeps (keeps_same (record {
  doing = due_doing s.time (ended_mark s.time answer (ends_in (said_in s.log.past) + 1) ∷ s.log.past);
  cause = due_cause s.time (ended_mark s.time answer (ends_in (said_in s.log.past) + 1) ∷ s.log.past);
  session = due_attempt s.time (ended_mark s.time answer (ends_in (said_in s.log.past) + 1) ∷ s.log.past);
  dial = refl;
  failed = refl;
  lcp = refl;
  wish = refl;
  listener = refl;
})) c) d calm

pub ended_calm : {S A B : Type 0} {r : RecordsNow S} (c : LinkCore S) (answer : ScriptEnd) (spawner : S) (result : Result A B) → OnOk result (r ≡ with_ended c.time answer spawner c.records) → OnErr result (r ≡ c.records)
    → ((line : LineWords) → DialStands line c.records → DialStands line r) → Calm c → Calm (record c { records = r })
ended_calm c answer spawner (Ok x) e f dials l = in_calm answer (in_does c answer spawner e dials) l
ended_calm c answer spawner (Err x) e f dials l = subst Calm (sym (same_records f)) l

pub ended_sits : {S : Type 0} {c : LinkCore S} {r : RecordsNow S} {was : Bool} → Sits was c → Sits was (record c { records = r })
ended_sits h = record { none = h.none }
