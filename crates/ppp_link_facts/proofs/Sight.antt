-- What the budget goes by of a link, and what a rule may do to it.
use Rattle.std.proofs.Common.{◌≡◌, ℕ, ◌+◌, ◌≤◌, Bool, true, false, Option, None, Some, List, [], ◌∷◌, length, refl, ap, sym, ◌∙◌, subst, arith}
use Rattle.std.specs.Prelude.{◌==◌, ◌&&◌, is_none, is_some}
use Rattle.std.proofs.lemmas.Bool.{false≢true}
use Rattle.ppp_dial.specs.declared.now.DialNow.{DialNow}
use Rattle.ppp_dial.specs.declared.now.DialNow.TheVariants.{Nothing}
use Rattle.ppp_fsm.specs.Moving.{is_shut}
use Rattle.ppp_hooks.specs.HookPast.{ends_in, open_in, starts_in}
use Rattle.ppp_lcp.specs.declared.wish.LcpWish.{LcpWish}
use Rattle.ppp_mark.specs.declared.mark.Mark.{Mark}
use Rattle.ppp_mark.specs.Scripts.{said_in}
use Rattle.ppp_option_words.specs.LinkValues.{LinkValues}
use Rattle.ppp_link_rules.specs.declared.errand.Errand.{Errand}
use Rattle.ppp_link_rules.specs.Dialling.{answer_of}
use Rattle.ppp_link_rules.specs.LinkState.{LinkState, lcp_state}
use Rattle.ppp_link_rules.specs.Marks.{Doing, cause_in, doing_in, is_session, lcp_open_in, since_in, stay_in, stopped_in}
use Rattle.ppp_link_facts.specs.Budget.{is_talking}
use Rattle.ppp_link_facts.proofs.LcpFacts.{shut_not_open}

-- the log, the state of LCP, whether there is a phase of authentication, a chat and an LCP part, and the errands
pub record Sight : Type 0 where
  pub past : List Mark
  pub limit : ℕ
  pub state : ℕ
  pub proves : Bool
  pub talks : Bool
  pub lines : Bool
  pub dial : Errand
  pub reading : Errand
  pub writing : Errand
  pub job : Bool
  pub time : ℕ
  pub config : LinkValues
  pub wish : LcpWish

abbrev pub sight : LinkState → Sight
sight s = record {
  past = s.log.past;
  limit = s.log.limit;
  state = lcp_state s;
  proves = is_some s.auth;
  talks = is_talking s.listener;
  lines = is_some s.lcp;
  dial = s.dial;
  reading = s.reading;
  writing = s.writing;
  job = s.job_out;
  time = s.time;
  config = s.config;
  wish = s.wish;
}

abbrev pub busy_in : Sight → Bool
busy_in x = is_session (doing_in x.past) && is_none (cause_in x.past)

-- the last answer of the dial, as the marks have it
abbrev pub last_by : Option DialNow → ℕ → DialNow × ℕ → DialNow × ℕ
last_by None time last = last
last_by (Some answer) time last = (answer, time)

abbrev pub last_told : List Mark → DialNow × ℕ
last_told [] = (Nothing, 0)
last_told (m ∷ past) = last_by (answer_of m) m.time (last_told past)

-- WHAT A RULE ADDS: so many marks at most, which tell nothing of what the link does, of its dial, or of a stop; no script ends, and one is started only where none runs.
pub record Adds (most : ℕ) (x y : Sight) : Type 0 where
  pub limit : y.limit ≡ x.limit
  pub few : length y.past ≤ length x.past + most
  pub longer : length x.past ≤ length y.past
  pub since : since_in y.past + length x.past ≡ since_in x.past + length y.past
  pub doing : doing_in y.past ≡ doing_in x.past
  pub told : last_told y.past ≡ last_told x.past
  pub stopped : stopped_in y.past ≡ stopped_in x.past
  pub ends : ends_in (said_in y.past) ≡ ends_in (said_in x.past)
  pub starts : starts_in (said_in x.past) ≤ starts_in (said_in y.past)
  pub one : starts_in (said_in x.past) ≤ ends_in (said_in x.past) + 1 → starts_in (said_in y.past) ≤ ends_in (said_in y.past) + 1
  pub caused : is_none (cause_in x.past) ≡ false → is_none (cause_in y.past) ≡ false
  pub talks : x.talks ≡ false → y.talks ≡ false
  pub lines : y.lines ≡ x.lines
  pub dial : y.dial ≡ x.dial
  pub reading : y.reading ≡ x.reading
  pub writing : y.writing ≡ x.writing
  pub job : y.job ≡ x.job
  pub time : y.time ≡ x.time
  pub config : y.config ≡ x.config
  pub wish : y.wish ≡ x.wish

pub adds_none : (x : Sight) → Adds 0 x x
adds_none x = record {
  limit = refl;
  few = omega arith;
  longer = omega arith;
  since = refl;
  doing = refl;
  told = refl;
  stopped = refl;
  ends = refl;
  starts = omega arith;
  one = λ h. h;
  caused = λ h. h;
  talks = λ h. h;
  lines = refl;
  dial = refl;
  reading = refl;
  writing = refl;
  job = refl;
  time = refl;
  config = refl;
  wish = refl;
}

pub adds_then : {k m : ℕ} {x y z : Sight} → Adds k x y → Adds m y z → Adds (k + m) x z
adds_then a b = record {
  limit = b.limit ∙ a.limit;
  few = omega (arith, a.few, b.few);
  longer = omega (arith, a.longer, b.longer);
  since = omega (arith, a.since, b.since);
  doing = b.doing ∙ a.doing;
  told = b.told ∙ a.told;
  stopped = b.stopped ∙ a.stopped;
  ends = b.ends ∙ a.ends;
  starts = omega (arith, a.starts, b.starts);
  one = λ h. b.one (a.one h);
  caused = λ h. b.caused (a.caused h);
  talks = λ h. b.talks (a.talks h);
  lines = b.lines ∙ a.lines;
  dial = b.dial ∙ a.dial;
  reading = b.reading ∙ a.reading;
  writing = b.writing ∙ a.writing;
  job = b.job ∙ a.job;
  time = b.time ∙ a.time;
  config = b.config ∙ a.config;
  wish = b.wish ∙ a.wish;
}

pub adds_more : {k m : ℕ} {x y : Sight} → k ≤ m → Adds k x y → Adds m x y
adds_more le a = record {
  limit = a.limit;
  few = omega (arith, a.few, le);
  longer = a.longer;
  since = a.since;
  doing = a.doing;
  told = a.told;
  stopped = a.stopped;
  ends = a.ends;
  starts = a.starts;
  one = a.one;
  caused = a.caused;
  talks = a.talks;
  lines = a.lines;
  dial = a.dial;
  reading = a.reading;
  writing = a.writing;
  job = a.job;
  time = a.time;
  config = a.config;
  wish = a.wish;
}

and_false : (a b c : Bool) → (b ≡ false → c ≡ false) → (a && b) ≡ false → (a && c) ≡ false
and_false true b c h e = h e
and_false false b c h e = refl

-- A session that something has ended isn't busy again.
pub still_ended : {k : ℕ} {x y : Sight} → Adds k x y → busy_in x ≡ false → busy_in y ≡ false
still_ended {x = x} {y = y} a e =
    ap (λ (d : Doing). is_session d && is_none (cause_in y.past)) a.doing
    ∙ and_false (is_session (doing_in x.past)) (is_none (cause_in x.past)) (is_none (cause_in y.past)) a.caused e

-- WHERE NOTHING IS MARKED FREELY

pub record Idle (x : Sight) : Type 0 where
  pub over : busy_in x ≡ false
  pub shut : is_shut x.state ≡ true
  pub phase : x.proves ≡ false
  pub stay : is_some (stay_in x.past) ≡ false
  pub auth : is_some (open_in (said_in x.past)) ≡ false
  pub silent : x.talks ≡ false

-- what there is in Opened alone
pub record SitsAt (opened : Bool) (x : Sight) : Type 0 where
  pub phase : opened ≡ false → x.proves ≡ false
  pub stay : opened ≡ false → is_some (stay_in x.past) ≡ false
  pub auth : opened ≡ false → is_some (open_in (said_in x.past)) ≡ false

abbrev pub SitsNow : Sight → Type 0
SitsNow x = SitsAt (x.state == 9) x

pub sits_any : {x : Sight} (opened : Bool) → SitsAt false x → SitsAt opened x
sits_any opened h = record { phase = λ e. h.phase refl; stay = λ e. h.stay refl; auth = λ e. h.auth refl }

pub sits_open : {x : Sight} (opened : Bool) → opened ≡ true → SitsAt opened x
sits_open opened is = record {
  phase = λ e. absurd (false≢true (sym e ∙ is));
  stay = λ e. absurd (false≢true (sym e ∙ is));
  auth = λ e. absurd (false≢true (sym e ∙ is));
}

pub idle_by : {x : Sight} → SitsNow x → busy_in x ≡ false → is_shut x.state ≡ true → x.talks ≡ false → Idle x
idle_by {x = x} h over shut silent =
    let closed : (x.state == 9) ≡ false = shut_not_open x.state shut in
    record { over = over; shut = shut; phase = h.phase closed; stay = h.stay closed; auth = h.auth closed; silent = silent }

pub idle_sits : {x : Sight} → Idle x → SitsNow x
idle_sits i = record { phase = λ e. i.phase; stay = λ e. i.stay; auth = λ e. i.auth }

-- The marks tell whether LCP is in Opened.
abbrev pub OpensNow : Sight → Type 0
OpensNow x = lcp_open_in x.past ≡ (x.state == 9)

-- A RULE

-- It adds so many marks at most, and none where nothing is marked freely; what there is in Opened alone is there in Opened alone; and what ends a session shuts LCP and ends the chat.
pub record Rule (most : ℕ) (x y : Sight) : Type 0 where
  pub adds : Adds most x y
  pub sits : SitsNow x → SitsNow y
  pub ends : SitsNow x → busy_in x ≡ true → busy_in y ≡ false → (is_shut y.state ≡ true) × (y.talks ≡ false)
  pub quiet : Idle x → (y.past ≡ x.past) × Idle y
  pub opens : OpensNow x → OpensNow y

pub rule_none : (x : Sight) → Rule 0 x x
rule_none x = record {
  adds = adds_none x;
  sits = λ h. h;
  ends = λ h goes over. absurd (false≢true (sym over ∙ goes));
  quiet = λ i. (refl, i);
  opens = λ h. h;
}

pub rule_same : {x y : Sight} → y ≡ x → Rule 0 x y
rule_same {x = x} e = subst (λ z. Rule 0 x z) (sym e) (rule_none x)

pub rule_more : {k m : ℕ} {x y : Sight} → k ≤ m → Rule k x y → Rule m x y
rule_more le r = record { adds = adds_more le r.adds; sits = r.sits; ends = r.ends; quiet = r.quiet; opens = r.opens }

ends_by : {m : ℕ} (x y z : Sight) (goes : Bool) → busy_in y ≡ goes → SitsNow y → Rule m y z
    → (busy_in y ≡ false → (is_shut y.state ≡ true) × (y.talks ≡ false)) → busy_in z ≡ false → (is_shut z.state ≡ true) × (z.talks ≡ false)
ends_by x y z true goes h b f over = b.ends h goes over
ends_by x y z false goes h b f over =
    let p : (is_shut y.state ≡ true) × (y.talks ≡ false) = f goes in
    let i : Idle z = (b.quiet (idle_by h goes p.0 p.1)).1 in
    (i.shut, i.silent)

pub then : {k m : ℕ} {x y z : Sight} → Rule k x y → Rule m y z → Rule (k + m) x z
then {x = x} {y = y} {z = z} a b = record {
  adds = adds_then a.adds b.adds;
  sits = λ h. b.sits (a.sits h);
  ends = λ h goes over. ends_by x y z (busy_in y) refl (a.sits h) b (a.ends h goes) over;
  quiet = λ i.
      let p = a.quiet i in
      let q = b.quiet p.1 in
      (q.0 ∙ p.0, q.1);
  opens = λ h. b.opens (a.opens h);
}

-- The same of a rule that comes only where something is marked freely.
pub record Loud (most : ℕ) (x y : Sight) : Type 0 where
  pub adds : Adds most x y
  pub sits : SitsNow x → SitsNow y
  pub ends : SitsNow x → busy_in x ≡ true → busy_in y ≡ false → (is_shut y.state ≡ true) × (y.talks ≡ false)
  pub opens : OpensNow x → OpensNow y

pub loud_of : {k : ℕ} {x y : Sight} → Rule k x y → Loud k x y
loud_of r = record { adds = r.adds; sits = r.sits; ends = r.ends; opens = r.opens }

pub loud_more : {k m : ℕ} {x y : Sight} → k ≤ m → Loud k x y → Loud m x y
loud_more le r = record { adds = adds_more le r.adds; sits = r.sits; ends = r.ends; opens = r.opens }

pub rule_of : {k : ℕ} {x y : Sight} → Loud k x y → (Idle x → (y.past ≡ x.past) × Idle y) → Rule k x y
rule_of l q = record { adds = l.adds; sits = l.sits; ends = l.ends; quiet = q; opens = l.opens }

pub loud_then : {k m : ℕ} {x y z : Sight} → Loud k x y → Rule m y z → Loud (k + m) x z
loud_then {x = x} {y = y} {z = z} a b = record {
  adds = adds_then a.adds b.adds;
  sits = λ h. b.sits (a.sits h);
  ends = λ h goes over. ends_by x y z (busy_in y) refl (a.sits h) b (a.ends h goes) over;
  opens = λ h. b.opens (a.opens h);
}

-- Where LCP is in Opened and stays so, and the session goes on.
pub rule_open : {k : ℕ} {x y : Sight} → Adds k x y → (x.state == 9) ≡ true → (y.state == 9) ≡ true → busy_in y ≡ busy_in x → (OpensNow x → OpensNow y) → Rule k x y
rule_open {x = x} {y = y} a is still same o = record {
  adds = a;
  sits = λ h. sits_open (y.state == 9) still;
  ends = λ h goes over. absurd (false≢true (sym over ∙ same ∙ goes));
  quiet = λ i. absurd (false≢true (sym (shut_not_open x.state i.shut) ∙ is));
  opens = o;
}
