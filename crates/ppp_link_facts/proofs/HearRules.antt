-- What the octets of the line, the line's end, a tick's slots and the table's posts lead to: what each rule adds.
use Rattle.std.proofs.Common.{◌≡◌, ℕ, ◌≤◌, ◌<◌, Bool, true, false, Some, List, [], ◌∷◌, ◌++◌, refl, ap, sym, ◌∙◌, subst, arith}
use Rattle.std.specs.Prelude.{◌&&◌, nat_le, not, is_none, is_some}
use Rattle.std.proofs.lemmas.Bool.{false≢true}
use Rattle.std.proofs.lemmas.Bool.Decides.{nat_tests}
use Rattle.ppp_chat.specs.declared.event.Event.{Event as ChatEvent}
use Rattle.ppp_chat.specs.declared.now.ChatNow.{ChatNow}
use Rattle.ppp_chat.specs.declared.now.ChatNow.TheVariants.{Going, Sent, Done, TimedOut, Aborted}
use Rattle.ppp_chat.specs.Event.{octet_at, tick_at}
use Rattle.ppp_control.specs.Rules.{by_itself, comes_up, goes_down, opens}
use Rattle.ppp_hdlc.specs.Deframing.{heard_at}
use Rattle.ppp_hdlc.specs.declared.heard.Heard.{Heard}
use Rattle.ppp_hdlc.specs.declared.heard.Heard.TheVariants as heard
use Rattle.ppp_packet.specs.PacketOf.{packet_in}
use Rattle.ppp_mark.specs.declared.mark.Mark.{Mark}
use Rattle.ppp_link_rules.specs.declared.cause.Cause.{Cause}
use Rattle.ppp_link_rules.specs.declared.limits.TheConstants.{MOST_MARKS}
use Rattle.ppp_link_rules.specs.Authentication.{join_tried}
use Rattle.ppp_link_rules.specs.CauseStatus.{chat_aborted, chat_timed_out, too_many_marks}
use Rattle.ppp_link_rules.specs.Ending.{caused, closed_if, first_caused_by, lcp_closed}
use Rattle.ppp_link_rules.specs.Hearing.{chat_answer, chat_called, chat_told, ended_if_many, frame_taken, chat_ticked_by, has_many, heard_taken, link_opened, looked_after, octet_taken, octet_to, treated, with_fed}
use Rattle.ppp_link_rules.specs.LcpCalls.{lcp_called}
use Rattle.ppp_link_rules.specs.LinkState.{Chatting, Framing, LinkState, Listener, Nobody, agreed, control, has_passed, is_busy, is_lasting, is_open, outcome_of}
use Rattle.ppp_link_rules.specs.Marks.{since_in}
use Rattle.ppp_link_rules.specs.Phase.{Discarded, Phase, ToAuth, ToLcp, ToReject, ToTable, Treatment, phase_by}
use Rattle.ppp_link_rules.specs.Sessions.{line_gone, line_gone_if, line_lost, with_line_ended}
use Rattle.ppp_link_facts.specs.Budget.{is_talking}
use Rattle.ppp_link_facts.proofs.AuthRules.{join_rule, phase_heard_rule}
use Rattle.ppp_link_facts.proofs.EndRules.{caused_adds, caused_silent, caused_now, caused_opens_now, closed_adds, closed_opens, closed_shut, closed_sits, ended_over, ended_rule}
use Rattle.ppp_link_facts.proofs.LcpRules.{called_loud, called_rule, heard_rule, rejected_rule}
use Rattle.ppp_link_facts.proofs.Sight.{Adds, Loud, Rule, Sight, adds_then, busy_in, loud_of, loud_then, rule_more, rule_none, rule_of, sight, sits_any, still_ended, then}

-- a session that goes on behind a rule went on before it
before_busy : {k : ℕ} {x y : Sight} (b : Bool) → busy_in x ≡ b → Adds k x y → busy_in y ≡ true → busy_in x ≡ true
before_busy true e a goes = e
before_busy false e a goes = absurd (false≢true (sym (still_ended a e) ∙ goes))

pub was_busy : {k : ℕ} {x y : Sight} → Adds k x y → busy_in y ≡ true → busy_in x ≡ true
was_busy {x = x} a goes = before_busy (busy_in x) refl a goes

few_then : {x y : Sight} → Adds 26 x y → busy_in y ≡ true → (busy_in x ≡ true → since_in x.past < MOST_MARKS) → since_in y.past < 926
few_then a goes f = omega (arith, f (was_busy a goes), a.since, a.few)

few_back : {x y : Sight} → Adds 26 x y → busy_in y ≡ true → (busy_in x ≡ true → since_in x.past < MOST_MARKS) → since_in x.past < MOST_MARKS
few_back a goes f = f (was_busy a goes)

ap_few : {past now : List Mark} → now ≡ past → since_in past < MOST_MARKS → since_in now < MOST_MARKS
ap_few e h = subst (λ p. since_in p < MOST_MARKS) (sym e) h

-- THE LOOK AT THE STAY AND THE MARKS

many_rule : (b : Bool) (s : LinkState) → Rule 5 (sight s) (sight (ended_if_many b s))
many_rule true s = ended_rule too_many_marks s
many_rule false s = rule_more (omega arith) (rule_none (sight s))

pub looked_rule : (s : LinkState) → Rule 6 (sight s) (sight (looked_after s))
unfolding looked_after
looked_rule s = then {k = 1} {y = sight (join_tried s)} (join_rule s) (many_rule (has_many (join_tried s)) (join_tried s))

and_left : (a b : Bool) → (a && b) ≡ true → a ≡ true
and_left true b e = refl
and_left false b e = e

below : (n : ℕ) → nat_le MOST_MARKS n ≡ false → n < MOST_MARKS
below n e = grind (arith, nat_tests, e)

few_where : (lasts many : Bool) → lasts ≡ true → (lasts && many) ≡ false → many ≡ false
few_where true many e f = f
few_where false many e f = absurd (false≢true e)

few_by : (b : Bool) (s : LinkState) → has_many s ≡ b → busy_in (sight (ended_if_many b s)) ≡ true → since_in (ended_if_many b s).log.past < MOST_MARKS
few_by true s e goes = absurd (false≢true (sym (ended_over too_many_marks s) ∙ goes))
few_by false s e goes =
    below (since_in s.log.past) (few_where (is_lasting s) (nat_le MOST_MARKS (since_in s.log.past)) (and_left (is_lasting s) (is_none (control s).cause) goes) e)

-- Behind it a session that goes on has fewer than nine hundred marks.
pub looked_few : (s : LinkState) → busy_in (sight (looked_after s)) ≡ true → since_in (looked_after s).log.past < MOST_MARKS
unfolding looked_after
looked_few s goes = few_by (has_many (join_tried s)) (join_tried s) refl goes

-- FRAMES

treated_rule : (t : Treatment) (protocol : ℕ) (information : List ℕ) (s : LinkState) → Rule 13 (sight s) (sight (treated t protocol information s))
treated_rule ToLcp protocol information s = heard_rule (packet_in information) s
treated_rule ToAuth protocol information s = rule_more (omega arith) (phase_heard_rule protocol (packet_in information) s)
treated_rule ToTable protocol information s = rule_more (omega arith) (rule_none (sight s))
treated_rule ToReject protocol information s = rejected_rule protocol information s
treated_rule Discarded protocol information s = rule_more (omega arith) (rule_none (sight s))

pub frame_rule : (protocol : ℕ) (information : List ℕ) (s : LinkState) → Rule 13 (sight s) (sight (frame_taken protocol information s))
unfolding frame_taken
frame_rule protocol information s = treated_rule (Phase (phase_by (is_open s) (has_passed (outcome_of s.auth))) (agreed s) protocol) protocol information s

pub heard_taken_rule : (h : Heard) (s : LinkState) → Rule 19 (sight s) (sight (heard_taken h s))
heard_taken_rule heard.Nothing s = rule_more (omega arith) (rule_none (sight s))
heard_taken_rule (heard.Frame protocol information) s = then {k = 13} {y = sight (frame_taken protocol information s)} (frame_rule protocol information s) (looked_rule (frame_taken protocol information s))
heard_taken_rule (heard.Dropped fault) s = rule_more (omega arith) (looked_rule s)

-- either nothing was marked, or the marks were looked at
pub heard_taken_few : (h : Heard) (s : LinkState) (most : ℕ) → MOST_MARKS ≤ most → (busy_in (sight s) ≡ true → since_in s.log.past < most)
    → busy_in (sight (heard_taken h s)) ≡ true → since_in (heard_taken h s).log.past < most
heard_taken_few heard.Nothing s most le few goes = few goes
heard_taken_few (heard.Frame protocol information) s most le few goes = omega (arith, le, looked_few (frame_taken protocol information s) goes)
heard_taken_few (heard.Dropped fault) s most le few goes = omega (arith, le, looked_few s goes)

-- THE CHAT

framing_adds : (s : LinkState) → Adds 0 (sight s) (sight (record s { listener = Framing }))
framing_adds s = record {
  limit = refl;
  few = omega arith;
  longer = omega arith;
  since = refl;
  doing = refl;
  told = refl;
  stopped = refl;
  ends = refl;
  starts = omega arith;
  one = λ e. e;
  caused = λ e. e;
  talks = λ e. refl;
  lines = refl;
  dial = refl;
  reading = refl;
  writing = refl;
  job = refl;
  time = refl;
  config = refl;
  wish = refl;
}

-- The chat is over and frames are heard: but for that nothing has changed.
pub opened_loud : (s : LinkState) → Loud 26 (sight s) (sight (link_opened s))
unfolding link_opened
opened_loud s =
    let a : LinkState = record s { listener = Framing } in
    let b : LinkState = lcp_called (by_itself opens) a in
    let l : Loud 26 (sight a) (sight (lcp_called (by_itself comes_up) b)) = loud_then {k = 13} {y = sight b} (called_loud (by_itself opens) a) (called_rule (by_itself comes_up) b refl) in
    record {
      adds = adds_then {k = 0} (framing_adds s) l.adds;
      sits = λ h. l.sits (record { phase = h.phase; stay = h.stay; auth = h.auth });
      ends = λ h goes over. l.ends (record { phase = h.phase; stay = h.stay; auth = h.auth }) goes over;
      opens = λ h. l.opens h;
    }

pub opened_silent : (s : LinkState) → is_talking (link_opened s).listener ≡ false
unfolding link_opened
opened_silent s =
    let a : LinkState = record s { listener = Framing } in
    let b : LinkState = lcp_called (by_itself opens) a in
    (called_loud (by_itself comes_up) b).adds.talks ((called_loud (by_itself opens) a).adds.talks refl)

pub told_loud : (now : ChatNow) (s : LinkState) → Loud 26 (sight s) (sight (chat_told now s))
told_loud Going s = loud_of (rule_more (omega arith) (rule_none (sight s)))
told_loud (Sent octets) s = loud_of (rule_more (omega arith) (rule_none (sight s)))
told_loud Done s = opened_loud s
told_loud TimedOut s = loud_of (rule_more (omega arith) (ended_rule chat_timed_out s))
told_loud (Aborted number) s = loud_of (rule_more (omega arith) (ended_rule (chat_aborted number) s))

-- A chat that goes on has marked nothing.
pub told_few : (now : ChatNow) (s : LinkState) → is_talking (chat_told now s).listener ≡ true → busy_in (sight (chat_told now s)) ≡ true → (chat_told now s).log.past ≡ s.log.past
told_few Going s talks goes = refl
told_few (Sent octets) s talks goes = refl
told_few Done s talks goes = absurd (false≢true (sym (opened_silent s) ∙ talks))
told_few TimedOut s talks goes = absurd (false≢true (sym (ended_over chat_timed_out s) ∙ goes))
told_few (Aborted number) s talks goes = absurd (false≢true (sym (ended_over (chat_aborted number) s) ∙ goes))

-- With one more call of the chat.
abbrev pub chatting : ChatEvent → List ChatEvent → LinkState → LinkState
chatting event calls s = record s { listener = Chatting (calls ++ event ∷ []) }

pub chat_is : (event : ChatEvent) (calls : List ChatEvent) (s : LinkState) → chat_called event calls s ≡ chat_told (chat_answer s.config.script calls event) (chatting event calls s)
unfolding chat_called
chat_is event calls s = refl

pub chat_loud : (event : ChatEvent) (calls : List ChatEvent) (s : LinkState) → Loud 26 (sight (chatting event calls s)) (sight (chat_called event calls s))
unfolding chat_called
chat_loud event calls s = told_loud (chat_answer s.config.script calls event) (chatting event calls s)

pub chat_few : (event : ChatEvent) (calls : List ChatEvent) (s : LinkState) → is_talking (chat_called event calls s).listener ≡ true → busy_in (sight (chat_called event calls s)) ≡ true
    → (chat_called event calls s).log.past ≡ s.log.past
unfolding chat_called
chat_few event calls s talks goes = told_few (chat_answer s.config.script calls event) (chatting event calls s) talks goes

chatting_same : (event : ChatEvent) (calls : List ChatEvent) (s : LinkState) → is_talking s.listener ≡ true → sight (chatting event calls s) ≡ sight s
chatting_same event calls s e = ap (λ (b : Bool). record (sight s) { talks = b }) (sym e)

-- Of a chat that goes on it is a rule.
pub chat_rule : (event : ChatEvent) (calls : List ChatEvent) (s : LinkState) → is_talking s.listener ≡ true → Rule 26 (sight s) (sight (chat_called event calls s))
chat_rule event calls s e =
    rule_of (subst (λ (x : Sight). Loud 26 x (sight (chat_called event calls s))) (chatting_same event calls s e) (chat_loud event calls s))
    (λ i. absurd (false≢true (sym i.silent ∙ e)))

-- ONE OCTET

octet_rule_by : (l : Listener) (octet : ℕ) (s : LinkState) → s.listener ≡ l → Rule 26 (sight s) (sight (octet_to l octet s))
octet_rule_by Nobody octet s e = rule_more (omega arith) (rule_none (sight s))
octet_rule_by (Chatting calls) octet s e = chat_rule (octet_at octet s.time) calls s (ap is_talking e)
octet_rule_by Framing octet s e = rule_more (omega arith) (heard_taken_rule (heard_at octet s.deframer) (with_fed octet s))

pub octet_rule : (octet : ℕ) (s : LinkState) → Rule 26 (sight s) (sight (octet_taken octet s))
unfolding octet_taken
octet_rule octet s = octet_rule_by s.listener octet s refl

-- the marks behind it: fewer than 926, and while the chat goes on fewer than 900
pub record FewMarks (s : LinkState) : Type 0 where
  pub all : busy_in (sight s) ≡ true → since_in s.log.past < 926
  pub talks : is_talking s.listener ≡ true → busy_in (sight s) ≡ true → since_in s.log.past < MOST_MARKS

octet_few_by : (l : Listener) (octet : ℕ) (s : LinkState) → s.listener ≡ l → FewMarks s → FewMarks (octet_to l octet s)
octet_few_by Nobody octet s e f = f
octet_few_by (Chatting calls) octet s e f =
    let event : ChatEvent = octet_at octet s.time in
    let r : Rule 26 (sight s) (sight (chat_called event calls s)) = chat_rule event calls s (ap is_talking e) in
    record {
      all = λ goes. few_then r.adds goes (f.talks (ap is_talking e));
      talks = λ talks goes. ap_few (chat_few event calls s talks goes) (few_back r.adds goes (f.talks (ap is_talking e)));
    }
octet_few_by Framing octet s e f =
    let h : Heard = heard_at octet s.deframer in
    record {
      all = heard_taken_few h (with_fed octet s) 926 (omega arith) f.all;
      talks = λ talks goes. absurd (false≢true (sym ((heard_taken_rule h (with_fed octet s)).adds.talks (ap is_talking e)) ∙ talks));
    }

pub octet_few : (octet : ℕ) (s : LinkState) → FewMarks s → FewMarks (octet_taken octet s)
unfolding octet_taken
octet_few octet s f = octet_few_by s.listener octet s refl f

-- THE CHAT LOOKS AT THE TIME

pub ticked_rule : (l : Listener) (s : LinkState) → s.listener ≡ l → Rule 26 (sight s) (sight (chat_ticked_by l s))
ticked_rule Nobody s e = rule_more (omega arith) (rule_none (sight s))
ticked_rule (Chatting calls) s e = chat_rule (tick_at s.time) calls s (ap is_talking e)
ticked_rule Framing s e = rule_more (omega arith) (rule_none (sight s))

-- THE LINE IS LOST

ended_line_rule : (s : LinkState) → Rule 0 (sight s) (sight (with_line_ended s))
ended_line_rule s = record {
  adds = record {
    limit = refl;
    few = omega arith;
    longer = omega arith;
    since = refl;
    doing = refl;
    told = refl;
    stopped = refl;
    ends = refl;
    starts = omega arith;
    one = λ e. e;
    caused = λ e. e;
    talks = λ e. refl;
    lines = refl;
    dial = refl;
    reading = refl;
    writing = refl;
    job = refl;
    time = refl;
    config = refl;
    wish = refl;
  };
  sits = λ h. record { phase = h.phase; stay = h.stay; auth = h.auth };
  ends = λ h goes over. absurd (false≢true (sym over ∙ goes));
  quiet = λ i. (refl, record { over = i.over; shut = i.shut; phase = i.phase; stay = i.stay; auth = i.auth; silent = refl });
  opens = λ h. h;
}

gone_by : (busy : Bool) (c : Cause) (s : LinkState)
    → is_busy s ≡ busy → Rule 18 (sight (with_line_ended s)) (sight (closed_if (is_some (Some c) && busy) (lcp_called (by_itself goes_down) (first_caused_by (Some c) busy (with_line_ended s)))))
gone_by false c s e = rule_more (omega arith) (called_rule (by_itself goes_down) (with_line_ended s) refl)
gone_by true c s e =
    let t : LinkState = with_line_ended s in
    let a : LinkState = caused c t in
    let b : LinkState = lcp_called (by_itself goes_down) a in
    let r : Rule 13 (sight a) (sight b) = called_rule (by_itself goes_down) a refl in
    record {
      adds = adds_then {k = 14} (adds_then {k = 1} (caused_adds c t) r.adds) (closed_adds b);
      sits = λ h. sits_any (is_open (lcp_closed b)) (closed_sits b (r.sits (caused_now c t h)));
      ends = λ h goes over. (closed_shut b, (closed_adds b).talks (r.adds.talks (caused_silent c t)));
      quiet = λ i. absurd (false≢true (sym i.over ∙ e));
      opens = λ h. closed_opens b (r.opens (caused_opens_now c t h));
    }

gone_rule : (c : Cause) (s : LinkState) → Rule 18 (sight s) (sight (line_gone c s))
gone_rule c s = then {k = 0} (ended_line_rule s) (gone_by (is_busy s) c s refl)

gone_if_rule : (b : Bool) (c : Cause) (s : LinkState) → Rule 18 (sight s) (sight (line_gone_if b c s))
gone_if_rule true c s = gone_rule c s
gone_if_rule false c s = rule_more (omega arith) (rule_none (sight s))

pub lost_rule : (c : Cause) (s : LinkState) → Rule 18 (sight s) (sight (line_lost c s))
unfolding line_lost
lost_rule c s = gone_if_rule (is_lasting s && not s.line_ended) c s
