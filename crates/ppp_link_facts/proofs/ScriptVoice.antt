-- The scripts of a link keep their law, rule by rule: what its log says of them is what the machine of scripts has, and an opening stands exactly where the peer has passed.
use Rattle.std.proofs.Common.{◌≡◌, ℕ, ◌+◌, ◌≤◌, ◌<◌, ◌⊎◌, inl, inr, Bool, true, false, Option, None, Some, List, [], ◌∷◌, ◌++◌, length, refl, ap, sym, ◌∙◌, subst, arith}
use Rattle.std.specs.Prelude.{◌==◌, is_some, option_to_list, if◌then◌else◌}
use Rattle.std.proofs.lemmas.Bool.{false≢true}
use Rattle.ppp_auth.proofs.EndLemmas.{names_are}
use Rattle.ppp_auth.specs.declared.out.PhaseOut.{PhaseOut}
use Rattle.ppp_auth.specs.declared.out.PhasePacket.{PhasePacket}
use Rattle.ppp_auth.specs.declared.outcome.AuthNow.{AuthNow}
use Rattle.ppp_auth.specs.declared.outcome.AuthNow.TheVariants.{Going, Passed, PeerFailed, WeFailed}
use Rattle.ppp_auth.specs.Outcome.{outcome_in, peer_passed}
use Rattle.ppp_auth.specs.Phase.{name_of, told_at}
use Rattle.ppp_auth.specs.Setting.{PhaseAt, PhaseCall, Setting, starts, takes}
use Rattle.ppp_base.specs.declared.hook_target.HookTarget.TheVariants.{Link}
use Rattle.ppp_base.specs.declared.protocol.TheConstants.{LCP}
use Rattle.ppp_control.specs.Rules.{Call, by_itself, closes, hears, rejects}
use Rattle.ppp_hooks.specs.declared.facts.HookFacts.{HookFacts}
use Rattle.ppp_hooks.specs.declared.facts.Opening.{Opening}
use Rattle.ppp_hooks.specs.HookFacts.{StandsFor, opening_number, settled, with_closed}
use Rattle.ppp_hooks.specs.HookMark.{Closed, Ended}
use Rattle.ppp_hooks.specs.HookPast.{ends_in, last_in, open_in, starts_in}
use Rattle.ppp_hooks.specs.HookRule.{due_for, with_due}
use Rattle.ppp_hooks.proofs.Stands.{closed_stands, ended_stands, opened_stands}
use Rattle.ppp_lcp.specs.declared.out.LcpOut.{LcpOut}
use Rattle.ppp_mark.proofs.ScriptLemmas.{said-due, said-ended, said-quiet}
use Rattle.ppp_mark.specs.declared.kind.TheConstants.{AUTH_CLOSED, AUTH_OPEN, ENDED, START}
use Rattle.ppp_mark.specs.declared.mark.Mark.{Mark}
use Rattle.ppp_mark.specs.Marks.{auth_closed_mark, auth_open_mark, direction_number, ended_mark}
use Rattle.ppp_mark.specs.ScriptLog.{closed_facts, log_closed_at, next_opening}
use Rattle.ppp_mark.specs.Scripts.{AreUpOrDown, due_marks, said_in, says_scripts}
use Rattle.ppp_outside.specs.declared.spawner.ScriptEnd.{ScriptEnd}
use Rattle.ppp_packet.specs.declared.agreed.Agreed.{Agreed}
use Rattle.ppp_packet.specs.declared.packet.Packet.{Packet}
use Rattle.ppp_packet.specs.PacketOf.{laid_packet}
use Rattle.ppp_link_rules.specs.declared.cause.Cause.{Cause}
use Rattle.ppp_link_rules.specs.Authentication.{asked_by, asked_if, auth_opened, called_part as phase_part, ended_by_outcome, join_tried, new_phase, opened_for, phase_begun, phase_begun_by, phase_called, phase_heard, setting_by, with_phase}
use Rattle.ppp_link_rules.specs.CauseStatus.{peer_failed, we_failed}
use Rattle.ppp_link_rules.specs.Ending.{auth_closed, caused, closed_if, closed_marked, closed_part, ended_by, ended_if, first_caused, first_caused_by, is_first, lcp_closed, lcp_left, left_by, left_if, with_call}
use Rattle.ppp_link_rules.specs.Facts.{peer_of}
use Rattle.ppp_link_rules.specs.LcpAnswer.{lcp_answer}
use Rattle.ppp_link_rules.specs.LcpCalls.{answered, called_part, cause_of, followed, followed_by, lcp_called, lcp_entered, lcp_heard, open_marked, protocol_rejected}
use Rattle.ppp_link_rules.specs.LinkPart.{job_ended}
use Rattle.ppp_link_rules.specs.LinkState.{AuthPart, LcpPart, LinkState, agreed, control, has_passed, is_busy, is_open, lcp_state, outcome_of}
use Rattle.ppp_link_rules.specs.Marks.{stay_in}
use Rattle.ppp_link_rules.specs.Phase.{may_ask, phase_by}
use Rattle.ppp_link_rules.specs.Rings.{has_control}
use Rattle.ppp_link_rules.specs.Sending.{frame_sent, packets_sent, phase_sent}
use Rattle.ppp_link_rules.specs.Wishes.{script_args}
use Rattle.ppp_link_facts.proofs.Budgets.{below_of}
use Rattle.ppp_link_facts.proofs.EndRules.{due_by, due_same}
use Rattle.ppp_link_facts.proofs.Sight.{SitsNow, sight}

pub record Voice : Type 0 where
  pub past : List Mark
  pub scripts : HookFacts
  pub named : Bool

abbrev pub voice : LinkState → Voice
voice s = record { past = s.log.past; scripts = s.scripts; named = is_some (peer_of s.auth) }

pub record Says (v : Voice) : Type 0 where
  pub stands : StandsFor v.scripts (said_in v.past)
  pub directions : AreUpOrDown v.past
  pub named : is_some (open_in (said_in v.past)) ≡ v.named

-- what was not open before LCP entered Opened
abbrev pub Closed_in : LinkState → Type 0
Closed_in s = is_some (open_in (said_in s.log.past)) ≡ false

pub says_same : {v w : Voice} → w ≡ v → Says v → Says w
says_same e h = subst Says (sym e) h

-- a mark that says nothing of scripts
pub says_other : (m : Mark) (v : Voice) → says_scripts m.kind ≡ false → Says v → Says (record v { past = m ∷ v.past })
says_other m v quiet h =
    let same : said_in (m ∷ v.past) ≡ said_in v.past = said-quiet m v.past quiet in
    record {
      stands = subst (λ hooks. StandsFor v.scripts hooks) (sym same) h.stands;
      directions = (λ e. absurd (false≢true (sym quiet ∙ ap says_scripts e)), h.directions);
      named = ap (λ hooks. is_some (open_in hooks)) same ∙ h.named;
    }

-- A START THAT IS DUE

abbrev says_start : ℕ → Bool
says_start kind = kind == START

up_or_down : (up : Bool) → (direction_number up ≡ 1) ⊎ (direction_number up ≡ 2)
up_or_down true = inl refl
up_or_down false = inr refl

due_directions_by : (time : ℕ) (past : List Mark) (b : Bool) (due : Option (Bool × ℕ)) → AreUpOrDown past → AreUpOrDown (due_by b due time ++ past)
due_directions_by time past false due h = h
due_directions_by time past true None h = h
due_directions_by time past true (Some start) h = (λ e. up_or_down start.0, h)

due_directions : (time : ℕ) (past : List Mark) → AreUpOrDown past → AreUpOrDown (due_marks time past ++ past)
due_directions time past h = due_directions_by time past (ends_in (said_in past) == starts_in (said_in past)) (due_for (last_in (said_in past)) (open_in (said_in past))) h

-- SENDING

frame_voice : (protocol : ℕ) (information : List ℕ) (s : LinkState) → voice (frame_sent protocol information s) ≡ voice s
unfolding frame_sent
frame_voice protocol information s = refl

packets_voice : (packets : List Packet) (s : LinkState) → voice (packets_sent packets s) ≡ voice s
packets_voice [] s = refl
packets_voice (p ∷ packets) s = packets_voice packets (frame_sent LCP (laid_packet p) s) ∙ frame_voice LCP (laid_packet p) s

phase_voice : (packets : List PhasePacket) (s : LinkState) → voice (phase_sent packets s) ≡ voice s
phase_voice [] s = refl
phase_voice (p ∷ packets) s = phase_voice packets (frame_sent p.protocol (laid_packet p.packet) s) ∙ frame_voice p.protocol (laid_packet p.packet) s

frame_auth : (protocol : ℕ) (information : List ℕ) (s : LinkState) → (frame_sent protocol information s).auth ≡ s.auth
unfolding frame_sent
frame_auth protocol information s = refl

pub frame_says : (protocol : ℕ) (information : List ℕ) (s : LinkState) → Says (voice s) → Says (voice (frame_sent protocol information s))
frame_says protocol information s h = says_same (frame_voice protocol information s) h

-- AUTHENTICATION CLOSES

-- a mark of another kind is no start
other_kind : (kind : ℕ) → says_start kind ≡ false → kind ≡ START → ⊥
other_kind kind e k = false≢true (sym e ∙ ap says_start k)

none_opening : (o : Option Opening) → opening_number o ≡ None → o ≡ None
none_opening None e = refl
none_opening (Some x) e = absurd (false≢true (sym (ap is_some e)))

none_number : (o : Option Opening) → opening_number o ≡ None → is_some o ≡ false
none_number None e = refl
none_number (Some x) e = absurd (false≢true (sym (ap is_some e)))

some_number : (o : Option Opening) (n : ℕ) → opening_number o ≡ Some n → is_some o ≡ true
some_number None n e = absurd (false≢true (ap is_some e))
some_number (Some x) n e = refl

closed_says_at : (id time limit : ℕ) (past : List Mark) (facts : HookFacts) (named : Bool) (o : Option ℕ) → open_in (said_in past) ≡ o → Says (record { past = past; scripts = facts; named = named })
    → Says (record { past = (log_closed_at (Link id) time o (record { past = past; limit = limit })).past; scripts = closed_facts facts; named = false })
closed_says_at id time limit past facts named None e h =
    let none : is_some facts.now_open ≡ false = none_number facts.now_open (h.stands.keeps.now_open ∙ e) in
    let same : closed_facts facts ≡ facts = ap (λ (b : Bool). if b then settled (with_closed facts) else facts) none in
    record { stands = subst (λ (f : HookFacts). StandsFor f (said_in past)) (sym same) h.stands; directions = h.directions; named = ap is_some e }
closed_says_at id time limit past facts named (Some n) e h =
    let number : opening_number facts.now_open ≡ Some n = h.stands.keeps.now_open ∙ e in
    let same : closed_facts facts ≡ settled (with_closed facts) = ap (λ (b : Bool). if b then settled (with_closed facts) else facts) (some_number facts.now_open n number) in
    let p : List Mark = auth_closed_mark time n ∷ past in
    let stands : StandsFor (settled (with_closed facts)) (with_due (Closed n ∷ said_in past)) = closed_stands facts (said_in past) n number h.stands in
    record {
      stands = subst (λ (f : HookFacts). StandsFor f (said_in (due_marks time p ++ p))) (sym same) (subst (λ hooks. StandsFor (settled (with_closed facts)) hooks) (sym (said-due time p)) stands);
      directions = due_directions time p (λ k. absurd (other_kind AUTH_CLOSED refl k), h.directions);
      named = ap is_some (due_same (λ q. open_in (said_in q)) time p (λ up m. refl));
    }

auth_closed_says : (s : LinkState) → Says (voice s) → Says (voice (auth_closed s))
auth_closed_says s h = closed_says_at s.id s.time s.log.limit s.log.past s.scripts (is_some (peer_of s.auth)) (open_in (said_in s.log.past)) refl h

left_says_by : (o : Option ℕ) (s : LinkState) → Says (voice s) → Says (voice (left_by o s))
left_says_by None s h = h
left_says_by (Some stay) s h = says_other _ (voice s) refl h

left_says : (s : LinkState) → Says (voice s) → Says (voice (lcp_left s))
unfolding lcp_left
left_says s h =
    let a : LinkState = closed_marked s in
    let b : LinkState = auth_closed a in
    left_says_by (stay_in b.log.past) b (auth_closed_says a (says_other _ (voice s) refl h))

left_if_says : (b : Bool) (s : LinkState) → Says (voice s) → Says (voice (left_if b s))
left_if_says true s h = left_says s h
left_if_says false s h = h

closed_part_says : (o : Option LcpPart) (s : LinkState) → Says (voice s) → Says (voice (closed_part o s))
closed_part_says None s h = h
closed_part_says (Some part) s h =
    let out : LcpOut = lcp_answer s.wish part.words part.calls (by_itself closes) s.time in
    let t : LinkState = with_call (by_itself closes) s.time out part s in
    left_if_says (is_open s) (packets_sent out.packets t) (says_same (packets_voice out.packets t) h)

pub closed_says : (s : LinkState) → Says (voice s) → Says (voice (lcp_closed s))
unfolding lcp_closed
closed_says s h = closed_part_says s.lcp s h

pub caused_says : (c : Cause) (s : LinkState) → Says (voice s) → Says (voice (caused c s))
unfolding caused
caused_says c s h = says_other _ (voice s) refl h

ended_if_says : (b : Bool) (c : Cause) (s : LinkState) → Says (voice s) → Says (voice (ended_if b c s))
ended_if_says true c s h = closed_says (caused c s) (caused_says c s h)
ended_if_says false c s h = h

pub ended_says : (c : Cause) (s : LinkState) → Says (voice s) → Says (voice (ended_by c s))
unfolding ended_by
ended_says c s h = ended_if_says (is_busy s) c s h

-- AUTHENTICATION OPENS, where it isn't open

none_of : {A : Type 0} (o : Option A) → is_some o ≡ false → o ≡ None
none_of None e = refl
none_of (Some x) e = absurd (false≢true (sym e))

opened_says : (peer : List ℕ) (s : LinkState) (named : Bool) → is_some (peer_of s.auth) ≡ true → Says (record { past = s.log.past; scripts = s.scripts; named = named }) → Closed_in s → Says (voice (auth_opened peer s))
opened_says peer s named now h closed =
    let n : ℕ = next_opening s.log in
    let p : List Mark = auth_open_mark s.time n ∷ s.log.past in
    let facts : HookFacts = s.scripts in
    let none : facts.now_open ≡ None = none_opening facts.now_open (h.stands.keeps.now_open ∙ none_of (open_in (said_in s.log.past)) closed) in
    record {
      stands = subst (λ hooks. StandsFor (auth_opened peer s).scripts hooks) (sym (said-due s.time p)) (opened_stands facts (said_in s.log.past) n (script_args s.id s.config peer) none (omega (arith, h.stands.keeps.greatest)) h.stands);
      directions = due_directions s.time p (λ k. absurd (other_kind AUTH_OPEN refl k), h.directions);
      named = ap is_some (due_same (λ q. open_in (said_in q)) s.time p (λ up m. refl)) ∙ sym now;
    }

-- what is told of the peer: a name once
told_some : (now before : Option (List ℕ)) (peer : List ℕ) → option_to_list now ≡ option_to_list (Some peer) ++ option_to_list before → (is_some before ≡ false) × (is_some now ≡ true)
told_some None None peer e = absurd (let x : 0 ≡ 1 = ap length e in omega (arith, x))
told_some None (Some b) peer e = absurd (let x : 0 ≡ 2 = ap length e in omega (arith, x))
told_some (Some a) None peer e = (refl, refl)
told_some (Some a) (Some b) peer e = absurd (let x : 1 ≡ 2 = ap length e in omega (arith, x))

told_none : (now before : Option (List ℕ)) → option_to_list now ≡ option_to_list before → is_some now ≡ is_some before
told_none None None e = refl
told_none None (Some b) e = absurd (let x : 0 ≡ 1 = ap length e in omega (arith, x))
told_none (Some a) None e = absurd (let x : 1 ≡ 0 = ap length e in omega (arith, x))
told_none (Some a) (Some b) e = refl

-- the names behind a call
names_step : (s : Setting) (c : PhaseAt) (past : List PhaseAt)
    → option_to_list (name_of (peer_passed s.peer_proves s (c ∷ past))) ≡ option_to_list (told_at s c past).peer_passed ++ option_to_list (name_of (peer_passed s.peer_proves s past))
names_step s c past = sym (names_are s (c ∷ past)) ∙ ap (λ names. option_to_list (told_at s c past).peer_passed ++ names) (names_are s past)

-- the peer's name was told, or wasn't, where the phase has one more call
opened_for_says : (o : Option (List ℕ)) (s : LinkState) (before : Option (List ℕ)) → Says (record { past = s.log.past; scripts = s.scripts; named = is_some before })
    → option_to_list (peer_of s.auth) ≡ option_to_list o ++ option_to_list before → Says (voice (opened_for o s))
opened_for_says None s before h e = record { stands = h.stands; directions = h.directions; named = h.named ∙ sym (told_none (peer_of s.auth) before e) }
opened_for_says (Some peer) s before h e =
    let p = told_some (peer_of s.auth) before peer e in
    opened_says peer s (is_some before) p.1 h (h.named ∙ p.0)

outcome_says : (now : AuthNow) (s : LinkState) → Says (voice s) → Says (voice (ended_by_outcome now s))
outcome_says Going s h = h
outcome_says (Passed peer allow) s h = h
outcome_says PeerFailed s h = ended_says peer_failed s h
outcome_says WeFailed s h = ended_says we_failed s h

-- the same, with what was sent
sent_says : (packets : List PhasePacket) (s : LinkState) (before : Option (List ℕ)) → Says (record { past = s.log.past; scripts = s.scripts; named = is_some before })
    → Says (record { past = (phase_sent packets s).log.past; scripts = (phase_sent packets s).scripts; named = is_some before })
sent_says packets s before h =
    subst (λ (v : Voice). Says (record { past = v.past; scripts = v.scripts; named = is_some before })) (sym (phase_voice packets s)) h

sent_auth : (packets : List PhasePacket) (s : LinkState) → (phase_sent packets s).auth ≡ s.auth
sent_auth [] s = refl
sent_auth (p ∷ packets) s = sent_auth packets (frame_sent p.protocol (laid_packet p.packet) s) ∙ frame_auth p.protocol (laid_packet p.packet) s

part_says : (call : PhaseCall) (o : Option AuthPart) (s : LinkState) → s.auth ≡ o → Says (voice s) → Says (voice (phase_part call o s))
part_says call None s e h = h
part_says call (Some part) s e h =
    let c : PhaseAt = record { now = s.time; call = call } in
    let t : LinkState = with_phase c part s in
    let out : PhaseOut = told_at part.setting c part.calls in
    let now : AuthNow = outcome_in part.setting (c ∷ part.calls) in
    let before : Option (List ℕ) = name_of (peer_passed part.setting.peer_proves part.setting part.calls) in
    let a : LinkState = phase_sent out.packets t in
    let known : Says (record { past = s.log.past; scripts = s.scripts; named = is_some before }) = subst (λ (p : Option AuthPart). Says (record { past = s.log.past; scripts = s.scripts; named = is_some (peer_of p) })) e h in
    outcome_says now (opened_for out.peer_passed a)
    (opened_for_says out.peer_passed a before (sent_says out.packets t before known) (ap (λ (p : Option AuthPart). option_to_list (peer_of p)) (sent_auth out.packets t) ∙ names_step part.setting c part.calls))

pub phase_says : (call : PhaseCall) (s : LinkState) → Says (voice s) → Says (voice (phase_called call s))
unfolding phase_called
phase_says call s h = part_says call s.auth s refl h

pub phase_heard_says : (protocol : ℕ) (packet : Option Packet) (s : LinkState) → Says (voice s) → Says (voice (phase_heard protocol packet s))
phase_heard_says protocol None s h = h
phase_heard_says protocol (Some packet) s h = phase_says (takes protocol packet s.secrets) s h

-- THE PHASE BEGINS, where nothing is open

begun_says_by : (o : Option Agreed) (s : LinkState) → Closed_in s → Says (voice s) → Says (voice (phase_begun_by o s))
begun_says_by None s closed h = h
begun_says_by (Some terms) s closed h =
    let t : LinkState = new_phase terms s in
    let none : is_some (name_of (peer_passed terms.peer_proves (setting_by s terms) [])) ≡ false = told_none (name_of (peer_passed terms.peer_proves (setting_by s terms) [])) None (sym (names_are (setting_by s terms) [])) in
    phase_says (starts s.secrets) t (record { stands = h.stands; directions = h.directions; named = closed ∙ sym none })

begun_says : (s : LinkState) → Closed_in s → Says (voice s) → Says (voice (phase_begun s))
unfolding phase_begun
begun_says s closed h = begun_says_by (agreed s) s closed h

entered_says : (s : LinkState) → Closed_in s → Says (voice s) → Says (voice (lcp_entered s))
unfolding lcp_entered
entered_says s closed h = begun_says (open_marked s) closed (says_other _ (voice s) refl h)

-- LCP

followed_says : (was is : Bool) (s : LinkState) → (was ≡ false → Closed_in s) → Says (voice s) → Says (voice (followed_by was is s))
followed_says false false s closed h = h
followed_says false true s closed h = entered_says s (closed refl) h
followed_says true false s closed h = left_says s h
followed_says true true s closed h = h

pub first_says : (c : Option Cause) (b : Bool) (s : LinkState) → Says (voice s) → Says (voice (first_caused_by c b s))
first_says None b s h = h
first_says (Some c) true s h = caused_says c s h
first_says (Some c) false s h = h

caused_closed : (c : Cause) (s : LinkState) → Closed_in s → Closed_in (caused c s)
unfolding caused
caused_closed c s h = h

first_closed : (c : Option Cause) (b : Bool) (s : LinkState) → Closed_in s → Closed_in (first_caused_by c b s)
first_closed None b s h = h
first_closed (Some c) true s h = caused_closed c s h
first_closed (Some c) false s h = h

pub closed_if_says : (b : Bool) (s : LinkState) → Says (voice s) → Says (voice (closed_if b s))
closed_if_says true s h = closed_says s h
closed_if_says false s h = h

answered_says : (was : Bool) (c : Option Cause) (out : LcpOut) (s : LinkState) → (was ≡ false → Closed_in s) → Says (voice s) → Says (voice (answered was c out s))
unfolding answered
answered_says was c out s closed h =
    let a : LinkState = first_caused c s in
    let b : LinkState = packets_sent out.packets a in
    let same : voice b ≡ voice a = packets_voice out.packets a in
    let closed_b : was ≡ false → Closed_in b = λ e. ap (λ (v : Voice). is_some (open_in (said_in v.past))) same ∙ first_closed c (is_busy s) s (closed e) in
    closed_if_says (is_first c s) (followed was b) (followed_says was (is_open b) b closed_b (says_same same (first_says c (is_busy s) s h)))

lcp_part_says : (call : Call (Unit {0})) (now : ℕ) (o : Option LcpPart) (s : LinkState) → SitsNow (sight s) → Says (voice s) → Says (voice (called_part call now o s))
lcp_part_says call now None s sits h = h
lcp_part_says call now (Some part) s sits h =
    let out : LcpOut = lcp_answer s.wish part.words part.calls call now in
    answered_says (is_open s) (cause_of (lcp_state s) out) out (with_call call now out part s) (λ e. sits.auth e) h

pub called_says : (call : Call (Unit {0})) (s : LinkState) → SitsNow (sight s) → Says (voice s) → Says (voice (lcp_called call s))
unfolding lcp_called
called_says call s sits h = lcp_part_says call s.time s.lcp s sits h

pub rejected_says : (protocol : ℕ) (information : List ℕ) (s : LinkState) → SitsNow (sight s) → Says (voice s) → Says (voice (protocol_rejected protocol information s))
unfolding protocol_rejected
rejected_says protocol information s sits h = lcp_part_says (rejects protocol information) 0 s.lcp s sits h

pub heard_says : (packet : Option Packet) (s : LinkState) → SitsNow (sight s) → Says (voice s) → Says (voice (lcp_heard packet s))
heard_says None s sits h = h
heard_says (Some packet) s sits h = called_says (hears packet tt) s sits h

-- THE STAY

asked_says : (now : AuthNow) (o : Option Agreed) (s : LinkState) → Says (voice s) → Says (voice (asked_by now o s))
asked_says Going o s h = h
asked_says PeerFailed o s h = h
asked_says WeFailed o s h = h
asked_says (Passed peer allow) None s h = h
asked_says (Passed peer allow) (Some terms) s h = says_other _ (voice s) refl h

asked_if_says : (b : Bool) (s : LinkState) → Says (voice s) → Says (voice (asked_if b s))
asked_if_says true s h = asked_says (outcome_of s.auth) (agreed s) s h
asked_if_says false s h = h

pub join_says : (s : LinkState) → Says (voice s) → Says (voice (join_tried s))
unfolding join_tried
join_says s h = asked_if_says (may_ask (phase_by (is_open s) (has_passed (outcome_of s.auth))) (control s).stay (has_control s.up.waiting)) s h

-- A SCRIPT ENDS

pub job_says : (answer : ScriptEnd) (s : LinkState) → Says (voice s) → (ends_in (said_in s.log.past) == starts_in (said_in s.log.past)) ≡ false → ends_in (said_in s.log.past) ≤ starts_in (said_in s.log.past)
    → Says (voice (job_ended answer s))
job_says answer s h runs le =
    let e : ℕ = ends_in (said_in s.log.past) in
    let p : List Mark = ended_mark s.time answer (e + 1) ∷ s.log.past in
    let lt : e < starts_in (said_in s.log.past) = below_of e (starts_in (said_in s.log.past)) runs le in
    let k = h.stands.keeps in
    let said : said_in p ≡ Ended answer (e + 1) ∷ said_in s.log.past = said-ended s.time answer (e + 1) (said_in s.log.past) in
    let stands : StandsFor (job_ended answer s).scripts (with_due (Ended answer (e + 1) ∷ said_in s.log.past)) = ended_stands s.scripts (said_in s.log.past) answer (e + 1) (omega (arith, lt, k.starts, k.ends)) (omega (arith, k.ends)) h.stands in
    record {
      stands = subst (λ hooks. StandsFor (job_ended answer s).scripts hooks) (sym (said-due s.time p ∙ ap with_due said)) stands;
      directions = due_directions s.time p (λ f. absurd (other_kind ENDED refl f), h.directions);
      named = ap is_some (due_same (λ q. open_in (said_in q)) s.time p (λ up m. refl)) ∙ ap (λ hooks. is_some (open_in hooks)) said ∙ h.named;
    }
