-- The chat script talks: what the machine stands for behind each piece.
use Rattle.std.proofs.Common.{◌≡◌, ℕ, Bool, true, false, Option, None, Some, List, [], ◌∷◌, ◌++◌, refl, ap, sym, subst, ◌∙◌}
use Rattle.std.specs.Prelude.{◌≢◌, IfSome, IfNone, is_some, option_map}
use Rattle.ppp_base.specs.RingAfter.{Ring}
use Rattle.ppp_chat.specs.ChatState.{ChatState}
use Rattle.ppp_chat.specs.Event.{octet_at, tick_at}
use Rattle.ppp_chat.specs.Script.{ChatScript}
use Rattle.ppp_chat.specs.declared.event.Event.{Event}
use Rattle.ppp_chat.specs.declared.now.ChatNow.{ChatNow}
use Rattle.ppp_chat.specs.declared.now.ChatNow.TheVariants as now
use Rattle.ppp_link_parts.specs.Talk.{Listens, TalkNow, who_of}
use Rattle.ppp_link_parts.specs.declared.talk.Hears.{Hears}
use Rattle.ppp_link_parts.specs.declared.talk.Hears.TheVariants as hears
use Rattle.ppp_link_rules.specs.CauseStatus.{chat_aborted, chat_timed_out}
use Rattle.ppp_link_rules.specs.Ending.{ended_by}
use Rattle.ppp_link_rules.specs.Hearing.{chat_answer, chat_called, chat_ticked, chat_ticked_by, chat_told, link_opened, octet_taken, octet_to, talk_begun, talk_begun_by}
use Rattle.ppp_link_rules.specs.LinkState.{LinkState, Listener, Nobody, Chatting, Framing}
use Rattle.ppp_link_rules.specs.Rings.{put_out}
use Rattle.ppp_link_rules.specs.Sending.{octets_sent}
use Rattle.ppp_link_core.specs.declared.link_core.LinkCore.{LinkCore}
use Rattle.ppp_link_core.specs.Standing.{Does, Lives, Sits, StandsFor, histories_of, opened, state_of}
use Rattle.ppp_link_core.proofs.StandFacts.{at_state, lives_after}
use Rattle.ppp_link_hearing.specs.Chatted.{beginning_told, calls_of, chat_begun, chat_begun_by, chat_with, first_answer, first_answer_by, next_answer, octet_told, tick_told}

time_is : {S : Type 0} (c : LinkCore S) (s : LinkState) → StandsFor c s → c.time ≡ s.time
time_is c s k = ap (λ (y : LinkState). y.time) k.is

script_is : {S : Type 0} (c : LinkCore S) (s : LinkState) → StandsFor c s → c.config.script ≡ s.config.script
script_is c s k = ap (λ (y : LinkState). y.config.script) k.is

-- OCTETS GO OUT

pub sent_does : {S : Type 0} {c : LinkCore S} {ring : Ring ℕ} (octets : List ℕ) → ring ≡ put_out octets c.out → Does (octets_sent octets) c (record c { out = ring })
sent_does {c = c} {ring = ring} octets e = record {
  stands = λ s k. record {
    is = at_state c s (λ y. state_of (record c { out = ring }) (histories_of (octets_sent octets y)) ≡ octets_sent octets y) k (rw e refl);
    id = k.id;
    moment = k.moment;
    asks = k.asks;
    listens = k.listens;
    negotiates = k.negotiates;
    proves = k.proves;
    dials = k.dials;
    policy = k.policy;
    fits = k.fits;
    passes = k.passes;
  };
}

pub sent_lives : {S : Type 0} {c : LinkCore S} {ring : Ring ℕ} (octets : List ℕ) → ring ≡ put_out octets c.out → Lives c → Lives (record c { out = ring })
sent_lives octets e l = lives_after (sent_does octets e) l

pub sits_sent : {S : Type 0} {a b : LinkCore S} → b ≡ record a { out = b.out } → Sits (opened a.lcp) a → Sits (opened b.lcp) b
sits_sent {S = S} {a = a} {b = b} e h = record { none = λ g. ap (λ (x : LinkCore S). is_some x.auth) e ∙ h.none (ap (λ (x : LinkCore S). opened x.lcp) (sym e) ∙ g) }

-- WHAT AN ANSWER LEADS TO

pub told_going : {S : Type 0} {a : LinkCore S} {n : ChatNow} → n ≡ now.Going → Does (chat_told n) a a
told_going {a = a} e = record { stands = λ s k. subst (λ x. StandsFor a (chat_told x s)) (sym e) k }

pub told_sent : {S : Type 0} {a b : LinkCore S} {n : ChatNow} {octets : List ℕ} → n ≡ now.Sent octets → Does (octets_sent octets) a b → Does (chat_told n) a b
told_sent {b = b} e d = record { stands = λ s k. subst (λ x. StandsFor b (chat_told x s)) (sym e) (d.stands s k) }

pub told_done : {S : Type 0} {a b : LinkCore S} {n : ChatNow} → n ≡ now.Done → Does link_opened a b → Does (chat_told n) a b
told_done {b = b} e d = record { stands = λ s k. subst (λ x. StandsFor b (chat_told x s)) (sym e) (d.stands s k) }

pub told_late : {S : Type 0} {a b : LinkCore S} {n : ChatNow} → n ≡ now.TimedOut → Does (ended_by chat_timed_out) a b → Does (chat_told n) a b
told_late {b = b} e d = record { stands = λ s k. subst (λ x. StandsFor b (chat_told x s)) (sym e) (d.stands s k) }

pub told_aborted : {S : Type 0} {a b : LinkCore S} {n : ChatNow} {number : ℕ} → n ≡ now.Aborted number → Does (ended_by (chat_aborted number)) a b → Does (chat_told n) a b
told_aborted {b = b} e d = record { stands = λ s k. subst (λ x. StandsFor b (chat_told x s)) (sym e) (d.stands s k) }

-- A CHAT BEGINS

-- what a beginning says of the script and of who listens
abbrev BeginsAt : ℕ → TalkNow → TalkNow → Option ChatNow → Type 0
BeginsAt at old new o = (script : Option ChatScript) (listener : Listener) → Listens script old listener
    → IfSome o (λ answer. Listens script new (Chatting (tick_at at ∷ [])) × (answer ≡ chat_answer script [] (tick_at at)))

there : (chat : Option ChatState) (script : Option ChatScript) → option_map (λ (c : ChatState). c.script) chat ≡ script → is_some script ≡ is_some chat
there None script e = ap is_some (sym e)
there (Some chat) script e = ap is_some (sym e)

begun_by : {S : Type 0} (c : LinkCore S) (t : TalkNow) (o : Option ChatNow) (script : Option ChatScript) (s : LinkState)
    → is_some o ≡ is_some script → BeginsAt c.time c.talk t o → IfNone o (t ≡ c.talk) → StandsFor c s → StandsFor (record c { talk = t }) (chat_begun_by script s)
begun_by c t None None s e h n k = subst (λ x. StandsFor (record c { talk = x }) s) (sym n) k
begun_by c t None (Some script) s e h n k = absurd (let z : false ≡ true = e in cc)
begun_by c t (Some answer) None s e h n k = absurd (let z : true ≡ false = e in cc)
begun_by c t (Some answer) (Some script) s e h n k = record {
  is = at_state c s (λ y. state_of (record c { talk = t }) (histories_of (chat_begun_by (Some script) y)) ≡ chat_begun_by (Some script) y) k refl;
  id = k.id;
  moment = k.moment;
  asks = k.asks;
  listens = subst (λ at. Listens c.config.script t (Chatting (tick_at at ∷ []))) (time_is c s k) (h c.config.script s.listener k.listens).0;
  negotiates = k.negotiates;
  proves = k.proves;
  dials = k.dials;
  policy = k.policy;
  fits = k.fits;
  passes = k.passes;
}

there_at : {S : Type 0} (c : LinkCore S) (o : Option ChatNow) (s : LinkState) → is_some o ≡ is_some c.talk.chat → StandsFor c s → is_some o ≡ is_some s.config.script
there_at c o s e k = e ∙ sym (there c.talk.chat c.config.script k.listens.by_script) ∙ ap is_some (script_is c s k)

pub begun_does : {S : Type 0} {c : LinkCore S} {t : TalkNow} (o : Option ChatNow)
    → is_some o ≡ is_some c.talk.chat → BeginsAt c.time c.talk t o → IfNone o (t ≡ c.talk) → Does chat_begun c (record c { talk = t })
begun_does {c = c} {t = t} o e h n = record { stands = λ s k. begun_by c t o s.config.script s (there_at c o s e k) h n k }

pub begun_lives : {S : Type 0} {c : LinkCore S} {t : TalkNow} (o : Option ChatNow)
    → is_some o ≡ is_some c.talk.chat → BeginsAt c.time c.talk t o → IfNone o (t ≡ c.talk) → Lives c → Lives (record c { talk = t })
begun_lives o e h n l = lives_after (begun_does o e h n) l

answer_by : (at : ℕ) (old new : TalkNow) (o : Option ChatNow) (script : Option ChatScript) (listener : Listener) → is_some o ≡ is_some script → BeginsAt at old new o → Listens script old listener
    → o ≡ first_answer_by script at
answer_by at old new None None listener e h l = refl
answer_by at old new None (Some script) listener e h l = absurd (let z : false ≡ true = e in cc)
answer_by at old new (Some answer) None listener e h l = absurd (let z : true ≡ false = e in cc)
answer_by at old new (Some answer) (Some script) listener e h l = ap Some (h (Some script) listener l).1

pub begun_answer : {S : Type 0} {c : LinkCore S} (t : TalkNow) (o : Option ChatNow)
    → is_some o ≡ is_some c.talk.chat → BeginsAt c.time c.talk t o → (s : LinkState) → StandsFor c s → o ≡ first_answer s
begun_answer {c = c} t o e h s k =
    subst (λ at. o ≡ first_answer_by s.config.script at) (time_is c s k)
    (answer_by c.time c.talk t o s.config.script s.listener (there_at c o s e k) h (subst (λ x. Listens x c.talk s.listener) (script_is c s k) k.listens))

pub beginning_some : {S : Type 0} {a b : LinkCore S} {o : Option ChatNow} {n : ChatNow} → o ≡ Some n → Does (chat_told n) a b → Does (beginning_told o) a b
beginning_some {b = b} e d = record { stands = λ s k. subst (λ x. StandsFor b (beginning_told x s)) (sym e) (d.stands s k) }

pub beginning_none : {S : Type 0} {a b : LinkCore S} {o : Option ChatNow} → o ≡ None → Does link_opened a b → Does (beginning_told o) a b
beginning_none {b = b} e d = record { stands = λ s k. subst (λ x. StandsFor b (beginning_told x s)) (sym e) (d.stands s k) }

begun_is : (script : Option ChatScript) (s : LinkState) → s.config.script ≡ script → beginning_told (first_answer_by script s.time) (chat_begun_by script s) ≡ talk_begun_by script s
unfolding chat_called
begun_is None s e = refl
begun_is (Some script) s e = ap (λ x. chat_told (chat_answer x [] (tick_at s.time)) (record s { listener = Chatting (tick_at s.time ∷ []) })) (sym e)

pub talk_does : {S : Type 0} {a b c : LinkCore S} {o : Option ChatNow}
    → ((s : LinkState) → StandsFor a s → o ≡ first_answer s) → Does chat_begun a b → Does (beginning_told o) b c → Does talk_begun a c
talk_does {c = c} h x y = record {
  stands = λ s k. subst (λ z. StandsFor c z) (begun_is s.config.script s refl)
      (subst (λ z. StandsFor c (beginning_told z (chat_begun s))) (h s k) (y.stands (chat_begun s) (x.stands s k)));
}

pub sits_talk : {S : Type 0} {a b : LinkCore S} → b ≡ record a { talk = b.talk } → Sits (opened a.lcp) a → Sits (opened b.lcp) b
sits_talk {S = S} {a = a} {b = b} e h = record { none = λ g. ap (λ (x : LinkCore S). is_some x.auth) e ∙ h.none (ap (λ (x : LinkCore S). opened x.lcp) (sym e) ∙ g) }

-- A CHAT GOES ON

-- what one more call says of who listens, and its answer
abbrev HearsOn : Event → TalkNow → TalkNow → Type 0
HearsOn event old new = (script : Option ChatScript) (calls : List Event) → Listens script old (Chatting calls) → Listens script new (Chatting (calls ++ event ∷ []))

abbrev Answers : Event → TalkNow → ChatNow → Type 0
Answers event old n = (script : Option ChatScript) (calls : List Event) → Listens script old (Chatting calls) → n ≡ chat_answer script calls event

listens_on : (script : Option ChatScript) (old new : TalkNow) (event : Event) (l : Listener) → old.who ≡ hears.Chat → HearsOn event old new → Listens script old l
    → Listens script new (Chatting (calls_of l ++ event ∷ []))
listens_on script old new event Nobody w h l = absurd (let z : hears.Chat ≡ hears.Nobody = sym w ∙ l.who in cc)
listens_on script old new event (Chatting calls) w h l = h script calls l
listens_on script old new event Framing w h l = absurd (let z : hears.Chat ≡ hears.Frames = sym w ∙ l.who in cc)

answers_on : (script : Option ChatScript) (old : TalkNow) (event : Event) (n : ChatNow) (l : Listener) → old.who ≡ hears.Chat → Answers event old n → Listens script old l
    → n ≡ chat_answer script (calls_of l) event
answers_on script old event n Nobody w h l = absurd (let z : hears.Chat ≡ hears.Nobody = sym w ∙ l.who in cc)
answers_on script old event n (Chatting calls) w h l = h script calls l
answers_on script old event n Framing w h l = absurd (let z : hears.Chat ≡ hears.Frames = sym w ∙ l.who in cc)

goes_on : {S : Type 0} (c : LinkCore S) (t : TalkNow) (event : Event) (s : LinkState) → c.talk.who ≡ hears.Chat → HearsOn event c.talk t → StandsFor c s → StandsFor (record c { talk = t }) (chat_with event s)
goes_on c t event s w h k = record {
  is = at_state c s (λ y. state_of (record c { talk = t }) (histories_of (chat_with event y)) ≡ chat_with event y) k refl;
  id = k.id;
  moment = k.moment;
  asks = k.asks;
  listens = listens_on c.config.script c.talk t event s.listener w h k.listens;
  negotiates = k.negotiates;
  proves = k.proves;
  dials = k.dials;
  policy = k.policy;
  fits = k.fits;
  passes = k.passes;
}

answer_on : {S : Type 0} (c : LinkCore S) (event : Event) (n : ChatNow) (s : LinkState) → c.talk.who ≡ hears.Chat → Answers event c.talk n → StandsFor c s → n ≡ next_answer event s
answer_on c event n s w h k = answers_on s.config.script c.talk event n s.listener w h (subst (λ x. Listens x c.talk s.listener) (script_is c s k) k.listens)

pub octet_does : {S : Type 0} {c : LinkCore S} {t : TalkNow} (octet : ℕ) → c.talk.who ≡ hears.Chat → HearsOn (octet_at octet c.time) c.talk t → Does (octet_told octet) c (record c { talk = t })
octet_does {c = c} {t = t} octet w h = record {
  stands = λ s k. subst (λ at. StandsFor (record c { talk = t }) (chat_with (octet_at octet at) s)) (time_is c s k) (goes_on c t (octet_at octet c.time) s w h k);
}

pub octet_lives : {S : Type 0} {c : LinkCore S} {t : TalkNow} (octet : ℕ) → c.talk.who ≡ hears.Chat → HearsOn (octet_at octet c.time) c.talk t → Lives c → Lives (record c { talk = t })
octet_lives octet w h l = lives_after (octet_does octet w h) l

pub octet_answer : {S : Type 0} {c : LinkCore S} {n : ChatNow} (octet : ℕ) → c.talk.who ≡ hears.Chat → Answers (octet_at octet c.time) c.talk n
    → (s : LinkState) → StandsFor c s → n ≡ next_answer (octet_at octet s.time) s
octet_answer {c = c} {n = n} octet w h s k = subst (λ at. n ≡ next_answer (octet_at octet at) s) (time_is c s k) (answer_on c (octet_at octet c.time) n s w h k)

pub tick_does : {S : Type 0} {c : LinkCore S} {t : TalkNow} → c.talk.who ≡ hears.Chat → HearsOn (tick_at c.time) c.talk t → Does tick_told c (record c { talk = t })
tick_does {c = c} {t = t} w h = record {
  stands = λ s k. subst (λ at. StandsFor (record c { talk = t }) (chat_with (tick_at at) s)) (time_is c s k) (goes_on c t (tick_at c.time) s w h k);
}

pub tick_lives : {S : Type 0} {c : LinkCore S} {t : TalkNow} → c.talk.who ≡ hears.Chat → HearsOn (tick_at c.time) c.talk t → Lives c → Lives (record c { talk = t })
tick_lives w h l = lives_after (tick_does w h) l

pub tick_answer : {S : Type 0} {c : LinkCore S} {n : ChatNow} → c.talk.who ≡ hears.Chat → Answers (tick_at c.time) c.talk n
    → (s : LinkState) → StandsFor c s → n ≡ next_answer (tick_at s.time) s
tick_answer {c = c} {n = n} w h s k = subst (λ at. n ≡ next_answer (tick_at at) s) (time_is c s k) (answer_on c (tick_at c.time) n s w h k)

-- the rules, where a chat hears
octet_is : (octet : ℕ) (s : LinkState) (l : Listener) → s.listener ≡ l → who_of l ≡ hears.Chat → chat_told (next_answer (octet_at octet s.time) s) (octet_told octet s) ≡ octet_to l octet s
unfolding chat_called
octet_is octet s Nobody e w = absurd (cc w)
octet_is octet s (Chatting calls) e w =
    ap (λ (x : Listener). chat_told (chat_answer s.config.script (calls_of x) (octet_at octet s.time)) (record s { listener = Chatting (calls_of x ++ octet_at octet s.time ∷ []) })) e
octet_is octet s Framing e w = absurd (cc w)

tick_is : (s : LinkState) (l : Listener) → s.listener ≡ l → who_of l ≡ hears.Chat → chat_told (next_answer (tick_at s.time) s) (tick_told s) ≡ chat_ticked_by l s
unfolding chat_called
tick_is s Nobody e w = absurd (cc w)
tick_is s (Chatting calls) e w =
    ap (λ (x : Listener). chat_told (chat_answer s.config.script (calls_of x) (tick_at s.time)) (record s { listener = Chatting (calls_of x ++ tick_at s.time ∷ []) })) e
tick_is s Framing e w = absurd (cc w)

pub heard_does : {S : Type 0} {a b c : LinkCore S} {n : ChatNow} (octet : ℕ) → a.talk.who ≡ hears.Chat
    → ((s : LinkState) → StandsFor a s → n ≡ next_answer (octet_at octet s.time) s) → Does (octet_told octet) a b → Does (chat_told n) b c → Does (octet_taken octet) a c
unfolding octet_taken
heard_does {c = c} octet w h x y = record {
  stands = λ s k. subst (λ z. StandsFor c z) (octet_is octet s s.listener refl (sym k.listens.who ∙ w))
      (subst (λ z. StandsFor c (chat_told z (octet_told octet s))) (h s k) (y.stands (octet_told octet s) (x.stands s k)));
}

pub ticked_does : {S : Type 0} {a b c : LinkCore S} {n : ChatNow} → a.talk.who ≡ hears.Chat
    → ((s : LinkState) → StandsFor a s → n ≡ next_answer (tick_at s.time) s) → Does tick_told a b → Does (chat_told n) b c → Does chat_ticked a c
ticked_does {c = c} w h x y = record {
  stands = λ s k. subst (λ z. StandsFor c z) (tick_is s s.listener refl (sym k.listens.who ∙ w))
      (subst (λ z. StandsFor c (chat_told z (tick_told s))) (h s k) (y.stands (tick_told s) (x.stands s k)));
}

no_tick : {S : Type 0} (a : LinkCore S) (s : LinkState) (l : Listener) → s.listener ≡ l → who_of l ≢ hears.Chat → StandsFor a s → StandsFor a (chat_ticked_by l s)
no_tick a s Nobody e w k = k
no_tick a s (Chatting calls) e w k = absurd (w refl)
no_tick a s Framing e w k = k

pub nobody_ticked : {S : Type 0} {a : LinkCore S} {w : Hears} → w ≡ a.talk.who → w ≡ hears.Nobody → Does chat_ticked a a
nobody_ticked {a = a} {w = w} e f = record { stands = λ s k. no_tick a s s.listener refl (λ g. absurd (let z : hears.Nobody ≡ hears.Chat = sym f ∙ e ∙ k.listens.who ∙ g in cc)) k }

pub frames_ticked : {S : Type 0} {a : LinkCore S} {w : Hears} → w ≡ a.talk.who → w ≡ hears.Frames → Does chat_ticked a a
frames_ticked {a = a} {w = w} e f = record { stands = λ s k. no_tick a s s.listener refl (λ g. absurd (let z : hears.Frames ≡ hears.Chat = sym f ∙ e ∙ k.listens.who ∙ g in cc)) k }
