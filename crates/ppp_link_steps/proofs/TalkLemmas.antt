-- A session that talks stays calm: its chat is given up with its first cause.
use Rattle.std.proofs.Common.{◌≡◌, Bool, true, false, Option, None, Some, List, [], ◌∷◌, ◌++◌, refl, ap, sym, ◌∙◌}
use Rattle.ppp_chat.specs.Event.{tick_at}
use Rattle.ppp_chat.specs.Script.{ChatScript}
use Rattle.ppp_chat.specs.declared.event.Event.{Event}
use Rattle.ppp_chat.specs.declared.now.ChatNow.{ChatNow}
use Rattle.ppp_chat.specs.declared.now.ChatNow.TheVariants.{Going, Sent, Done, TimedOut, Aborted}
use Rattle.ppp_control.specs.Rules.{by_itself, comes_up, opens}
use Rattle.ppp_link_rules.specs.Hearing.{chat_answer, chat_called, chat_ticked, chat_ticked_by, chat_told, link_opened, talk_begun, talk_begun_by}
use Rattle.ppp_link_rules.specs.LcpCalls.{lcp_called}
use Rattle.ppp_link_rules.specs.LinkState.{Chatting, Framing, LinkState, Listener, Nobody}
use Rattle.ppp_link_steps.proofs.CalmLemmas.{Keeps, calm_keeps, ended_keeps, keeps, keeps_same, lcp_called_keeps, lcp_wanted_keeps, no_open_up, keeps_then}
use Rattle.ppp_link_steps.specs.Calm.{IsCalm, is_chatting, may_talk}

abbrev framing : LinkState → LinkState
framing s = record s { listener = Framing }

framing_keeps : (s : LinkState) → may_talk s ≡ true → Keeps s (framing s)
framing_keeps s m = record {
  session = refl;
  dial = refl;
  failed = refl;
  hush = λ _. refl;
  still = λ h g. absurd (let x : true ≡ false = sym m ∙ g in cc);
}

pub opened_keeps : (s : LinkState) → may_talk s ≡ true → Keeps s (link_opened s)
unfolding link_opened
opened_keeps s m =
    keeps_then {b = framing s} (framing_keeps s m)
    (keeps_then {b = lcp_called (by_itself opens) (framing s)} (lcp_wanted_keeps (by_itself opens) (framing s) m) (lcp_called_keeps (by_itself comes_up) _ no_open_up))

told_keeps : (answer : ChatNow) (s : LinkState) → may_talk s ≡ true → Keeps s (chat_told answer s)
told_keeps Going s m = keeps s
told_keeps (Sent octets) s m = keeps_same (record { doing = refl; cause = refl; session = refl; dial = refl; failed = refl; lcp = refl; wish = refl; listener = refl })
told_keeps Done s m = opened_keeps s m
told_keeps TimedOut s m = ended_keeps _ s
told_keeps (Aborted number) s m = ended_keeps _ s

chatting_calm : (calls : List Event) (s : LinkState) → may_talk s ≡ true → IsCalm s → IsCalm (record s { listener = Chatting calls })
chatting_calm calls s m c = record { still = λ g. absurd (let x : true ≡ false = sym m ∙ g in cc); few = c.few }

pub chat_calm : (event : Event) (calls : List Event) (s : LinkState) → may_talk s ≡ true → IsCalm s → IsCalm (chat_called event calls s)
unfolding chat_called
chat_calm event calls s m c =
    calm_keeps (told_keeps (chat_answer s.config.script calls event) (record s { listener = Chatting (calls ++ event ∷ []) }) m) (chatting_calm (calls ++ event ∷ []) s m c)

begun_by_calm : (script : Option ChatScript) (s : LinkState) → may_talk s ≡ true → IsCalm s → IsCalm (talk_begun_by script s)
begun_by_calm None s m c = calm_keeps (opened_keeps s m) c
begun_by_calm (Some script) s m c = chat_calm (tick_at s.time) [] s m c

pub begun_calm : (s : LinkState) → may_talk s ≡ true → IsCalm s → IsCalm (talk_begun s)
begun_calm s m c = begun_by_calm s.config.script s m c

-- a chat is heard where the session may talk alone
pub chats_talking : (s : LinkState) → IsCalm s → is_chatting s.listener ≡ true → may_talk s ≡ true
chats_talking s c h = by (may_talk s) refl
  where
    by : (b : Bool) → may_talk s ≡ b → may_talk s ≡ true
    by true e = e
    by false e = absurd (let x : true ≡ false = sym h ∙ (c.still e).hushed in cc)

ticked_by_calm : (l : Listener) (s : LinkState) → s.listener ≡ l → IsCalm s → IsCalm (chat_ticked_by l s)
ticked_by_calm Nobody s e c = c
ticked_by_calm (Chatting calls) s e c = chat_calm (tick_at s.time) calls s (chats_talking s c (ap is_chatting e)) c
ticked_by_calm Framing s e c = c

pub ticked_calm : (s : LinkState) → IsCalm s → IsCalm (chat_ticked s)
ticked_calm s c = ticked_by_calm s.listener s refl c
