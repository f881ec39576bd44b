-- What every acknowledged option passes: an Ack is sent for a request of which no option is rejected or named.
use Rattle.std.proofs.Common.{◌≡◌, ℕ, Bool, true, false, cond, Option, Some, None, List, [], ◌∷◌, ◌++◌, refl, ap, sym, ◌∙◌, subst}
use Rattle.std.specs.Prelude.{◌==◌, ◌&&◌, ◌||◌, not, is_some, option_map, option_to_list}
use Rattle.ppp_fsm.specs.declared.event.FsmEvent.{FsmEvent}
use Rattle.ppp_fsm.specs.declared.event.FsmEvent.TheVariants.{RcrGood}
use Rattle.ppp_fsm.specs.declared.acts.Act.{Act}
use Rattle.ppp_fsm.specs.declared.acts.Act.TheVariants.{Tlu, Tld, Tls, Tlf, Irc, Zrc, Scr, Sca, Scn, Str, Sta, Scj, Ser}
use Rattle.ppp_fsm.specs.Acts.{has}
use Rattle.ppp_fsm.specs.Fsm.{Automaton, Entry, acts_in, acts_of}
use Rattle.ppp_fsm.proofs.TableLemmas.{each_entry}
use Rattle.ppp_packet.specs.declared.packet.Packet.{Packet}
use Rattle.ppp_packet.specs.OptionsOf.{Item, laid}
use Rattle.ppp_packet.specs.OptionList.{items_of}
use Rattle.ppp_packet.proofs.Laying.{items_of-laid}
use Rattle.ppp_control.specs.declared.classes.HeardAs.{HeardAs}
use Rattle.ppp_control.specs.declared.classes.HeardAs.TheVariants.{Request as Asks, Ack as Acked, Nak as Named, Reject as Rejected, Event, Discarded}
use Rattle.ppp_control.specs.declared.judging.Verdict.{Verdict}
use Rattle.ppp_control.specs.declared.judging.Verdict.TheVariants.{Ack, Nak, Reject}
use Rattle.ppp_control.specs.Answers.{Judgement, Answer, rejected, named, renamed, named_or, rejected_or, answer_to}
use Rattle.ppp_control.specs.Class.{class_of}
use Rattle.ppp_control.specs.Given.{Given}
use Rattle.ppp_control.specs.OwnPackets.{packet, request_packet, terminate_packet, verdict_packet}
use Rattle.ppp_control.specs.Past.{Happened, is_timeout, last_request, id_in, next_id_after, onto, sent_in, last_of, options_in}
use Rattle.ppp_control.specs.Rules.{Rules, Call, by_itself, ticks, hears, rejects, Called, AllLawful, IsLawful, happened_in, heard_in, verdict_in, event_in, comes_with, comes_heard, aside, sends_on, acts_on}
use Rattle.ppp_control.specs.Sent.{each, sent_for}
use Rattle.ppp_control.specs.Verdict.{verdict_of, event_on}

-- a packet, if it is an Ack, carries options of which this holds
abbrev pub Carries : (List Item → Type 0) → Packet → Type 0
Carries fits p = (p.code == 2) ≡ true → fits (items_of p.body)

abbrev pub AllCarry : (List Item → Type 0) → List Packet → Type 0
AllCarry fits [] = Unit {0}
AllCarry fits (p ∷ packets) = Carries fits p × AllCarry fits packets

pub clash : {A : Type 0} → false ≡ true → A
clash e = absurd (let x : false ≡ true = e in cc)

both_carry : (fits : List Item → Type 0) (xs ys : List Packet) → AllCarry fits xs → AllCarry fits ys → AllCarry fits (xs ++ ys)
both_carry fits [] ys h k = k
both_carry fits (x ∷ xs) ys h k = (h.0, both_carry fits xs ys h.1 k)

-- the last Ack among them
last_fits : (fits : List Item → Type 0) (packets log : List Packet) → AllCarry fits packets → fits (options_in (last_of 2 log)) → fits (options_in (last_of 2 (onto packets log)))
last_fits fits [] log h k = k
last_fits fits (p ∷ packets) log h k = last_fits fits packets (p ∷ log) h.1 (one (p.code == 2) refl)
  where
    one : (b : Bool) → (p.code == 2) ≡ b → fits (options_in (cond b (Some p) (last_of 2 log)))
    one true e = h.0 e
    one false e = k

-- by the table an Ack is sent at RcrGood alone
abbrev pub is_good : FsmEvent → Bool
is_good RcrGood = true
is_good _ = false

abbrev acks_good : FsmEvent → ℕ → Entry → Bool
acks_good event state entry = not (has Sca (acts_in entry)) || is_good event

pub good_event : (a : Automaton) (event : FsmEvent) → has Sca (acts_of a event) ≡ true → is_good event ≡ true
unfolding acts_of
good_event a event h = second _ _ (each_entry acks_good refl (λ event state past. refl) a event) h
  where
    second : (a b : Bool) → (not a || b) ≡ true → a ≡ true → b ≡ true
    second true b e f = e
    second false b e f = clash f

other_code : {X : Type 0} (fits : List Item → Type 0) (f : X → Packet) (o : Option X) → ((x : X) → ((f x).code == 2) ≡ false) → AllCarry fits (option_to_list (option_map f o))
other_code fits f None h = tt
other_code fits f (Some x) h = ((λ e. clash (sym (h x) ∙ e)), tt)

or_else : (fits : List Item → Type 0) (b : Bool) (x y : Option Packet) → AllCarry fits (option_to_list x) → AllCarry fits (option_to_list y) → AllCarry fits (option_to_list (cond b x y))
or_else fits true x y h k = h
or_else fits false x y h k = k

pub no_ack : (fits : List Item → Type 0) (p : Packet) → (p.code == 2) ≡ false → AllCarry fits (p ∷ [])
no_ack fits p e = ((λ x. clash (sym e ∙ x)), tt)

verdict_carries : (fits : List Item → Type 0) (id : ℕ) (v : Verdict) → AllCarry fits (option_to_list (verdict_packet id v))
verdict_carries fits id Ack = tt
verdict_carries fits id (Nak items) = ((λ e. clash e), tt)
verdict_carries fits id (Reject items) = ((λ e. clash e), tt)

-- what an act sends, where the options that an Ack would carry fit if it is sent
act_carries : (fits : List Item → Type 0) (g : Given) (event : FsmEvent) (past : List Happened) (act : Act) (acts : List Act) → (has Sca (act ∷ acts) ≡ true → fits g.theirs)
    → AllCarry fits (option_to_list (sent_for g event past act)) × (has Sca acts ≡ true → fits g.theirs)
act_carries fits g event past Sca acts h = (((λ e. subst fits (sym (items_of-laid g.theirs)) (h refl)), tt), λ e. h refl)
act_carries fits g event past Scr acts h = (or_else fits (is_timeout (Some event) && is_some (last_request (sent_in past))) (option_map request_packet (last_request (sent_in past))) (Some (packet 1 (next_id_after past) (laid g.asked))) (other_code fits request_packet (last_request (sent_in past)) (λ x. refl)) (no_ack fits (packet 1 (next_id_after past) (laid g.asked)) refl), h)
act_carries fits g event past Str acts h = (or_else fits (is_timeout (Some event) && is_some (option_map id_in (last_of 5 (sent_in past)))) (option_map terminate_packet (option_map id_in (last_of 5 (sent_in past)))) (Some (packet 5 (next_id_after past) [])) (other_code fits terminate_packet (option_map id_in (last_of 5 (sent_in past))) (λ x. refl)) (no_ack fits (packet 5 (next_id_after past) []) refl), h)
act_carries fits g event past Scn acts h = (verdict_carries fits g.id g.verdict, h)
act_carries fits g event past Sta acts h = (no_ack fits (packet 6 g.id []) refl, h)
act_carries fits g event past Scj acts h = (no_ack fits (packet 7 (next_id_after past) g.rejected) refl, h)
act_carries fits g event past Ser acts h = (other_code fits (λ body. packet 10 g.id body) g.reply (λ x. refl), h)
act_carries fits g event past Zrc acts h = (tt, h)
act_carries fits g event past Irc acts h = (tt, h)
act_carries fits g event past Tlu acts h = (tt, h)
act_carries fits g event past Tld acts h = (tt, h)
act_carries fits g event past Tls acts h = (tt, h)
act_carries fits g event past Tlf acts h = (tt, h)

acts_carry : (fits : List Item → Type 0) (g : Given) (event : FsmEvent) (past : List Happened) (acts : List Act) → (has Sca acts ≡ true → fits g.theirs) → AllCarry fits (each (sent_for g event past) acts)
acts_carry fits g event past [] h = tt
acts_carry fits g event past (act ∷ acts) h =
    let one = act_carries fits g event past act acts h in
    both_carry fits (option_to_list (sent_for g event past act)) (each (sent_for g event past) acts) one.0 (acts_carry fits g event past acts one.1)

-- an Ack means that no option is rejected or named
no_rejected : (items : List Item) (other : Answer) → verdict_of (rejected_or items other) ≡ Ack → (items ≡ []) × (verdict_of other ≡ Ack)
no_rejected [] other e = (refl, e)
no_rejected (i ∷ items) other e = absurd (refuses_no_ack (i ∷ items) e)
  where
    refuses_no_ack : (items : List Item) → Reject items ≡ Ack → ⊥
    refuses_no_ack items e = cc

no_named : (spent : Bool) (items values : List Item) → verdict_of (named_or spent items values) ≡ Ack → items ≡ []
no_named spent [] values e = refl
no_named true (i ∷ items) values e = absurd (let x : Reject (i ∷ items) ≡ Ack = e in cc)
no_named false (i ∷ items) values e = absurd (let x : Nak _ ≡ Ack = e in cc)

pub acked_all : (judge : Item → Judgement) (spent : Bool) (items : List Item) → verdict_of (answer_to judge spent items) ≡ Ack → (rejected judge items ≡ []) × (named judge items ≡ [])
unfolding answer_to
acked_all judge spent items e =
    let first = no_rejected (rejected judge items) (named_or spent (named judge items) (renamed judge items)) e in
    (first.0, no_named spent (named judge items) (renamed judge items) first.1)

-- what holds of options of which none is rejected or named, and of no options, holds of what the last Ack carries
abbrev pub Passes : {A : Type 0} → Rules A → (List Item → Type 0) → Type 0
Passes {A} r fits = (past : List (Called A)) (a : A) (items : List Item) → rejected (r.judges past a) items ≡ [] → named (r.judges past a) items ≡ [] → fits items

good_verdict : (v : Verdict) → is_good (event_on v) ≡ true → v ≡ Ack
good_verdict Ack e = refl
good_verdict (Nak items) e = clash e
good_verdict (Reject items) e = clash e

is_some_good : (x y : FsmEvent) → Some x ≡ Some y → is_good y ≡ true → is_good x ≡ true
is_some_good x y e f = ap (λ o. good_of o) e ∙ f
  where
    good_of : Option FsmEvent → Bool
    good_of None = false
    good_of (Some z) = is_good z

heard_fits : {A : Type 0} (r : Rules A) (fits : List Item → Type 0) → Passes r fits → fits [] → (past : List (Called A)) (now : ℕ) (p : Packet) (a : A) (event : FsmEvent) (h : HeardAs)
    → class_of (verdict_in r past a) h ≡ Some event → is_good event ≡ true → fits (comes_heard r past now p a event h).theirs
heard_fits r fits passes none past now p a event (Asks items) e good =
    let all = acked_all (r.judges past a) _ items (good_verdict (verdict_in r past a items) (is_some_good _ event e good)) in
    passes past a items all.0 all.1
heard_fits r fits passes none past now p a event Acked e good = none
heard_fits r fits passes none past now p a event (Named items) e good = none
heard_fits r fits passes none past now p a event (Rejected items) e good = none
heard_fits r fits passes none past now p a event (Event other) e good = none
heard_fits r fits passes none past now p a event Discarded e good = none

call_fits : {A : Type 0} (r : Rules A) (fits : List Item → Type 0) → Passes r fits → fits [] → (past : List (Called A)) (now : ℕ) (event : FsmEvent) (call : Call A)
    → event_in r past now call ≡ Some event → is_good event ≡ true → fits (comes_with r past now event call).theirs
call_fits r fits passes none past now event (by_itself own) e good = none
call_fits r fits passes none past now event ticks e good = none
call_fits r fits passes none past now event (hears p a) e good = heard_fits r fits passes none past now p a event (heard_in r.is_lcp past p) e good
call_fits r fits passes none past now event (rejects protocol information) e good = none

by_event : {A : Type 0} (r : Rules A) (fits : List Item → Type 0) → Passes r fits → fits [] → (past : List (Called A)) (now : ℕ) (call : Call A) (event : Option FsmEvent) (a : Automaton)
    → AllCarry fits (aside r past now call) → event_in r past now call ≡ event → AllCarry fits (sends_on r past now call event (acts_on a event))
by_event r fits passes none past now call None a quiet e = quiet
by_event r fits passes none past now call (Some event) a quiet e =
    acts_carry fits (comes_with r past now event call) event (happened_in past) (acts_of a event) (λ h. call_fits r fits passes none past now event call e (good_event a event h))

lawful_carries : {A : Type 0} (r : Rules A) (fits : List Item → Type 0) → Passes r fits → fits [] → (past : List (Called A)) (c : Called A) → AllCarry fits (aside r past c.happened.now c.call)
    → IsLawful r c past → AllCarry fits c.happened.packets
lawful_carries r fits passes none past c quiet lawful =
    subst (λ packets. AllCarry fits packets)
    (sym (lawful.packets ∙ ap (λ acts. sends_on r past c.happened.now c.call c.happened.event acts) lawful.acts))
    (by_event r fits passes none past c.happened.now c.call c.happened.event _ quiet (sym lawful.event))

pub ack_fits : {A : Type 0} (r : Rules A) (fits : List Item → Type 0) → Passes r fits → fits [] → ((past : List (Called A)) (now : ℕ) (call : Call A) → AllCarry fits (aside r past now call))
    → (past : List (Called A)) → AllLawful r past → fits (options_in (last_of 2 (sent_in (happened_in past))))
ack_fits r fits passes none quiet [] all = none
ack_fits r fits passes none quiet (c ∷ past) all =
    last_fits fits c.happened.packets (sent_in (happened_in past)) (lawful_carries r fits passes none past c (quiet past c.happened.now c.call) all.0) (ack_fits r fits passes none quiet past all.1)
