-- No step sends an Echo-Request, and it sends a Nak where the answer is one and is sent.
use Rattle.std.proofs.Common.{◌≡◌, ℕ, Bool, true, false, cond, Option, Some, None, List, [], ◌∷◌, ◌++◌, refl, ap, ◌∙◌}
use Rattle.std.specs.Prelude.{◌==◌, ◌||◌, option_map, option_to_list, find}
use Rattle.std.specs.List.{list_any}
use Rattle.ppp_fsm.specs.declared.event.FsmEvent.{FsmEvent}
use Rattle.ppp_fsm.specs.declared.acts.Act.{Act}
use Rattle.ppp_fsm.specs.declared.acts.Act.TheVariants.{Tlu, Tld, Tls, Tlf, Irc, Zrc, Scr, Sca, Scn, Str, Sta, Scj, Ser}
use Rattle.ppp_fsm.specs.Fsm.{acts_of}
use Rattle.ppp_packet.specs.declared.packet.Packet.{Packet}
use Rattle.ppp_packet.specs.OptionsOf.{laid}
use Rattle.ppp_control.specs.declared.negotiation.Negotiation.{Negotiation}
use Rattle.ppp_control.specs.declared.judging.Verdict.{Verdict}
use Rattle.ppp_control.specs.declared.judging.Verdict.TheVariants.{Ack, Nak, Reject}
use Rattle.ppp_control.specs.Given.{Given}
use Rattle.ppp_control.specs.Step.{left_by, sent_by, sent_by_all, moved, step_sends, requested, terminated}
use Rattle.ppp_control.specs.OwnPackets.{packet, request_packet, terminate_packet, verdict_packet}
use Rattle.ppp_control.specs.Rules.{is_nak, is_scn}

-- whether some packet of two lists is one
pub any_more : (test : Packet → Bool) (xs ys : List Packet) → list_any test (xs ++ ys) ≡ (list_any test xs || list_any test ys)
any_more test [] ys = refl
any_more test (x ∷ xs) ys = or_more (test x) (list_any test xs) (list_any test ys) (list_any test (xs ++ ys)) (any_more test xs ys)
  where
    or_more : (a b c d : Bool) → d ≡ (b || c) → (a || d) ≡ ((a || b) || c)
    or_more true b c d e = refl
    or_more false b c d e = e

-- A test that no packet of an act passes is passed by none of a step.
pub none_by_option : {X : Type 0} (test : Packet → Bool) (f : X → Packet) (o : Option X) → ((x : X) → test (f x) ≡ false) → list_any test (option_to_list (option_map f o)) ≡ false
none_by_option test f None h = refl
none_by_option test f (Some x) h = ap (λ b. b || false) (h x)

no_echo_by_verdict : (id : ℕ) (v : Verdict) → list_any (λ p. p.code == 9) (option_to_list (verdict_packet id v)) ≡ false
no_echo_by_verdict id Ack = refl
no_echo_by_verdict id (Nak items) = refl
no_echo_by_verdict id (Reject items) = refl

no_echo : (o : Given) (n : Negotiation) (act : Act) → list_any (λ p. p.code == 9) (option_to_list (sent_by o n act)) ≡ false
no_echo o n Scr = none_by_option (λ p. p.code == 9) request_packet (requested o n).request (λ x. refl)
no_echo o n Str = none_by_option (λ p. p.code == 9) terminate_packet (terminated o n).terminate (λ x. refl)
no_echo o n Sca = refl
no_echo o n Scn = no_echo_by_verdict o.id o.verdict
no_echo o n Sta = refl
no_echo o n Scj = refl
no_echo o n Ser = none_by_option (λ p. p.code == 9) (λ body. packet 10 o.id body) o.reply (λ x. refl)
no_echo o n Zrc = refl
no_echo o n Irc = refl
no_echo o n Tlu = refl
no_echo o n Tld = refl
no_echo o n Tls = refl
no_echo o n Tlf = refl

no_echoes : (o : Given) (acts : List Act) (n : Negotiation) → list_any (λ p. p.code == 9) (sent_by_all o n acts) ≡ false
no_echoes o [] n = refl
no_echoes o (act ∷ acts) n =
    any_more (λ p. p.code == 9) (option_to_list (sent_by o n act)) (sent_by_all o (left_by o n act) acts)
    ∙ ap (λ b. b || list_any (λ p. p.code == 9) (sent_by_all o (left_by o n act) acts)) (no_echo o n act)
    ∙ no_echoes o acts (left_by o n act)

pub step_sends_no_echo : (o : Given) (event : FsmEvent) (n : Negotiation) → list_any (λ p. p.code == 9) (step_sends o event n) ≡ false
unfolding step_sends
step_sends_no_echo o event n = no_echoes o (acts_of n.fsm event) (moved event n)

-- A Nak is sent exactly where the answer is one and is sent.
abbrev pub nak_in : ℕ → Verdict → Option Packet
nak_in id Ack = None
nak_in id (Nak items) = Some (packet 3 id (laid items))
nak_in id (Reject items) = None

nak_of_verdict : (id : ℕ) (v : Verdict) (rest : List Packet) (b : Bool) → find is_nak rest ≡ cond b (nak_in id v) None
    → find is_nak (option_to_list (verdict_packet id v) ++ rest) ≡ nak_in id v
nak_of_verdict id Ack rest true e = e
nak_of_verdict id Ack rest false e = e
nak_of_verdict id (Nak items) rest b e = refl
nak_of_verdict id (Reject items) rest true e = e
nak_of_verdict id (Reject items) rest false e = e

no_nak : {X : Type 0} (f : X → Packet) (o : Option X) (rest : List Packet) → ((x : X) → is_nak (f x) ≡ false) → find is_nak (option_to_list (option_map f o) ++ rest) ≡ find is_nak rest
no_nak f None rest h = refl
no_nak f (Some x) rest h = ap (λ b. cond b (Some (f x)) (find is_nak rest)) (h x)

naks_sent : (o : Given) (acts : List Act) (n : Negotiation) → find is_nak (sent_by_all o n acts) ≡ cond (list_any is_scn acts) (nak_in o.id o.verdict) None
naks_sent o [] n = refl
naks_sent o (Scn ∷ acts) n = nak_of_verdict o.id o.verdict (sent_by_all o (left_by o n Scn) acts) (list_any is_scn acts) (naks_sent o acts (left_by o n Scn))
naks_sent o (Scr ∷ acts) n = no_nak request_packet (requested o n).request _ (λ x. refl) ∙ naks_sent o acts (left_by o n Scr)
naks_sent o (Str ∷ acts) n = no_nak terminate_packet (terminated o n).terminate _ (λ x. refl) ∙ naks_sent o acts (left_by o n Str)
naks_sent o (Ser ∷ acts) n = no_nak (λ body. packet 10 o.id body) o.reply _ (λ x. refl) ∙ naks_sent o acts n
naks_sent o (Sca ∷ acts) n = naks_sent o acts (left_by o n Sca)
naks_sent o (Sta ∷ acts) n = naks_sent o acts n
naks_sent o (Scj ∷ acts) n = naks_sent o acts (left_by o n Scj)
naks_sent o (Zrc ∷ acts) n = naks_sent o acts (left_by o n Zrc)
naks_sent o (Irc ∷ acts) n = naks_sent o acts n
naks_sent o (Tlu ∷ acts) n = naks_sent o acts n
naks_sent o (Tld ∷ acts) n = naks_sent o acts n
naks_sent o (Tls ∷ acts) n = naks_sent o acts n
naks_sent o (Tlf ∷ acts) n = naks_sent o acts n

pub nak_sent : (o : Given) (event : FsmEvent) (n : Negotiation) → find is_nak (step_sends o event n) ≡ cond (list_any is_scn (acts_of n.fsm event)) (nak_in o.id o.verdict) None
unfolding step_sends
nak_sent o event n = naks_sent o (acts_of n.fsm event) (moved event n)
