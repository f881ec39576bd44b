-- LCP is asked: what it tells is what looking back says, and the machine stands for the state with the call.
use Rattle.std.proofs.Common.{◌≡◌, ◌≤◌, ℕ, Bool, true, false, Option, None, Some, List, ◌∷◌, refl, ap, sym, subst, ◌∙◌, arith}
use Rattle.std.specs.Prelude.{◌==◌, ◌^◌, min}
use Rattle.ppp_control.specs.Rules.{Call}
use Rattle.std.proofs.lemmas.Bool.Decides.{nat_tests}
use Rattle.ppp_fsm.specs.Fsm.{Automaton, after}
use Rattle.ppp_fsm.specs.Moving.{is_shut}
use Rattle.ppp_fsm.specs.declared.event.FsmEvent.TheVariants as fsm
use Rattle.ppp_fsm.proofs.MovingLemmas.{shut_by_close}
use Rattle.ppp_lcp.specs.declared.lcp.Lcp.{Lcp}
use Rattle.ppp_lcp.specs.declared.out.LcpOut.{LcpOut}
use Rattle.ppp_lcp.specs.declared.wish.LcpWish.{LcpWish}
use Rattle.ppp_lcp.specs.Session.{Calls, LcpCall, StandsFor as IsLcp, Tells, called, in_a_row, lost_at, auth_refused_at, own_requests}
use Rattle.ppp_link_rules.specs.LcpAnswer.{lcp_answer, told_at, told_of, told_with}
use Rattle.ppp_link_rules.specs.LinkState.{LcpPart, LinkState}
use Rattle.ppp_link_core.specs.declared.link_core.LinkCore.{LinkCore}
use Rattle.ppp_link_core.specs.Standing.{Does, LcpStands, Lives, StandsFor}
use Rattle.ppp_link_core.specs.Told.{lcp_asked, lcp_asked_by, lcp_asked_now, lcp_told, lcp_told_by}
use Rattle.ppp_link_core.proofs.StandFacts.{lives_after}

pub moment_of : {S : Type 0} {c : LinkCore S} → Lives c → c.time ≤ 2 ^ 56
moment_of l = l.stands.moment

-- what a lawful call tells is the answer of the rules
is_told : (wish : LcpWish) (words : ℕ) (call : Call (Unit {0})) (now : ℕ) (out : LcpOut) (l : Lcp) (past : List LcpCall)
    → IsLcp wish words l (called call now out ∷ past) → Tells wish words call now out past → out ≡ lcp_answer wish words past call now
unfolding lcp_answer
is_told wish words call now out l past k t =
    let law = k.negotiates.lawful.0 in
    let loops : ℕ = min (in_a_row (own_requests wish words (called call now out ∷ past))) 255 in
    let lost : ℕ = lost_at call out.event wish words past now in
    let refused : Bool = auth_refused_at call past in
    let one : out ≡ (record out { loops = loops }) = ap (λ n. record out { loops = n }) t.loops in
    let two : (record out { loops = loops }) ≡ (record out { loops = loops; unanswered = lost }) = ap (λ n. record out { loops = loops; unanswered = n }) t.unanswered in
    let three : (record out { loops = loops; unanswered = lost }) ≡ (record out { loops = loops; unanswered = lost; auth_refused = refused }) =
    ap (λ b. record out { loops = loops; unanswered = lost; auth_refused = b }) t.auth_refused in
    let four : (record out { loops = loops; unanswered = lost; auth_refused = refused }) ≡ told_of wish words past call now out.event out.acts out.packets =
    ap (λ o. record out { loops = loops; unanswered = lost; auth_refused = refused; network_refused = o }) t.network_refused in
    one ∙ two ∙ three ∙ four
    ∙ ap (λ ps. told_of wish words past call now out.event out.acts ps) law.packets
    ∙ ap (λ acts. told_with wish words past call now out.event acts) law.acts
    ∙ ap (λ event. told_at wish words past call now event) law.event

asked_by : {S : Type 0} (c : LinkCore S) (l new : Lcp) (call : Call (Unit {0})) (now : ℕ) (out : LcpOut) (s : LinkState) (o : Option LcpPart)
    → s.lcp ≡ o → LcpStands s.wish (Some l) o → Calls call now l new out → StandsFor c s → StandsFor (record c { lcp = Some new }) (lcp_asked_by call now s o)
asked_by c l new call now out s None e h calls k = absurd h
asked_by c l new call now out s (Some part) e h calls k =
    let both = calls s.wish part.words part.calls h in
    let told = is_told s.wish part.words call now out new part.calls both.0 both.1 in
    let answer : LcpOut = lcp_answer s.wish part.words part.calls call now in
    record {
      is = ap (λ (y : LinkState). record y { lcp = Some (record part { calls = called call now answer ∷ part.calls }) }) k.is;
      id = k.id;
      moment = k.moment;
      asks = k.asks;
      listens = k.listens;
      negotiates = subst (λ x. IsLcp s.wish part.words new (called call now x ∷ part.calls)) told both.0;
      proves = k.proves;
      dials = k.dials;
      policy = k.policy;
      fits = k.fits;
      passes = k.passes;
    }

told_by : (l new : Lcp) (call : Call (Unit {0})) (now : ℕ) (out : LcpOut) (s : LinkState) (o : Option LcpPart) → LcpStands s.wish (Some l) o → Calls call now l new out → Some out ≡ lcp_told_by call now s o
told_by l new call now out s None h calls = absurd h
told_by l new call now out s (Some part) h calls =
    let both = calls s.wish part.words part.calls h in
    ap Some (is_told s.wish part.words call now out new part.calls both.0 both.1)

there : {S : Type 0} (c : LinkCore S) (o : Option Lcp) (s : LinkState) → c.lcp ≡ o → StandsFor c s → LcpStands s.wish o s.lcp
there c o s e k = subst (λ x. LcpStands s.wish x s.lcp) e k.negotiates

time_is : {S : Type 0} (c : LinkCore S) (s : LinkState) → StandsFor c s → c.time ≡ s.time
time_is c s k = ap (λ (y : LinkState). y.time) k.is

pub asked_at : {S : Type 0} {c : LinkCore S} {l new : Lcp} {call : Call (Unit {0})} {now : ℕ} {out : LcpOut}
    → c.lcp ≡ Some l → Calls call now l new out → Does (lcp_asked call now) c (record c { lcp = Some new })
asked_at {c = c} {l = l} {new = new} {call = call} {now = now} {out = out} e calls =
    record { stands = λ s k. asked_by c l new call now out s s.lcp refl (there c (Some l) s e k) calls k }

pub told_then : {S : Type 0} {c : LinkCore S} {l new : Lcp} {call : Call (Unit {0})} {now : ℕ} {out : LcpOut}
    → c.lcp ≡ Some l → Calls call now l new out → (s : LinkState) → StandsFor c s → Some out ≡ lcp_told call now s
told_then {c = c} {l = l} {new = new} {call = call} {now = now} {out = out} e calls s k = told_by l new call now out s s.lcp (there c (Some l) s e k) calls

pub asked_does : {S : Type 0} {c : LinkCore S} {l new : Lcp} {call : Call (Unit {0})} {out : LcpOut}
    → c.lcp ≡ Some l → Calls call c.time l new out → Does (lcp_asked_now call) c (record c { lcp = Some new })
asked_does {c = c} {new = new} {call = call} e calls = record {
  stands = λ s k. subst (λ now. StandsFor (record c { lcp = Some new }) (lcp_asked call now s)) (time_is c s k) ((asked_at e calls).stands s k);
}

pub asked_told : {S : Type 0} {c : LinkCore S} {l new : Lcp} {call : Call (Unit {0})} {out : LcpOut}
    → c.lcp ≡ Some l → Calls call c.time l new out → (s : LinkState) → StandsFor c s → Some out ≡ lcp_told call s.time s
asked_told {c = c} {call = call} {out = out} e calls s k = subst (λ now. Some out ≡ lcp_told call now s) (time_is c s k) (told_then e calls s k)

none_by : {S : Type 0} (c : LinkCore S) (call : Call (Unit {0})) (now : ℕ) (s : LinkState) (o : Option LcpPart) → LcpStands s.wish None o → StandsFor c s → StandsFor c (lcp_asked_by call now s o)
none_by c call now s None h k = k
none_by c call now s (Some part) h k = absurd h

nothing_by : (call : Call (Unit {0})) (now : ℕ) (s : LinkState) (o : Option LcpPart) → LcpStands s.wish None o → None ≡ lcp_told_by call now s o
nothing_by call now s None h = refl
nothing_by call now s (Some part) h = absurd h

pub none_at : {S : Type 0} {c : LinkCore S} (call : Call (Unit {0})) (now : ℕ) → c.lcp ≡ None → Does (lcp_asked call now) c c
none_at {c = c} call now e = record { stands = λ s k. none_by c call now s s.lcp (there c None s e k) k }

pub none_told_at : {S : Type 0} {c : LinkCore S} (call : Call (Unit {0})) (now : ℕ) → c.lcp ≡ None → (s : LinkState) → StandsFor c s → None ≡ lcp_told call now s
none_told_at {c = c} call now e s k = nothing_by call now s s.lcp (there c None s e k)

pub none_asked : {S : Type 0} {c : LinkCore S} (call : Call (Unit {0})) → c.lcp ≡ None → Does (lcp_asked_now call) c c
none_asked {c = c} call e = record { stands = λ s k. none_by c call s.time s s.lcp (there c None s e k) k }

pub none_told : {S : Type 0} {c : LinkCore S} (call : Call (Unit {0})) → c.lcp ≡ None → (s : LinkState) → StandsFor c s → None ≡ lcp_told call s.time s
none_told {c = c} call e s k = nothing_by call s.time s s.lcp (there c None s e k)

pub lives_asked : {S : Type 0} {c : LinkCore S} {l new : Lcp} {call : Call (Unit {0})} {out : LcpOut}
    → c.lcp ≡ Some l → Calls call c.time l new out → Lives c → Lives (record c { lcp = Some new })
lives_asked e calls lives = lives_after (asked_does e calls) lives

pub lives_asked_at : {S : Type 0} {c : LinkCore S} {l new : Lcp} {call : Call (Unit {0})} {now : ℕ} {out : LcpOut}
    → c.lcp ≡ Some l → Calls call now l new out → Lives c → Lives (record c { lcp = Some new })
lives_asked_at e calls lives = lives_after (asked_at e calls) lives

not_nine : (n : ℕ) (b : Bool) → (n == 9) ≡ b → is_shut n ≡ true → b ≡ false
not_nine n true e h = absurd (let nine : n ≡ 9 = grind (arith, nat_tests) in let x : is_shut 9 ≡ true = subst (λ m. is_shut m ≡ true) nine h in cc)
not_nine n false e h = refl

pub close_shuts : (a b : Automaton) → a.state ≤ 9 → b ≡ after a fsm.Close → (b.state == 9) ≡ false
close_shuts a b few e = not_nine b.state (b.state == 9) refl (subst (λ (x : Automaton). is_shut x.state ≡ true) (sym e) (shut_by_close a few))
