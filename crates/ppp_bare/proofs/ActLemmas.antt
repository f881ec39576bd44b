-- Only the acts that open or close the layer do something, and what a bare automaton keeps.
use Rattle.std.proofs.Common.{◌≡◌, ℕ, Bool, true, false, Option, None, Some, List, [], ◌∷◌, ◌++◌, refl, ap, sym, ◌∙◌, subst}
use Rattle.std.specs.Prelude.{◌==◌, is_some, reverse}
use Rattle.std.proofs.Common.{arith}
use Rattle.std.proofs.lemmas.Bool.Decides.{nat_tests}
use Rattle.ppp_fsm.specs.declared.acts.Act.{Act}
use Rattle.ppp_fsm.specs.declared.acts.Act.TheVariants.{Tlu, Tld, Tls, Tlf, Irc, Zrc, Scr, Sca, Scn, Str, Sta, Scj, Ser}
use Rattle.ppp_fsm.specs.Fsm.{Automaton}
use Rattle.ppp_fsm.specs.Opening.{layer_acts}
use Rattle.ppp_hooks.specs.HookMark.{HookMark}
use Rattle.ppp_hooks.specs.HookPast.{open_in}
use Rattle.ppp_hooks.specs.Settled.{Settled}
use Rattle.ppp_mark.specs.Log.{LogState}
use Rattle.ppp_mark.specs.ScriptLog.{KeepsLaw, ScriptLogState}
use Rattle.ppp_mark.specs.Scripts.{said_in}
use Rattle.ppp_mark.proofs.ScriptLemmas.{keeps_law}
use Rattle.ppp_bare.specs.Acts.{after_act, after_acts, log_act, log_acts}
use Rattle.ppp_bare.specs.Bare.{FollowsLaw, IsBare}
use Rattle.ppp_hooks.specs.HookCall.{closed_marks}
use Rattle.ppp_hooks.specs.HookRule.{with_due}
use Rattle.ppp_hooks.specs.HookMark.{Opened, Closed}

pub after_layer_acts : (acts : List Act) (past : List HookMark) → after_acts acts past ≡ after_acts (layer_acts acts) past
unfolding after_acts
after_layer_acts [] past = refl
after_layer_acts (Tlu ∷ acts) past = after_layer_acts acts (after_act Tlu past)
after_layer_acts (Tld ∷ acts) past = after_layer_acts acts (after_act Tld past)
after_layer_acts (Tls ∷ acts) past = after_layer_acts acts past
after_layer_acts (Tlf ∷ acts) past = after_layer_acts acts past
after_layer_acts (Irc ∷ acts) past = after_layer_acts acts past
after_layer_acts (Zrc ∷ acts) past = after_layer_acts acts past
after_layer_acts (Scr ∷ acts) past = after_layer_acts acts past
after_layer_acts (Sca ∷ acts) past = after_layer_acts acts past
after_layer_acts (Scn ∷ acts) past = after_layer_acts acts past
after_layer_acts (Str ∷ acts) past = after_layer_acts acts past
after_layer_acts (Sta ∷ acts) past = after_layer_acts acts past
after_layer_acts (Scj ∷ acts) past = after_layer_acts acts past
after_layer_acts (Ser ∷ acts) past = after_layer_acts acts past

pub log_layer_acts : (acts : List Act) (log : LogState) → log_acts acts log ≡ log_acts (layer_acts acts) log
unfolding log_acts
log_layer_acts [] log = refl
log_layer_acts (Tlu ∷ acts) log = log_layer_acts acts (log_act Tlu log)
log_layer_acts (Tld ∷ acts) log = log_layer_acts acts (log_act Tld log)
log_layer_acts (Tls ∷ acts) log = log_layer_acts acts log
log_layer_acts (Tlf ∷ acts) log = log_layer_acts acts log
log_layer_acts (Irc ∷ acts) log = log_layer_acts acts log
log_layer_acts (Zrc ∷ acts) log = log_layer_acts acts log
log_layer_acts (Scr ∷ acts) log = log_layer_acts acts log
log_layer_acts (Sca ∷ acts) log = log_layer_acts acts log
log_layer_acts (Scn ∷ acts) log = log_layer_acts acts log
log_layer_acts (Str ∷ acts) log = log_layer_acts acts log
log_layer_acts (Sta ∷ acts) log = log_layer_acts acts log
log_layer_acts (Scj ∷ acts) log = log_layer_acts acts log
log_layer_acts (Ser ∷ acts) log = log_layer_acts acts log

pub follows_law : {S : Type 0} (automaton : Automaton) (is_open : Bool) (scripts : ScriptLogState S)
    → IsBare is_open scripts → is_open ≡ (automaton.state == 9) → FollowsLaw automaton scripts.log.past
follows_law automaton is_open scripts bare e =
    let keeps : KeepsLaw scripts.log.past = keeps_law scripts.machine scripts.log bare.kept in
    record {
      law = keeps.law;
      settled = subst (λ (b : Bool). Settled (reverse (said_in scripts.log.past)) b) (bare.opened ∙ e) keeps.settled;
    }

-- where an opening is open
is_there : (o : Option ℕ) → is_some o ≡ true → (n : ℕ) × (o ≡ Some n)
is_there None e = absurd (cc e)
is_there (Some n) e = (n, refl)

pub said_closed : (past new : List HookMark) → is_some (open_in past) ≡ true → ((n : ℕ) → open_in past ≡ Some n → new ≡ with_due (Closed n ∷ past))
    → new ≡ with_due (closed_marks (open_in past) ++ past)
said_closed past new some said =
    let it = is_there (open_in past) some in
    said it.0 it.1 ∙ ap (λ o. with_due (closed_marks o ++ past)) (sym it.1)

pub none_there : (o : Option ℕ) → is_some o ≡ false → o ≡ None
none_there None e = refl
none_there (Some n) e = absurd (cc e)

pub still_open : (past : List HookMark) (n : ℕ) → open_in (with_due (Opened n ∷ past)) ≡ Some n
still_open past n = grind (arith, nat_tests)
