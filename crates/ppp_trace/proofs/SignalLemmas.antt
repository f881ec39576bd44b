-- The names of signals.
use Rattle.std.proofs.Common.{◌≡◌, ◌≢◌, ℕ, List, ◌++◌, Bool, true, false, Option, Some, None, MatchOption, codes, drop, refl, ap, sym, ◌∙◌, if◌then◌else◌}
use Rattle.std.proofs.lemmas.Option.{none-some, same_Some}
use Rattle.std.proofs.lemmas.Slice.Eq.{bytes_eq-Decides}
use Rattle.ppp_base.specs.declared.signal_word.SignalWord.{SignalWord}
use Rattle.ppp_base.specs.declared.signal_word.SignalWord.TheVariants.{Hup, Int, Term, Usr1, Usr2}
use Rattle.ppp_outside.specs.SignalNames.{is_text, signal_of}
use Rattle.ppp_trace.specs.FullSteps.{signal_text}

is_name : (rest name : List ℕ) → is_text rest name ≡ true → rest ≡ name
is_name rest name e = (bytes_eq-Decides rest name).0 e

-- the first of these names that is there
pick : (h i t u v : Bool) → Option SignalWord
pick true i t u v = Some Hup
pick false true t u v = Some Int
pick false false true u v = Some Term
pick false false false true v = Some Usr1
pick false false false false true = Some Usr2
pick false false false false false = None

picked : (h i t u v : Bool) (rest : List ℕ) (w : SignalWord) → (h ≡ true → rest ≡ codes "HUP") → (i ≡ true → rest ≡ codes "INT") → (t ≡ true → rest ≡ codes "TERM")
    → (u ≡ true → rest ≡ codes "USR1") → (v ≡ true → rest ≡ codes "USR2") → pick h i t u v ≡ Some w → rest ≡ signal_text w
unfolding pick signal_text
picked true i t u v rest w hup int term usr1 usr2 e = hup refl ∙ ap signal_text (same_Some Hup w e)
picked false true t u v rest w hup int term usr1 usr2 e = int refl ∙ ap signal_text (same_Some Int w e)
picked false false true u v rest w hup int term usr1 usr2 e = term refl ∙ ap signal_text (same_Some Term w e)
picked false false false true v rest w hup int term usr1 usr2 e = usr1 refl ∙ ap signal_text (same_Some Usr1 w e)
picked false false false false true rest w hup int term usr1 usr2 e = usr2 refl ∙ ap signal_text (same_Some Usr2 w e)
picked false false false false false rest w hup int term usr1 usr2 e = absurd (none-some w e)

is_picked : (h i t u v : Bool)
    → (if h then Some Hup else if i then Some Int else if t then Some Term else if u then Some Usr1 else if v then Some Usr2 else None) ≡ pick h i t u v
unfolding pick
is_picked true i t u v = refl
is_picked false true t u v = refl
is_picked false false true u v = refl
is_picked false false false true v = refl
is_picked false false false false true = refl
is_picked false false false false false = refl

signal_is : (rest : List ℕ) (w : SignalWord) → signal_of rest ≡ Some w → rest ≡ signal_text w
signal_is rest w e =
    picked (is_text rest (codes "HUP")) (is_text rest (codes "INT")) (is_text rest (codes "TERM")) (is_text rest (codes "USR1")) (is_text rest (codes "USR2")) rest w
    (is_name rest (codes "HUP")) (is_name rest (codes "INT")) (is_name rest (codes "TERM")) (is_name rest (codes "USR1")) (is_name rest (codes "USR2"))
    (sym (is_picked (is_text rest (codes "HUP")) (is_text rest (codes "INT")) (is_text rest (codes "TERM")) (is_text rest (codes "USR1")) (is_text rest (codes "USR2"))) ∙ e)

signal_back : (w : SignalWord) → signal_of (signal_text w) ≡ Some w
unfolding signal_text
signal_back Hup = refl
signal_back Int = refl
signal_back Term = refl
signal_back Usr1 = refl
signal_back Usr2 = refl

pub signal_cases : (text rest : List ℕ) (read : Option SignalWord) → text ≡ codes "word " ++ rest → read ≡ signal_of rest
    → MatchOption read ((w : SignalWord) → text ≢ codes "word " ++ signal_text w) (λ w. text ≡ codes "word " ++ signal_text w)
signal_cases text rest None is read = λ w e.
    none-some w (read ∙ ap signal_of (ap (drop 5) (sym is ∙ e)) ∙ signal_back w)
signal_cases text rest (Some w) is read = is ∙ ap (λ xs. codes "word " ++ xs) (signal_is rest w (sym read))
