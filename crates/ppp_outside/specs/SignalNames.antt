-- Which words of a control name signals.
use Rattle.std.specs.Prelude.{ℕ, List, codes, Bool, nat_eq, Option, Some, None, if◌then◌else◌}
use Rattle.std.specs.Cmp.Lexicographic.{pointwise}
use Rattle.ppp_base.specs.declared.signal_word.SignalWord.{SignalWord}
use Rattle.ppp_base.specs.declared.signal_word.SignalWord.TheVariants.{Hup, Int, Term, Usr1, Usr2}

abbrev pub is_text : List ℕ → List ℕ → Bool
is_text text named = pointwise nat_eq text named

-- the signal that a word names
abbrev pub signal_of : List ℕ → Option SignalWord
signal_of text =
    if is_text text (codes "HUP")
    then Some Hup
    else
    if is_text text (codes "INT")
    then Some Int
    else
    if is_text text (codes "TERM")
    then Some Term
    else
    if is_text text (codes "USR1")
    then Some Usr1
    else if is_text text (codes "USR2") then Some Usr2 else None
