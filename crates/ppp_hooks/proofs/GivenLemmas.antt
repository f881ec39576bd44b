-- What is given to openings counts for the openings so far alone.
use Rattle.std.proofs.Common.{ℕ, ◌+◌, ◌<◌, ◌≤◌, ◌≡◌, Bool, true, false, Option, None, Some, List, [], ◌∷◌, ◌++◌, refl, ap, ◌∙◌, sym, arith}
use Rattle.std.specs.Prelude.{IfSome, option_map}
use Rattle.ppp_base.specs.declared.hook_target.HookTarget.{HookTarget}
use Rattle.ppp_outside.specs.declared.hook_words.HookArgs.{HookArgs}
use Rattle.ppp_hooks.specs.declared.facts.HookFacts.{HookFacts}
use Rattle.ppp_hooks.specs.declared.facts.Opening.{Opening}
use Rattle.ppp_hooks.specs.declared.facts.Start.{Start}
use Rattle.ppp_hooks.specs.HookFacts.{HasArgs, StandsFor, opening_number, start_key}
use Rattle.ppp_hooks.specs.HookMark.{HookMark, Opened, Closed, Started, Ended}
use Rattle.ppp_hooks.specs.HookPast.{greatest_in, last_in, open_in, IsLawful}
use Rattle.ppp_hooks.specs.HookRuns.{ran_in, ran_of}
use Rattle.ppp_hooks.specs.HookWords.{words_for, words_in}

-- both give the same up to this number
abbrev SameUpTo : ℕ → (ℕ → HookArgs) → (ℕ → HookArgs) → Type 0
SameUpTo most given other = (n : ℕ) → n ≤ most → given n ≡ other n

open_small : (past : List HookMark) (n : ℕ) → IsLawful past → open_in past ≡ Some n → n ≤ greatest_in past
open_small [] n l e = absurd (cc e)
open_small (Opened m ∷ past) n l e = let same : m ≡ n = cc e in omega (arith, same)
open_small (Closed m ∷ past) n l e = absurd (cc e)
open_small (Started up m ∷ past) n l e = open_small past n l.1 e
open_small (Ended answer job ∷ past) n l e = open_small past n l.1 e

last_small : (past : List HookMark) (up : Bool) (n : ℕ) → IsLawful past → last_in past ≡ Some (up, n) → n ≤ greatest_in past
last_small [] up n l e = absurd (cc e)
last_small (Opened m ∷ past) up n l e = omega (arith, last_small past up n l.1 e, l.0.1)
last_small (Closed m ∷ past) up n l e = last_small past up n l.1 e
last_small (Started true m ∷ past) up n l e =
    let pair : (true, m) ≡ (up, n) = cc e in
    let same : m ≡ n = ap (λ (p : Bool × ℕ). p.1) pair in
    omega (arith, same, open_small past m l.1 l.0.2)
last_small (Started false m ∷ past) up n l e =
    let pair : (false, m) ≡ (up, n) = cc e in
    let same : m ≡ n = ap (λ (p : Bool × ℕ). p.1) pair in
    omega (arith, same, last_small past true m l.1 l.0.1)
last_small (Ended answer job ∷ past) up n l e = last_small past up n l.1 e

open_args : (given other : ℕ → HookArgs) (o : Option Opening) (most : ℕ) → SameUpTo most given other → ((n : ℕ) → opening_number o ≡ Some n → n ≤ most)
    → IfSome o (λ x. x.args ≡ given x.number) → IfSome o (λ x. x.args ≡ other x.number)
open_args given other None most same small h = h
open_args given other (Some x) most same small h = h ∙ same x.number (small x.number refl)

last_args : (given other : ℕ → HookArgs) (s : Option Start) (most : ℕ) → SameUpTo most given other → ((up : Bool) (n : ℕ) → option_map start_key s ≡ Some (up, n) → n ≤ most)
    → IfSome s (λ x. x.opening.args ≡ given x.opening.number) → IfSome s (λ x. x.opening.args ≡ other x.opening.number)
last_args given other None most same small h = h
last_args given other (Some x) most same small h = h ∙ same x.opening.number (small x.up x.opening.number refl)

pub has_args : (given other : ℕ → HookArgs) (facts : HookFacts) (past : List HookMark) → StandsFor facts past → SameUpTo (greatest_in past) given other
    → HasArgs given facts → HasArgs other facts
has_args given other facts past stands same h =
    let k = stands.keeps in record {
      now_open = open_args given other facts.now_open (greatest_in past) same (λ n e. open_small past n k.lawful (sym k.now_open ∙ e)) h.now_open;
      last = last_args given other facts.last (greatest_in past) same (λ up n e. last_small past up n k.lawful (sym k.last ∙ e)) h.last;
    }

words_same : (target : HookTarget) (given other : ℕ → HookArgs) (last : Option (Bool × ℕ)) (most : ℕ) → SameUpTo most given other
    → ((up : Bool) (n : ℕ) → last ≡ Some (up, n) → n ≤ most) → option_map (words_for target given) last ≡ option_map (words_for target other) last
words_same target given other None most same small = refl
words_same target given other (Some s) most same small =
    ap (λ args. Some (record (words_for target given s) { args = args })) (same s.1 (small s.0 s.1 refl))

pub words_given : (target : HookTarget) (given other : ℕ → HookArgs) (past : List HookMark) → IsLawful past → SameUpTo (greatest_in past) given other
    → words_in target given past ≡ words_in target other past
words_given target given other past l same = words_same target given other (last_in past) (greatest_in past) same (λ up n e. last_small past up n l e)

pub ran_given : (target : HookTarget) (given other : ℕ → HookArgs) (past : List HookMark) → IsLawful past → SameUpTo (greatest_in past) given other
    → ran_in target given past ≡ ran_in target other past
ran_given target given other [] l same = refl
ran_given target given other (Opened m ∷ past) l same = ran_given target given other past l.1 (λ n few. same n (omega (arith, few, l.0.1)))
ran_given target given other (Closed m ∷ past) l same = ran_given target given other past l.1 same
ran_given target given other (Started up m ∷ past) l same = ran_given target given other past l.1 same
ran_given target given other (Ended answer job ∷ past) l same =
    ap (λ ran. ran ++ ran_of (words_in target given past) answer) (ran_given target given other past l.1 same)
    ∙ ap (λ words. ran_in target other past ++ ran_of words answer) (words_given target given other past l.1 same)
