-- What the answer at a flag is, from what was kept of the part.
use Rattle.std.proofs.Common.{◌≡◌, ℕ, ◌<◌, ◌≤◌, ◌==◌, ◌⊎◌, Bool, true, false, cond, not, nat_lt, List, [], ◌∷◌, length, refl, sym, ap, ◌∙◌, arith, inl, inr, Option, Some, None}
use Rattle.std.specs.Prelude.{find, is_none, bit_xor}
use Rattle.std.proofs.lemmas.List.{take_all}
use Rattle.std.proofs.lemmas.Bool.Decides.{nat_tests}
use Rattle.ppp_hdlc.specs.declared.fault.FrameFault.TheVariants.{Aborted, TooLong, Short, BadFcs, BadHeader}
use Rattle.ppp_hdlc.specs.declared.heard.Heard.{Heard}
use Rattle.ppp_hdlc.specs.declared.heard.Heard.TheVariants.{Nothing, Dropped}
use Rattle.ppp_hdlc.specs.Residue.{Residue, good_residue}
use Rattle.ppp_hdlc.specs.Frames.{unescaped, ends_escaping, content, applies, reasons, framed, dropped_or, answer}
use Rattle.ppp_hdlc.specs.Octets.{is_escape}
use Rattle.ppp_hdlc.specs.Deframing.{KeepsPart}
use Rattle.ppp_hdlc.proofs.Unescaping.{unescaped-none, unescaped-one, unescaped-two, escaping-none, escaping-one}

pub bool_cases : (b : Bool) → (b ≡ true) ⊎ (b ≡ false)
bool_cases b = elim b as (λ v. (v ≡ true) ⊎ (v ≡ false)) [ true ↦ inl refl | false ↦ inr refl ]

-- what a whole part of these octets is
abbrev pub judged_whole : List ℕ → Heard
judged_whole octets = cond (nat_lt (length octets) 4) (Dropped Short) (cond (not (Residue octets == good_residue)) (Dropped BadFcs) (framed (content octets)))

answer-some : (x : ℕ) (xs : List ℕ) → answer (x ∷ xs) ≡ dropped_or (find (applies (x ∷ xs)) reasons) (framed (content (unescaped (x ∷ xs))))
unfolding answer
answer-some x xs = refl

answer-none : answer [] ≡ Nothing
unfolding answer
answer-none = refl

-- A part that is not empty, and does not end with an escape, stands for some octet.
unescaped_some : (x : ℕ) (xs : List ℕ) → ends_escaping (x ∷ xs) ≡ false → 0 < length (unescaped (x ∷ xs))
unescaped_some x [] whole =
    let other : is_escape x ≡ false = sym (escaping-one x) ∙ whole in
    rw (unescaped-one x, other) (omega arith)
unescaped_some x (y ∷ xs) whole =
    rw (unescaped-two x y xs)
    (elim (is_escape x) as (λ b. 0 < length (cond b (bit_xor y 32 ∷ unescaped xs) (x ∷ unescaped (y ∷ xs)))) [ true ↦ omega arith | false ↦ omega arith ])

pub answer_aborted : (part : List ℕ) → ends_escaping part ≡ true → answer part ≡ Dropped Aborted
answer_aborted [] aborted = absurd (cc (escaping-none, aborted))
answer_aborted (x ∷ xs) aborted = answer-some x xs ∙ rw aborted refl

pub answer_long : (part : List ℕ) → ends_escaping part ≡ false → nat_lt 1508 (length (unescaped part)) ≡ true → answer part ≡ Dropped TooLong
answer_long [] whole long = absurd (cc (unescaped-none, long))
answer_long (x ∷ xs) whole long = answer-some x xs ∙ rw (whole, long) refl

pub answer_empty : (part : List ℕ) → ends_escaping part ≡ false → length (unescaped part) ≡ 0 → answer part ≡ Nothing
answer_empty [] whole empty = answer-none
answer_empty (x ∷ xs) whole empty = absurd (omega (arith, unescaped_some x xs whole))

pub answer_judged : (part : List ℕ) → ends_escaping part ≡ false → nat_lt 1508 (length (unescaped part)) ≡ false → 0 < length (unescaped part) → answer part ≡ judged_whole (unescaped part)
answer_judged [] whole fits some = absurd (omega (arith, ap length unescaped-none))
answer_judged (x ∷ xs) whole fits some = answer-some x xs ∙ rw (whole, fits) (inner (unescaped (x ∷ xs)))
  where
    header : (found : Option (ℕ × List ℕ)) → dropped_or (cond (is_none found) (Some BadHeader) None) (framed found) ≡ framed found
    header None = refl
    header (Some found) = refl

    inner : (octets : List ℕ) → dropped_or (cond (nat_lt (length octets) 4) (Some Short) (cond (not (Residue octets == good_residue)) (Some BadFcs) (cond (is_none (content octets)) (Some BadHeader) None))) (framed (content octets)) ≡ judged_whole octets
    inner octets =
        elim (nat_lt (length octets) 4) as (λ b. dropped_or (cond b (Some Short) (cond (not (Residue octets == good_residue)) (Some BadFcs) (cond (is_none (content octets)) (Some BadHeader) None))) (framed (content octets))
        ≡ cond b (Dropped Short) (cond (not (Residue octets == good_residue)) (Dropped BadFcs) (framed (content octets)))) [
          | true ↦ refl
          | false ↦
              elim (not (Residue octets == good_residue)) as (λ b. dropped_or (cond b (Some BadFcs) (cond (is_none (content octets)) (Some BadHeader) None)) (framed (content octets)) ≡ cond b (Dropped BadFcs) (framed (content octets)))
              [ true ↦ refl | false ↦ header (content octets) ]
        ]

-- What was kept of a part that is not too long is the whole of it.
pub keeps_all : (octets : List ℕ) (is_escaping : Bool) (part : List ℕ) → KeepsPart octets false is_escaping part → unescaped part ≡ octets
keeps_all octets is_escaping part keeps =
    let fits : length (unescaped part) ≤ 1508 = grind (arith, nat_tests, keeps.over_is) in
    sym (keeps.octets_are ∙ take_all 1508 (unescaped part) fits)

pub judges_empty : (octets : List ℕ) (is_over is_escaping : Bool) (part : List ℕ) → KeepsPart octets is_over is_escaping part → is_escaping ≡ false → is_over ≡ false → length octets ≡ 0 → answer part ≡ Nothing
judges_empty octets is_over is_escaping part keeps whole fits empty =
    let same : unescaped part ≡ octets = keeps_all octets is_escaping part (rw fits at keeps) in
    answer_empty part (sym keeps.escaping_is ∙ whole) (ap length same ∙ empty)

pub judges : (octets : List ℕ) (is_over is_escaping : Bool) (part : List ℕ) → KeepsPart octets is_over is_escaping part → is_escaping ≡ false → is_over ≡ false → 0 < length octets → answer part ≡ judged_whole octets
judges octets is_over is_escaping part keeps whole fits some =
    let same : unescaped part ≡ octets = keeps_all octets is_escaping part (rw fits at keeps) in
    answer_judged part (sym keeps.escaping_is ∙ whole) (sym keeps.over_is ∙ fits) (rw same some) ∙ ap judged_whole same
