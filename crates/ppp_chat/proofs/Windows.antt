-- A string of at most 513 octets is a suffix of octets exactly where it is one of their last 513.
use Rattle.std.proofs.Common.{ℕ, ◌≡◌, ◌+◌, ◌-◌, ◌≤◌, suc, not, cond, nat_eq, nat_lt, None, Some, option_map, List, [], ◌∷◌, ◌++◌, length, take, drop, refl, sym, ap, ◌∙◌, arith, append_assoc, append-nil, length-append, length-drop, inl, inr}
use Rattle.std.specs.List.{AllByRecursion, prefix_len}
use Rattle.std.specs.Cmp.Lexicographic.{pointwise}
use Rattle.std.proofs.lemmas.Bool.{cases_lt}
use Rattle.std.proofs.lemmas.List.{take-append-drop}
use Rattle.std.proofs.Math.Seq.{drop-append-add}
use Rattle.ppp_chat.specs.Course.{Following, at_ending, awaiting}
use Rattle.ppp_chat.specs.Ending.{Awaited, is_found, abort_found, ending, ending_at, event_at}
use Rattle.ppp_chat.specs.Event.{Event, heard}
use Rattle.ppp_chat.specs.Texts.{latest}
use Rattle.ppp_chat.proofs.Endings.{from-same}

-- the end of a list that is not shorter does not depend on what stands before it
end-append : (front back : List ℕ) (count : ℕ) → count ≤ length back
    → drop (length (front ++ back) - count) (front ++ back) ≡ drop (length back - count) back
end-append front back count within =
    let at : length (front ++ back) - count ≡ length front + (length back - count) = omega (arith, length-append front back) in
    rw at (drop-append-add front back (length back - count))

last-found : (n : ℕ) (octets more text : List ℕ) → length text ≤ n
    → is_found (octets ++ more) text ≡ is_found (drop (length octets - n) octets ++ more) text
last-found n octets more text short =
    let front = take (length octets - n) octets in
    let back = drop (length octets - n) octets in
    let split : octets ++ more ≡ front ++ (back ++ more) =
    ap (λ l. l ++ more) (sym (take-append-drop (length octets - n) octets)) ∙ append_assoc front back more in
    elim (cases_lt (length octets) n) [
      | inl below ↦
          let none : length octets - n ≡ 0 = omega arith in
          rw none refl
      | inr full ↦
          let within : length text ≤ length (back ++ more) = omega (arith, length-append back more, length-drop (length octets - n) octets) in
          ap (λ l. is_found l text) split ∙ ap (λ l. pointwise nat_eq text l) (end-append front (back ++ more) (length text) within)
    ]

-- no abort string is longer than the window
abbrev pub NoneIsLong : List (List ℕ) → Type 0
NoneIsLong aborts = AllByRecursion (λ (text : List ℕ). length text ≤ 513) aborts

prefix-found : (octets more : List ℕ) (aborts : List (List ℕ)) → NoneIsLong aborts
    → prefix_len (λ text. not (is_found (octets ++ more) text)) aborts ≡ prefix_len (λ text. not (is_found (latest octets ++ more) text)) aborts
prefix-found octets more [] short = refl
prefix-found octets more (text ∷ aborts) short =
    ap (λ b. cond (not b) (1 + prefix_len (λ text. not (is_found (octets ++ more) text)) aborts) 0) (last-found 513 octets more text short.0)
    ∙ ap (λ n. cond (not (is_found (latest octets ++ more) text)) (1 + n) 0) (prefix-found octets more aborts short.1)

abort-found : (octets more : List ℕ) (aborts : List (List ℕ)) → NoneIsLong aborts
    → abort_found (octets ++ more) aborts ≡ abort_found (latest octets ++ more) aborts
abort-found octets more aborts short =
    ap (λ n. option_map (λ (place : ℕ). place + 1) (cond (nat_lt n (length aborts)) (Some n) None)) (prefix-found octets more aborts short)

ending-latest : (x : Awaited) (octets more : List ℕ) (event : Event) → length x.text ≤ 513 → NoneIsLong x.aborts
    → ending x (octets ++ more) event ≡ ending x (latest octets ++ more) event
ending-latest x octets more event text aborts = rw (last-found 513 octets more x.text text, abort-found octets more x.aborts aborts) refl

-- An expect needs the last octets alone.
pub awaiting-latest : (x : Awaited) (octets : List ℕ) (found late : Following) (later : List Event) → length x.text ≤ 513 → NoneIsLong x.aborts
    → awaiting x octets found late later ≡ awaiting x (latest octets) found late later
awaiting-latest x octets found late later text aborts =
    ap (λ r. at_ending r found late later)
    (from-same (ending_at x octets later) (ending_at x (latest octets) later)
    (λ i. ending-latest x octets (heard (take (suc i) later)) (event_at later i) text aborts) 0 (length later))

pub ending-latest-now : (x : Awaited) (octets : List ℕ) (event : Event) → length x.text ≤ 513 → NoneIsLong x.aborts
    → ending x octets event ≡ ending x (latest octets) event
ending-latest-now x octets event text aborts =
    ap (λ l. ending x l event) (sym (append-nil octets)) ∙ ending-latest x octets [] event text aborts ∙ ap (λ l. ending x l event) (append-nil (latest octets))
