-- The number of an abort string that came, in a script that was read: from 1 to 50.
use Rattle.std.proofs.Common.{ℕ, ◌≡◌, ◌+◌, ◌≤◌, ◌<◌, zero, suc, nat_le, nat_eq, not, Bool, true, false, cond, if◌then◌else◌, Option, None, Some, Result, Ok, Err, List, [], ◌∷◌, ◌++◌, length, filter, refl, sym, ap, ◌∙◌, subst, arith, append-nil, length-append}
use Rattle.std.specs.Prelude.{is_none, option_map}
use Rattle.std.specs.Cmp.Lexicographic.{pointwise}
use Rattle.std.specs.List.{position, slice_split}
use Rattle.std.proofs.lemmas.Bool.Decides.{nat_tests}
use Rattle.std.proofs.lemmas.List.Quantifiers.{position-Some}
use Rattle.ppp_chat.specs.ChatOf.{Point, Reach, Behind, Waits, Ends, Run, ends, from_reach, and_then, with_next, sent_at, send_octets, behind_ending, send_part, send_all, await_text, expect_any, run_items, end_at, outcome_at, ChatOf}
use Rattle.ppp_chat.specs.Ending.{Awaited, ending, ending_at, delay_end_at, first_from, here_or, is_found}
use Rattle.ppp_chat.specs.Event.{Event}
use Rattle.ppp_chat.specs.Pieces.{pieces_of, text_of}
use Rattle.ppp_chat.specs.Script.{SendPart, Octets, Delay, Instead, Expected, Item, Directs, Pair, ChatScript, directives_of}
use Rattle.ppp_chat.specs.Settings.{Settings, aborts_of, settings_after}
use Rattle.ppp_chat.specs.Words.{abort_word, all_pieces, clear_word, directive_word, expect_word, fits, in_twos, is_hyphen, items_behind, keyword_of, keyword_words, ok_map, ok_then, pair_words, script_of, seconds_of, send_word, timeout_word, two_words}
use Rattle.ppp_chat.specs.declared.directive.Directive.{Directive}
use Rattle.ppp_chat.specs.declared.directive.Directive.TheVariants.{Abort, ClearAbort, Timeout}
use Rattle.ppp_chat.specs.declared.ending.Ending.{Ending}
use Rattle.ppp_chat.specs.declared.ending.Ending.TheVariants.{TimeHasCome, Found, AbortFound}
use Rattle.ppp_chat.specs.declared.fault.ScriptFault.{ScriptFault}
use Rattle.ppp_chat.specs.declared.fault.ScriptFault.TheVariants.{TooManyAborts, TooLong}
use Rattle.ppp_chat.specs.declared.keyword.Keyword.{Keyword}
use Rattle.ppp_chat.specs.declared.keyword.Keyword.TheVariants.{Abort as SetsAbort, ClearAbort as ClearsAbort, Timeout as SetsTimeout}
use Rattle.ppp_chat.specs.declared.now.ChatEnd.{ChatEnd}
use Rattle.ppp_chat.specs.declared.now.ChatEnd.TheVariants.{Done, TimedOut, Aborted}
use Rattle.ppp_chat.specs.declared.piece.Piece.{Piece}
use Rattle.ppp_chat.proofs.SettingsSteps.{settings-more}

-- ---- a script that was read sets 50 abort strings at once at most

kept-fewer : (b : Bool) (x : List ℕ) (xs those : List (List ℕ)) → length those ≤ length xs → length (cond b (x ∷ those) those) ≤ length (x ∷ xs)
kept-fewer true x xs those less = omega arith
kept-fewer false x xs those less = omega arith

fewer : (p : List ℕ → Bool) (xs : List (List ℕ)) → length (filter p xs) ≤ length xs
fewer p [] = omega arith
fewer p (x ∷ xs) = kept-fewer (p x) x xs (filter p xs) (fewer p xs)

cleared-few : (before : List Directive) (text : List ℕ) → length (aborts_of before) ≤ 50 → length (aborts_of (before ++ ClearAbort text ∷ [])) ≤ 50
cleared-few before text few =
    let is : aborts_of (before ++ ClearAbort text ∷ []) ≡ filter (λ (abort : List ℕ). not (pointwise nat_eq abort text)) (aborts_of before) =
    ap (λ (s : Settings). s.aborts) (settings-more 0 before (ClearAbort text)) in
    rw is (omega (arith, few, fewer (λ (abort : List ℕ). not (pointwise nat_eq abort text)) (aborts_of before)))

timeout-few : (before : List Directive) (seconds : ℕ) → length (aborts_of before) ≤ 50 → length (aborts_of (before ++ Timeout seconds ∷ [])) ≤ 50
timeout-few before seconds few =
    let is : aborts_of (before ++ Timeout seconds ∷ []) ≡ aborts_of before = ap (λ (s : Settings). s.aborts) (settings-more 0 before (Timeout seconds)) in
    rw is few

set-few : (before : List Directive) (text : List ℕ) → length (aborts_of before) < 50 → length (aborts_of (before ++ Abort text ∷ [])) ≤ 50
set-few before text few =
    let is : aborts_of (before ++ Abort text ∷ []) ≡ aborts_of before ++ text ∷ [] = ap (λ (s : Settings). s.aborts) (settings-more 0 before (Abort text)) in
    rw (is, length-append) (omega (arith, few))

-- two words behind these directives set no more
abbrev TwoFit : List Directive → Result (List Item) ScriptFault → Type 0
TwoFit before (Err fault) = Unit {0}
TwoFit before (Ok []) = Unit {0}
TwoFit before (Ok (Directs directive ∷ [])) = length (aborts_of (before ++ directive ∷ [])) ≤ 50
TwoFit before (Ok (Pair expected send ∷ [])) = Unit {0}
TwoFit before (Ok other) = ⊥

abbrev DirectFit : List Directive → Result Directive ScriptFault → Type 0
DirectFit before (Err fault) = Unit {0}
DirectFit before (Ok directive) = length (aborts_of (before ++ directive ∷ [])) ≤ 50

direct-two : (before : List Directive) (read : Result Directive ScriptFault) → DirectFit before read
    → TwoFit before (ok_map (λ (directive : Directive). Directs directive ∷ []) read)
direct-two before (Ok directive) fit = fit
direct-two before (Err fault) fit = tt

abort-chosen : (full fit : Bool) (before : List Directive) (text : List ℕ) (number : ℕ) → nat_le 50 (length (aborts_of before)) ≡ full
    → DirectFit before (if full then Err (TooManyAborts number) else if fit then Ok (Abort text) else Err (TooLong number))
abort-chosen true fit before text number is = tt
abort-chosen false true before text number is = set-few before text (grind (arith, nat_tests))
abort-chosen false false before text number is = tt

clear-chosen : (fit : Bool) (before : List Directive) (text : List ℕ) (number : ℕ) → length (aborts_of before) ≤ 50
    → DirectFit before (if fit then Ok (ClearAbort text) else Err (TooLong number))
clear-chosen true before text number few = cleared-few before text few
clear-chosen false before text number few = tt

abort-fit : (number : ℕ) (before : List Directive) (pieces : Option (List Piece)) → DirectFit before (abort_word number before pieces)
abort-fit number before None = tt
abort-fit number before (Some pieces) = abort-chosen (nat_le 50 (length (aborts_of before))) (fits (pieces ∷ [])) before (text_of pieces) number refl

clear-fit : (number : ℕ) (before : List Directive) (pieces : Option (List Piece)) → length (aborts_of before) ≤ 50 → DirectFit before (clear_word number pieces)
clear-fit number before None few = tt
clear-fit number before (Some pieces) few = clear-chosen (fits (pieces ∷ [])) before (text_of pieces) number few

timeout-fit : (number : ℕ) (before : List Directive) (seconds : Option ℕ) → length (aborts_of before) ≤ 50 → DirectFit before (timeout_word number seconds)
timeout-fit number before None few = tt
timeout-fit number before (Some seconds) few = timeout-few before seconds few

directive-fit : (number : ℕ) (before : List Directive) (keyword : Keyword) (word : List ℕ) → length (aborts_of before) ≤ 50
    → DirectFit before (directive_word number before keyword word)
directive-fit number before SetsAbort word few = abort-fit number before (pieces_of word)
directive-fit number before ClearsAbort word few = clear-fit number before (pieces_of word) few
directive-fit number before SetsTimeout word few = timeout-fit number before (seconds_of word) few

pair-sent : (before : List Directive) (expected : Expected) (read : Result (List SendPart) ScriptFault)
    → TwoFit before (ok_map (λ (send : List SendPart). Pair expected send ∷ []) read)
pair-sent before expected (Ok send) = tt
pair-sent before expected (Err fault) = tt

pair-fit : (number : ℕ) (before : List Directive) (read : Result Expected ScriptFault) (second : Option (List ℕ)) → TwoFit before (pair_words number read second)
pair-fit number before (Ok expected) None = tt
pair-fit number before (Err fault) None = tt
pair-fit number before (Ok expected) (Some word) = pair-sent before expected (send_word (number + 1) (pieces_of word))
pair-fit number before (Err fault) (Some word) = tt

two-fit : (number : ℕ) (before : List Directive) (first : List ℕ) (keyword : Option Keyword) (second : Option (List ℕ)) → length (aborts_of before) ≤ 50
    → TwoFit before (two_words number before first keyword second)
two-fit number before first (Some keyword) None few = tt
two-fit number before first (Some keyword) (Some word) few =
    direct-two before (directive_word (number + 1) before keyword word) (directive-fit (number + 1) before keyword word few)
two-fit number before first None second few = pair-fit number before (expect_word number (all_pieces (slice_split is_hyphen first))) second

-- at each pair, 50 are set at most
abbrev AbortsFit : List Directive → List Item → Type 0
AbortsFit before [] = Unit {0}
AbortsFit before (Directs directive ∷ items) = AbortsFit (before ++ directive ∷ []) items
AbortsFit before (Pair expected send ∷ items) = (length (aborts_of before) ≤ 50) × AbortsFit before items

joined : (before : List Directive) (items more : List Item) → TwoFit before (Ok items) → length (aborts_of before) ≤ 50
    → (length (aborts_of (before ++ directives_of items)) ≤ 50 → AbortsFit (before ++ directives_of items) more) → AbortsFit before (items ++ more)
joined before [] more fit few rest =
    let none : before ++ [] ≡ before = append-nil before in subst (λ (l : List Directive). AbortsFit l more) none (rest (rw none few))
joined before (Directs directive ∷ []) more fit few rest = rest fit
joined before (Pair expected send ∷ []) more fit few rest =
    let none : before ++ [] ≡ before = append-nil before in (few, subst (λ (l : List Directive). AbortsFit l more) none (rest (rw none few)))
joined before (Directs directive ∷ other ∷ items) more fit few rest = absurd fit
joined before (Pair expected send ∷ other ∷ items) more fit few rest = absurd fit

more-fit : (before : List Directive) (items all : List Item) (read : Result (List Item) ScriptFault) → TwoFit before (Ok items) → length (aborts_of before) ≤ 50
    → ((more : List Item) → read ≡ Ok more → length (aborts_of (before ++ directives_of items)) ≤ 50 → AbortsFit (before ++ directives_of items) more)
    → ok_map (λ (more : List Item). items ++ more) read ≡ Ok all → AbortsFit before all
more-fit before items all (Err fault) fit few rest e = absurd (cc (e))
more-fit before items all (Ok more) fit few rest e =
    let is : items ++ more ≡ all = cc (e) in rw (← is) (joined before items more fit few (rest more refl))

behind-fit : (before : List Directive) (all : List Item) (read : Result (List Item) ScriptFault) (next : List Item → Result (List Item) ScriptFault)
    → TwoFit before read → length (aborts_of before) ≤ 50
    → ((items more : List Item) → next items ≡ Ok more → length (aborts_of (before ++ directives_of items)) ≤ 50 → AbortsFit (before ++ directives_of items) more)
    → ok_then read (λ (items : List Item). ok_map (λ (more : List Item). items ++ more) (next items)) ≡ Ok all → AbortsFit before all
behind-fit before all (Err fault) next fit few rest e = absurd (cc (e))
behind-fit before all (Ok items) next fit few rest e = more-fit before items all (next items) fit few (λ more is. rest items more is) e

items-fit : (number : ℕ) (before : List Directive) (twos : List (List ℕ × Option (List ℕ))) (all : List Item) → length (aborts_of before) ≤ 50
    → items_behind number before twos ≡ Ok all → AbortsFit before all
items-fit number before [] all few e = let is : [] ≡ all = cc (e) in rw (← is) tt
items-fit number before (two ∷ twos) all few e =
    behind-fit before all (two_words number before two.0 (keyword_of two.0) two.1) (λ (items : List Item). items_behind (number + 2) (before ++ directives_of items) twos)
    (two-fit number before two.0 (keyword_of two.0) two.1 few) few
    (λ items more is fewer. items-fit (number + 2) (before ++ directives_of items) twos more fewer is) e

-- ---- the number that an ending has

abbrev IsNumber : ℕ → Type 0
IsNumber number = (1 ≤ number) × (number ≤ 50)

abbrev EndCounted : Option Ending → Type 0
EndCounted None = Unit {0}
EndCounted (Some TimeHasCome) = Unit {0}
EndCounted (Some Found) = Unit {0}
EndCounted (Some (AbortFound number)) = IsNumber number

abbrev PlaceCounted : Option (ℕ × Ending) → Type 0
PlaceCounted None = Unit {0}
PlaceCounted (Some (place, TimeHasCome)) = Unit {0}
PlaceCounted (Some (place, Found)) = Unit {0}
PlaceCounted (Some (place, AbortFound number)) = IsNumber number

here-counted : (place : ℕ) (o : Option Ending) (r : Option (ℕ × Ending)) → EndCounted o → PlaceCounted r → PlaceCounted (here_or place o r)
here-counted place None r c d = d
here-counted place (Some TimeHasCome) r c d = tt
here-counted place (Some Found) r c d = tt
here-counted place (Some (AbortFound number)) r c d = c

first-counted : (ends : ℕ → Option Ending) (place count : ℕ) → ((i : ℕ) → EndCounted (ends i)) → PlaceCounted (first_from ends place count)
first-counted ends place zero each = tt
first-counted ends place (suc count) each = here-counted place (ends place) (first_from ends (suc place) count) (each place) (first-counted ends (suc place) count each)

delay-counted : (b : Bool) → EndCounted (cond b (Some TimeHasCome) None)
delay-counted true = tt
delay-counted false = tt

number-counted : (o : Option ℕ) → ((i : ℕ) → o ≡ Some i → i < 50) → EndCounted (option_map AbortFound (option_map (λ (place : ℕ). place + 1) o))
number-counted None below = tt
number-counted (Some i) below = (omega arith, omega (arith, below i refl))

ending-chosen : (late none found : Bool) (o : Option Ending) → EndCounted o → EndCounted (cond late (Some TimeHasCome) (cond none None (cond found (Some Found) o)))
ending-chosen true none found o c = tt
ending-chosen false true found o c = tt
ending-chosen false false true o c = tt
ending-chosen false false false o c = c

ending-counted : (x : Awaited) (octets : List ℕ) (event : Event) → length x.aborts ≤ 50 → EndCounted (ending x octets event)
ending-counted x octets event few =
    ending-chosen (nat_le x.until event.at) (is_none event.octet) (is_found octets x.text) _
    (number-counted (position (is_found octets) x.aborts) (λ i is. omega (arith, few, (position-Some (is_found octets) x.aborts i [] is).0)))

-- ---- the number with which a script ends

abbrev Counted : Reach → Type 0
Counted (Behind p) = Unit {0}
Counted Waits = Unit {0}
Counted (Ends Done) = Unit {0}
Counted (Ends TimedOut) = Unit {0}
Counted (Ends (Aborted number)) = IsNumber number

then-counted : (sent : List ℕ) (reach : Reach) (next : Point → Run) → Counted reach → ((p : Point) → Counted (next p).reach) → Counted (from_reach sent reach next).reach
then-counted sent (Behind p) next c each = each p
then-counted sent Waits next c each = tt
then-counted sent (Ends how) next c each = c

next-counted : (later : List Event) (run : Point → Run) → ((p : Point) → Counted (run p).reach) → Counted (with_next later run).reach
next-counted [] run each = tt
next-counted (event ∷ later) run each = each (record { now = event.at; has_sent = false; later = later })

octets-chosen : (b : Bool) (octets : List ℕ) (p : Point) → Counted (cond b (with_next p.later (sent_at octets)) (sent_at octets p)).reach
octets-chosen true octets p = next-counted p.later (sent_at octets) (λ q. tt)
octets-chosen false octets p = tt

octets-counted : (octets : List ℕ) (p : Point) → Counted (send_octets octets p).reach
octets-counted [] p = tt
octets-counted (octet ∷ octets) p = octets-chosen p.has_sent (octet ∷ octets) p

behind-counted : (o : Option (ℕ × Ending)) (later : List Event) (late : Point → Run) → PlaceCounted o → ((p : Point) → Counted (late p).reach)
    → Counted (behind_ending o later late).reach
behind-counted None later late c each = tt
behind-counted (Some (place, TimeHasCome)) later late c each = each _
behind-counted (Some (place, Found)) later late c each = tt
behind-counted (Some (place, AbortFound number)) later late c each = c

part-counted : (part : SendPart) (p : Point) → Counted (send_part part p).reach
part-counted (Octets octets) p = octets-counted octets p
part-counted (Delay milliseconds) p =
    let until = p.now + milliseconds in
    behind-counted (first_from (delay_end_at until p.later) 0 (length p.later)) p.later _ (first-counted (delay_end_at until p.later) 0 (length p.later) (λ i. delay-counted _)) (λ q. tt)

send-counted : (parts : List SendPart) (p : Point) → Counted (send_all parts p).reach
send-counted [] p = tt
send-counted (part ∷ parts) p = then-counted (send_part part p).sent (send_part part p).reach (send_all parts) (part-counted part p) (λ q. send-counted parts q)

await-counted : (s : Settings) (text : List ℕ) (p : Point) (late : Point → Run) → length s.aborts ≤ 50 → ((q : Point) → Counted (late q).reach)
    → Counted (await_text s text p late).reach
await-counted s [] p late few each = tt
await-counted s (octet ∷ octets) p late few each =
    let x : Awaited = record { text = octet ∷ octets; until = p.now + s.timeout; aborts = s.aborts } in
    behind-counted (first_from (ending_at x [] p.later) 0 (length p.later)) p.later late
    (first-counted (ending_at x [] p.later) 0 (length p.later) (λ i. ending-counted x _ _ few)) each

expect-counted : (s : Settings) (text : List ℕ) (instead : List Instead) (p : Point) → length s.aborts ≤ 50 → Counted (expect_any s text instead p).reach
expect-counted s text [] p few = await-counted s text p (λ (late : Point). ends TimedOut) few (λ q. tt)
expect-counted s text (other ∷ others) p few =
    await-counted s text p (λ (late : Point). and_then (send_all other.send late) (expect_any s other.text others)) few
    (λ q. then-counted (send_all other.send q).sent (send_all other.send q).reach (expect_any s other.text others) (send-counted other.send q) (λ r. expect-counted s other.text others r few))

items-counted : (timeout_s : ℕ) (before : List Directive) (items : List Item) (p : Point) → AbortsFit before items → Counted (run_items timeout_s before items p).reach
items-counted timeout_s before [] p fit = tt
items-counted timeout_s before (Directs directive ∷ items) p fit = items-counted timeout_s (before ++ directive ∷ []) items p fit
items-counted timeout_s before (Pair expected send ∷ items) p fit =
    let met = expect_any (settings_after timeout_s before) expected.text expected.instead p in
    then-counted met.sent met.reach (λ (q : Point). and_then (send_all send q) (run_items timeout_s before items))
    (expect-counted (settings_after timeout_s before) expected.text expected.instead p fit.0)
    (λ q. then-counted (send_all send q).sent (send_all send q).reach (run_items timeout_s before items) (send-counted send q) (λ r. items-counted timeout_s before items r fit.1))

end-chosen : (b : Bool) (later : List Event) → Counted (cond b (with_next later (λ (next : Point). ends Done)) (ends Done)).reach
end-chosen true later = next-counted later (λ (next : Point). ends Done) (λ q. tt)
end-chosen false later = tt

same-end : (how : ChatEnd) (number : ℕ) → Counted (Ends how) → Some how ≡ Some (Aborted number) → IsNumber number
same-end how number c e = let is : how ≡ Aborted number = cc (e) in subst (λ (h : ChatEnd). Counted (Ends h)) is c

counted-number : (reach : Reach) (number : ℕ) → Counted reach → outcome_at reach ≡ Some (Aborted number) → IsNumber number
counted-number (Behind p) number c e = absurd (cc (e))
counted-number Waits number c e = absurd (cc (e))
counted-number (Ends how) number c e = same-end how number c e

pub abort-number : (words : List (List ℕ)) (script : ChatScript) (events : List Event) (number : ℕ) → script_of words ≡ Ok script.items
    → (ChatOf script events).outcome ≡ Some (Aborted number) → (1 ≤ number) × (number ≤ 50)
abort-number words script [] number read e = absurd (cc (e))
abort-number words script (begin ∷ later) number read e =
    let p : Point = record { now = begin.at; has_sent = false; later = later } in
    let run = run_items script.timeout_s [] script.items p in
    counted-number (and_then run end_at).reach number
    (then-counted run.sent run.reach end_at (items-counted script.timeout_s [] script.items p (items-fit 1 [] (in_twos words) script.items (omega arith) read)) (λ q. end-chosen q.has_sent q.later)) e
