-- What a script sends and how it ends, from its items and from its steps.
use Rattle.std.proofs.Common.{ℕ, ◌≡◌, ◌+◌, Bool, true, false, cond, Option, None, Some, List, [], ◌∷◌, ◌++◌, length, refl, sym, ap, ◌∙◌, append_assoc, append-nil}
use Rattle.ppp_chat.specs.ChatOf.{Course, Point, Reach, Behind, Waits, Ends, Run, done_at, ends, from_reach, and_then, point_at, send_octets, behind_ending, send_part, send_all, await_text, expect_any, run_items, end_at, outcome_at, course_at, ChatOf}
use Rattle.ppp_chat.specs.Course.{going, ended, sending, is_last_part, Following, at_ending, course}
use Rattle.ppp_chat.specs.Ending.{Awaited, first_from, ending_at, delay_end_at}
use Rattle.ppp_chat.specs.Event.{Event}
use Rattle.ppp_chat.specs.Script.{SendPart, Octets, Delay, Instead, Expected, Item, Directs, Pair, ChatScript}
use Rattle.ppp_chat.specs.Settings.{Settings, settings_after}
use Rattle.ppp_chat.specs.Steps.{flat_send, flat_instead, flat_expect, flat}
use Rattle.ppp_chat.specs.declared.directive.Directive.{Directive}
use Rattle.ppp_chat.specs.declared.ending.Ending.{Ending}
use Rattle.ppp_chat.specs.declared.ending.Ending.TheVariants.{TimeHasCome, Found, AbortFound}
use Rattle.ppp_chat.specs.declared.now.ChatEnd.TheVariants.{TimedOut}
use Rattle.ppp_chat.specs.declared.step.Step.{Step}
use Rattle.ppp_chat.specs.declared.step.Step.TheVariants.{Expect, Met, Send}
use Rattle.ppp_chat.proofs.SettingsSteps.{settings-more}

-- a part of a script, and what follows at the point behind it
abbrev pub onto_reach : List ℕ → Reach → (Point → Course) → Course
onto_reach sent (Behind p) rest = sending sent (rest p)
onto_reach sent Waits rest = record { sent = sent; outcome = None }
onto_reach sent (Ends how) rest = record { sent = sent; outcome = Some how }

abbrev pub onto : Run → (Point → Course) → Course
onto run rest = onto_reach run.sent run.reach rest

-- what is sent and how it ends, from these steps on, at a point
abbrev pub from_point : List Step → Settings → Point → Course
from_point steps s p = course steps false s p.now p.has_sent p.later

onto-same-at : (sent : List ℕ) (reach : Reach) (f g : Point → Course) → ((p : Point) → f p ≡ g p) → onto_reach sent reach f ≡ onto_reach sent reach g
onto-same-at sent (Behind p) f g same = ap (λ (c : Course). sending sent c) (same p)
onto-same-at sent Waits f g same = refl
onto-same-at sent (Ends how) f g same = refl

onto-then-at : (sent : List ℕ) (reach : Reach) (next : Point → Run) (rest : Point → Course)
    → onto (from_reach sent reach next) rest ≡ onto_reach sent reach (λ (p : Point). onto (next p) rest)
onto-then-at sent Waits next rest = refl
onto-then-at sent (Ends how) next rest = refl
onto-then-at sent (Behind p) next rest = more (next p).sent (next p).reach
  where
    more : (new : List ℕ) (reach : Reach) → onto_reach (sent ++ new) reach rest ≡ sending sent (onto_reach new reach rest)
    more new (Behind q) = ap (λ (l : List ℕ). record { sent = l; outcome = (rest q).outcome }) (append_assoc sent new (rest q).sent)
    more new Waits = refl
    more new (Ends how) = refl

-- a part, then another, and then the rest
onto-then : (run : Run) (next : Point → Run) (rest : Point → Course) → onto (and_then run next) rest ≡ onto run (λ (p : Point). onto (next p) rest)
onto-then run next rest = onto-then-at run.sent run.reach next rest

onto-same : (run : Run) (f g : Point → Course) → ((p : Point) → f p ≡ g p) → onto run f ≡ onto run g
onto-same run f g same = onto-same-at run.sent run.reach f g same

send-at : (octet : ℕ) (octets : List ℕ) (steps : List Step) (s : Settings) (now : ℕ) (has_sent : Bool) (later : List Event)
    → course (Send (octet ∷ octets) ∷ steps) false s now has_sent later
    ≡ onto (send_octets (octet ∷ octets) (record { now = now; has_sent = has_sent; later = later })) (from_point steps s)
send-at octet octets steps s now true [] = refl
send-at octet octets steps s now true (event ∷ later) = refl
send-at octet octets steps s now false later = refl

delay-at : (o : Option (ℕ × Ending)) (steps : List Step) (s : Settings) (later : List Event)
    → at_ending o (λ (next : ℕ) (more : List Event). course steps false s next false more) (λ (next : ℕ) (more : List Event). course steps false s next false more) later
    ≡ onto (behind_ending o later done_at) (from_point steps s)
delay-at None steps s later = refl
delay-at (Some (place, TimeHasCome)) steps s later = refl
delay-at (Some (place, Found)) steps s later = refl
delay-at (Some (place, AbortFound number)) steps s later = refl

-- the first part of a send
part-course : (part : SendPart) (steps : List Step) (s : Settings) (p : Point)
    → from_point (flat_send (part ∷ []) ++ steps) s p ≡ onto (send_part part p) (from_point steps s)
part-course (Octets []) steps s p = refl
part-course (Octets (octet ∷ octets)) steps s p = send-at octet octets steps s p.now p.has_sent p.later
part-course (Delay milliseconds) steps s p = delay-at (first_from (delay_end_at (p.now + milliseconds) p.later) 0 (length p.later)) steps s p.later

-- a send
send-course : (send : List SendPart) (steps : List Step) (s : Settings) (p : Point)
    → from_point (flat_send send ++ steps) s p ≡ onto (send_all send p) (from_point steps s)
send-course [] steps s p = refl
send-course (part ∷ send) steps s p =
    part-course part (flat_send send ++ steps) s p
    ∙ onto-same (send_part part p) (from_point (flat_send send ++ steps) s) (λ (q : Point). onto (send_all send q) (from_point steps s)) (send-course send steps s)
    ∙ sym (onto-then (send_part part p) (send_all send) (from_point steps s))

-- what is left of an expect that was met is passed over
skips-send : (send : List SendPart) (steps : List Step) (s : Settings) (now : ℕ) (has_sent : Bool) (later : List Event)
    → course (flat_send send ++ steps) true s now has_sent later ≡ course steps true s now has_sent later
skips-send [] steps s now has_sent later = refl
skips-send (Octets octets ∷ send) steps s now has_sent later = skips-send send steps s now has_sent later
skips-send (Delay milliseconds ∷ send) steps s now has_sent later = skips-send send steps s now has_sent later

skips : (others : List Instead) (steps : List Step) (s : Settings) (now : ℕ) (has_sent : Bool) (later : List Event)
    → course (flat_instead others ++ steps) true s now has_sent later ≡ course steps false s now has_sent later
skips [] steps s now has_sent later = refl
skips (other ∷ others) steps s now has_sent later =
    ap (λ (l : List Step). course l true s now has_sent later) (append_assoc (flat_send other.send) (Expect other.text ∷ flat_instead others) steps)
    ∙ skips-send other.send (Expect other.text ∷ (flat_instead others ++ steps)) s now has_sent later
    ∙ skips others steps s now has_sent later

-- an expect with more parts goes on when it is late
is-not-last : (send : List SendPart) (text : List ℕ) (steps : List Step) → is_last_part (flat_send send ++ Expect text ∷ steps) ≡ false
is-not-last [] text steps = refl
is-not-last (Octets octets ∷ send) text steps = refl
is-not-last (Delay milliseconds ∷ send) text steps = refl

ending-course : (o : Option (ℕ × Ending)) (found late : Following) (rest : Point → Course) (run_late : Point → Run) (later : List Event)
    → ((now : ℕ) (more : List Event) → found now more ≡ rest (record { now = now; has_sent = false; later = more }))
    → ((now : ℕ) (more : List Event) → late now more ≡ onto (run_late (record { now = now; has_sent = false; later = more })) rest)
    → at_ending o found late later ≡ onto (behind_ending o later run_late) rest
ending-course None found late rest run_late later f l = refl
ending-course (Some (place, TimeHasCome)) found late rest run_late later f l = l (point_at later place).now (point_at later place).later
ending-course (Some (place, Found)) found late rest run_late later f l = f (point_at later place).now (point_at later place).later
ending-course (Some (place, AbortFound number)) found late rest run_late later f l = refl

-- one string that is expected, where these steps follow it
text-course : (text : List ℕ) (steps : List Step) (s : Settings) (rest : Point → Course) (run_late : Point → Run) (p : Point)
    → ((q : Point) → course steps true s q.now q.has_sent q.later ≡ rest q)
    → ((now : ℕ) (more : List Event) → cond (is_last_part steps) (ended TimedOut) (course steps false s now false more)
    ≡ onto (run_late (record { now = now; has_sent = false; later = more })) rest)
    → from_point (Expect text ∷ steps) s p ≡ onto (await_text s text p run_late) rest
text-course [] steps s rest run_late p met late = met p
text-course (octet ∷ octets) steps s rest run_late p met late =
    let x : Awaited = record { text = octet ∷ octets; until = p.now + s.timeout; aborts = s.aborts } in
    ending-course (first_from (ending_at x [] p.later) 0 (length p.later))
    (λ (found : ℕ) (more : List Event). course steps true s found false more)
    (λ (now : ℕ) (more : List Event). cond (is_last_part steps) (ended TimedOut) (course steps false s now false more))
    rest run_late p.later (λ now more. met (record { now = now; has_sent = false; later = more })) late

expect-course : (text : List ℕ) (others : List Instead) (steps : List Step) (s : Settings) (p : Point)
    → from_point (Expect text ∷ (flat_instead others ++ steps)) s p ≡ onto (expect_any s text others p) (from_point steps s)
expect-course text [] steps s p =
    text-course text (Met ∷ steps) s (from_point steps s) (λ (late : Point). ends TimedOut) p (λ q. refl) (λ now more. refl)
expect-course text (other ∷ others) steps s p =
    text-course text (flat_instead (other ∷ others) ++ steps) s (from_point steps s)
    (λ (late : Point). and_then (send_all other.send late) (expect_any s other.text others)) p
    (λ q. skips (other ∷ others) steps s q.now q.has_sent q.later)
    (λ now more.
    let q : Point = record { now = now; has_sent = false; later = more } in
    let behind : List Step = Expect other.text ∷ (flat_instead others ++ steps) in
    ap (λ (l : List Step). cond (is_last_part l) (ended TimedOut) (course l false s now false more))
    (append_assoc (flat_send other.send) (Expect other.text ∷ flat_instead others) steps)
    ∙ ap (λ (b : Bool). cond b (ended TimedOut) (course (flat_send other.send ++ behind) false s now false more))
    (is-not-last other.send other.text (flat_instead others ++ steps))
    ∙ send-course other.send behind s q
    ∙ onto-same (send_all other.send q) (from_point behind s) (λ (r : Point). onto (expect_any s other.text others r) (from_point steps s))
    (expect-course other.text others steps s)
    ∙ sym (onto-then (send_all other.send q) (expect_any s other.text others) (from_point steps s)))

pair-course : (expected : Expected) (send : List SendPart) (steps : List Step) (s : Settings) (p : Point)
    → from_point ((flat_expect expected ++ flat_send send) ++ steps) s p
    ≡ onto (expect_any s expected.text expected.instead p) (λ (met : Point). onto (send_all send met) (from_point steps s))
pair-course expected send steps s p =
    ap (λ (l : List Step). from_point l s p) (append_assoc (flat_expect expected) (flat_send send) steps)
    ∙ expect-course expected.text expected.instead (flat_send send ++ steps) s p
    ∙ onto-same (expect_any s expected.text expected.instead p) (from_point (flat_send send ++ steps) s)
    (λ (met : Point). onto (send_all send met) (from_point steps s)) (send-course send steps s)

-- the end of a script
ends-course : (now : ℕ) (has_sent : Bool) (later : List Event) (s : Settings)
    → course [] false s now has_sent later
    ≡ onto (end_at (record { now = now; has_sent = has_sent; later = later })) (λ (p : Point). going)
ends-course now true [] s = refl
ends-course now true (event ∷ later) s = refl
ends-course now false later s = refl

items-course : (timeout_s : ℕ) (before : List Directive) (items : List Item) (p : Point)
    → from_point (flat items) (settings_after timeout_s before) p
    ≡ onto (run_items timeout_s before items p) (λ (q : Point). onto (end_at q) (λ (r : Point). going))
items-course timeout_s before [] p = ends-course p.now p.has_sent p.later (settings_after timeout_s before)
items-course timeout_s before (Directs directive ∷ items) p =
    ap (λ (s : Settings). from_point (flat items) s p) (sym (settings-more timeout_s before directive))
    ∙ items-course timeout_s (before ++ directive ∷ []) items p
items-course timeout_s before (Pair expected send ∷ items) p =
    let s : Settings = settings_after timeout_s before in
    let first : Run = expect_any s expected.text expected.instead p in
    let end : Point → Course = λ (q : Point). onto (end_at q) (λ (r : Point). going) in
    let more : Point → Run = λ (met : Point). and_then (send_all send met) (run_items timeout_s before items) in
    pair-course expected send (flat items) s p
    ∙ onto-same first (λ (met : Point). onto (send_all send met) (from_point (flat items) s)) (λ (met : Point). onto (more met) end)
    (λ met.
    onto-same (send_all send met) (from_point (flat items) s) (λ (q : Point). onto (run_items timeout_s before items q) end) (items-course timeout_s before items)
    ∙ sym (onto-then (send_all send met) (run_items timeout_s before items) end))
    ∙ sym (onto-then first more end)

-- a run behind which nothing is left
closes : (sent : List ℕ) (reach : Reach) → onto_reach sent reach (λ (p : Point). going) ≡ record { sent = sent; outcome = outcome_at reach }
closes sent (Behind p) = ap (λ (l : List ℕ). record { sent = l; outcome = None }) (append-nil sent)
closes sent Waits = refl
closes sent (Ends how) = refl

-- What a script sends and how it ends, at a point, is so of its steps.
pub flat-course : (script : ChatScript) (p : Point) → course_at script p ≡ from_point (flat script.items) (settings_after script.timeout_s []) p
flat-course script p =
    let run : Run = run_items script.timeout_s [] script.items p in
    sym (items-course script.timeout_s [] script.items p
    ∙ sym (onto-then run end_at (λ (r : Point). going))
    ∙ closes (and_then run end_at).sent (and_then run end_at).reach)

-- What a script sends and how it ends, over the calls since it was begun, is so of its steps.
pub chat-course : (script : ChatScript) (begin : Event) (later : List Event)
    → ChatOf script (begin ∷ later) ≡ course (flat script.items) false (settings_after script.timeout_s []) begin.at false later
chat-course script begin later = flat-course script (record { now = begin.at; has_sent = false; later = later })
