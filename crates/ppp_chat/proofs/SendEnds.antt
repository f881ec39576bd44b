-- A call at which octets are sent ends no script.
use Rattle.std.proofs.Common.{ℕ, ◌≡◌, ◌+◌, Bool, true, false, cond, if◌then◌else◌, nat_le, Option, None, Some, List, [], ◌∷◌, ◌++◌, drop, refl, sym, ap, ◌∙◌, append_assoc}
use Rattle.std.specs.List.{cons_option}
use Rattle.ppp_chat.specs.Script.{ChatScript}
use Rattle.ppp_chat.specs.ChatOf.{Course, ChatOf}
use Rattle.ppp_chat.specs.ChatState.{Answers, answer, sent_by}
use Rattle.ppp_chat.specs.Settings.{Settings, settings_after}
use Rattle.ppp_chat.specs.Steps.{flat}
use Rattle.ppp_chat.specs.Course.{Following, going, ended, sending, at_next, awaiting, delaying, is_last_part, course, obeyed}
use Rattle.ppp_chat.specs.Ending.{Awaited, ending}
use Rattle.ppp_chat.specs.Event.{Event}
use Rattle.ppp_chat.specs.declared.ending.Ending.{Ending}
use Rattle.ppp_chat.specs.declared.ending.Ending.TheVariants.{TimeHasCome, Found, AbortFound}
use Rattle.ppp_chat.specs.declared.now.ChatEnd.TheVariants.{Done, TimedOut, Aborted}
use Rattle.ppp_chat.specs.declared.now.ChatNow.TheVariants.{Sent}
use Rattle.ppp_chat.specs.declared.step.Step.{Step}
use Rattle.ppp_chat.specs.declared.step.Step.TheVariants.{Direct, Expect, Met, Send, Pause}
use Rattle.ppp_chat.proofs.FlatCourse.{chat-course}
use Rattle.ppp_chat.proofs.Endings.{first_or, awaiting-cons, delaying-cons}

-- where a course sends octets with no event to come, it goes on
record Once (c : Course) : Type 0 where
  by : (octet : ℕ) (octets : List ℕ) → c.sent ≡ octet ∷ octets → c.outcome ≡ None

-- where one more event makes a course send more, it goes on
record Next (before after : Course) : Type 0 where
  by : (octet : ℕ) (octets : List ℕ) → after.sent ≡ before.sent ++ octet ∷ octets → after.outcome ≡ None

-- the same of what follows, with this event behind these
abbrev NextBy : (List Event → Course) → List Event → Event → Type 0
NextBy rest later event = Next (rest later) (rest (later ++ event ∷ []))

no-octet : (octet : ℕ) (octets : List ℕ) → ◌≡◌ {A = List ℕ} [] (octet ∷ octets) → ⊥
no-octet octet octets e = absurd (cc (e))

silent : (before after : Course) → after.sent ≡ before.sent → Next before after
silent before after same = record { by = λ octet octets e. absurd (longer before.sent octet octets (sym same ∙ e)) }
  where
    longer : (xs : List ℕ) (octet : ℕ) (octets : List ℕ) → xs ≡ xs ++ octet ∷ octets → ⊥
    longer [] octet octets e = no-octet octet octets e
    longer (x ∷ xs) octet octets e = longer xs octet octets (ap (λ l. drop 1 l) e)

once-next : (c : Course) → Once c → Next going c
once-next c once = record { by = λ octet octets e. once.by octet octets e }

next-next : (f : Following) (later : List Event) (event : Event) → ((now : ℕ) → Once (f now [])) → ((now : ℕ) (l : List Event) → NextBy (f now) l event)
    → NextBy (at_next f) later event
next-next f [] event once next = once-next (f event.at []) (once event.at)
next-next f (first ∷ later) event once next = next first.at later

first-once : (o : Option Ending) (found late : Following) (event : Event) → Once (found event.at []) → Once (late event.at [])
    → Next going (first_or o found late event [] going)
first-once None found late event f l = silent going going refl
first-once (Some TimeHasCome) found late event f l = once-next (late event.at []) l
first-once (Some Found) found late event f l = once-next (found event.at []) f
first-once (Some (AbortFound number)) found late event f l = silent going (ended (Aborted number)) refl

first-next : (o : Option Ending) (found late : Following) (first : Event) (later : List Event) (event : Event) (rest : List Event → Course)
    → NextBy (found first.at) later event → NextBy (late first.at) later event → NextBy rest later event
    → NextBy (λ l. first_or o found late first l (rest l)) later event
first-next None found late first later event rest f l r = r
first-next (Some TimeHasCome) found late first later event rest f l r = l
first-next (Some Found) found late first later event rest f l r = f
first-next (Some (AbortFound number)) found late first later event rest f l r = silent (ended (Aborted number)) (ended (Aborted number)) refl

awaiting-next : (x : Awaited) (before : List ℕ) (found late : Following) (later : List Event) (event : Event)
    → ((now : ℕ) → Once (found now [])) → ((now : ℕ) → Once (late now []))
    → ((now : ℕ) (l : List Event) → NextBy (found now) l event) → ((now : ℕ) (l : List Event) → NextBy (late now) l event)
    → NextBy (awaiting x before found late) later event
awaiting-next x before found late [] event fo lo f l =
    rw (awaiting-cons x before found late event []) (first-once (ending x (before ++ cons_option event.octet []) event) found late event (fo event.at) (lo event.at))
awaiting-next x before found late (first ∷ later) event fo lo f l =
    let o = ending x (before ++ cons_option first.octet []) first in
    let rest = λ (events : List Event). awaiting x (before ++ cons_option first.octet []) found late events in
    rw (awaiting-cons x before found late first later, awaiting-cons x before found late first (later ++ event ∷ []))
    (first-next o found late first later event rest (f first.at later) (l first.at later) (awaiting-next x (before ++ cons_option first.octet []) found late later event fo lo f l))

chosen-once : (b : Bool) (f : Following) (event : Event) → Once (f event.at []) → Next going (cond b (f event.at []) going)
chosen-once true f event once = once-next (f event.at []) once
chosen-once false f event once = silent going going refl

chosen-next : (b : Bool) (f : Following) (first : Event) (later : List Event) (event : Event) (rest : List Event → Course)
    → NextBy (f first.at) later event → NextBy rest later event → NextBy (λ l. cond b (f first.at l) (rest l)) later event
chosen-next true f first later event rest s r = s
chosen-next false f first later event rest s r = r

delaying-next : (until : ℕ) (f : Following) (later : List Event) (event : Event) → ((now : ℕ) → Once (f now [])) → ((now : ℕ) (l : List Event) → NextBy (f now) l event)
    → NextBy (delaying until f) later event
delaying-next until f [] event once next = rw (delaying-cons until f event []) (chosen-once (nat_le until event.at) f event (once event.at))
delaying-next until f (first ∷ later) event once next =
    rw (delaying-cons until f first later, delaying-cons until f first (later ++ event ∷ []))
    (chosen-next (nat_le until first.at) f first later event (delaying until f) (next first.at later) (delaying-next until f later event once next))

done-next : (b : Bool) (later : List Event) (event : Event) → NextBy (λ l. cond b (at_next (λ (next : ℕ) (events : List Event). ended Done) l) (ended Done)) later event
done-next true [] event = silent going (ended Done) refl
done-next true (first ∷ later) event = silent (ended Done) (ended Done) refl
done-next false later event = silent (ended Done) (ended Done) refl

late-once : (b : Bool) (c : Course) → Once c → Once (cond b (ended TimedOut) c)
late-once true c once = record { by = λ octet octets e. absurd (no-octet octet octets e) }
late-once false c once = once

late-next : (b : Bool) (rest : List Event → Course) (later : List Event) (event : Event) → NextBy rest later event → NextBy (λ l. cond b (ended TimedOut) (rest l)) later event
late-next true rest later event next = silent (ended TimedOut) (ended TimedOut) refl
late-next false rest later event next = next

without-front : (front xs ys : List ℕ) → front ++ xs ≡ front ++ ys → xs ≡ ys
without-front [] xs ys e = e
without-front (x ∷ front) xs ys e = without-front front xs ys (ap (λ l. drop 1 l) e)

sending-next : (front : List ℕ) (before after : Course) → Next before after → Next (sending front before) (sending front after)
sending-next front before after next = record {
  by = λ octet octets e. next.by octet octets (without-front front after.sent (before.sent ++ octet ∷ octets) (e ∙ append_assoc front before.sent (octet ∷ octets)));
}

-- behind octets that were sent nothing ends at once
waits : (steps : List Step) (met : Bool) (s : Settings) (now : ℕ) → (course steps met s now true []).outcome ≡ None
waits [] met s now = refl
waits (Met ∷ steps) met s now = waits steps false s now
waits (Direct directive ∷ steps) true s now = waits steps true (obeyed directive s) now
waits (Expect text ∷ steps) true s now = waits steps true s now
waits (Send octets ∷ steps) true s now = waits steps true s now
waits (Pause milliseconds ∷ steps) true s now = waits steps true s now
waits (Direct directive ∷ steps) false s now = waits steps false (obeyed directive s) now
waits (Expect [] ∷ steps) false s now = waits steps true s now
waits (Expect (octet ∷ octets) ∷ steps) false s now = refl
waits (Send [] ∷ steps) false s now = waits steps false s now
waits (Send (octet ∷ octets) ∷ steps) false s now = refl
waits (Pause milliseconds ∷ steps) false s now = refl

nothing-sent : (c : Course) → c.sent ≡ [] → Once c
nothing-sent c none = record { by = λ octet octets e. absurd (no-octet octet octets (sym none ∙ e)) }

course-once : (steps : List Step) (met : Bool) (s : Settings) (now : ℕ) → Once (course steps met s now false [])
course-once [] met s now = nothing-sent (ended Done) refl
course-once (Met ∷ steps) met s now = course-once steps false s now
course-once (Direct directive ∷ steps) true s now = course-once steps true (obeyed directive s) now
course-once (Expect text ∷ steps) true s now = course-once steps true s now
course-once (Send octets ∷ steps) true s now = course-once steps true s now
course-once (Pause milliseconds ∷ steps) true s now = course-once steps true s now
course-once (Direct directive ∷ steps) false s now = course-once steps false (obeyed directive s) now
course-once (Expect [] ∷ steps) false s now = course-once steps true s now
course-once (Expect (octet ∷ octets) ∷ steps) false s now = nothing-sent going refl
course-once (Send [] ∷ steps) false s now = course-once steps false s now
course-once (Send (octet ∷ octets) ∷ steps) false s now = record { by = λ first others e. waits steps false s now }
course-once (Pause milliseconds ∷ steps) false s now = nothing-sent going refl

send-next : (b : Bool) (front : List ℕ) (rest : Following) (now : ℕ) (later : List Event) (event : Event)
    → ((at : ℕ) → Once (sending front (rest at []))) → ((at : ℕ) (l : List Event) → NextBy (rest at) l event)
    → NextBy (λ l. cond b (at_next (λ (at : ℕ) (more : List Event). sending front (rest at more)) l) (sending front (rest now l))) later event
send-next true front rest now later event once next =
    next-next (λ (at : ℕ) (more : List Event). sending front (rest at more)) later event once
    (λ at l. sending-next front (rest at l) (rest at (l ++ event ∷ [])) (next at l))
send-next false front rest now later event once next = sending-next front (rest now later) (rest now (later ++ event ∷ [])) (next now later)

course-next : (steps : List Step) (met : Bool) (s : Settings) (now : ℕ) (has_sent : Bool) (later : List Event) (event : Event)
    → NextBy (course steps met s now has_sent) later event
course-next [] met s now has_sent later event = done-next has_sent later event
course-next (Met ∷ steps) met s now has_sent later event = course-next steps false s now has_sent later event
course-next (Direct directive ∷ steps) true s now has_sent later event = course-next steps true (obeyed directive s) now has_sent later event
course-next (Expect text ∷ steps) true s now has_sent later event = course-next steps true s now has_sent later event
course-next (Send octets ∷ steps) true s now has_sent later event = course-next steps true s now has_sent later event
course-next (Pause milliseconds ∷ steps) true s now has_sent later event = course-next steps true s now has_sent later event
course-next (Direct directive ∷ steps) false s now has_sent later event = course-next steps false (obeyed directive s) now has_sent later event
course-next (Expect [] ∷ steps) false s now has_sent later event = course-next steps true s now has_sent later event
course-next (Expect (octet ∷ octets) ∷ steps) false s now has_sent later event =
    awaiting-next (record { text = octet ∷ octets; until = now + s.timeout; aborts = s.aborts }) []
    (λ (found : ℕ) (l : List Event). course steps true s found false l)
    (λ (late : ℕ) (l : List Event). if is_last_part steps then ended TimedOut else course steps false s late false l)
    later event
    (λ at. course-once steps true s at)
    (λ at. late-once (is_last_part steps) (course steps false s at false []) (course-once steps false s at))
    (λ at l. course-next steps true s at false l event)
    (λ at l. late-next (is_last_part steps) (course steps false s at false) l event (course-next steps false s at false l event))
course-next (Send [] ∷ steps) false s now has_sent later event = course-next steps false s now has_sent later event
course-next (Send (octet ∷ octets) ∷ steps) false s now has_sent later event =
    send-next has_sent (octet ∷ octets) (λ (at : ℕ) (l : List Event). course steps false s at true l) now later event
    (λ at. record { by = λ first others e. waits steps false s at })
    (λ at l. course-next steps false s at true l event)
course-next (Pause milliseconds ∷ steps) false s now has_sent later event =
    delaying-next (now + milliseconds) (λ (next : ℕ) (l : List Event). course steps false s next false l) later event
    (λ at. course-once steps false s at)
    (λ at l. course-next steps false s at false l event)

chat-next : (script : ChatScript) (calls : List Event) (call : Event) (octet : ℕ) (octets : List ℕ)
    → (ChatOf script (calls ++ call ∷ [])).sent ≡ (ChatOf script calls).sent ++ octet ∷ octets → (ChatOf script (calls ++ call ∷ [])).outcome ≡ None
chat-next script [] call octet octets e =
    let is = chat-course script call [] in
    ap (λ (c : Course). c.outcome) is
    ∙ (course-once (flat script.items) false (settings_after script.timeout_s []) call.at).by octet octets (ap (λ (c : Course). c.sent) (sym is) ∙ e)
chat-next script (begin ∷ later) call octet octets e =
    let more = chat-course script begin (later ++ call ∷ []) in
    let is = chat-course script begin later in
    ap (λ (c : Course). c.outcome) more
    ∙ (course-next (flat script.items) false (settings_after script.timeout_s []) begin.at false later call).by octet octets
    (ap (λ (c : Course). c.sent) (sym more) ∙ e ∙ ap (λ (c : Course). c.sent ++ octet ∷ octets) is)

some-octets : (script : ChatScript) (calls : List Event) (call : Event) (octets : List ℕ) → Sent octets ≡ answer octets (ChatOf script (calls ++ call ∷ [])).outcome
    → (ChatOf script (calls ++ call ∷ [])).sent ≡ (ChatOf script calls).sent ++ octets → (ChatOf script (calls ++ call ∷ [])).outcome ≡ None
some-octets script calls call (octet ∷ octets) is sent = chat-next script calls call octet octets sent
some-octets script calls call [] is sent = elim (ChatOf script (calls ++ call ∷ [])).outcome as (λ o. Sent [] ≡ answer [] o → o ≡ None) [
  | None ↦ λ e. refl
  | Some Done ↦ λ e. absurd (cc (e))
  | Some TimedOut ↦ λ e. absurd (cc (e))
  | Some (Aborted number) ↦ λ e. absurd (cc (e))
] is

pub send-ends-nothing : (script : ChatScript) (calls : List Event) (call : Event) (octets : List ℕ) → Answers script calls call (Sent octets)
    → (ChatOf script (calls ++ call ∷ [])).outcome ≡ None
send-ends-nothing script calls call octets a = some-octets script calls call octets a.is a.sent
