-- Where a script has ended, more events change nothing.
use Rattle.std.proofs.Common.{ℕ, ◌≡◌, ◌+◌, Bool, true, false, cond, if◌then◌else◌, nat_le, Option, None, Some, List, [], ◌∷◌, ◌++◌, refl, sym, ap, ◌∙◌}
use Rattle.std.specs.List.{cons_option}
use Rattle.ppp_chat.specs.Script.{ChatScript}
use Rattle.ppp_chat.specs.ChatOf.{Course, ChatOf}
use Rattle.ppp_chat.specs.Settings.{Settings, settings_after}
use Rattle.ppp_chat.specs.Steps.{flat}
use Rattle.ppp_chat.specs.Course.{Following, ended, sending, at_next, awaiting, delaying, is_last_part, course, obeyed}
use Rattle.ppp_chat.specs.Ending.{Awaited, ending}
use Rattle.ppp_chat.specs.Event.{Event}
use Rattle.ppp_chat.specs.declared.ending.Ending.{Ending}
use Rattle.ppp_chat.specs.declared.ending.Ending.TheVariants.{TimeHasCome, Found, AbortFound}
use Rattle.ppp_chat.specs.declared.now.ChatEnd.{ChatEnd}
use Rattle.ppp_chat.specs.declared.now.ChatEnd.TheVariants.{Done, TimedOut}
use Rattle.ppp_chat.specs.declared.step.Step.{Step}
use Rattle.ppp_chat.specs.declared.step.Step.TheVariants.{Direct, Expect, Met, Send, Pause}
use Rattle.ppp_chat.proofs.FlatCourse.{chat-course}
use Rattle.ppp_chat.proofs.Endings.{first_or, awaiting-cons, delaying-cons}

-- what has ended after these events is the same after more
pub record Stays (rest : List Event → Course) (later more : List Event) : Type 0 where
  pub stays : (how : ChatEnd) → (rest later).outcome ≡ Some how → rest (later ++ more) ≡ rest later

none_is_some : (how : ChatEnd) → None ≡ Some how → ⊥
none_is_some how e = absurd (cc (e))

next-stays : (f : Following) (later more : List Event) → ((now : ℕ) (l : List Event) → Stays (f now) l more) → Stays (at_next f) later more
next-stays f [] more s = record { stays = λ how e. absurd (none_is_some how e) }
next-stays f (event ∷ later) more s = record { stays = λ how e. (s event.at later).stays how e }

first-stays : (o : Option Ending) (found late : Following) (event : Event) (later more : List Event) (rest : List Event → Course)
    → ((now : ℕ) (l : List Event) → Stays (found now) l more) → ((now : ℕ) (l : List Event) → Stays (late now) l more) → Stays rest later more
    → Stays (λ l. first_or o found late event l (rest l)) later more
first-stays None found late event later more rest f l r = record { stays = λ how e. r.stays how e }
first-stays (Some TimeHasCome) found late event later more rest f l r = record { stays = λ how e. (l event.at later).stays how e }
first-stays (Some Found) found late event later more rest f l r = record { stays = λ how e. (f event.at later).stays how e }
first-stays (Some (AbortFound number)) found late event later more rest f l r = record { stays = λ how e. refl }

awaiting-stays : (x : Awaited) (before : List ℕ) (found late : Following) (later more : List Event)
    → ((now : ℕ) (l : List Event) → Stays (found now) l more) → ((now : ℕ) (l : List Event) → Stays (late now) l more)
    → Stays (awaiting x before found late) later more
awaiting-stays x before found late [] more f l = record { stays = λ how e. absurd (none_is_some how e) }
awaiting-stays x before found late (event ∷ later) more f l =
    let o = ending x (before ++ cons_option event.octet []) event in
    let rest = λ (events : List Event). awaiting x (before ++ cons_option event.octet []) found late events in
    record {
      stays = λ how e.
          awaiting-cons x before found late event (later ++ more)
          ∙ (first-stays o found late event later more rest f l (awaiting-stays x (before ++ cons_option event.octet []) found late later more f l)).stays how
          (ap (λ (c : Course). c.outcome) (sym (awaiting-cons x before found late event later)) ∙ e)
          ∙ sym (awaiting-cons x before found late event later);
    }

chosen-stays : (b : Bool) (f : Following) (event : Event) (later more : List Event) (rest : List Event → Course)
    → ((now : ℕ) (l : List Event) → Stays (f now) l more) → Stays rest later more → Stays (λ l. cond b (f event.at l) (rest l)) later more
chosen-stays true f event later more rest s r = record { stays = λ how e. (s event.at later).stays how e }
chosen-stays false f event later more rest s r = record { stays = λ how e. r.stays how e }

delaying-stays : (until : ℕ) (f : Following) (later more : List Event) → ((now : ℕ) (l : List Event) → Stays (f now) l more)
    → Stays (delaying until f) later more
delaying-stays until f [] more s = record { stays = λ how e. absurd (none_is_some how e) }
delaying-stays until f (event ∷ later) more s = record {
  stays = λ how e.
      delaying-cons until f event (later ++ more)
      ∙ (chosen-stays (nat_le until event.at) f event later more (delaying until f) s (delaying-stays until f later more s)).stays how
      (ap (λ (c : Course). c.outcome) (sym (delaying-cons until f event later)) ∙ e)
      ∙ sym (delaying-cons until f event later);
}

end-stays : (b : Bool) (later more : List Event) → Stays (λ l. cond b (at_next (λ (next : ℕ) (events : List Event). ended Done) l) (ended Done)) later more
end-stays true [] more = record { stays = λ how e. absurd (none_is_some how e) }
end-stays true (event ∷ later) more = record { stays = λ how e. refl }
end-stays false later more = record { stays = λ how e. refl }

late-stays : (b : Bool) (rest : List Event → Course) (later more : List Event) → Stays rest later more → Stays (λ l. cond b (ended TimedOut) (rest l)) later more
late-stays true rest later more s = record { stays = λ how e. refl }
late-stays false rest later more s = record { stays = λ how e. s.stays how e }

sending-stays : (octets : List ℕ) (rest : List Event → Course) (later more : List Event) → Stays rest later more → Stays (λ l. sending octets (rest l)) later more
sending-stays octets rest later more s = record { stays = λ how e. ap (λ (c : Course). sending octets c) (s.stays how e) }

send-stays : (b : Bool) (f g : Following) (now : ℕ) (later more : List Event)
    → ((at : ℕ) (l : List Event) → Stays (f at) l more) → ((at : ℕ) (l : List Event) → Stays (g at) l more)
    → Stays (λ l. cond b (at_next f l) (g now l)) later more
send-stays true f g now later more s t = record { stays = λ how e. (next-stays f later more s).stays how e }
send-stays false f g now later more s t = record { stays = λ how e. (t now later).stays how e }

course-stays : (steps : List Step) (met : Bool) (s : Settings) (now : ℕ) (has_sent : Bool) (later more : List Event)
    → Stays (course steps met s now has_sent) later more
course-stays [] met s now has_sent later more = end-stays has_sent later more
course-stays (Met ∷ steps) met s now has_sent later more = course-stays steps false s now has_sent later more
course-stays (Direct directive ∷ steps) true s now has_sent later more = course-stays steps true (obeyed directive s) now has_sent later more
course-stays (Expect text ∷ steps) true s now has_sent later more = course-stays steps true s now has_sent later more
course-stays (Send octets ∷ steps) true s now has_sent later more = course-stays steps true s now has_sent later more
course-stays (Pause milliseconds ∷ steps) true s now has_sent later more = course-stays steps true s now has_sent later more
course-stays (Direct directive ∷ steps) false s now has_sent later more = course-stays steps false (obeyed directive s) now has_sent later more
course-stays (Expect [] ∷ steps) false s now has_sent later more = course-stays steps true s now has_sent later more
course-stays (Expect (octet ∷ octets) ∷ steps) false s now has_sent later more =
    awaiting-stays (record { text = octet ∷ octets; until = now + s.timeout; aborts = s.aborts }) []
    (λ (found : ℕ) (l : List Event). course steps true s found false l)
    (λ (late : ℕ) (l : List Event). if is_last_part steps then ended TimedOut else course steps false s late false l)
    later more
    (λ at l. course-stays steps true s at false l more)
    (λ at l. late-stays (is_last_part steps) (course steps false s at false) l more (course-stays steps false s at false l more))
course-stays (Send [] ∷ steps) false s now has_sent later more = course-stays steps false s now has_sent later more
course-stays (Send (octet ∷ octets) ∷ steps) false s now has_sent later more =
    send-stays has_sent
    (λ (next : ℕ) (l : List Event). sending (octet ∷ octets) (course steps false s next true l))
    (λ (next : ℕ) (l : List Event). sending (octet ∷ octets) (course steps false s next true l))
    now later more
    (λ at l. sending-stays (octet ∷ octets) (course steps false s at true) l more (course-stays steps false s at true l more))
    (λ at l. sending-stays (octet ∷ octets) (course steps false s at true) l more (course-stays steps false s at true l more))
course-stays (Pause milliseconds ∷ steps) false s now has_sent later more =
    delaying-stays (now + milliseconds) (λ (next : ℕ) (l : List Event). course steps false s next false l) later more
    (λ at l. course-stays steps false s at false l more)

pub chat-stays : (script : ChatScript) (events more : List Event) (how : ChatEnd) → (ChatOf script events).outcome ≡ Some how
    → ChatOf script (events ++ more) ≡ ChatOf script events
chat-stays script [] more how e = absurd (none_is_some how e)
chat-stays script (begin ∷ later) more how e =
    let s : Settings = settings_after script.timeout_s [] in
    chat-course script begin (later ++ more)
    ∙ (course-stays (flat script.items) false s begin.at false later more).stays how (ap (λ (c : Course). c.outcome) (sym (chat-course script begin later)) ∙ e)
    ∙ sym (chat-course script begin later)
