-- What is proved of a link's budget: each octet and each event keeps it, a new link has it, and room follows.
use Rattle.std.proofs.Common.{◌≡◌, ℕ, ◌+◌, ◌≤◌, Bool, true, false, List, refl, sym, subst, arith}
use Rattle.std.proofs.lemmas.Bool.{false≢true}
use Rattle.ppp_dial.specs.declared.now.DialNow.{DialNow}
use Rattle.ppp_mark.specs.Log.{room_of}
use Rattle.ppp_lcp.specs.declared.wish.LcpWish.{LcpWish}
use Rattle.ppp_option_words.specs.LinkValues.{LinkValues}
use Rattle.ppp_secrets.specs.declared.secrets.SecretsPair.{SecretsPair}
use Rattle.ppp_link_rules.specs.Hearing.{octet_taken, octets_taken}
use Rattle.ppp_link_rules.specs.LinkEvent.{Event}
use Rattle.ppp_link_rules.specs.LinkPart.{LinkPart, after, after_if, is_present}
use Rattle.ppp_link_rules.specs.LinkState.{LinkState, is_busy}
use Rattle.ppp_link_rules.specs.Marks.{doing_in}
use Rattle.ppp_link_rules.specs.NewLink.{new_link}
use Rattle.ppp_link_facts.specs.Budget.{BetweenOctets, BetweenSteps, Budget, HasRoom, SaidLast, Stands, owed}
use Rattle.ppp_link_facts.proofs.Budgets.{Mid, owed_few}
use Rattle.ppp_link_facts.proofs.DialFacts.{last_is}
use Rattle.ppp_link_facts.proofs.EventRules.{after_mid, octet_mid, octets_few, octets_mid}
use Rattle.ppp_link_facts.proofs.HearRules.{FewMarks, octet_few}
use Rattle.ppp_link_facts.proofs.Sight.{sight}

-- THE RECORDS OF specs/Budget.antt, AND THAT OF THE LEMMAS

pub mid_of : {most : ℕ} (s : LinkState) → Stands s → Budget most s → Mid most 960 (sight s)
mid_of s k b = record {
  sits = record { phase = k.phase; stay = k.stay; auth = k.auth };
  shut = λ over. (k.shut over, k.silent over);
  ends = k.ends;
  one = k.one;
  job = k.job;
  dial = k.dial;
  said = subst (λ (l : DialNow × ℕ). SaidLast (doing_in s.log.past) l) (last_is s.config.line s.log.limit s.log.past) k.said;
  lcp = k.lcp;
  free = b.free;
  few = b.few;
  owes = b.owes;
}

pub stands_of : {most : ℕ} (s : LinkState) → Mid most 960 (sight s) → Stands s
stands_of s h = record {
  phase = h.sits.phase;
  stay = h.sits.stay;
  auth = h.sits.auth;
  shut = λ over. (h.shut over).0;
  silent = λ over. (h.shut over).1;
  ends = h.ends;
  one = h.one;
  job = h.job;
  dial = h.dial;
  lcp = h.lcp;
  said = subst (λ (l : DialNow × ℕ). SaidLast (doing_in s.log.past) l) (sym (last_is s.config.line s.log.limit s.log.past)) h.said;
}

pub budget_of : {most : ℕ} (s : LinkState) → Mid most 960 (sight s) → Budget most s
budget_of s h = record { free = h.free; few = h.few; owes = h.owes }

few_marks : (s : LinkState) → BetweenOctets s → FewMarks s
few_marks s k = record { all = k.budget.few; talks = λ talks. (k.talks talks).few }

octets_of : (s : LinkState) → Mid 926 960 (sight s) → FewMarks s → BetweenOctets s
octets_of s h f = record { stands = stands_of s h; budget = budget_of s h; talks = λ talks. record { free = h.free; few = f.talks talks; owes = h.owes } }

-- WHAT IS KEPT

pub each_octet : (octet : ℕ) (s : LinkState) → BetweenOctets s → BetweenOctets (octet_taken octet s)
each_octet octet s k =
    let f : FewMarks s = few_marks s k in
    octets_of (octet_taken octet s) (octet_mid octet s (mid_of s k.stands k.budget) f) (octet_few octet s f)

pub all_octets : (octets : List ℕ) (s : LinkState) → BetweenOctets s → BetweenOctets (octets_taken octets s)
all_octets octets s k =
    let f : FewMarks s = few_marks s k in
    octets_of (octets_taken octets s) (octets_mid octets s (mid_of s k.stands k.budget) f) (octets_few octets s f)

pub before_octets : (s : LinkState) → BetweenSteps s → BetweenOctets s
before_octets s k =
    let h : Mid 900 960 (sight s) = mid_of s k.stands k.budget in
    record { stands = k.stands; budget = record { free = k.budget.free; few = λ goes. omega (arith, k.budget.few goes); owes = k.budget.owes }; talks = λ talks. k.budget }

pub each_event : (event : Event) (s : LinkState) → is_present event s ≡ true → BetweenSteps s → BetweenSteps (after event s)
each_event event s is k =
    let h : Mid 900 960 (sight (after event s)) = after_mid event s is (mid_of s k.stands k.budget) in
    record { stands = stands_of (after event s) h; budget = budget_of (after event s) h }

by_present : (b : Bool) (event : Event) (s : LinkState) → is_present event s ≡ b → BetweenSteps s → BetweenSteps (after_if b event s)
by_present true event s e k = each_event event s e k
by_present false event s e k = k

pub each_step : (event : Event) (old new : LinkState) (taken : Bool) → LinkPart old event new taken → BetweenSteps old → BetweenSteps new
each_step event old new taken part k =
    subst BetweenSteps (sym part.left) (by_present taken event old (sym part.told) k)

pub new_one : (id seed limit : ℕ) (config : LinkValues) (wish : LcpWish) (secrets : SecretsPair) → 1024 ≤ limit → BetweenSteps (new_link id config wish secrets seed limit)
new_one id seed limit config wish secrets room = record {
  stands = record {
    phase = λ e. refl;
    stay = λ e. refl;
    auth = λ e. refl;
    shut = λ e. refl;
    silent = λ e. refl;
    ends = omega arith;
    one = omega arith;
    job = λ e. absurd (false≢true e);
    dial = λ e. refl;
    said = refl;
    lcp = refl;
  };
  budget = record { free = omega (arith, room); few = λ e. absurd (false≢true e); owes = λ e. omega arith };
}

-- THE ROOM

room_by : {most : ℕ} (s : LinkState) (b : Bool) → is_busy s ≡ b → most ≤ 926 → Budget most s → 64 + owed s ≤ room_of s.log
room_by s true e le k = omega (arith, k.free, k.few e, owed_few s.log.past, le)
room_by s false e le k = omega (arith, k.free, k.owes e)

pub has_room : {most : ℕ} (s : LinkState) → most ≤ 926 → Budget most s → HasRoom s
has_room s le k = record { room = room_by s (is_busy s) refl le k; attempt = omega (arith, k.free) }

pub room_for_octets : (s : LinkState) → BetweenOctets s → HasRoom s
room_for_octets s k = has_room s (omega arith) k.budget

pub room_for_steps : (s : LinkState) → BetweenSteps s → HasRoom s
room_for_steps s k = has_room s (omega arith) k.budget
