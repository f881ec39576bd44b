-- A piece of a stream, taken run by run and octet by octet.
use Rattle.std.proofs.Common.{◌≡◌, ◌≢◌, ℕ, zero, suc, bit_xor, ◌+◌, ◌-◌, ◌<◌, ◌≤◌, false, nat_eq, List, [], ◌∷◌, ◌++◌, length, take, drop, get_or, refl, sym, ap, subst, ◌∙◌, arith, inl, inr, append-nil, append_assoc, length-drop, length-append, length-take-le, Bool, true, map, cond}
use Rattle.std.specs.List.{filter}
use Rattle.std.proofs.lemmas.List.Elements.{filter-append}
use Rattle.std.proofs.Math.Seq.{take-add}
use Rattle.std.proofs.lemmas.List.{take_more, get_or-drop, get_or-take, drop-drop, take-take}
use Rattle.std.proofs.lemmas.List.Sums.{fold-append}
use Rattle.std.proofs.lemmas.Bool.{cases_lt}
use Rattle.std.proofs.lemmas.Bool.Decides.{nat_tests}
use Rattle.ppp_hdlc.specs.declared.heard.Heard.{Heard}
use Rattle.ppp_hdlc.specs.declared.heard.Heard.TheVariants.{Nothing}
use Rattle.ppp_hdlc.specs.Frames.{Received, Frames, told, told_of, stamped}
use Rattle.ppp_hdlc.specs.Octets.{is_flag, is_escape, is_mapped}
use Rattle.ppp_hdlc.specs.Encoding.{is_escaped}
use Rattle.ppp_hdlc.specs.Deframing.{Deframing, StandsFor, fed, heard_at, whole_part}
use Rattle.ppp_hdlc.specs.Spans.{IsSpan, Takes, fed_all, heard_in}
use Rattle.ppp_hdlc.proofs.Judging.{bool_cases}
use Rattle.ppp_hdlc.proofs.Feeding.{fed-is, taken-plain, taken-escape, taken-escaped, stands_fed, answer_fed, told_fed, map_fed, quiet_fed}

pub all-none : (d : Deframing) → fed_all [] d ≡ d
unfolding fed_all
all-none d = refl

pub all-cons : (x : ℕ) (xs : List ℕ) (d : Deframing) → fed_all (x ∷ xs) d ≡ fed_all xs (fed x d)
unfolding fed_all
all-cons x xs d = refl

all-append : (xs ys : List ℕ) (d : Deframing) → fed_all (xs ++ ys) d ≡ fed_all ys (fed_all xs d)
unfolding fed_all
all-append xs ys d = fold-append (λ d octet. fed octet d) d xs ys

pub all-one : (x : ℕ) (d : Deframing) → fed_all (x ∷ []) d ≡ fed x d
all-one x d = all-cons x [] d ∙ all-none (fed x d)

-- what is taken in two parts
all-parts : (octets : List ℕ) (at n : ℕ) (d : Deframing) → fed_all (take n (drop at octets)) (fed_all (take at octets) d) ≡ fed_all (take (at + n) octets) d
all-parts octets at n d = sym (all-append (take at octets) (take n (drop at octets)) d) ∙ ap (λ l. fed_all l d) (sym (take-add at n octets))

pub all_more : (octets : List ℕ) (at : ℕ) (d : Deframing) → at < length octets → fed_all (take (at + 1) octets) d ≡ fed (get_or octets at 0) (fed_all (take at octets) d)
all_more octets at d within =
    ap (λ l. fed_all l d) (take_more octets at 0 within)
    ∙ all-append (take at octets) (get_or octets at 0 ∷ []) d
    ∙ all-one (get_or octets at 0) (fed_all (take at octets) d)

pub map_all : (xs : List ℕ) (d : Deframing) → (fed_all xs d).map ≡ d.map
map_all [] d = ap (λ (d : Deframing). d.map) (all-none d)
map_all (x ∷ xs) d = ap (λ (d : Deframing). d.map) (all-cons x xs d) ∙ map_all xs (fed x d) ∙ map_fed x d

-- an octet that stands for itself
fed-plain : (x : ℕ) (d : Deframing) → is_escaped d.map x ≡ false → d.is_escaping ≡ false → length d.octets < 1508 → fed x d ≡ record d { octets = d.octets ++ x ∷ [] }
fed-plain x d plain whole room =
    elim (bool_cases (is_escape x)) [
      | inl escape ↦ absurd (cc (rw escape at plain))
      | inr no_escape ↦
          let rest = rw no_escape at plain in
          elim (bool_cases (is_flag x)) [
            | inl flag ↦ absurd (cc (rw flag at rest))
            | inr no_flag ↦
                let stays : is_mapped d.map x ≡ false = rw no_flag at rest in
                let some : nat_eq (length d.octets) 1508 ≡ false = grind (arith, nat_tests) in
                fed-is x d ∙ rw no_flag (taken-plain x d stays whole no_escape ∙ rw some refl)
          ]
    ]

pub all_plain : (xs : List ℕ) (d : Deframing) → ((k : ℕ) → k < length xs → is_escaped d.map (get_or xs k 0) ≡ false) → d.is_escaping ≡ false → length d.octets + length xs ≤ 1508
    → fed_all xs d ≡ record d { octets = d.octets ++ xs }
all_plain [] d plain whole room = all-none d ∙ ap (λ (l : List ℕ). record d { octets = l }) (sym (append-nil d.octets))
all_plain (x ∷ xs) d plain whole room =
    let first : fed x d ≡ record d { octets = d.octets ++ x ∷ [] } = fed-plain x d (plain 0 (omega arith)) whole (omega arith) in
    let more : length (d.octets ++ x ∷ []) + length xs ≤ 1508 = omega (arith, length-append d.octets (x ∷ [])) in
    all-cons x xs d
    ∙ ap (λ (d : Deframing). fed_all xs d) first
    ∙ all_plain xs (record d { octets = d.octets ++ x ∷ [] }) (λ k within. plain (suc k) (omega arith)) whole more
    ∙ ap (λ (l : List ℕ). record d { octets = l }) (append_assoc d.octets (x ∷ []) xs)

plain-no_flag : (map x : ℕ) → is_escaped map x ≡ false → x ≢ 0x7e
plain-no_flag map x plain = λ flag. absurd (cc (rw flag at plain))

-- Takes
pub takes_none : (octets : List ℕ) (at : ℕ) (d : Deframing) → at ≤ length octets → Takes octets at at d d
takes_none octets at d within = record {
  forward = omega arith;
  within = within;
  fed = let none : at - at ≡ 0 = omega arith in rw none (sym (all-none d));
  no_flag = λ index low high. absurd (omega arith);
}

pub takes_both : (octets : List ℕ) (from at to : ℕ) (old mid new : Deframing) → Takes octets from at old mid → Takes octets at to mid new → Takes octets from to old new
takes_both octets from at to old mid new front more =
    let there : from + (at - from) ≡ at = omega (arith, front.forward) in
    let sum : at - from + (to - at) ≡ to - from = omega (arith, front.forward, more.forward) in
    record {
      forward = omega (arith, front.forward, more.forward);
      within = more.within;
      fed = more.fed
          ∙ ap (λ (d : Deframing). fed_all (take (to - at) (drop at octets)) d) front.fed
          ∙ ap (λ (l : List ℕ). fed_all (take (to - at) l) (fed_all (take (at - from) (drop from octets)) old)) (ap (λ n. drop n octets) (sym there) ∙ sym (drop-drop (at - from) from octets))
          ∙ all-parts (drop from octets) (at - from) (to - at) old
          ∙ ap (λ n. fed_all (take n (drop from octets)) old) sum;
      no_flag = λ index low high. elim (cases_lt index at) [ inl early ↦ front.no_flag index low early | inr late ↦ more.no_flag index late high ];
    }

pub takes_one : (octets : List ℕ) (at : ℕ) (d : Deframing) → at < length octets → get_or octets at 0 ≢ 0x7e → Takes octets at (at + 1) d (fed (get_or octets at 0) d)
takes_one octets at d within other =
    let one : at + 1 - at ≡ 1 = omega arith in
    record {
      forward = omega arith;
      within = omega arith;
      fed = rw one (sym (ap (λ l. fed_all l d) (take_more (drop at octets) 0 0 (omega (arith, length-drop at octets))) ∙ all-one (get_or (drop at octets) 0 0) d ∙ ap (λ x. fed x d) (get_or-drop at octets 0 0 ∙ ap (λ k. get_or octets k 0) (omega arith))));
      no_flag = λ index low high. let same : index ≡ at = omega arith in rw same other;
    }

pub takes_plain : (octets : List ℕ) (at run : ℕ) (d : Deframing) → run ≤ 16 → at + 16 ≤ length octets → length d.octets + 16 ≤ 1508 → d.is_escaping ≡ false
    → ((k : ℕ) → k < run → is_escaped d.map (get_or octets (at + k) 0) ≡ false)
    → Takes octets at (at + run) d (record d { octets = d.octets ++ take run (drop at octets) })
takes_plain octets at run d short within room whole plain =
    let count : at + run - at ≡ run = omega arith in
    let long : length (take run (drop at octets)) ≡ run = length-take-le run (drop at octets) (omega (arith, length-drop at octets)) in
    record {
      forward = omega arith;
      within = omega arith;
      fed = rw count (sym (all_plain (take run (drop at octets)) d (λ k below. rw (get_or-take run (drop at octets) k 0 (omega (arith, long)), get_or-drop at octets k 0) (plain k (omega (arith, long)))) whole (omega (arith, long))));
      no_flag = λ index low high.
          let there : at + (index - at) ≡ index = omega arith in
          plain-no_flag d.map (get_or octets index 0) (subst (λ (k : ℕ). is_escaped d.map (get_or octets k 0) ≡ false) there (plain (index - at) (omega arith)));
    }

-- so many octets were taken, and none was answered
pub record Has (old new : Deframing) (octets : List ℕ) (used : ℕ) : Type 0 where
  pub within : used ≤ length octets
  pub fed : new ≡ fed_all (take used octets) old
  pub quiet : (index : ℕ) → index < used → heard_in octets old index ≡ Nothing

pub has_none : (d : Deframing) (octets : List ℕ) → Has d d octets 0
has_none d octets = record { within = omega arith; fed = sym (all-none d); quiet = λ index below. absurd (omega arith) }

pub has_run : (old mid new : Deframing) (octets : List ℕ) (used to : ℕ) → Has old mid octets used → Takes octets used to mid new → Has old new octets to
has_run old mid new octets used to has more =
    let sum : used + (to - used) ≡ to = omega (arith, more.forward) in
    record {
      within = more.within;
      fed = more.fed
          ∙ ap (λ (d : Deframing). fed_all (take (to - used) (drop used octets)) d) has.fed
          ∙ all-parts octets used (to - used) old
          ∙ ap (λ n. fed_all (take n octets) old) sum;
      quiet = λ index below.
          elim (cases_lt index used) [
            | inl early ↦ has.quiet index early
            | inr late ↦ quiet_fed (get_or octets index 0) (fed_all (take index octets) old) (more.no_flag index late below)
          ];
    }

heard_next : (old mid : Deframing) (octets : List ℕ) (used : ℕ) (heard : Heard) → Has old mid octets used → heard ≡ heard_at (get_or octets used 0) mid → heard_in octets old used ≡ heard
heard_next old mid octets used heard has answered = sym (answered ∙ ap (λ (d : Deframing). heard_at (get_or octets used 0) d) has.fed)

fed_next : (old mid new : Deframing) (octets : List ℕ) (used : ℕ) → Has old mid octets used → used < length octets → new ≡ fed (get_or octets used 0) mid → new ≡ fed_all (take (used + 1) octets) old
fed_next old mid new octets used has more new_is = new_is ∙ ap (λ (d : Deframing). fed (get_or octets used 0) d) has.fed ∙ sym (all_more octets used old more)

pub has_one : (old mid new : Deframing) (octets : List ℕ) (used : ℕ) (heard : Heard) → Has old mid octets used → used < length octets → new ≡ fed (get_or octets used 0) mid
    → heard ≡ heard_at (get_or octets used 0) mid → heard ≡ Nothing → Has old new octets (used + 1)
has_one old mid new octets used heard has more new_is answered nothing = record {
  within = omega arith;
  fed = fed_next old mid new octets used has more new_is;
  quiet = λ index below.
      elim (cases_lt index used) [
        | inl early ↦ has.quiet index early
        | inr late ↦
            let same : index ≡ used = omega arith in
            rw same (heard_next old mid octets used heard has answered ∙ nothing)
      ];
}

-- the span that ends with an answer
pub span_ends : (old mid : Deframing) (octets : List ℕ) (used : ℕ) (heard : Heard) → Has old mid octets used → used < length octets → heard ≡ heard_at (get_or octets used 0) mid
    → (heard ≡ Nothing → ⊥) → IsSpan octets old (used + 1) heard
span_ends old mid octets used heard has more answered some = record {
  within = omega arith;
  before = λ index below. has.quiet index (omega arith);
  last = λ index is_last. let same : index ≡ used = omega arith in rw same (heard_next old mid octets used heard has answered);
  none = λ zero. absurd (omega (arith, zero));
  all = λ nothing. absurd (some nothing);
}

pub ends_fed : (old mid new : Deframing) (octets : List ℕ) (used : ℕ) → Has old mid octets used → used < length octets → new ≡ fed (get_or octets used 0) mid → new ≡ fed_all (take (used + 1) octets) old
ends_fed = fed_next

-- the span that has no answer
pub span_all : (old new : Deframing) (octets : List ℕ) (used : ℕ) → Has old new octets used → length octets ≤ used → IsSpan octets old used Nothing
span_all old new octets used has done = record {
  within = has.within;
  before = λ index below. has.quiet index (omega arith);
  last = λ index is_last. has.quiet index (omega arith);
  none = λ zero. refl;
  all = λ nothing. omega (arith, has.within);
}

-- the stream behind a piece
stamped-append : (receiving : ℕ) (xs ys : List ℕ) → stamped receiving (xs ++ ys) ≡ stamped receiving xs ++ stamped receiving ys
stamped-append receiving [] ys = refl
stamped-append receiving (x ∷ xs) ys = ap (λ l. (x, receiving) ∷ l) (stamped-append receiving xs ys)

pub stands_all : (xs : List ℕ) (d : Deframing) (stream : List Received) → StandsFor d stream → StandsFor (fed_all xs d) (stream ++ stamped d.map xs)
stands_all [] d stream stands = rw (all-none d, append-nil stream) stands
stands_all (x ∷ xs) d stream stands =
    let moved : (stream ++ (x, d.map) ∷ []) ++ stamped (fed x d).map xs ≡ stream ++ stamped d.map (x ∷ xs) = ap (λ m. (stream ++ (x, d.map) ∷ []) ++ stamped m xs) (map_fed x d) ∙ append_assoc stream ((x, d.map) ∷ []) (stamped d.map xs) in
    subst (λ (s : List Received). StandsFor (fed_all (x ∷ xs) d) s) moved
    (subst (λ (e : Deframing). StandsFor e ((stream ++ (x, d.map) ∷ []) ++ stamped (fed x d).map xs)) (sym (all-cons x xs d))
    (stands_all xs (fed x d) (stream ++ (x, d.map) ∷ []) (stands_fed d stream x stands)))

-- octets that are answered by Nothing add no answer that tells something
told-quiet : (xs : List ℕ) (d : Deframing) (stream : List Received) → ((index : ℕ) → index < length xs → heard_in xs d index ≡ Nothing) → StandsFor d stream
    → told (stream ++ stamped d.map xs) ≡ told stream
told-quiet [] d stream quiet stands = ap told (append-nil stream)
told-quiet (x ∷ xs) d stream quiet stands =
    let first : heard_at x d ≡ Nothing = ap (λ (e : Deframing). heard_at x e) (sym (all-none d)) ∙ quiet 0 (omega arith) in
    ap told (sym (ap (λ m. (stream ++ (x, d.map) ∷ []) ++ stamped m xs) (map_fed x d) ∙ append_assoc stream ((x, d.map) ∷ []) (stamped d.map xs)))
    ∙ told-quiet xs (fed x d) (stream ++ (x, d.map) ∷ []) (λ index within. ap (λ (e : Deframing). heard_at (get_or xs index 0) e) (sym (all-cons x (take index xs) d)) ∙ quiet (suc index) (omega arith)) (stands_fed d stream x stands)
    ∙ told_fed d stream x stands
    ∙ ap (λ h. told stream ++ told_of h) first
    ∙ append-nil (told stream)

quiet-front : (octets : List ℕ) (d : Deframing) (n : ℕ) → n ≤ length octets → ((index : ℕ) → index < n → heard_in octets d index ≡ Nothing)
    → (index : ℕ) → index < length (take n octets) → heard_in (take n octets) d index ≡ Nothing
quiet-front octets d n within quiet index below =
    let short : index < n = omega (arith, length-take-le n octets within) in
    ap (λ x. heard_at x (fed_all (take index (take n octets)) d)) (get_or-take n octets index 0 short)
    ∙ ap (λ l. heard_at (get_or octets index 0) (fed_all l d)) (take-take index n octets (omega arith))
    ∙ quiet index short

pub told_span : (octets : List ℕ) (d : Deframing) (used : ℕ) (heard : Heard) (stream : List Received) → IsSpan octets d used heard → StandsFor d stream
    → told (stream ++ stamped d.map (take used octets)) ≡ told stream ++ told_of heard
told_span octets d zero heard stream span stands =
    ap told (append-nil stream) ∙ sym (append-nil (told stream)) ∙ ap (λ h. told stream ++ told_of h) (sym (span.none refl))
told_span octets d (suc n) heard stream span stands =
    let more : n < length octets = omega (arith, span.within) in
    let next : suc n ≡ n + 1 = omega arith in
    let front : told (stream ++ stamped d.map (take n octets)) ≡ told stream =
    told-quiet (take n octets) d stream (quiet-front octets d n (omega arith) (λ index below. span.before index (omega arith))) stands in
    let mid : StandsFor (fed_all (take n octets) d) (stream ++ stamped d.map (take n octets)) = stands_all (take n octets) d stream stands in
    let last : heard_at (get_or octets n 0) (fed_all (take n octets) d) ≡ heard = span.last n (omega arith) in
    ap (λ l. told (stream ++ stamped d.map l)) (ap (λ m. take m octets) next ∙ take_more octets n 0 more)
    ∙ ap (λ s. told (stream ++ s)) (stamped-append d.map (take n octets) (get_or octets n 0 ∷ []))
    ∙ ap told (sym (append_assoc stream (stamped d.map (take n octets)) ((get_or octets n 0, d.map) ∷ [])))
    ∙ ap (λ m. told ((stream ++ stamped d.map (take n octets)) ++ (get_or octets n 0, m) ∷ [])) (sym (map_all (take n octets) d))
    ∙ told_fed (fed_all (take n octets) d) (stream ++ stamped d.map (take n octets)) (get_or octets n 0) mid
    ∙ ap (λ t. t ++ told_of (heard_at (get_or octets n 0) (fed_all (take n octets) d))) front
    ∙ ap (λ h. told stream ++ told_of h) last

-- what a call that leaves this says of a stream
pub stands_span : (octets : List ℕ) (old new : Deframing) (used : ℕ) (stream : List Received) → new ≡ fed_all (take used octets) old → StandsFor old stream → StandsFor new (stream ++ stamped old.map (take used octets))
stands_span octets old new used stream new_is stands =
    subst (λ (e : Deframing). StandsFor e (stream ++ stamped old.map (take used octets))) (sym new_is) (stands_all (take used octets) old stream stands)

pub map_span : (octets : List ℕ) (old new : Deframing) (used : ℕ) → new ≡ fed_all (take used octets) old → new.map ≡ old.map
map_span octets old new used new_is = ap (λ (e : Deframing). e.map) new_is ∙ map_all (take used octets) old

-- one part of the line, copied as it is
pub takes_copied : (octets : List ℕ) (from at run map : ℕ) (start old new : List ℕ) (is_over : Bool) → Takes octets from at (whole_part map start is_over) (whole_part map old is_over)
    → new ≡ old ++ take run (drop at octets) → run ≤ 16 → at + 16 ≤ length octets → length old + 16 ≤ 1508 → ((k : ℕ) → k < run → is_escaped map (get_or octets (at + k) 0) ≡ false)
    → Takes octets from (at + run) (whole_part map start is_over) (whole_part map new is_over)
takes_copied octets from at run map start old new is_over front new_is short within room plain =
    takes_both octets from at (at + run) (whole_part map start is_over) (whole_part map old is_over) (whole_part map new is_over) front
    (rw new_is (takes_plain octets at run (whole_part map old is_over) short within room refl plain))

-- an escape and the octet behind it
fed-pair : (x map : ℕ) (old : List ℕ) (is_over : Bool) → x ≢ 0x7e → is_mapped map x ≡ false → length old < 1508
    → fed x (fed 0x7d (whole_part map old is_over)) ≡ whole_part map (old ++ bit_xor x 32 ∷ []) is_over
fed-pair x map old is_over other stays room =
    let waiting : Deframing = record { map = map; octets = old; is_over = is_over; is_escaping = true } in
    let no_flag : is_flag x ≡ false = grind (arith, nat_tests) in
    let some : nat_eq (length old) 1508 ≡ false = grind (arith, nat_tests) in
    ap (λ (d : Deframing). fed x d) (fed-is 0x7d (whole_part map old is_over) ∙ taken-escape 0x7d (whole_part map old is_over) refl refl refl)
    ∙ fed-is x (record { map = map; octets = old; is_over = is_over; is_escaping = true })
    ∙ rw no_flag (taken-escaped x (record { map = map; octets = old; is_over = is_over; is_escaping = true }) stays refl ∙ rw some refl)

pub takes_pair : (octets : List ℕ) (from at map : ℕ) (start old new : List ℕ) (is_over : Bool) → Takes octets from at (whole_part map start is_over) (whole_part map old is_over)
    → get_or octets at 0 ≡ 0x7d → at + 2 ≤ length octets → get_or octets (at + 1) 0 ≢ 0x7e → is_mapped map (get_or octets (at + 1) 0) ≡ false → length old < 1508
    → new ≡ old ++ bit_xor (get_or octets (at + 1) 0) 32 ∷ [] → Takes octets from (at + 2) (whole_part map start is_over) (whole_part map new is_over)
takes_pair octets from at map start old new is_over front escape within other stays room new_is =
    let next : at + 1 + 1 ≡ at + 2 = omega arith in
    let first : Takes octets at (at + 1) (whole_part map old is_over) (fed (get_or octets at 0) (whole_part map old is_over)) =
    takes_one octets at (whole_part map old is_over) (omega arith) (λ flag. absurd (omega (arith, sym escape ∙ flag))) in
    let second : Takes octets (at + 1) (at + 1 + 1) (fed (get_or octets at 0) (whole_part map old is_over)) (fed (get_or octets (at + 1) 0) (fed (get_or octets at 0) (whole_part map old is_over))) =
    takes_one octets (at + 1) (fed (get_or octets at 0) (whole_part map old is_over)) (omega arith) other in
    let left : fed (get_or octets (at + 1) 0) (fed (get_or octets at 0) (whole_part map old is_over)) ≡ whole_part map new is_over =
    ap (λ x. fed (get_or octets (at + 1) 0) (fed x (whole_part map old is_over))) escape
    ∙ fed-pair (get_or octets (at + 1) 0) map old is_over other stays room
    ∙ ap (λ l. whole_part map l is_over) (sym new_is) in
    subst (λ (to : ℕ). Takes octets from to (whole_part map start is_over) (whole_part map new is_over)) next
    (subst (λ (d : Deframing). Takes octets from (at + 1 + 1) (whole_part map start is_over) d) left
    (takes_both octets from (at + 1) (at + 1 + 1) _ _ _ (takes_both octets from at (at + 1) _ _ _ front first) second))

-- Nothing for each flag of octets that are answered by nothing else
nothings : List ℕ → List Heard
nothings xs = map (λ _. Nothing) (filter is_flag xs)

nothings-append : (xs ys : List ℕ) → nothings (xs ++ ys) ≡ nothings xs ++ nothings ys
unfolding nothings
nothings-append xs ys = ap (λ l. map (λ _. Nothing) l) (filter-append is_flag xs ys) ∙ mapped (filter is_flag xs) (filter is_flag ys)
  where
    mapped : (vs ws : List ℕ) → map (λ _. Nothing) (vs ++ ws) ≡ map (λ _. Nothing) vs ++ map (λ _. Nothing) ws
    mapped [] ws = refl
    mapped (v ∷ vs) ws = ap (λ l. Nothing ∷ l) (mapped vs ws)

nothings-one : (x : ℕ) → nothings (x ∷ []) ≡ cond (is_flag x) (Nothing ∷ []) []
unfolding nothings
nothings-one x = elim (bool_cases (is_flag x)) [ inl flag ↦ rw flag refl | inr other ↦ rw other refl ]

frames-quiet : (xs : List ℕ) (d : Deframing) (stream : List Received) → ((index : ℕ) → index < length xs → heard_in xs d index ≡ Nothing) → StandsFor d stream
    → Frames (stream ++ stamped d.map xs) ≡ Frames stream ++ nothings xs
unfolding nothings
frames-quiet [] d stream quiet stands = ap Frames (append-nil stream) ∙ sym (append-nil (Frames stream))
frames-quiet (x ∷ xs) d stream quiet stands =
    let first : heard_at x d ≡ Nothing = ap (λ (e : Deframing). heard_at x e) (sym (all-none d)) ∙ quiet 0 (omega arith) in
    ap Frames (sym (ap (λ m. (stream ++ (x, d.map) ∷ []) ++ stamped m xs) (map_fed x d) ∙ append_assoc stream ((x, d.map) ∷ []) (stamped d.map xs)))
    ∙ frames-quiet xs (fed x d) (stream ++ (x, d.map) ∷ []) (λ index within. ap (λ (e : Deframing). heard_at (get_or xs index 0) e) (sym (all-cons x (take index xs) d)) ∙ quiet (suc index) (omega arith)) (stands_fed d stream x stands)
    ∙ ap (λ l. l ++ nothings xs) (answer_fed d stream x stands ∙ ap (λ h. Frames stream ++ cond (is_flag x) (h ∷ []) []) first ∙ ap (λ l. Frames stream ++ l) (sym (nothings-one x)))
    ∙ append_assoc (Frames stream) (nothings (x ∷ [])) (nothings xs)
    ∙ ap (λ l. Frames stream ++ l) (sym (nothings-append (x ∷ []) xs))

nothings-is : (xs : List ℕ) → nothings xs ≡ map (λ _. Nothing) (filter is_flag xs)
unfolding nothings
nothings-is xs = refl

pub frames_span : (octets : List ℕ) (d : Deframing) (used : ℕ) (heard : Heard) (stream : List Received) → IsSpan octets d used heard → StandsFor d stream → 0 < used
    → Frames (stream ++ stamped d.map (take used octets)) ≡ (Frames stream ++ map (λ _. Nothing) (filter is_flag (take (used - 1) octets))) ++ cond (is_flag (get_or octets (used - 1) 0)) (heard ∷ []) []
frames_span octets d zero heard stream span stands some = absurd (omega arith)
frames_span octets d (suc n) heard stream span stands some =
    let more : n < length octets = omega (arith, span.within) in
    let next : suc n ≡ n + 1 = omega arith in
    let less : suc n - 1 ≡ n = omega arith in
    let front : Frames (stream ++ stamped d.map (take n octets)) ≡ Frames stream ++ nothings (take n octets) =
    frames-quiet (take n octets) d stream (quiet-front octets d n (omega arith) (λ index below. span.before index (omega arith))) stands in
    let mid : StandsFor (fed_all (take n octets) d) (stream ++ stamped d.map (take n octets)) = stands_all (take n octets) d stream stands in
    let last : heard_at (get_or octets n 0) (fed_all (take n octets) d) ≡ heard = span.last n (omega arith) in
    ap (λ l. Frames (stream ++ stamped d.map l)) (ap (λ m. take m octets) next ∙ take_more octets n 0 more)
    ∙ ap (λ s. Frames (stream ++ s)) (stamped-append d.map (take n octets) (get_or octets n 0 ∷ []))
    ∙ ap Frames (sym (append_assoc stream (stamped d.map (take n octets)) ((get_or octets n 0, d.map) ∷ [])))
    ∙ ap (λ m. Frames ((stream ++ stamped d.map (take n octets)) ++ (get_or octets n 0, m) ∷ [])) (sym (map_all (take n octets) d))
    ∙ answer_fed (fed_all (take n octets) d) (stream ++ stamped d.map (take n octets)) (get_or octets n 0) mid
    ∙ ap (λ t. t ++ cond (is_flag (get_or octets n 0)) (heard_at (get_or octets n 0) (fed_all (take n octets) d) ∷ []) []) (front ∙ ap (λ l. Frames stream ++ l) (nothings-is (take n octets)))
    ∙ ap (λ h. (Frames stream ++ map (λ _. Nothing) (filter is_flag (take n octets))) ++ cond (is_flag (get_or octets n 0)) (h ∷ []) []) last
    ∙ ap (λ m. (Frames stream ++ map (λ _. Nothing) (filter is_flag (take m octets))) ++ cond (is_flag (get_or octets m 0)) (heard ∷ []) []) (sym less)
