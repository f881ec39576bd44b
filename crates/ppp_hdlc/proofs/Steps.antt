-- What a deframer keeps, when one more octet comes.
use Rattle.std.proofs.Common.{◌≡◌, ◌≢◌, ℕ, Bool, true, false, cond, nat_lt, nat_eq, List, [], ◌∷◌, ◌++◌, length, map, take, refl, sym, ap, ◌∙◌, arith, append-nil, length-append, inl, inr}
use Rattle.std.specs.List.{slice_split}
use Rattle.std.proofs.lemmas.List.{take_all, take-append-le, length-take-le}
use Rattle.std.proofs.lemmas.Bool.{cases_lt, eq-eqb}
use Rattle.std.proofs.lemmas.Bool.Decides.{nat_tests}
use Rattle.ppp_hdlc.specs.Frames.{Received, is_removed, kept_octets, unescaped, closed_parts, answer, Frames}
use Rattle.ppp_hdlc.specs.Octets.{is_flag, is_escape}
use Rattle.ppp_hdlc.specs.Deframing.{KeepsPart, open_part}
use Rattle.ppp_hdlc.proofs.Parts.{kept-other, kept-removed, open-other, open-flag, closed-flag, closed-other}
use Rattle.ppp_hdlc.proofs.Judging.{bool_cases}
use Rattle.ppp_hdlc.proofs.Unescaping.{added, unescaped-append, escaping-append}

-- One more at the end of a list of which the first n are kept.
pub take-more : (n : ℕ) (u : List ℕ) (y : ℕ) → take n (u ++ y ∷ []) ≡ cond (nat_eq (length (take n u)) n) (take n u) (take n u ++ y ∷ [])
take-more n u y =
    elim (cases_lt (length u) n) [
      | inl below ↦
          let all : take n u ≡ u = take_all n u (omega arith) in
          let more : take n (u ++ y ∷ []) ≡ u ++ y ∷ [] = take_all n (u ++ y ∷ []) (omega (arith, length-append u (y ∷ []))) in
          let other : nat_eq (length u) n ≡ false = grind (arith, nat_tests) in
          rw (more, all, other) refl
      | inr full ↦
          let same : take n (u ++ y ∷ []) ≡ take n u = take-append-le n u (y ∷ []) full in
          let at : nat_eq (length (take n u)) n ≡ true = eq-eqb _ _ (length-take-le n u full) in
          rw (same, at) refl
    ]

pub over-more : (n : ℕ) (u : List ℕ) (y : ℕ) → nat_lt n (length (u ++ y ∷ [])) ≡ cond (nat_eq (length (take n u)) n) true (nat_lt n (length u))
over-more n u y =
    elim (cases_lt (length u) n) [
      | inl below ↦
          let all : take n u ≡ u = take_all n u (omega arith) in
          let other : nat_eq (length u) n ≡ false = grind (arith, nat_tests) in
          let now : nat_lt n (length u) ≡ false = grind (arith, nat_tests) in
          let more : nat_lt n (length (u ++ y ∷ [])) ≡ false = rw (length-append u (y ∷ [])) (grind (arith, nat_tests)) in
          rw (more, all, other, now) refl
      | inr full ↦
          let at : nat_eq (length (take n u)) n ≡ true = eq-eqb _ _ (length-take-le n u full) in
          let more : nat_lt n (length (u ++ y ∷ [])) ≡ true = rw (length-append u (y ∷ [])) (grind (arith, nat_tests)) in
          rw (more, at) refl
    ]

-- An octet that adds y to the part is kept while there is room.
pub keeps_more : (octets octets' : List ℕ) (is_over is_over' is_escaping : Bool) (part : List ℕ) (x y : ℕ) → KeepsPart octets is_over is_escaping part
    → added is_escaping x ≡ y ∷ [] → cond is_escaping false (is_escape x) ≡ false
    → octets' ≡ cond (nat_eq (length octets) 1508) octets (octets ++ y ∷ []) → is_over' ≡ cond (nat_eq (length octets) 1508) true is_over
    → KeepsPart octets' is_over' false (part ++ x ∷ [])
keeps_more octets octets' is_over is_over' is_escaping part x y keeps adds stops octets_are over_is =
    let u = unescaped part in
    let more : unescaped (part ++ x ∷ []) ≡ unescaped part ++ y ∷ [] = unescaped-append part x ∙ ap (λ l. unescaped part ++ l) (ap (λ b. added b x) (sym keeps.escaping_is) ∙ adds) in
    record {
      octets_are = rw more (octets_are ∙ rw keeps.octets_are (sym (take-more 1508 (unescaped part) y)));
      over_is = rw more (over_is ∙ rw (keeps.octets_are, keeps.over_is) (sym (over-more 1508 (unescaped part) y)));
      escaping_is = sym (escaping-append part x ∙ ap (λ b. cond b false (is_escape x)) (sym keeps.escaping_is) ∙ stops);
    }

-- An escape waits for its octet.
pub keeps_escape : (octets : List ℕ) (is_over : Bool) (part : List ℕ) (x : ℕ) → KeepsPart octets is_over false part → is_escape x ≡ true → KeepsPart octets is_over true (part ++ x ∷ [])
keeps_escape octets is_over part x keeps escape =
    let more : unescaped (part ++ x ∷ []) ≡ unescaped part = unescaped-append part x ∙ rw (← keeps.escaping_is, escape) (append-nil (unescaped part)) in
    record {
      octets_are = rw more keeps.octets_are;
      over_is = rw more keeps.over_is;
      escaping_is = sym (escaping-append part x ∙ rw (← keeps.escaping_is) escape);
    }

-- the part that is open in the stream
abbrev pub opened : List Received → List ℕ
opened stream = open_part (slice_split is_flag (kept_octets stream))

pub opened-other : (stream : List Received) (x map : ℕ) → is_removed (x, map) ≡ false → x ≢ 0x7e → opened (stream ++ (x, map) ∷ []) ≡ opened stream ++ x ∷ []
opened-other stream x map kept other = ap (λ octets. open_part (slice_split is_flag octets)) (kept-other stream (x, map) kept) ∙ open-other (kept_octets stream) x (grind (arith, nat_tests))

flag_is : (x : ℕ) → x ≡ 0x7e → is_flag x ≡ true
flag_is x flag = eq-eqb x 0x7e flag

flag_stays : (x map : ℕ) → x ≡ 0x7e → is_removed (x, map) ≡ false
flag_stays x map flag = rw flag refl

pub opened-flag : (stream : List Received) (x map : ℕ) → x ≡ 0x7e → opened (stream ++ (x, map) ∷ []) ≡ []
opened-flag stream x map flag = ap (λ octets. open_part (slice_split is_flag octets)) (kept-other stream (x, map) (flag_stays x map flag)) ∙ open-flag (kept_octets stream) x (flag_is x flag)

frames-is : (stream : List Received) → Frames stream ≡ map answer (closed_parts (slice_split is_flag (kept_octets stream)))
unfolding Frames
frames-is stream = refl

map-answer-append : (xs : List (List ℕ)) (x : List ℕ) → map answer (xs ++ x ∷ []) ≡ map answer xs ++ answer x ∷ []
map-answer-append [] x = refl
map-answer-append (y ∷ ys) x = ap (λ l. answer y ∷ l) (map-answer-append ys x)

-- A flag gives the answer of the open part, and no other octet gives one.
pub frames-flag : (stream : List Received) (x at : ℕ) → x ≡ 0x7e → Frames (stream ++ (x, at) ∷ []) ≡ Frames stream ++ answer (opened stream) ∷ []
frames-flag stream x at flag =
    frames-is (stream ++ (x, at) ∷ [])
    ∙ ap (λ octets. map answer (closed_parts (slice_split is_flag octets))) (kept-other stream (x, at) (flag_stays x at flag))
    ∙ ap (λ parts. map answer parts) (closed-flag (kept_octets stream) x (flag_is x flag))
    ∙ map-answer-append (closed_parts (slice_split is_flag (kept_octets stream))) (opened stream)
    ∙ ap (λ answers. answers ++ answer (opened stream) ∷ []) (sym (frames-is stream))

pub frames-other : (stream : List Received) (x at : ℕ) → x ≢ 0x7e → Frames (stream ++ (x, at) ∷ []) ≡ Frames stream
frames-other stream x at other =
    frames-is (stream ++ (x, at) ∷ [])
    ∙ elim (bool_cases (is_removed (x, at))) [
      | inl removed ↦ ap (λ octets. map answer (closed_parts (slice_split is_flag octets))) (kept-removed stream (x, at) removed)
      | inr kept ↦
          ap (λ octets. map answer (closed_parts (slice_split is_flag octets))) (kept-other stream (x, at) kept)
          ∙ ap (λ parts. map answer parts) (closed-other (kept_octets stream) x (grind (arith, nat_tests)))
    ]
    ∙ sym (frames-is stream)
