-- What an octet leaves of a deframer stands for the stream with it, and its answer is the stream's.
use Rattle.std.proofs.Common.{◌≡◌, ◌≢◌, ℕ, ◌==◌, Bool, true, false, cond, nat_eq, List, [], ◌∷◌, ◌++◌, length, refl, sym, ap, subst, ◌∙◌, arith, append-nil, inl, inr}
use Rattle.std.specs.Prelude.{bit_xor, flat_map}
use Rattle.std.proofs.lemmas.Bool.{eqb-true}
use Rattle.std.proofs.lemmas.Bool.Decides.{nat_tests}
use Rattle.std.proofs.lemmas.Grind.{flat_map-append}
use Rattle.std.specs.List.{slice_split}
use Rattle.ppp_hdlc.specs.declared.heard.Heard.TheVariants.{Nothing}
use Rattle.ppp_hdlc.specs.Frames.{Received, answer, Frames, told, told_of}
use Rattle.ppp_hdlc.specs.Octets.{is_flag, is_escape, is_mapped}
use Rattle.ppp_hdlc.specs.Deframing.{Deframing, KeepsPart, StandsFor, open_part, fresh, kept, taken, fed, judged, heard_at}
use Rattle.ppp_hdlc.proofs.Parts.{kept-removed}
use Rattle.ppp_hdlc.proofs.Judging.{bool_cases, answer_aborted, answer_long, judges, judges_empty}
use Rattle.ppp_hdlc.proofs.Unescaping.{unescaped-none, escaping-none}
use Rattle.ppp_hdlc.proofs.Steps.{opened, opened-flag, opened-other, keeps_more, keeps_escape, frames-flag, frames-other}

pub fed-is : (octet : ℕ) (d : Deframing) → fed octet d ≡ cond (is_flag octet) (record fresh { map = d.map }) (taken octet d)
unfolding fed
fed-is octet d = refl

pub heard-is : (octet : ℕ) (d : Deframing) → heard_at octet d ≡ cond (is_flag octet) (judged d.octets d.is_over d.is_escaping) Nothing
unfolding heard_at
heard-is octet d = refl

told-is : (stream : List Received) → told stream ≡ flat_map told_of (Frames stream)
unfolding told
told-is stream = refl

-- what is said of a part from what was kept of it
pub judged-is : (octets : List ℕ) (is_over is_escaping : Bool) (part : List ℕ) → KeepsPart octets is_over is_escaping part → judged octets is_over is_escaping ≡ answer part
judged-is octets is_over true part keeps = sym (answer_aborted part (sym keeps.escaping_is))
judged-is octets true false part keeps = sym (answer_long part (sym keeps.escaping_is) (sym keeps.over_is))
judged-is [] false false part keeps = sym (judges_empty [] false false part keeps refl refl refl)
judged-is (x ∷ xs) false false part keeps =
    let some : (length (x ∷ xs) == 0) ≡ false = grind (arith, nat_tests) in
    rw some (sym (judges (x ∷ xs) false false part keeps refl refl (omega arith)))

keeps-none : KeepsPart [] false false []
keeps-none = record { octets_are = rw unescaped-none refl; over_is = rw unescaped-none refl; escaping_is = sym escaping-none }

kept-octets : (y : ℕ) (d : Deframing) → (kept y d).octets ≡ cond (nat_eq (length d.octets) 1508) d.octets (d.octets ++ y ∷ [])
kept-octets y d = elim (nat_eq (length d.octets) 1508) as (λ b. (cond b (record d { is_over = true }) (record d { octets = d.octets ++ y ∷ [] })).octets ≡ cond b d.octets (d.octets ++ y ∷ [])) [ true ↦ refl | false ↦ refl ]

kept-over : (y : ℕ) (d : Deframing) → (kept y d).is_over ≡ cond (nat_eq (length d.octets) 1508) true d.is_over
kept-over y d = elim (nat_eq (length d.octets) 1508) as (λ b. (cond b (record d { is_over = true }) (record d { octets = d.octets ++ y ∷ [] })).is_over ≡ cond b true d.is_over) [ true ↦ refl | false ↦ refl ]

kept-escaping : (y : ℕ) (d : Deframing) → (kept y d).is_escaping ≡ d.is_escaping
kept-escaping y d = elim (nat_eq (length d.octets) 1508) as (λ b. (cond b (record d { is_over = true }) (record d { octets = d.octets ++ y ∷ [] })).is_escaping ≡ d.is_escaping) [ true ↦ refl | false ↦ refl ]

pub kept-map : (y : ℕ) (d : Deframing) → (kept y d).map ≡ d.map
kept-map y d = elim (nat_eq (length d.octets) 1508) as (λ b. (cond b (record d { is_over = true }) (record d { octets = d.octets ++ y ∷ [] })).map ≡ d.map) [ true ↦ refl | false ↦ refl ]

-- the octet y is kept for x
keeps-kept : (d : Deframing) (is_escaping : Bool) (part : List ℕ) (x y : ℕ) → KeepsPart d.octets d.is_over is_escaping part → d.is_escaping ≡ false
    → Rattle.ppp_hdlc.proofs.Unescaping.added is_escaping x ≡ y ∷ [] → cond is_escaping false (is_escape x) ≡ false
    → KeepsPart (kept y d).octets (kept y d).is_over (kept y d).is_escaping (part ++ x ∷ [])
keeps-kept d is_escaping part x y keeps whole adds stops =
    subst (λ (b : Bool). KeepsPart (kept y d).octets (kept y d).is_over b (part ++ x ∷ [])) (sym (kept-escaping y d ∙ whole))
    (keeps_more d.octets (kept y d).octets d.is_over (kept y d).is_over is_escaping part x y keeps adds stops (kept-octets y d) (kept-over y d))

-- what an octet is taken as, where the map doesn't have it removed
pub taken-escaped : (x : ℕ) (d : Deframing) → is_mapped d.map x ≡ false → d.is_escaping ≡ true → taken x d ≡ kept (bit_xor x 32) (record d { is_escaping = false })
taken-escaped x d stays escaping = rw (stays, escaping) refl

pub taken-escape : (x : ℕ) (d : Deframing) → is_mapped d.map x ≡ false → d.is_escaping ≡ false → is_escape x ≡ true → taken x d ≡ record d { is_escaping = true }
taken-escape x d stays whole escape = rw (stays, whole, escape) refl

pub taken-plain : (x : ℕ) (d : Deframing) → is_mapped d.map x ≡ false → d.is_escaping ≡ false → is_escape x ≡ false → taken x d ≡ kept x d
taken-plain x d stays whole other = rw (stays, whole, other) refl

abbrev Keeps : List ℕ → Deframing → Type 0
Keeps part d = KeepsPart d.octets d.is_over d.is_escaping part

-- what is left of a part behind such an octet, which is no flag
keeps-taken : (d : Deframing) (part : List ℕ) (x : ℕ) → KeepsPart d.octets d.is_over d.is_escaping part → is_mapped d.map x ≡ false → Keeps (part ++ x ∷ []) (taken x d)
keeps-taken d part x keeps stays =
    elim (bool_cases d.is_escaping) [
      | inl escaping ↦
          subst (Keeps (part ++ x ∷ [])) (sym (taken-escaped x d stays escaping))
          (keeps-kept (record d { is_escaping = false }) true part x (bit_xor x 32) (rw escaping at keeps) refl refl refl)
      | inr whole ↦
          elim (bool_cases (is_escape x)) [
            | inl escape ↦ subst (Keeps (part ++ x ∷ [])) (sym (taken-escape x d stays whole escape)) (keeps_escape d.octets d.is_over part x (rw whole at keeps) escape)
            | inr other ↦ subst (Keeps (part ++ x ∷ [])) (sym (taken-plain x d stays whole other)) (keeps-kept d false part x x (rw whole at keeps) whole (rw other refl) other)
          ]
    ]

pub stands_fed : (d : Deframing) (stream : List Received) (x : ℕ) → StandsFor d stream → StandsFor (fed x d) (stream ++ (x, d.map) ∷ [])
stands_fed d stream x stands =
    elim (bool_cases (is_flag x)) [
      | inl flag ↦ rw (fed-is x d, flag, opened-flag stream x d.map (eqb-true x 0x7e flag)) keeps-none
      | inr other ↦
          let no_flag : x ≢ 0x7e = grind (arith, nat_tests, other) in
          elim (bool_cases (is_mapped d.map x)) [
            | inl removed ↦
                let same : opened (stream ++ (x, d.map) ∷ []) ≡ opened stream = ap (λ octets. open_part (slice_split is_flag octets)) (kept-removed stream (x, d.map) removed) in
                rw (fed-is x d, other, removed, same) stands
            | inr stays ↦ rw (fed-is x d, other, opened-other stream x d.map stays no_flag) (keeps-taken d (opened stream) x stands stays)
          ]
    ]

pub answer_fed : (d : Deframing) (stream : List Received) (x : ℕ) → StandsFor d stream
    → Frames (stream ++ (x, d.map) ∷ []) ≡ Frames stream ++ cond (is_flag x) (heard_at x d ∷ []) []
answer_fed d stream x stands =
    elim (bool_cases (is_flag x)) [
      | inl flag ↦
          rw (heard-is x d, flag)
          (frames-flag stream x d.map (eqb-true x 0x7e flag) ∙ ap (λ h. Frames stream ++ h ∷ []) (sym (judged-is d.octets d.is_over d.is_escaping (opened stream) stands)))
      | inr other ↦
          let no_flag : x ≢ 0x7e = grind (arith, nat_tests, other) in
          rw other (frames-other stream x d.map no_flag ∙ sym (append-nil (Frames stream)))
    ]

pub heard-quiet : (x : ℕ) (d : Deframing) → is_flag x ≡ false → heard_at x d ≡ Nothing
heard-quiet x d other = rw (heard-is x d, other) refl

pub told_fed : (d : Deframing) (stream : List Received) (x : ℕ) → StandsFor d stream → told (stream ++ (x, d.map) ∷ []) ≡ told stream ++ told_of (heard_at x d)
told_fed d stream x stands =
    told-is (stream ++ (x, d.map) ∷ [])
    ∙ ap (λ answers. flat_map told_of answers) (answer_fed d stream x stands)
    ∙ flat_map-append told_of (Frames stream) (cond (is_flag x) (heard_at x d ∷ []) [])
    ∙ ap (λ l. l ++ flat_map told_of (cond (is_flag x) (heard_at x d ∷ []) [])) (sym (told-is stream))
    ∙ ap (λ l. told stream ++ l) one
  where
    one : flat_map told_of (cond (is_flag x) (heard_at x d ∷ []) []) ≡ told_of (heard_at x d)
    one =
        elim (bool_cases (is_flag x)) [
          | inl flag ↦ rw flag (append-nil (told_of (heard_at x d)))
          | inr other ↦ rw other (ap told_of (sym (heard-quiet x d other)))
        ]

pub quiet_fed : (x : ℕ) (d : Deframing) → x ≢ 0x7e → heard_at x d ≡ Nothing
quiet_fed x d other = heard-quiet x d (grind (arith, nat_tests))

-- No octet changes the map.
pub map_fed : (x : ℕ) (d : Deframing) → (fed x d).map ≡ d.map
map_fed x d =
    rw (fed-is x d)
    (elim (is_flag x) as (λ b. (cond b (record fresh { map = d.map }) (taken x d)).map ≡ d.map) [
      | true ↦ refl
      | false ↦
          elim (is_mapped d.map x) as (λ b. (cond b d (cond d.is_escaping (kept (bit_xor x 32) (record d { is_escaping = false })) (cond (is_escape x) (record d { is_escaping = true }) (kept x d)))).map ≡ d.map) [
            | true ↦ refl
            | false ↦
                elim d.is_escaping as (λ b. (cond b (kept (bit_xor x 32) (record d { is_escaping = false })) (cond (is_escape x) (record d { is_escaping = true }) (kept x d))).map ≡ d.map) [
                  | true ↦ kept-map (bit_xor x 32) (record d { is_escaping = false })
                  | false ↦ elim (is_escape x) as (λ b. (cond b (record d { is_escaping = true }) (kept x d)).map ≡ d.map) [ true ↦ refl | false ↦ kept-map x d ]
                ]
          ]
    ])
