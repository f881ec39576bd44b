-- The steps of a full trace.
use Rattle.std.proofs.Common.{◌≡◌, ◌≢◌, ℕ, ◌<◌, ◌≤◌, ◌^◌, Bool, true, false, List, [], ◌∷◌, ◌++◌, length, get_or, drop, Option, None, Some, MatchOption, codes, decimal, find, refl, ap, sym, subst, ◌∙◌, arith, inl, inr, bytes_eq}
use Rattle.std.proofs.lemmas.Bool.Decides.{eqb_tells}
use Rattle.std.proofs.lemmas.Option.{none-some}
use Rattle.std.proofs.lemmas.Fmt.{decimal_injective, decimal_nonempty}
use Rattle.std.proofs.lemmas.Slice.Eq.{bytes_eq-Decides}
use Rattle.std.specs.List.{list_all}
use Rattle.std.specs.Prelude.{◌&&◌, ◌↔◌, IfSome, IsSome}
use Rattle.ppp_base.specs.Numbers.{is_digit}
use Rattle.ppp_base.specs.declared.signal_word.SignalWord.{SignalWord}
use Rattle.ppp_mark.proofs.LinesLemmas.{is_free, number_word}
use Rattle.ppp_outside.specs.declared.spawner.ScriptEnd.{ScriptEnd}
use Rattle.ppp_report.proofs.NumberLemmas.{all_digits}
use Rattle.ppp_trace.specs.declared.link_word.LinkWord.{LinkWord}
use Rattle.ppp_trace.specs.declared.link_word.LinkWord.TheVariants as word
use Rattle.ppp_trace.specs.declared.link_word.TheConstants.{LINK_WORDS}
use Rattle.ppp_trace.specs.declared.world_step.WorldStep.{WorldStep}
use Rattle.ppp_trace.specs.declared.world_step.WorldStep.TheVariants as step
use Rattle.ppp_trace.specs.FullSteps.{IsHex, IsHook, IsNoFullStep, OfLink, SpellsStep, done, hook_text, link_text, signal_text}
use Rattle.ppp_trace.proofs.StepLemmas.{find_passes}

-- what stands before the first space, and what behind it
pub split_same : (a b xs ys : List ℕ) → is_free 32 a ≡ true → is_free 32 b ≡ true → a ++ 32 ∷ xs ≡ b ++ 32 ∷ ys → (a ≡ b) × (xs ≡ ys)
split_same [] [] xs ys free_a free_b e = (refl, ap (drop 1) e)
split_same [] (d ∷ b) xs ys free_a free_b e = absurd (no_space d b (sym (ap (λ l. get_or l 0 0) e)) free_b)
  where
    no_space : (d : ℕ) (b : List ℕ) → d ≡ 32 → is_free 32 (d ∷ b) ≡ true → ⊥
    no_space d b is free = cc
split_same (c ∷ a) [] xs ys free_a free_b e = absurd (no_space c a (ap (λ l. get_or l 0 0) e) free_a)
  where
    no_space : (d : ℕ) (b : List ℕ) → d ≡ 32 → is_free 32 (d ∷ b) ≡ true → ⊥
    no_space d b is free = cc
split_same (c ∷ a) (d ∷ b) xs ys free_a free_b e =
    let others = split_same a b xs ys (rest_free c a free_a) (rest_free d b free_b) (ap (drop 1) e) in
    (ap (λ k. k ∷ a) (ap (λ l. get_or l 0 0) e) ∙ ap (λ l. d ∷ l) others.0, others.1)
  where
    rest_free : (c : ℕ) (a : List ℕ) → is_free 32 (c ∷ a) ≡ true → is_free 32 a ≡ true
    rest_free c a free = elim (eqb_tells c 32) [
      | inl p ↦ absurd (clash (rw p.0 at free))
      | inr p ↦ rw p.0 at free
    ]
      where
        clash : false ≡ true → ⊥
        clash e = cc

-- The number of a link and what is behind it are those of its line.
pub of_same : (links link k : ℕ) (line rest words : List ℕ) → links ≤ 16 → OfLink links link line rest → OfLink links k line words → (k ≡ link) × (words ≡ rest)
of_same links link k line rest words few of other =
    let same = split_same (decimal k) (decimal link) words rest (number_word k (omega (arith, other.there, few))) (number_word link (omega (arith, of.there, few)))
    (sym other.text ∙ of.text) in
    (decimal_injective k link (omega (arith, other.there, few)) (omega (arith, of.there, few)) same.0, same.1)

first-true : (a b : Bool) → (a && b) ≡ true → a ≡ true
first-true true b e = refl
first-true false b e = absurd (cc)

first_digit : (ds xs : List ℕ) → list_all is_digit ds ≡ true → 0 < length ds → is_digit (get_or (ds ++ xs) 0 0) ≡ true
first_digit [] xs all some = absurd (omega (arith, some))
first_digit (d ∷ ds) xs all some = first-true (is_digit d) (list_all is_digit ds) all

-- The line of a link begins with a digit.
pub begins_digit : (links link : ℕ) (line rest : List ℕ) → links ≤ 16 → OfLink links link line rest → is_digit (get_or line 0 0) ≡ true
begins_digit links link line rest few of =
    subst (λ l. is_digit (get_or l 0 0) ≡ true) (sym of.text)
    (first_digit (decimal link) (32 ∷ rest) (all_digits link (omega (arith, of.there, few))) (decimal_nonempty link (omega (arith, of.there, few))))

-- the words that have no number and no octets
abbrev pub word_in : List ℕ → Option LinkWord
word_in text = find (λ w. bytes_eq (link_text w) text) LINK_WORDS

word_is : (text : List ℕ) (w : LinkWord) → word_in text ≡ Some w → text ≡ link_text w
word_is text w found = sym ((bytes_eq-Decides (link_text w) text).0 (find_passes (λ w. bytes_eq (link_text w) text) LINK_WORDS w found))

word_back : (w : LinkWord) → word_in (link_text w) ≡ Some w
unfolding link_text
word_back word.Begin = refl
word_back word.DialOk = refl
word_back word.DialFail = refl
word_back word.LineEnd = refl
word_back word.LineFail = refl
word_back word.LineLeft = refl
word_back word.SentOk = refl
word_back word.SentFail = refl

no_word : (text : List ℕ) (w : LinkWord) → word_in text ≡ None → link_text w ≡ text → ⊥
no_word text w none is = none-some w (sym none ∙ ap word_in (sym is) ∙ word_back w)

spelled : (links link : ℕ) (line : List ℕ) (w : LinkWord) → OfLink links link line (link_text w) → SpellsStep links (done link w) line
spelled links link line word.Begin of = of
spelled links link line word.DialOk of = of
spelled links link line word.DialFail of = of
spelled links link line word.LineEnd of = of
spelled links link line word.LineFail of = of
spelled links link line word.LineLeft of = of
spelled links link line word.SentOk of = of
spelled links link line word.SentFail of = of

pub word_spells : (links link : ℕ) (line text : List ℕ) (w : LinkWord) → OfLink links link line text → word_in text ≡ Some w → SpellsStep links (done link w) line
word_spells links link line text w of found = spelled links link line w (subst (λ t. OfLink links link line t) (word_is text w found) of)

-- what is no step behind a link's number
pub record NoneBehind (text : List ℕ) : Type 0 where
  pub word : word_in text ≡ None
  pub tick : (ms : ℕ) → ms ≤ 2 ^ 56 → text ≢ codes "tick " ++ decimal ms
  pub signal : (signal : SignalWord) → text ≢ codes "word " ++ signal_text signal
  pub hook : (job : ℕ) (a : ScriptEnd) → IsHook job a → text ≢ hook_text job a
  pub octets : (octets digits : List ℕ) → IsHex 1024 digits octets → text ≢ codes "rx " ++ digits
  pub placed : (session offset : ℕ) (octets digits : List ℕ) → session < 2 ^ 32 → offset < 2 ^ 64 → IsHex 1024 digits octets
      → text ≢ codes "rx " ++ (decimal session ++ 32 ∷ (decimal offset ++ 32 ∷ digits))

not_of_link : (first : ℕ) (links link : ℕ) (line rest : List ℕ) → links ≤ 16 → OfLink links link line rest → get_or line 0 0 ≡ first → is_digit first ≡ false → ⊥
not_of_link first links link line rest few of is none =
    clash (is_digit first) (subst (λ b. is_digit b ≡ true) is (begins_digit links link line rest few of)) none
  where
    clash : (b : Bool) → b ≡ true → b ≡ false → ⊥
    clash true e f = cc
    clash false e f = cc

pub no_link_step : (links link : ℕ) (line text : List ℕ) → links ≤ 16 → OfLink links link line text → NoneBehind text → IsNoFullStep links line
no_link_step links link line text few of none (step.Begin k) s = no_word text word.Begin none.word (of_same links link k line text (link_text word.Begin) few of s).1
no_link_step links link line text few of none (step.DialOk k) s = no_word text word.DialOk none.word (of_same links link k line text (link_text word.DialOk) few of s).1
no_link_step links link line text few of none (step.DialFail k) s = no_word text word.DialFail none.word (of_same links link k line text (link_text word.DialFail) few of s).1
no_link_step links link line text few of none (step.Rx k octets) s = none.octets octets s.0 s.1 (sym (of_same links link k line text (codes "rx " ++ s.0) few of s.2).1)
no_link_step links link line text few of none (step.RxAt k session offset octets) s =
    none.placed session offset octets s.2.0 s.0 s.1 s.2.1 (sym (of_same links link k line text (codes "rx " ++ (decimal session ++ 32 ∷ (decimal offset ++ 32 ∷ s.2.0))) few of s.2.2).1)
no_link_step links link line text few of none (step.LineEnd k) s = no_word text word.LineEnd none.word (of_same links link k line text (link_text word.LineEnd) few of s).1
no_link_step links link line text few of none (step.LineFail k) s = no_word text word.LineFail none.word (of_same links link k line text (link_text word.LineFail) few of s).1
no_link_step links link line text few of none (step.LineLeft k) s = no_word text word.LineLeft none.word (of_same links link k line text (link_text word.LineLeft) few of s).1
no_link_step links link line text few of none (step.SentOk k) s = no_word text word.SentOk none.word (of_same links link k line text (link_text word.SentOk) few of s).1
no_link_step links link line text few of none (step.SentFail k) s = no_word text word.SentFail none.word (of_same links link k line text (link_text word.SentFail) few of s).1
no_link_step links link line text few of none (step.Tick k ms) s = none.tick ms s.0 (sym (of_same links link k line text (codes "tick " ++ decimal ms) few of s.1).1)
no_link_step links link line text few of none (step.TableTick ms) s = not_of_link 116 links link line text few of (ap (λ l. get_or l 0 0) s.1) refl
no_link_step links link line text few of none (step.Word k signal) s = none.signal signal (sym (of_same links link k line text (codes "word " ++ signal_text signal) few of s).1)
no_link_step links link line text few of none (step.Hook k job a) s = none.hook job a s.0 (sym (of_same links link k line text (hook_text job a) few of s.1).1)
no_link_step links link line text few of none (step.UnitHook unit job a) s = not_of_link 117 links link line text few of (ap (λ l. get_or l 0 0) s.2) refl
no_link_step links link line text few of none (step.Packet unit datagram) s = not_of_link 112 links link line text few of (ap (λ l. get_or l 0 0) s.1.2) refl
no_link_step links link line text few of none (step.Carry k) s = not_of_link 99 links link line text few of (ap (λ l. get_or l 0 0) s.2) refl

-- Behind a link's number stands no word, moment, signal or script's end: its step has octets, or it is none.
pub by_octets : (links link : ℕ) (line text : List ℕ) (read : Option WorldStep) → links ≤ 16 → OfLink links link line text → word_in text ≡ None
    → ((ms : ℕ) → ms ≤ 2 ^ 56 → text ≢ codes "tick " ++ decimal ms)
    → ((signal : SignalWord) → text ≢ codes "word " ++ signal_text signal)
    → ((job : ℕ) (a : ScriptEnd) → IsHook job a → text ≢ hook_text job a)
    → MatchOption read
    (((octets digits : List ℕ) → IsHex 1024 digits octets → text ≢ codes "rx " ++ digits)
    × ((session offset : ℕ) (octets digits : List ℕ) → session < 2 ^ 32 → offset < 2 ^ 64 → IsHex 1024 digits octets
    → text ≢ codes "rx " ++ (decimal session ++ 32 ∷ (decimal offset ++ 32 ∷ digits))))
    (λ s. SpellsStep links s line)
    → MatchOption read (IsNoFullStep links line) (λ s. SpellsStep links s line)
by_octets links link line text None few of word tick signal hook octets =
    no_link_step links link line text few of (record { word = word; tick = tick; signal = signal; hook = hook; octets = octets.0; placed = octets.1 })
by_octets links link line text (Some s) few of word tick signal hook spells = spells

-- the link that a line carries
pub carry_cases : (line digits : List ℕ) (links n : ℕ) (read : Option ℕ) → links ≤ 16 → n ≤ links → line ≡ codes "carry " ++ digits → digits ≡ decimal n
    → (IsSome read ↔ ((1 ≤ n) × (n ≤ 16))) → IfSome read (λ k. k ≡ n)
    → MatchOption read ((k : ℕ) → 1 ≤ k → k ≤ links → line ≢ codes "carry " ++ decimal k) (λ k. (1 ≤ k) × (k ≤ links) × (line ≡ codes "carry " ++ decimal k))
carry_cases line digits links n None few low is number valid value = λ k some there e.
    let same : k ≡ n = decimal_injective k n (omega (arith, there, few)) (omega (arith, low, few)) (ap (drop 6) (sym e ∙ is) ∙ number) in
    let has : IsSome {T = ℕ} None = valid.1 (omega (arith, same, some), omega (arith, low, few)) in
    cc
carry_cases line digits links n (Some k) few low is number valid value = (
  omega (arith, value, (valid.0 refl).0),
  omega (arith, value, low),
  is ∙ ap (λ ds. codes "carry " ++ ds) (number ∙ ap decimal (sym value)),
)

-- what is no step
pub record NoneAlone (links : ℕ) (line : List ℕ) : Type 0 where
  pub tick : (ms : ℕ) → ms ≤ 2 ^ 56 → line ≢ codes "tick " ++ decimal ms
  pub hook : (unit job : ℕ) (a : ScriptEnd) → unit ≤ 15 → IsHook job a → line ≢ codes "unit " ++ (decimal unit ++ 32 ∷ hook_text job a)
  pub packet : (unit : ℕ) (datagram digits : List ℕ) → unit ≤ 15 → IsHex 2048 digits datagram → line ≢ codes "packet " ++ (decimal unit ++ 32 ∷ digits)
  pub carry : (k : ℕ) → 1 ≤ k → k ≤ links → line ≢ codes "carry " ++ decimal k

no_step : (links : ℕ) (line : List ℕ) → NoneAlone links line → ((k : ℕ) (rest : List ℕ) → OfLink links k line rest → IsNoFullStep links line) → IsNoFullStep links line
no_step links line none link (step.Begin k) s = link k _ s (step.Begin k) s
no_step links line none link (step.DialOk k) s = link k _ s (step.DialOk k) s
no_step links line none link (step.DialFail k) s = link k _ s (step.DialFail k) s
no_step links line none link (step.Rx k octets) s = link k _ s.2 (step.Rx k octets) s
no_step links line none link (step.RxAt k session offset octets) s = link k _ s.2.2 (step.RxAt k session offset octets) s
no_step links line none link (step.LineEnd k) s = link k _ s (step.LineEnd k) s
no_step links line none link (step.LineFail k) s = link k _ s (step.LineFail k) s
no_step links line none link (step.LineLeft k) s = link k _ s (step.LineLeft k) s
no_step links line none link (step.SentOk k) s = link k _ s (step.SentOk k) s
no_step links line none link (step.SentFail k) s = link k _ s (step.SentFail k) s
no_step links line none link (step.Tick k ms) s = link k _ s.1 (step.Tick k ms) s
no_step links line none link (step.TableTick ms) s = none.tick ms s.0 s.1
no_step links line none link (step.Word k signal) s = link k _ s (step.Word k signal) s
no_step links line none link (step.Hook k job a) s = link k _ s.1 (step.Hook k job a) s
no_step links line none link (step.UnitHook unit job a) s = none.hook unit job a s.0 s.1 s.2
no_step links line none link (step.Packet unit datagram) s = none.packet unit datagram s.1.0 s.0 s.1.1 s.1.2
no_step links line none link (step.Carry k) s = none.carry k s.0 s.1 s.2

-- The line is the step of a link, or none.
pub by_link : (links : ℕ) (line : List ℕ) (read : Option WorldStep)
    → ((ms : ℕ) → ms ≤ 2 ^ 56 → line ≢ codes "tick " ++ decimal ms)
    → ((unit job : ℕ) (a : ScriptEnd) → unit ≤ 15 → IsHook job a → line ≢ codes "unit " ++ (decimal unit ++ 32 ∷ hook_text job a))
    → ((unit : ℕ) (datagram digits : List ℕ) → unit ≤ 15 → IsHex 2048 digits datagram → line ≢ codes "packet " ++ (decimal unit ++ 32 ∷ digits))
    → ((k : ℕ) → 1 ≤ k → k ≤ links → line ≢ codes "carry " ++ decimal k)
    → MatchOption read ((k : ℕ) (rest : List ℕ) → OfLink links k line rest → IsNoFullStep links line) (λ s. SpellsStep links s line)
    → MatchOption read (IsNoFullStep links line) (λ s. SpellsStep links s line)
by_link links line None tick hook packet carry link = no_step links line (record { tick = tick; hook = hook; packet = packet; carry = carry }) link
by_link links line (Some s) tick hook packet carry spells = spells

-- the step behind the number of a link
pub any_link : (links : ℕ) (line : List ℕ) (read : Option WorldStep) → MatchOption read (IsNoFullStep links line) (λ s. SpellsStep links s line)
    → MatchOption read ((k : ℕ) (rest : List ℕ) → OfLink links k line rest → IsNoFullStep links line) (λ s. SpellsStep links s line)
any_link links line None none = λ k rest of. none
any_link links line (Some s) spells = spells
