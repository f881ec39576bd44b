-- How much of a text a sink takes whose first answer was set.
use Rattle.std.proofs.Common.{◌≡◌, ℕ, ◌+◌, ◌<◌, ◌≤◌, List, [], ◌∷◌, length, Option, Some, None, IfSome, ◌⊎◌, inl, inr, true, false, ◌∙◌, sym, subst, refl, arith}
use Rattle.ppp_outside.specs.Sink.{AnswersAs, takes_text}
use Rattle.ppp_outside.specs.declared.sink.SinkNext.{SinkNext}
use Rattle.ppp_outside.specs.declared.sink.SinkNext.TheVariants.{Takes, Fails}
use Rattle.ppp_outside.specs.declared.sink.Took.{Took}
use Rattle.ppp_outside.specs.declared.sink.Took.TheVariants as took

-- So many octets of so many were taken: none or all of them, and none where a fault was set.
abbrev pub TakenAsSet : SinkNext → ℕ → ℕ → Type 0
TakenAsSet Takes at all = (at ≡ 0) ⊎ (at ≡ all)
TakenAsSet Fails at all = at ≡ 0

pub none_taken : (set : Option SinkNext) (all : ℕ) → IfSome set (λ s. TakenAsSet s 0 all)
none_taken None all = tt
none_taken (Some Takes) all = inl refl
none_taken (Some Fails) all = refl

is_none_or_all : (set : SinkNext) (at all : ℕ) → TakenAsSet set at all → at < all → at ≡ 0
is_none_or_all Takes at all (inl none) less = none
is_none_or_all Takes at all (inr whole) less = absurd (omega arith)
is_none_or_all Fails at all none less = none

took_count : (n m : ℕ) → took.Took n ≡ took.Took m → n ≡ m
took_count n m same = cc

took_is_not_failed : (n : ℕ) → took.Took n ≡ took.Failed → ⊥
took_is_not_failed n same = cc

-- where the answer was set, nothing was taken before, so the sink still answers what was set
still_set : (coming initial : Option SinkNext) (answer : Took) (piece : List ℕ) (set : SinkNext) → coming ≡ initial → initial ≡ Some set → IfSome coming (λ s. AnswersAs s answer piece) → AnswersAs set answer piece
still_set coming initial answer piece set same is told =
    let family : Option SinkNext → Type 0 = λ known. IfSome known (λ s. AnswersAs s answer piece) in
    subst family (same ∙ is) told

pub after_took : (coming initial : Option SinkNext) (at all n : ℕ) (piece : List ℕ) → (at ≡ 0 → coming ≡ initial) → IfSome initial (λ s. TakenAsSet s at all) → at < all → all ≡ at + length piece → IfSome coming (λ s. AnswersAs s (took.Took n) piece) → IfSome initial (λ s. TakenAsSet s (at + n) all)
after_took coming None at all n piece untouched so_far less rest told = tt
after_took coming (Some Takes) at all n piece untouched so_far less rest told =
    let none : at ≡ 0 = is_none_or_all Takes at all so_far less in
    let whole : n ≡ length piece = took_count n (length piece) (still_set coming (Some Takes) (took.Took n) piece Takes (untouched none) refl told) in
    inr (omega arith)
after_took coming (Some Fails) at all n piece untouched so_far less rest told =
    let wrong : took.Took n ≡ took.Failed = still_set coming (Some Fails) (took.Took n) piece Fails (untouched so_far) refl told in
    absurd (took_is_not_failed n wrong)

pub after_failed : (coming initial : Option SinkNext) (at : ℕ) (text piece : List ℕ) → (at ≡ 0 → coming ≡ initial) → IfSome initial (λ s. TakenAsSet s at (length text)) → at < length text → IfSome coming (λ s. AnswersAs s took.Failed piece) → IfSome initial (λ s. false ≡ takes_text s text)
after_failed coming None at text piece untouched so_far less told = tt
after_failed coming (Some Takes) at text piece untouched so_far less told =
    let none : at ≡ 0 = is_none_or_all Takes at (length text) so_far less in
    let wrong : took.Failed ≡ took.Took (length piece) = still_set coming (Some Takes) took.Failed piece Takes (untouched none) refl told in
    absurd (took_is_not_failed (length piece) (sym wrong))
after_failed coming (Some Fails) at [] piece untouched so_far less told = absurd (omega arith)
after_failed coming (Some Fails) at (octet ∷ rest) piece untouched so_far less told = refl

pub at_end : (initial : Option SinkNext) (at : ℕ) (text : List ℕ) → IfSome initial (λ s. TakenAsSet s at (length text)) → length text ≤ at → IfSome initial (λ s. true ≡ takes_text s text)
at_end None at text so_far end = tt
at_end (Some Takes) at text so_far end = refl
at_end (Some Fails) at [] so_far end = refl
at_end (Some Fails) at (octet ∷ rest) so_far end =
    let none : at ≡ 0 = so_far in
    absurd (omega arith)
