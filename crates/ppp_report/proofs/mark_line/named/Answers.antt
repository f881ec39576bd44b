use Rattle.std.proofs.Common.{◌≡◌, ◌≢◌, ◌<◌, ◌≤◌, ◌+◌, ℕ, true, List, ◌∷◌, ◌++◌, length, get_or, take, drop, ap, subst, ◌∙◌, arith, length-append}
use Rattle.std.proofs.Math.Seq.{drop-append-add, take-append_seam}
use Rattle.ppp_mark.specs.Table.{is_kind, name_of}
use Rattle.ppp_mark.proofs.LinesLemmas.{place_is, rest_is}
use Rattle.ppp_report.specs.Report.{target_of}
use Rattle.ppp_report.proofs.KindLemmas.{name_no_space, stands_is_kind}
use Rattle.ppp_report.proofs.mark_line.named.Goals as goal

-- where the name ends
name_end : (text rest : List ℕ) (k at : ℕ) → is_kind k ≡ true → text ≡ name_of k ++ 32 ∷ rest → at ≤ length text
    → ((i : ℕ) → i < at → get_or text i 0 ≢ 32) → (at < length text → get_or text at 0 ≡ 32) → at ≡ length (name_of k)
name_end text rest k at kind is within none found =
    place_is 32 (name_of k) rest at (name_no_space k kind)
    (subst (λ ws. (i : ℕ) → i < at → get_or ws i 0 ≢ 32) is none)
    (subst (λ ws. at ≤ length ws) is within)
    (subst (λ ws. at < length ws → get_or ws at 0 ≡ 32) is found)

front : (text rest : List ℕ) (k at : ℕ) → text ≡ name_of k ++ 32 ∷ rest → at ≡ length (name_of k) → take at text ≡ name_of k
front text rest k at is place = ap (λ ws. take at ws) is ∙ ap (λ i. take i (name_of k ++ 32 ∷ rest)) place ∙ take-append_seam (name_of k) (32 ∷ rest)

behind : (text rest : List ℕ) (k at : ℕ) → text ≡ name_of k ++ 32 ∷ rest → at ≡ length (name_of k) → drop (at + 1) text ≡ rest
behind text rest k at is place = ap (λ ws. drop (at + 1) ws) is ∙ ap (λ i. drop (i + 1) (name_of k ++ 32 ∷ rest)) place ∙ drop-append-add (name_of k) (32 ∷ rest) 1

pub returns-then-end-text-clause-found : goal.returns-then-end-text-clause-found
returns-then-end-text-clause-found c = λ k rest stands is.
    let p = c.place-end in
    let end = name_end c.args.text.now rest k p.result (stands_is_kind (target_of c.args.of.now) k stands) is p.ensures.within p.ensures.none p.ensures.found in
    let all : p.result ≡ length c.args.text.now = omega arith in
    omega (arith, end, all, ap length is, length-append (name_of k) (32 ∷ rest))

pub returns-in_default-clause-found : goal.returns-in_default-clause-found
returns-in_default-clause-found c = λ k rest stands is.
    let p = c.place-end in
    let end = name_end c.args.text.now rest k p.result (stands_is_kind (target_of c.args.of.now) k stands) is p.ensures.within p.ensures.none p.ensures.found in
    c.in_default.ensures.found k stands (front c.args.text.now rest k p.result is end)

pub returns-clause-found : goal.returns-clause-found
returns-clause-found c = λ k rest stands is.
    let p = c.place-end in
    let end = name_end c.args.text.now rest k p.result (stands_is_kind (target_of c.args.of.now) k stands) is p.ensures.within p.ensures.none p.ensures.found in (
      c.in-Some.ensures.found k stands (front c.args.text.now rest k p.result is end),
      rest_is (p.result + 1) c.args.text.now ∙ behind c.args.text.now rest k p.result is end,
    )
