-- What options ask of LCP is one wish.
use Rattle.std.proofs.Common.{◌≡◌, ◌<◌, ℕ, ap, sym, subst, ◌∙◌}
use Rattle.std.specs.Coded.{le_prop}
use Rattle.ppp_fsm.specs.declared.fsm.Limits.{Limits}
use Rattle.ppp_lcp.specs.declared.wish.LcpWish.{LcpWish}
use Rattle.ppp_option_words.specs.LinkValues.{LinkValues}
use Rattle.ppp_link_rules.specs.Wishes.{IsWish, lcp_wish}

abbrev limits_of : (m n : ℕ) → 0 < m → 0 < n → Limits
limits_of m n p q = record { configure = m; terminate = n; configures = p; terminates = q }

-- that both numbers are above 0 is so in one way alone
same_numbers : (m n : ℕ) (p p' : 0 < m) (q q' : 0 < n) → limits_of m n p q ≡ limits_of m n p' q'
same_numbers m n p p' q q' = ap (λ x. limits_of m n x q) (le_prop p p') ∙ ap (λ x. limits_of m n p' x) (le_prop q q')

same_terminate : (m n n' : ℕ) (p p' : 0 < m) (q : 0 < n) → n ≡ n' → (q' : 0 < n') → limits_of m n p q ≡ limits_of m n' p' q'
same_terminate m n n' p p' q e = subst (λ x. (q' : 0 < x) → limits_of m n p q ≡ limits_of m x p' q') e (λ q'. same_numbers m n p p' q q')

same_both : (m m' n n' : ℕ) (p : 0 < m) (q : 0 < n) → m ≡ m' → n ≡ n' → (p' : 0 < m') (q' : 0 < n') → limits_of m n p q ≡ limits_of m' n' p' q'
same_both m m' n n' p q e f = subst (λ x. (p' : 0 < x) (q' : 0 < n') → limits_of m n p q ≡ limits_of x n' p' q') e (λ p' q'. same_terminate m n n' p p' q f q')

limits_equal : (a b : Limits) → a.configure ≡ b.configure → a.terminate ≡ b.terminate → a ≡ b
limits_equal a b e f = same_both a.configure b.configure a.terminate b.terminate a.configures a.terminates e f b.configures b.terminates

pub wishes_equal : {c : LinkValues} {a b : LcpWish} → IsWish c a → IsWish c b → a ≡ b
wishes_equal {c = c} {a = a} {b = b} x y =
    x.all
    ∙ ap (λ l. lcp_wish l c) (limits_equal a.limits b.limits (x.configure ∙ sym y.configure) (x.terminate ∙ sym y.terminate))
    ∙ sym y.all
