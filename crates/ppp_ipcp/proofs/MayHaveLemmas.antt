-- The judgement of an address is by what is so of it.
use Rattle.std.proofs.Common.{◌≡◌, ℕ, Bool, true, false, cond, Option, Some, None, List, refl, ap, sym, ◌∙◌, subst}
use Rattle.std.specs.Prelude.{◌≢◌, ◌==◌, not, ◌&&◌, ◌||◌, length}
use Rattle.std.specs.Cmp.Lexicographic.{same_text, other_text}
use Rattle.std.proofs.lemmas.Bool.{eqb-true}
use Rattle.std.specs.Int.{from_be_bytes, w32}
use Rattle.ppp_base.specs.declared.allow.Allow.{Allow}
use Rattle.ppp_packet.specs.OptionsOf.{Item}
use Rattle.ppp_secrets.specs.declared.secrets.SecretsPair.{SecretsPair}
use Rattle.ppp_secrets.specs.Allows.{pair_allows}
use Rattle.ppp_control.specs.Answers.{acks, names, rejects}
use Rattle.ppp_ipcp.specs.declared.wish.IpWish.{IpWish}
use Rattle.ppp_ipcp.specs.Address.{no_address, same_address, address_in, address_of, is_wished, may_have, wished_or_none, judged_as, judged_where}
use Rattle.ppp_ipcp.specs.MayHave.{MayHave, IsAddress}

pub clash : {A : Type 0} → false ≡ true → A
clash e = absurd (let x : false ≡ true = e in cc)

both_true : (a b : Bool) → (a && b) ≡ true → (a ≡ true) × (b ≡ true)
both_true true b e = (refl, e)
both_true false b e = clash e

and_true : (a b : Bool) → a ≡ true → b ≡ true → (a && b) ≡ true
and_true true b e f = f
and_true false b e f = clash e

-- two addresses that are the same, and two that aren't
same_true : (a b : List ℕ) → a ≡ b → same_address a b ≡ true
same_true a b e = by (same_address a b) refl
  where
    by : (t : Bool) → same_address a b ≡ t → same_address a b ≡ true
    by true f = f
    by false f = absurd (other_text a b (sym f) e)

not_same : (a b : List ℕ) → not (same_address a b) ≡ true → a ≢ b
not_same a b e f = clash (ap not (sym (same_true a b f)) ∙ e)

differ : (a b : List ℕ) → a ≢ b → not (same_address a b) ≡ true
differ a b n = by (same_address a b) refl
  where
    by : (t : Bool) → same_address a b ≡ t → not (same_address a b) ≡ true
    by true f = absurd (n (same_text a b (sym f)))
    by false f = ap not f

wished_is : (remote : Option (List ℕ)) (any : Bool) (address : List ℕ) → is_wished remote any address ≡ true → (other : List ℕ) → remote ≡ Some other → any ≡ false → address ≡ other
wished_is None any address e other f g = absurd (let x : None ≡ Some other = f in cc)
wished_is (Some wished) any address e other f g = by (same_address address wished) any refl e g ∙ (let x : Some wished ≡ Some other = f in some_same wished other x)
  where
    some_same : (x y : List ℕ) → Some x ≡ Some y → x ≡ y
    some_same x y e = cc

    by : (t any : Bool) → same_address address wished ≡ t → (t || any) ≡ true → any ≡ false → address ≡ wished
    by true any f e g = same_text address wished (sym f)
    by false any f e g = clash (sym g ∙ e)

is_wished_by : (remote : Option (List ℕ)) (any : Bool) (address : List ℕ) → ((other : List ℕ) → remote ≡ Some other → any ≡ false → address ≡ other) → is_wished remote any address ≡ true
is_wished_by None any address h = refl
is_wished_by (Some wished) true address h = or_true (same_address address wished)
  where
    or_true : (b : Bool) → (b || true) ≡ true
    or_true true = refl
    or_true false = refl
is_wished_by (Some wished) false address h = ap (λ b. b || false) (same_true address wished (h wished refl refl))

pub may_so : (wish : IpWish) (allow : Allow) (secrets : SecretsPair) (address : List ℕ) → may_have wish allow secrets address ≡ true → MayHave wish allow secrets address
may_so wish allow secrets address e =
    let line : Bool = pair_allows secrets.pap secrets.chap allow (from_be_bytes w32 address) in
    let one = both_true (not (same_address address no_address) && line) (is_wished wish.remote wish.accept_remote address) e in
    let two = both_true (not (same_address address no_address)) line one.0 in
    record { some = not_same address no_address two.0; allowed = two.1; wished = wished_is wish.remote wish.accept_remote address one.1 }

pub so_may : (wish : IpWish) (allow : Allow) (secrets : SecretsPair) (address : List ℕ) → MayHave wish allow secrets address → may_have wish allow secrets address ≡ true
so_may wish allow secrets address h =
    let line : Bool = pair_allows secrets.pap secrets.chap allow (from_be_bytes w32 address) in
    and_true (not (same_address address no_address) && line) (is_wished wish.remote wish.accept_remote address)
    (and_true (not (same_address address no_address)) line (differ address no_address h.some) h.allowed)
    (is_wished_by wish.remote wish.accept_remote address h.wished)

-- an option that has an address
pub address_is : (i : Item) (address : List ℕ) → address_of i ≡ Some address → IsAddress i × (i.body ≡ address)
address_is i address e = by_kind (i.kind == 3) refl e
  where
    some_same : (x y : List ℕ) → Some x ≡ Some y → x ≡ y
    some_same x y e = cc

    by_size : (b : Bool) → (length i.body == 4) ≡ b → cond b (Some i.body) None ≡ Some address → (length i.body ≡ 4) × (i.body ≡ address)
    by_size true f e = (eqb-true _ _ f, some_same _ _ e)
    by_size false f e = absurd (let x : None ≡ Some address = e in cc)

    by_kind : (b : Bool) → (i.kind == 3) ≡ b → cond b (address_in i.body) None ≡ Some address → IsAddress i × (i.body ≡ address)
    by_kind true f e = let size = by_size (length i.body == 4) refl e in (record { kind = eqb-true _ _ f; size = size.0 }, size.1)
    by_kind false f e = absurd (let x : None ≡ Some address = e in cc)

pub is_address : (i : Item) → IsAddress i → address_of i ≡ Some i.body
is_address i h = ap (λ k. cond (k == 3) (address_in i.body) None) h.kind ∙ ap (λ (n : ℕ). cond (n == 4) (Some i.body) None) h.size

-- what is acknowledged, and what is named
by_test : (b : Bool) (remote : Option (List ℕ)) → cond b acks (wished_or_none remote) ≡ acks → b ≡ true
by_test true remote e = refl
by_test false None e = absurd (let x : rejects ≡ acks = e in cc)
by_test false (Some wished) e = absurd (let x : names wished ≡ acks = e in cc)

pub acked_may : (wish : IpWish) (allow : Allow) (secrets : SecretsPair) (i : Item) → judged_where wish allow secrets i ≡ acks → IsAddress i × MayHave wish allow secrets i.body
acked_may wish allow secrets i e = by (address_of i) refl e
  where
    by : (found : Option (List ℕ)) → address_of i ≡ found → judged_as wish allow secrets found ≡ acks → IsAddress i × MayHave wish allow secrets i.body
    by None f e = absurd (let x : rejects ≡ acks = e in cc)
    by (Some address) f e =
        let is = address_is i address f in
        (is.0, subst (λ x. MayHave wish allow secrets x) (sym is.1) (may_so wish allow secrets address (by_test (may_have wish allow secrets address) wish.remote e)))

pub may_acked : (wish : IpWish) (allow : Allow) (secrets : SecretsPair) (i : Item) → IsAddress i → MayHave wish allow secrets i.body → judged_where wish allow secrets i ≡ acks
may_acked wish allow secrets i is may =
    ap (λ found. judged_as wish allow secrets found) (is_address i is) ∙ ap (λ b. cond b acks (wished_or_none wish.remote)) (so_may wish allow secrets i.body may)

names_only : (b : Bool) (remote : Option (List ℕ)) (address : List ℕ) → cond b acks (wished_or_none remote) ≡ names address → (b ≡ false) × (remote ≡ Some address)
names_only true remote address e = absurd (let x : acks ≡ names address = e in cc)
names_only false None address e = absurd (let x : rejects ≡ names address = e in cc)
names_only false (Some wished) address e = (refl, (let x : names wished ≡ names address = e in ap Some (named_same wished address x)))
  where
    named_same : (x y : List ℕ) → names x ≡ names y → x ≡ y
    named_same x y e = cc

pub named_may : (wish : IpWish) (allow : Allow) (secrets : SecretsPair) (i : Item) (address : List ℕ) → judged_where wish allow secrets i ≡ names address
    → IsAddress i × (MayHave wish allow secrets i.body → ⊥) × (wish.remote ≡ Some address)
named_may wish allow secrets i address e = by (address_of i) refl e
  where
    by : (found : Option (List ℕ)) → address_of i ≡ found → judged_as wish allow secrets found ≡ names address → IsAddress i × (MayHave wish allow secrets i.body → ⊥) × (wish.remote ≡ Some address)
    by None f e = absurd (let x : rejects ≡ names address = e in cc)
    by (Some own) f e =
        let is = address_is i own f in
        let only = names_only (may_have wish allow secrets own) wish.remote address e in
        (is.0, (λ may. clash (sym only.0 ∙ so_may wish allow secrets own (subst (λ x. MayHave wish allow secrets x) is.1 may))), only.1)

pub may_named : (wish : IpWish) (allow : Allow) (secrets : SecretsPair) (i : Item) (address : List ℕ) → IsAddress i → (MayHave wish allow secrets i.body → ⊥) → wish.remote ≡ Some address
    → judged_where wish allow secrets i ≡ names address
may_named wish allow secrets i address is refuse remote =
    ap (λ found. judged_as wish allow secrets found) (is_address i is)
    ∙ ap (λ b. cond b acks (wished_or_none wish.remote)) (refused (may_have wish allow secrets i.body) refl)
    ∙ ap wished_or_none remote
  where
    refused : (b : Bool) → may_have wish allow secrets i.body ≡ b → may_have wish allow secrets i.body ≡ false
    refused true e = absurd (refuse (may_so wish allow secrets i.body e))
    refused false e = e
