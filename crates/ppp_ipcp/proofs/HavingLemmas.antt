-- In Opened the peer has an address that it may have, because no other is acknowledged.
use Rattle.std.proofs.Common.{◌≡◌, inl, inr, ℕ, Bool, true, false, cond, Option, Some, None, List, [], ◌∷◌, refl, ap, sym, subst}
use Rattle.std.specs.Prelude.{◌==◌, length, option_map}
use Rattle.std.specs.Option.{unwrap_or}
use Rattle.ppp_base.specs.declared.allow.Allow.{Allow}
use Rattle.ppp_packet.specs.OptionsOf.{Item}
use Rattle.ppp_secrets.specs.declared.secrets.SecretsPair.{SecretsPair}
use Rattle.ppp_control.specs.Answers.{Judgement, acks, names, rejects, is_rejected, is_named, rejected, named}
use Rattle.ppp_control.specs.Changes.{last_from, last_body}
use Rattle.ppp_control.specs.Past.{Happened, Agreement, is_open_after, sent_in, last_of, last_acked, options_in}
use Rattle.ppp_control.specs.Rules.{Rules, Call, by_itself, ticks, hears, rejects as Rejecting, happened_in, changes_in, aside, IsLawful, AllLawful}
use Rattle.ppp_control.proofs.AckSentLemmas.{AllCarry, ack_fits}
use Rattle.ppp_ipcp.specs.declared.addresses.Addresses.{Addresses}
use Rattle.ppp_ipcp.specs.declared.wish.IpWish.{IpWish}
use Rattle.ppp_ipcp.specs.Address.{judged_where}
use Rattle.ppp_ipcp.specs.Agreed.{address_or, wished_remote, agreed_by}
use Rattle.ppp_ipcp.specs.Around.{Around}
use Rattle.ppp_ipcp.specs.MayHave.{MayHave, IsWith, AllWith, HasWhatItMay}
use Rattle.ppp_ipcp.specs.Ours.{our_local}
use Rattle.ppp_ipcp.specs.Session.{IpcpCall, ip_rules, agreed_after}
use Rattle.ppp_ipcp.proofs.MayHaveLemmas.{clash, acked_may}

-- the rules, where each option is judged by these secrets and this line
abbrev by_line : IpWish → Allow → SecretsPair → Rules Around
by_line wish allow secrets = record (ip_rules wish) { judges = λ past a. judged_where wish allow secrets }

one_call : (wish : IpWish) (allow : Allow) (secrets : SecretsPair) (past : List IpcpCall) (call : Call Around) (h : Happened)
    → IsLawful (ip_rules wish) (record { call = call; happened = h }) past → IsWith allow secrets call → IsLawful (by_line wish allow secrets) (record { call = call; happened = h }) past
one_call wish allow secrets past (by_itself own) h lawful is = record { event = lawful.event; acts = lawful.acts; packets = lawful.packets }
one_call wish allow secrets past ticks h lawful is = record { event = lawful.event; acts = lawful.acts; packets = lawful.packets }
one_call wish allow secrets past (hears p a) h lawful is =
    subst (λ (x : Allow). IsLawful (by_line wish x secrets) (record { call = hears p a; happened = h }) past) is.0
    (subst (λ (x : SecretsPair). IsLawful (by_line wish a.allow x) (record { call = hears p a; happened = h }) past) is.1
    (record { event = lawful.event; acts = lawful.acts; packets = lawful.packets }))
one_call wish allow secrets past (Rejecting protocol information) h lawful is = record { event = lawful.event; acts = lawful.acts; packets = lawful.packets }

all_calls : (wish : IpWish) (allow : Allow) (secrets : SecretsPair) (past : List IpcpCall) → AllLawful (ip_rules wish) past → AllWith allow secrets past → AllLawful (by_line wish allow secrets) past
all_calls wish allow secrets [] all is = tt
all_calls wish allow secrets (c ∷ past) all is = (one_call wish allow secrets past c.call c.happened all.0 is.0, all_calls wish allow secrets past all.1 is.1)

-- an item that is neither rejected nor named
neither : (judge : Item → Judgement) (i : Item) (items : List Item) → rejected judge (i ∷ items) ≡ [] → named judge (i ∷ items) ≡ []
    → (judge i ≡ acks) × (rejected judge items ≡ []) × (named judge items ≡ [])
neither judge i items e f =
    let one = kept (is_rejected (judge i)) i (rejected judge items) e in
    let two = kept (is_named (judge i)) i (named judge items) f in
    (left (judge i) one.0 two.0, one.1, two.1)
  where
    kept : (b : Bool) (i : Item) (rest : List Item) → cond b (i ∷ rest) rest ≡ [] → (b ≡ false) × (rest ≡ [])
    kept true i rest e = absurd (let x : i ∷ rest ≡ [] = e in cc)
    kept false i rest e = (refl, e)

    left : (j : Judgement) → is_rejected j ≡ false → is_named j ≡ false → j ≡ acks
    left acks e f = refl
    left (names value) e f = clash (sym f)
    left rejects e f = clash (sym e)

-- an address of four octets that the peer may have, or none
abbrev FitsOne : IpWish → Allow → SecretsPair → Option (List ℕ) → Type 0
FitsOne wish allow secrets found = (body : List ℕ) → found ≡ Some body → (length body ≡ 4) × MayHave wish allow secrets body

fits_from : (wish : IpWish) (allow : Allow) (secrets : SecretsPair) (items : List Item) (found : Option (List ℕ))
    → rejected (judged_where wish allow secrets) items ≡ [] → named (judged_where wish allow secrets) items ≡ [] → FitsOne wish allow secrets found → FitsOne wish allow secrets (last_from found 3 items)
fits_from wish allow secrets [] found e f h = h
fits_from wish allow secrets (i ∷ items) found e f h =
    let n = neither (judged_where wish allow secrets) i items e f in
    fits_from wish allow secrets items (cond (i.kind == 3) (Some i.body) found) n.1 n.2 (one (i.kind == 3) n.0)
  where
    some_same : (x y : List ℕ) → Some x ≡ Some y → x ≡ y
    some_same x y e = cc

    one : (b : Bool) → judged_where wish allow secrets i ≡ acks → FitsOne wish allow secrets (cond b (Some i.body) found)
    one true k body g =
        let may = acked_may wish allow secrets i k in
        subst (λ x. (length x ≡ 4) × MayHave wish allow secrets x) (some_same i.body body g) (may.0.size, may.1)
    one false k body g = h body g

-- IPCP sends nothing beside events
quiet : (wish : IpWish) (allow : Allow) (secrets : SecretsPair) (past : List IpcpCall) (now : ℕ) (call : Call Around)
    → AllCarry (λ items. FitsOne wish allow secrets (last_body 3 items)) (aside (by_line wish allow secrets) past now call)
quiet wish allow secrets past now (by_itself own) = tt
quiet wish allow secrets past now ticks = tt
quiet wish allow secrets past now (hears p a) = tt
quiet wish allow secrets past now (Rejecting protocol information) = tt

acked_fits : (wish : IpWish) (allow : Allow) (secrets : SecretsPair) (past : List IpcpCall) → AllLawful (ip_rules wish) past → AllWith allow secrets past
    → FitsOne wish allow secrets (last_body 3 (options_in (last_of 2 (sent_in (happened_in past)))))
acked_fits wish allow secrets past all is =
    ack_fits (by_line wish allow secrets) (λ items. FitsOne wish allow secrets (last_body 3 items))
    (λ past a items e f. fits_from wish allow secrets items None e f (λ body g. absurd (let x : None ≡ Some body = g in cc)))
    (λ body g. absurd (let x : None ≡ Some body = g in cc))
    (quiet wish allow secrets) past (all_calls wish allow secrets past all is)

by_found : (wish : IpWish) (allow : Allow) (secrets : SecretsPair) (found : Option (List ℕ)) → FitsOne wish allow secrets found → HasWhatItMay wish allow secrets (address_or found (wished_remote wish))
by_found wish allow secrets None h = inr refl
by_found wish allow secrets (Some body) h =
    let fits = h body refl in
    inl (subst (λ x. MayHave wish allow secrets x) (sym (ap (λ (n : ℕ). unwrap_or (cond (n == 4) (Some body) None) (wished_remote wish)) fits.0)) fits.1)

abbrev two : List Item → List Item → Agreement
two ours theirs = record { ours = ours; theirs = theirs }

by_state : (opened : Bool) (wish : IpWish) (allow : Allow) (secrets : SecretsPair) (local : List ℕ) (ours theirs : List Item) (both : Addresses) → FitsOne wish allow secrets (last_body 3 theirs)
    → option_map (λ (x : Agreement). agreed_by wish local x.ours x.theirs) (cond opened (Some (two ours theirs)) None) ≡ Some both → HasWhatItMay wish allow secrets both.remote
by_state true wish allow secrets local ours theirs both h e =
    subst (λ (x : Addresses). HasWhatItMay wish allow secrets x.remote) (some_same _ _ e) (by_found wish allow secrets (last_body 3 theirs) h)
  where
    some_same : (x y : Addresses) → Some x ≡ Some y → x ≡ y
    some_same x y e = cc
by_state false wish allow secrets local ours theirs both h e = absurd (let x : None ≡ Some both = e in cc)

pub has_what_it_may : (wish : IpWish) (allow : Allow) (secrets : SecretsPair) (past : List IpcpCall) (both : Addresses) → AllLawful (ip_rules wish) past → AllWith allow secrets past
    → agreed_after wish past ≡ Some both → HasWhatItMay wish allow secrets both.remote
has_what_it_may wish allow secrets past both all is e =
    by_state (is_open_after wish.limits (happened_in past)) wish allow secrets (our_local wish (changes_in false past)) (options_in (last_acked (happened_in past))) _ both (acked_fits wish allow secrets past all is) e
