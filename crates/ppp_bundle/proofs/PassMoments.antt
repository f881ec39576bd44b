-- A step at which a datagram is to go to the peer.
use Rattle.std.proofs.Common.{◌≡◌, inl, ℕ, Bool, true, false, Option, None, Some, List, [], ◌∷◌, ◌++◌, length, refl, ap, sym, subst, ◌∙◌, append-nil}
use Rattle.std.specs.Prelude.{◌==◌, ◌&&◌, nat_le, option_to_list, if◌then◌else◌}
use Rattle.ppp_base.specs.Mrru.{MrruPair}
use Rattle.ppp_base.specs.declared.posts.CloseCause.TheVariants.{Idle}
use Rattle.ppp_base.specs.declared.protocol.TheConstants.{IP}
use Rattle.ppp_mp.specs.StandsFor.{GatherNow}
use Rattle.ppp_mp.specs.Schedule.{SendingNow}
use Rattle.ppp_mp.specs.declared.members.MemberView.{MemberView}
use Rattle.ppp_secrets.specs.declared.secrets.SecretsPair.{SecretsPair}
use Rattle.ppp_unit_parts.specs.declared.live.Live.{Live}
use Rattle.ppp_unit_parts.specs.declared.member.Member.{Member}
use Rattle.ppp_unit_parts.specs.declared.outbox.Sending.{Sending}
use Rattle.ppp_unit_parts.specs.declared.outbox.UnitCounts.{UnitCounts}
use Rattle.ppp_bundle.specs.Frames.{Inner, carried, inner, not_open, too_big, with_pass}
use Rattle.ppp_bundle.specs.History.{Moment, Carries, Drop, Terms, NotOpen, TooBig, asked_in, calls_in, counted, entered_in, is_up_in, most_by, most_in, passed_in, time_in, sends_by}
use Rattle.ppp_bundle.specs.Lives.{CutsAll, GathersAll, HasMember, Reached}
use Rattle.ppp_unit_parts.specs.Member.{views_of}
use Rattle.ppp_bundle.specs.Sends.{sends}
use Rattle.ppp_bundle.specs.State.{UnitState}
use Rattle.ppp_unit_parts.specs.Live.{is_up, most_of, most_to_peer, mru_of_first}
use Rattle.ppp_bundle.proofs.CallMoments.{up_is, reached_sends}
use Rattle.ppp_bundle.proofs.MidMoments.{Calm, Mid, fresh_calm, flows_quiet, flows_start, flows_then, nothing_of}
use Rattle.ppp_bundle.proofs.StepMoments.{Does, does_of}
use Rattle.ppp_bundle.proofs.PieceMoments.{all_left_by, all_out, cuts_then}
use Rattle.ppp_unit_parts.specs.Pieces.{left_by_sending, sent_as}
use Rattle.ppp_bundle.proofs.CallFacts.{one_left}

abbrev head_mru : List MemberView → ℕ
head_mru [] = 0
head_mru (v ∷ views) = v.mru

first_mru_is : (members : List Member) (entered : Option MemberView) → views_of members ≡ option_to_list entered → mru_of_first members ≡ most_by None entered
first_mru_is [] None g = refl
first_mru_is [] (Some v) g = absurd (let h : [] ≡ v ∷ [] = g in cc)
first_mru_is (m ∷ members) None g = absurd (let h : record { link = m.link; mru = m.mru } ∷ views_of members ≡ [] = g in cc)
first_mru_is (m ∷ members) (Some v) g = ap head_mru g

most_by_is : (m : Option MrruPair) (members : List Member) (past : List Moment) → HasMember m members past → most_of m members ≡ most_by m (entered_in past)
most_by_is None members past h = first_mru_is members (entered_in past) h
most_by_is (Some mrru) members past h = refl

pub most_is : (terms : Terms) (past : List Moment) (time : ℕ) (gather : GatherNow) (left : List (List ℕ)) (l : Live) → Reached terms time gather l past left → most_to_peer l ≡ most_in terms past
most_is terms past time gather left l r = ap (λ (m : Option MrruPair). most_of m l.members) r.mrru ∙ most_by_is terms.mrru l.members past r.some

-- A DATAGRAM FOR THE PEER

gathers_carries : (m : Option MrruPair) (gather : GatherNow) (datagram : List ℕ) (past : List Moment) (left : List (List ℕ)) → GathersAll m gather past left → GathersAll m gather (Carries datagram ∷ past) left
gathers_carries None gather datagram past left g = g
gathers_carries (Some mrru) gather datagram past left g = g

some_carries : (m : Option MrruPair) (members : List Member) (datagram : List ℕ) (past : List Moment) → HasMember m members past → HasMember m members (Carries datagram ∷ past)
some_carries None members datagram past h = h
some_carries (Some mrru) members datagram past h = h

reached_carries : (terms : Terms) (past : List Moment) (time : ℕ) (gather : GatherNow) (l : Live) (datagram : List ℕ) (at : ℕ) (packets : List Inner) → Reached terms time gather l past [] → asked_in terms past ≡ []
    → sends_by terms (Carries datagram) past ≡ packets → at ≡ passed_in terms (Carries datagram ∷ past)
    → Reached terms time gather (record l { pieces = (all_left_by l packets).pieces; passed_at = at }) (Carries datagram ∷ past) []
reached_carries terms past time gather l datagram at packets r done sends e = record {
  order = (done, r.order);
  ipcp = r.ipcp;
  gathers = gathers_carries terms.mrru gather datagram past [] r.gathers;
  cuts = subst (λ (x : List Inner). CutsAll terms terms.mrru (all_left_by l x).pieces (Carries datagram ∷ past)) sends
      (cuts_then terms past terms.mrru (Carries datagram) l (reached_sends terms past time gather [] l r) r.cuts);
  members = r.members;
  in_order = r.in_order;
  some = some_carries terms.mrru l.members datagram past r.some;
  initial = r.initial;
  time_is = r.time_is;
  wish = r.wish;
  allow = r.allow;
  mrru = r.mrru;
  was_open = r.was_open;
  by_peer = r.by_peer;
  opened_at = r.opened_at;
  passed_at = e;
}

-- the choices that the history makes, by those of the unit
both_is : {T : Type 0} (a b up fits : Bool) (x y : T) → a ≡ up → b ≡ fits → (if a && b then x else y) ≡ (if up && fits then x else y)
both_is a b up fits x y e f = rw (e, f) refl

nested_is : {T : Type 0} (a b up fits : Bool) (x y z : T) → a ≡ up → b ≡ fits → (if a then (if b then x else y) else z) ≡ (if up then (if fits then x else y) else z)
nested_is a b up fits x y z e f = rw (e, f) refl

-- by whether IPCP is in Opened, and whether the peer takes so many octets
carries_by : {S : Type 0} (terms : Terms) (past : List Moment) (secrets : SecretsPair) (datagram : List ℕ) (u : UnitState S) (l : Live) (up fits : Bool) → (m : Mid terms past [] [] (record u { live = Some l })) → m.l ≡ l → Calm (record u { live = Some l })
    → u.sent ≡ [] → u.given ≡ [] → is_up l ≡ up → nat_le (length datagram) (most_to_peer l) ≡ fits
    → Does terms past secrets (Carries datagram ∷ []) u.counts (if up then (if fits then with_pass (sends IP datagram (record u { live = Some l })) else too_big (record u { live = Some l })) else not_open (record u { live = Some l }))
carries_by {S = S} terms past secrets datagram u l up fits m same calm sent given e f = by_case up fits (sym was ∙ e) (ap (λ (n : ℕ). nat_le (length datagram) n) (sym most) ∙ f)
  where
    r : Reached terms u.time u.gather l past []
    r = subst (λ (x : Live). Reached terms u.time u.gather x past []) same m.reached

    was : (l.ipcp.core.fsm.state == 9) ≡ is_up_in terms past
    was = up_is terms l.ipcp (calls_in past) r.ipcp

    most : most_to_peer l ≡ most_in terms past
    most = most_is terms past u.time u.gather [] l r

    w : UnitState S
    w = record u { live = Some l }

    nothing : u.given ≡ u.given ++ (if is_up_in terms past then [] else [])
    nothing = sym (append-nil u.given) ∙ ap (λ (x : List (List ℕ)). u.given ++ x) (nothing_of (is_up_in terms past))

    dropped : (up fits : Bool) → is_up_in terms past ≡ up → nat_le (length datagram) (most_in terms past) ≡ fits → (counts : UnitCounts)
        → (if up && fits then time_in terms past else passed_in terms past) ≡ passed_in terms past → (if up && fits then inner IP datagram ∷ [] else []) ≡ []
        → counts ≡ counted (if up then (if fits then None else Some TooBig) else Some NotOpen) u.counts → Does terms past secrets (Carries datagram ∷ []) u.counts (record w { counts = counts })
    dropped up fits e f counts at none is =
        let v : UnitState S = record w { counts = counts } in
        let quiet : sends_by terms (Carries datagram) past ≡ [] = both_is (is_up_in terms past) (nat_le (length datagram) (most_in terms past)) up fits (inner IP datagram ∷ []) [] e f ∙ none in
        does_of terms (Carries datagram ∷ []) past secrets (Carries datagram ∷ []) u.counts v refl tt
        (inl (record {
          l = l;
          live = refl;
          reached = reached_carries terms past u.time u.gather l datagram l.passed_at [] r m.asked_is quiet
              (r.passed_at ∙ sym at ∙ sym (both_is (is_up_in terms past) (nat_le (length datagram) (most_in terms past)) up fits (time_in terms past) (passed_in terms past) e f));
          asked_is = refl;
          going = m.going;
          ended = m.ended;
          target = m.target;
        }))
        (record { idle = calm.idle; connect = calm.connect })
        (flows_quiet terms [] past (Carries datagram) u.counts u.time u.gather [] l w v r quiet refl refl nothing
        (is ∙ ap (λ (d : Option Drop). counted d u.counts) (sym (nested_is (is_up_in terms past) (nat_le (length datagram) (most_in terms past)) up fits None (Some TooBig) (Some NotOpen) e f)))
        (flows_start terms past u.time u.gather [] l w r sent given))

    by_case : (up fits : Bool) → is_up_in terms past ≡ up → nat_le (length datagram) (most_in terms past) ≡ fits
        → Does terms past secrets (Carries datagram ∷ []) u.counts (if up then (if fits then with_pass (sends IP datagram w) else too_big w) else not_open w)
    by_case true true e f =
        let pieces : SendingNow = (left_by_sending l l.mrru IP datagram).pieces in
        let v : UnitState S = record u { sent = u.sent ++ sent_as l l.mrru IP datagram; live = Some (record l { pieces = pieces; passed_at = u.time }) } in
        let passes : sends_by terms (Carries datagram) past ≡ inner IP datagram ∷ [] = both_is (is_up_in terms past) (nat_le (length datagram) (most_in terms past)) true true (inner IP datagram ∷ []) [] e f in
        let is : with_pass (sends IP datagram w) ≡ v = ap (λ (x : Live). with_pass (record u { sent = u.sent ++ sent_as l l.mrru IP datagram; live = Some x })) (one_left l.mrru l IP datagram) in
        subst (λ (x : UnitState S). Does terms past secrets (Carries datagram ∷ []) u.counts x) (sym is)
        (does_of terms (Carries datagram ∷ []) past secrets (Carries datagram ∷ []) u.counts v refl tt
        (inl (record {
          l = record l { pieces = pieces; passed_at = u.time };
          live = refl;
          reached = reached_carries terms past u.time u.gather l datagram u.time (inner IP datagram ∷ []) r m.asked_is passes
              (r.time_is ∙ sym (both_is (is_up_in terms past) (nat_le (length datagram) (most_in terms past)) true true (time_in terms past) (passed_in terms past) e f));
          asked_is = refl;
          going = m.going;
          ended = m.ended;
          target = m.target;
        }))
        (record { idle = fresh_calm (is_up l) Idle l.wish.idle_s u.time; connect = calm.connect })
        (flows_then terms [] past (Carries datagram) u.counts u.time u.gather [] l w v r refl
        (ap (λ (x : List Sending). u.sent ++ x) (sym (append-nil (sent_as l l.mrru IP datagram))) ∙ ap (λ (x : List Inner). u.sent ++ all_out l x) (sym passes))
        nothing
        (ap (λ (d : Option Drop). counted d u.counts) (sym (nested_is (is_up_in terms past) (nat_le (length datagram) (most_in terms past)) true true None (Some TooBig) (Some NotOpen) e f)))
        (flows_start terms past u.time u.gather [] l w r sent given)))
    by_case true false e f = dropped true false e f (too_big w).counts refl refl refl
    by_case false true e f = dropped false true e f (not_open w).counts refl refl refl
    by_case false false e f = dropped false false e f (not_open w).counts refl refl refl

pub does_carry : {S : Type 0} (terms : Terms) (past : List Moment) (secrets : SecretsPair) (datagram : List ℕ) (u : UnitState S) → (m : Mid terms past [] [] u) → Calm u → u.sent ≡ [] → u.given ≡ []
    → Does terms past secrets (Carries datagram ∷ []) u.counts (carried datagram u)
does_carry {S = S} terms past secrets datagram u m calm sent given =
    let same : u ≡ record u { live = Some m.l } = ap (λ (o : Option Live). record u { live = o }) m.live in
    subst (λ (v : UnitState S). Does terms past secrets (Carries datagram ∷ []) u.counts (carried datagram v)) (sym same)
    (carries_by terms past secrets datagram u m.l (is_up m.l) (nat_le (length datagram) (most_to_peer m.l))
    (record { l = m.l; live = refl; reached = m.reached; asked_is = m.asked_is; going = m.going; ended = m.ended; target = m.target }) refl
    (subst (λ (v : UnitState S). Calm v) same calm) sent given refl refl)
