-- Packets that were gathered are used one after another: between two of them there is room for one more.
use Rattle.std.proofs.Common.{◌≡◌, ℕ, zero, suc, ◌+◌, ◌*◌, ◌<◌, ◌≤◌, Option, None, Some, List, [], ◌∷◌, length, take, drop, slice_get, refl, ap, sym, subst, ◌∙◌, arith}
use Rattle.std.proofs.lemmas.List.{take_all}
use Rattle.std.specs.Prelude.{option_map}
use Rattle.ppp_base.specs.Mrru.{MrruPair}
use Rattle.ppp_mark.specs.Log.{room_of}
use Rattle.ppp_mark.specs.ScriptLog.{ScriptLogState}
use Rattle.ppp_secrets.specs.declared.secrets.SecretsPair.{SecretsPair}
use Rattle.ppp_unit_parts.specs.declared.live.Live.{Live}
use Rattle.ppp_bundle.specs.Closing.{looked}
use Rattle.ppp_bundle.specs.Frames.{Inner, bad_inner, inner, inner_of, not_open, used, used_all, used_inner, used_of}
use Rattle.ppp_unit_parts.specs.Live.{most_of_ours}
use Rattle.ppp_bundle.specs.Replay.{since_made}
use Rattle.ppp_bundle.specs.Sound.{Agrees, Goes, IsGoing, IsReady, IsSound, Moves, owed}
use Rattle.ppp_bundle.specs.State.{UnitState}
use Rattle.ppp_unit_parts.proofs.SendFacts.{drop_get}
use Rattle.ppp_bundle.proofs.SoundFacts.{at_some, by_none, if_some, owed_most}

-- ROOM

ready_by : {S : Type 0} (o : Option Live) (most : ℕ) (old new : UnitState S) → old.live ≡ o → most ≤ 24 → IsSound old → Agrees new → Goes most old new → IsReady new
ready_by {S = S} None most old new e few sound agrees goes =
    let none = goes.none e in
    record {
      agrees = agrees;
      room = by_none new.live _ none.0;
      owes = λ _. subst (λ (s : ScriptLogState S). owed s.machine.facts + 2 ≤ room_of s.log) (sym none.1) (sound.owes e);
    }
ready_by (Some l) most old new e few sound agrees goes =
    let room : l.made_at + 1024 ≤ old.scripts.log.limit = at_some old.live l _ e sound.agrees.room in
    let count : since_made old.scripts.log.past < 900 = at_some old.live l _ e sound.few in
    let since : length old.scripts.log.past ≡ l.made_at + since_made old.scripts.log.past = at_some old.live l _ e sound.agrees.since in
    let moved : length new.scripts.log.past ≤ length old.scripts.log.past + most = goes.moves.few in
    let limit : new.scripts.log.limit ≡ old.scripts.log.limit = goes.moves.limit in
    record {
      agrees = agrees;
      room = if_some new.live _ (omega arith);
      owes = λ _. omega (arith, owed_most new.scripts.machine.facts);
    }

pub ready : {S : Type 0} (most : ℕ) (old new : UnitState S) → most ≤ 24 → IsSound old → Agrees new → Goes most old new → IsReady new
ready most old new few sound agrees goes = ready_by old.live most old new refl few sound agrees goes

goes_nowhere : {S : Type 0} (u : UnitState S) → Goes 0 u u
goes_nowhere u = record {
  moves = record { target = refl; few = omega arith; longer = omega arith; limit = refl; since = refl; spawner = refl; ends = refl; not_started = refl };
  none = λ e. (e, refl);
}

pub sound_ready : {S : Type 0} (u : UnitState S) → IsSound u → IsReady u
sound_ready u sound = ready 0 u u (omega arith) sound sound.agrees (goes_nowhere u)

going_from : {S : Type 0} (o : Option Live) (most : ℕ) (old new : UnitState S) → old.live ≡ o → most ≤ 24 → IsReady old → Agrees new → Goes most old new → IsGoing new
going_from {S = S} None most old new e few is agrees goes =
    let none = goes.none e in
    record {
      agrees = agrees;
      left = by_none new.live _ none.0;
      owes = λ _. subst (λ (s : ScriptLogState S). owed s.machine.facts + 2 ≤ room_of s.log) (sym none.1) (is.owes e);
    }
going_from (Some l) most old new e few is agrees goes =
    let room : 100 ≤ room_of old.scripts.log = at_some old.live l _ e is.room in
    let moved : length new.scripts.log.past ≤ length old.scripts.log.past + most = goes.moves.few in
    let limit : new.scripts.log.limit ≡ old.scripts.log.limit = goes.moves.limit in
    record {
      agrees = agrees;
      left = if_some new.live _ (omega arith);
      owes = λ _. omega (arith, owed_most new.scripts.machine.facts);
    }

pub ready_going : {S : Type 0} (most : ℕ) (old new : UnitState S) → most ≤ 24 → IsReady old → Agrees new → Goes most old new → IsGoing new
ready_going most old new few is agrees goes = going_from old.live most old new refl few is agrees goes

pub moves_both : {S : Type 0} (a b : ℕ) (x y z : ScriptLogState S) → Moves a x y → Moves b y z → Moves (a + b) x z
moves_both a b x y z f g = record {
  target = g.target ∙ f.target;
  few = omega (arith, f.few, g.few);
  longer = omega (arith, f.longer, g.longer);
  limit = g.limit ∙ f.limit;
  since = omega (arith, f.since, g.since);
  spawner = g.spawner ∙ f.spawner;
  ends = g.ends ∙ f.ends;
  not_started = g.not_started ∙ f.not_started;
}

goes_after_both : {S : Type 0} (a b : ℕ) (x y z : UnitState S) → Goes a x y → Goes b y z → Goes (a + b) x z
goes_after_both a b x y z f g = record {
  moves = moves_both a b x.scripts y.scripts z.scripts f.moves g.moves;
  none = λ e. (let h = f.none e in let k = g.none h.0 in (k.0, k.1 ∙ h.1));
}

pub goes_most : {S : Type 0} (a b : ℕ) (x y : UnitState S) → Goes a x y → a ≤ b → Goes b x y
goes_most a b x y f e = record {
  moves = record { target = f.moves.target; few = omega (arith, f.moves.few, e); longer = f.moves.longer; limit = f.moves.limit; since = f.moves.since; spawner = f.moves.spawner; ends = f.moves.ends; not_started = f.moves.not_started };
  none = f.none;
}

pub goes_both : {S : Type 0} (a b c : ℕ) (x y z : UnitState S) → Goes a x y → Goes b y z → a + b ≤ c → Goes c x z
goes_both a b c x y z f g e = goes_most (a + b) c x z (goes_after_both a b x y z f g) e

-- WHAT A PACKET IS

pub take_of_few : (most : ℕ) (xs : List ℕ) → length xs ≤ most → xs ≡ take most xs
take_of_few most xs e = sym (take_all most xs e)

pub used_none : {S : Type 0} (secrets : SecretsPair) (packet : List ℕ) (old new : UnitState S) → option_map (λ (l : Live). most_of_ours l.mrru) old.live ≡ None → new ≡ not_open old → new ≡ used secrets packet old
used_none {S = S} secrets packet old new none is = by old.live refl none
  where
    by : (o : Option Live) → old.live ≡ o → option_map (λ (l : Live). most_of_ours l.mrru) o ≡ None → new ≡ used secrets packet old
    by None e n = is ∙ ap (λ (x : Option Live). used_of x secrets packet old) (sym e)
    by (Some l) e n = absurd (let f : Some (most_of_ours l.mrru) ≡ None = n in cc)

pub used_bad : {S : Type 0} (secrets : SecretsPair) (packet : List ℕ) (most : ℕ) (old new : UnitState S) → option_map (λ (l : Live). most_of_ours l.mrru) old.live ≡ Some most → None ≡ inner_of packet
    → new ≡ bad_inner old → new ≡ used secrets packet old
used_bad {S = S} secrets packet most old new some none is = by old.live refl some
  where
    by : (o : Option Live) → old.live ≡ o → option_map (λ (l : Live). most_of_ours l.mrru) o ≡ Some most → new ≡ used secrets packet old
    by None e s = absurd (let f : None ≡ Some most = s in cc)
    by (Some l) e s = is ∙ ap (λ (i : Option Inner). used_inner secrets l.mrru i old) none ∙ ap (λ (x : Option Live). used_of x secrets packet old) (sym e)

pub used_some : {S : Type 0} (secrets : SecretsPair) (packet : List ℕ) (most protocol : ℕ) (information : List ℕ) (old new : UnitState S) → option_map (λ (l : Live). most_of_ours l.mrru) old.live ≡ Some most
    → Some (inner protocol information) ≡ inner_of packet → ((mrru : Option MrruPair) → most_of_ours mrru ≡ most → new ≡ used_inner secrets mrru (Some (inner protocol information)) old) → new ≡ used secrets packet old
used_some {S = S} secrets packet most protocol information old new some there is = by old.live refl some
  where
    by : (o : Option Live) → old.live ≡ o → option_map (λ (l : Live). most_of_ours l.mrru) o ≡ Some most → new ≡ used secrets packet old
    by None e s = absurd (let f : None ≡ Some most = s in cc)
    by (Some l) e s =
        is l.mrru (let f : Some (most_of_ours l.mrru) ≡ Some most = s in cc) ∙ ap (λ (i : Option Inner). used_inner secrets l.mrru i old) there
        ∙ ap (λ (x : Option Live). used_of x secrets packet old) (sym e)

-- ALL PACKETS

-- So many were used, and those that are left make of the unit what all make of it.
pub record Uses {S : Type 0} (secrets : SecretsPair) (at count : ℕ) (packets : List (List ℕ)) (old now : UnitState S) : Type 0 where
  pub rest : used_all secrets (drop at (take count packets)) now ≡ used_all secrets (take count packets) old
  pub is_ready : IsReady now
  pub goes : Goes (44 * at) old now
  pub sent : length now.sent ≤ 51 * at
  pub given : length now.given ≤ at

pub use_first : {S : Type 0} (secrets : SecretsPair) (count : ℕ) (packets : List (List ℕ)) (u : UnitState S) → IsReady u → u.sent ≡ [] → u.given ≡ [] → Uses secrets 0 count packets u u
use_first secrets count packets u is sent given = record { rest = refl; is_ready = is; goes = goes_nowhere u; sent = rw sent (omega arith); given = rw given (omega arith) }

get_take : (packets : List (List ℕ)) (count at : ℕ) (packet : List ℕ) → at < count → slice_get packets at ≡ Some packet → slice_get (take count packets) at ≡ Some packet
get_take [] count at packet below there = absurd (let e : None ≡ Some packet = there in cc)
get_take (x ∷ packets) zero at packet below there = absurd (omega (arith, below))
get_take (x ∷ packets) (suc count) zero packet below there = there
get_take (x ∷ packets) (suc count) (suc at) packet below there = get_take packets count at packet (omega (arith, below)) there

front : (packets : List (List ℕ)) (count at : ℕ) (packet : List ℕ) → at < count → slice_get packets at ≡ Some packet → drop at (take count packets) ≡ packet ∷ drop (at + 1) (take count packets)
front packets count at packet below there = drop_get (take count packets) at packet (get_take packets count at packet below there)

pub use_step : {S : Type 0} (secrets : SecretsPair) (at count : ℕ) (packets : List (List ℕ)) (packet : List ℕ) (old now new : UnitState S) → at < count → slice_get packets at ≡ Some packet
    → new ≡ looked (used secrets packet now) → IsReady new → Goes 44 now new → length new.sent ≤ length now.sent + 51 → length new.given ≤ length now.given + 1
    → Uses secrets at count packets old now → Uses secrets (at + 1) count packets old new
use_step {S = S} secrets at count packets packet old now new below there is ready_now goes sent given u = record {
  rest = ap (λ (v : UnitState S). used_all secrets (drop (at + 1) (take count packets)) v) is
      ∙ ap (λ (ps : List (List ℕ)). used_all secrets ps now) (sym (front packets count at packet below there)) ∙ u.rest;
  is_ready = ready_now;
  goes = goes_both (44 * at) 44 (44 * (at + 1)) old now new u.goes goes (omega arith);
  sent = omega (arith, sent, u.sent);
  given = omega (arith, given, u.given);
}

none_left : (packets : List (List ℕ)) (count : ℕ) → drop count (take count packets) ≡ []
none_left [] zero = refl
none_left [] (suc count) = refl
none_left (x ∷ packets) zero = refl
none_left (x ∷ packets) (suc count) = none_left packets count

pub record Used {S : Type 0} (secrets : SecretsPair) (count : ℕ) (packets : List (List ℕ)) (old new : UnitState S) : Type 0 where
  pub all : new ≡ used_all secrets (take count packets) old
  pub going : IsGoing new
  pub goes : Goes 5632 old new

pub use_end : {S : Type 0} (secrets : SecretsPair) (count : ℕ) (packets : List (List ℕ)) (old now : UnitState S) → count ≤ 128 → Uses secrets count count packets old now → Used secrets count packets old now
use_end secrets count packets old now few u = record {
  all = ap (λ (ps : List (List ℕ)). used_all secrets ps now) (sym (none_left packets count)) ∙ u.rest;
  going = ready_going 0 now now (omega arith) u.is_ready u.is_ready.agrees (goes_nowhere now);
  goes = goes_most (44 * count) 5632 old now u.goes (omega (arith, few));
}

pub at_there : (packets : List (List ℕ)) (at : ℕ) → at < length packets → slice_get packets at ≡ None → ⊥
at_there [] at below e = absurd (omega (arith, below))
at_there (x ∷ packets) zero below e = absurd (let f : Some x ≡ None = e in cc)
at_there (x ∷ packets) (suc at) below e = at_there packets at (omega (arith, below)) e
