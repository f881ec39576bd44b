-- Which bundle a link joins (RFC 1990, section 5.1.3), or why it is refused.
use Rattle.std.specs.Prelude.{ℕ, ◌+◌, ◌-◌, nat_lt, Bool, true, false, is_some, Option, None, Some, List, [], ◌∷◌, slice_get, if◌then◌else◌}
use Rattle.ppp_base.specs.Mrru.{MrruPair}
use Rattle.ppp_base.specs.declared.posts.Refusal.{Refusal}
use Rattle.ppp_base.specs.declared.posts.Refusal.TheVariants.{Unlike, UnitTaken, NoRoom}
use Rattle.ppp_mark.specs.Log.{room_of}
use Rattle.ppp_option_words.specs.LinkValues.{LinkValues}
use Rattle.ppp_bundle.specs.MayStand.{mrru_of}
use Rattle.ppp_bundle.specs.State.{UnitState, members_of}
use Rattle.ppp_unit_parts.specs.declared.member.Member.{Member}
use Rattle.ppp_table_parts.specs.Key.{Key, Terms, same_key, same_mrru}
use Rattle.ppp_table_parts.specs.Side.{SideState}
use Rattle.ppp_table_parts.specs.Sides.{side_of}
use Rattle.ppp_table.specs.declared.verdict.Verdict.{Verdict}
use Rattle.ppp_table.specs.declared.verdict.Verdict.TheVariants.{Joins, Makes, Refuses}
use Rattle.ppp_table.specs.Asking.{asked_by}
use Rattle.ppp_table.specs.TableState.{TableState}

-- The key of a bundle is that with which its members came in: that of the least member.
abbrev pub has_terms : Key → Option Terms → Bool
has_terms key None = false
has_terms key (Some terms) = same_key key terms.key

abbrev pub first_has : Key → List SideState → List Member → Bool
first_has key sides [] = false
first_has key sides (m ∷ members) = has_terms key (side_of m.link sides).terms

abbrev pub is_of : {S : Type 0} → Key → List SideState → UnitState S → Bool
is_of key sides u = if is_some (mrru_of u.live) then first_has key sides (members_of u.live) else false

-- the least unit whose multilink bundle has this key; the first unit has this number
abbrev pub alike_from : {S : Type 0} → ℕ → Key → List SideState → List (UnitState S) → Option ℕ
alike_from unit key sides [] = None
alike_from unit key sides (u ∷ units) = if is_of key sides u then Some unit else alike_from (unit + 1) key sides units

-- the least unit without a bundle
abbrev pub free_from : {S : Type 0} → ℕ → List (UnitState S) → Option ℕ
free_from unit [] = None
free_from unit (u ∷ units) = if is_some u.live then free_from (unit + 1) units else Some unit

-- what is looked at of one unit
abbrev pub has_bundle : {S : Type 0} → Option (UnitState S) → Bool
has_bundle None = false
has_bundle (Some u) = is_some u.live

abbrev pub room_in : {S : Type 0} → Option (UnitState S) → ℕ
room_in None = 0
room_in (Some u) = room_of u.scripts.log

abbrev pub mrru_in : {S : Type 0} → Option (UnitState S) → Option MrruPair
mrru_in None = None
mrru_in (Some u) = mrru_of u.live

-- A bundle is made where the log of the unit has room for 1,024 marks.
abbrev pub makes : {S : Type 0} → ℕ → TableState S → Verdict
makes unit t = if nat_lt (room_in (slice_get t.units unit)) 1024 then Refuses NoRoom else Makes unit

-- in the unit that was asked for, unless it has a bundle; or in the least one without. With sixteen links there is always one.
abbrev pub makes_in : {S : Type 0} → Option ℕ → TableState S → Verdict
makes_in None t = Refuses NoRoom
makes_in (Some unit) t = makes unit t

abbrev pub by_asked : {S : Type 0} → Option ℕ → TableState S → Verdict
by_asked None t = makes_in (free_from 0 t.units) t
by_asked (Some unit) t = if has_bundle (slice_get t.units unit) then Refuses UnitTaken else makes unit t

abbrev pub asked : ℕ → Option LinkValues → Option ℕ
asked link None = None
asked link (Some c) = asked_by link c

-- It joins the bundle of its key where both ends have the same MRRU pair.
abbrev pub has_mrru : MrruPair → Option MrruPair → Bool
has_mrru mrru None = false
has_mrru mrru (Some other) = same_mrru mrru other

abbrev pub by_alike : {S : Type 0} → MrruPair → Option ℕ → ℕ → TableState S → Verdict
by_alike mrru None link t = by_asked (asked link (slice_get t.links (link - 1))) t
by_alike mrru (Some unit) link t = if has_mrru mrru (mrru_in (slice_get t.units unit)) then Joins unit else Refuses Unlike

abbrev pub by_mrru : {S : Type 0} → Option MrruPair → Key → ℕ → TableState S → Verdict
by_mrru None key link t = by_asked (asked link (slice_get t.links (link - 1))) t
by_mrru (Some mrru) key link t = by_alike mrru (alike_from 0 key t.sides t.units) link t

abbrev pub verdict : {S : Type 0} → ℕ → Terms → TableState S → Verdict
verdict link terms t = by_mrru terms.mrru terms.key link t
