-- What one post of a link makes of a table.
use Rattle.std.specs.Prelude.{ℕ, ◌+◌, ◌==◌, ◌≡◌, nat_le, Bool, true, false, Option, None, Some, IfSome, List, length, slice_get, ◌-◌, if◌then◌else◌}
use Rattle.ppp_base.specs.RingAfter.{one_more}
use Rattle.ppp_base.specs.declared.allow.Allow.{Allow}
use Rattle.ppp_base.specs.declared.posts.Join.{Join}
use Rattle.ppp_base.specs.declared.posts.Post.TheVariants as post
use Rattle.ppp_base.specs.declared.posts.UpPost.{UpPost}
use Rattle.ppp_base.specs.declared.posts.UpPost.TheVariants as up
use Rattle.ppp_option_words.specs.LinkValues.{LinkValues}
use Rattle.ppp_bundle.specs.declared.event.BundleEvent.TheVariants.{Make, In, Out, Frame}
use Rattle.ppp_bundle.specs.Replay.{bundles_in}
use Rattle.ppp_bundle.specs.State.{UnitState}
use Rattle.ppp_unit_parts.specs.declared.wish.UnitWish.{UnitWish}
use Rattle.ppp_unit_parts.specs.Wishes.{IsUnitWish}
use Rattle.ppp_table_parts.specs.Key.{Terms}
use Rattle.ppp_table_parts.specs.Side.{with_control, with_terms}
use Rattle.ppp_table_parts.specs.Sides.{at_link}
use Rattle.ppp_table.specs.declared.stays.Stay.{Stay}
use Rattle.ppp_table.specs.declared.verdict.Verdict.{Verdict}
use Rattle.ppp_table.specs.declared.verdict.Verdict.TheVariants.{Joins, Makes, Refuses}
use Rattle.ppp_table.specs.TableState.{TableState, stay_in}
use Rattle.ppp_table.specs.UnitStep.{UnitStep}
use Rattle.ppp_table.specs.Verdicts.{verdict}

abbrev pub terms_of : Join → Terms
terms_of j = record { key = record { peer = j.peer; disc = j.disc }; mrru = j.mrru }

-- A member goes out.
abbrev pub GoesOut : {S : Type 0} → Option Stay → ℕ → (old new : TableState S) → Type 0
GoesOut None link old new = new ≡ old
GoesOut (Some s) link old new = UnitStep s.unit (Out link s.stay) old new

-- It comes in with its terms.
abbrev pub with_terms_at : {S : Type 0} → ℕ → Terms → TableState S → TableState S
with_terms_at link terms t = record t { sides = at_link link (with_terms terms) t.sides }

-- A bundle is made under the next number with the maker's options.
abbrev pub next_number : {S : Type 0} → Option (UnitState S) → ℕ
next_number None = 1
next_number (Some u) = bundles_in 0 u.scripts.log.past + 1

pub record MakesOne {S : Type 0} (unit link : ℕ) (wish : UnitWish) (terms : Terms) (stay mru : ℕ) (allow : Allow) (old new : TableState S) : Type 0 where
  pub mid : TableState S
  pub makes : UnitStep unit (Make (next_number (slice_get old.units unit)) link wish terms.mrru allow) (with_terms_at link terms old) mid
  pub comes : UnitStep unit (In link stay mru) mid new

pub record MakesBy {S : Type 0} (unit link : ℕ) (terms : Terms) (stay mru : ℕ) (allow : Allow) (old new : TableState S) : Type 0 where
  pub wish : UnitWish
  pub asks : IfSome (slice_get old.links (link - 1)) (λ c. IsUnitWish c wish)
  pub one : MakesOne unit link wish terms stay mru allow old new

-- It joins, or makes a bundle, or is told that it is refused.
abbrev pub Enters : {S : Type 0} → Verdict → (link : ℕ) → Terms → (stay mru : ℕ) → Allow → (old new : TableState S) → Type 0
Enters (Joins unit) link terms stay mru allow old new = UnitStep unit (In link stay mru) (with_terms_at link terms old) new
Enters (Makes unit) link terms stay mru allow old new = MakesBy unit link terms stay mru allow old new
Enters (Refuses reason) link terms stay mru allow old new = new ≡ record old { sides = at_link link (with_control (post.Refused stay reason)) old.sides }

-- A Join of a member first takes it out.
pub record JoinPart {S : Type 0} (link : ℕ) (j : Join) (old new : TableState S) : Type 0 where
  pub mid : TableState S
  pub out : GoesOut (stay_in link old) link old mid
  pub enters : Enters (verdict link (terms_of j) mid) link (terms_of j) j.stay j.mru j.allow mid new

-- A frame of a member goes to its unit; one of another link is dropped and counted.
abbrev pub FramePart : {S : Type 0} → Option Stay → (link protocol : ℕ) → List ℕ → (old new : TableState S) → Type 0
FramePart None link protocol information old new = new ≡ record old { stranger = one_more old.stranger }
FramePart (Some s) link protocol information old new = UnitStep s.unit (Frame link protocol information) old new

-- A Leave takes the member out where the stay is its own.
abbrev pub same_stay : ℕ → Option Stay → Option Stay
same_stay stay None = None
same_stay stay (Some s) = if s.stay == stay then Some s else None

abbrev pub Posts : {S : Type 0} → ℕ → UpPost → (old new : TableState S) → Type 0
Posts link (up.Join j) old new = JoinPart link j old new
Posts link (up.Frame protocol information) old new = FramePart (stay_in link old) link protocol information old new
Posts link (up.Leave stay) old new = GoesOut (same_stay stay (stay_in link old)) link old new

-- A post of a link that the options don't have is dropped, and nothing changes.
abbrev pub PostsOf : {S : Type 0} → Bool → ℕ → UpPost → (old new : TableState S) → Type 0
PostsOf false link p old new = new ≡ old
PostsOf true link p old new = Posts link p old new

abbrev pub PostPart : {S : Type 0} → ℕ → UpPost → (old new : TableState S) → Type 0
PostPart link p old new = PostsOf (nat_le link (length old.links)) link p old new
