-- The table of marks: the name of each kind, in whose logs it stands, and the ranges of its numbers. The time is any u64.
use Rattle.std.specs.Prelude.{ℕ, ◌==◌, ◌≤◌, ◌≡◌, ◌||◌, ◌&&◌, Bool, true, false, not, Option, None, Some, is_some, nat_le, List, [], ◌∷◌, codes, if◌then◌else◌}
use Rattle.std.specs.Str.{bytes_eq}
use Rattle.ppp_base.specs.declared.hook_target.HookTarget.{HookTarget}
use Rattle.ppp_base.specs.declared.hook_target.HookTarget.TheVariants.{Link, Unit as UnitTarget}
use Rattle.ppp_mark.specs.declared.mark.Mark.{Mark}
use Rattle.ppp_mark.specs.declared.kind.TheConstants.{ATTEMPT, LINE, LCP_OPEN, LCP_CLOSED, AUTH_OPEN, AUTH_CLOSED, START, ENDED, ASKED, LEFT, MEMBER, LIVE, REFUSED, SIGNAL, CAUSE, OVER, HOLD, WAIT, FINISHED, MADE, IN, OUT, IP_OPEN, LOCAL, REMOTE, IP_CLOSED, CLOSE, UNMADE}

-- whose log a mark stands in
pub data Owner : Type 0 where
  OfLink : Owner
  OfUnit : Owner
  OfBoth : Owner

-- x is from least_x to most_x; y and z are at most what is given here
pub record Row : Type 0 where
  pub kind : ℕ
  pub name : List ℕ
  pub owner : Owner
  pub least_x : ℕ
  pub most_x : ℕ
  pub most_y : ℕ
  pub most_z : ℕ

abbrev pub row : ℕ → List ℕ → Owner → ℕ → ℕ → ℕ → ℕ → Row
row kind name owner least_x most_x most_y most_z =
    record { kind = kind; name = name; owner = owner; least_x = least_x; most_x = most_x; most_y = most_y; most_z = most_z }

-- the greatest u32
abbrev pub most : ℕ
most = 4294967295

abbrev pub table : List Row
table =
    row ATTEMPT (codes "attempt") OfLink 0 0 0 most
    ∷ row LINE (codes "line") OfLink 0 0 0 most
    ∷ row LCP_OPEN (codes "lcp-open") OfLink 0 0 0 most
    ∷ row LCP_CLOSED (codes "lcp-closed") OfLink 0 0 0 most
    ∷ row AUTH_OPEN (codes "auth-open") OfLink 0 0 0 most
    ∷ row AUTH_CLOSED (codes "auth-closed") OfLink 0 0 0 most
    ∷ row START (codes "start") OfBoth 1 2 0 most
    ∷ row ENDED (codes "ended") OfBoth 0 2 255 most
    ∷ row ASKED (codes "asked") OfLink 0 0 0 most
    ∷ row LEFT (codes "left") OfLink 0 0 0 most
    ∷ row MEMBER (codes "member") OfLink 0 15 0 most
    ∷ row LIVE (codes "live") OfLink 0 15 0 most
    ∷ row REFUSED (codes "refused") OfLink 1 3 0 most
    ∷ row SIGNAL (codes "signal") OfLink 1 5 0 0
    ∷ row CAUSE (codes "cause") OfLink 1 16 65535 most
    ∷ row OVER (codes "over") OfLink 0 1 0 most
    ∷ row HOLD (codes "hold") OfLink 0 0 0 most
    ∷ row WAIT (codes "wait") OfLink 0 0 0 0
    ∷ row FINISHED (codes "finished") OfLink 0 255 0 0
    ∷ row MADE (codes "made") OfUnit 1 16 0 most
    ∷ row IN (codes "in") OfUnit 1 16 0 most
    ∷ row OUT (codes "out") OfUnit 1 16 0 most
    ∷ row IP_OPEN (codes "ip-open") OfUnit 0 0 0 most
    ∷ row LOCAL (codes "local") OfUnit 0 0 0 most
    ∷ row REMOTE (codes "remote") OfUnit 0 0 0 most
    ∷ row IP_CLOSED (codes "ip-closed") OfUnit 0 0 0 most
    ∷ row CLOSE (codes "close") OfUnit 12 16 65535 most
    ∷ row UNMADE (codes "unmade") OfUnit 0 0 0 most
    ∷ []

-- the row of a kind among these
abbrev pub row_in : List Row → ℕ → Option Row
row_in [] kind = None
row_in (r ∷ rows) kind = if r.kind == kind then Some r else row_in rows kind

abbrev pub row_of : ℕ → Option Row
row_of kind = row_in table kind

-- whether a kind is one of the table
abbrev pub is_kind : ℕ → Bool
is_kind kind = is_some (row_of kind)

abbrev pub name_in : Option Row → List ℕ
name_in None = []
name_in (Some r) = r.name

-- the name of a kind
abbrev pub name_of : ℕ → List ℕ
name_of kind = name_in (row_of kind)

-- whether marks of a row stand in the log of such an object
abbrev pub is_owner : HookTarget → Owner → Bool
is_owner (Link link) OfLink = true
is_owner (Link link) OfUnit = false
is_owner (Link link) OfBoth = true
is_owner (UnitTarget unit) OfLink = false
is_owner (UnitTarget unit) OfUnit = true
is_owner (UnitTarget unit) OfBoth = true

abbrev pub owner_in : HookTarget → Option Row → Bool
owner_in target None = false
owner_in target (Some r) = is_owner target r.owner

-- whether a kind stands in such an object's log
abbrev pub stands_in : HookTarget → ℕ → Bool
stands_in target kind = owner_in target (row_of kind)

-- the numbers are in a row's ranges
abbrev pub IsInRow : Option Row → Mark → Type 0
IsInRow None mark = ⊥
IsInRow (Some r) mark = (r.least_x ≤ mark.x) × (mark.x ≤ r.most_x) × (mark.y ≤ r.most_y) × (mark.z ≤ r.most_z)

-- What one number allows of another: only an exit has a status. Of a close, y is 1 where the peer has ended it and else 0, and z is 0 but for
-- the causes 12 and 13.
abbrev pub numbers_agree : Mark → Bool
numbers_agree mark =
    if mark.kind == ENDED then mark.x == 0 || mark.y == 0
    else if mark.kind == CLOSE then (mark.y == (if mark.x == 15 then 1 else 0)) && (nat_le mark.x 13 || mark.z == 0)
    else true

-- The mark's kind is one of the table, and its numbers are in their ranges and agree.
pub record IsInTable (mark : Mark) : Type 0 where
  pub in_row : IsInRow (row_of mark.kind) mark
  pub agree : numbers_agree mark ≡ true

-- whether no name stands twice
abbrev pub is_named : List ℕ → List Row → Bool
is_named name [] = false
is_named name (r ∷ rows) = bytes_eq r.name name || is_named name rows

abbrev pub names_differ : List Row → Bool
names_differ [] = true
names_differ (r ∷ rows) = not (is_named r.name rows) && names_differ rows
