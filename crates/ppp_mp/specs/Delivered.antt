-- Which packets are given of what has reached a bundle, and what is counted (after RFC 1990, section 4.1; the exact rule
-- is this project's own).
use Rattle.std.specs.Prelude.{◌≡◌, ◌≢◌, ℕ, ◌+◌, ◌-◌, ◌%◌, ◌/◌, ◌<◌, ◌≤◌, ◌==◌, zero, suc, max, min, nat_lt, not, Bool, if◌then◌else◌, List, [], ◌∷◌, ◌++◌, length, Option, None, Some, IsSome, is_some, slice_index_or, slice_set, replicate, unwrap_or}
use Rattle.std.specs.List.{fold}
use Rattle.ppp_mp.specs.Pieces.{Piece, piece_at, joined, Begun}
use Rattle.ppp_mp.specs.declared.counts.PieceNow.{PieceNow}
use Rattle.ppp_mp.specs.declared.counts.PieceNow.TheVariants.{Kept, Old, Doubled, Stranger, BadHeader}

-- a piece as it arrives, with its number modulo the number space
pub record Fragment : Type 0 where
  pub field : ℕ
  pub first : Bool
  pub last : Bool
  pub octets : List ℕ

-- what reaches a bundle, and who joins and leaves it
pub data Entry : Type 0 where
  Joins : (link : ℕ) → Entry
  Leaves : (link : ℕ) → Entry
  Comes : (link : ℕ) (fragment : Fragment) → Entry

pub record Gathering : Type 0 where
  -- e, the least number that isn't settled
  pub least : ℕ
  -- every piece that was kept; those below the least number are settled
  pub kept : List Piece
  -- for each link the greatest number that it has brought, where it is a member
  pub brought : List (Option ℕ)
  -- the packets that were given, in order
  pub given : List (List ℕ)
  pub old : ℕ
  pub doubled : ℕ
  -- how many settled numbers are in no complete run
  pub lost : ℕ
  -- how many complete runs were longer than our MRRU plus 2
  pub too_long : ℕ

-- Nothing has come. Number 0 is expected, which stands raised by the number space.
abbrev pub nothing : (space : ℕ) → Gathering
nothing space = record { least = space; kept = []; brought = replicate 16 None; given = []; old = 0; doubled = 0; lost = 0; too_long = 0 }

abbrev pub lesser : Option ℕ → Option ℕ → Option ℕ
lesser None other = other
lesser (Some n) None = Some n
lesser (Some n) (Some m) = Some (min n m)

abbrev pub lowest : List (Option ℕ) → Option ℕ
lowest numbers = fold lesser None numbers

-- M: the least, over the present members, of the greatest number that each has brought; the least number that isn't
-- settled where no member is present
abbrev pub mark : Gathering → ℕ
mark s = unwrap_or (lowest s.brought) s.least

-- The next so many numbers are settled, in no complete run.
abbrev pub loses : Gathering → ℕ → Gathering
loses s count = record s { least = s.least + count; lost = s.lost + count }

-- The next so many numbers are settled as a complete run.
abbrev pub completes : (mrru : ℕ) → Gathering → ℕ → Gathering
completes mrru s count =
    if nat_lt (mrru + 2) (length (joined s.kept s.least count))
    then record s { least = s.least + count; too_long = s.too_long + 1 }
    else record s { least = s.least + count; given = s.given ++ joined s.kept s.least count ∷ [] }

-- whether a piece goes on with a run of so many: it has B exactly where it is the first
abbrev pub goes_on : Piece → ℕ → Bool
goes_on p len = if len == 0 then p.first else not p.first

-- The rules. Where len pieces from the least number on begin a packet, it depends on what stands behind them:
-- a missing number below the bound is lost with the run, a piece that ends the packet completes it, and a run is
-- thrown away up to a B, as is a piece without B that begins none. Else no rule applies.
abbrev pub ruled : (mrru bound : ℕ) → Gathering → ℕ → Option Piece → Option Gathering
ruled mrru bound s len None = if nat_lt (s.least + len) bound then Some (loses s (len + 1)) else None
ruled mrru bound s len (Some p) =
    if goes_on p len
    then (if p.last then Some (completes mrru s (len + 1)) else None)
    else Some (loses s (max len 1))

abbrev pub behind : Gathering → ℕ → Option Piece
behind s len = piece_at (s.least + len) s.kept

-- one rule is applied
pub record Rule (mrru bound : ℕ) (s new : Gathering) : Type 0 where
  pub len : ℕ
  pub begun : Begun s.kept s.least len
  pub applies : ruled mrru bound s len (behind s len) ≡ Some new

-- no rule applies
abbrev pub AtRest : (mrru bound : ℕ) → Gathering → Type 0
AtRest mrru bound s = (len : ℕ) → Begun s.kept s.least len → ruled mrru bound s len (behind s len) ≡ None

-- so many rules are applied, one after another
abbrev pub Rules : (mrru bound : ℕ) → Gathering → ℕ → Gathering → Type 0
Rules mrru bound s zero new = new ≡ s
Rules mrru bound s (suc count) new = (mid : Gathering) × Rules mrru bound s count mid × Rule mrru bound mid new

-- rules are applied until none does
pub record Settles (mrru bound : ℕ) (s new : Gathering) : Type 0 where
  pub count : ℕ
  pub rules : Rules mrru bound s count new
  pub rest : AtRest mrru bound new

-- the full number of a piece, within half the number space of the least number that isn't settled
pub record IsFull (space least field n : ℕ) : Type 0 where
  pub same : n % space ≡ field % space
  pub above : least ≤ n + space / 2
  pub below : n < least + space / 2

abbrev pub IsMember : Gathering → ℕ → Type 0
IsMember s link = IsSome (slice_index_or s.brought (link - 1) None)

-- the link has brought this number too
abbrev pub brings : Gathering → (link n : ℕ) → Gathering
brings s link n = record s { brought = slice_set s.brought (link - 1) (Some (max n (unwrap_or (slice_index_or s.brought (link - 1) None) 0))) }

-- A link that joins counts as having brought the number before the least that isn't settled. A member stays as it is.
abbrev pub joins : Gathering → ℕ → Gathering
joins s link =
    if is_some (slice_index_or s.brought (link - 1) None) then s
    else record s { brought = slice_set s.brought (link - 1) (Some (s.least - 1)) }

abbrev pub leaves : Gathering → ℕ → Gathering
leaves s link = record s { brought = slice_set s.brought (link - 1) None }

-- every number below this is settled, in no complete run
abbrev pub thrown_to : ℕ → Gathering → Gathering
thrown_to n s = loses s (n - s.least)

abbrev pub keeps_piece : Piece → Gathering → Gathering
keeps_piece p s = record s { kept = p ∷ s.kept }

-- A piece that is new is kept. Before, the rules are applied with every missing number below n - 127 counted as
-- below M, and every number that is left below n - 127 is thrown away.
pub record Keeps (mrru : ℕ) (s : Gathering) (link : ℕ) (p : Piece) (new : Gathering) : Type 0 where
  pub mid : Gathering
  pub before : Settles mrru (max (mark s) (p.number - 127)) s mid
  pub after : let now = brings (keeps_piece p (thrown_to (p.number - 127) mid)) link p.number in Settles mrru (mark now) now new

-- what becomes of a piece, with its full number, that a member brings, and what is answered
abbrev pub Answered : (mrru : ℕ) → Gathering → (link : ℕ) → Piece → PieceNow → Gathering → Type 0
Answered mrru s link p Old new =
    let now = record (brings s link p.number) { old = s.old + 1 } in
    (p.number < s.least) × Settles mrru (mark now) now new
Answered mrru s link p Doubled new =
    let now = record (brings s link p.number) { doubled = s.doubled + 1 } in
    (s.least ≤ p.number) × (piece_at p.number s.kept ≢ None) × Settles mrru (mark now) now new
Answered mrru s link p Kept new = (s.least ≤ p.number) × (piece_at p.number s.kept ≡ None) × Keeps mrru s link p new
Answered mrru s link p Stranger new = ⊥
Answered mrru s link p BadHeader new = ⊥

abbrev pub numbered : ℕ → Fragment → Piece
numbered n fragment = record { number = n; first = fragment.first; last = fragment.last; octets = fragment.octets }

-- A member's piece is taken.
pub record TakesOf (space mrru : ℕ) (s : Gathering) (link : ℕ) (fragment : Fragment) (answer : PieceNow) (new : Gathering) : Type 0 where
  pub number : ℕ
  pub full : IsFull space s.least fragment.field number
  pub answered : Answered mrru s link (numbered number fragment) answer new

-- A piece comes. Where its link is no member, nothing changes.
pub record Takes (space mrru : ℕ) (s : Gathering) (link : ℕ) (fragment : Fragment) (answer : PieceNow) (new : Gathering) : Type 0 where
  pub member : IsMember s link → TakesOf space mrru s link fragment answer new
  pub stranger : ¬ (IsMember s link) → (answer ≡ Stranger) × (new ≡ s)

-- A link leaves, which may raise M. Where it is no member, nothing changes.
pub record Left (mrru : ℕ) (s : Gathering) (link : ℕ) (new : Gathering) : Type 0 where
  pub member : IsMember s link → Settles mrru (mark (leaves s link)) (leaves s link) new
  pub stranger : ¬ (IsMember s link) → new ≡ s

-- what has reached a bundle, newest first, leaves this
abbrev pub Delivered : (space mrru : ℕ) → List Entry → Gathering → Type 0
Delivered space mrru [] new = new ≡ nothing space
Delivered space mrru (Joins link ∷ past) new = (s : Gathering) × Delivered space mrru past s × (new ≡ joins s link)
Delivered space mrru (Leaves link ∷ past) new = (s : Gathering) × Delivered space mrru past s × Left mrru s link new
Delivered space mrru (Comes link fragment ∷ past) new =
    (s : Gathering) × Delivered space mrru past s × (answer : PieceNow) × Takes space mrru s link fragment answer new
