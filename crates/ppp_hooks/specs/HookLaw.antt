-- The law of site scripts, over the marks of one link or unit, the oldest first (pppd(8), "Scripts").
-- They may be the later part of a life: b jobs came before it.
use Rattle.std.specs.Prelude.{ℕ, ◌+◌, ◌<◌, ◌≡◌, Bool, true, false, not, List, [], ◌∷◌, ◌++◌, ⊤, count_by}
use Rattle.ppp_hooks.specs.HookMark.{HookMark, Opened, Closed, Started, Ended, is_closing, is_start, is_end, directions}

-- these directions alternate, beginning with this one
abbrev pub Alternate : Bool → List Bool → Type 0
Alternate first [] = ⊤
Alternate first (up ∷ ups) = (up ≡ first) × Alternate (not first) ups

-- an open mark with this number stands among these, and no closed mark behind it
abbrev pub IsOpenAfter : List HookMark → ℕ → Type 0
IsOpenAfter marks n =
    (earlier : List HookMark) × (later : List HookMark) × (marks ≡ earlier ++ Opened n ∷ later) × (count_by is_closing later ≡ 0)

-- the last start among these is this one
abbrev pub LastStartIs : List HookMark → Bool → ℕ → Type 0
LastStartIs marks up n =
    (earlier : List HookMark) × (later : List HookMark) × (marks ≡ earlier ++ Started up n ∷ later) × (count_by is_start later ≡ 0)

-- Before the k-th start stand k - 1 ends. An up names the opening that is open at its place.
-- A down names the opening of the start before it, which is an up and which is not open at its place.
-- The j-th end names job b + j and stands after the j-th start.
abbrev pub IsInPlace : ℕ → List HookMark → HookMark → Type 0
IsInPlace b before (Opened n) = ⊤
IsInPlace b before (Closed n) = ⊤
IsInPlace b before (Started true n) = (count_by is_end before ≡ count_by is_start before) × IsOpenAfter before n
IsInPlace b before (Started false n) =
    (count_by is_end before ≡ count_by is_start before) × LastStartIs before true n × ¬ IsOpenAfter before n
IsInPlace b before (Ended answer job) = (job ≡ b + count_by is_end before + 1) × (count_by is_end before < count_by is_start before)

pub record HookLaw (b : ℕ) (marks : List HookMark) : Type 0 where
  pub alternate : Alternate true (directions marks)
  pub places : (before after : List HookMark) (mark : HookMark) → marks ≡ before ++ mark ∷ after → IsInPlace b before mark
