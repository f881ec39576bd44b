-- That the scripts agree with the protocol while none runs, over the marks of one link or unit, the oldest first (pppd(8), "Scripts").
use Rattle.std.specs.Prelude.{ℕ, ◌≡◌, ◌⊎◌, Bool, true, false, List, ◌∷◌, ◌++◌, count_by}
use Rattle.ppp_hooks.specs.HookMark.{HookMark, Opened, is_opening, is_start, is_end}
use Rattle.ppp_hooks.specs.HookLaw.{LastStartIs}

-- as many ends as starts stand
abbrev pub NoneRuns : List HookMark → Type 0
NoneRuns marks = count_by is_end marks ≡ count_by is_start marks

-- the last opening among these is this one
abbrev pub IsPresentOpening : List HookMark → ℕ → Type 0
IsPresentOpening marks n =
    (earlier : List HookMark) × (later : List HookMark) × (marks ≡ earlier ++ Opened n ∷ later) × (count_by is_opening later ≡ 0)

-- While no script runs, the last start is an up of the present opening if the protocol is open,
-- and a down or none if it is closed.
pub record Settled (marks : List HookMark) (is_open : Bool) : Type 0 where
  pub while_open : is_open ≡ true → NoneRuns marks → (n : ℕ) × IsPresentOpening marks n × LastStartIs marks true n
  pub while_closed : is_open ≡ false → NoneRuns marks → (count_by is_start marks ≡ 0) ⊎ ((n : ℕ) × LastStartIs marks false n)
