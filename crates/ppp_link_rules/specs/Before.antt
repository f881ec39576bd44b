-- What came before a part of a link's log. Where a log has a whole life, nothing did.
use Rattle.std.specs.Prelude.{ℕ}

-- how many attempts, failures in a row, openings of LCP, stays and starts of scripts
pub record Before : Type 0 where
  pub sessions : ℕ
  pub failures : ℕ
  pub openings : ℕ
  pub stays : ℕ
  pub starts : ℕ

abbrev pub nothing_before : Before
nothing_before = record { sessions = 0; failures = 0; openings = 0; stays = 0; starts = 0 }
