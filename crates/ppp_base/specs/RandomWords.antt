-- The generator of random words.
use Rattle.std.specs.Prelude.{ℕ, zero, suc, ◌+◌, ◌*◌, ◌/◌, ◌%◌, ◌^◌, List, ◌++◌}
use Rattle.std.specs.Int.{w32, to_be_bytes}

-- the state after the next word
abbrev pub next_state : ℕ → ℕ
next_state s = (s * 6364136223846793005 + 1442695040888963407) % 2 ^ 64

-- the next word: the high half of the state after it
abbrev pub next_word : ℕ → ℕ
next_word s = next_state s / 2 ^ 32

abbrev pub word_step : ℕ → ℕ × ℕ
word_step s = (next_word s, next_state s)

-- the state after so many words
abbrev pub state_after : ℕ → ℕ → ℕ
state_after zero s = s
state_after (suc words) s = state_after words (next_state s)

-- word k behind a state, the first is word 0
abbrev pub word_at : ℕ → ℕ → ℕ
word_at k s = next_word (state_after k s)

-- the state that the next two words make
abbrev pub branch_of : ℕ → ℕ
branch_of s = word_at 0 s * 2 ^ 32 + word_at 1 s

-- the sixteen octets of the next four words
abbrev pub challenge_of : ℕ → List ℕ
challenge_of s = to_be_bytes w32 (word_at 0 s) ++ (to_be_bytes w32 (word_at 1 s) ++ (to_be_bytes w32 (word_at 2 s) ++ to_be_bytes w32 (word_at 3 s)))
