-- The table follows document 01's rules at (48) to (6A): one test over the 35 bytes.
-- Assumes nothing.
use Rattle.std.specs.Prelude.{◌≡◌, Bool, ℕ, ◌+◌, ◌-◌, ◌≤◌, T, eqb}
use Rattle.std.proofs.Common.{subst, arith, eqb→eq}
use Rattle.outcome.specs.Table.{all_below}
use Rattle.outcome.specs.Table.Entries.{below}
use Rattle.words.specs.Words.{words, word_of}
use Rattle.words.specs.Restored.{restored}

follows : ℕ → Bool
follows k = eqb (word_of (0x48 + k)) (restored (0x48 + k))

all_follow : T (all_below follows 35)
unfolding follows words restored
all_follow = tt

-- each of these words is the one that the rules give
pub word_restored : (b : ℕ) → 0x48 ≤ b → b ≤ 0x6A → word_of b ≡ restored b
unfolding follows
word_restored b l h =
    let k = b - 0x48 in
    let e : 0x48 + k ≡ b = omega arith in
    subst (λ (n : ℕ). word_of n ≡ restored n) e (eqb→eq (word_of (0x48 + k)) (restored (0x48 + k)) (below follows 35 all_follow k (omega arith)))
