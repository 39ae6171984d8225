-- One more is counted as long as there is room.
-- Assumes nothing.
use Rattle.std.specs.Prelude.{◌≡◌, ℕ, ◌+◌, ◌<◌}
use Rattle.std.proofs.Common.{lt-ltb}
use Rattle.fate_counts.specs.declared.Counts.{Counts}
use Rattle.fate_counts.specs.Counting.{largest, one_more_of}

pub same_counts : (a b : Counts) → a.sectors ≡ b.sectors → a.clean ≡ b.clean → a.repaired ≡ b.repaired → a.refused ≡ b.refused
    → a ≡ b
same_counts a b p q r s = λ i. record { sectors = p i; clean = q i; repaired = r i; refused = s i }

pub one_more : (n : ℕ) → n < largest → one_more_of n ≡ n + 1
unfolding one_more_of
one_more n h = simp (lt-ltb _ _ h)
