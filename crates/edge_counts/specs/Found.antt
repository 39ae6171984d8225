-- The two bytes of an edge are its count.
-- Assumes nothing.
use Rattle.std.specs.Prelude.{◌≡◌, ℕ, ◌+◌, ◌*◌, ◌/◌, ◌<◌, ◌≤◌, List, length, slice_index}
use Rattle.std.proofs.Common.{sym, ◌∙◌, arith}
use Rattle.std.proofs.Math.ListN.{get_or-eq_default}
use Rattle.captures.specs.Counts.{counts_of}
use Rattle.captures.specs.Counts.Bytes.{length_counts}
use Rattle.captures.proofs.Counts.Places.{count_at}

pub no_count : (w : List ℕ) (i : ℕ) → length w / 2 ≤ i → 0 ≡ slice_index (counts_of w) i
no_count w i h = sym (get_or-eq_default (counts_of w) 0 (omega (arith, length_counts w)))

pub a_count : (w : List ℕ) (i r : ℕ) → i < length w / 2 → r ≡ 256 * slice_index w (2 * i) + slice_index w (2 * i + 1) → r ≡ slice_index (counts_of w) i
a_count w i r h e = e ∙ sym (count_at w i (omega arith))
