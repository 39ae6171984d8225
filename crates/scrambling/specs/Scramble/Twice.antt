-- Laws of scrambling: the Sync is left, each other byte is added to its byte of the sequence, and twice gives the Sector again.
-- Assumes nothing.
use Rattle.std.specs.Prelude.{◌≡◌, ℕ, length, drop}
use Rattle.std.proofs.Math.Path.{ap, ap₂}
use Rattle.std.proofs.Common.{◌∙◌, le_of_eq, arith, length-take-le}
use mathlib.Core.List.{List, [], ◌++◌}
use Rattle.std.proofs.Math.ListN.{take, take-append-drop, length-append, length-drop}
use Rattle.std.proofs.Math.Seq.{take_at, drop_at}
use Rattle.outcome.specs.Bytes.{Bytes}
use Rattle.outcome.specs.Bytes.Kept.{bytes_append, bytes_take, bytes_drop}
use Rattle.outcome.specs.Say.{done, outcome}
use Rattle.xor.specs.Added.{added}
use Rattle.xor.specs.Added.Places.{length-added, added_twice, bytes_added}
use Rattle.entry.specs.Entry.WaysOut.{taken_back}
use Rattle.sequence.specs.Sequence.Follows.{length-sequence, bytes_sequence}
use Rattle.sequence.specs.Sequence.{sequence}
use Rattle.scrambling.specs.Scramble.{scrambled, scrambling}

pub bytes_scrambled : (s : List ℕ) → Bytes s → Bytes (scrambled s)
unfolding scrambled
bytes_scrambled s h = bytes_append (take 12 s) (added (drop 12 s) sequence) (bytes_take 12 s h) (bytes_added (drop 12 s) sequence (bytes_drop 12 s h) bytes_sequence)

module _ (s : List ℕ) (whole : length s ≡ 2352) where
  as_long : length (drop 12 s) ≡ length sequence
  as_long = omega (arith, length-drop 12 s, length-sequence)

  sync_long : length (take 12 s) ≡ 12
  sync_long = length-take-le 12 s (omega arith)

  pub length-scrambled : length (scrambled s) ≡ 2352
  unfolding scrambled
  length-scrambled =
      omega (arith, length-append (take 12 s) (added (drop 12 s) sequence), sync_long, length-added (drop 12 s) sequence as_long, length-drop 12 s)

  -- the Sync is left
  pub sync-left : take 12 (scrambled s) ≡ take 12 s
  unfolding scrambled
  sync-left = take_at (take 12 s) (added (drop 12 s) sequence) 12 sync_long

  pub rest_added : drop 12 (scrambled s) ≡ added (drop 12 s) sequence
  unfolding scrambled
  rest_added = drop_at (take 12 s) (added (drop 12 s) sequence) 12 sync_long

  -- scrambling twice gives the same bytes
  pub scrambled-twice : scrambled (scrambled s) ≡ s
  unfolding scrambled
  scrambled-twice =
      ap₂ (λ (a b : List ℕ). a ++ added b sequence) sync-left rest_added
      ∙ ap (λ (b : List ℕ). take 12 s ++ b) (added_twice (drop 12 s) sequence (le_of_eq as_long))
      ∙ take-append-drop 12 s

-- what `scramble` makes of what it made is the Sector
pub scrambling-twice : (s a b : List ℕ) → length s ≡ 2352 → length a ≡ 2352 → length b ≡ 2352
    → scrambling (scrambling s a).out b ≡ outcome (done []) s
scrambling-twice s a b = taken_back scrambled scrambled length-scrambled scrambled-twice s a b
