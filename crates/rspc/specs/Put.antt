-- Parity put into a Sector (Annex A): P into bytes 2,076 to 2,247, which makes codewords of all P words, and Q into bytes 2,248 to
-- 2,351, which makes codewords of all Q words. No other byte changes.
-- Assumes nothing.
use Rattle.std.specs.Prelude.{◌≡◌, Bool, true, List, ℕ, length, take, drop}
use Rattle.rspc.specs.Words.{PCodewords, QCodewords}
use Rattle.rspc.specs.Place.{InPlace}

-- t is the Sector s with its P parity put right
pub record PPut (s t : List ℕ) : Type 0 where
  pub long : length t ≡ length s
  pub before : take 2076 t ≡ take 2076 s
  pub after : drop 2248 t ≡ drop 2248 s
  pub words : PCodewords t

-- t is the Sector s with its Q parity put right
pub record QPut (s t : List ℕ) : Type 0 where
  pub long : length t ≡ length s
  pub before : take 2248 t ≡ take 2248 s
  pub words : QCodewords t

-- in place
abbrev pub PutP : List ℕ → Bool → List ℕ → Type 0
PutP = InPlace (λ s r t. (r ≡ true) × PPut s t)

abbrev pub PutQ : List ℕ → Bool → List ℕ → Type 0
PutQ = InPlace (λ s r t. (r ≡ true) × QPut s t)
