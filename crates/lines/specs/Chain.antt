-- Three stages of delays one after the other (Annex C.1), their lines in one flat store, with a function before each: in writing the order of rows, C2 and C1.
-- Assumes nothing.
use Rattle.std.specs.Prelude.{ℕ, zero, suc, ◌+◌, List, ◌++◌, take, drop, replicate}
use Rattle.lines.specs.Delay.{rows_out, rows_next, total}
pub mod Fresh

module _ (d₁ d₂ d₃ : List ℕ) (g₁ g₂ g₃ : List ℕ → List ℕ) where
  -- the lines of each stage
  abbrev pub lines₁ : List ℕ → List ℕ
  lines₁ s = take (total d₁) s

  abbrev pub lines₂ : List ℕ → List ℕ
  lines₂ s = take (total d₂) (drop (total d₁) s)

  abbrev pub lines₃ : List ℕ → List ℕ
  lines₃ s = take (total d₃) (drop (total d₁ + total d₂) s)

  -- what goes into the second and into the third stage
  abbrev pub word₂ : List ℕ → List ℕ → List ℕ
  word₂ s x = g₂ (rows_out d₁ (lines₁ s) (g₁ x))

  abbrev pub word₃ : List ℕ → List ℕ → List ℕ
  word₃ s x = g₃ (rows_out d₂ (lines₂ s) (word₂ s x))

  -- what a step gives
  unfoldable pub chain_out : List ℕ → List ℕ → List ℕ
  chain_out s x = rows_out d₃ (lines₃ s) (word₃ s x)

  -- the store after it
  unfoldable pub chain_next : List ℕ → List ℕ → List ℕ
  chain_next s x = rows_next d₁ (lines₁ s) (g₁ x) ++ (rows_next d₂ (lines₂ s) (word₂ s x) ++ rows_next d₃ (lines₃ s) (word₃ s x))

  -- the store before step n, from a fresh one
  unfoldable pub chain_at : (ℕ → List ℕ) → ℕ → List ℕ
  chain_at f zero = replicate (total d₁ + (total d₂ + total d₃)) 0
  chain_at f (suc n) = chain_next (chain_at f n) (f n)
