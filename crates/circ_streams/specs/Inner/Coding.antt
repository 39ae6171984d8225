-- What the laws over streams ask of the two codes, whatever they are: C says of a word that it is a codeword.
-- Assumes nothing.
use Rattle.std.specs.Prelude.{◌≡◌, List, ℕ, length, replicate}
use Rattle.outcome.specs.Bytes.{Bytes}
use Rattle.circ.specs.Chains.{with_q, with_p}

-- q and p give four bytes each that make codewords
pub record Coding (C : List ℕ → Type 0) (q p : List ℕ → List ℕ) : Type 0 where
  pub four_q : (w : List ℕ) → length (q w) ≡ 4
  pub four_p : (w : List ℕ) → length (p w) ≡ 4
  pub bytes_q : (w : List ℕ) → Bytes w → Bytes (q w)
  pub bytes_p : (w : List ℕ) → Bytes w → Bytes (p w)
  pub code_q : (w : List ℕ) → length w ≡ 28 → Bytes w → C (with_q q w)
  pub code_p : (w : List ℕ) → length w ≡ 28 → Bytes w → C (with_p p w)

-- a codeword stays as it is, and is not marked; zeros are a codeword
pub record Correcting (C : List ℕ → Type 0) (fix₁ fix₂ : List ℕ → List ℕ) (mark : List ℕ → ℕ) : Type 0 where
  pub zeros : (n : ℕ) → C (replicate n 0)
  pub keeps₁ : (w : List ℕ) → length w ≡ 32 → Bytes w → C w → fix₁ w ≡ w
  pub keeps₂ : (w : List ℕ) → length w ≡ 28 → Bytes w → C w → fix₂ w ≡ w
  pub sure : (w : List ℕ) → length w ≡ 28 → Bytes w → C w → mark w ≡ 0
