-- Parity (Annex A, Annex C.7): J bytes that make a codeword of the word in which they stand. For two places in a row
-- with J = 2, and for four in a row with J = 4, there are such bytes (Parity/Exists) and only one choice of them (Parity/One).
-- Assumes nothing.
use Rattle.std.specs.Prelude.{◌≡◌, List, ℕ, ◌<◌, length, get_or}
use Rattle.outcome.specs.Bytes.{Bytes}
use Rattle.codeword.specs.Code.{sum, Codeword}
pub mod Dot
pub mod LinearForms
pub mod Solve
pub mod One
pub mod Exists

-- p are bytes, one for each number of t, and their first sums are t
pub record WithSums (t p : List ℕ) : Type 0 where
  pub long : length p ≡ length t
  pub bytes : Bytes p
  pub sums : (j : ℕ) → j < length t → sum j p ≡ get_or t j 0

-- p are the parity bytes of the codeword w
pub record Parity (J : ℕ) (p w : List ℕ) : Type 0 where
  pub long : length p ≡ J
  pub bytes : Bytes p
  pub code : Codeword J w
