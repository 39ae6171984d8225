-- The only Sector that can be sought (document 01, "P and Q"): what came in with each P codeword mended, Sync put right and Q worked out afresh.
-- Assumes nothing.
use Rattle.std.specs.Prelude.{◌≡◌, Bool, false, List, ℕ, ◌<◌, length, take}
use Rattle.outcome.specs.Bytes.{Bytes}
use Rattle.codeword.specs.Code.{Near}
use Rattle.rspc.specs.Words.{p_words, p_word, QCodewords}
use Rattle.rspc.specs.declared.Parity.TheVariants.{P}
use Rattle.rspc.specs.Pass.{Passed}
use Rattle.rspc.specs.PassInPlace.{each_near}
use Rattle.sector.specs.Layout.{sync}
use Rattle.trial.specs.Tried.{Tried}
pub mod Mended
pub mod One

-- s is what came in, r, after the pass over its P codewords, as it is tried
pub record Made (r s : List ℕ) : Type 0 where
  pub mended : List ℕ
  pub passed : Passed P r mended
  pub tried : Tried mended s

-- what is answered for r, and made of the Sector `old`
pub record FoundFor (r old : List ℕ) (near : Bool) (s : List ℕ) : Type 0 where
  pub sector : length r ≡ 2352 → (near ≡ each_near P r) × Made r s
  pub other : (length r ≡ 2352 → ⊥) → (near ≡ false) × (s ≡ old)

-- what it then is: each of its P codewords is the one near, and so is every other field that parity settles
pub record Candidate (r s : List ℕ) : Type 0 where
  pub long : length s ≡ 2352
  pub bytes : Bytes s
  pub synced : take 12 s ≡ sync
  pub p : (n : ℕ) → n < p_words → Near 2 (p_word r n) (p_word s n)
  pub q : QCodewords s
