-- Whatever Merging bits are chosen, they are three, each 0 or 1.
-- Assumes nothing.
use Rattle.std.specs.Prelude.{◌≡◌, refl, Bool, List, [], ℕ, zero, suc, ◌<◌, length, get_or}
use Rattle.std.proofs.Common.{arith}
use Rattle.bits.specs.Binary.{Binary}
use Rattle.merging.specs.Chosen.{before_word, before_header}
use Rattle.merging.specs.Chosen.One.{for_word}
use Rattle.merging.specs.Chosen.Better.{word_keeps, header_keeps}

-- each of the four is bits
pub for_word_binary : (j : ℕ) → j < 4 → Binary (get_or for_word j [])
for_word_binary zero h = (omega arith, (omega arith, (omega arith, tt)))
for_word_binary (suc zero) h = (omega arith, (omega arith, (omega arith, tt)))
for_word_binary (suc (suc zero)) h = (omega arith, (omega arith, (omega arith, tt)))
for_word_binary (suc (suc (suc zero))) h = (omega arith, (omega arith, (omega arith, tt)))
for_word_binary (suc (suc (suc (suc j)))) h = absurd (omega arith)

module _ (ok : List ℕ → Bool) (dsv : List ℕ → ℕ) where
  -- those before a word are three
  pub word_three : length (before_word ok dsv) ≡ 3
  word_three = word_keeps ok dsv (λ m. length m ≡ 3) refl refl refl refl

  -- and bits
  pub word_binary : Binary (before_word ok dsv)
  word_binary =
      word_keeps ok dsv Binary (for_word_binary 0 (omega arith)) (for_word_binary 1 (omega arith)) (for_word_binary 2 (omega arith)) (for_word_binary 3 (omega arith))

  -- those before a Sync Header are three
  pub header_three : length (before_header ok dsv) ≡ 3
  header_three = header_keeps ok dsv (λ m. length m ≡ 3) refl refl

  -- and bits
  pub header_binary : Binary (before_header ok dsv)
  header_binary = header_keeps ok dsv Binary (for_word_binary 0 (omega arith)) (for_word_binary 3 (omega arith))
