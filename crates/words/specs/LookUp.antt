-- The byte of a word by a guide: a list with a byte for each remainder by 1,351. No two words leave the same remainder, so the byte under the
-- remainder of 14 bits is the only one whose word they can be.
-- Assumes nothing.
use Rattle.std.specs.Prelude.{◌≡◌, cond, List, ℕ, ◌<◌, ◌%◌, eqb, length, get_or, Option, Some, None}
use Rattle.words.specs.Words.{word_of}
pub mod One
pub mod Finds

-- no word leaves the remainder i
abbrev pub Free : ℕ → Type 0
Free i = (b : ℕ) → b < 256 → word_of b % 1351 ≡ i → ⊥

-- a guide has each byte under the remainder of its word, and 0 under each other remainder
pub record Guide (g : List ℕ) : Type 0 where
  pub long : length g ≡ 1351
  pub leads : (b : ℕ) → b < 256 → get_or g (word_of b % 1351) 0 ≡ b
  pub free : (i : ℕ) → Free i → get_or g i 0 ≡ 0

-- the byte that the guide has for w, if w stands there in the table
abbrev pub looked_up : List ℕ → List ℕ → ℕ → Option ℕ
looked_up ws g w = cond (eqb (get_or ws (get_or g (w % 1351) 0) 0) w) (Some (get_or g (w % 1351) 0)) None
