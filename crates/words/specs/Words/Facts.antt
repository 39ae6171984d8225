-- The facts of Annex D's table, each by one test that antt computes over all 256 words.
-- Assumes nothing.
use Rattle.std.specs.Prelude.{◌≡◌, refl, not, ℕ, ◌<◌, ◌^◌, T, eqb, ltb, length}
use Rattle.std.proofs.Common.{ltb→lt, T_not}
use Rattle.std.proofs.Math.Dec.{eqb_refl}
use Rattle.outcome.specs.Table.{all_below}
use Rattle.outcome.specs.Table.Entries.{below}
use Rattle.bits.specs.Bits.{bits_of}
use Rattle.words.specs.Words.{words, word_of, sync0, sync1}
use Rattle.words.specs.RunRule.{runs}

-- there is one for each byte
pub how_many_lem : length words ≡ 256
unfolding words
how_many_lem = refl

all_14 : T (all_below (λ b. ltb (word_of b) 16384) 256)
unfolding words
all_14 = tt

-- each word has 14 bits
pub word_14 : (b : ℕ) → b < 256 → word_of b < 2 ^ 14
word_14 b h = ltb→lt (word_of b) 16384 (below (λ b. ltb (word_of b) 16384) 256 all_14 b h)

-- ---- neither SYNC is a word

ne : (x y : ℕ) → T (not (eqb x y)) → x ≡ y → ⊥
ne x y t e = T_not (eqb x y) t (rw e (eqb_refl y))

none-sync0 : T (all_below (λ b. not (eqb (word_of b) sync0)) 256)
unfolding words
none-sync0 = tt

none-sync1 : T (all_below (λ b. not (eqb (word_of b) sync1)) 256)
unfolding words
none-sync1 = tt

-- SYNC 0 is not
pub not-sync0 : (b : ℕ) → b < 256 → word_of b ≡ sync0 → ⊥
not-sync0 b h = ne (word_of b) sync0 (below (λ b. not (eqb (word_of b) sync0)) 256 none-sync0 b h)

-- and SYNC 1 is not
pub not-sync1 : (b : ℕ) → b < 256 → word_of b ≡ sync1 → ⊥
not-sync1 b h = ne (word_of b) sync1 (below (λ b. not (eqb (word_of b) sync1)) 256 none-sync1 b h)

all_runs : T (all_below (λ b. runs (bits_of 14 (word_of b))) 256)
unfolding words
all_runs = tt

-- in each word there are two to ten ZEROs between ONEs
pub word_runs : (b : ℕ) → b < 256 → T (runs (bits_of 14 (word_of b)))
word_runs b h = below (λ b. runs (bits_of 14 (word_of b))) 256 all_runs b h
