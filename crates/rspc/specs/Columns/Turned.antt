-- Each codeword has one column, and each column one codeword.
-- Assumes nothing.
use Rattle.std.specs.Prelude.{◌≡◌, ℕ, ◌<◌}
use Rattle.std.proofs.Common.{arith}
use Rattle.rspc.specs.declared.Parity.{Parity}
use Rattle.rspc.specs.declared.Parity.TheVariants.{P, Q}
use Rattle.rspc.specs.Either.{words_of}
use Rattle.rspc.specs.Columns.{column_of, in_column}

pub column-lt : (parity : Parity) (n : ℕ) → n < words_of parity → column_of parity n < words_of parity
column-lt P n h = omega arith
column-lt Q n h = omega arith

pub in_column_lt : (parity : Parity) (k : ℕ) → k < words_of parity → in_column parity k < words_of parity
in_column_lt P k h = omega arith
in_column_lt Q k h = omega arith

pub word_of_column : (parity : Parity) (n : ℕ) → n < words_of parity → in_column parity (column_of parity n) ≡ n
word_of_column P n h = omega arith
word_of_column Q n h = omega arith

pub column_of_word : (parity : Parity) (k : ℕ) → k < words_of parity → column_of parity (in_column parity k) ≡ k
column_of_word P k h = omega arith
column_of_word Q k h = omega arith
