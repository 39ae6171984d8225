-- The codewords as columns: bytes 12 to 2,247 are 26 rows of 86 bytes, in which LSB and MSB codewords of P alternate; those of Q do in
-- rows of 52 bytes, of which bytes 2,248 to 2,351 are the last two.
-- Assumes nothing.
use Rattle.std.specs.Prelude.{ℕ, ◌+◌, ◌*◌, ◌/◌, ◌%◌}
use Rattle.rspc.specs.declared.Parity.{Parity}
use Rattle.rspc.specs.declared.Parity.TheVariants.{P, Q}
pub mod Turned

-- the column of P codeword n in rows of 86 bytes
abbrev pub p_column : ℕ → ℕ
p_column n = 2 * (n % 43) + n / 43

-- the column of Q codeword n in rows of 52 bytes
abbrev pub q_column : ℕ → ℕ
q_column n = 2 * (n % 26) + n / 26

abbrev pub column_of : Parity → ℕ → ℕ
column_of P n = p_column n
column_of Q n = q_column n

-- the codeword in column k
abbrev pub in_column : Parity → ℕ → ℕ
in_column P k = 43 * (k % 2) + k / 2
in_column Q k = 26 * (k % 2) + k / 2
