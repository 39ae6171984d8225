-- The Q words of a Sector: the last two bytes of each, its parity, are from 2,248 to 2,351, and the others from 12 to 2,247.
-- Assumes nothing.
use Rattle.std.specs.Prelude.{◌≡◌, List, ℕ, ◌+◌, ◌-◌, ◌*◌, ◌%◌, ◌<◌, ◌≤◌, length, get_or}
use Rattle.std.proofs.Common.{sym, ◌∙◌, arith, lt-ltb, le-ltb}
use Rattle.outcome.specs.Bytes.{Bytes}
use Rattle.outcome.specs.Table.Entries.{tabulated-at, length-tabulated, bytes_tabulated}
use Rattle.rspc.specs.Words.{q_number, q_words, q_place, q_word, SameCovered}

-- a Q word has 45 bytes
pub length_q : (s : List ℕ) (n : ℕ) → length (q_word s n) ≡ 45
unfolding q_word
length_q s n = length-tabulated (λ m. get_or s (q_place n m) 0) 0 45

-- and these are they
pub q_at : (s : List ℕ) (n m : ℕ) → m < 45 → get_or (q_word s n) m 0 ≡ get_or s (q_place n m) 0
unfolding q_word
q_at s n m h = tabulated-at (λ m. get_or s (q_place n m) 0) 45 m h

-- of bytes it is a word of bytes
pub bytes_q : (s : List ℕ) (n : ℕ) → Bytes s → Bytes (q_word s n)
unfolding q_word
bytes_q s n h = bytes_tabulated (λ m. get_or s (q_place n m) 0) 0 45 (λ m. h (q_place n m))

-- the words before the parity, and the two of the parity
pub q_data : (d m : ℕ) → m < 43 → q_number d m ≡ (44 * m + 43 * d) % 1118
q_data d m h = rw (lt-ltb m 43 h)

pub q_parity : (d m : ℕ) → 43 ≤ m → q_number d m ≡ 1118 + 26 * (m - 43) + d
q_parity d m h = rw (le-ltb m 43 h)

-- the bytes of a Q codeword before its parity are from 12 to 2,247
pub q_front : (s t : List ℕ) (n m : ℕ) → n < q_words → m < 43 → SameCovered s t → get_or (q_word s n) m 0 ≡ get_or (q_word t n) m 0
q_front s t n m h l c =
    q_at s n m (omega arith)
    ∙ c (q_place n m) (omega arith) (omega (arith, q_data (n % 26) m l))
    ∙ sym (q_at t n m (omega arith))
