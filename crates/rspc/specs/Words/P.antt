-- The P words of a Sector: their bytes are from 12 to 2,247.
-- Assumes nothing.
use Rattle.std.specs.Prelude.{◌≡◌, List, ℕ, ◌<◌, length, get_or}
use Rattle.std.proofs.Common.{arith}
use Rattle.outcome.specs.Bytes.{Bytes}
use Rattle.outcome.specs.Table.Entries.{tabulated-at, tabulated-same, length-tabulated, bytes_tabulated}
use Rattle.rspc.specs.Words.{p_words, p_place, p_word, SameCovered}

-- a P word has 26 bytes
pub length_p : (s : List ℕ) (n : ℕ) → length (p_word s n) ≡ 26
unfolding p_word
length_p s n = length-tabulated (λ r. get_or s (p_place n r) 0) 0 26

-- and these are they
pub p_at : (s : List ℕ) (n r : ℕ) → r < 26 → get_or (p_word s n) r 0 ≡ get_or s (p_place n r) 0
unfolding p_word
p_at s n r h = tabulated-at (λ r. get_or s (p_place n r) 0) 26 r h

-- of bytes it is a word of bytes
pub bytes_p : (s : List ℕ) (n : ℕ) → Bytes s → Bytes (p_word s n)
unfolding p_word
bytes_p s n h = bytes_tabulated (λ r. get_or s (p_place n r) 0) 0 26 (λ r. h (p_place n r))

-- a P codeword takes its bytes from 12 to 2,247
pub p_same : (s t : List ℕ) (n : ℕ) → n < p_words → SameCovered s t → p_word s n ≡ p_word t n
unfolding p_word
p_same s t n h c =
    tabulated-same (λ r. get_or s (p_place n r) 0) (λ r. get_or t (p_place n r) 0) 26
    (λ r l. c (p_place n r) (omega arith) (omega arith))
