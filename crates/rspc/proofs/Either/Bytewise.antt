-- The codewords of either parity byte by byte, and that they determine each byte they run over.
-- Assumes nothing.
use Rattle.std.specs.Prelude.{◌≡◌, List, ℕ, ◌<◌, ◌≤◌, length, get_or}
use Rattle.std.proofs.Common.{sym, ap, ◌∙◌, arith}
use Rattle.outcome.specs.Bytes.{Bytes}
use Rattle.rspc.specs.declared.Parity.{Parity}
use Rattle.rspc.specs.declared.Parity.TheVariants.{P, Q}
use Rattle.rspc.specs.Words.P.{length_p, p_at, bytes_p}
use Rattle.rspc.specs.Words.Q.{length_q, q_at, bytes_q}
use Rattle.rspc.specs.Either.{words_of, rows_of, word_of, place_of, end_of}
use Rattle.rspc.specs.Either.Where.{home_of, row_in, stands}

pub words-le : (parity : Parity) → words_of parity ≤ 86
words-le P = omega arith
words-le Q = omega arith

pub rows-le : (parity : Parity) → rows_of parity ≤ 45
rows-le P = omega arith
rows-le Q = omega arith

pub end_from : (parity : Parity) → 12 ≤ end_of parity
end_from P = omega arith
end_from Q = omega arith

pub end_le : (parity : Parity) → end_of parity ≤ 2352
end_le P = omega arith
end_le Q = omega arith

pub word_long : (parity : Parity) (s : List ℕ) (n : ℕ) → length (word_of parity s n) ≡ rows_of parity
word_long P s n = length_p s n
word_long Q s n = length_q s n

pub word_bytes : (parity : Parity) (s : List ℕ) (n : ℕ) → Bytes s → Bytes (word_of parity s n)
word_bytes P s n h = bytes_p s n h
word_bytes Q s n h = bytes_q s n h

pub word_at : (parity : Parity) (s : List ℕ) (n m : ℕ) → m < rows_of parity → get_or (word_of parity s n) m 0 ≡ get_or s (place_of parity n m) 0
word_at P s n m h = p_at s n m h
word_at Q s n m h = q_at s n m h

-- byte i as the codeword in which it stands has it
pub at_home : (parity : Parity) (s : List ℕ) (i : ℕ) → 12 ≤ i → i < end_of parity → get_or (word_of parity s (home_of parity i)) (row_in parity i) 0 ≡ get_or s i 0
at_home parity s i l h =
    let there = stands parity i l h in
    word_at parity s (home_of parity i) (row_in parity i) there.row ∙ ap (λ (k : ℕ). get_or s k 0) there.at

-- Sectors with the same codewords agree on the bytes that these run over
pub covers : (parity : Parity) (s t : List ℕ) → ((n : ℕ) → n < words_of parity → word_of parity s n ≡ word_of parity t n)
    → (i : ℕ) → 12 ≤ i → i < end_of parity → get_or s i 0 ≡ get_or t i 0
covers parity s t same i l h =
    sym (at_home parity s i l h)
    ∙ ap (λ (w : List ℕ). get_or w (row_in parity i) 0) (same (home_of parity i) (stands parity i l h).word) ∙ at_home parity t i l h
