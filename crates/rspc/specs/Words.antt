-- RSPC (Annex A): the words of a Sector and the P and Q codewords that run over them.
-- Assumes nothing.
use Rattle.std.specs.Prelude.{◌≡◌, cond, List, ℕ, ◌+◌, ◌-◌, ◌*◌, ◌/◌, ◌%◌, ◌<◌, ◌≤◌, ltb, get_or}
use Rattle.outcome.specs.Table.{tabulated}
use Rattle.codeword.specs.Code.{Codeword}
pub mod P
pub mod Q

-- word n, 0 to 1,169, has its LSB (half 0) in byte 2n + 12 of the Sector and its MSB (half 1) in byte 2n + 13
abbrev pub place : ℕ → ℕ → ℕ
place half n = 2 * n + 12 + half

-- the word in row r, 0 to 25, of P codeword c, 0 to 42
abbrev pub p_number : ℕ → ℕ → ℕ
p_number c r = 43 * r + c

-- the word at place m, 0 to 44, of Q codeword d, 0 to 25: the last two are parity
abbrev pub q_number : ℕ → ℕ → ℕ
q_number d m = cond (ltb m 43) ((44 * m + 43 * d) % 1118) (1118 + 26 * (m - 43) + d)

-- the code runs once over LSBs and once over MSBs: so many codewords there are
abbrev pub p_words : ℕ
p_words = 86

abbrev pub q_words : ℕ
q_words = 52

-- byte r of P codeword n of a Sector as judging counts them: 0 to 42 run over LSBs, 43 to 85 over MSBs
abbrev pub p_place : ℕ → ℕ → ℕ
p_place n r = place (n / 43) (p_number (n % 43) r)

-- byte m of Q codeword n: 0 to 25 run over LSBs, 26 to 51 over MSBs
abbrev pub q_place : ℕ → ℕ → ℕ
q_place n m = place (n / 26) (q_number (n % 26) m)

unfoldable pub p_word : List ℕ → ℕ → List ℕ
p_word s n = tabulated (λ r. get_or s (p_place n r) 0) 0 26

unfoldable pub q_word : List ℕ → ℕ → List ℕ
q_word s n = tabulated (λ m. get_or s (q_place n m) 0) 0 45

-- all P words of a Sector are codewords, and all Q words
abbrev pub PCodewords : List ℕ → Type 0
PCodewords s = (n : ℕ) → n < p_words → Codeword 2 (p_word s n)

abbrev pub QCodewords : List ℕ → Type 0
QCodewords s = (n : ℕ) → n < q_words → Codeword 2 (q_word s n)

-- two Sectors agree on bytes 12 to 2,247, which the P words run over, and on bytes 2,248 to 2,351, the Q parity
abbrev pub SameCovered : List ℕ → List ℕ → Type 0
SameCovered s t = (i : ℕ) → 12 ≤ i → i < 2248 → get_or s i 0 ≡ get_or t i 0

abbrev pub SameQParity : List ℕ → List ℕ → Type 0
SameQParity s t = (i : ℕ) → 2248 ≤ i → i < 2352 → get_or s i 0 ≡ get_or t i 0
