-- What the two parities of a Sector have in common (Annex A): codewords of one length, each of whose bytes has a place of its own.
-- Assumes nothing.
use Rattle.std.specs.Prelude.{List, ℕ}
use Rattle.rspc.specs.declared.Parity.{Parity}
use Rattle.rspc.specs.declared.Parity.TheVariants.{P, Q}
use Rattle.rspc.specs.Words.{p_words, q_words, p_place, q_place, p_word, q_word}
pub mod Where

-- how many codewords there are, and of how many bytes
abbrev pub words_of : Parity → ℕ
words_of P = p_words
words_of Q = q_words

abbrev pub rows_of : Parity → ℕ
rows_of P = 26
rows_of Q = 45

-- codeword n of a Sector, and where its byte m stands
abbrev pub word_of : Parity → List ℕ → ℕ → List ℕ
word_of P s n = p_word s n
word_of Q s n = q_word s n

abbrev pub place_of : Parity → ℕ → ℕ → ℕ
place_of P n m = p_place n m
place_of Q n m = q_place n m

-- the codewords run over the bytes from 12 on, up to this one: those of P leave the Q parity out
abbrev pub end_of : Parity → ℕ
end_of P = 2248
end_of Q = 2352
