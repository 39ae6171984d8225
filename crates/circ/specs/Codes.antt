-- The two codes of CIRC (Annex C.7): C2 and C1 are codewords of four sums; reading hands on the codeword near a word, if there is one, or the one that
-- agrees with it on the bytes that are not marked as lost (document 02, §7).
-- Assumes nothing.
use Rattle.std.specs.Prelude.{List, [], ◌++◌, map, cond, ℕ, ◌%◌, eqb, leb, take, drop}
use Rattle.std.proofs.Math.Option.{Option, none, some}
use Rattle.codeword.specs.Code.{weight}
use Rattle.codeword.specs.Nearest.{nearest, found_or}
use Rattle.codeword.specs.Parity.{Parity}
use Rattle.codeword.specs.Parity.Exists.{four_exist}
use Rattle.agreeing.specs.Agreeing.{agreeing}
use Rattle.circ.specs.Codes.Modulo.{bytes_modulo}
pub mod Modulo
pub mod Parities
pub mod Corrected

-- each element as a byte: a list of bytes as it is
unfoldable as_bytes : List ℕ → List ℕ
as_bytes w = map (λ x. x % 256) w

-- the parity between a and b: the four bytes that make a codeword there. There is one choice of them (`parity_one`).
parity : (a b : List ℕ) → (p : List ℕ) × Parity 4 p (as_bytes a ++ (p ++ as_bytes b))
unfolding as_bytes
parity a b = four_exist (as_bytes a) (as_bytes b) (bytes_modulo a) (bytes_modulo b)

-- these four bytes
pub parity_between : List ℕ → List ℕ → List ℕ
parity_between a b = (parity a b).0

-- the Q bytes of a C2 word, rows 12 to 15 of its 28
unfoldable pub q_of : List ℕ → List ℕ
q_of w = parity_between (take 12 w) (drop 16 w)

-- the P bytes of a C1 word, behind its 28 other rows
unfoldable pub p_of : List ℕ → List ℕ
p_of w = parity_between w []

-- ---- reading, without marks: the codeword near a word

-- the mark of a word for which no codeword is found
abbrev pub mark_of : Option (List ℕ) → ℕ
mark_of (some c) = 0
mark_of none = 1

-- what the code hands on for a word, and the word's mark: 1 where none is near
unfoldable pub corrected : List ℕ → List ℕ
corrected w = found_or w (nearest 4 w)

unfoldable pub word_mark : List ℕ → ℕ
word_mark w = mark_of (nearest 4 w)

-- ---- reading, with marks: m has a mark for each byte of w, and one that is not 0 says that the byte is lost

-- the codeword that is found: without marks the one near the word; with at most `most` marks the one that agrees with it on every unmarked byte; with more none
unfoldable pub found_for : ℕ → List ℕ → List ℕ → Option (List ℕ)
found_for most m w = cond (eqb (weight m) 0) (nearest 4 w) (cond (leb (weight m) most) (agreeing m w) none)

-- what is handed on: that codeword, or the word as it came; and the mark of a word that goes on as it came
unfoldable pub treated : ℕ → List ℕ → List ℕ → List ℕ
treated most m w = found_or w (found_for most m w)

unfoldable pub doubted : ℕ → List ℕ → List ℕ → ℕ
doubted most m w = mark_of (found_for most m w)
