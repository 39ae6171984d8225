-- Offences in a stream of whole Sections (document 02, §12; Annex E, (i) and (ii)): for each kind what it is at a bit of the stream.
-- Assumes nothing.
use Rattle.std.specs.Prelude.{Bool, cond, not, ◌&&◌, ◌||◌, List, [], ◌∷◌, ◌++◌, ℕ, ◌-◌, ◌/◌, ◌%◌, eqb, leb, ltb, drop, replicate}
use Rattle.bits.specs.Bits.{unpack}
use Rattle.words.specs.Words.{words, place_of, sync0, sync1}
use Rattle.merging.specs.Rule.{sync_header_bits, starts}
use Rattle.fields.specs.Fields.{field_at}
pub mod Stream
pub mod Runs
pub mod RunRule
pub mod Behind
pub mod Numbers

-- the stream that is judged: the bits of the Sections, as if one more Sync Header followed the last
abbrev pub judged : List ℕ → List ℕ
judged channel = unpack channel ++ sync_header_bits

-- the bits ps stand from n bits before bit p on
abbrev pub back : ℕ → List ℕ → List ℕ → ℕ → Bool
back n ps B p = leb n p && starts ps (drop (p - n) B)

-- a run: bit p is a ONE with no ZERO or one ZERO between it and the ONE before, or it is the eleventh ZERO after a ONE
unfoldable pub run_offends : List ℕ → ℕ → Bool
run_offends B p = back 1 (1 ∷ 1 ∷ []) B p || (back 2 (1 ∷ 0 ∷ 1 ∷ []) B p || back 11 (1 ∷ replicate 11 0) B p)

-- a Sync Header: none begins at bit p, and 588 divides p; or one does, and 588 does not
unfoldable pub header_offends : List ℕ → ℕ → Bool
header_offends B p = cond (eqb (p % 588) 0) (not (starts sync_header_bits (drop p B))) (starts sync_header_bits (drop p B))

-- w is a word of Annex D
unfoldable pub listed : ℕ → Bool
listed w = ltb (place_of w words) 256

-- what may stand at place i of frame f of a Section, the Control place first: SYNC 0, SYNC 1, a listed word
unfoldable pub right_word : ℕ → ℕ → ℕ → Bool
right_word f i w = cond (eqb i 0) (cond (eqb f 0) (eqb w sync0) (cond (eqb f 1) (eqb w sync1) (listed w))) (listed w)

-- a word begins at bit p: after a frame's Sync Header and three Merging bits, and every 17 bits from there on
unfoldable pub word_place : ℕ → Bool
word_place p = leb 27 (p % 588) && eqb ((p % 588 - 27) % 17) 0

-- a word: one begins at bit p, and the 14 bits there are not what may stand at their place
unfoldable pub word_offends : List ℕ → ℕ → Bool
word_offends B p = word_place p && not (right_word (p / 588 % 98) ((p % 588 - 27) / 17) (field_at B p 14))
