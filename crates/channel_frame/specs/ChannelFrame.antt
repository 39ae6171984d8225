-- Reading a Channel Frame (document 01, "Channel bits"; document 02, §6): Merging bits are ignored; a frame gives 33 bytes and 33 marks, the Control
-- byte first. One that does not begin with the Sync Header gives zeros with mark 4.
-- Assumes nothing.
use Rattle.std.specs.Prelude.{Bool, cond, not, List, ℕ, ◌+◌, ◌*◌, eqb, take, drop}
use Rattle.words.specs.Words.{byte_of, sync_header}
use Rattle.fields.specs.Fields.{field_at}
use Rattle.word_marks.specs.Marks.{byte_for, mark_for}
pub mod Lost
pub mod HeaderThere

-- the 588 bits of frame f
abbrev pub frame_bits : List ℕ → ℕ → List ℕ
frame_bits bits f = take 588 (drop (588 * f) bits)

-- frame f does not begin with the Sync Header
abbrev pub headless : List ℕ → ℕ → Bool
headless bits f = not (eqb (field_at bits (588 * f) 24) sync_header)

-- the word at place i of frame f: the Sync Header has 24 bits, and each word stands after three Merging bits
abbrev pub word_read : List ℕ → ℕ → ℕ → ℕ
word_read bits f i = field_at bits (588 * f + 27 + 17 * i) 14

-- the byte of the word at place i of frame f
abbrev pub word_byte : List ℕ → ℕ → ℕ → ℕ
word_byte bits f i = byte_for (byte_of (word_read bits f i))

-- and its mark
abbrev pub word_mark : List ℕ → ℕ → ℕ → ℕ
word_mark bits f i = mark_for (byte_of (word_read bits f i)) (word_read bits f i) i

-- the byte that is read at place i of frame f: that of its word, or 0 where the frame has no Sync Header
abbrev pub frame_byte : List ℕ → ℕ → ℕ → ℕ
frame_byte bits f i = cond (headless bits f) 0 (word_byte bits f i)

-- and the mark: that of the word, or 4
abbrev pub frame_mark : List ℕ → ℕ → ℕ → ℕ
frame_mark bits f i = cond (headless bits f) 4 (word_mark bits f i)
