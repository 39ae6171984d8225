-- What reading a frame answers, and what it leaves in both buffers.
-- Assumes nothing.
use Rattle.std.specs.Prelude.{◌≡◌, Bool, true, false, cond, ◌&&◌, List, ℕ, eqb, ltb, length, ⊤, Option, Some, None}
use Rattle.outcome.specs.Table.{tabulated}
use Rattle.bits.specs.Bits.{unpack}
use Rattle.words.specs.LookUp.{looked_up}
use Rattle.word_marks.specs.Marks.{byte_for, mark_for}
use Rattle.channel_frame.specs.ChannelFrame.{headless, word_read}
pub mod Asked

-- one of the 98 frames of a Section, and room for its 33 bytes and marks
abbrev pub asked : List ℕ → ℕ → List ℕ → List ℕ → Bool
asked channel f bytes marks = eqb (length channel) 7203 && (ltb f 98 && (eqb (length bytes) 33 && eqb (length marks) 33))

-- nothing is read: there is no such frame or no room, or no Sync Header stands there
unfoldable pub missed : List ℕ → ℕ → List ℕ → List ℕ → Bool
missed channel f bytes marks = cond (asked channel f bytes marks) (headless (unpack channel) f) true

-- the bytes of the 33 words of frame f, in a table of words and by a guide to it
unfoldable pub word_bytes : List ℕ → List ℕ → List ℕ → ℕ → List ℕ
word_bytes ws g bits f = tabulated (λ i. byte_for (looked_up ws g (word_read bits f i))) 0 33

-- and their marks
unfoldable pub word_marks : List ℕ → List ℕ → List ℕ → ℕ → List ℕ
word_marks ws g bits f = tabulated (λ i. mark_for (looked_up ws g (word_read bits f i)) (word_read bits f i) i) 0 33

-- the answer where nothing is read, or the frame is
abbrev pub frame_says : Bool → Option ⊤
frame_says true = None
frame_says false = Some tt

-- a frame that is read leaves its words' bytes and marks in the buffers, and one that isn't leaves them as they were
pub record FrameRead (channel ws g : List ℕ) (f : ℕ) (bytes₀ marks₀ bytes marks : List ℕ) (r : Option ⊤) : Type 0 where
  pub says : r ≡ frame_says (missed channel f bytes₀ marks₀)
  pub bytes_are : bytes ≡ cond (missed channel f bytes₀ marks₀) bytes₀ (word_bytes ws g (unpack channel) f)
  pub marks_are : marks ≡ cond (missed channel f bytes₀ marks₀) marks₀ (word_marks ws g (unpack channel) f)
