-- A frame of a Section for which there is room, in the table of Annex D: it is read where its Sync Header stands, to the bytes and marks of its words.
-- Assumes nothing.
use Rattle.std.specs.Prelude.{◌≡◌, List, ℕ, ◌<◌, length, Option}
use Rattle.std.proofs.Math.Path.{ap}
use Rattle.std.proofs.Common.{◌∙◌, eq-eqb, lt-ltb}
use Rattle.outcome.specs.Table.{tabulated}
use Rattle.outcome.specs.Table.Entries.{tabulated-same}
use Rattle.bits.specs.Bits.{unpack}
use Rattle.words.specs.Words.{words, byte_of}
use Rattle.words.specs.LookUp.{Guide, looked_up}
use Rattle.words.specs.LookUp.Finds.{looked_up_lem}
use Rattle.word_marks.specs.Marks.{byte_for, mark_for}
use Rattle.channel_frame.specs.ChannelFrame.{headless, word_read, word_byte, word_mark}
use Rattle.channel_frame.specs.FrameRead.{missed, word_bytes, word_marks}

-- it is missed where it has no Sync Header
pub missed-headless : (channel : List ℕ) (f : ℕ) (bytes marks : List ℕ) → length channel ≡ 7203 → f < 98 → length bytes ≡ 33 → length marks ≡ 33
    → missed channel f bytes marks ≡ headless (unpack channel) f
unfolding missed
missed-headless channel f bytes marks l h p q =
    rw (eq-eqb (length channel) 7203 l, lt-ltb f 98 h, eq-eqb (length bytes) 33 p, eq-eqb (length marks) 33 q)

module _ (ws g : List ℕ) (is : ws ≡ words) (guide : Guide g) where
  found : (w : ℕ) → looked_up ws g w ≡ byte_of w
  found w = ap (λ (t : List ℕ). looked_up t g w) is ∙ looked_up_lem g guide w

  module _ (bits : List ℕ) (f : ℕ) where
    -- the bytes
    pub bytes_of_words_lem : word_bytes ws g bits f ≡ tabulated (word_byte bits f) 0 33
    unfolding word_bytes
    bytes_of_words_lem = tabulated-same (λ i. byte_for (looked_up ws g (word_read bits f i))) (word_byte bits f) 33 (λ i _. ap byte_for (found (word_read bits f i)))

    -- and the marks
    pub marks_of_words_lem : word_marks ws g bits f ≡ tabulated (word_mark bits f) 0 33
    unfolding word_marks
    marks_of_words_lem =
        tabulated-same (λ i. mark_for (looked_up ws g (word_read bits f i)) (word_read bits f i) i) (word_mark bits f) 33
        (λ i _. ap (λ (s : Option ℕ). mark_for s (word_read bits f i) i) (found (word_read bits f i)))
