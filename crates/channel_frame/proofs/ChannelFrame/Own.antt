-- The bytes of a frame and their marks depend on its own 588 bits, and on no other frame's.
-- Assumes nothing.
use Rattle.std.specs.Prelude.{◌≡◌, List, [], ◌∷◌, ℕ, zero, suc, ◌+◌, ◌*◌, ◌≤◌, ◌<◌, take, drop}
use Rattle.std.proofs.Common.{sym, ap, ◌∙◌, arith, drop-drop, take-take}
use Rattle.std.proofs.Math.Seq.{take-nil}
use Rattle.bits.specs.Bits.{number}
use Rattle.fields.specs.Fields.{field_at}
use Rattle.channel_frame.specs.ChannelFrame.{frame_bits, word_read, frame_byte, frame_mark}
use Rattle.channel_frame.proofs.ChannelFrame.Merging.{byte_by_words, mark_by_words}

-- a field that lies within the first m bits
within : (k n m : ℕ) (l : List ℕ) → k + n ≤ m → take n (drop k (take m l)) ≡ take n (drop k l)
within zero n m l h = take-take n m l (omega arith)
within (suc k) n m [] h = ap (λ (t : List ℕ). take n (drop (suc k) t)) (take-nil m)
within (suc k) n zero (x ∷ l) h = absurd (omega arith)
within (suc k) n (suc m) (x ∷ l) h = within k n m l (omega arith)

-- a field of frame f is one of the frame's own bits
own_field : (bits : List ℕ) (f k n : ℕ) → k + n ≤ 588 → field_at bits (588 * f + k) n ≡ field_at (frame_bits bits f) k n
own_field bits f k n h =
    ap (λ (l : List ℕ). number 0 (take n l)) (sym (drop-drop k (588 * f) bits)) ∙ ap (number 0) (sym (within k n 588 (drop (588 * f) bits) h))

-- two Sections' bits that are the same in frame f
module _ (a b : List ℕ) (f : ℕ) (same : frame_bits a f ≡ frame_bits b f) where
  same_field : (k n : ℕ) → k + n ≤ 588 → field_at a (588 * f + k) n ≡ field_at b (588 * f + k) n
  same_field k n h = own_field a f k n h ∙ ap (λ (l : List ℕ). field_at l k n) same ∙ sym (own_field b f k n h)

  same_header : field_at a (588 * f) 24 ≡ field_at b (588 * f) 24
  same_header =
      let e : 588 * f + 0 ≡ 588 * f = omega arith in
      ap (λ (p : ℕ). field_at a p 24) (sym e) ∙ same_field 0 24 (omega arith) ∙ ap (λ (p : ℕ). field_at b p 24) e

  same_word : (i : ℕ) → i < 33 → word_read a f i ≡ word_read b f i
  same_word i h =
      let e : 588 * f + (27 + 17 * i) ≡ 588 * f + 27 + 17 * i = omega arith in
      ap (λ (p : ℕ). field_at a p 14) (sym e) ∙ same_field (27 + 17 * i) 14 (omega arith) ∙ ap (λ (p : ℕ). field_at b p 14) e

  -- they are read to the same byte at each place of frame f, whatever stands in all other frames
  pub same_byte : (i : ℕ) → i < 33 → frame_byte a f i ≡ frame_byte b f i
  same_byte = byte_by_words a b f same_header same_word

  -- and to the same mark
  pub same-mark : (i : ℕ) → i < 33 → frame_mark a f i ≡ frame_mark b f i
  same-mark = mark_by_words a b f same_header same_word
