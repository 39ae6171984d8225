-- Frame after frame: each fills its part of both buffers.
-- Assumes nothing.
use mathlib.Core.Path.{◌≡◌, sym, ◌∙◌, subst}
use mathlib.Core.List.{List, ◌++◌}
use Prim.Native.Nat.{ℕ, ◌+◌, ◌-◌, ◌*◌, ◌≤◌, ◌<◌}
use native.Mathlib.Omega.{arith}
use borrow.Rule.Slice.PartMut.{mid_of, put_mid, mid_len}
use lib.ListN.{length, take, drop}
use Rattle.outcome.specs.Buffer.{Filling}
use Rattle.outcome.specs.Buffer.Filled.{filling-none, filling-part, filling_long, filling_all}
use Rattle.outcome.specs.Buffer.Part.{part-back}
use Rattle.bits.specs.Bits.{unpack}
use Rattle.section_reader.specs.Reading.{bytes_read, marks_read}
use Rattle.section_reader.specs.Reading.Places.{long_bytes, long_marks, bytes_of_frame, marks_of_frame}
use Rattle.section_reader.specs.Inner.{FrameTaken}

-- f frames of both buffers, which held b and m, are read
pub record FramesRead (channel b m : List ℕ) (f : ℕ) (bytes marks : List ℕ) : Type 0 where
  pub upto : f ≤ 98
  pub of_bytes : Filling b (bytes_read (unpack channel)) (33 * f) bytes
  pub of_marks : Filling m (marks_read (unpack channel)) (33 * f) marks

pub frames_none : (channel b m : List ℕ) → length b ≡ 3234 → length m ≡ 3234 → FramesRead channel b m 0 b m
frames_none channel b m p q =
    record {
      upto = omega arith;
      of_bytes = filling-none b (bytes_read (unpack channel)) (p ∙ sym (long_bytes (unpack channel)));
      of_marks = filling-none m (marks_read (unpack channel)) (q ∙ sym (long_marks (unpack channel)));
    }

-- the places of frame f in a buffer as they are lent, and the buffer when they are back
abbrev lent : ℕ → List ℕ → List ℕ
lent f out = mid_of (33 * f) (33 * f + 33 - 33 * f) out

abbrev back : ℕ → List ℕ → List ℕ → List ℕ
back f out part = put_mid (33 * f) (33 * f + 33 - 33 * f) out part

-- a buffer into which one frame more has come
part_more : (d s out part : List ℕ) (f : ℕ) → Filling d s (33 * f) out → 33 * f + 33 ≤ length s → part ≡ take 33 (drop (33 * f) s)
    → Filling d s (33 * (f + 1)) (back f out part)
part_more d s out part f g h e =
    let next : 33 * f + 33 ≡ 33 * (f + 1) = omega arith in
    rw (part-back (33 * f) (33 * f + 33) out part (omega arith))
    (subst (λ (n : ℕ). Filling d s n (take (33 * f) out ++ (part ++ drop (33 * f + 33) out))) next (filling-part g 33 part h e))

module _ {channel b m : List ℕ} {f : ℕ} {bytes marks : List ℕ} (g : FramesRead channel b m f bytes marks) where
  pub frames_long : (length bytes ≡ 3234) × (length marks ≡ 3234)
  frames_long = (
    filling_long g.of_bytes ∙ g.of_bytes.fits ∙ long_bytes (unpack channel),
    filling_long g.of_marks ∙ g.of_marks.fits ∙ long_marks (unpack channel),
  )

  -- there is room for one frame more
  pub frames_room : f < 98 → (length (lent f bytes) ≡ 33) × (length (lent f marks) ≡ 33)
  frames_room h =
      let l = frames_long in (
        mid_len (33 * f) (33 * f + 33) bytes (omega arith) ∙ omega arith,
        mid_len (33 * f) (33 * f + 33) marks (omega arith) ∙ omega arith,
      )

  pub frames_all : 98 ≤ f → (bytes ≡ bytes_read (unpack channel)) × (marks ≡ marks_read (unpack channel))
  frames_all h = (
    filling_all g.of_bytes (omega (arith, long_bytes (unpack channel))),
    filling_all g.of_marks (omega (arith, long_marks (unpack channel))),
  )

  module _ (h : f < 98) where
    -- both buffers with what frame f gives in its places
    pub frames_more : (x y : List ℕ) → FrameTaken channel f x y → FramesRead channel b m (f + 1) (back f bytes x) (back f marks y)
    frames_more x y t =
        record {
          upto = omega arith;
          of_bytes = part_more b (bytes_read (unpack channel)) bytes x f g.of_bytes (omega (arith, long_bytes (unpack channel))) (t.bytes_are ∙ bytes_of_frame (unpack channel) f h);
          of_marks = part_more m (marks_read (unpack channel)) marks y f g.of_marks (omega (arith, long_marks (unpack channel))) (t.marks_are ∙ marks_of_frame (unpack channel) f h);
        }
