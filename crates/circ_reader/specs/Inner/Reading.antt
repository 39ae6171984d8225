-- A reader's step where all lengths and all places are right.
-- Assumes nothing.
use Rattle.std.specs.Prelude.{ℕ, ◌≡◌, true, List, length}
use Rattle.rings.specs.Rings.{waits, below, onward, unrolled_all}
use Rattle.circ.specs.Marked.{marked_out, marked_doubt, marked_next}
use Rattle.circ.specs.Rings.{reader_waits, marked_waits, shared}

pub record ReaderAsks (places frame marks out : List ℕ) : Type 0 where
  pub frame-fits : length frame ≡ 32
  pub marks_fit : length marks ≡ 32
  pub outgoing : length out ≡ 24
  pub in_place : below (waits reader_waits) places ≡ true

-- x is the frame with its marks behind it
pub record ReaderGone (places store x places' store' : List ℕ) (mark : ℕ) (out : List ℕ) : Type 0 where
  pub places_are : places' ≡ onward (waits reader_waits) places
  pub line_is : unrolled_all marked_waits (shared places') store' ≡ marked_next (unrolled_all marked_waits (shared places) store) x
  pub mark_is : mark ≡ marked_doubt (unrolled_all marked_waits (shared places) store) x
  pub out_is : out ≡ marked_out (unrolled_all marked_waits (shared places) store) x
