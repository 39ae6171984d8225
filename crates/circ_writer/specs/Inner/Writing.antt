-- A writer's step where both lengths and all places are right.
-- Assumes nothing.
use Rattle.std.specs.Prelude.{ℕ, ◌≡◌, true, List, length}
use Rattle.rings.specs.Rings.{waits, below, onward, unrolled_all}
use Rattle.circ.specs.Chains.{writer_out, writer_next}
use Rattle.circ.specs.Codes.{q_of, p_of}
use Rattle.circ.specs.Rings.{writer_waits}

pub record WriterAsks (places frame out : List ℕ) : Type 0 where
  pub incoming : length frame ≡ 24
  pub outgoing : length out ≡ 32
  pub in_place : below (waits writer_waits) places ≡ true

pub record WriterGone (places store frame places' store' out : List ℕ) : Type 0 where
  pub places_are : places' ≡ onward (waits writer_waits) places
  pub line_is : unrolled_all writer_waits places' store' ≡ writer_next q_of p_of (unrolled_all writer_waits places store) frame
  pub out_is : out ≡ writer_out q_of p_of (unrolled_all writer_waits places store) frame
