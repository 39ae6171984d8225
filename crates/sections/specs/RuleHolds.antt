-- Where a writer stands within a Section, after anything that was written before it: the state of the automaton that speaks for the run rule, and how
-- far the next Sync Header is.
-- Assumes nothing.
use Rattle.std.specs.Prelude.{◌≡◌, true, List, ◌++◌, ℕ, T}
use Rattle.words.specs.RunRule.{runs}
use Rattle.merging.specs.Chosen.{SoFar}
use Rattle.merging.specs.Places.{placed, Placed}
use Rattle.merging.specs.Ready.{ready}
use Rattle.merging.specs.Rule.{sync_header_bits}
use Rattle.merging.specs.Automaton.{headed, StateOf}
pub mod Word
pub mod Frame

-- a Sync Header may follow
pub record Opens (bits : List ℕ) : Type 0 where
  pub in_state : StateOf (bits ++ sync_header_bits) headed
  pub placed_then : Placed (bits ++ sync_header_bits) headed 564
  pub runs_so_far : runs bits ≡ true
  pub placed_so_far : placed 0 bits ≡ true

-- the Section that w is in begins after the bits `old`
pub record Opening (old : List ℕ) (w : SoFar) : Type 0 where
  pub own : StateOf (w.bits ++ sync_header_bits) headed
  pub all : Opens (old ++ w.bits)

-- in a frame, c bits before the next Sync Header's place
pub record Running (old : List ℕ) (w : SoFar) (s c : ℕ) : Type 0 where
  pub own : StateOf w.bits s
  pub in_state : StateOf (old ++ w.bits) s
  pub places : Placed (old ++ w.bits) s c
  pub at_ease : T (ready s)

-- in a frame, in some state
pub record Ran (old : List ℕ) (w : SoFar) (c : ℕ) : Type 0 where
  pub state : ℕ
  pub runs_on : Running old w state c
