-- One run of lost frames (document 02, §8): of the F2-frames that a fresh writer makes, L in a row are lost, from frame a on, counted from 0. All bytes of these
-- are marked; all other frames come as they were written.
-- Assumes nothing.
use Rattle.std.specs.Prelude.{◌≡◌, ◌⊎◌, List, [], ℕ, ◌+◌, ◌≤◌, ◌<◌, length, get_or}
use Rattle.circ.specs.Marks.{lost_by}
use Rattle.circ_streams.specs.Streams.{MarksOf, f2_at}
use Rattle.circ_streams.specs.Calls.{MarkedFrame, marked}

-- the longest run after which every F1-frame comes back; one frame more always brings doubt
abbrev pub longest_run : ℕ
longest_run = 15

-- the 32 marks of a frame all of whose bytes are lost: each is 1 or 4
abbrev pub AllLost : List ℕ → Type 0
AllLost k = (i : ℕ) → i < 32 → lost_by (get_or k i 0) ≡ 1

-- and of one none of whose bytes is: each is 0, or another number that says nothing
abbrev pub NoByteLost : List ℕ → Type 0
NoByteLost k = (i : ℕ) → i < 32 → lost_by (get_or k i 0) ≡ 0

-- frame n was written as w; g comes in, with the marks k
pub data Comes (a L n : ℕ) (w g k : List ℕ) : Type 0 where
  -- it is one of the lost frames, and g is anything
  lost : a ≤ n → n < a + L → AllLost k → Comes a L n w g k
  -- it stands before or behind them, and is as it was written
  kept : (n < a) ⊎ (a + L ≤ n) → NoByteLost k → g ≡ w → Comes a L n w g k

-- streams: f goes into a writer, and of what it makes of it g comes into a reader, with the marks k
pub record LostRun (a L : ℕ) (f g k : ℕ → List ℕ) : Type 0 where
  pub long : (n : ℕ) → length (g n) ≡ 32
  pub marks : MarksOf k
  pub comes : (n : ℕ) → Comes a L n (f2_at f n) (g n) (k n)

-- frame n of those that come in
abbrev pub frame_at : List MarkedFrame → ℕ → MarkedFrame
frame_at came n = get_or came n (marked [] [])

-- calls: of what a writer's calls made these frames come in at a reader's calls; the run may go on behind the last of them
pub record LostInCalls (a L : ℕ) (made : List (List ℕ)) (came : List MarkedFrame) : Type 0 where
  pub no_more : length came ≤ length made
  pub comes : (n : ℕ) → n < length came → Comes a L n (get_or made n []) (frame_at came n).frame (frame_at came n).marks
