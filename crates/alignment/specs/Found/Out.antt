-- The Sectors come out byte for byte, as many as are whole, with zeros behind.
-- Assumes nothing.
use Rattle.std.specs.Prelude.{◌≡◌, List, ℕ, ◌+◌, ◌-◌, ◌*◌, ◌/◌, ◌%◌, ◌≤◌, ◌<◌, length, take, drop}
use Rattle.std.proofs.Common.{sym, ◌∙◌, arith, length-drop, length-take-le}
use Rattle.std.proofs.Math.Path.{ap}
use Rattle.std.proofs.Math.ListN.{get_or, length-append, get_or-append}
use Rattle.std.proofs.Math.Seq.{get_or-take, get_or-drop, get_or-append-add}
use Rattle.outcome.specs.Table.Entries.{tabulated-at}
use Rattle.sector.specs.Layout.{zeros}
use Rattle.sector.specs.Layout.Zeros.{length-zeros}
use Rattle.f1_frames.specs.Frames.{byte_in, bytes_of}
use Rattle.alignment.specs.Aligned.Placed.{zero-at}
use Rattle.alignment.specs.Found.{room, bytes_in, whole_from, sectors_from}
use Rattle.alignment.specs.Found.WaysOut.{room_is}
use Rattle.alignment.specs.Found.First.{length_bytes}

module _ (p : ℕ) (frames : List ℕ) (whole : length frames % 24 ≡ 0) (few : length frames / 24 ≤ 2730) (inside : p ≤ length frames) where
  -- so many are whole, and not one more
  pub all_whole : p + 2352 * whole_from p frames ≤ length frames
  all_whole = omega arith

  pub none_more : length frames < p + 2352 * (whole_from p frames + 1)
  none_more = omega arith

  pub at_most_27 : whole_from p frames ≤ 27
  at_most_27 = omega arith

  length_sectors : length (take (2352 * whole_from p frames) (drop p (bytes_in frames))) ≡ 2352 * whole_from p frames
  length_sectors = length-take-le (2352 * whole_from p frames) (drop p (bytes_in frames)) (omega (arith, length-drop p (bytes_in frames), length_bytes frames))

  pub length_out : length (sectors_from p frames) ≡ room
  unfolding sectors_from
  length_out =
      length-append (take (2352 * whole_from p frames) (drop p (bytes_in frames))) (zeros (room - 2352 * whole_from p frames))
      ∙ omega (arith, length_sectors, length-zeros (room - 2352 * whole_from p frames), room_is, at_most_27)

  -- byte j handed out is the byte that is placed j bytes after p in the frames
  pub byte_out : (j : ℕ) → j < 2352 * whole_from p frames → get_or (sectors_from p frames) j 0 ≡ byte_in frames (p + j)
  unfolding sectors_from bytes_in bytes_of
  byte_out j h =
      get_or-append (take (2352 * whole_from p frames) (drop p (bytes_in frames))) (zeros (room - 2352 * whole_from p frames)) 0 j (omega (arith, length_sectors))
      ∙ get_or-take (2352 * whole_from p frames) (drop p (bytes_in frames)) j 0 h
      ∙ get_or-drop p (bytes_in frames) j 0
      ∙ tabulated-at (byte_in frames) (24 * (length frames / 24)) (p + j) (omega arith)

  -- and behind the Sectors all is zero
  pub zero_out : (j : ℕ) → j < room - 2352 * whole_from p frames → get_or (sectors_from p frames) (2352 * whole_from p frames + j) 0 ≡ 0
  unfolding sectors_from
  zero_out j h =
      ap (λ (a : ℕ). get_or (sectors_from p frames) (a + j) 0) (sym length_sectors)
      ∙ get_or-append-add (take (2352 * whole_from p frames) (drop p (bytes_in frames))) (zeros (room - 2352 * whole_from p frames)) j 0
      ∙ zero-at (room - 2352 * whole_from p frames) j h
