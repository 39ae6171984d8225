-- `frame_writer::lay` meets its contract: the front and the Main Data are laid in, and their EDC is copied behind them (`Making`).
-- Assumes nothing.
use mathlib.Core.Path.{◌∙◌}
use mathlib.Core.List.{List}
use Prim.Native.Nat.{ℕ}
use Rattle.frame_writer.proofs.Making.{both-laid, check_copied}
use Rattle.frame_writer.proofs.lay.Goals as goal

pub returns : goal.returns
returns c =
    let front : List ℕ = c.args.front in
    let main : List ℕ = c.args.main.now in
    let z : List ℕ = c.args.frame.now in
    let two = both-laid front main z c.requires.0 c.requires.1 c.requires.2 _ _ c.lay.ensures in
    check_copied front main z c.requires.0 c.requires.1 c.requires.2 _ _ two (c.copy_from_slice.ensures.after ∙ c.parity-check.ensures)
