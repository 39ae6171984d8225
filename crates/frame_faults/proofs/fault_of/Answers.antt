-- `frame_faults::fault_of` meets its contract: what reading answers tells the fault (`read_refused`, `read_done`).
-- Assumes nothing.
use Prim.Native.Nat.{ℕ}
use lib.ListN.{length-replicate}
use Rattle.frame_faults.proofs.Looking.{read_refused, read_done, handed_on}
use Rattle.frame_faults.proofs.fault_of.Goals as goal

pub returns-in_err-read_frame : goal.returns-in_err-read_frame
returns-in_err-read_frame c =
    handed_on c.from_residual.result _ _ c.from_residual.ensures.1
    (read_refused c.args.frame.now _ _ c.requires (length-replicate {A = ℕ} 2048 0) _ c.in_err-read_frame.ensures)

pub returns : goal.returns
returns c =
    read_done c.args.frame.now _ _ c.requires (length-replicate {A = ℕ} 2048 0) _ c.in_ok-read_frame.ensures
