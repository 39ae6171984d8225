-- `salvage_passes::is_correct` meets its contract: judging passes with mode 01 exactly the correct Sectors of Mode 01.
-- Assumes nothing.
use Rattle.salvage_passes.proofs.Trials.{on_fault, on_passed}
use Rattle.salvage_passes.proofs.is_correct.Goals as goal

pub returns-in_default : goal.returns-in_default
returns-in_default c = on_fault _ c.judge.result c.in_default.not-Ok c.judge.ensures

pub returns : goal.returns
returns c =
    on_passed _ c.judge.result _ (λ i. (c.shared_slice_known-1.given i).fits) c.in-Ok.is c.judge.ensures
