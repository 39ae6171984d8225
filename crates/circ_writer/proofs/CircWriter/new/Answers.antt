-- `CircWriter::new` meets its contract: as many zeros as bytes wait (`writer_holds_lem`).
-- Assumes nothing.
use Prim.Native.Nat.{ℕ}
use mathlib.Core.Path.{refl, sym, ap}
use Rattle.lines.specs.Delay.{zeros}
use Rattle.circ.proofs.Rings.Known.{writer_holds_lem}
use Rattle.circ_writer.proofs.CircWriter.new.Goals as goal

pub returns : goal.returns
returns c = (ap (λ (n : ℕ). zeros n) (sym writer_holds_lem), refl)
