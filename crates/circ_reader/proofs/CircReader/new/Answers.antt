-- `CircReader::new` meets its contract: as many zeros as bytes wait (`reader_holds_lem`).
-- Assumes nothing.
use Prim.Native.Nat.{ℕ}
use mathlib.Core.Path.{refl, sym, ap}
use Rattle.lines.specs.Delay.{zeros}
use Rattle.circ.proofs.Rings.Known.{reader_holds_lem}
use Rattle.circ_reader.proofs.CircReader.new.Goals as goal

pub returns : goal.returns
returns c = (ap (λ (n : ℕ). zeros n) (sym reader_holds_lem), refl)
