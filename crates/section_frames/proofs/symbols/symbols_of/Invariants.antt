-- `section_frames::symbols::symbols_of` meets its contract. The invariant: the symbols before place i are found (`SymbolsFound`).
-- Assumes nothing.
use mathlib.Core.Path.{◌≡◌}
use lib.ListN.{length}
use Rattle.section_frames.specs.Inner.FrameSteps.{SymbolsFound}
use Rattle.section_frames.proofs.symbols.symbols_of.Given as goal

abbrev pub invariant-loop-i : goal.invariant-loop-i
invariant-loop-i l = (length l.symbol-items ≡ 33) × SymbolsFound l.frames l.control l.f l.i l.symbol-items
