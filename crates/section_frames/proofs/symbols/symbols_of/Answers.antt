-- `section_frames::symbols::symbols_of` meets its contract. The invariant: the symbols before place i are found (`SymbolsFound`).
-- Assumes nothing.
use Prim.Native.Nat.{◌<◌, ◌≤◌}
use mathlib.Core.Path.{◌≡◌, refl, ◌∙◌}
use native.Mathlib.Omega.{arith}
use lib.ListN.{length, length-set}
use Rattle.section_frames.proofs.FoundSymbols.{found_more}
use Rattle.section_frames.proofs.symbols.symbols_of.Goals as goal

pub loop-i-init : goal.loop-i-init
loop-i-init c = (refl, λ i h. absurd (omega arith))

pub loop-i-preserved : goal.loop-i-preserved
loop-i-preserved c =
    let a = c.args in
    let l = c.loop-i in
    let long : length l.symbol-items ≡ 33 = l.invariant.0 in
    let h : l.i < length l.symbol-items = omega (arith, c.loop-i-test.true) in
    (length-set l.symbol-items l.i c.symbol_at.result ∙ long, found_more a.frames.now a.control.now a.f l.i l.symbol-items c.symbol_at.result l.invariant.1 h c.symbol_at.ensures)

pub returns : goal.returns
returns c =
    let l = c.loop-i in
    let upto : 33 ≤ l.i = c.loop-i-test.false in
    λ i h. l.invariant.1 i (omega arith)
