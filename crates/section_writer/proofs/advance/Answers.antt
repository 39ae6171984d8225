-- `section_writer::advance` meets its contract: the counts are small, so that the DSV is their difference (`dsv-small`).
-- Assumes nothing.
use mathlib.Core.Path.{◌≡◌, ap, ◌∙◌}
use Prim.Native.Nat.{◌+◌, ◌<◌, ◌^◌}
use native.Mathlib.Omega.{arith}
use lib.IntN.{ℤ, sub_ℕ}
use mir.Syntax.{w64}
use mir.Val.{to_z, of_z}
use mir.ValLaws.{to_z-of_z}
use Rattle.section_state.proofs.Signs.{sub-fits, then_fits}
use Rattle.section_state.specs.Carried.{level_then}
use Rattle.section_state.specs.Tallies.Range.{dsv-small}
use Rattle.section_writer.proofs.advance.Goals as goal

pub returns : goal.returns
returns c =
    let t = c.args.t in
    let p : t.plus < 2 ^ 60 = omega (arith, c.requires.0.plus_low) in
    let m : t.minus < 2 ^ 60 = omega (arith, c.requires.0.minus_low) in
    let dsv : c.dsv_after.result ≡ sub_ℕ t.plus t.minus = c.dsv_after.ensures ∙ dsv-small t.plus t.minus p m in
    λ i.
    record {
      dsv = (ap (λ (x : ℤ). to_z w64 (of_z w64 x)) dsv ∙ to_z-of_z w64 (sub_ℕ t.plus t.minus) (sub-fits t.plus t.minus p m)) i;
      level = (ap (λ (x : ℤ). to_z w64 (of_z w64 x)) c.level_after.ensures ∙ to_z-of_z w64 (level_then t.level) (then_fits t.level)) i;
      sections = c.args.sections + 1;
    }
