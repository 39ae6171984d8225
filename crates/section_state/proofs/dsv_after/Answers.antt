-- `section_state::dsv_after` meets its contract: counts that are small have their difference (`sub-fits`).
-- Assumes nothing.
use mathlib.Core.Path.{sym, ap, ◌∙◌}
use Prim.Native.Nat.{◌<◌, ◌^◌}
use lib.IntN.{ℤ}
use mir.Syntax.{w64}
use mir.Val.{to_z, of_z}
use mir.ValLaws.{to_z-of_z}
use Rattle.section_state.specs.Tallies.Range.{dsv-small}
use Rattle.section_state.proofs.Signs.{sub-fits}
use Rattle.section_state.proofs.dsv_after.Goals as goal

pub returns-then-t-lt-COUNT_LIMIT-2 : goal.returns-then-t-lt-COUNT_LIMIT-2
returns-then-t-lt-COUNT_LIMIT-2 c =
    let t = c.args.t in
    let p : t.plus < 2 ^ 60 = c.if-t-lt-COUNT_LIMIT.true in
    let m : t.minus < 2 ^ 60 = c.if-t-lt-COUNT_LIMIT-2.true in
    ap (λ (x : ℤ). to_z w64 (of_z w64 x)) c.dsv_of.ensures ∙ to_z-of_z w64 _ (sub-fits t.plus t.minus p m) ∙ sym (dsv-small t.plus t.minus p m)
