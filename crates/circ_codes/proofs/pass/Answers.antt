-- `circ_codes::pass` meets its contract: the treated word's front, and its mark behind it (`passes`).
-- Assumes nothing.
use mathlib.Core.Path.{ap, ◌∙◌}
use mathlib.Core.List.{List, ◌++◌}
use Prim.Native.Nat.{ℕ}
use Rattle.std.proofs.lemmas.List.{drop-replicate}
use Rattle.circ_codes.proofs.Passing.{passes}
use Rattle.circ_codes.proofs.pass.Goals as goal

pub returns : goal.returns
returns g c =
    ap (λ (behind : List ℕ). c.copy_from_slice-2.new.self ++ behind) (drop-replicate 28 g.row.OUT c.treat-mark.result)
    ∙ passes c.args.most g.row.N g.row.OUT c.args.rows.now c.copy_from_slice.new.self c.treat-mark.new.word c.copy_from_slice-2.new.self c.treat-mark.result
    c.requires.few c.requires.word.1 c.requires.long c.copy_from_slice.ensures.after c.treat-mark.ensures c.copy_from_slice-2.ensures.after
