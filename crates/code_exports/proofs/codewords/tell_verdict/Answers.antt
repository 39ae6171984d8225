-- `codewords::tell_verdict` meets its contract: each arm is a case of `say_of`, told.
-- Assumes nothing.
use mathlib.Core.Path.{sym, ap, ap₂, ◌∙◌}
use mathlib.Core.List.{◌∷◌}
use Rattle.code_exports.specs.Verdicts.{told_of}
use Rattle.code_exports.proofs.codewords.tell_verdict.Goals as goal

pub returns-in-Clean : goal.returns-in-Clean
returns-in-Clean c =
    let two = c.tell.ensures in
    ap₂ ◌∷◌ two.0 two.1 ∙ ap told_of (sym c.in-Clean.is)

pub returns-in-Change : goal.returns-in-Change
returns-in-Change c =
    let two = c.tell-in-Change.ensures in
    ap₂ ◌∷◌ two.0 two.1 ∙ ap told_of (sym c.in-Change.is)

pub returns-in-Lost : goal.returns-in-Lost
returns-in-Lost c =
    let two = c.tell-in-Lost.ensures in
    ap₂ ◌∷◌ two.0 two.1 ∙ ap told_of (sym c.in-Lost.is)
