-- The refusal of a frame by its number.
-- Assumes nothing.
use Rattle.std.specs.Prelude.{cond, [], ℕ, eqb}
use Rattle.outcome.specs.Say.{Say, refused}

abbrev pub refusal_of : ℕ → Say
refusal_of n = cond (eqb n 28) (refused 28 []) (cond (eqb n 29) (refused 29 []) (refused 30 []))
