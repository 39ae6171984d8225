-- `first_offence` meets its contract: nothing offends before the earlier of the bits that the two passes name (`none_before`).
-- Assumes nothing.
use native.Mathlib.Omega.{arith}
use Rattle.stream_judge.proofs.Passes.{none_before}
use Rattle.stream_judge.proofs.first_offence.Goals as goal

pub calm_until-calm-requires : goal.calm_until-calm-requires
calm_until-calm-requires c = c.requires

pub listed_until-listed-requires : goal.listed_until-listed-requires
listed_until-listed-requires c = c.requires

pub search_from-requires : goal.search_from-requires
search_from-requires c = (
  c.requires.0,
  c.requires.2,
  omega (arith, c.min.ensures, c.calm_until-calm.ensures.0),
  none_before c.args.channel.now _ _ _ c.calm_until-calm.ensures.1 c.listed_until-listed.ensures.1 (omega (arith, c.min.ensures)) (omega (arith, c.min.ensures)),
)

pub returns : goal.returns
returns c = c.search_from.ensures
