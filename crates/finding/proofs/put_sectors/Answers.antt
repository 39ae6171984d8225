-- `finding::put_sectors` meets its contract: the whole Sectors are laid with their pairs exchanged into zeros (`Laying`).
-- Assumes nothing.
use mathlib.Core.Path.{refl}
use Rattle.finding.proofs.Laying.{laid_out}
use Rattle.finding.proofs.put_sectors.Goals as goal

pub returns : goal.returns
returns c = (
  refl,
  laid_out c.args.frames.now c.args.out.now c.fill.new.self c.exchange_pairs.new.out c.args.f c.args.n
      c.exchange_pairs.result c.requires.0 c.requires.1 c.requires.2 c.requires.3 c.requires.4 (c.fill.ensures.after (λ y e. e))
      c.exchange_pairs.ensures,
)
