-- `writer::make` meets its contract: each mode is a law of `Make`.
-- Assumes nothing.
use Rattle.writer.proofs.Making.{has_room, makes_plain, makes_mode01}
use Rattle.writer.proofs.make.Goals as goal

pub lay_out-s-requires : goal.lay_out-s-requires
lay_out-s-requires c = has_room _ _ _ c.args.user.now c.requires

pub returns-then-mode-eq1 : goal.returns-then-mode-eq1
returns-then-mode-eq1 c = makes_mode01 _ _ _ _ c.requires _ c.if-mode-eq1.true c.lay_out-s.ensures c.protect.ensures

pub returns : goal.returns
returns c = makes_plain _ _ _ _ c.requires c.if-mode-eq1.false c.lay_out-s.ensures
