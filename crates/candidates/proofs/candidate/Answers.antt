-- `candidates::candidate` meets its contract: the laws of `Steps` follow the Sector from call to call.
-- Assumes nothing.
use mathlib.Core.Path.{◌≡◌}
use lib.ListN.{length}
use borrow.Author.Rules.{rules}
use Rattle.candidates.proofs.Steps.{other_length, found_for_lem}
use Rattle.candidates.proofs.candidate.Goals as goal

pub returns-then-received-ne2352 : goal.returns-then-received-ne2352
returns-then-received-ne2352 c = other_length _ _ c.if-received-ne2352.true

pub returns : goal.returns
returns c =
    let room : length c.args.s.now ≡ 2352 = search rules in
    found_for_lem _ c.args.s.now _ _ _ _ _ _ c.if-received-ne2352.false room c.copy.ensures c.p_pass-near.ensures
    c.freshen.ensures
