-- `rspc::place_of` meets its contract: each arm is a case of `place_of`, and those of Q are the two cases of `q_number`.
-- Assumes nothing.
use mathlib.Core.Path.{sym, ap}
use Prim.Native.Nat.{◌/◌}
use Rattle.rspc.specs.Words.{place}
use Rattle.rspc.specs.Words.Q.{q_data, q_parity}
use Rattle.rspc.proofs.place_of.Goals as goal

pub returns-then-row-lt43 : goal.returns-then-row-lt43
returns-then-row-lt43 c =
    rw c.in-Q.is (ap (place (c.args.n / 26)) (sym (q_data _ _ c.if-row-lt43.true)))

pub returns-in-P : goal.returns-in-P
returns-in-P c = rw c.in-P.is

pub returns-else-row-lt43 : goal.returns-else-row-lt43
returns-else-row-lt43 c =
    rw c.in-Q.is (ap (place (c.args.n / 26)) (sym (q_parity _ _ c.if-row-lt43.false)))
