-- The mode of what is written.
-- Assumes nothing.
use Rattle.std.specs.Prelude.{◌≡◌, true, List, [], ℕ, eqb, length}
use Rattle.outcome.specs.Say.{done}
use Rattle.address.specs.declared.HeaderTime.{HeaderTime}
use Rattle.judge.specs.Judging.Demanded.{demanded}
use Rattle.modes.specs.Modes.{is_written}
use Rattle.writer.specs.Write.{says}

-- where the writer is done, the mode is one of them
pub done_written : (mode : ℕ) (time : HeaderTime) (user old : List ℕ) → says mode time user old ≡ done [] → is_written mode ≡ true
done_written mode time user old e = (demanded (is_written mode) 3 _ (demanded (eqb (length old) 2352) 2 _ e).1).0
