-- `number_groups::put_number` meets its contract: each way out is a law of `Putting`.
-- Assumes nothing.
use Rattle.number_groups.proofs.Putting.{put_short, put_full, room_2, room_3, put_1, put_2, put_3}
use Rattle.number_groups.proofs.put_number.Goals as goal

pub returns-then-list-lt3 : goal.returns-then-list-lt3
returns-then-list-lt3 c = search put_short

pub returns-then-list-used : goal.returns-then-list-used
returns-then-list-used c = search put_full

pub returns-then-n-lt128 : goal.returns-then-n-lt128
returns-then-n-lt128 c = search put_1

pub bounds-list-used-then-n-lt16384 : goal.bounds-list-used-then-n-lt16384
bounds-list-used-then-n-lt16384 c = search room_2

pub returns-then-n-lt16384 : goal.returns-then-n-lt16384
returns-then-n-lt16384 c = search put_2

pub bounds-list-used-3 : goal.bounds-list-used-3
bounds-list-used-3 c = search room_2

pub bounds-list-used-4 : goal.bounds-list-used-4
bounds-list-used-4 c = search room_3

pub returns : goal.returns
returns c = search put_3
