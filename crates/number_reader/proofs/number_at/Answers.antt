-- `number_reader::number_at` meets its contract: each way out is a law of `Standing`.
-- Assumes nothing.
use Rattle.number_reader.proofs.NumberShown.{none_end, stands_1, stands_2, stands_3, none-two, none-three, none_above}
use Rattle.number_reader.proofs.number_at.Goals as goal

pub returns-then-list-at : goal.returns-then-list-at
returns-then-list-at c = search none_end

pub returns-then-a-lt128 : goal.returns-then-a-lt128
returns-then-a-lt128 c = search stands_1

pub returns-then-b-eq0 : goal.returns-then-b-eq0
returns-then-b-eq0 c = search none-two

pub returns-then-b-lt128 : goal.returns-then-b-lt128
returns-then-b-lt128 c = search stands_2

pub returns-then-c-eq0 : goal.returns-then-c-eq0
returns-then-c-eq0 c = search none-three

pub returns-then-c-gt3 : goal.returns-then-c-gt3
returns-then-c-gt3 c = search none_above

pub returns : goal.returns
returns c = search stands_3
