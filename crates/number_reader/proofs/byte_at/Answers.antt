-- `number_reader::byte_at` meets its contract: each way out is a law of `Standing`.
-- Assumes nothing.
use Rattle.number_reader.proofs.NumberShown.{byte_behind, byte_there}
use Rattle.number_reader.proofs.byte_at.Goals as goal

pub returns-then-list-i : goal.returns-then-list-i
returns-then-list-i c = search byte_behind

pub returns : goal.returns
returns c = search byte_there
