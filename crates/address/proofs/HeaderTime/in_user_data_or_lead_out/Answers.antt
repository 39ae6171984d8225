-- `address::HeaderTime::in_user_data_or_lead_out` meets its contract: it is the test of two digits.
-- Assumes nothing.
use Rattle.address.specs.Address.{in_user_data_or_lead_out}
use Rattle.address.proofs.HeaderTime.in_user_data_or_lead_out.Goals as goal

pub returns : goal.returns
unfolding in_user_data_or_lead_out
returns c = c.two_digits.ensures
