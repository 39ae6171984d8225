-- `frame_edc::parity` meets its contract: the register after four bytes 0 more holds the EDC, and its digits are the bytes (`edc-digits`).
-- Assumes nothing.
use mathlib.Core.Path.{◌∙◌}
use native.Mathlib.Omega.{arith}
use Rattle.frame_edc.proofs.Passed.{taken_more}
use Rattle.frame_edc.proofs.Digits.{digits-given, edc-digits}
use Rattle.frame_edc.proofs.parity.Goals as goal

pub returns : goal.returns
returns c =
    c.to_be_bytes.ensures ∙ digits-given c.take_byte.result (omega arith)
    ∙ edc-digits _ c.take_byte.result (omega arith)
    (c.take_byte.ensures
    ∙ taken_more _ _ 0
    (c.take_byte-three.ensures ∙ taken_more _ _ 0 (c.take_byte-two.ensures ∙ taken_more _ _ 0 (c.take_byte-one.ensures ∙ taken_more _ _ 0 c.divide.ensures))))
