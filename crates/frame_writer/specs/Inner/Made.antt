-- A frame as the code puts it together: twelve bytes in front, the Main Data, and the EDC of both.
-- Assumes nothing.
use Rattle.std.specs.Prelude.{◌≡◌, List, ◌++◌, ℕ}
use Rattle.codeword.specs.Parity.{Parity}
use Rattle.frame_edc.specs.FrameEdc.{edc}
use Rattle.data_frame.specs.declared.Fields.{Fields}
use Rattle.data_frame.specs.DataFrame.{identification, copyright}

-- ID, IED and CPR_MAI
pub record Front (fields : Fields) (front : List ℕ) : Type 0 where
  pub code : List ℕ
  pub right : Parity 2 code (identification fields ++ code)
  pub is : front ≡ identification fields ++ (code ++ copyright fields)

pub record Made (fields : Fields) (main frame : List ℕ) : Type 0 where
  pub front : List ℕ
  pub right : Front fields front
  pub is : frame ≡ (front ++ main) ++ edc (front ++ main)
